-- States that hold the same policy give the same rights, policy words, `$` and subjects: the order of the isa lines decides nothing. Assumes nothing.
use Prim.Native.Nat.{ℕ, zero, suc}
use mathlib.Core.Path.{◌≡◌, refl, ap, sym, ◌∙◌, fun_ext}
use mathlib.Core.Bool.{Bool, true, false, ◌&&◌, ◌||◌, false≢true}
use mathlib.Core.List.{List, [], ◌∷◌, map}
use lib.Dec.{eqb}
use lib.ListN.{length, get_or}
use borrow.Author.Tests.{eq-eqb, eqb-true}
use Rattle.rights.specs.Labels.{same_label}
use Rattle.rights.specs.Policy.{Policy, Rule, some, uses, policy_word}
use Rattle.rights.specs.Isa.{is_by, is, stands_for, subjects_where, passes_own}
use Rattle.rights.specs.Rights.{decide, rights_by, chains, rights_on}
use Rattle.rights.proofs.BoolLaws.{both_ways, or_left}
use Rattle.rights.proofs.TableLaws.{both}
use Rattle.rights.proofs.ListLaws.{by_case}
use Rattle.rights.proofs.XPathLists.{or_right}
use Rattle.lines.specs.PolicyEdit.{is_line, isa_held, subject_from, subject_named}
use Rattle.guarantee.specs.Alike.{SamePolicy}

-- an isa line that passes a test, and what it gives in a list that holds it
record Found (g : ℕ × ℕ → Bool) (ps : List (ℕ × ℕ)) : Type 0 where
  line : ℕ × ℕ
  passes : g line ≡ true
  held : some (is_line line.0 line.1) ps ≡ true

found : (g : ℕ × ℕ → Bool) (ps : List (ℕ × ℕ)) → some g ps ≡ true → Found g ps
unfolding some
found g [] e = absurd (false≢true e)
found g (p ∷ ps) e = by_case (g p)
    (λ q. record { line = p; passes = q; held = or_left (is_line p.0 p.1 p) (some (is_line p.0 p.1) ps) (rw (eq-eqb p.0 p.0 refl, eq-eqb p.1 p.1 refl)) })
    (λ q. let f : some g ps ≡ true = rw q at e in let h = found g ps f in
    record { line = h.line; passes = h.passes; held = or_right (is_line h.line.0 h.line.1 p) _ h.held })

give : (g : ℕ × ℕ → Bool) (ps : List (ℕ × ℕ)) (n r : ℕ) → some (is_line n r) ps ≡ true → g (n, r) ≡ true → some g ps ≡ true
unfolding some
give g [] n r e h = absurd (false≢true e)
give g (p ∷ ps) n r e h = by_case (is_line n r p)
    (λ q. let w = both (eqb p.0 n) (eqb p.1 r) q in
    let a : p.0 ≡ n = eqb-true p.0 n w.0 in
    let b : p.1 ≡ r = eqb-true p.1 r w.1 in
    or_left (g p) _ (ap g (λ i. (a i, b i)) ∙ h))
    (λ q. let f : some (is_line n r) ps ≡ true = rw q at e in or_right (g p) _ (give g ps n r f h))

module _ (ps qs : List (ℕ × ℕ)) (same : (n r : ℕ) → some (is_line n r) ps ≡ some (is_line n r) qs) where
  some_same : (g h : ℕ × ℕ → Bool) → ((w : ℕ × ℕ) → g w ≡ h w) → some g ps ≡ true → some h qs ≡ true
  some_same g h gh e = let f = found g ps e in
      give h qs f.line.0 f.line.1 (sym (same f.line.0 f.line.1) ∙ f.held) (sym (gh f.line) ∙ f.passes)

is_same : (ps qs : List (ℕ × ℕ)) → ((n r : ℕ) → some (is_line n r) ps ≡ some (is_line n r) qs) → (f u k : ℕ) → is_by ps f u k ≡ is_by qs f u k
unfolding is_by
is_same ps qs same zero u k = refl
is_same ps qs same (suc f) u k =
    ap (λ b. eqb u k || b) (both_ways _ _
    (some_same ps qs same (λ p. eqb p.0 u && is_by ps f p.1 k) (λ p. eqb p.0 u && is_by qs f p.1 k)
    (λ w. ap (λ b. eqb w.0 u && b) (is_same ps qs same f w.1 k)))
    (some_same qs ps (λ n r. sym (same n r)) (λ p. eqb p.0 u && is_by qs f p.1 k) (λ p. eqb p.0 u && is_by ps f p.1 k)
    (λ w. ap (λ b. eqb w.0 u && b) (sym (is_same ps qs same f w.1 k)))))

module _ (P Q : Policy) (same : SamePolicy P Q) where
  pub same-is : (u k : ℕ) → is P u k ≡ is Q u k
  unfolding isa_held
  same-is u k = is_same P.isa Q.isa same.isa 64 u k

  same_stands : (u : ℕ) → stands_for P u ≡ stands_for Q u
  unfolding stands_for
  same_stands u = fun_ext (same-is u)

  pub same-own : (u : ℕ) → passes_own P u ≡ passes_own Q u
  unfolding passes_own
  same-own u = λ i x. some (λ k. same_label x (get_or (same.names i) k [])) (subjects_where (same_stands u i) (length (same.names i)))

  pub same-named : (x : List ℕ) → subject_named P x ≡ subject_named Q x
  unfolding subject_named
  same-named x = ap (subject_from x 0) same.names

  pub same_word : policy_word P ≡ policy_word Q
  unfolding policy_word
  same_word = λ i x. some (λ r. some (uses false x) r.path) (same.rules i)
      || (some (λ r. some (uses true x) r.path) (same.rules i) && some (same_label x) (same.names i))

  decide-same : (u : ℕ) (c : List (List ℕ)) (rs : List Rule) (set : ℕ) → decide P u c rs set ≡ decide Q u c rs set
  unfolding decide
  decide-same u c [] set = refl
  decide-same u c (r ∷ rs) set =
      rw (same-is u r.who, same-own u) (decide-same u c rs _)

  pub same-rights : (u : ℕ) (c : List (List ℕ)) → rights_by P u c ≡ rights_by Q u c
  unfolding rights_by
  same-rights u c = decide-same u c P.rules 0 ∙ ap (λ rs. decide Q u c rs 0) same.rules

  pub same_rights_on : (u : ℕ) (rs : List (List ℕ)) → rights_on P u rs ≡ rights_on Q u rs
  same_rights_on u rs = map_same (chains [] rs)
    where
      map_same : (cs : List (List (List ℕ))) → map (rights_by P u) cs ≡ map (rights_by Q u) cs
      map_same [] = refl
      map_same (c ∷ cs) = rw (same-rights u c, map_same cs)
