-- Rights by keys: a label's key is what the label is compared by if it is a policy word, and nothing otherwise. A rule's step names a label, which is a policy word, or is `*`, or is `$`,
-- and then every subject's name is a policy word: so the keys of a chain decide what every declared subject may do. Assumes nothing.
use Prim.Native.Nat.{ℕ, zero, suc, ◌<◌}
use mathlib.Core.Bool.{Bool, true, false, cond, ◌&&◌, ◌||◌}
use mathlib.Core.Path.{◌≡◌, refl, sym, ap, ap₂, ◌∙◌}
use mathlib.Core.List.{List, [], ◌∷◌, map}
use mathlib.Core.Option.{Option, none, some}
use native.Mathlib.Omega.{arith}
use lib.ListN.{length, get_or}
use Rattle.rights.specs.Labels.{folded_label, same_label}
use Rattle.rights.specs.Path.{Test, label, any, own, is_descendant, passes}
use Rattle.rights.specs.declared.path.Axis.{Axis}
use Rattle.rights.specs.Policy.{Rule, Policy, some as any_of, uses, policy_word}
use Rattle.rights.specs.Isa.{is, passes_own}
use Rattle.rights.specs.Rights.{step_for, reaches, ruled_set, decide, rights_by}
use Rattle.rights.proofs.LabelLaws.{same_left, folded_like}
use Rattle.rights.proofs.BoolLaws.{or_left}
use Rattle.rights.proofs.ListLaws.{by_case}
use Rattle.rights.proofs.OwnNames.{own_names}
use Rattle.rights.proofs.PolicyWords.{own_same}
use Rattle.rights.proofs.XPathLists.{or_right}

abbrev pub Key : Type 0
Key = Option (List ℕ)

abbrev pub key_of : Policy → List ℕ → Key
key_of P x = cond (policy_word P x) (some (folded_label x)) none

-- a key passes a step's test; mine are the labels that pass `$`
abbrev pub passes_key : (List ℕ → Bool) → Test → Key → Bool
passes_key mine (label s) none = false
passes_key mine (label s) (some x) = same_label x s
passes_key mine any k = true
passes_key mine own none = false
passes_key mine own (some x) = mine x

-- a rule's path selects the last node of a chain of keys
unfoldable pub finds_keys : (List ℕ → Bool) → List (Axis × Test) → List Key → Bool
finds_keys mine [] [] = true
finds_keys mine [] (k ∷ ks) = false
finds_keys mine (w ∷ p) [] = false
finds_keys mine (w ∷ p) (k ∷ ks) = (passes_key mine w.1 k && finds_keys mine p ks) || (is_descendant w.0 && finds_keys mine (w ∷ p) ks)

-- the rules in order, and the set of rights that subject u has on a node with this chain of keys
unfoldable pub decide_keys : Policy → ℕ → List Key → List Rule → ℕ → ℕ
decide_keys P u ks [] set = set
decide_keys P u ks (r ∷ rs) set =
    decide_keys P u ks rs
    (cond (is P u r.who) (cond (finds_keys (passes_own P u) r.path ks) (ruled_set set r.right r.accept) set) set)

unfoldable pub rights_by_keys : Policy → ℕ → List Key → ℕ
rights_by_keys P u ks = decide_keys P u ks P.rules 0

clash : {C : Type 0} (b : Bool) → b ≡ true → b ≡ false → C
clash b e q = absurd (let z : true ≡ false = sym e ∙ q in let y : ◌≡◌ {A = ℕ} 0 1 = cc in omega arith)

some_at : (f : List ℕ → Bool) (xs : List (List ℕ)) (i : ℕ) → i < length xs → f (get_or xs i []) ≡ true → any_of f xs ≡ true
unfolding any_of
some_at f [] i h e = absurd (omega arith)
some_at f (x ∷ xs) zero h e = or_left (f x) (any_of f xs) e
some_at f (x ∷ xs) (suc i) h e = or_right (f x) (any_of f xs) (some_at f xs i (omega arith) e)

module _ (P : Policy) (u : ℕ) where
  -- what uses a label, or `$` where the label passes it, makes the label a policy word
  pub record Covers (named owned : List ℕ → Bool) : Type 0 where
    pub by_name : (x : List ℕ) → named x ≡ true → policy_word P x ≡ true
    pub by_own : (x : List ℕ) → owned x ≡ true → passes_own P u x ≡ true → policy_word P x ≡ true

  first : (a b c d : List ℕ → Bool) → Covers (λ x. a x || c x) (λ x. b x || d x) → Covers a b
  first a b c d v = record {
    by_name = λ x e. v.by_name x (or_left (a x) (c x) e);
    by_own = λ x e q. v.by_own x (or_left (b x) (d x) e) q;
  }

  others : (a b c d : List ℕ → Bool) → Covers (λ x. a x || c x) (λ x. b x || d x) → Covers c d
  others a b c d v = record {
    by_name = λ x e. v.by_name x (or_right (a x) (c x) e);
    by_own = λ x e q. v.by_own x (or_right (b x) (d x) e) q;
  }

  abbrev CoversStep : Axis × Test → Type 0
  CoversStep w = Covers (λ x. uses false x w) (λ x. uses true x w)

  abbrev CoversPath : List (Axis × Test) → Type 0
  CoversPath p = Covers (λ x. any_of (uses false x) p) (λ x. any_of (uses true x) p)

  abbrev CoversRules : List Rule → Type 0
  CoversRules rs = Covers (λ x. any_of (λ (r : Rule). any_of (uses false x) r.path) rs) (λ x. any_of (λ (r : Rule). any_of (uses true x) r.path) rs)

  passes_key_lem : (a : Axis) (t : Test) (x : List ℕ) → CoversStep (a, t) → passes (passes_own P u) t x ≡ passes_key (passes_own P u) t (key_of P x)
  unfolding passes
  passes_key_lem a (label s) x v =
      by_case (policy_word P x)
      (λ e. rw e (sym (same_left (folded_label x) x (folded_like x) s)))
      (λ e. rw e (by_case (same_label x s) (λ q. clash (policy_word P x) (v.by_name x q) e) (λ q. q)))
  passes_key_lem a any x v = refl
  passes_key_lem a own x v =
      by_case (policy_word P x)
      (λ e. rw e (sym (own_same P (folded_label x) x (folded_like x) u)))
      (λ e. rw e (by_case (passes_own P u x) (λ q. clash (policy_word P x) (v.by_own x refl q) e) (λ q. q)))

  finds_keys_lem : (p : List (Axis × Test)) (c : List (List ℕ)) → CoversPath p
      → reaches (map (step_for (passes_own P u)) p) c ≡ finds_keys (passes_own P u) p (map (key_of P) c)
  unfolding reaches finds_keys any_of
  finds_keys_lem [] [] v = refl
  finds_keys_lem [] (x ∷ c) v = refl
  finds_keys_lem (w ∷ p) [] v = refl
  finds_keys_lem (w ∷ p) (x ∷ c) v =
      ap₂ ◌||◌
      (ap₂ ◌&&◌ (passes_key_lem w.0 w.1 x (first (λ y. uses false y w) (λ y. uses true y w) _ _ v)) (finds_keys_lem p c (others (λ y. uses false y w) (λ y. uses true y w) _ _ v)))
      (ap (λ b. is_descendant w.0 && b) (finds_keys_lem (w ∷ p) c v))

  decide_keys_lem : (c : List (List ℕ)) (rs : List Rule) (set : ℕ) → CoversRules rs → decide P u c rs set ≡ decide_keys P u (map (key_of P) c) rs set
  unfolding decide decide_keys any_of
  decide_keys_lem c [] set v = refl
  decide_keys_lem c (r ∷ rs) set v =
      rw (finds_keys_lem r.path c (first (λ y. any_of (uses false y) r.path) (λ y. any_of (uses true y) r.path) _ _ v))
      (decide_keys_lem c rs _ (others (λ y. any_of (uses false y) r.path) (λ y. any_of (uses true y) r.path) _ _ v))

  -- The rules of a policy make policy words of all that they use. Of `$` it is enough that what passes it is some subject's name (`own_names`): once a rule uses
  -- `$` every subject's name is a policy word, so it does not matter which of them pass, the login name alone or those of all that the subject is.
  rules_cover : CoversRules P.rules
  unfolding policy_word
  rules_cover = record {
    by_name = λ x e. or_left _ _ e;
    by_own = λ x e q.
        let k = (own_names P u).only x q in
        let z : any_of (λ (r : Rule). any_of (uses true x) r.path) P.rules && any_of (same_label x) P.names ≡ true = rw e (some_at (same_label x) P.names k.0 k.1 k.3) in
        or_right (any_of (λ (r : Rule). any_of (uses false x) r.path) P.rules) _ z;
  }

  -- What a subject may do on a node depends on the keys of the labels from the root to it.
  pub rights_by_keys_lem : (c : List (List ℕ)) → rights_by P u c ≡ rights_by_keys P u (map (key_of P) c)
  unfolding rights_by rights_by_keys
  rights_by_keys_lem c = decide_keys_lem c P.rules 0 rules_cover
