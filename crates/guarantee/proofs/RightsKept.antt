-- Demand 3's sentence on rights: over any lines, what every declared subject may do on the kept nodes stays as it was. Assumes nothing.
use Prim.Native.Nat.{ℕ, zero, suc, ◌+◌, ◌≤◌, ◌<◌}
use mathlib.Core.Bool.{true}
use mathlib.Core.Logic.{◌⊎◌, inl, inr}
use mathlib.Core.Path.{◌≡◌, sym, ap, ap₂, ◌∙◌, subst}
use mathlib.Core.List.Sublistᴰ
use mathlib.Core.List.{List, [], ◌∷◌, map, Sublistᴰ}
use mathlib.Core.Option.{none, some}
use native.Mathlib.Omega.{arith}
use lib.ListN.{length, get_or, length-map}
use Rattle.rights.specs.Policy.{Policy}
use Rattle.rights.specs.PolicyBytes.{policy_of}
use Rattle.rights.specs.Rights.{rights_by, chains, rights_on}
use Rattle.rights.specs.Table.{records, table_ok}
use Rattle.rights.proofs.ChainLaws.{chains-length}
use Rattle.views.specs.Nodes.{tags, All}
use Rattle.forms.specs.Form.{ReadForm, read_form}
use Rattle.lines.specs.State.{stage_c, stage, policy_in}
use Rattle.lines.proofs.StateLaws.{store_held}
use Rattle.guarantee.specs.Alike.{Input, outcome}
use Rattle.guarantee.specs.Identity.{Tagged, after_effect, after_reply, effect_of, follow, follow_all, state_after_all, table_after_all, tag_all, tag_at, Was, rights_at, SameRights}
use Rattle.lines.specs.Effect.{Effect, policy, root, insertion, renaming, removal, redating, login, dating, reading}
use Rattle.lines.proofs.CheckLaws.{Refused}
use Rattle.guarantee.proofs.Sound.{EffectSound}
use Rattle.guarantee.proofs.Accepted.{Accepted, line_cases}
use Rattle.guarantee.proofs.SessionKept.{policy_kept, rooted_kept}
use Rattle.guarantee.proofs.RunKept.{run_rooted, run_policy, run_state, run_table}
use Rattle.guarantee.proofs.Identity.{records-numbered, all_part, follows_line, follows}
use Rattle.guarantee.proofs.KeptNodes.{kept, beside, kept_rights, nodes_nested, nodes_whole, nodes_free, kept-remove, kept_insert, kept-rename, kept-redate}

same : {a b : List (ℕ × ℕ)} → a ≡ b → Sublistᴰ a b
same {b = b} e = rw e (Sublistᴰ.refl b)

-- the rights on the kept nodes after an effect, the root line taken before
rights_effect : (f : ReadForm) (s t : List ℕ) → table_ok t ≡ true → stage_c ≤ stage s → (ns : List Tagged) → map (λ n. n.0) ns ≡ records t
    → (u : ℕ) → u < length (policy_in s).names → (e : Effect) → EffectSound f s t e
    → Sublistᴰ (kept_rights (policy_in s) u (after_effect e ns)) (kept_rights (policy_in s) u ns)
rights_effect f s t ok rooted ns q u d (policy p g) x = Sublistᴰ.refl _
rights_effect f s t ok rooted ns q u d (root l) x = absurd (omega (arith, x.early))
rights_effect f s t ok rooted ns q u d (insertion at ms m tree g) x =
    same (kept_insert (policy_in s) u d at m tree g ms ns x.good.nested (nodes_nested t ns ok q))
rights_effect f s t ok rooted ns q u d (renaming l ms) x =
    same (kept-rename (policy_in s) u d l ms ns x.no_word (nodes_free (policy_in s) t ms ns q x.no_words))
rights_effect f s t ok rooted ns q u d (removal ms) x = kept-remove (policy_in s) u d ms ns (nodes_nested t ns ok q)
rights_effect f s t ok rooted ns q u d (redating g l ms) x = same (kept-redate (policy_in s) u d g l ms ns (nodes_whole t ms ns q x.whole))
rights_effect f s t ok rooted ns q u d (login v) x = Sublistᴰ.refl _
rights_effect f s t ok rooted ns q u d (dating y) x = Sublistᴰ.refl _
rights_effect f s t ok rooted ns q u d reading x = Sublistᴰ.refl _

-- With numbers as tags

numbered_sets : (sets : List ℕ) (j : ℕ) (rs : List (List ℕ)) (ss : List ℕ) → ((k : ℕ) → get_or ss k 0 ≡ get_or sets (j + k) 0)
    → All (λ p. p.1 ≡ get_or sets p.0 0) (tags kept (beside (tag_all j rs) ss))
unfolding tags
numbered_sets sets j [] ss h = tt
numbered_sets sets j (r ∷ rs) [] h = tt
numbered_sets sets j (r ∷ rs) (x ∷ ss) h =
    let z : j + 0 ≡ j = omega arith in
    ((rw z at (h 0)), numbered_sets sets (suc j) rs ss (λ k. let y : j + suc k ≡ suc j + k = omega arith in rw y at (h (suc k))))

tagged_set : (Q : ℕ × ℕ → Type 0) (ns : List Tagged) (ss : List ℕ) (k i : ℕ) → length ns ≤ length ss → All Q (tags kept (beside ns ss)) → tag_at ns k ≡ some i
    → Q (i, get_or ss k 0)
unfolding tags
tagged_set Q [] ss k i h a e = absurd (let z : ◌≡◌ {A = ℕ} 0 1 = cc in omega arith)
tagged_set Q (n ∷ ns) [] k i h a e = absurd (omega arith)
tagged_set Q ((r, none) ∷ ns) (x ∷ ss) zero i h a e = absurd (let z : ◌≡◌ {A = ℕ} 0 1 = cc in omega arith)
tagged_set Q ((r, some j) ∷ ns) (x ∷ ss) zero i h a e = let z : j ≡ i = cc in rw (← z) a.0
tagged_set Q ((r, none) ∷ ns) (x ∷ ss) (suc k) i h a e = tagged_set Q ns ss k i (omega arith) a e
tagged_set Q ((r, some j) ∷ ns) (x ∷ ss) (suc k) i h a e = tagged_set Q ns ss k i (omega arith) a.1 e

sets_length : (P : Policy) (u : ℕ) (ns : List Tagged) → length (rights_on P u (map (λ n. n.0) ns)) ≡ length ns
sets_length P u ns = length-map (chains [] (map (λ n. n.0) ns)) (rights_by P u) ∙ chains-length [] (map (λ n. n.0) ns) ∙ length-map ns (λ n. n.0)

-- One line
module _ (s t : List ℕ) (i : Input) (ns : List Tagged) (e : map (λ n. n.0) ns ≡ records t) where
  pub rights_line : stage_c ≤ stage s → (u : ℕ) → u < length (policy_in s).names
      → Sublistᴰ (kept_rights (policy_in s) u (follow s t i ns)) (kept_rights (policy_in s) u ns)
  unfolding follow
  rights_line rooted u d = go (line_cases s t i.line i.room)
    where
      go : Refused s t (outcome s t i) ⊎ Accepted s t i.line i.room
          → Sublistᴰ (kept_rights (policy_in s) u (after_reply (outcome s t i).reply (effect_of s t i.line) ns)) (kept_rights (policy_in s) u ns)
      go (inl x) = rw x.is (Sublistᴰ.refl _)
      go (inr x) =
          rw x.is
          (rights_effect (read_form i.line) s t (store_held s t x.passes).table rooted ns e u d (effect_of s t i.line) x.sound)

-- Any lines: what every declared subject may do on the kept nodes afterwards is a part, in order, of what it could do on them before

rights-kept : (s t : List ℕ) → stage_c ≤ stage s → (is : List Input) (ns : List Tagged)
    → map (λ n. n.0) ns ≡ records t → (u : ℕ) → u < length (policy_in s).names
    → Sublistᴰ (kept_rights (policy_in (state_after_all s t is)) u (follow_all s t is ns)) (kept_rights (policy_in s) u ns)
unfolding follow_all state_after_all
rights-kept s t rooted [] ns e u d = Sublistᴰ.refl _
rights-kept s t rooted (i ∷ is) ns e u d =
    let s' : List ℕ = (outcome s t i).state in
    let t' : List ℕ = (outcome s t i).table in
    let p : policy_in s ≡ policy_in s' = ap policy_of (sym (policy_kept s t i.line i.room rooted)) in
    Sublistᴰ.trans
    (rights-kept s' t' (rooted_kept s t i.line i.room rooted) is
    (follow s t i ns) (follows_line s t i ns e) u (rw (← p) d))
    (rw (← p) (rights_line s t i ns e rooted u d))

-- from the start on
rights_from : (s t : List ℕ) → stage_c ≤ stage s → (is : List Input) (u : ℕ) → u < length (policy_in s).names → (k i : ℕ)
    → Was s t is k i → rights_at (state_after_all s t is) (table_after_all s t is) u k ≡ rights_at s t u i
rights_from s t rooted is u d k i w =
    let ns : List Tagged = tag_all 0 (records t) in
    let ns' : List Tagged = follow_all s t is ns in
    let P' : Policy = policy_in (state_after_all s t is) in
    let sets : List ℕ = rights_on (policy_in s) u (records t) in
    let n : map (λ x. x.0) ns ≡ records t = records-numbered 0 (records t) in
    let z : (j : ℕ) → get_or sets j 0 ≡ get_or sets (0 + j) 0 = λ j. let y : 0 + j ≡ j = omega arith in rw y in
    let a : All (λ p. p.1 ≡ get_or sets p.0 0) (kept_rights (policy_in s) u ns) = rw n (numbered_sets sets 0 (records t) sets z) in
    let b : All (λ p. p.1 ≡ get_or sets p.0 0) (kept_rights P' u ns') = all_part (λ p. p.1 ≡ get_or sets p.0 0) (rights-kept s t rooted is ns n u d) a in
    ap (λ rs. get_or (rights_on P' u rs) k 0) (sym (follows s t is ns n))
    ∙ tagged_set (λ p. p.1 ≡ get_or sets p.0 0) ns' (rights_on P' u (map (λ x. x.0) ns')) k i (omega (arith, sets_length P' u ns')) b w

-- between any two points
pub same-rights : SameRights
same-rights s t rooted before between u d k i w =
    let s1 : List ℕ = state_after_all s t before in
    let t1 : List ℕ = table_after_all s t before in
    let p : policy_in s1 ≡ policy_in s = ap policy_of (run_policy s t before rooted) in
    ap₂ (λ x y. rights_at x y u k) (run_state s t before between) (run_table s t before between)
    ∙ rights_from s1 t1 (run_rooted s t before rooted) between u (subst (λ (P : Policy). u < length P.names) (sym p) d) k i w
