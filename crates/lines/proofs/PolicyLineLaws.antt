-- The policy as a part of the state that is lent and put back, and what the lines of stages A and B ask of it. Assumes nothing.
use Rattle.std.specs.Prelude.{Some}
use Prim.Native.Nat.{ℕ, ◌-◌, ◌≤◌, ◌<◌}
use mathlib.Core.Bool.{true, false}
use mathlib.Core.Path.{◌≡◌, refl, sym, ap, ◌∙◌}
use mathlib.Core.List.{List, [], ◌∷◌, ◌++◌, append-nil}
use native.Mathlib.Omega.{arith}
use borrow.Rule.Slice.PartMut.{put_mid, post_of}
use lib.ListN.{length, take, drop, set, length-append, length-drop, drop_of_length-le}
use lib.Seq.{length-take-le}
use Rattle.rights.specs.Path.{Path}
use Rattle.rights.specs.PathReader.{Got, got, bad, path_of}
use Rattle.rights.specs.How.Reading.{place_of}
use Rattle.rights.specs.PolicyBytes.{policy_of, subject_count}
use Rattle.rights.specs.PolicyCheck.{policy_ok}
use Rattle.rights.proofs.ListLaws.{rest_of}
use Rattle.rights.proofs.SoundLaws.{policy_sound}
use Rattle.lines.specs.PolicyEdit.{subject_named, has_bracket, Plain}
use Rattle.lines.specs.Refusal.{first_refusal}
use Rattle.lines.specs.State.{stage, with_stage, with_policy, policy_bytes, policy_in}
use Rattle.lines.specs.UserView.{not_path}
use Rattle.lines.specs.Work.{isa_checks, rule_checks, user_checks}
use Rattle.lines.proofs.EditTests.{found_subject}
use Rattle.lines.proofs.StateLaws.{stage-put}
use Rattle.lines.proofs.StoredPaths.{plain}

-- what is found in the policy that was lent is found in the state's
pub found_part : (s name : List ℕ) {u : ℕ} → subject_named (policy_of (take (length s - 8) (drop 8 s))) name ≡ Some u → subject_named (policy_in s) name ≡ Some u
found_part s name e = sym (ap (λ p. subject_named (policy_of p) name) (rest_of s 8)) ∙ e

-- a subject that was found is a declared one
module _ (p name : List ℕ) {u : ℕ} (ok : policy_ok p ≡ true) (e : subject_named (policy_of p) name ≡ Some u) where
  pub found_declared : u < subject_count p
  found_declared = (found_subject p name u ok e).declared

  pub found_small : u < 64
  found_small = omega (arith, found_declared, (policy_sound p ok).subjects)

-- the tests over the policy that was lent
pub isa_number : (s x y : List ℕ) {d : ℕ}
    → d ≡ first_refusal (isa_checks (take (length s - 8) (drop 8 s)) (subject_named (policy_of (take (length s - 8) (drop 8 s))) x) (subject_named (policy_of (take (length s - 8) (drop 8 s))) y))
    → d ≡ first_refusal (isa_checks (policy_bytes s) (subject_named (policy_in s) x) (subject_named (policy_in s) y))
isa_number s x y e = e ∙ ap (λ p. first_refusal (isa_checks p (subject_named (policy_of p) x) (subject_named (policy_of p) y))) (rest_of s 8)

pub user_number : (s x : List ℕ) {d : ℕ} → d ≡ first_refusal (user_checks (subject_named (policy_of (take (length s - 8) (drop 8 s))) x))
    → d ≡ first_refusal (user_checks (subject_named (policy_in s) x))
user_number s x e = e ∙ ap (λ p. first_refusal (user_checks (subject_named (policy_of p) x))) (rest_of s 8)

pub rule_number : (s path x : List ℕ) {d : ℕ}
    → d ≡ first_refusal (rule_checks (take (length s - 8) (drop 8 s)) path (subject_named (policy_of (take (length s - 8) (drop 8 s))) x))
    → d ≡ first_refusal (rule_checks (policy_bytes s) path (subject_named (policy_in s) x))
rule_number s path x e = e ∙ ap (λ p. first_refusal (rule_checks p path (subject_named (policy_of p) x))) (rest_of s 8)

-- a path that a rule's checks let pass
pub plain_rule : (path : List ℕ) → not_path (path_of path) ≡ false → has_bracket path ≡ false → Plain path
plain_rule path e b = go (path_of path) refl e
  where
    go : (g : Got Path) → path_of path ≡ g → not_path g ≡ false → Plain path
    go (got p i) r q = plain path i (ap place_of r) b
    go bad r q = absurd (let z : ◌≡◌ {A = ℕ} 0 1 = cc in omega arith)

-- the policy as a part that was lent, and put back
pub policy_put : (s p' : List ℕ) → put_mid 8 (length s - 8) s p' ≡ with_policy p' s
policy_put s p' =
    let h : length (drop 8 s) ≤ length s - 8 = omega (arith, length-drop 8 s) in
    let z : post_of 8 (length s - 8) s ≡ [] = drop_of_length-le (drop 8 s) h in
    ap (λ l. take 8 s ++ (p' ++ l)) z ∙ ap (λ l. take 8 s ++ l) (append-nil p')

pub put_room : (s p' : List ℕ) → 8 ≤ length s → 0 < length (put_mid 8 (length s - 8) s p')
put_room s p' h = omega (arith, length-append (take 8 s) (p' ++ post_of 8 (length s - 8) s), length-take-le 8 s h)

-- a line of the policy that was written into it: f says which, over the bytes of a policy
module _ (s p' : List ℕ) (f : List ℕ → List ℕ) (h : 8 ≤ length s) (e : p' ≡ f (take (length s - 8) (drop 8 s))) where
  put_line : put_mid 8 (length s - 8) s p' ≡ with_policy (f (policy_bytes s)) s
  put_line = policy_put s p' ∙ ap (λ p. with_policy p s) (e ∙ ap f (rest_of s 8))

  -- with another stage
  pub put_staged : (g : ℕ) → set (put_mid 8 (length s - 8) s p') 0 g ≡ with_stage g (with_policy (f (policy_bytes s)) s)
  put_staged g = stage-put (put_mid 8 (length s - 8) s p') g (put_room s p' h) ∙ ap (with_stage g) put_line

  -- with the stage that it had
  pub put-kept : put_mid 8 (length s - 8) s p' ≡ with_stage (stage s) (with_policy (f (policy_bytes s)) s)
  put-kept = put_line ∙ go s h
    where
      go : (s : List ℕ) → 8 ≤ length s → with_policy (f (policy_bytes s)) s ≡ with_stage (stage s) (with_policy (f (policy_bytes s)) s)
      go [] k = absurd (omega arith)
      go (x ∷ s) k = refl
