-- After a list of lines: the store passes, the root line is taken, and the policy is what it was. A list is run by running its parts. Assumes nothing.
use Prim.Native.Nat.{ℕ, ◌≤◌}
use mathlib.Core.Path.{◌≡◌, refl, ap₂, ◌∙◌}
use mathlib.Core.Bool.{true}
use mathlib.Core.List.{List, [], ◌∷◌, ◌++◌, map}
use lib.ListN.{length}
use Rattle.lines.specs.State.{stage_c, stage, policy_bytes, store_ok}
use Rattle.guarantee.specs.Alike.{Input, outcome}
use Rattle.guarantee.specs.Identity.{state_after_all, table_after_all}
use Rattle.guarantee.specs.Demand3.{Call, Run}
use Rattle.guarantee.proofs.SessionKept.{store_kept, policy_kept, rooted_kept}

pub run-passes : (s t : List ℕ) (is : List Input) → store_ok s t ≡ true → store_ok (state_after_all s t is) (table_after_all s t is) ≡ true
unfolding state_after_all table_after_all
run-passes s t [] ok = ok
run-passes s t (i ∷ is) ok = run-passes (outcome s t i).state (outcome s t i).table is (store_kept s t i.line i.room ok)

pub run_rooted : (s t : List ℕ) (is : List Input) → stage_c ≤ stage s → stage_c ≤ stage (state_after_all s t is)
unfolding state_after_all
run_rooted s t [] h = h
run_rooted s t (i ∷ is) h = run_rooted (outcome s t i).state (outcome s t i).table is (rooted_kept s t i.line i.room h)

pub run_policy : (s t : List ℕ) (is : List Input) → stage_c ≤ stage s → policy_bytes (state_after_all s t is) ≡ policy_bytes s
unfolding state_after_all
run_policy s t [] h = refl
run_policy s t (i ∷ is) h =
    run_policy (outcome s t i).state (outcome s t i).table is (rooted_kept s t i.line i.room h)
    ∙ policy_kept s t i.line i.room h

pub run_state : (s t : List ℕ) (is js : List Input)
    → state_after_all s t (is ++ js) ≡ state_after_all (state_after_all s t is) (table_after_all s t is) js
unfolding state_after_all table_after_all
run_state s t [] js = refl
run_state s t (i ∷ is) js = run_state (outcome s t i).state (outcome s t i).table is js

pub run_table : (s t : List ℕ) (is js : List Input)
    → table_after_all s t (is ++ js) ≡ table_after_all (state_after_all s t is) (table_after_all s t is) js
unfolding state_after_all table_after_all
run_table s t [] js = refl
run_table s t (i ∷ is) js = run_table (outcome s t i).state (outcome s t i).table is js

-- What a run of calls leaves is what its lines leave.
abbrev pub input_of : Call → Input
input_of c = record { line = c.line; room = length c.lent }

abbrev pub left : List ℕ → List ℕ → List Call → List ℕ × List ℕ
left s t [] = (s, t)
left s t (c ∷ cs) = left c.state c.table cs

pub run-left : (s t : List ℕ) (cs : List Call) → Run s t cs
    → left s t cs ≡ (state_after_all s t (map input_of cs), table_after_all s t (map input_of cs))
unfolding state_after_all table_after_all
run-left s t [] r = refl
run-left s t (c ∷ cs) r =
    run-left c.state c.table cs r.1
    ∙ ap₂ (λ x y. (state_after_all x y (map input_of cs), table_after_all x y (map input_of cs))) r.0.state r.0.table
