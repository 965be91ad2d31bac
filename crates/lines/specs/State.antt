-- The state (document 01, "Lines" and 13; document 02, card 7; docs/FORMAT.md): 8 bytes of the session (stage, user, day, and 4 zero bytes), then the policy.
use Rattle.std.specs.Prelude.{ℕ, ◌+◌, ◌-◌, Bool, ◌&&◌, ◌||◌, List, ◌∷◌, ◌++◌, leb, eqb, length, get_or, take, drop}
use Rattle.std.specs.Bool.{beq}
use Rattle.rights.specs.Limits.{state_size, days_max}
use Rattle.rights.specs.Bytes.{le2_at, zeros}
use Rattle.rights.specs.Table.{count, table_ok}
use Rattle.rights.specs.Record.{pasted, le2}
use Rattle.rights.specs.Policy.{Policy}
use Rattle.rights.specs.PolicyBytes.{policy_of, subject_count, rule_count}
use Rattle.rights.specs.PolicyCheck.{policy_ok}
pub use Rattle.forms.specs.Layout.{stage_a, stage_b, stage_c, stage_d, stage_e}

-- the stage that a state is in; the session's user, 0 for none, else one more than the subject's number; the session's day, held less one, so that it is 1 in a
-- new state; the policy
abbrev pub stage : List ℕ → ℕ
stage s = get_or s 0 0

abbrev pub user_byte : List ℕ → ℕ
user_byte s = get_or s 1 0

abbrev pub user_of : List ℕ → ℕ
user_of s = user_byte s - 1

abbrev pub day_in : List ℕ → ℕ
day_in s = le2_at s 2 + 1

abbrev pub policy_bytes : List ℕ → List ℕ
policy_bytes s = drop 8 s

abbrev pub policy_in : List ℕ → Policy
policy_in s = policy_of (policy_bytes s)

-- a state with another stage, with another stage and user, with another day, and with another policy
abbrev pub with_stage : ℕ → List ℕ → List ℕ
with_stage g s = g ∷ drop 1 s

abbrev pub with_session : ℕ → ℕ → List ℕ → List ℕ
with_session g u s = g ∷ u ∷ drop 2 s

abbrev pub with_day : ℕ → List ℕ → List ℕ
with_day d s = pasted s 2 (le2 (d - 1))

abbrev pub with_policy : List ℕ → List ℕ → List ℕ
with_policy p s = take 8 s ++ p

-- a user at stage E alone; `(day D)`, of stage E, "needs no user"
abbrev pub user_at_e : List ℕ → Bool
user_at_e s = eqb (user_byte s) 0 || eqb (stage s) stage_e

-- The session beside its policy: a stage of the five, a declared user, a day of the year, zeros, a rule only from stage B on; a user at stage E alone
unfoldable pub session_ok : List ℕ → Bool
session_ok s =
    leb (stage s) stage_e
    && (leb (user_byte s) (subject_count (policy_bytes s))
    && (leb (day_in s) days_max
    && (zeros s 4 4
    && ((eqb (rule_count (policy_bytes s)) 0 || leb stage_b (stage s))
    && user_at_e s))))

-- A state by itself: "a state against the limits, names, paths or stages above"; "a state's day outside 1 to 366"
unfoldable pub state_ok : List ℕ → Bool
state_ok s = eqb (length s) state_size && (policy_ok (policy_bytes s) && session_ok s)

-- The state beside the table: not "a root in the table without the root line taken, or the reverse"
abbrev pub agrees : List ℕ → List ℕ → Bool
agrees s t = beq (leb stage_c (stage s)) (leb 1 (count t))

-- What 13 lets pass
unfoldable pub store_ok : List ℕ → List ℕ → Bool
store_ok s t = table_ok t && (state_ok s && agrees s t)
