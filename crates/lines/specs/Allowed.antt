-- What 13 lets pass, in document 01's words: a state and a table. That `store_ok` lets exactly this pass is proved in proofs/AllowedStoreLaws.antt.
use Rattle.std.specs.Prelude.{ℕ, zero, suc, ◌-◌, ◌≤◌, ◌<◌, ◌≡◌, List, [], ◌∷◌, ◌++◌, length}
use Rattle.std.proofs.Math.Option.{Option, none, some}
use Rattle.rights.specs.Limits.{days_max}
use Rattle.rights.specs.Nodes.{DatedNode}
use Rattle.rights.specs.Policy.{Policy}
use Rattle.rights.specs.Allowed.{AllowedPolicy}
use Rattle.rights.specs.Record.{le2}
use Rattle.rights.specs.Held.{held_policy, HoldsNodes}
use Rattle.lines.specs.State.{stage_a, stage_c, stage_e, stage, user_byte, day_in, policy_in}

-- A session: its stage by number, its user by the number of a subject, its day, and its policy.
pub record Session : Type 0 where
  pub stage : ℕ
  pub user : Option ℕ
  pub day : ℕ
  pub policy : Policy

-- "Stages, in order": one of A to E. A rule is a line of B, so there is none at stage A. A user, who is a declared subject, is there at stage E alone. The day is
-- "1 to 366" (document 02, card 7).
pub record AllowedSession (s : Session) : Type 0 where
  pub policy : AllowedPolicy s.policy
  pub stage : s.stage ≤ stage_e
  pub rules : s.stage ≡ stage_a → s.policy.rules ≡ []
  pub user : (u : ℕ) → s.user ≡ some u → (s.stage ≡ stage_e) × (u < length s.policy.names)
  pub day : (1 ≤ s.day) × (s.day ≤ days_max)

-- How a session is held (docs/FORMAT.md): the stage, 0 or one more than the user's number, the day less one, 4 zero bytes, the policy.
abbrev pub user_held : Option ℕ → ℕ
user_held none = 0
user_held (some u) = suc u

abbrev pub held_session : Session → List ℕ
held_session s = s.stage ∷ user_held s.user ∷ (le2 (s.day - 1) ++ (0 ∷ 0 ∷ 0 ∷ 0 ∷ held_policy s.policy))

-- the session that a state holds
abbrev pub user_in : ℕ → Option ℕ
user_in zero = none
user_in (suc u) = some u

abbrev pub session_in : List ℕ → Session
session_in s = record { stage = stage s; user = user_in (user_byte s); day = day_in s; policy = policy_in s }

pub record HoldsSession (s : List ℕ) (session : Session) : Type 0 where
  pub allowed : AllowedSession session
  pub bytes : s ≡ held_session session

-- State and table hold a session and the nodes of a tree, each allowed; the table has a root exactly if the root line is taken, that is, from stage C on.
pub record HoldsStore (s t : List ℕ) (session : Session) (nodes : List DatedNode) : Type 0 where
  pub state : HoldsSession s session
  pub table : HoldsNodes t nodes
  pub root : 0 < length nodes → stage_c ≤ session.stage
  pub root_line : stage_c ≤ session.stage → 0 < length nodes
