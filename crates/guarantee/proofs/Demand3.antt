-- Demand 3 (specs/Demand3.antt). Assumes nothing.
use Rattle.guarantee.specs.Demand3.{Demand3}
use Rattle.guarantee.proofs.Demand as alike
use Rattle.guarantee.proofs.Identity as identity
use Rattle.guarantee.proofs.RightsKept as rights

pub demand3 : Demand3
demand3 = record {
  answers_alike = alike.answers_alike;
  same-rights = rights.same-rights;
  follows = identity.follows;
  nodes_kept = identity.nodes_kept;
  nodes_removed = identity.nodes_removed;
  inserted_new = identity.inserted_new;
  none_back = identity.none_back;
}
