-- What a table that passed the check is known to hold. Assumes nothing.
use Prim.Native.Nat.{ℕ, ◌+◌, ◌*◌, ◌≤◌}
use mathlib.Core.Bool.{true}
use mathlib.Core.Path.{◌≡◌}
use mathlib.Core.List.{List, [], ◌∷◌}
use native.Mathlib.Omega.{arith}
use lib.ListN.{length, drop}
use Rattle.rights.specs.Bytes.{all, is_zero}
use Rattle.rights.specs.Table.{record_ok, records_ok, level, table_ok, count, capacity, records}
use Rattle.rights.proofs.TableLaws.{both, sound, table_long, table_held, table_room, table_few, table_records, table_clear}
use Rattle.views.specs.Change.{chunks}
use Rattle.views.specs.Nodes.{Under}
use Rattle.views.proofs.ChunkLaws.{all-chunks}

pub under-ok : (low high : ℕ) (rs : List (List ℕ)) → records_ok low high rs ≡ true → Under level 12 rs
unfolding records_ok
under-ok low high [] e = tt
under-ok low high (r ∷ rs) e =
    let f = both (record_ok low high r) (records_ok 1 (level r + 1) rs) e in
    (omega (arith, (sound low high r f.0).low_level), under-ok 1 (level r + 1) rs f.1)

pub record Holds (t : List ℕ) : Type 0 where
  pub head : 4 ≤ length t
  pub held : count t ≤ capacity (length t)
  pub size : 4 + count t * 32 ≤ length t
  pub few : count t ≤ 16384
  pub nested : records_ok 0 0 (records t) ≡ true
  pub low : Under level 12 (chunks (count t) (drop 4 t))
  pub clear : all is_zero (drop (4 + count t * 32) t) ≡ true

pub facts : (t : List ℕ) → table_ok t ≡ true → Holds t
facts t e = record {
  head = table_long t e;
  held = table_held t e;
  size = table_room t e;
  few = table_few t e;
  nested = table_records t e;
  low = rw (← all-chunks t) (under-ok 0 0 (records t) (table_records t e));
  clear = table_clear t e;
}
