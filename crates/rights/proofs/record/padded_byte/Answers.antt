use native.Mathlib.Omega.{arith}
use Rattle.rights.proofs.RecordLaws.{byte_label, byte_rest}
use Rattle.rights.proofs.record.padded_byte.Goals as goal

pub returns-then-k-label : goal.returns-then-k-label
returns-then-k-label c = byte_label c.args.label.now c.args.k (omega arith)

pub returns-else-k-label : goal.returns-else-k-label
returns-else-k-label c = byte_rest c.args.label.now c.args.k (omega arith) (omega arith)
