use Rattle.std.proofs.Common.{rules}
use Rattle.rights.specs.Bytes.{digit_byte}
use Rattle.rights.proofs.path.digit_byte.Goals as goal

pub returns : goal.returns
unfolding digit_byte
returns c = search rules
