use Rattle.std.proofs.Common.{◌≡◌, rules, bit_or}
use Rattle.std.specs.List.{fold}
use Rattle.rights.proofs.ListLaws.{fold_zero}
use Rattle.rights.proofs.bytes.all_zero.Goals as goal

pub returns : goal.returns
returns c =
    let e : c.fold.result ≡ fold bit_or 0 c.args.s.now = search rules in
    rw e (fold_zero 0 _)
