use Rattle.std.proofs.Common.{arith, ◌≡◌, ◌∙◌}
use Rattle.std.proofs.lemmas.Grind.{common_steps}
use Rattle.rights.specs.Bytes.{all, is_zero}
use Rattle.rights.specs.Table.{rec_at, spare}
use Rattle.rights.specs.PolicyCheck.{text_ok}
use Rattle.rights.proofs.ListLaws.{part_of, rest_of}
use Rattle.rights.proofs.policy_check.text_ok.Goals as goal

pub returns-then-label_part_ok : goal.returns-then-label_part_ok
unfolding text_ok
returns-then-label_part_ok c =
    let rest : c.all_zero.result ≡ all is_zero (spare (rec_at c.args.policy.now c.args.at)) = c.all_zero.ensures ∙ simp (rest_of, part_of) in
    grind (arith, common_steps)

pub returns-else-label_part_ok : goal.returns-else-label_part_ok
unfolding text_ok
returns-else-label_part_ok c = grind (arith, common_steps)
