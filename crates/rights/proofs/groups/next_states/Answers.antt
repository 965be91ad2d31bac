use Rattle.rights.proofs.StateLaws.{next_mask}
use Rattle.rights.proofs.groups.next_states.Goals as goal

pub returns : goal.returns
returns c =
    let a = c.args in
    λ number mine ss st rows x k few er em. next_mask number mine ss st a.deep a.every a.row a.m rows x k few er em
