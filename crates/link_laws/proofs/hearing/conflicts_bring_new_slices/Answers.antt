-- The law is told as it is proved.
use Rattle.link_laws.proofs.MoreHeard.{conflicts_bring_new_slices}
use Rattle.link_laws.proofs.hearing.conflicts_bring_new_slices.Goals as goal

pub returns : goal.returns
returns c = conflicts_bring_new_slices
