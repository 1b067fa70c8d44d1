use Rattle.link_slices.proofs.OutSlices.{below_filter}
use Rattle.link_slices.proofs.runs_out.RunsOut.ask.Goals as goal

pub returns-clause-below : goal.returns-clause-below
returns-clause-below g c =
    rw (c.forget.ensures, c.take.ensures.bound) (below_filter _ _ _ c.requires.below)
