use Rattle.vc_wave.specs.Parts.{with_low, held}
use Rattle.vc_wave.proofs.LowCells.{AreBelowLevel}
use Rattle.vc_wave.proofs.lower.merge_levels.Given as goal

abbrev pub invariant-loop-n : goal.invariant-loop-n
invariant-loop-n l = AreBelowLevel l.levels.wavelets.down l.levels.wavelets.across l.levels.nesting.w
    l.levels.nesting.h l.levels.pitch
    (with_low l.levels.nesting.w l.levels.nesting.h l.levels.pitch l.initial.first l.nested) l.nested l.n
    (held l.n l.first l.second)
