use Rattle.std.proofs.Common.{rules}
use Rattle.vc_wave.proofs.PlaneSteps.{rows_none, row_bound, rows_more}
use Rattle.vc_wave.proofs.Weaving.{remade_pass}
use Rattle.vc_wave.proofs.narrow_analysis.part_rows.Goals as goal

pub loop-y-init : goal.loop-y-init
loop-y-init c = search (rules, rows_none)

pub part_row-requires-clause-bound : goal.part_row-requires-clause-bound
part_row-requires-clause-bound c = search (rules, row_bound, remade_pass)

pub loop-y-preserved : goal.loop-y-preserved
loop-y-preserved c = search (rules, rows_more, remade_pass)
