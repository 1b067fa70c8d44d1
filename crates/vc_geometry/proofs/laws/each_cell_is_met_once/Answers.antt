use Rattle.std.proofs.Common.{arith}
use Rattle.vc_types.proofs.PlacesMet.{met_once}
use Rattle.vc_types.proofs.SliceCounts.{some_across, some_down}
use Rattle.vc_geometry.proofs.laws.each_cell_is_met_once.Goals as goal

pub returns : goal.returns
returns c = grind (arith, met_once, some_across, some_down)
