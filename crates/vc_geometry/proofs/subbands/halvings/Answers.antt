use Rattle.std.proofs.Common.{arith}
use Rattle.vc_types.proofs.SubbandOrder.{subband_at-level}
use Rattle.vc_geometry.proofs.subbands.halvings.Goals as goal

pub returns-clause-width : goal.returns-clause-width
returns-clause-width c = grind (arith, subband_at-level)

pub returns-clause-height : goal.returns-clause-height
returns-clause-height c = grind (arith, subband_at-level)
