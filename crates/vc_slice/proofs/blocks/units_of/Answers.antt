use Rattle.std.proofs.Common.{length}
use Rattle.vc_slice.proofs.EncodedSlices.{some_scaler}
use Rattle.vc_slice.proofs.PaddedBlocks.{enough_bytes}
use Rattle.vc_slice.proofs.blocks.units_of.Goals as goal

pub returns-clause-enough : goal.returns-clause-enough
returns-clause-enough c = enough_bytes (length c.args.block.now) c.args.plan.now.scaler c.from-scaler.result c.from-scaler.ensures (some_scaler c.args.plan.now.prefix c.args.plan.now.scaler c.args.plan.now.slice_bytes)
