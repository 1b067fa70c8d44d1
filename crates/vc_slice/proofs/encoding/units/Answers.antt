use Rattle.vc_slice.proofs.EncodedSlices.{few_units, fit_at}
use Rattle.vc_slice.proofs.encoding.units.Goals as goal

pub returns-clause-range : goal.returns-clause-range
returns-clause-range c = fit_at c.args.bits c.args.plan.now.scaler c.from-scaler.result c.from-scaler.ensures (few_units c.args.plan.now.prefix c.args.plan.now.scaler c.args.plan.now.slice_bytes) c.requires.range
