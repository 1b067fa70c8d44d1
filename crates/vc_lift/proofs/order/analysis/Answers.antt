use Rattle.std.proofs.Common.{ap}
use Rattle.vc_lift.specs.CountedSteps.{undone}
use Rattle.vc_lift.proofs.CountedSteps.{counted_steps, same_rows}
use Rattle.vc_lift.proofs.LineGrowth.{analysis_little}
use Rattle.vc_lift.proofs.order.analysis.Goals as goal

pub invariant_of-result : goal.invariant_of-result
invariant_of-result c =
    record {
      little = rw (same_rows c.args.wavelet c.rows.result.now c.rows.ensures)
          (analysis_little c.args.wavelet);
    }

pub returns : goal.returns
unfolding counted_steps
returns c = ap undone (same_rows c.args.wavelet c.rows.result.now c.rows.ensures)
