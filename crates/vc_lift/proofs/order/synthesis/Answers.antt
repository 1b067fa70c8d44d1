use Rattle.vc_lift.proofs.CountedSteps.{counted_steps, same_rows}
use Rattle.vc_lift.proofs.LineGrowth.{synthesis_little}
use Rattle.vc_lift.proofs.order.synthesis.Goals as goal

pub invariant_of-result : goal.invariant_of-result
invariant_of-result c =
    record {
      little = rw (same_rows c.args.wavelet c.rows.result.now c.rows.ensures)
          (synthesis_little c.args.wavelet);
    }

pub returns : goal.returns
unfolding counted_steps
returns c = same_rows c.args.wavelet c.rows.result.now c.rows.ensures
