use Rattle.std.proofs.Common.{arith, refl, ◌∙◌}
use Rattle.link_receiver.proofs.KeptRuns.{takes_all, takes_more}
use Rattle.link_receiver.proofs.reception.Reception.make_own.Goals as goal

pub loop-k-init : goal.loop-k-init
loop-k-init g c = record { value = refl; out = refl }

pub loop-k-preserved : goal.loop-k-preserved
loop-k-preserved g c = record {
  value = takes_more _ _ _ c.args.job.now c.loop-k.k (omega arith) c.loop-k.invariant.value c.in_ok-make_slice.ensures.made;
  out = c.make_slice.ensures.out ∙ c.loop-k.invariant.out;
}

pub returns-clause-made : goal.returns-clause-made
returns-clause-made g c = takes_all _ _ c.args.job.now c.loop-k.k (omega arith) c.loop-k.invariant.value
