use Rattle.std.proofs.Common.{arith}
use Rattle.link_pictures.proofs.RunAnswers.{takes_all, takes_more}
use Rattle.link_pictures.proofs.picture.PictureSlices.make_run.Goals as goal

pub loop-k-preserved : goal.loop-k-preserved
loop-k-preserved c = takes_more _ _ _ c.args.job.now c.loop-k.k (omega arith) c.loop-k.invariant c.in_ok-make_slice.ensures.value

pub returns : goal.returns
returns c = record { value = takes_all _ _ c.args.job.now c.loop-k.k (omega arith) c.loop-k.invariant }
