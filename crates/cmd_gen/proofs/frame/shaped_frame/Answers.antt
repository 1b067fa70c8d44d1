use Rattle.cmd_gen.proofs.Frames.{three_planes}
use Rattle.cmd_gen.proofs.frame.shaped_frame.Goals as goal

pub returns-clause-frame : goal.returns-clause-frame
returns-clause-frame c = three_planes c.args.shape.now c.args.state c.in_ok-y.state c.in_ok-c1.state c.in_ok-y.y c.in_ok-c1.c1 c.in_ok-c2.c2 c.in_ok-y.ensures.plane c.in_ok-y.ensures.state c.in_ok-c1.ensures.plane c.in_ok-c1.ensures.state c.in_ok-c2.ensures.plane
