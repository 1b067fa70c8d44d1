use Rattle.std.proofs.Common.{length, ap, ◌∙◌, ◌*◌}
use Rattle.cmd_gen.proofs.States.{samples_count}
use Rattle.cmd_gen.proofs.frame.gen_plane.Goals as goal

pub new-requires : goal.new-requires
new-requires c = ap length c.in_ok-samples.ensures.samples ∙ samples_count c.args.depth c.args.state (c.args.width * c.args.height)
