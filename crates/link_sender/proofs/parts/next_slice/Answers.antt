use Rattle.link_sender.proofs.Cutting.{cut_within}
use Rattle.link_sender.proofs.parts.next_slice.Goals as goal

pub split_at-requires : goal.split_at-requires
split_at-requires c = cut_within c.args.plan.now.prefix c.args.plan.now.scaler c.in-Ok.len c.args.bytes.now c.in-Ok.ensures.value
