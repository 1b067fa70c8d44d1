-- A new receiver stands for a feeder that heard nothing.
use Rattle.std.proofs.Common.{ℕ, arith}
use Rattle.machine_model.specs.Feeders.{new_feeder, let_go_pictures}
use Rattle.link_model.specs.Judgement.{outcomes_behind}
use Rattle.link_model.specs.Output.{output_so_far, last_so_far}
use Rattle.receiver_model.specs.Receptions.{new_reception}
use Rattle.receiver_model.specs.Standing.{StandsFor}

pub new_stands : (size : ℕ) → StandsFor (new_reception size) size new_feeder
unfolding outcomes_behind let_go_pictures output_so_far last_so_far
new_stands size = grind arith
