use Rattle.cmd_gen.proofs.States.{samples_below}
use Rattle.cmd_gen.proofs.laws.samples_have_their_bits.Goals as goal

pub returns : goal.returns
returns c = samples_below
