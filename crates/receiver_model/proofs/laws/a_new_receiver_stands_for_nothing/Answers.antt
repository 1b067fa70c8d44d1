use Rattle.receiver_model.proofs.NewReception.{new_stands}
use Rattle.receiver_model.proofs.laws.a_new_receiver_stands_for_nothing.Goals as goal

pub returns : goal.returns
returns c = new_stands
