use Rattle.receiver_model.proofs.UnkeptDatagrams.{unkept_leaves}
use Rattle.receiver_model.proofs.laws.unkept_datagrams_change_nothing.Goals as goal

pub returns : goal.returns
returns c = unkept_leaves
