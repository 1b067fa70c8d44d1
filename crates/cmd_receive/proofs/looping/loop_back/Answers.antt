use Rattle.cmd_receive.proofs.looping.loop_back.Goals as goal

pub returns : goal.returns
returns g c = c.loop_by.ensures
