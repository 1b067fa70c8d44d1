use Rattle.cmd_receive.proofs.receiving.recv.Goals as goal

pub returns : goal.returns
returns g c = c.receive.ensures
