use Rattle.cmd_receive.proofs.playout.Playout.new.Goals as goal

pub returns-clause-well : goal.returns-clause-well
returns-clause-well g c = rw c.requires.new.out tt
