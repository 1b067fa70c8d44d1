use Rattle.cmd_stream.proofs.playing.play.Goals as goal

pub returns-in-Ok : goal.returns-in-Ok
returns-in-Ok g c = rw c.summary.ensures c.in-Ok.ensures.plays
