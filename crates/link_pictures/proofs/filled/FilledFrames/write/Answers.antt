use Rattle.vc_ports.proofs.Growing.{GrewBySome-then}
use Rattle.vc_types.proofs.Failures.{on_err}
use Rattle.link_pictures.proofs.filled.FilledFrames.write.Goals as goal

pub returns-in_err-write_all-clause-err : goal.returns-in_err-write_all-clause-err
returns-in_err-write_all-clause-err g c = on_err _ _ (GrewBySome-then
    (g.O.Sink.held c.args.sink.now) (g.O.Sink.held c.fill.new.sink)
    (g.O.Sink.held c.write_all.new.sink) _ _ c.in_ok-fill.ensures.ok
    (rw c.deref.ensures.value at c.in_err-write_all.ensures.err))
