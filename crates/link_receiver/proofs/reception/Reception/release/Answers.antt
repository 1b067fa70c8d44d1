use Rattle.std.proofs.Common.{subst}
use Rattle.link_pictures.specs.Outputs.{released_output}
use Rattle.link_receiver.proofs.Steps.{shown_output}
use Rattle.link_window.specs.Views.{releasable_of}
use Rattle.receiver_model.specs.Receptions.{Reception}
use Rattle.vc_ports.proofs.Growing.{GrewBySome-all}
use Rattle.vc_ports.specs.Writing.{Grew, GrewBySome}
use Rattle.vc_types.proofs.Failures.{on_err}
use Rattle.link_receiver.proofs.reception.Reception.release.Goals as goal

pub returns-in_err-self-inside-clause-err : goal.returns-in_err-self-inside-clause-err
returns-in_err-self-inside-clause-err g c =
    let before = g.O.Sink.held c.args.sink.now in
    let behind = g.O.Sink.held c.show.new.sink in
    on_err _ _ (subst (λ (r : Reception). GrewBySome before behind
    (released_output c.args.written.now r (releasable_of c.args.picture))) c.self.view_is
    (GrewBySome-all before behind _ (subst (Grew before behind)
    (shown_output _ _ (releasable_of c.args.picture) c.in-Some.is c.args.written.now)
    c.in_ok-seen.ensures.wrote.ok)))
