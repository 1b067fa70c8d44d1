use Rattle.std.proofs.Common.{◌≡◌, sym, subst}
use Rattle.std.specs.Prelude.{Result}
use Rattle.link_outside.specs.Outlets.{SentAll, SentPart}
use Rattle.cmd_send.proofs.Carrying.{sends_all, sends_weaker}
use Rattle.cmd_send.specs.Sends.{SendsFrames}
use Rattle.link_report.specs.declared.ending.Ending.{Ending}
use Rattle.link_report.specs.declared.summary.Summary.{Summary}
use Rattle.vc_ports.specs.Changes.{input_of, wire_of}
use Rattle.vc_types.specs.SenderSettings.{sending_view}
use Rattle.cmd_send.proofs.over_wire.send_through.Goals as goal

pub returns-clause-borrows : goal.returns-clause-borrows
returns-clause-borrows g c =
    sends_all (c.send_frames-sent.new.outlet.wire.ghost_name ≡ c.args.outlet.now.wire.ghost_name) (sending_view c.args.options.now.sender) c.args.options.now.frames _ _ _ (λ datagrams w. w.0) (λ datagrams fault w. w.0) _ c.send_frames-sent.ensures

pub returns-clause-sends : goal.returns-clause-sends
returns-clause-sends g c =
    let wire = wire_of g.N.Wire.told g.N.Wire.faults c.args.outlet.now.wire.now c.send_frames-sent.new.outlet.wire.now in
    subst (λ (a : Result Summary Ending). SendsFrames (sending_view c.args.options.now.sender) c.args.options.now.frames a (input_of g.S.Source.left g.S.Source.faults c.args.input.now c.send_frames-sent.new.input) (SentAll wire) (SentPart wire)) (sym c.answer.ensures)
    (sends_weaker (sending_view c.args.options.now.sender) c.args.options.now.frames _ _ (SentAll wire) _ (SentPart wire) (λ datagrams w. w.1) (λ datagrams fault w. w.1) _ c.send_frames-sent.ensures)
