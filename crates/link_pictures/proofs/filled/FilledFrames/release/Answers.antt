use Rattle.std.proofs.Common.{◌≡◌, true, false, sym, subst, ◌∙◌, arith}
use Rattle.std.specs.Option.{option_map}
use Rattle.std.specs.Prelude.{is_some}
use Rattle.fill_model.proofs.Repeats.{filled_nothing, last_nothing}
use Rattle.link_pictures.proofs.MadeFrames.{made_filled, made_last}
use Rattle.receiver_model.specs.Releasing.{released_frame}
use Rattle.vc_ports.proofs.Growing.{Grew-none}
use Rattle.vc_ports.specs.Writing.{Grew, GrewBySome}
use Rattle.vc_types.specs.Planes.{planes_in}
use Rattle.vc_types.specs.SequenceHeader.{sequence_of}
use Rattle.link_pictures.proofs.filled.FilledFrames.release.Goals as goal

pub returns-then-not-shown-clause-value : goal.returns-then-not-shown-clause-value
returns-then-not-shown-clause-value g c =
    let s = sequence_of c.args.header.now in
    let frame = released_frame s c.args.field.now c.args.number (option_map planes_in c.args.planes) in
    let none : is_some frame ≡ false = grind (arith, c.in-Ok.ensures.has_frame, c.if-not-shown.true) in
    sym (last_nothing c.args.self.now s c.args.number frame none)

pub returns-then-not-shown-clause-ok : goal.returns-then-not-shown-clause-ok
returns-then-not-shown-clause-ok g c =
    let s = sequence_of c.args.header.now in
    let frame = released_frame s c.args.field.now c.args.number (option_map planes_in c.args.planes) in
    let none : is_some frame ≡ false = grind (arith, c.in-Ok.ensures.has_frame, c.if-not-shown.true) in
    let held = g.O.Sink.held c.args.sink.now in
    subst (Grew held held) (sym (filled_nothing c.args.self.now s c.args.number frame none))
    (Grew-none held)

pub returns-in-Ok-write-clause-value : goal.returns-in-Ok-write-clause-value
returns-in-Ok-write-clause-value g c =
    let s = sequence_of c.args.header.now in
    let frame = released_frame s c.args.field.now c.args.number (option_map planes_in c.args.planes) in
    let there : is_some frame ≡ true = grind (arith, c.in-Ok.ensures.has_frame, c.if-not-shown.false) in
    c.in-Ok-write.ensures.value ∙ sym (made_last c.args.self.now s c.args.number c.frame_number.result
    frame _ _ there c.new-frame.ensures c.in-Ok.ensures.ok c.frame_number.ensures)

pub returns-in-Ok-write-clause-ok : goal.returns-in-Ok-write-clause-ok
returns-in-Ok-write-clause-ok g c =
    let s = sequence_of c.args.header.now in
    let frame = released_frame s c.args.field.now c.args.number (option_map planes_in c.args.planes) in
    let there : is_some frame ≡ true = grind (arith, c.in-Ok.ensures.has_frame, c.if-not-shown.false) in
    subst (Grew (g.O.Sink.held c.args.sink.now) (g.O.Sink.held c.write.new.sink))
    (sym (made_filled c.args.self.now s c.args.number c.frame_number.result frame _ _ there
    c.new-frame.ensures c.in-Ok.ensures.ok c.frame_number.ensures)) c.in-Ok-write.ensures.ok

pub returns-in-Err-clause-err : goal.returns-in-Err-clause-err
returns-in-Err-clause-err g c =
    let s = sequence_of c.args.header.now in
    let frame = released_frame s c.args.field.now c.args.number (option_map planes_in c.args.planes) in
    let there : is_some frame ≡ true = grind (arith, c.in-Ok.ensures.has_frame, c.if-not-shown.false) in
    subst (GrewBySome (g.O.Sink.held c.args.sink.now) (g.O.Sink.held c.write.new.sink))
    (sym (made_filled c.args.self.now s c.args.number c.frame_number.result frame _ _ there
    c.new-frame.ensures c.in-Ok.ensures.ok c.frame_number.ensures)) c.in-Err.ensures.err
