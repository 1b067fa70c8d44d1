use Rattle.std.proofs.Common.{rules, ◌≢◌, ◌∙◌, None, sym}
use Rattle.vc_units.specs.Reading.{unit_of}
use Rattle.cmd_stream.specs.PlayViews.{playback_state, player_state}
use Rattle.cmd_stream.proofs.PlayBringing.{brings-agreed, brings-picture, brings-no-stream, brings-other, brings-other-coding, agrees-few}
use Rattle.cmd_stream.proofs.player.Player.take.Goals as goal

pub returns-in-0-clause-brought : goal.returns-in-0-clause-brought
returns-in-0-clause-brought g c stream is =
    brings-agreed stream (unit_of c.args.unit) (player_state c.args.self.now) (player_state c.agree.new.self) (g.O.Sink.held c.args.output.now) c.agree.result c.in-0.is is (rw c.deref.ensures.value at c.agree.ensures.value)

pub returns-in-0-clause-few : goal.returns-in-0-clause-few
returns-in-0-clause-few g c = agrees-few (player_state c.args.self.now) (player_state c.agree.new.self) c.deref.result.now c.agree.result c.agree.ensures.value

pub returns-in-Some-clause-brought : goal.returns-in-Some-clause-brought
returns-in-Some-clause-brought g c stream is =
    brings-picture stream (unit_of c.args.unit) (playback_state c.in-Some.stream) (playback_state c.show.new.self) (g.O.Sink.held c.args.output.now) (g.O.Sink.held c.show.new.output) c.show.result
    (c.if-unit-picture_code.true ∙ c.picture_code.ensures) (rw c.in-Some.is at is) c.show.ensures.value

pub returns-in-Some-2-clause-brought : goal.returns-in-Some-2-clause-brought
returns-in-Some-2-clause-brought g c stream is =
    brings-other-coding stream (unit_of c.args.unit) (playback_state c.in-Some.stream) None (g.O.Sink.held c.args.output.now) c.in-232.is (rw c.in-Some.is at is)
    (λ same. c.if-unit-picture_code.false (same ∙ sym c.picture_code.ensures))

pub returns-in-None-clause-brought : goal.returns-in-None-clause-brought
returns-in-None-clause-brought g c stream is = brings-no-stream stream (unit_of c.args.unit) None (g.O.Sink.held c.args.output.now) c.in-232.is (rw c.in-None.is at is)

pub returns-in_default-clause-brought : goal.returns-in_default-clause-brought
returns-in_default-clause-brought g c stream is =
    let header : c.args.unit.code ≢ 0 = search rules in
    let picture : c.args.unit.code ≢ 0xE8 = search rules in
    let low : c.args.unit.code ≢ 0xC8 = search rules in
    let held = g.O.Sink.held c.args.output.now in
    rw is (brings-other stream (unit_of c.args.unit) held header picture low)
