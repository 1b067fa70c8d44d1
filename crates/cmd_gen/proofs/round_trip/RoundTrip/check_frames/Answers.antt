use Rattle.cmd_gen.specs.Looping.{ChecksFrames, HasChecked}
use Rattle.std.specs.Prelude.{Result, length}
use Rattle.link_report.specs.declared.ending.Ending.{Ending}
use Rattle.std.proofs.Common.{◌≡◌, ◌+◌, ◌*◌, ◌^◌, ◌<◌, ◌∙◌, ℕ, Err, ap, subst, sym, refl, rules, arith}
use Rattle.cmd_gen.proofs.FrameSteps.{none_checked, one_more_checked, one_refused}
use Rattle.cmd_gen.proofs.Frames.{behind_one_frame_more, generated_count}
use Rattle.cmd_gen.proofs.SizedFrames.{is_frame}
use Rattle.cmd_gen.specs.Defaults.{shape_of_frames}
use Rattle.cmd_gen.specs.Generator.{frame_samples, generated_frames, state_behind}
use Rattle.link_model.specs.SendingPictures.{IsFrame}
use Rattle.link_receiver.proofs.Asked.{asked_none, asked_twice}
use Rattle.vc_types.specs.SenderSettings.{generating_view}
use Rattle.cmd_gen.proofs.round_trip.RoundTrip.check_frames.Goals as goal

pub loop-frame-init : goal.loop-frame-init
unfolding state_behind
loop-frame-init g c =
    let n = frame_samples (shape_of_frames (generating_view c.args.g.now).frames) in
    record {
      state = c.from-state.ensures ∙ (let none : 0 ≡ 0 * n = omega arith in ap (state_behind c.args.g.now.seed) none);
      settings = refl;
      chooser = refl;
      checked = λ window checked. none_checked (generating_view c.args.g.now) window c.args.self.now.sender c.args.self.now.checker c.requires.sent checked;
      told = asked_none _;
      below = c.requires.below;
    }

pub check_frame-requires-clause-sizes : goal.check_frame-requires-clause-sizes
check_frame-requires-clause-sizes g c = λ κs lives.
    let f = (generating_view c.args.g.now).frames in
    rw (c.loop-frame.invariant.settings, c.requires.sent.settings_are)
    (subst (IsFrame _) (sym c.in-Ok.ensures.frame) (is_frame f c.loop-frame.state))

pub check_frame-requires-clause-range : goal.check_frame-requires-clause-range
check_frame-requires-clause-range g c = λ κs lives. rw c.loop-frame.invariant.chooser c.requires.range

pub check_frame-requires-clause-chooses : goal.check_frame-requires-clause-chooses
check_frame-requires-clause-chooses g c = λ κs lives. rw (c.loop-frame.invariant.chooser, c.loop-frame.invariant.settings) c.requires.chooses

pub returns-in_err-check_frame-clause-told : goal.returns-in_err-check_frame-clause-told
returns-in_err-check_frame-clause-told g c = asked_twice _ _ _ c.loop-frame.invariant.told c.in_err-check_frame.ensures.told

pub returns-in_err-check_frame-clause-value : goal.returns-in_err-check_frame-clause-value
returns-in_err-check_frame-clause-value g c = λ window checked.
    let gen = generating_view c.args.g.now in
    let shape = shape_of_frames gen.frames in
    let k = c.loop-frame._frame in
    let at = c.loop-frame.invariant.checked window checked in
    let small : length (generated_frames shape c.args.g.now.seed k) + 1 < 2 ^ 32 = omega (arith, generated_count shape c.args.g.now.seed k, c.loop-frame-test.true) in
    let end = c.in_err-check_frame.field-0.0 in
    let refused = c.in_err-check_frame.ensures.value gen window (generated_frames shape c.args.g.now.seed k) small at in
    let same : c.from_residual.result ≡ Err end = search rules in
    subst (λ (r : Result (Unit {0}) Ending). ChecksFrames gen window c.check_frame.new.self.sender c.check_frame.new.self.checker r) (sym same)
    (one_refused gen c.args.g.now.range_is_known k c.loop-frame.state (omega (arith, c.loop-frame-test.true)) c.loop-frame.invariant.state _ c.in-Ok.ensures.frame end at.sent.sendable refused)

pub loop-frame-preserved : goal.loop-frame-preserved
loop-frame-preserved g c =
    let gen = generating_view c.args.g.now in
    let shape = shape_of_frames gen.frames in
    let k = c.loop-frame._frame in
    let small : length (generated_frames shape c.args.g.now.seed k) + 1 < 2 ^ 32 = omega (arith, generated_count shape c.args.g.now.seed k, c.loop-frame-test.true) in
    record {
      state = c.in-Ok.ensures.state ∙ ap (λ (z : ℕ). state_behind z (frame_samples shape)) c.loop-frame.invariant.state ∙ behind_one_frame_more shape c.args.g.now.seed k;
      settings = c.in_ok-check_frame.ensures.settings ∙ c.loop-frame.invariant.settings;
      chooser = c.in_ok-check_frame.ensures.chooser ∙ c.loop-frame.invariant.chooser;
      checked = λ window checked.
          let at = c.loop-frame.invariant.checked window checked in
          one_more_checked gen window k c.loop-frame.state _ _ _ c.loop-frame.invariant.state c.in-Ok.ensures.frame (c.in_ok-check_frame.ensures.value gen window (generated_frames shape c.args.g.now.seed k) small at);
      told = asked_twice _ _ _ c.loop-frame.invariant.told c.in_ok-check_frame.ensures.told;
      below = c.in_ok-check_frame.ensures.below;
    }

pub returns-clause-value : goal.returns-clause-value
returns-clause-value g c = λ window checked.
    let gen = generating_view c.args.g.now in
    let shape = shape_of_frames gen.frames in
    let all : c.loop-frame._frame ≡ c.args.g.now.frames = omega (arith, c.loop-frame-test.false, c.loop-frame.auto._frame-end) in
    subst (λ (n : ℕ). HasChecked gen window (generated_frames shape c.args.g.now.seed n) c.loop-frame.self.sender c.loop-frame.self.checker) all (c.loop-frame.invariant.checked window checked)
