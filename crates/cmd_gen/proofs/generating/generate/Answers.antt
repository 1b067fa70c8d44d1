use Rattle.std.proofs.Common.{◌≡◌, ◌<◌, ℕ, Err, ap, subst, ◌∙◌, arith}
use Rattle.std.specs.Prelude.{Result}
use Rattle.cmd_gen.proofs.Writing.{none_behind, none_written, stopped, written_more}
use Rattle.cmd_gen.specs.Generating.{raw_bytes_of_frames}
use Rattle.cmd_gen.specs.Steps.{next_bytes}
use Rattle.cmd_gen.proofs.Frames.{behind_one_frame_more}
use Rattle.cmd_gen.specs.Defaults.{shape_of_frames}
use Rattle.cmd_gen.specs.Generator.{frame_samples, generated_frames, state_behind}
use Rattle.link_report.specs.declared.ending.Ending.{Ending}
use Rattle.link_report.specs.declared.ending.Ending.TheVariants as endings
use Rattle.vc_ports.specs.Changes.{output_of}
use Rattle.vc_ports.specs.Writing.{Grew}
use Rattle.vc_types.specs.SenderSettings.{generating_view}
use Rattle.cmd_gen.proofs.generating.generate.Goals as goal

pub loop-frame-init : goal.loop-frame-init
loop-frame-init g c =
    let shape = shape_of_frames (generating_view c.args.g.now).frames in
    record {
      state = c.from-state.ensures ∙ none_behind shape c.args.g.now.seed;
      wrote = none_written shape c.args.g.now.seed (g.O.Sink.held c.args.output.now);
      later = omega arith;
    }

pub loop-frame-preserved : goal.loop-frame-preserved
loop-frame-preserved g c =
    let shape = shape_of_frames (generating_view c.args.g.now).frames in
    let seed = c.args.g.now.seed in
    let k = c.loop-frame._frame in
    let put = c.in-Ok.ensures.value in
    let mid = g.O.Sink.held c.loop-frame.output in
    let after = g.O.Sink.held c.put_frame.new.output in
    record {
      state = put.1 ∙ ap (λ (z : ℕ). state_behind z (frame_samples shape)) c.loop-frame.invariant.state ∙ behind_one_frame_more shape seed k;
      wrote = written_more shape seed k (g.O.Sink.held c.args.output.now) mid after c.loop-frame.invariant.wrote (subst (λ (z : ℕ). Grew mid after (next_bytes shape z)) c.loop-frame.invariant.state put.0);
      later = omega (arith, c.loop-frame.invariant.later, c.in-Ok.ensures.cause.later);
    }

pub returns-in-Err : goal.returns-in-Err
returns-in-Err g c =
    let room : c.loop-frame._frame < c.args.g.now.frames = omega (arith, c.loop-frame-test.true) in
    let output = output_of g.O.Sink.held g.O.Sink.faults c.args.output.now c.put_frame.new.output in
    record {
      ended = stopped (generating_view c.args.g.now) c.loop-frame._frame c.loop-frame.state (g.O.Sink.held c.loop-frame.output) output room c.loop-frame.invariant.state c.loop-frame.invariant.wrote c.in-Err.ending c.in-Err.ensures.value;
      output_failed = λ e.
          let is : ◌≡◌ {A = Result ℕ Ending} (Err c.in-Err.ending) (Err endings.OutputFailed) = cc e in
          let rose = c.in-Err.ensures.cause.rose is in
          omega (arith, c.loop-frame.invariant.later, rose);
    }

pub returns : goal.returns
returns g c =
    let shape = shape_of_frames (generating_view c.args.g.now).frames in
    let all : c.loop-frame._frame ≡ c.args.g.now.frames = omega (arith, c.loop-frame-test.false, c.loop-frame.auto._frame-end) in
    record {
      ended = record {
        wrote = subst (λ (n : ℕ). Grew (g.O.Sink.held c.args.output.now) (g.O.Sink.held c.loop-frame.output) (raw_bytes_of_frames shape (generated_frames shape c.args.g.now.seed n))) all c.loop-frame.invariant.wrote;
        frames_are = c.from-frames.ensures;
        samples_are = c.samples_of-samples.ensures;
      };
      output_failed = λ e. absurd cc;
    }
