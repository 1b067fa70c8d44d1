use Rattle.std.proofs.Common.{◌≡◌, ◌≤◌, ◌*◌}
use Rattle.cmd_gen.specs.Generating.{raw_bytes_of_frames}
use Rattle.cmd_gen.specs.Defaults.{shape_of_frames}
use Rattle.cmd_gen.specs.Generator.{frame_samples, generated_frames, state_behind}
use Rattle.vc_ports.specs.Writing.{Grew}
use Rattle.vc_types.specs.SenderSettings.{generating_view}
use Rattle.cmd_gen.proofs.generating.generate.Given as goal

abbrev pub invariant-loop-frame : goal.invariant-loop-frame
invariant-loop-frame g l = record {
  state : l.state ≡ state_behind l.g.seed (l._frame * frame_samples (shape_of_frames (generating_view l.g).frames));
  wrote : Grew (g.O.Sink.held l.fn.output) (g.O.Sink.held l.output)
      (raw_bytes_of_frames (shape_of_frames (generating_view l.g).frames) (generated_frames (shape_of_frames (generating_view l.g).frames) l.g.seed l._frame));
  later : g.O.Sink.faults l.fn.output ≤ g.O.Sink.faults l.output;
}
