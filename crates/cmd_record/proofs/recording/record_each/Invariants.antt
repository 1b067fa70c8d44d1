use Rattle.std.proofs.Common.{◌≡◌, IsTrue, List, ℕ, length}
use Rattle.vc_ports.specs.Changes.{output_of, wire_of}
use Rattle.cmd_record.proofs.RecordLoop.{IsAt}
use Rattle.cmd_record.proofs.recording.record_each.Given as goal

abbrev pub invariant-loop-place : goal.invariant-loop-place
invariant-loop-place g l = record {
  listens : IsTrue (g.N.Wire.told l.wire).listens;
  room : length l.buffer ≡ 65535;
  at : (heard : List (List ℕ)) × IsAt l.fn.recorder.sessions l._place l.recorder
      (wire_of g.N.Wire.told g.N.Wire.faults l.fn.wire l.wire)
      (output_of g.O.Sink.held g.O.Sink.faults l.fn.output l.output) heard;
}
