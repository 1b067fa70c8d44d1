use Rattle.std.proofs.Common.{◌≡◌, ◌*◌, ◌≤◌, None}
use Rattle.stream_model.specs.Packed.{PackedSoFar}
use Rattle.cmd_stream.specs.PackLooping.{HasPackedSome}
use Rattle.cmd_stream.specs.PackViews.{CountsFew, IsBehindUnits}
use Rattle.vc_types.specs.SenderSettings.{packing_view}
use Rattle.cmd_stream.proofs.packing.pack_with.Given as goal

abbrev pub invariant-loop-unit : goal.invariant-loop-unit
invariant-loop-unit g l = record {
  borrows : l.reader.source.ghost_name ≡ l.fn.reader.source.ghost_name;
  sound : l.reader.fault ≡ None;
  near : l.reader.place ≤ 268435456 * l._unit;
  behind : (h : PackedSoFar) × IsBehindUnits (packing_view l.fn.packer.settings) h.stream l.packer × (l.reader.place ≡ h.place)
      × HasPackedSome (packing_view l.fn.packer.settings) l.fn.packets l._unit (g.S.Source.left l.fn.reader.source.now) (g.S.Source.left l.reader.source.now) (g.O.Sink.held l.fn.output) (g.O.Sink.held l.output) h;
  few : CountsFew l._unit l.packer;
  input_later : g.S.Source.faults l.fn.reader.source.now ≤ g.S.Source.faults l.reader.source.now;
  output_later : g.O.Sink.faults l.fn.output ≤ g.O.Sink.faults l.output;
}
