use Rattle.std.proofs.Common.{length, take}
use Rattle.picture_encode.specs.Encoded.{bytes_of_slices}
use Rattle.vc_types.specs.Fields.{joined}
use Rattle.vc_types.specs.SenderSettings.{packing_view}
use Rattle.link_sender.specs.Runs.{EndsRun, PacksSlices}
use Rattle.link_sender.proofs.outbox.Outbox.put_encoded.Given as goal

abbrev pub invariant-loop-run : goal.invariant-loop-run
invariant-loop-run l = record {
  run : EndsRun (packing_view l.p.settings) (length (joined (take l.run-index l.runs))) l.open;
  packed : PacksSlices l.p (bytes_of_slices (joined (take l.run-index l.runs))) l.fn.self l.self l.open;
}
