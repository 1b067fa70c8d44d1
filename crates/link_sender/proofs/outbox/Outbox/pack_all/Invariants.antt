use Rattle.std.proofs.Common.{◌+◌, ◌++◌, List, ℕ, take}
use Rattle.picture_encode.specs.Encoded.{bytes_of_slices}
use Rattle.vc_types.specs.SenderSettings.{packing_view}
use Rattle.link_sender.specs.declared.outbox.Outbox.{Outbox}
use Rattle.link_sender.specs.Runs.{EndsRun, PacksSlices}
use Rattle.link_sender.proofs.outbox.Outbox.pack_all.Given as goal

abbrev pub invariant-loop-number : goal.invariant-loop-number
invariant-loop-number l = record {
  run : EndsRun (packing_view l.p.settings) (l.fn.run.first + l.fn.run.count + l.number) l.run;
  packed : (before : List (List ℕ)) (first : Outbox) → PacksSlices l.p before first l.fn.self l.fn.run → PacksSlices l.p (before ++ take l.number (bytes_of_slices l.slices)) first l.self l.run;
}
