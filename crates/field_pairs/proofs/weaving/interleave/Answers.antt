use Rattle.std.proofs.Common.{arith, ◌∙◌, sym}
use Rattle.std.proofs.lemmas.Slice.{pushed}
use Rattle.field_pairs.proofs.Fields.{frame_none, frame_more, frame_whole, field_row}
use Rattle.field_pairs.proofs.RowsOfRasters.{length-raster}
use Rattle.field_pairs.proofs.weaving.interleave.Goals as goal

pub loop-row-init : goal.loop-row-init
loop-row-init c = c.in_ok-samples.ensures.items ∙ sym (frame_none c.args.even.now c.args.odd.now)

pub loop-row-preserved : goal.loop-row-preserved
loop-row-preserved c = grind (arith, frame_more, pushed)

pub new-requires : goal.new-requires
new-requires c = grind (arith, field_row, length-raster)

pub returns : goal.returns
returns c = frame_whole c.args.even.now c.args.odd.now c.new.result _ _ c.loop-row.row _ c.new.ensures c.width.ensures (omega arith) (omega arith) c.loop-row.invariant
