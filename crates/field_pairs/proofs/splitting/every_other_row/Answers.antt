use Rattle.std.proofs.Common.{arith, ◌∙◌, sym}
use Rattle.std.proofs.lemmas.Slice.{pushed}
use Rattle.field_pairs.proofs.Fields.{field_none, field_more, field_whole, chosen}
use Rattle.field_pairs.proofs.RowsOfRasters.{length-raster}
use Rattle.field_pairs.proofs.splitting.every_other_row.Goals as goal

pub loop-row-init : goal.loop-row-init
loop-row-init c = c.in_ok-samples.ensures.items ∙ sym (field_none c.args.frame.now c.args.first)

pub loop-row-preserved : goal.loop-row-preserved
loop-row-preserved c = field_more c.args.frame.now c.args.first c.loop-row.row _ _ c.row_of.ensures.value (pushed _ c.loop-row.invariant c.in_ok-extend_from_slice.was c.extend_from_slice.ensures.items)

pub new-requires : goal.new-requires
new-requires c = grind (arith, chosen, length-raster)

pub returns : goal.returns
returns c = field_whole c.args.frame.now c.new.result c.args.first _ _ c.loop-row.row _ c.new.ensures c.width.ensures (omega arith) (omega arith) c.loop-row.invariant
