use Rattle.std.proofs.Common.{◌∙◌, SFits, rules}
use Rattle.std.specs.Int.{w32}
use Rattle.std.proofs.lemmas.Int.{to_z-of_z}
use Rattle.rtcp_reports.proofs.Blocks.{block_read}
use Rattle.rtcp_reports.proofs.read.read_block.Goals as goal

pub returns : goal.returns
returns c =
    let fits : SFits w32 c.read_i24.result = search rules in
    block_read c.args.bytes.now c.read_u32.result c.read_u32-2.result _ c.read_u32.ensures
    (to_z-of_z w32 c.read_i24.result fits ∙ c.read_i24.ensures) c.read_u32-2.ensures
