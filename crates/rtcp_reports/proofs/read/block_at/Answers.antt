use Rattle.std.proofs.Common.{◌≡◌, ◌∙◌, ap, arith}
use Rattle.rtcp_reports.specs.Rtcp.{fixed_size, blocks_place}
use Rattle.rtcp_reports.proofs.Rooms.{room_for_blocks}
use Rattle.rtcp_reports.proofs.read.block_at.Goals as goal

pub split_at-requires : goal.split_at-requires
split_at-requires c =
    let room = room_for_blocks c.args.bytes.now c.args.v.now c.requires.view in
    let place : c.fixed_size.result ≡ blocks_place c.args.v.now = c.fixed_size.ensures ∙ ap fixed_size c.is_some.ensures in
    omega arith

pub read_block-requires : goal.read_block-requires
read_block-requires c =
    let room = room_for_blocks c.args.bytes.now c.args.v.now c.requires.view in
    let place : c.fixed_size.result ≡ blocks_place c.args.v.now = c.fixed_size.ensures ∙ ap fixed_size c.is_some.ensures in
    omega arith
