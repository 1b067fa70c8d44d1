use Rattle.std.proofs.Common.{List, ℕ, ◌++◌, ap, ◌∙◌}
use Rattle.std.specs.String.{string_bytes}
use Rattle.rtcp_reports.specs.declared.block.Block.{Block}
use Rattle.cmd_rtcp.proofs.Shown.{lines_more}
use Rattle.cmd_rtcp.specs.Showing.{block_line, block_lines}
use Rattle.cmd_rtcp.proofs.text.push_blocks.Goals as goal

pub loop-i-preserved : goal.loop-i-preserved
loop-i-preserved c =
    let front = string_bytes c.args.text.now in
    let before = block_lines c.args.datagram.now c.args.view.now c.loop-i.i in
    c.in_ok-push_block.ensures
    ∙ ap (λ (l : List ℕ). l ++ block_line c.block_at.result) c.loop-i.invariant
    ∙ ap (λ (b : Block). (front ++ before) ++ block_line b) c.block_at.ensures
    ∙ lines_more c.args.datagram.now c.args.view.now front c.loop-i.i
