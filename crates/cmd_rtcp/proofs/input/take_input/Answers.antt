use Rattle.std.proofs.Common.{rules}
use Rattle.vc_ports.specs.Changes.{input_of}
use Rattle.cmd_rtcp.proofs.Concluded.{lent_back, took_input}
use Rattle.cmd_rtcp.specs.Writings.{writing_state}
use Rattle.cmd_rtcp.proofs.input.take_input.Goals as goal

pub returns : goal.returns
returns g c =
    let was = c.new-writing.ensures in
    let first = c.new-writing.result in
    let heard = c.hear_datagrams-heard in
    let out = c.conclude.new.writing in
    let input = input_of g.I.Source.left g.I.Source.faults c.args.input.now heard.new.input in
    let x = writing_state g.O.Sink.held g.O.Sink.faults first in
    let mid = writing_state g.O.Sink.held g.O.Sink.faults heard.new.writing in
    let y = writing_state g.O.Sink.held g.O.Sink.faults out in
    lent_back _ _ g.O.Sink.held g.O.Sink.faults g.S.Scribe.has_ended g.S.Scribe.due c.args.scribe.now first.scribe.now out.scribe.now _
    c.args.output.now first.output.now out.output.now _ c.args.part.now.form c.args.part.now.packets input c.conclude.result
    (took_input g.S.Scribe.has_heard g.S.Scribe.due x (g.met.S.Scribe.none _) (rw was.scribe c.requires) was.none
    g.S.Scribe.has_ended mid y c.args.part.now.form c.args.part.now.packets input heard.result heard.ensures.puts c.conclude.result c.conclude.ensures.concludes)
    was.scribe was.output (search rules) (search rules)
