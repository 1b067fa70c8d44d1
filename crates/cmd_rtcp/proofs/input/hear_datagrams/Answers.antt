use Rattle.std.proofs.Common.{arith}
use Rattle.link_hearing.proofs.HeardInputs.{input_apart}
use Rattle.vc_ports.specs.Changes.{input_of}
use Rattle.cmd_rtcp.proofs.Concluded.{puts, ready}
use Rattle.cmd_rtcp.specs.Writings.{writing_state}
use Rattle.cmd_rtcp.proofs.input.hear_datagrams.Goals as goal

pub returns : goal.returns
returns g c =
    let heard = input_apart _ c.args.part.now.form c.args.part.now.packets _ _ _ _ _ c.hear_input.ensures in
    let input = input_of g.I.Source.left g.I.Source.faults c.args.input.now c.hear_input.new.input in
    let x = writing_state g.O.Sink.held g.O.Sink.faults c.args.writing.now in
    let y = writing_state g.O.Sink.held g.O.Sink.faults c.hear_input.new.listener in
    let puts_so = puts g.S.Scribe.has_heard g.S.Scribe.due x (g.met.S.Scribe.none _) c.requires.new c.requires.none
    c.args.part.now.form c.args.part.now.packets (omega arith) input y c.hear_input.result heard.1 in
    record {
      borrows_scribe = heard.0.0;
      borrows_output = heard.0.1;
      ready = ready g.S.Scribe.has_heard g.S.Scribe.due x (g.met.S.Scribe.none _) c.requires.new c.requires.none
          c.args.part.now.form c.args.part.now.packets (omega arith) input y c.hear_input.result puts_so;
      puts = puts_so;
    }
