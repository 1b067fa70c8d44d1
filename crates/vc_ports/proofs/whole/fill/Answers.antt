use Rattle.std.proofs.Common.{arith, take, length-append}
use Rattle.vc_ports.specs.Reading.{Gave}
use Rattle.vc_ports.proofs.Given.{Gave-next}
use Rattle.vc_ports.proofs.whole.fill.Goals as goal

pub pieces-preserved : goal.pieces-preserved
pieces-preserved g c =
    let front = c.split_at_mut-rest.result.0.now in
    let given : Gave (g.S.Source.left c.args.source.now) (g.S.Source.left c.pieces.source) front = rw c.split_at_mut-rest.ensures.front c.pieces.invariant.gave in
    let came : Gave (g.S.Source.left c.pieces.source) (g.S.Source.left c.read.new.self) (take c.in-Bytes.count c.read.new.buf) = c.in-Bytes.ensures.bytes.2 in
    record {
      within = simp length-append (omega (arith, c.split_at_mut-rest.ensures.front_len, c.split_at_mut-rest.ensures.back_len, c.in-Bytes.ensures.bytes.1));
      gave = Gave-next c.pieces.at c.in-Bytes.count front c.read.new.buf _ _ _ c.split_at_mut-rest.ensures.front_len given came;
      later = omega (arith, c.pieces.invariant.later, c.in-Bytes.ensures.cause.later);
      ends = omega (arith, c.pieces.invariant.ends, c.in-Bytes.ensures.end.later);
    }
