use Rattle.std.proofs.Common.{◌≡◌, ◌<◌, ℕ, subst, arith}
use Rattle.fill_model.proofs.Repeats.{repeated_none}
use Rattle.fill_model.specs.Filled.{repeated}
use Rattle.link_pictures.proofs.MadeFrames.{once_more, cut_short}
use Rattle.vc_ports.proofs.Growing.{Grew-none}
use Rattle.vc_ports.specs.Writing.{Grew}
use Rattle.vc_types.proofs.Failures.{on_err}
use Rattle.link_pictures.proofs.filled.write_again.Goals as goal

pub loop-init : goal.loop-init
loop-init g c = record {
  grew = rw (repeated_none c.args.bytes.now) (Grew-none (g.O.Sink.held c.args.sink.now));
  most = omega arith;
  later = omega arith;
}

pub loop-preserved : goal.loop-preserved
loop-preserved g c = record {
  grew = once_more _ _ _ c.loop.counter c.args.bytes.now c.loop.invariant.grew
      c.in_ok-write_all.ensures.ok;
  most = omega (arith, c.loop-test.true);
  later = omega (arith, c.loop.invariant.later, c.write_all.ensures.cause.later);
}

pub returns-in_err-write_all-clause-err : goal.returns-in_err-write_all-clause-err
returns-in_err-write_all-clause-err g c =
    let less : c.loop.counter < c.args.times =
    omega (arith, c.loop-test.true) in
    on_err _ _ (cut_short _ _ _ c.loop.counter c.args.bytes.now c.loop.invariant.grew c.args.times
    less c.in_err-write_all.ensures.err)

pub returns-clause-ok : goal.returns-clause-ok
returns-clause-ok g c =
    let all : c.loop.counter ≡ c.args.times =
    omega (arith, c.loop.invariant.most, c.loop-test.false) in
    subst (λ (k : ℕ). Grew (g.O.Sink.held c.args.sink.now) (g.O.Sink.held c.loop.sink)
    (repeated k c.args.bytes.now)) all c.loop.invariant.grew
