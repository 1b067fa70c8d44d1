use Rattle.std.proofs.Common.{inl, inr, arith}
use Rattle.picture_build.proofs.marking.mark_run.Goals as goal

pub returns : goal.returns
returns c = record {
  on = λ k h. c.loop-k.invariant.on k (omega (arith, h));
  off = λ n out. elim out [
    | inl low ↦ c.loop-k.invariant.off n (inl low)
    | inr high ↦ c.loop-k.invariant.off n (inr (omega (arith, high)))
  ];
  length = c.loop-k.invariant.length;
}
