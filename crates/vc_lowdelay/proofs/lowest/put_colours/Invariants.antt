use Rattle.std.proofs.Common.{◌≡◌, ℕ, ◌+◌, ◌*◌}
use Rattle.vc_golomb.specs.Numbers.{number_at}
use Rattle.vc_lowdelay.specs.Placed.{read_at}
use Rattle.vc_lowdelay.proofs.RectReads.{FirstPut}
use Rattle.vc_lowdelay.proofs.lowest.put_colours.Given as goal

abbrev pub invariant-loop-i : goal.invariant-loop-i
invariant-loop-i l = record {
  first : FirstPut l.rect (λ k. read_at l.coded.colour l.quantiser.index (2 * k)) l.fn.c1 l.i l.c1;
  second : FirstPut l.rect (λ k. read_at l.coded.colour l.quantiser.index (2 * k + 1)) l.fn.c2 l.i l.c2;
  rest : (k : ℕ) → number_at l.coded.colour (2 * l.i + k) ≡ number_at l.block k;
}
