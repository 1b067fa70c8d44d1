use Rattle.std.proofs.Common.{◌≡◌, ℕ, ◌+◌}
use Rattle.vc_golomb.specs.Numbers.{number_at}
use Rattle.vc_lowdelay.specs.Placed.{read_at}
use Rattle.vc_lowdelay.proofs.RectReads.{FirstPut}
use Rattle.vc_lowdelay.proofs.lowest.put_luma.Given as goal

abbrev pub invariant-loop-i : goal.invariant-loop-i
invariant-loop-i l = record {
  put : FirstPut l.rect (read_at l.coded.luma l.quantiser.index) l.fn.band l.i l.band;
  rest : (k : ℕ) → number_at l.coded.luma (l.i + k) ≡ number_at l.block k;
}
