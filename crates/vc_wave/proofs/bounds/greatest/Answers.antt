use Rattle.std.proofs.Common.{length, pos, arith, inl, inr}
use Rattle.std.proofs.lemmas.Bool.{cases_lt}
use Rattle.std.proofs.lemmas.List.{get_or_past}
use Rattle.vc_wave.proofs.bounds.greatest.Goals as goal

pub returns : goal.returns
returns c = λ i. elim (cases_lt i (length c.args.cells.now)) [
  | inl h ↦ c.loop-cell.invariant i (omega arith)
  | inr past ↦ rw (get_or_past c.args.cells.now i (pos 0) past) (omega arith)
]
