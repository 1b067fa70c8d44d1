use Rattle.std.proofs.Common.{◌≡◌, length}
use Rattle.std.specs.Prelude.{filter}
use Rattle.receiver_model.specs.Exchanging.{not_at}
use Rattle.link_slices.proofs.runs_out.RunsOut.forget.Given as goal

abbrev pub invariant-loop-i : goal.invariant-loop-i
invariant-loop-i l = filter (not_at l.place) l.self-inside.runs.items ≡ filter (not_at l.place) l.fn.self

abbrev pub decreases-loop-i : goal.decreases-loop-i
decreases-loop-i l = length l.self-inside.runs.items
