use Rattle.std.proofs.Common.{◌<◌, ◌≤◌, ℕ, slice_index_or}
use Rattle.link_sender.proofs.samples.greatest.Given as goal

abbrev pub invariant-loop-sample : goal.invariant-loop-sample
invariant-loop-sample l = (i : ℕ) → i < l.sample-index → slice_index_or l.samples i 0 ≤ l.greatest
