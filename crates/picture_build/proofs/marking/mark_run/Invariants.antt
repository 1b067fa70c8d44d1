use Rattle.std.proofs.Common.{◌≡◌, ◌+◌, ◌<◌, ◌≤◌, ◌⊎◌, ℕ, true, false, length}
use Rattle.std.specs.Prelude.{slice_index_or}
use Rattle.picture_build.proofs.marking.mark_run.Given as goal

abbrev pub invariant-loop-k : goal.invariant-loop-k
invariant-loop-k l = record {
  on : (j : ℕ) → j < l.k → slice_index_or l.came.items (l.first + j) false ≡ true;
  off : (n : ℕ) → (n < l.first) ⊎ (l.first + l.k ≤ n) → slice_index_or l.came.items n false ≡ slice_index_or l.initial.came.items n false;
  length : length l.came.items ≡ length l.initial.came.items;
}
