use Rattle.std.proofs.Common.{◌≡◌, ◌+◌, ◌*◌, ◌<◌, ◌≤◌, ◌⊎◌, ℕ}
use Rattle.std.specs.Prelude.{if◌then◌else◌}
use Rattle.vc_types.specs.Lifting.{line_of}
use Rattle.vc_types.specs.Transforms.{doubled}
use Rattle.vc_wave.specs.Samples.{centred_row}
use Rattle.vc_wave.proofs.plane_rows.ready_row.Given as goal

abbrev pub invariant-loop-k : goal.invariant-loop-k
invariant-loop-k l = record {
  even : (i : ℕ) → i < l.k → line_of l.cells (l.at + i) ≡ (if l.how.shifted
      then doubled (centred_row l.samples l.how.middle (2 * i)) else centred_row l.samples l.how.middle (2 * i));
  odd : (i : ℕ) → i < l.k → line_of l.cells (l.at + (l.half + i)) ≡ (if l.how.shifted
      then doubled (centred_row l.samples l.how.middle (2 * i + 1))
      else centred_row l.samples l.how.middle (2 * i + 1));
  off : (i : ℕ) → (i < l.at) ⊎ (l.at + 2 * l.half ≤ i) → line_of l.cells i ≡ line_of l.initial.cells i;
}

abbrev pub invariant-loop-k-2 : goal.invariant-loop-k-2
invariant-loop-k-2 l = record {
  even : (i : ℕ) → i < l.k → line_of l.cells (l.at + i) ≡ (if l.how.shifted
      then doubled (centred_row l.samples l.how.middle (2 * i)) else centred_row l.samples l.how.middle (2 * i));
  odd : (i : ℕ) → i < l.k → line_of l.cells (l.at + (l.half + i)) ≡ (if l.how.shifted
      then doubled (centred_row l.samples l.how.middle (2 * i + 1))
      else centred_row l.samples l.how.middle (2 * i + 1));
  off : (i : ℕ) → (i < l.at) ⊎ (l.at + 2 * l.half ≤ i) → line_of l.cells i ≡ line_of l.initial.cells i;
}
