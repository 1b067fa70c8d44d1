use Rattle.std.proofs.Common.{◌≡◌, ◌≤◌, ◌-◌, ◌*◌, ◌^◌, ℕ, unsigned_abs, Some}
use Rattle.vc_types.specs.Lifting.{line_of}
use Rattle.vc_types.specs.Transforms.{forward_levels}
use Rattle.vc_wave.specs.ForwardBounds.{parted_level_bound}
use Rattle.vc_wave.specs.Layout.{laid_out}
use Rattle.vc_wave.specs.NarrowBounds.{bound_over}
use Rattle.vc_wave.specs.Planes.{plane_of}
use Rattle.vc_wave.proofs.narrow_analysis.part_levels.Given as goal

abbrev pub invariant-loop-n : goal.invariant-loop-n
invariant-loop-n l = record {
  some : 1 ≤ l.n;
  made : forward_levels l.levels.wavelets.down
      (l.levels.nesting.levels - l.n) l.levels.nesting.w l.levels.nesting.h
      (laid_out l.n (l.levels.nesting.w * 2 ^ (l.levels.nesting.levels - l.n))
      (l.levels.nesting.h * 2 ^ (l.levels.nesting.levels - l.n)) (plane_of l.levels.pitch l.cells))
      ≡ forward_levels l.levels.wavelets.down (l.levels.nesting.levels - 1) l.levels.nesting.w
      l.levels.nesting.h
      (laid_out 1 (l.levels.nesting.w * 2 ^ (l.levels.nesting.levels - 1))
      (l.levels.nesting.h * 2 ^ (l.levels.nesting.levels - 1)) (plane_of l.levels.pitch l.initial.cells));
  small : (m b : ℕ) → ((i : ℕ) → unsigned_abs (line_of l.initial.cells i) ≤ m)
      → bound_over (parted_level_bound l.levels.wavelets.down) (l.n - 1) m ≡ Some b → (i : ℕ)
      → unsigned_abs (line_of l.cells i) ≤ b;
}
