use Rattle.std.proofs.Common.{◌≡◌, ◌+◌, ◌*◌, ◌<◌, ℕ}
use Rattle.vc_types.specs.Lifting.{line_of}
use Rattle.vc_types.specs.Wavelets.{is_shifted}
use Rattle.vc_wave.specs.declared.pass.Direction.TheVariants.{Analysis}
use Rattle.vc_wave.specs.Remade.{remade}
use Rattle.vc_wave.specs.Samples.{padded_sample}
use Rattle.vc_wave.proofs.plane_rows.part_plane_rows.Given as goal

abbrev pub invariant-loop-y : goal.invariant-loop-y
invariant-loop-y l = (x y : ℕ) → x < 2 * l.source.level.w → y < l.y
    → line_of l.window (y * (2 * l.source.level.w) + x)
    ≡ remade Analysis l.source.level.wavelets.down (is_shifted l.source.level.wavelets.down) l.source.level.w
    (λ j. padded_sample l.source.plane.now l.source.depth j (l.first + y)) x
