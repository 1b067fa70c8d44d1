use Rattle.std.proofs.Common.{ℕ, ◌+◌, ◌-◌, ◌*◌, ◌^◌, arith, ◌∙◌}
use Rattle.vc_wave.specs.Samples.{padded_sample}
use Rattle.vc_wave.proofs.CarriedBounds.{level_reached, parted_rows_carry}
use Rattle.vc_wave.proofs.Fills.{padded_within}
use Rattle.vc_wave.proofs.LowCells.{all_within}
use Rattle.vc_wave.proofs.PartedBands.{band_parted}
use Rattle.vc_wave.proofs.PlaneSteps.{plane_in}
use Rattle.vc_wave.proofs.parting.part_band.Goals as goal

pub part_columns-requires-clause-bound : goal.part_columns-requires-clause-bound
part_columns-requires-clause-bound c =
    let s = c.args.source.now in
    let l = s.level in
    let band = c.args.band.now in
    let most = 2 ^ (s.depth - 1) in
    let b = level_reached l.wavelets.down most s.fits in
    let window = c.part_plane_rows.new.window in
    record {
      most = b.parts.made;
      after = b.after;
      small = all_within (2 * l.w) (2 * band.pairs) b.parts.made window (omega (arith, l.some_columns))
          (omega (arith, c.part_plane_rows.auto.window, c.requires.window))
          (λ x y a lt. rw (plane_in (2 * l.w) window x y a ∙ c.part_plane_rows.ensures x y a lt)
          (parted_rows_carry l.wavelets.down most b.parts.made l.w l.some_columns b.parts.across
          (λ (j : ℕ). padded_sample s.plane.now s.depth j (2 * band.first + y))
          (λ j. padded_within s.plane.now s.depth s.bits.0 s.samples j (2 * band.first + y)) x));
      fits = b.parts.down;
    }

pub returns : goal.returns
returns c =
    let s = c.args.source.now in
    let l = s.level in
    let band = c.args.band.now in
    band_parted l.wavelets.down l.w l.h band.from band.to band.first band.pairs c.requires.holds
    (padded_sample s.plane.now s.depth) c.part_plane_rows.new.window c.part_columns.new.cells
    c.part_plane_rows.ensures c.part_columns.ensures
