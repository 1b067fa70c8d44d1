use Rattle.std.proofs.Common.{◌≡◌, ◌+◌, ◌-◌, ◌*◌, ◌≤◌, arith}
use Rattle.std.proofs.Math.Nat.{mul-le-mul_right}
use Rattle.vc_types.specs.Planes.{output_sample}
use Rattle.vc_types.specs.Transforms.{inverse_level}
use Rattle.vc_wave.specs.Parts.{subbands_of, pairs_held}
use Rattle.vc_wave.proofs.BandRows.{bands_more}
use Rattle.vc_wave.proofs.output.put_level.Goals as goal

pub slice_bounds-window-end : goal.slice_bounds-window-end
slice_bounds-window-end c =
    let w = c.args.subbands.now.level.w in
    let past : 2 * c.band_from-band.result.pairs * (2 * w)
    ≤ 2 * pairs_held c.args.subbands.now.level.wavelets.down * (2 * w) =
    mul-le-mul_right (2 * w) (omega (arith, c.band_from-band.ensures.few)) in
    omega (arith, past, c.requires.room, c.loop-pair.auto.room)

pub loop-pair-preserved : goal.loop-pair-preserved
loop-pair-preserved c =
    let l = c.args.subbands.now.level in
    let f = c.args.format in
    let above = c.args.above in
    let band = c.band_from-band in
    record {
      put = bands_more 0 f.columns f.rows (c.loop-pair.pair - above) (band.result.to - above)
          (λ x y v. v ≡ output_sample f.depth (inverse_level l.wavelets.down l.wavelets.across l.w l.h
          (subbands_of c.args.subbands.now) x (2 * above + y)))
          c.loop-pair.samples c.put_band.new.samples
          (rw band.ensures.from at c.put_band.ensures.before) c.loop-pair.invariant.put
          (rw band.ensures.from at (c.put_band.ensures.made c.if-not-put_band.false));
      inside = omega (arith, band.ensures.to);
      below = omega (arith, band.ensures.to, c.loop-pair.invariant.below);
    }

pub returns : goal.returns
returns c = λ whole x y a lt. c.loop-pair.invariant.put x y a (omega (arith, lt)) lt
