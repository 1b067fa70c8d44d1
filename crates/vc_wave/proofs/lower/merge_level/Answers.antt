use Rattle.std.proofs.Common.{◌≡◌, ◌*◌, ◌≤◌, pos, arith}
use Rattle.std.proofs.Math.Nat.{mul-le-mul_right}
use Rattle.vc_types.specs.Transforms.{inverse_level}
use Rattle.vc_wave.specs.Parts.{subbands_of, pairs_held}
use Rattle.vc_wave.proofs.BandRows.{bands_more}
use Rattle.vc_wave.proofs.LowCells.{level_made}
use Rattle.vc_wave.proofs.lower.merge_level.Goals as goal

pub slice_bounds-window-end : goal.slice_bounds-window-end
slice_bounds-window-end c =
    let w = c.args.subbands.now.level.w in
    let past : 2 * c.band_from-band.result.pairs * (2 * w)
    ≤ 2 * pairs_held c.args.subbands.now.level.wavelets.down * (2 * w) =
    mul-le-mul_right (2 * w) (omega (arith, c.band_from-band.ensures.few)) in
    omega (arith, past, c.requires.room, c.loop-pair.auto.room)

pub loop-pair-preserved : goal.loop-pair-preserved
loop-pair-preserved c =
    let l = c.args.subbands.now.level in
    let band = c.band_from-band in
    let made = rw band.ensures.from at (c.merge_band.ensures.made c.if-not-merge_band.false) in
    record {
      made = bands_more (pos 0) (2 * l.w) (2 * l.h) c.loop-pair.pair band.result.to
          (λ x y v. v ≡ inverse_level l.wavelets.down l.wavelets.across l.w l.h
          (subbands_of c.args.subbands.now) x y)
          c.loop-pair.out c.merge_band.new.out (rw band.ensures.from at c.merge_band.ensures.before)
          c.loop-pair.invariant.made (λ x y a begin end lt. made x y a begin end);
      inside = omega (arith, band.ensures.to);
    }

pub returns : goal.returns
returns c = λ whole.
    let s = c.args.subbands.now in
    level_made s.level.w s.level.h s.level.pitch s.low.now s.nested.now c.loop-pair.out s.level.wavelets.down
    s.level.wavelets.across (λ x y a b. c.loop-pair.invariant.made x y a (omega (arith, b)) b)
