use Rattle.std.proofs.Common.{ℤ, pos, ◌≡◌, ◌+◌, ◌-◌, ◌*◌, arith}
use Rattle.vc_wave.specs.Remade.{parted_in_turn}
use Rattle.vc_wave.specs.Samples.{padded_sample}
use Rattle.vc_wave.proofs.BandRows.{bands_more}
use Rattle.vc_wave.proofs.parting.part_pairs.Goals as goal

pub loop-pair-preserved : goal.loop-pair-preserved
loop-pair-preserved c =
    let s = c.args.source.now in
    let l = s.level in
    let wanted = c.args.wanted in
    let band = c.band_from-band in
    record {
      made = bands_more (pos 0) (2 * l.w) (2 * (wanted.to - wanted.from)) (c.loop-pair.pair - wanted.from)
          (band.result.to - wanted.from)
          (λ x y (v : ℤ). v ≡ parted_in_turn l.wavelets.down l.w l.h (padded_sample s.plane.now s.depth) x
          (2 * wanted.from + y))
          c.loop-pair.out c.keep_band.new.out
          (rw band.ensures.from at c.keep_band.ensures.before) c.loop-pair.invariant.made
          (rw band.ensures.from at c.keep_band.ensures.made);
      below = omega (arith, band.ensures.to, c.loop-pair.invariant.below);
    }

pub returns : goal.returns
returns c = λ x y a lt. c.loop-pair.invariant.made x y a (omega (arith, lt)) lt
