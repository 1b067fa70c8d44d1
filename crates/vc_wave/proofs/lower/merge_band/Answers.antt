use Rattle.std.proofs.Common.{◌+◌, ◌-◌, ◌*◌, ◌≤◌, arith}
use Rattle.std.proofs.Math.Nat.{mul-le-mul_right}
use Rattle.vc_wave.specs.Parts.{subbands_of}
use Rattle.vc_wave.proofs.BandRows.{band_kept}
use Rattle.vc_wave.proofs.CarriedBounds.{has_bound}
use Rattle.vc_wave.proofs.lower.merge_band.Goals as goal

pub keep_rows-requires-clause-from : goal.keep_rows-requires-clause-from
keep_rows-requires-clause-from c =
    let band = c.args.band.now in
    let w = c.args.subbands.now.level.w in
    let past : (2 * (band.from - band.first) + 2 * (band.to - band.from)) * (2 * w) ≤ 2 * band.pairs * (2 * w) =
    mul-le-mul_right (2 * w) (omega (arith, c.requires.order, c.requires.holds.begins, c.requires.holds.ends)) in
    omega (arith, past, c.requires.window, c.synth_band.auto.window)

pub keep_rows-requires-clause-to : goal.keep_rows-requires-clause-to
keep_rows-requires-clause-to c =
    let band = c.args.band.now in
    let l = c.args.subbands.now.level in
    let past : (2 * band.from + 2 * (band.to - band.from)) * (2 * l.w) ≤ 2 * l.h * (2 * l.w) =
    mul-le-mul_right (2 * l.w) (omega (arith, c.requires.order)) in
    omega (arith, past, c.requires.out)

pub keep_rows-requires-clause-bound : goal.keep_rows-requires-clause-bound
keep_rows-requires-clause-bound c = has_bound (rw c.in-Some.is at c.synth_band.ensures.bound)

pub returns-clause-made : goal.returns-clause-made
returns-clause-made c = λ whole x y a begin end.
    let l = c.args.subbands.now.level in
    let band = c.args.band.now in
    band_kept l.wavelets.down l.wavelets.across l.w l.h band.from band.to band.first band.pairs
    (subbands_of c.args.subbands.now) c.synth_band.new.window c.requires.holds
    (rw c.in-Some.is at c.synth_band.ensures.made) c.keep_rows.new.out c.keep_rows.ensures.on x y a begin end
