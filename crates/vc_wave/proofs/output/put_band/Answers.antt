use Rattle.std.proofs.Common.{◌+◌, ◌-◌, ◌*◌, ◌≤◌, arith}
use Rattle.std.proofs.Math.Nat.{mul-le-mul_right}
use Rattle.vc_types.specs.Planes.{output_sample}
use Rattle.vc_wave.specs.Parts.{subbands_of}
use Rattle.vc_wave.proofs.BandRows.{band_put}
use Rattle.vc_wave.proofs.CarriedBounds.{has_bound}
use Rattle.vc_wave.proofs.output.put_band.Goals as goal

pub put_rows-requires-clause-from : goal.put_rows-requires-clause-from
put_rows-requires-clause-from c =
    let band = c.args.band.now in
    let w = c.args.subbands.now.level.w in
    let past : (2 * (band.from - band.first) + (c.min-end.result - 2 * band.from)) * (2 * w)
    ≤ 2 * band.pairs * (2 * w) =
    mul-le-mul_right (2 * w) (omega (arith, c.min-end.ensures, c.requires.holds.begins, c.requires.holds.ends)) in
    omega (arith, past, c.requires.window, c.synth_band.auto.window)

pub put_rows-requires-clause-to : goal.put_rows-requires-clause-to
put_rows-requires-clause-to c =
    let band = c.args.band.now in
    let columns = c.args.format.columns in
    let past : (2 * (band.from - c.args.above) + (c.min-end.result - 2 * band.from)) * columns
    ≤ c.args.format.rows * columns =
    mul-le-mul_right columns (omega (arith, c.min-end.ensures, c.requires.order, c.requires.some)) in
    omega (arith, past, c.requires.samples)

pub put_rows-requires-clause-bound : goal.put_rows-requires-clause-bound
put_rows-requires-clause-bound c = has_bound (rw c.in-Some.is at c.synth_band.ensures.bound)

pub returns-clause-made : goal.returns-clause-made
returns-clause-made c = λ whole x y a begin end lt.
    let l = c.args.subbands.now.level in
    let band = c.args.band.now in
    band_put l.wavelets.down l.wavelets.across l.w l.h band.from band.to band.first band.pairs
    (subbands_of c.args.subbands.now) c.synth_band.new.window c.requires.holds
    (rw c.in-Some.is at c.synth_band.ensures.made) 0
    (output_sample c.args.format.depth) c.args.format.columns (c.min-end.result - 2 * band.from) c.args.above
    c.put_rows.new.samples c.requires.width c.requires.order.0 c.put_rows.ensures.on x y a begin end
    (omega (arith, begin, end, lt, c.min-end.ensures, c.requires.order))
