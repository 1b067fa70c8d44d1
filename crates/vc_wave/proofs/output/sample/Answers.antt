use Rattle.std.proofs.Common.{rules, ◌≡◌, ◌-◌, ◌^◌, ◌≤◌, pos, ◌-ℤ◌, neg_ℤ, to_z, of_z, arith, ◌∙◌}
use Rattle.std.specs.Int.{w32}
use Rattle.std.proofs.lemmas.Int.{ints, to_z-of_z}
use Rattle.std.proofs.Math.Pow.{pow_mono}
use Rattle.vc_wave.proofs.Clipping.{output_sample-is}
use Rattle.vc_wave.proofs.output.sample.Goals as goal

pub returns : goal.returns
returns c =
    let half = c.from-half.result in
    let few : 2 ^ (c.args.depth - 1) ≤ 2 ^ 15 = pow_mono {i = c.args.depth - 1} {j = 15} (omega arith) in
    let is : half ≡ pos (2 ^ (c.args.depth - 1)) = search rules in
    let low = to_z w32 (of_z w32 (pos 0 -ℤ to_z w32 (of_z w32 half))) in
    let high = to_z w32 (of_z w32 (to_z w32 (of_z w32 half) -ℤ pos 1)) in
    let below : low ≡ neg_ℤ half = omega (arith, ints) in
    let above : high ≡ half -ℤ pos 1 = omega (arith, ints) in
    omega (arith, ints) ∙ output_sample-is c.args.depth c.args.cell _ c.clamp.result half low high is
    (to_z-of_z w32 c.args.cell c.ranges.cell) below above c.clamp.ensures.value
