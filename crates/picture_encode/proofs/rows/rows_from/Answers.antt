use Rattle.std.proofs.Common.{◌≡◌, ◌+◌, ◌-◌, ◌*◌, ◌/◌, ◌^◌, ◌≤◌, arith, ap, ◌∙◌}
use Rattle.std.proofs.Math.Nat.{mul-le-mul_left}
use Rattle.std.proofs.Math.Pow.{pow_mono}
use Rattle.picture_encode.specs.Rows.{level_below}
use Rattle.picture_encode.proofs.BandParts.{power_parts}
use Rattle.picture_encode.proofs.rows.rows_from.Goals as goal

pub doubled-requires-clause-fits : goal.doubled-requires-clause-fits
doubled-requires-clause-fits c =
    let n = c.args.nesting in
    let level = c.saturating_sub-level.result / 3 in
    let power : 2 ^ level ≤ 2 ^ n.levels = pow_mono {i = level} {j = n.levels} (omega arith) in
    let all : n.h * 2 ^ level ≤ n.h * 2 ^ n.levels = mul-le-mul_left n.h power in
    omega (arith, all, c.requires.small)

pub returns-clause-step : goal.returns-clause-step
returns-clause-step c =
    let levels = c.args.nesting.levels in
    let below = level_below c.args.b in
    let above : c.from.result - (c.saturating_sub-level.result / 3 + 1) ≡ levels - (below + 1) = omega arith in
    c.doubled-3.ensures ∙ ap (λ n. 2 * 2 ^ n) above ∙ power_parts levels below (omega arith)
