use Rattle.std.proofs.Common.{◌+◌, ◌-◌, ◌/◌, ◌^◌, ◌≤◌, arith, subst, refl}
use Rattle.vc_types.proofs.SubbandOrder.{subband-inside}
use Rattle.vc_geometry.proofs.subbands.band_in.Goals as goal

pub returns-clause-right : goal.returns-clause-right
returns-clause-right c =
    let halvings = c.halvings-halvings.result.0 in
    let left = c.corner-x.ensures.left in
    let width = c.args.width / 2 ^ halvings in
    subst (λ side. c.corner-x.result.0 + width ≤ side) c.requires.width
    (subband-inside c.args.width halvings c.args.b c.corner-x.result.0 width refl left.0 left.1 c.halvings-halvings.ensures.inner.0)

pub returns-clause-bottom : goal.returns-clause-bottom
returns-clause-bottom c =
    let halvings = c.halvings-halvings.result.1 in
    let top = c.corner-x.ensures.top in
    let height = c.args.height / 2 ^ halvings in
    subst (λ side. c.corner-x.result.1 + height ≤ side) c.requires.height
    (subband-inside c.args.height halvings (c.args.b - c.args.plan.now.depth_ho) c.corner-x.result.1 height refl top.0 (λ e. top.1 (omega arith)) (λ up. c.halvings-halvings.ensures.inner.1 (omega arith)))

pub returns-clause-range : goal.returns-clause-range
returns-clause-range c =
    let right = returns-clause-right c in
    let bottom = returns-clause-bottom c in
    (omega (arith, right, c.requires.width, c.requires.range), omega (arith, bottom, c.requires.height, c.requires.range))
