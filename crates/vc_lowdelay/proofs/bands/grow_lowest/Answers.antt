use Rattle.std.proofs.Common.{List, ℤ, length, refl, subst, arith}
use Rattle.vc_types.specs.Subbands.{padded_width, padded_height}
use Rattle.vc_types.specs.TransformParameters.{parameters_of}
use Rattle.picture_build.proofs.RowsWithin.{rows_within}
use Rattle.vc_lowdelay.specs.Bands.{HasValues}
use Rattle.vc_lowdelay.specs.Narrow.{kept_cells}
use Rattle.vc_lowdelay.proofs.KeptLowest.{lowest_in_grid, grown_in_cells}
use Rattle.vc_lowdelay.proofs.bands.grow_lowest.Goals as goal

pub give-requires-clause-across : goal.give-requires-clause-across
give-requires-clause-across c =
    let p = parameters_of c.args.plan.now in
    let wide = (lowest_in_grid p c.args.c).0 in
    omega (arith, wide, c.in_ok-lowest.ensures.size.width, c.in_ok-grow.ensures.size.0, c.padded-stride.ensures.width)

pub give-requires-clause-down : goal.give-requires-clause-down
give-requires-clause-down c =
    let p = parameters_of c.args.plan.now in
    let high = (lowest_in_grid p c.args.c).1 in
    rows_within c.grow.new.self.height c.padded-stride.result.0 (padded_height p c.args.c) (padded_width p c.args.c) (length c.args.cells.now.items) (length c.args.cells.now.items)
    (omega (arith, high, c.in_ok-lowest.ensures.size.height, c.in_ok-grow.ensures.size.1)) c.padded-stride.ensures.width c.requires refl

pub give-requires-clause-sides : goal.give-requires-clause-sides
give-requires-clause-sides c =
    let p = parameters_of c.args.plan.now in
    let high = (lowest_in_grid p c.args.c).1 in
    (omega (arith, c.padded-stride.ensures.range), omega (arith, high, c.in_ok-lowest.ensures.size.height, c.in_ok-grow.ensures.size.1, c.padded-stride.ensures.height, c.padded-stride.ensures.range))

pub returns : goal.returns
returns c =
    grown_in_cells (parameters_of c.args.plan.now) c.args.c c.args.cells.now.items c.give.new.cells.items c.in_ok-lowest.lowest c.grow.new.self c.padded-stride.result.0 c.padded-stride.ensures.width
    c.in_ok-lowest.ensures.size
    (subst (λ (zs : List ℤ). HasValues (kept_cells (parameters_of c.args.plan.now) c.args.c zs) c.in_ok-lowest.lowest) c.deref.ensures.value c.in_ok-lowest.ensures.values)
    c.in_ok-grow.ensures.size.0 c.in_ok-grow.ensures.size.1 c.in_ok-grow.ensures.grown c.in_ok-grow.ensures.small
    c.in_ok-give.ensures.on c.in_ok-give.ensures.off c.in_ok-give.ensures.length
