use Rattle.std.proofs.Common.{◌≡◌, Err, rules, ap, drop, length, sym, subst, arith}
use Rattle.picture_build.proofs.GridCells.{written_over}
use Rattle.vc_lowdelay.specs.Bands.{value_in}
use Rattle.vc_lowdelay.specs.Components.{AreGrown}
use Rattle.vc_lowdelay.specs.OfBands.{parameters_in}
use Rattle.vc_lowdelay.proofs.LowestPlaces.{lowest_within}
use Rattle.vc_lowdelay.proofs.ReadComponents.{with_lowest_put}
use Rattle.vc_lowdelay.proofs.wide.wide_component.Goals as goal

pub returns-in_err-coefficients-clause-refused : goal.returns-in_err-coefficients-clause-refused
returns-in_err-coefficients-clause-refused c =
    let same : c.from_residual.result ≡ Err c.in_err-coefficients.field-0.0 = search rules in
    rw same c.in_err-coefficients.ensures.refused

pub put_lowest-requires-clause-room : goal.put_lowest-requires-clause-room
put_lowest-requires-clause-room c =
    let bands = c.args.bands.now in
    omega (arith, lowest_within (parameters_in bands) c.args.c bands.parts.now.slice, c.in_ok-coefficients.ensures.value.count, ap length c.deref_mut.ensures.value)

pub returns-clause-value : goal.returns-clause-value
returns-clause-value c =
    let old = c.in_ok-coefficients.coefficients.items in
    let same : c.deref_mut.result.now ≡ old = search rules in
    let new = c.put_lowest.new.coefficients in
    let long : length new ≡ length old = search rules in
    subst (AreGrown c.args.bands.now c.args.c c.args.block.now (value_in c.args.lowest.now))
    (sym (written_over c.in_ok-coefficients.coefficients.len new (drop (length new) old) (omega (arith, long, c.in_ok-coefficients.coefficients.ok.0))))
    (with_lowest_put c.args.bands.now c.args.c c.args.block.now (value_in c.args.lowest.now) old new c.in_ok-coefficients.ensures.value long c.put_lowest.ensures.on (rw same at c.put_lowest.ensures.off))
