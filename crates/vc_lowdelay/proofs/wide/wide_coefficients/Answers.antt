use Rattle.std.proofs.Common.{◌≡◌, Err, rules, sym, subst}
use Rattle.vc_types.specs.declared.video.Component.TheVariants.{Y, C1, C2}
use Rattle.vc_lowdelay.specs.declared.refusal.LowRefusal.TheVariants.{NoMemory}
use Rattle.vc_lowdelay.specs.Components.{ReadsLargeOf}
use Rattle.vc_lowdelay.specs.OfBands.{IsLargeSlice, IsSliceOf}
use Rattle.vc_lowdelay.proofs.Refused.{for_weaker}
use Rattle.vc_lowdelay.proofs.WholeCoefficients.{large_slice, wide_slice}
use Rattle.vc_lowdelay.proofs.wide.wide_coefficients.Goals as goal

pub returns-in_err-y-clause-refused : goal.returns-in_err-y-clause-refused
returns-in_err-y-clause-refused c =
    let bands = c.args.bands.now in
    let coded = c.args.coded.now in
    let e = c.in_err-y.field-0.0 in
    let same : c.from_residual.result ≡ Err e = search rules in
    rw same (for_weaker (ReadsLargeOf bands Y coded.luma) (IsLargeSlice bands coded) (large_slice bands coded c.args.lowest.now c.requires.index Y) e c.in_err-y.ensures.refused)

pub returns-in_err-c1-clause-refused : goal.returns-in_err-c1-clause-refused
returns-in_err-c1-clause-refused c =
    let bands = c.args.bands.now in
    let coded = c.args.coded.now in
    let e = c.in_err-c1.field-0.0 in
    let same : c.from_residual-in_err-c1.result ≡ Err e = search rules in
    rw same (for_weaker (ReadsLargeOf bands C1 coded.colour) (IsLargeSlice bands coded) (large_slice bands coded c.args.lowest.now c.requires.index C1) e c.in_err-c1.ensures.refused)

pub returns-in_err-c2-clause-refused : goal.returns-in_err-c2-clause-refused
returns-in_err-c2-clause-refused c =
    let bands = c.args.bands.now in
    let coded = c.args.coded.now in
    let e = c.in_err-c2.field-0.0 in
    let same : c.from_residual-in_err-c2.result ≡ Err e = search rules in
    rw same (for_weaker (ReadsLargeOf bands C2 coded.colour) (IsLargeSlice bands coded) (large_slice bands coded c.args.lowest.now c.requires.index C2) e c.in_err-c2.ensures.refused)

pub returns-in_err-joined-clause-refused : goal.returns-in_err-joined-clause-refused
returns-in_err-joined-clause-refused c =
    let same : c.from_residual-in_err-joined.result ≡ Err NoMemory = search rules in
    rw same tt

pub returns-clause-value : goal.returns-clause-value
returns-clause-value c =
    let bands = c.args.bands.now in
    let coded = c.args.coded.now in
    let lowest = c.args.lowest.now in
    let same : c.in_ok-joined.field-0 ≡ record { y = c.in_ok-y.y.items; c1 = c.in_ok-c1.c1.items; c2 = c.in_ok-c2.c2.items } = search rules in
    subst (IsSliceOf bands coded lowest) (sym same)
    (wide_slice bands coded lowest c.requires.index c.in_ok-y.y.items c.in_ok-c1.c1.items c.in_ok-c2.c2.items c.in_ok-y.ensures.value c.in_ok-c1.ensures.value c.in_ok-c2.ensures.value)
