use Rattle.std.proofs.Common.{◌≡◌, sym, ap, subst, ◌∙◌}
use Rattle.std.proofs.lemmas.Result.{IfOk-weaker, MatchResult-weaker}
use Rattle.vc_types.specs.TransformParameters.{Parameters, parameters_of}
use Rattle.vc_slice.specs.declared.bands.SliceParts.{SliceParts}
use Rattle.vc_lowdelay.specs.Coded.{slice_of}
use Rattle.vc_lowdelay.specs.Decoded.{IsLargeAt, IsSliceAt}
use Rattle.vc_lowdelay.specs.Grown.{lowest_in}
use Rattle.vc_lowdelay.specs.LowDelay.{low_slice, slice_at}
use Rattle.vc_lowdelay.specs.OfBands.{AreLowest, IsLargeSlice, IsSliceOf, parameters_in}
use Rattle.vc_lowdelay.specs.OfPlan.{low_parameters_of}
use Rattle.vc_lowdelay.proofs.Refused.{for_weaker}
use Rattle.vc_lowdelay.proofs.SameSlices.{same_slice, same_large}
use Rattle.vc_lowdelay.proofs.decoding.coefficients.Goals as goal

pub wide_coefficients-requires-clause-lowest : goal.wide_coefficients-requires-clause-lowest
wide_coefficients-requires-clause-lowest c =
    let plan : parameters_in c.new-bands.result ≡ parameters_of c.args.p.now.plan = ap (λ (parts : SliceParts). parameters_of parts.plan) c.new-bands.ensures.parts ∙ ap parameters_of c.new-parts.ensures.plan in
    subst (λ (q : Parameters). AreLowest q c.args.lowest.now) (sym plan) c.requires.lowest

pub returns-clause-value : goal.returns-clause-value
returns-clause-value c =
    let p = c.args.p.now in
    let bands = c.new-bands.result in
    let lowest = c.args.lowest.now in
    let plan : parameters_in bands ≡ parameters_of p.plan = ap (λ (parts : SliceParts). parameters_of parts.plan) c.new-bands.ensures.parts ∙ ap parameters_of c.new-parts.ensures.plan in
    let number : bands.parts.now.slice ≡ c.args.slice = ap (λ (parts : SliceParts). parts.slice) c.new-bands.ensures.parts ∙ c.new-parts.ensures.slice in
    let own : slice_of c.new-coded.result ≡ slice_at (low_parameters_of p) c.args.bytes.now c.args.slice = c.new-coded.ensures ∙ ap low_slice c.slice_bytes.ensures.value in
    IfOk-weaker c.wide_coefficients.result (IsSliceOf bands c.new-coded.result lowest) (IsSliceAt p c.args.bytes.now c.args.slice lowest)
    (λ made is. same_slice (parameters_in bands) (parameters_of p.plan) bands.parts.now.slice c.args.slice (slice_of c.new-coded.result) (slice_at (low_parameters_of p) c.args.bytes.now c.args.slice) plan number own
    (lowest_in lowest.y lowest.c1 lowest.c2) made is)
    c.wide_coefficients.ensures.value

pub returns-clause-refused : goal.returns-clause-refused
returns-clause-refused c =
    let p = c.args.p.now in
    let bands = c.new-bands.result in
    let plan : parameters_in bands ≡ parameters_of p.plan = ap (λ (parts : SliceParts). parameters_of parts.plan) c.new-bands.ensures.parts ∙ ap parameters_of c.new-parts.ensures.plan in
    let number : bands.parts.now.slice ≡ c.args.slice = ap (λ (parts : SliceParts). parts.slice) c.new-bands.ensures.parts ∙ c.new-parts.ensures.slice in
    let own : slice_of c.new-coded.result ≡ slice_at (low_parameters_of p) c.args.bytes.now c.args.slice = c.new-coded.ensures ∙ ap low_slice c.slice_bytes.ensures.value in
    MatchResult-weaker c.wide_coefficients.result c.wide_coefficients.ensures.refused (λ made any. any)
    (for_weaker (IsLargeSlice bands c.new-coded.result) (IsLargeAt p c.args.bytes.now c.args.slice)
    (same_large (parameters_in bands) (parameters_of p.plan) bands.parts.now.slice c.args.slice (slice_of c.new-coded.result) (slice_at (low_parameters_of p) c.args.bytes.now c.args.slice) plan number own))
