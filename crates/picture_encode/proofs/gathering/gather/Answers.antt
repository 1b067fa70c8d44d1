use Rattle.std.proofs.Common.{◌≡◌, rules, subst, sym}
use Rattle.vc_types.specs.Slices.{Coefficients}
use Rattle.vc_types.specs.SliceCoefficients.{AreSliceCoefficients}
use Rattle.vc_types.specs.TransformParameters.{parameters_of}
use Rattle.picture_encode.specs.Grids.{slice_in_grids}
use Rattle.picture_encode.proofs.SmallNumbers.{are_coefficients}
use Rattle.picture_encode.proofs.gathering.gather.Goals as goal

pub returns-clause-whole : goal.returns-clause-whole
returns-clause-whole c =
    let p = parameters_of c.args.parts.now.plan in
    let same : c.in_ok-coeffs.coeffs ≡ slice_in_grids p c.args.grids.now c.args.parts.now.slice = search rules in
    subst (λ (s : Coefficients). AreSliceCoefficients p c.args.parts.now.slice s) (sym same) (are_coefficients p c.args.parts.now.slice c.args.grids.now c.requires.grids)
