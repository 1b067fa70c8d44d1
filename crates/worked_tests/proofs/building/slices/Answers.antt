use Rattle.std.proofs.Common.{rules, ◌≡◌, ◌+◌, ◌∷◌, ◌++◌, [], length, ap, sym, subst, ◌∙◌}
use Rattle.std.proofs.lemmas.List.{length_push}
use Rattle.vc_types.specs.TransformParameters.{parameters_of}
use Rattle.vc_types.specs.SliceCoefficients.{AreSliceCoefficients}
use Rattle.picture_build.specs.PictureCoefficients.{ArePictureCoefficients}
use Rattle.picture_build.proofs.WholeSlices.{whole_push}
use Rattle.worked_tests.proofs.building.slices.Goals as goal

pub loop-i-preserved : goal.loop-i-preserved
loop-i-preserved c =
    let p = parameters_of c.args.plan in
    let items = c.loop-i.slices.items in
    let coeffs = c.in_ok-coeffs.coeffs in
    let pushed : c.push.new.self.items ≡ items ++ coeffs ∷ [] = search rules in
    let count = c.loop-i.invariant.count in
    record {
      count = ap length pushed ∙ length_push items coeffs ∙ ap (λ n. n + 1) count;
      whole = subst (ArePictureCoefficients p) (sym pushed) (whole_push p items coeffs c.loop-i.invariant.whole (subst (λ n. AreSliceCoefficients p n coeffs) (sym count) c.in_ok-coeffs.ensures));
    }
