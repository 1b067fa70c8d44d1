use Rattle.std.proofs.Common.{◌≡◌, ◌*◌, ◌/◌, ap, sym, ◌∙◌, length, arith}
use Rattle.vc_types.specs.Lifting.{line_of}
use Rattle.vc_types.specs.Wavelets.{analysed}
use Rattle.vc_lift.specs.CountedSteps.{lift_all}
use Rattle.vc_lift.specs.StepLists.{steps_of}
use Rattle.vc_lift.proofs.CountedSteps.{analysed_by}
use Rattle.vc_lift.proofs.Places.{column_of-one}
use Rattle.vc_lift.proofs.line.analyse.Goals as goal

pub returns : goal.returns
returns c =
    let half = length c.args.line.now / 2 in
    let size : 2 * half ≡ length c.args.line.now = omega arith in
    record {
      value =
          sym (column_of-one c.run.new.cells)
          ∙ c.run.ensures 0 (omega arith)
          ∙ ap (lift_all (steps_of c.analysis.result) half) (column_of-one c.args.line.now)
          ∙ analysed_by c.args.wavelet half _ _ c.analysis.ensures
          ∙ ap (λ n. analysed c.args.wavelet n (line_of c.args.line.now)) size;
    }
