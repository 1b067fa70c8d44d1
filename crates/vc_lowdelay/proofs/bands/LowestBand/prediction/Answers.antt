use Rattle.std.proofs.Common.{rules, ◌-◌, FitsSigned, sym, ◌∙◌, arith}
use Rattle.std.specs.Int.{w64}
use Rattle.std.proofs.lemmas.Int.{to_z-of_z}
use Rattle.vc_lowdelay.specs.Bands.{value_in}
use Rattle.vc_lowdelay.proofs.Predictions.{elsewhere, mean_same}
use Rattle.vc_lowdelay.proofs.bands.LowestBand.prediction.Goals as goal

pub returns-else-x-eq0-2-clause-value : goal.returns-else-x-eq0-2-clause-value
returns-else-x-eq0-2-clause-value c =
    let f = value_in c.args.self.now in
    let x = c.args.x in
    let y = c.args.y in
    let mean_fits : FitsSigned w64 c.mean.result = search rules in
    let left_fits : FitsSigned w64 c.get-else-x-eq0-2.result = search rules in
    let corner_fits : FitsSigned w64 c.get-else-x-eq0-2-2.result = search rules in
    let above_fits : FitsSigned w64 c.get-else-x-eq0-2-3.result = search rules in
    to_z-of_z w64 c.mean.result mean_fits ∙ c.mean.ensures.value
    ∙ mean_same _ _ _ (f (x - 1) y) (f (x - 1) (y - 1)) (f x (y - 1))
    (to_z-of_z w64 c.get-else-x-eq0-2.result left_fits ∙ c.get-else-x-eq0-2.ensures)
    (to_z-of_z w64 c.get-else-x-eq0-2-2.result corner_fits ∙ c.get-else-x-eq0-2-2.ensures)
    (to_z-of_z w64 c.get-else-x-eq0-2-3.result above_fits ∙ c.get-else-x-eq0-2-3.ensures)
    ∙ sym (elsewhere f x y (omega arith) (omega arith))
