use Rattle.std.proofs.Common.{sym, ap, subst, ◌∙◌, length}
use Rattle.vc_types.specs.TransformParameters.{parameters_of}
use Rattle.picture_build.specs.Kept.{PartPicture, no_slices, IsKept}
use Rattle.picture_build.proofs.KeptSlices.{nothing_kept, kept_none}
use Rattle.picture_build.proofs.SeenSlices.{seen}
use Rattle.picture_build.proofs.placed.PlacedSlices.restart.Goals as goal

pub invariant_of-self : goal.invariant_of-self
invariant_of-self c =
    let kept = c.self.invariant in
    subst (λ came. IsKept (parameters_of c.self.inside.plan) came c.restart.new.self c.restart-2.new.self c.restart-3.new.self (length c.self.inside.numbers.items)) (sym (c.fill.ensures.items (λ y e. e)))
    (kept_none (parameters_of c.self.inside.plan) c.restart.new.self c.restart-2.new.self c.restart-3.new.self (length c.self.inside.numbers.items) c.self.inside.came.len (c.self.inside.came.ok.0 ∙ kept.entries)
    (c.restart.ensures.length ∙ kept.y_cells) (c.restart-2.ensures.length ∙ kept.c1_cells) (c.restart-3.ensures.length ∙ kept.c2_cells) kept.largest)

pub returns : goal.returns
returns c = record {
  value = ap (λ came. seen (parameters_of c.self.inside.plan) came c.restart.new.self c.restart-2.new.self c.restart-3.new.self) (c.fill.ensures.items (λ y e. e))
      ∙ ap (λ slices. record { parameters = (parameters_of c.self.inside.plan); slices = slices }) (nothing_kept (parameters_of c.self.inside.plan) c.restart.new.self c.restart-2.new.self c.restart-3.new.self c.self.inside.came.len)
      ∙ ap (λ (q : PartPicture). no_slices q.parameters) c.self.view_is;
}
