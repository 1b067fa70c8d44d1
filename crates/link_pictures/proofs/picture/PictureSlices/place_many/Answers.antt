use Rattle.std.proofs.Common.{ap, sym, subst, ◌∙◌}
use Rattle.picture_build.specs.Kept.{PartPicture}
use Rattle.link_pictures.specs.SeenAnswers.{HasEntries, seen_answers}
use Rattle.link_pictures.proofs.picture.PictureSlices.place_many.Goals as goal

pub invariant_of-self : goal.invariant_of-self
invariant_of-self g c = subst (λ (q : PartPicture). HasEntries q c.self.inside.unsound.items) (sym c.place_many.ensures.unchanged) c.self.invariant

pub returns-in-Some : goal.returns-in-Some
returns-in-Some g c = record {
  unchanged = ap (λ (q : PartPicture). seen_answers c.self.inside.number q c.self.inside.unsound.items) c.place_many.ensures.unchanged ∙ c.self.view_is;
}
