use Rattle.std.proofs.Common.{ap, sym, subst, ◌∙◌}
use Rattle.picture_build.specs.Kept.{PartPicture}
use Rattle.link_pictures.specs.SeenAnswers.{HasEntries, seen_answers}
use Rattle.link_pictures.proofs.picture.PictureSlices.spare_room.Goals as goal

pub invariant_of-self : goal.invariant_of-self
invariant_of-self c = subst (λ (q : PartPicture). HasEntries q c.self.inside.unsound.items) (sym c.spare_room.ensures.unchanged) c.self.invariant

pub returns : goal.returns
returns c = record {
  unchanged = ap (λ (q : PartPicture). seen_answers c.self.inside.number q c.self.inside.unsound.items) c.spare_room.ensures.unchanged ∙ c.self.view_is;
}
