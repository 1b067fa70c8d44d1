use Rattle.std.proofs.Common.{ap, ◌∙◌}
use Rattle.receiver_model.specs.Receptions.{takes_new}
use Rattle.link_slices.proofs.RunAnswers.{answers_are_own}
use Rattle.link_pictures.proofs.picture.PictureSlices.keep_run.Goals as goal

pub returns-in-Together : goal.returns-in-Together
returns-in-Together g c = record {
  value = c.spare_room.ensures.unchanged ∙ c.place_many.ensures.unchanged
      ∙ c.in_ok-keep_strip-in-Together.ensures.value ∙ ap (takes_new c.args.self.now) (answers_are_own c.args.done);
}

pub returns : goal.returns
returns g c = record {
  value = c.in_ok-keep_each-in-Apart.ensures.value ∙ ap (takes_new c.args.self.now) (answers_are_own c.args.done);
}
