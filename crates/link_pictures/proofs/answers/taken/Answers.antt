use Rattle.std.proofs.Common.{rules, ◌≡◌, Some, ap, ◌∙◌, arith}
use Rattle.std.specs.Prelude.{filter, not, position}
use Rattle.std.proofs.lemmas.Fn.{filter_same}
use Rattle.receiver_model.specs.Receptions.{PictureAnswers}
use Rattle.link_pictures.specs.SeenAnswers.{is_of_number}
use Rattle.link_pictures.proofs.PictureLists.{stands, found_there, removed, not_there, left_as_it_is}
use Rattle.link_pictures.proofs.answers.taken.Goals as goal

pub returns-in-None-clause-taken : goal.returns-in-None-clause-taken
returns-in-None-clause-taken c = grind (arith, not_there)

pub returns-in-None-clause-others : goal.returns-in-None-clause-others
returns-in-None-clause-others c = grind (arith, left_as_it_is)

pub returns-in-Some-clause-taken : goal.returns-in-Some-clause-taken
returns-in-Some-clause-taken c = grind (arith, found_there, stands)

pub returns-in-Some-clause-others : goal.returns-in-Some-clause-others
returns-in-Some-clause-others c =
    let n = c.args.number in
    let d = c.remove-picture.result in
    let found : position (is_of_number n) c.args.pictures.now.items ≡ Some c.in-Some.place = search rules in
    let other = λ (a : PictureAnswers). not (is_of_number n a) in
    let kept : c.retain.new.self.items ≡ filter other c.remove-picture.new.self.items =
    filter_same _ other _ (λ x b f k. search rules) _ _ c.retain.ensures.filtered in
    kept ∙ ap (filter other) c.remove-picture.ensures.items
    ∙ removed n c.args.pictures.now.items c.in-Some.place d (stands n c.args.pictures.now.items c.in-Some.place d found)
