use Rattle.std.proofs.Common.{◌≡◌, List, [], ◌∷◌, ◌++◌, Some, None, ◌+◌, rules, arith, length, ap, subst, ◌∙◌}
use Rattle.std.specs.Prelude.{position}
use Rattle.std.proofs.lemmas.List.{length-append}
use Rattle.receiver_model.specs.Receptions.{PictureAnswers, no_answers}
use Rattle.link_pictures.specs.SeenAnswers.{is_of_number, with_picture}
use Rattle.link_pictures.proofs.RunLists.{picture-new, picture-there, place-new}
use Rattle.vc_types.specs.TransformParameters.{parameters_of}
use Rattle.link_pictures.proofs.answers.Answers.place_for.Goals as goal

pub returns-in-Some-clause-value : goal.returns-in-Some-clause-value
returns-in-Some-clause-value g c =
    let n = c.args.job.now.number in
    let p = parameters_of c.args.job.now.plan in
    let l = c.self.inside.pictures.items in
    let found : position (is_of_number n) l ≡ Some c.in-Some.place = search rules in
    subst (λ (pictures : List PictureAnswers). pictures ≡ with_picture pictures n p) c.self.view_is (picture-there n p l c.in-Some.place found)

pub returns-clause-place : goal.returns-clause-place
returns-clause-place g c =
    let n = c.args.job.now.number in
    let p = parameters_of c.args.job.now.plan in
    let l = c.self.inside.pictures.items in
    let none : position (is_of_number n) l ≡ None = search rules in
    let now : c.push.new.self.items ≡ l ++ no_answers n p ∷ [] =
    c.in_ok-push.ensures.items ∙ ap (λ (a : PictureAnswers). l ++ a ∷ []) c.in_ok-picture.ensures.value in
    let long : length c.push.new.self.items ≡ length l + 1 = ap length now ∙ length-append l (no_answers n p ∷ []) in
    let len : c.len.result ≡ length c.push.new.self.items = search rules in
    ap (position (is_of_number n)) now ∙ place-new n p l none ∙ ap Some (omega (arith, long, len))

pub returns-clause-value : goal.returns-clause-value
returns-clause-value g c =
    let n = c.args.job.now.number in
    let p = parameters_of c.args.job.now.plan in
    let l = c.self.inside.pictures.items in
    let none : position (is_of_number n) l ≡ None = search rules in
    c.in_ok-push.ensures.items ∙ ap (λ (a : PictureAnswers). l ++ a ∷ []) c.in_ok-picture.ensures.value
    ∙ picture-new n p l none
    ∙ ap (λ (pictures : List PictureAnswers). with_picture pictures n p) c.self.view_is
