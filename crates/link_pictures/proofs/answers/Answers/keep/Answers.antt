use Rattle.std.proofs.Common.{rules, ◌≡◌, List, Some, None, refl, sym, ap, ◌∙◌, ◌++◌, ◌∷◌, [], set}
use Rattle.std.proofs.Common.{arith}
use Rattle.std.specs.Prelude.{position, slice_index_or, Option}
use Rattle.std.specs.Option.{option_and_then}
use Rattle.receiver_model.specs.Receptions.{PictureAnswers, answer_at, answers_with, kept_answer, keeps_answer}
use Rattle.link_slices.specs.Jobs.{answered}
use Rattle.link_pictures.specs.SeenAnswers.{is_of_number}
use Rattle.link_pictures.proofs.PictureLists.{stands, found_there, keeps_there, keeps_first}
use Rattle.receiver_model.proofs.KeptAnswers.{none_at}
use Rattle.link_pictures.proofs.answers.Answers.keep.Goals as goal

pub keep-requires : goal.keep-requires
keep-requires g c =
    let n = c.args.done.job.number in
    let i = c.args.done.job.index in
    let l = c.self.inside.pictures.items in
    let d = c.index_mut.result.now in
    let found : position (is_of_number n) l ≡ Some c.in-Some.place = search rules in
    let read : d ≡ slice_index_or l c.in-Some.place d = c.index_mut.ensures.value in
    record {
      once = ap (λ (o : Option PictureAnswers). option_and_then (λ (a : PictureAnswers). answer_at a.slices i) o)
          (ap Some read ∙ sym (found_there n l c.in-Some.place d (stands n l c.in-Some.place d found)))
          ∙ ap (λ (l : List PictureAnswers). kept_answer l n i) c.self.view_is ∙ c.requires.once;
    }

pub returns-in-Some : goal.returns-in-Some
returns-in-Some g c =
    let n = c.args.done.job.number in
    let l = c.self.inside.pictures.items in
    let place = c.in-Some.place in
    let d = c.index_mut.result.now in
    let done = answered c.args.done in
    let found : position (is_of_number n) l ≡ Some place = search rules in
    let read : d ≡ slice_index_or l place d = c.index_mut.ensures.value in
    record {
      value = ap (set l place) (c.keep.ensures.value ∙ ap (λ (a : PictureAnswers). answers_with a done) read)
          ∙ keeps_there n done refl l place d (stands n l place d found)
          ∙ ap (λ (l : List PictureAnswers). keeps_answer l done) c.self.view_is;
    }

pub keep-requires-in-None : goal.keep-requires-in-None
keep-requires-in-None g c = grind (arith, none_at)

pub returns-in_ok-push-in-None : goal.returns-in_ok-push-in-None
returns-in_ok-push-in-None g c =
    let n = c.args.done.job.number in
    let l = c.self.inside.pictures.items in
    let done = answered c.args.done in
    let none : position (is_of_number n) l ≡ None = search rules in
    record {
      value = c.in_ok-push-in-None.ensures.items
          ∙ ap (λ (a : PictureAnswers). l ++ a ∷ []) (c.keep-in-None.ensures.value ∙ ap (λ (a : PictureAnswers). answers_with a done) c.in_ok-picture-in-None.ensures.value)
          ∙ keeps_first n l none done refl
          ∙ ap (λ (l : List PictureAnswers). keeps_answer l done) c.self.view_is;
    }
