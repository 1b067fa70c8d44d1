use Rattle.std.proofs.Common.{◌≡◌, Some, ap, ◌∙◌, set}
use Rattle.std.specs.Prelude.{position, slice_index_or}
use Rattle.std.proofs.lemmas.Result.{on_ok_weaker}
use Rattle.receiver_model.specs.Receptions.{PictureAnswers, takes_new}
use Rattle.link_slices.specs.Jobs.{answered_run}
use Rattle.link_pictures.specs.SeenAnswers.{is_of_number, with_picture}
use Rattle.link_pictures.proofs.RunLists.{done-begins, kept-there}
use Rattle.vc_types.specs.TransformParameters.{parameters_of}
use Rattle.link_pictures.proofs.answers.Answers.keep_run.Goals as goal

pub returns : goal.returns
returns g c =
    let job = c.args.done.job in
    let n = job.number in
    let p = parameters_of job.plan in
    let l = c.self.inside.pictures.items in
    let place = c.in_ok-place.place in
    let d = c.index_mut.result.now in
    let dones = answered_run c.args.done in
    let read : d ≡ slice_index_or l place d = c.index_mut.ensures.value in
    let is : l ≡ with_picture c.args.self.now n p = c.self.view_is ∙ c.in_ok-place.ensures.value in
    let found : position (is_of_number n) l ≡ Some place = ap (position (is_of_number n)) c.self.view_is ∙ c.in_ok-place.ensures.place in
    record {
      value = on_ok_weaker c.keep_run.result
          (λ kept. ap (set l place) (kept ∙ ap (λ (a : PictureAnswers). takes_new a dones) read)
          ∙ kept-there c.args.self.now l n p is place found dones (done-begins c.args.done) d)
          c.keep_run.ensures.value;
    }
