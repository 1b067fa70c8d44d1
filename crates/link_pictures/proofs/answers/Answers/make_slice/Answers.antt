use Rattle.std.proofs.Common.{◌≡◌, List, [], ◌∷◌, Some, ap, ◌∙◌, set}
use Rattle.std.specs.Prelude.{position, slice_index_or}
use Rattle.std.proofs.lemmas.Result.{on_ok_weaker}
use Rattle.machine_model.specs.Places.{Answered, own_answer}
use Rattle.receiver_model.specs.Receptions.{PictureAnswers, takes_new}
use Rattle.link_slices.specs.Jobs.{job_in_run}
use Rattle.link_pictures.specs.SeenAnswers.{is_of_number, with_picture}
use Rattle.link_pictures.proofs.RunLists.{kept-there, one-begins}
use Rattle.vc_types.specs.TransformParameters.{parameters_of}
use Rattle.link_pictures.proofs.answers.Answers.make_slice.Goals as goal

pub returns : goal.returns
returns g c =
    let job = c.args.job.now in
    let n = job.number in
    let p = parameters_of job.plan in
    let l = c.self.inside.pictures.items in
    let place = c.in_ok-place.place in
    let d = c.index_mut.result.now in
    let dones : List Answered = own_answer (job_in_run job c.args.k) ∷ [] in
    let read : d ≡ slice_index_or l place d = c.index_mut.ensures.value in
    let is : l ≡ with_picture c.args.self.now n p = c.self.view_is ∙ c.in_ok-place.ensures.value in
    let found : position (is_of_number n) l ≡ Some place = ap (position (is_of_number n)) c.self.view_is ∙ c.in_ok-place.ensures.place in
    record {
      value = on_ok_weaker c.make_slice.result
          (λ kept. ap (set l place) (kept ∙ ap (λ (a : PictureAnswers). takes_new a dones) read)
          ∙ kept-there c.args.self.now l n p is place found dones (one-begins job c.args.k) d)
          c.make_slice.ensures.value;
    }
