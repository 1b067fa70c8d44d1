use Rattle.std.proofs.Common.{◌≡◌, [], ◌∷◌, ap, ◌∙◌}
use Rattle.machine_model.specs.Places.{Answered, decoding}
use Rattle.receiver_model.specs.Receptions.{takes_new}
use Rattle.link_slices.specs.Jobs.{job_in_run, job_of}
use Rattle.link_pictures.proofs.RunAnswers.{answered-own, own-job}
use Rattle.link_pictures.proofs.picture.PictureSlices.decode_slice.Goals as goal

pub returns : goal.returns
returns c =
    let done = c.in_ok-decode.field-0 in
    let own = job_in_run c.args.job.now c.args.k in
    let same : job_of done.job ≡ own = ap job_of c.in_ok-decode.ensures.job ∙ own-job c.args.job.now c.args.k c.in_ok-slice.field-0 c.in_ok-slice.ensures in
    record {
      value = c.keep_new.ensures
          ∙ ap (λ (a : Answered). takes_new c.args.self.now (a ∷ [])) (answered-own (job_of done.job) own done.answer same (done.decoded ∙ ap decoding same));
    }
