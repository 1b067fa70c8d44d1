use Rattle.std.proofs.Common.{[], ◌∷◌, ap, sym, ◌∙◌}
use Rattle.machine_model.specs.Places.{Answered, decoding}
use Rattle.receiver_model.specs.Receptions.{takes_new}
use Rattle.link_slices.specs.Jobs.{job_in_run, job_of}
use Rattle.link_pictures.proofs.RunAnswers.{answered-own, own-job}
use Rattle.link_pictures.proofs.picture.PictureSlices.keep_slice.Goals as goal

pub invariant_of-keep_new : goal.invariant_of-keep_new
invariant_of-keep_new c = record {
  decoded = c.requires.decoded ∙ ap decoding (sym (own-job c.args.job.now c.args.k c.in_ok-job.job c.in_ok-job.ensures));
}

pub returns : goal.returns
returns c =
    let job = c.in_ok-job.job in
    let same = own-job c.args.job.now c.args.k job c.in_ok-job.ensures in
    record {
      value = c.keep_new.ensures
          ∙ ap (λ (a : Answered). takes_new c.args.self.now (a ∷ [])) (answered-own (job_of job) (job_in_run c.args.job.now c.args.k) c.args.answer same c.requires.decoded);
    }
