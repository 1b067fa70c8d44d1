-- The answers of a run are its jobs' own decodings.
use Rattle.std.proofs.Common.{◌≡◌, ℕ, ◌+◌, List, [], ◌∷◌, map, refl, ap, sym, ◌∙◌}
use Rattle.machine_model.specs.Places.{Answered, own_answer}
use Rattle.vc_types.specs.TransformParameters.{Parameters, parameters_of}
use Rattle.vc_slice.specs.Strips.{decodings}
use Rattle.vc_slice.specs.declared.run.RunDone.{RunDone}
use Rattle.link_slices.specs.Jobs.{answered_run, answered_with, job_by, jobs_from, jobs_of_run}

pub own_answers : (p : Parameters) (number n : ℕ) (slices : List (List ℕ)) → map own_answer (jobs_from p number n slices) ≡ answered_with (jobs_from p number n slices) (decodings p n slices)
unfolding decodings
own_answers p number n [] = refl
own_answers p number n (bytes ∷ slices) =
    ap (λ (rest : List Answered). own_answer (job_by p number n bytes) ∷ rest) (own_answers p number (n + 1) slices)

pub answers_are_own : (d : RunDone) → map own_answer (jobs_of_run d.job) ≡ answered_run d
answers_are_own d = own_answers (parameters_of d.job.plan) d.job.number d.job.first d.job.slices.items ∙ ap (answered_with (jobs_of_run d.job)) (sym d.decoded)
