-- As datagrams come each slice that a picture keeps is offered.
use Rattle.std.proofs.Common.{◌≡◌, ℕ, ◌≤◌, true, false, refl, ap, sym, ◌∙◌, arith}
use Rattle.std.proofs.Common.{List, [], ◌∷◌, ◌++◌, Option, Some, None}
use Rattle.std.specs.Prelude.{◌||◌}
use Rattle.std.proofs.lemmas.Bool.{or_left, or_right}
use Rattle.std.proofs.lemmas.List.Folds.{list_any-append}
use Rattle.std.proofs.lemmas.Option.{none-some, same_Some}
use Rattle.machine_model.specs.Feeders.{kept_job}
use Rattle.machine_model.specs.Feeding.{is_same_job}
use Rattle.machine_model.specs.Places.{Job}
use Rattle.link_model.specs.Session.{HeardSession, sessions_of}
use Rattle.link_model.proofs.Hearing.{sessions_of_more}
use Rattle.receiver_model.specs.Entering.{datagram_jobs}
use Rattle.receiver_model.specs.Exchanging.{is_job_among}
use Rattle.receiver_model.specs.Offered.{AreAllOffered, HasJobs}
use Rattle.receiver_model.specs.Receptions.{Reception}
use Rattle.receiver_model.specs.Standing.{StandsForHeard}
use Rattle.receiver_model.proofs.DatagramJobs.{all_jobs}
use Rattle.receiver_model.proofs.KeptJobs.{unopened_job}
use Rattle.receiver_model.proofs.SessionPictures.{job_stays, session_none}

pub none_offered : (size : ℕ) (offered : List Job) → AreAllOffered size (sessions_of []) offered
none_offered size offered n i job is = absurd (none-some job
    (sym (unopened_job size n i [] (session_none size [] n refl)) ∙ is))

module _ (r : Reception) (size : ℕ) (datagrams : List (List ℕ)) (d : List ℕ) (small : size ≤ 8)
    (stands : StandsForHeard r size datagrams false) (offered more : List Job)
    (was : AreAllOffered size (sessions_of datagrams) offered)
    (has : HasJobs more (datagram_jobs r d)) where
  pub more_offered : AreAllOffered size (sessions_of (datagrams ++ d ∷ [])) (offered ++ more)
  more_offered n i job is =
      list_any-append (is_same_job job) offered more
      ∙ by_job (kept_job size (sessions_of datagrams) n i) refl
    where
      by_job : (o : Option Job) → kept_job size (sessions_of datagrams) n i ≡ o
          → (is_job_among offered job || is_job_among more job) ≡ true
      by_job None at = or_right (is_job_among offered job) (is_job_among more job)
          (has job (all_jobs r size datagrams d stands n i job at is))
      by_job (Some old) at = grind (arith, sessions_of_more, job_stays)
