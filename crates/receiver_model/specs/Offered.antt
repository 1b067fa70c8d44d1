-- The jobs that were offered to places, one datagram after another.
use Rattle.std.specs.Prelude.{◌≡◌, ℕ, true, List, Some}
use Rattle.machine_model.specs.Feeders.{kept_job}
use Rattle.machine_model.specs.Places.{Job}
use Rattle.link_model.specs.Session.{HeardSession}
use Rattle.receiver_model.specs.Exchanging.{is_job_among}

-- the job of each slice that a picture keeps is one of them
abbrev pub AreAllOffered : ℕ → List HeardSession → List Job → Type 0
AreAllOffered size hs offered = (n i : ℕ) (job : Job) → kept_job size hs n i ≡ Some job
    → is_job_among offered job ≡ true

-- and so is each of these jobs
abbrev pub HasJobs : List Job → List Job → Type 0
HasJobs offered jobs = (job : Job) → is_job_among jobs job ≡ true
    → is_job_among offered job ≡ true
