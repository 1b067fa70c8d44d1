-- The slices that are out at places, in runs: pictures of what was heard keep them, and each was put
-- there as one of the jobs that were offered.
use Rattle.std.specs.Prelude.{◌≡◌, ℕ, ◌==◌, Bool, true, ◌&&◌, is_some, List, [], ◌∷◌}
use Rattle.std.specs.List.{list_all, list_any}
use Rattle.machine_model.specs.Feeders.{kept_job}
use Rattle.machine_model.specs.Places.{Job}
use Rattle.link_model.specs.Session.{HeardSession}
use Rattle.receiver_model.specs.Exchanging.{Exchange, Proposed, Fetched, Withdrawn, Made, is_job_among}
use Rattle.receiver_model.specs.Exchanging.{jobs_number}
use Rattle.receiver_model.specs.Receptions.{RunOut}

-- a picture keeps each of them
abbrev pub AreOutKept : ℕ → List HeardSession → List RunOut → Type 0
AreOutKept size hs [] = Unit {0}
AreOutKept size hs (run ∷ rest) =
    (list_all (λ i. is_some (kept_job size hs run.number i)) run.indices ≡ true)
    × AreOutKept size hs rest

abbrev pub has_its_slice : Job → RunOut → Bool
has_its_slice job run = run.number == job.number && list_any (λ i. i == job.index) run.indices

-- the slice of a job is one of them
abbrev pub is_job_out : List RunOut → Job → Bool
is_job_out out job = list_any (has_its_slice job) out

-- a job that was put with others is among these, and of the picture of the others
abbrev pub is_put_of : List Job → ℕ → Job → Bool
is_put_of jobs number job = is_job_among jobs job && job.number == number

-- each job that was put into the places is among these, and those that were put together are of one
-- picture
abbrev pub ArePutsOf : List Job → List Exchange → Type 0
ArePutsOf jobs [] = Unit {0}
ArePutsOf jobs (Proposed run place ∷ rest) =
    (list_all (is_put_of jobs (jobs_number run)) run ≡ true) × ArePutsOf jobs rest
ArePutsOf jobs (Fetched place given ∷ rest) = ArePutsOf jobs rest
ArePutsOf jobs (Withdrawn place ∷ rest) = ArePutsOf jobs rest
ArePutsOf jobs (Made dones ∷ rest) = ArePutsOf jobs rest
