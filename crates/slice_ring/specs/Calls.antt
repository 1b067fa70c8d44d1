-- What each call of the ring answers, by the places before it.
use Rattle.std.specs.Prelude.{ℕ, ◌==◌, if◌then◌else◌, List, position, Option, Some, None, Result}
use Rattle.std.specs.Prelude.{Ok, Err}
use Rattle.machine_model.specs.Feeding.{is_same_job}
use Rattle.machine_model.specs.Places.{Job, Answered, Content, Offered, Claimed, Decoded, JobPlace}
use Rattle.machine_model.specs.Places.{state_of, place_at, is_free, has_slice}
use Rattle.link_slices.specs.Jobs.{job_of}
use Rattle.slice_ring.specs.declared.answers.CompleteRefusal.{CompleteRefusal}
use Rattle.slice_ring.specs.declared.answers.CompleteRefusal.TheVariants.{Stale, Other}
use Rattle.slice_ring.specs.declared.answers.NotHeld.{NotHeld}
use Rattle.slice_ring.specs.declared.answers.NotWaiting.{NotWaiting}
use Rattle.slice_ring.specs.declared.answers.NotYet.{NotYet}
use Rattle.slice_ring.specs.declared.answers.PutRefusal.{PutRefusal}
use Rattle.slice_ring.specs.declared.answers.PutRefusal.TheVariants.{Twice, Full}
use Rattle.vc_slice.specs.declared.done.SliceDone.{SliceDone}
use Rattle.vc_slice.specs.declared.job.SliceJob.{SliceJob}

-- ---- put

-- by the place that has a job of the slice, and the lowest free place
abbrev pub put_by : SliceJob → Option ℕ → Option ℕ → Result ℕ PutRefusal
put_by job (Some place) free = Err (Twice job place)
put_by job None (Some place) = Ok place
put_by job None None = Err (Full job)

abbrev pub put_answer : List JobPlace → SliceJob → Result ℕ PutRefusal
put_answer places job =
    put_by job (position (has_slice job.number job.index) places) (position is_free places)

-- ---- complete

abbrev pub Completed : Type 0
Completed = Result (Unit {0}) CompleteRefusal

abbrev pub stale : JobPlace → ℕ → SliceDone → Completed
stale p given done = Err (Stale p.serial (state_of p.content) given done)

abbrev pub completing_job : SliceDone → Job → Completed
completing_job done job = if is_same_job (job_of done.job) job then Ok tt else Err (Other done)

-- a place that is held with the given serial
abbrev pub completing_by : JobPlace → ℕ → SliceDone → Content → Completed
completing_by p given done (Claimed worker job) =
    if p.serial == given then completing_job done job else stale p given done
completing_by p given done other = stale p given done

abbrev pub completing : JobPlace → ℕ → SliceDone → Completed
completing p given done = completing_by p given done p.content

abbrev pub complete_answer : List JobPlace → ℕ → ℕ → SliceDone → Completed
complete_answer places place given done = completing (place_at places place) given done

-- the job that is held there
abbrev pub held_in : Content → Option Job
held_in (Claimed worker job) = Some job
held_in other = None

-- and that with this serial
abbrev pub held_with : JobPlace → ℕ → Option Job
held_with p serial = if p.serial == serial then held_in p.content else None

-- P holds where the completion was stale
abbrev pub IfStale : Completed → Type 0 → Type 0
IfStale (Err (Stale kept state given done)) P = P
IfStale other P = Unit {0}

-- ---- take, withdraw, leave

-- what is done there
abbrev pub done_in : Content → Option Answered
done_in (Decoded done) = Some done
done_in other = None

abbrev pub taking_from : Content → Result Answered NotYet
taking_from (Decoded done) = Ok done
taking_from other = Err (record { state = state_of other })

abbrev pub withdrawing_from : Content → Result Job NotWaiting
withdrawing_from (Offered job) = Ok job
withdrawing_from other = Err (record { state = state_of other })

abbrev pub leaving_from : Content → Result (Unit {0}) NotHeld
leaving_from (Claimed worker job) = Ok tt
leaving_from other = Err (record { state = state_of other })
