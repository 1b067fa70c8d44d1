-- The lists of datagrams that a receiver has heard, what it writes of them, and what its calls of
-- places told.
use Rattle.std.specs.Prelude.{◌≡◌, ℕ, ◌≤◌, Bool, true, false, List, [], ◌∷◌, ◌++◌, length, drop}
use Rattle.std.specs.Prelude.{Option, Some, None}
use Rattle.std.specs.List.{flat_map}
use Rattle.fill_model.specs.FilledSessions.{filled_so_far, filled_output, frame_written_last}
use Rattle.machine_model.specs.Feeders.{Feeder, kept_job}
use Rattle.link_model.specs.Output.{output_so_far, full_output, is_closed_in}
use Rattle.machine_model.specs.Places.{Job}
use Rattle.link_model.specs.Session.{sessions_of}
use Rattle.receiver_model.specs.Exchanging.{is_job_among}
use Rattle.receiver_model.specs.Offered.{HasJobs}
use Rattle.receiver_model.specs.Receptions.{Reception, kept_answer}
use Rattle.receiver_model.specs.SlicesOut.{AreOutKept, is_job_out}
use Rattle.receiver_model.specs.Standing.{StandsFor}
use Rattle.link_receiver.specs.States.{ReceiverState}
use Rattle.stream_model.specs.Streams.{stream_so_far, stream_of}
use Rattle.link_slices.specs.Jobs.{jobs_of_run}
use Rattle.link_pictures.specs.Standing.{StreamsFor}
use Rattle.link_pictures.specs.Writing.{WrittenStream}
use Rattle.link_pictures.specs.declared.written.Written.TheVariants.{Frames, Filled, Units}
use Rattle.vc_slice.specs.Asked.{Told, Grows}

-- ---- what is due

-- what a receiver makes of datagrams: the raw frames, these without gaps, or the elementary stream of
-- the first session
pub data OutputForm : Type 0 where
  AsFrames : OutputForm
  AsFilled : OutputForm
  AsUnits : OutputForm

-- raw frames, without gaps where these are filled
abbrev pub frames_form : Bool → OutputForm
frames_form true = AsFilled
frames_form false = AsFrames

abbrev pub due_so_far : OutputForm → ℕ → List (List ℕ) → List ℕ
due_so_far AsFrames size datagrams = output_so_far size datagrams
due_so_far AsFilled size datagrams = filled_so_far size datagrams
due_so_far AsUnits size datagrams = stream_so_far size datagrams

-- once the input has ended
abbrev pub due_in_all : OutputForm → ℕ → List (List ℕ) → List ℕ
due_in_all AsFrames size datagrams = full_output size datagrams
due_in_all AsFilled size datagrams = filled_output size datagrams
due_in_all AsUnits size datagrams = stream_of size datagrams

-- what is due with one datagram more, and wasn't before
abbrev pub newly_due : OutputForm → ℕ → List (List ℕ) → List ℕ → List ℕ
newly_due form size datagrams d = drop (length (due_so_far form size datagrams))
    (due_so_far form size (datagrams ++ d ∷ []))

-- what is due at the end, and wasn't before
abbrev pub still_due : OutputForm → ℕ → List (List ℕ) → List ℕ
still_due form size datagrams =
    drop (length (due_so_far form size datagrams)) (due_in_all form size datagrams)

-- ---- what was heard

-- it keeps what was written of these datagrams: of frames nothing, without gaps the last frame, and
-- else the stream
abbrev pub WritesAs : OutputForm → ReceiverState → ℕ → List (List ℕ) → Type 0
WritesAs AsFrames r size datagrams = r.written ≡ Frames
WritesAs AsFilled r size datagrams = r.written ≡ Filled (frame_written_last size datagrams)
WritesAs AsUnits r size datagrams = (w : WrittenStream) × (r.written ≡ Units w)
    × StreamsFor r.reception w size datagrams

-- it stands for these datagrams, of which pictures keep the slices that are out, and its input goes
-- on
pub record HasHeard (form : OutputForm) (r : ReceiverState) (size : ℕ) (datagrams : List (List ℕ))
    : Type 0 where
  pub sound : r.has_failed ≡ false
  pub least : 2 ≤ size
  pub fits : size ≤ 8
  pub feeder : Feeder
  pub stands : StandsFor r.reception size feeder
  pub heard : feeder.heard ≡ datagrams
  pub goes_on : feeder.has_ended ≡ false
  pub out : AreOutKept size (sessions_of datagrams) r.reception.out
  pub writes : WritesAs form r size datagrams

-- ---- what was told

-- what was told of places, where no workers were started
pub record AskedPlaces (old new : Option Told) : Type 0 where
  pub more : Told
  pub grows : Grows old new more
  pub started : more.started ≡ []

-- the jobs that were offered, in the order of the offers
abbrev pub told_jobs : Told → List Job
told_jobs told = flat_map (λ offer. jobs_of_run offer.job) told.offered

-- what was told of places, where no workers were started and each of these jobs was offered
pub record OfferedToPlaces (old new : Option Told) (jobs : List Job) : Type 0 where
  pub more : Told
  pub grows : Grows old new more
  pub started : more.started ≡ []
  pub offered : HasJobs (told_jobs more) jobs

-- ---- what may be offered

-- a picture keeps the slice of this job with the datagram, and didn't keep it before; it isn't
-- closed behind the datagram, and the slice has no answer and isn't out
pub record IsNewSlice
    (r : Reception) (size : ℕ) (datagrams : List (List ℕ)) (d : List ℕ) (job : Job) : Type 0 where
  pub kept : kept_job size (sessions_of (datagrams ++ d ∷ [])) job.number job.index ≡ Some job
  pub new : kept_job size (sessions_of datagrams) job.number job.index ≡ None
  pub unclosed : is_closed_in size (sessions_of (datagrams ++ d ∷ [])) job.number ≡ false
  pub unanswered : kept_answer r.answers job.number job.index ≡ None
  pub not_out : is_job_out r.out job ≡ false

-- what was told of places, where each job that was offered is such a one
pub record OfferedNewSlices
    (old new : Option Told) (r : Reception) (size : ℕ) (datagrams : List (List ℕ)) (d : List ℕ)
    : Type 0 where
  pub more : Told
  pub grows : Grows old new more
  pub each : (job : Job) → is_job_among (told_jobs more) job ≡ true
      → IsNewSlice r size datagrams d job
