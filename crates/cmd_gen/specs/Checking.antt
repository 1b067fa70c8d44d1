-- What checking generated frames did, by how it ended.
use Rattle.std.specs.Prelude.{◌≡◌, ◌⊎◌, ℕ, List, ◌∷◌, ◌++◌, Option, Some, Result, Ok, Err}
use Rattle.cmd_gen.specs.Differences.{differences}
use Rattle.link_receiver.specs.StartedWorkers.{HasStarted}
use Rattle.cmd_send.specs.FramesSent.{AreSendable, frame_fault, stream_sent}
use Rattle.cmd_gen.specs.Generating.{sample_total}
use Rattle.cmd_gen.specs.Defaults.{all_generated, sent_by_default}
use Rattle.link_model.specs.Output.{full_output}
use Rattle.link_model.specs.SendingFaults as faults
use Rattle.link_report.specs.declared.ending.Ending.{Ending}
use Rattle.link_report.specs.declared.ending.Ending.TheVariants.{NoMemory, SliceTooLarge}
use Rattle.link_report.specs.declared.summary.Summary.{Summary}
use Rattle.link_report.specs.declared.summary.Summary.TheVariants.{Compared}
use Rattle.vc_ports.specs.Changes.{Change, Stays}
use Rattle.vc_slice.specs.Asked.{Told}
use Rattle.vc_types.specs.Planes.{Planes}
use Rattle.vc_types.specs.SenderSettings.{Generating}

-- no generated frame is refused, at index 0 and the other defaults
abbrev pub IsCheckable : Generating → Type 0
IsCheckable g = AreSendable (sent_by_default g.frames) (all_generated g)

-- what is sent of all generated frames, the end of the sequence last
abbrev pub checked_stream : Generating → List (List ℕ)
checked_stream g = stream_sent (sent_by_default g.frames) (all_generated g)

-- all generated frames were sent, what a receiver writes of them was compared, and these are the
-- counts
pub record IsCompared (g : Generating) (window frames samples different : ℕ) : Type 0 where
  pub checkable : IsCheckable g
  pub frames_are : frames ≡ g.count
  pub samples_are : samples ≡ sample_total g
  pub different_are : different ≡ differences g (full_output window (checked_stream g))

-- the first generated frame with a slice that is too large, that slice and its length
pub record HasLargeSlice (g : Generating) (slice bytes : ℕ) : Type 0 where
  pub others : List Planes
  pub frame : Planes
  pub more : List Planes
  pub frames_are : all_generated g ≡ others ++ frame ∷ more
  pub sendable : AreSendable (sent_by_default g.frames) others
  pub refused :
      frame_fault (sent_by_default g.frames) frame ≡ Some (faults.SliceTooLarge slice bytes)

abbrev pub CheckEnded : Generating → ℕ → Result Summary Ending → Type 0
CheckEnded g window (Ok (Compared frames samples different)) =
    IsCompared g window frames samples different
CheckEnded g window (Err (SliceTooLarge slice bytes)) = HasLargeSlice g slice bytes
CheckEnded g window (Err NoMemory) = Unit {0}
CheckEnded g window answer = ⊥

-- so many workers were started, once; where memory ran out, that or nothing was asked of them
abbrev pub StartsHands : ℕ → Result Summary Ending → Change (Option Told) → Type 0
StartsHands workers (Err NoMemory) hands = HasStarted workers hands ⊎ Stays hands
StartsHands workers answer hands = HasStarted workers hands

pub record Checks
    (g : Generating) (window workers : ℕ) (answer : Result Summary Ending)
    (hands : Change (Option Told))
    : Type 0 where
  pub ended : CheckEnded g window answer
  pub workers_started : StartsHands workers answer hands
