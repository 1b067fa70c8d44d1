-- What a sender of frames keeps from one frame to the next, and what each of its steps does.
use Rattle.std.specs.Prelude.{◌≡◌, ◌⊎◌, ◌+◌, ◌-◌, ◌*◌, ◌%◌, ◌^◌, ◌≤◌, ℕ, List, [], ◌∷◌}
use Rattle.std.specs.Prelude.{◌++◌, length, Option, Some, None, Result, Ok, Err}
use Rattle.link_outside.specs.declared.outlet.OutletFault.{OutletFault}
use Rattle.link_outside.specs.declared.outlet.OutletFault.TheVariants as outlets
use Rattle.frame_writer.specs.declared.read_fault.FrameReadFault.{FrameReadFault}
use Rattle.frame_writer.specs.declared.read_fault.FrameReadFault.TheVariants as reading
use Rattle.cmd_send.specs.declared.frame_sender.FrameSender.{FrameSender}
use Rattle.cmd_send.specs.declared.totals.Totals.{Totals}
use Rattle.cmd_send.specs.Counted.{totals_of}
use Rattle.cmd_send.specs.FramesSent.{AreSendable, bytes_in, frame_fault, frames_sent, stream_sent}
use Rattle.cmd_send.specs.Looping.{HasSent, StopsSending, end_sent, next_sent}
use Rattle.link_model.specs.Sending.{pictures_per_frame, timestamp_of}
use Rattle.link_model.specs.SendingFaults as faults
use Rattle.link_report.specs.declared.ending.Ending.{Ending}
use Rattle.link_report.specs.declared.ending.Ending.TheVariants.{InputFailed, NoMemory, OutputFailed, RawCut}
use Rattle.link_report.specs.declared.ending.Ending.TheVariants.{SampleTooLarge, SliceTooLarge, WireFailed}
use Rattle.link_sender.specs.declared.refusal.SendRefusal.{SendRefusal}
use Rattle.link_sender.specs.declared.refusal.SendRefusal.TheVariants as sending
use Rattle.link_sender.specs.Sent.{Numbers}
use Rattle.link_sender.specs.State.{numbers_of}
use Rattle.vc_ports.specs.Changes.{InputChange}
use Rattle.vc_ports.specs.Reading.{GaveAll}
use Rattle.vc_types.specs.Planes.{Planes}
use Rattle.vc_types.specs.SenderSettings.{Sending, sending_view}

-- ---- what is kept

-- what a sender goes on with behind frames
abbrev pub numbers_after : Sending → List Planes → Numbers
numbers_after s frames = record {
  frame = length frames % 2 ^ 63;
  number = (s.seq + length (frames_sent s frames)) % 2 ^ 32;
  timestamp = timestamp_of s (length frames * pictures_per_frame s - 1);
}

-- it has sent these frames
pub record IsBehindFrames {H F : Type 0} (s : Sending) (frames : List Planes) (f : FrameSender H F)
    : Type 0 where
  pub settings_are : sending_view f.sender.settings ≡ s
  pub sendable : AreSendable s frames
  pub numbers_are : numbers_of f.sender ≡ numbers_after s frames
  pub totals_are : f.totals ≡ totals_of s frames

-- ---- a frame

-- a frame behind these is refused, or a datagram of it didn't go out, or memory ran out for it
abbrev pub FailsAt : Sending → List Planes → Planes → (List (List ℕ) → Type 0)
    → (List (List ℕ) → OutletFault → Type 0) → Ending → Type 0
FailsAt s sent frame went broke (SampleTooLarge place plane value) =
    (frame_fault s frame ≡ Some (faults.SampleRange plane place value)) × went []
FailsAt s sent frame went broke (SliceTooLarge slice bytes) =
    (frame_fault s frame ≡ Some (faults.SliceTooLarge slice bytes)) × went []
FailsAt s sent frame went broke OutputFailed =
    (frame_fault s frame ≡ None) × broke (next_sent s sent frame) outlets.Output
FailsAt s sent frame went broke WireFailed =
    (frame_fault s frame ≡ None) × broke (next_sent s sent frame) outlets.Wire
FailsAt s sent frame went broke NoMemory = went []
    ⊎ ((frame_fault s frame ≡ None) × broke (next_sent s sent frame) outlets.NoMemory)
FailsAt s sent frame went broke ending = ⊥

-- a frame behind these is sent
pub record FrameIsTaken {H F : Type 0}
    (s : Sending) (others : List Planes) (frame : Planes) (new : FrameSender H F)
    (went : List (List ℕ) → Type 0)
    : Type 0 where
  pub sound : frame_fault s frame ≡ None
  pub behind : IsBehindFrames s (others ++ frame ∷ []) new
  pub sent : went (next_sent s others frame)

abbrev pub TakesFrame : {H F : Type 0} → Sending → List Planes → Planes → FrameSender H F
    → (List (List ℕ) → Type 0) → (List (List ℕ) → OutletFault → Type 0)
    → Result (Unit {0}) Ending → Type 0
TakesFrame s sent frame new went broke (Ok done) = FrameIsTaken s sent frame new went
TakesFrame s sent frame new went broke (Err ending) = FailsAt s sent frame went broke ending

-- ---- the end

-- the end of the sequence is sent behind these frames
pub record IsFinished
    (s : Sending) (frames : List Planes) (went : List (List ℕ) → Type 0) (totals : Totals)
    : Type 0 where
  pub sent : went (end_sent s frames ∷ [])
  pub frames_are : totals.frames ≡ length frames
  pub datagrams_are : totals.datagrams ≡ length (stream_sent s frames)
  pub bytes_are : totals.bytes ≡ bytes_in (stream_sent s frames)

abbrev pub Finishes : Sending → List Planes → (List (List ℕ) → Type 0)
    → (List (List ℕ) → OutletFault → Type 0) → Result Totals Ending → Type 0
Finishes s frames went broke (Ok totals) = IsFinished s frames went totals
Finishes s frames went broke (Err OutputFailed) = broke (end_sent s frames ∷ []) outlets.Output
Finishes s frames went broke (Err WireFailed) = broke (end_sent s frames ∷ []) outlets.Wire
Finishes s frames went broke (Err NoMemory) =
    went [] ⊎ broke (end_sent s frames ∷ []) outlets.NoMemory
Finishes s frames went broke answer = ⊥

-- ---- the loop

-- the input ended behind these frames, which were sent
pub record HasReadAll {H F : Type 0}
    (s : Sending) (most : ℕ) (sender : FrameSender H F) (input : InputChange)
    (went : List (List ℕ) → Type 0)
    : Type 0 where
  pub frames : List Planes
  pub middle : Option (List ℕ)
  pub few : length frames ≤ most
  pub behind : IsBehindFrames s frames sender
  pub sent : HasSent s frames input.left.before middle went
  pub end : GaveAll middle input.left.after []

abbrev pub ReadsFrames : {H F : Type 0} → Sending → ℕ → FrameSender H F → InputChange
    → (List (List ℕ) → Type 0) → (List (List ℕ) → OutletFault → Type 0)
    → Result (Unit {0}) Ending → Type 0
ReadsFrames s most sender input went broke (Ok done) = HasReadAll s most sender input went
ReadsFrames s most sender input went broke (Err ending) =
    StopsSending s most (Err ending) input went broke

-- ---- how sending ends by a fault

-- where a frame isn't read, by its number
abbrev pub unread_ending : FrameReadFault → ℕ → Ending
unread_ending reading.Cut frame = RawCut frame
unread_ending reading.ReadFault frame = InputFailed
unread_ending reading.NoMemory frame = NoMemory

-- where it is refused
abbrev pub refusal_ending : SendRefusal → Ending
refusal_ending (sending.SampleRange plane place value) = SampleTooLarge place plane value
refusal_ending (sending.SliceTooLarge slice bytes) = SliceTooLarge slice bytes
refusal_ending sending.NoMemory = NoMemory

-- where a datagram of it didn't go out
abbrev pub put_ending : OutletFault → Ending
put_ending outlets.NoMemory = NoMemory
put_ending outlets.Output = OutputFailed
put_ending outlets.Wire = WireFailed
