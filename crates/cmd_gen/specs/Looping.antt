-- What a loop over generated frames knows, where each is sent and received.
use Rattle.std.specs.Prelude.{◌≡◌, ⊤, ℕ, List, [], ◌∷◌, ◌++◌, Some, Result, Ok, Err}
use Rattle.cmd_gen.specs.declared.checker.Checker.{Checker}
use Rattle.cmd_gen.specs.Checking.{HasLargeSlice}
use Rattle.cmd_gen.specs.Comparing.{IsCheckedUpTo}
use Rattle.cmd_send.specs.FramesSent.{AreSendable, frame_fault, frames_sent}
use Rattle.cmd_send.specs.Steps.{numbers_after}
use Rattle.cmd_gen.specs.Defaults.{all_generated, sent_by_default}
use Rattle.link_model.specs.SendingFaults as faults
use Rattle.link_report.specs.declared.ending.Ending.{Ending}
use Rattle.link_report.specs.declared.ending.Ending.TheVariants.{NoMemory, SampleTooLarge, SliceTooLarge}
use Rattle.link_sender.specs.declared.sender.Sender.{Sender}
use Rattle.link_sender.specs.State.{numbers_of}
use Rattle.vc_types.specs.Planes.{Planes}
use Rattle.vc_types.specs.SenderSettings.{Generating, sending_view}

-- a sender has sent these frames
pub record HasSentFrames {F : Type 0} (g : Generating) (frames : List Planes) (sender : Sender F)
    : Type 0 where
  pub settings_are : sending_view sender.settings ≡ sent_by_default g.frames
  pub numbers_are : numbers_of sender ≡ numbers_after (sent_by_default g.frames) frames
  pub sendable : AreSendable (sent_by_default g.frames) frames

-- and what a receiver writes of them so far was compared
pub record HasChecked {F H : Type 0}
    (g : Generating) (window : ℕ) (frames : List Planes) (sender : Sender F) (checker : Checker H)
    : Type 0 where
  pub sent : HasSentFrames g frames sender
  pub checked : IsCheckedUpTo g window (frames_sent (sent_by_default g.frames) frames) checker

-- a frame is refused for this fault
abbrev pub IsFrameRefused : Generating → Planes → Ending → Type 0
IsFrameRefused g frame NoMemory = ⊤
IsFrameRefused g frame (SampleTooLarge place plane value) =
    frame_fault (sent_by_default g.frames) frame ≡ Some (faults.SampleRange plane place value)
IsFrameRefused g frame (SliceTooLarge slice bytes) =
    frame_fault (sent_by_default g.frames) frame ≡ Some (faults.SliceTooLarge slice bytes)
IsFrameRefused g frame ending = ⊥

-- one frame more
abbrev pub ChecksFrame : {F H : Type 0} → Generating → ℕ → List Planes → Planes → Sender F
    → Checker H → Result (Unit {0}) Ending → Type 0
ChecksFrame g window frames frame sender checker (Ok done) =
    HasChecked g window (frames ++ frame ∷ []) sender checker
ChecksFrame g window frames frame sender checker (Err ending) = IsFrameRefused g frame ending

-- one of all frames is refused for this fault
abbrev pub IsOneRefused : Generating → Ending → Type 0
IsOneRefused g NoMemory = ⊤
IsOneRefused g (SliceTooLarge slice bytes) = HasLargeSlice g slice bytes
IsOneRefused g ending = ⊥

abbrev pub ChecksFrames : {F H : Type 0} → Generating → ℕ → Sender F → Checker H
    → Result (Unit {0}) Ending → Type 0
ChecksFrames g window sender checker (Ok done) =
    HasChecked g window (all_generated g) sender checker
ChecksFrames g window sender checker (Err ending) = IsOneRefused g ending
