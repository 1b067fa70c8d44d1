-- How a loop over frames ends where a frame isn't read or isn't sent.
use Rattle.std.proofs.Common.{◌≡◌, ℕ, ◌*◌, ◌<◌, ◌≤◌, Bool, true, false, List, [], length, Option, Ok, Err, sym, subst, arith, inl, inr}
use Rattle.std.specs.Prelude.{IsTrue, nat_le, Result, if◌then◌else◌}
use Rattle.std.proofs.lemmas.Bool.{and_parts, leb-true}
use Rattle.std.proofs.lemmas.Grind.{common_steps}
use Rattle.std.proofs.Math.Nat.{le-mul_of_pos_right}
use Rattle.link_outside.specs.declared.outlet.OutletFault.{OutletFault}
use Rattle.link_outside.specs.declared.outlet.OutletFault.TheVariants as outlets
use Rattle.cmd_send.specs.Counted.{sent_answer}
use Rattle.cmd_send.specs.FramesSent.{frame_shape}
use Rattle.cmd_send.specs.Sends.{SendsFrames}
use Rattle.cmd_send.specs.Looping.{HasSent, StopsSending}
use Rattle.cmd_send.specs.Steps.{FailsAt, Finishes, unread_ending}
use Rattle.cmd_send.specs.declared.totals.Totals.{Totals}
use Rattle.cmd_send.proofs.Laws.{OutletLaws}
use Rattle.cmd_send.proofs.Stopping.{could_not_read, without_memory, cut, refused, unsent, part_sent, all_sent, end_unsent}
use Rattle.frame_writer.specs.FrameBytes.{frame_length}
use Rattle.frame_writer.specs.Reading.{GaveFrame, ReadsFrame}
use Rattle.frame_writer.specs.declared.read_fault.FrameReadFault.{FrameReadFault}
use Rattle.frame_writer.specs.declared.read_fault.FrameReadFault.TheVariants as reading
use Rattle.link_model.specs.SendingFaults as faults
use Rattle.link_report.specs.declared.ending.Ending.{Ending}
use Rattle.link_report.specs.declared.ending.Ending.TheVariants as endings
use Rattle.link_report.specs.declared.summary.Summary.{Summary}
use Rattle.vc_ports.specs.Changes.{InputChange, HasRisen}
use Rattle.vc_ports.specs.Reading.{Gave, GaveAll}
use Rattle.vc_ports.proofs.Given.{Gave-none}
use Rattle.vc_types.specs.declared.shape.Shape.{Shape}
use Rattle.vc_types.specs.Limits.{shape_fits}
use Rattle.vc_types.specs.Planes.{Planes}
use Rattle.vc_types.specs.SenderSettings.{Sending}
use Rattle.vc_types.specs.Video.{side_fits}

module _ {X : Type 0} {carried : X → X → List (List ℕ) → Type 0} {broke : X → X → List (List ℕ) → OutletFault → Type 0} (laws : OutletLaws carried broke) (s : Sending) (most : ℕ) (frames : List Planes) (input : InputChange) (mid : Option (List ℕ)) (x y z : X) (sent : HasSent s frames input.left.before mid (carried x y)) where
  abbrev StopsSo : Result Summary Ending → Type 0
  StopsSo answer = StopsSending s most answer input (carried x z) (broke x z)

  module _ (room : length frames < most) where
    -- a frame isn't sent
    pub failed_at : (frame : Planes) → GaveFrame (frame_shape s) mid input.left.after frame → (ending : Ending) → FailsAt s frames frame (carried y z) (broke y z) ending → StopsSo (Err ending)
    failed_at frame gave endings.NoMemory (inl nothing) = unsent laws s most frames input mid x y z sent frame gave room nothing
    failed_at frame gave endings.NoMemory (inr fails) = part_sent laws s most frames input mid x y z sent frame gave room outlets.NoMemory fails.0 fails.1
    failed_at frame gave endings.OutputFailed fails = part_sent laws s most frames input mid x y z sent frame gave room outlets.Output fails.0 fails.1
    failed_at frame gave endings.WireFailed fails = part_sent laws s most frames input mid x y z sent frame gave room outlets.Wire fails.0 fails.1
    failed_at frame gave (endings.SampleTooLarge place plane value) fails = refused laws s most frames input mid x y z sent frame gave room (faults.SampleRange plane place value) fails.0 fails.1
    failed_at frame gave (endings.SliceTooLarge slice bytes) fails = refused laws s most frames input mid x y z sent frame gave room (faults.SliceTooLarge slice bytes) fails.0 fails.1
    failed_at frame gave ending fails = absurd fails

    -- a frame isn't read
    pub unread_at : (fault : FrameReadFault) → ReadsFrame (frame_shape s) mid input.left.after (Err fault) → carried y z [] → StopsSo (Err (unread_ending fault (length frames)))
    unread_at reading.Cut read nothing = cut laws s most frames input mid x y z sent nothing read room
    unread_at reading.ReadFault read nothing = could_not_read laws s most frames input mid x y z sent nothing read.part read.short read.gave (omega (arith, room)) (inl room)
    unread_at reading.NoMemory read nothing = without_memory laws s most frames input mid x y z sent nothing (subst (λ (left : Option (List ℕ)). Gave mid left []) (sym read) (Gave-none mid)) (omega (arith, room))

  module _ (gave : GaveAll mid input.left.after []) (few : length frames ≤ most) where
    -- the end is sent, or it isn't
    pub ends_with : (result : Result Totals Ending) → Finishes s frames (carried y z) (broke y z) result → StopsSo (sent_answer result)
    ends_with (Ok totals) ends = all_sent laws s most frames input mid x y z sent gave few totals ends
    ends_with (Err endings.NoMemory) (inl nothing) = without_memory laws s most frames input mid x y z sent nothing gave.gave few
    ends_with (Err endings.NoMemory) (inr part) = end_unsent laws s most frames input mid x y z sent gave few outlets.NoMemory part
    ends_with (Err endings.OutputFailed) ends = end_unsent laws s most frames input mid x y z sent gave few outlets.Output ends
    ends_with (Err endings.WireFailed) ends = end_unsent laws s most frames input mid x y z sent gave few outlets.Wire ends
    ends_with other ends = absurd ends

-- ---- a frame has more than one byte

some_side : (side : ℕ) → IsTrue (side_fits side) → 1 ≤ side
some_side side fits = leb-true 1 side (and_parts (nat_le 1 side) (nat_le side 8192) fits).0

product : (a b : ℕ) → 1 ≤ a → 1 ≤ b → 1 ≤ a * b
product a b h k = let grows : a ≤ a * b = le-mul_of_pos_right a k in omega (arith, grows, h)

longer : (two : Bool) (n : ℕ) → 2 ≤ n → 1 < (if two then 2 * n else n)
longer true n h = omega (arith, h)
longer false n h = omega (arith, h)

pub more_than_one_byte : (shape : Shape) → IsTrue (shape_fits shape) → 1 < frame_length shape
more_than_one_byte shape fits = grind (arith, common_steps, and_parts, product, some_side, longer)

-- ---- causes

-- a frame that isn't sent isn't a failed read
pub not_read : (s : Sending) (frames : List Planes) (frame : Planes) (went : List (List ℕ) → Type 0) (broke : List (List ℕ) → OutletFault → Type 0) (ending : Ending) → FailsAt s frames frame went broke ending → ◌≡◌ {A = Result (Unit {0}) Ending} (Err ending) (Err endings.InputFailed) → ⊥
not_read s frames frame went broke ending fails e = let is : ending ≡ endings.InputFailed = cc e in subst (FailsAt s frames frame went broke) is fails

pub not_read_at_end : (s : Sending) (frames : List Planes) (went : List (List ℕ) → Type 0) (broke : List (List ℕ) → OutletFault → Type 0) (result : Result Totals Ending) → Finishes s frames went broke result → sent_answer result ≡ Err endings.InputFailed → ⊥
not_read_at_end s frames went broke (Ok totals) ends e = cc
not_read_at_end s frames went broke (Err ending) ends e = let is : ending ≡ endings.InputFailed = cc e in subst (λ (end : Ending). Finishes s frames went broke (Err end)) is ends

pub sends_so : (s : Sending) (most : ℕ) (answer : Result Summary Ending) (input : InputChange) (went : List (List ℕ) → Type 0) (broke : List (List ℕ) → OutletFault → Type 0) → StopsSending s most answer input went broke → (answer ≡ Err endings.InputFailed → HasRisen input.faults) → SendsFrames s most answer input went broke
sends_so s most answer input went broke stops rose = grind (arith, common_steps)
