-- What a loop over the units of a source knows.
use Rattle.std.specs.Prelude.{◌≡◌, ◌⊎◌, ℕ, ◌-◌, true, false, List, [], ◌++◌}
use Rattle.std.specs.Prelude.{length, Option, None, Result, Ok, Err}
use Rattle.std.specs.List.{list_any}
use Rattle.link_outside.specs.Outlets.{capture_of}
use Rattle.cmd_stream.specs.PlayLooping.{then_units}
use Rattle.cmd_stream.specs.Playing.{unit_split}
use Rattle.link_report.specs.declared.ending.Ending.{Ending}
use Rattle.link_report.specs.declared.summary.Summary.{Summary}
use Rattle.stream_model.specs.Packed.{PackedSoFar, stream_packed, units_packed}
use Rattle.cmd_stream.specs.declared.packing.Stop.{Stop}
use Rattle.cmd_stream.specs.declared.packing.Stop.TheVariants.{Ended, AtLimit}
use Rattle.cmd_stream.specs.declared.stream.StreamPacker.{StreamPacker}
use Rattle.cmd_stream.specs.Packs.{PackEnded}
use Rattle.cmd_stream.specs.PackViews.{IsBehindUnits}
use Rattle.vc_ports.specs.Changes.{InputChange, OutputChange, Took}
use Rattle.vc_ports.specs.Reading.{Gave, IsAtEnd}
use Rattle.vc_ports.specs.Writing.{Grew}
use Rattle.vc_types.specs.DataUnits.{DataUnit, is_end_of_sequence}
use Rattle.vc_types.specs.SenderSettings.{Packing}
use Rattle.vc_units.specs.Units.{units_within}

-- the source gave the bytes of so many units, none of which ends the sequence, and all are
-- packed; what they bring, and what was written of it
pub record HasPackedSome
    (s : Packing) (packets number : ℕ) (before after held_before held_after : Option (List ℕ))
    (h : PackedSoFar)
    : Type 0 where
  pub given : List ℕ
  pub units : List DataUnit
  pub gave : Gave before after given
  pub split : (more : List ℕ) → units_within packets (given ++ more)
      ≡ then_units units (units_within (packets - number) more)
  pub count : length units ≡ number
  pub goes_on : list_any is_end_of_sequence units ≡ false
  pub so_far : units_packed s units ≡ (h, None)
  pub wrote : Grew held_before held_after (capture_of (stream_packed s h.stream))

-- the units end: at the end of the source, or with an end of sequence
pub record HasComeToEnd
    (s : Packing) (packets : ℕ) (before after held_before held_after : Option (List ℕ))
    (h : PackedSoFar)
    : Type 0 where
  pub given : List ℕ
  pub units : List DataUnit
  pub gave : Gave before after given
  pub split : units_within packets given ≡ (units, [])
  pub so_far : units_packed s units ≡ (h, None)
  pub wrote : Grew held_before held_after (capture_of (stream_packed s h.stream))
  pub ends : IsAtEnd after ⊎ (list_any is_end_of_sequence units ≡ true)

-- so many units were packed, and no fault came
abbrev pub HasPackedUnits : Packing → ℕ → Stop → InputChange → OutputChange → PackedSoFar → Type 0
HasPackedUnits s packets Ended input output h =
    HasComeToEnd s packets
    input.left.before input.left.after output.held.before output.held.after h
HasPackedUnits s packets AtLimit input output h =
    HasPackedSome s packets packets
    input.left.before input.left.after output.held.before output.held.after h

-- the loop stopped without a fault; what came, and what is kept of it
pub record HasStoppedPacking
    (s : Packing) (packets : ℕ) (stop : Stop) (new : StreamPacker)
    (input : InputChange) (output : OutputChange) : Type 0 where
  pub so_far : PackedSoFar
  pub keeps : IsBehindUnits s so_far.stream new
  pub units : HasPackedUnits s packets stop input output so_far

-- the units ended in this way, whatever the causes
pub record StopsPacking
    (s : Packing) (packets : ℕ) (answer : Result Summary Ending)
    (input : InputChange) (output : OutputChange)
    : Type 0 where
  pub given : List ℕ
  pub took : Took input given
  pub ended : PackEnded s packets answer input output (unit_split packets given)

-- what a loop over the units did
abbrev pub PackLoopEnded : Packing → ℕ → Result Stop Ending → StreamPacker → InputChange
    → OutputChange → Type 0
PackLoopEnded s packets (Ok stop) new input output =
    HasStoppedPacking s packets stop new input output
PackLoopEnded s packets (Err ending) new input output =
    StopsPacking s packets (Err ending) input output
