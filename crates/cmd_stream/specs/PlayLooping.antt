-- What a loop over the units of a source knows.
use Rattle.std.specs.Prelude.{◌≡◌, ◌⊎◌, ℕ, ◌-◌, ◌*◌, ◌^◌, if◌then◌else◌, true, false}
use Rattle.std.specs.Prelude.{List, [], ◌++◌, length, Option, Result, Ok, Err}
use Rattle.std.specs.List.{list_any}
use Rattle.std.specs.Option.{option_map_or}
use Rattle.vc_ports.specs.Changes.{InputChange, OutputChange, Took}
use Rattle.vc_ports.specs.Reading.{Gave, IsAtEnd}
use Rattle.vc_ports.specs.Writing.{Grew}
use Rattle.vc_types.specs.DataUnits.{DataUnit, is_end_of_sequence}
use Rattle.vc_units.specs.Units.{units_within}
use Rattle.link_report.specs.declared.ending.Ending.{Ending}
use Rattle.link_report.specs.declared.summary.Summary.{Summary}
use Rattle.link_report.specs.declared.summary.Summary.TheVariants as summaries
use Rattle.cmd_stream.specs.declared.playing.Stop.{Stop}
use Rattle.cmd_stream.specs.declared.playing.Stop.TheVariants.{Ended, AtLimit}
use Rattle.cmd_stream.specs.Playing.{PlayEnded, unit_split}
use Rattle.cmd_stream.specs.PlaySteps.{PlayState, state_so_far}
use Rattle.cmd_stream.specs.Stream.{StreamSoFar, units_taken, played}
use Rattle.cmd_stream.specs.Taking.{CountsAtMost}

-- units, and those of other bytes behind them
abbrev pub then_units : List DataUnit → List DataUnit × List ℕ → List DataUnit × List ℕ
then_units units behind = (units ++ behind.0, behind.1)

-- the source gave the bytes of so many units, none of which ends the sequence or is refused; what
-- they bring, and what was written of it
pub record PlayIsBehind
    (packets number : ℕ) (before after held_before held_after : Option (List ℕ)) (h : StreamSoFar)
    : Type 0 where
  pub given : List ℕ
  pub units : List DataUnit
  pub gave : Gave before after given
  pub split : (more : List ℕ) → units_within packets (given ++ more)
      ≡ then_units units (units_within (packets - number) more)
  pub count : length units ≡ number
  pub goes_on : list_any is_end_of_sequence units ≡ false
  pub so_far : units_taken units ≡ (h, false)
  pub wrote : Grew held_before held_after (played h.stream)

-- the units end: at the end of the source, or with an end of sequence
pub record UnitsHaveEnded
    (packets : ℕ) (before after held_before held_after : Option (List ℕ)) (h : StreamSoFar)
    : Type 0 where
  pub given : List ℕ
  pub units : List DataUnit
  pub gave : Gave before after given
  pub split : units_within packets given ≡ (units, [])
  pub so_far : units_taken units ≡ (h, false)
  pub wrote : Grew held_before held_after (played h.stream)
  pub ends : IsAtEnd after ⊎ (list_any is_end_of_sequence units ≡ true)

-- so many units were played, and no fault came
abbrev pub HasPlayedUnits : ℕ → Stop → InputChange → OutputChange → StreamSoFar → Type 0
HasPlayedUnits packets Ended input output h =
    UnitsHaveEnded packets input.left.before input.left.after output.held.before output.held.after h
HasPlayedUnits packets AtLimit input output h =
    PlayIsBehind packets packets
    input.left.before input.left.after output.held.before output.held.after h

-- the loop stopped without a fault; what came, and what is kept of it
pub record PlayHasStopped
    (packets : ℕ) (stop : Stop) (kept : Option PlayState)
    (input : InputChange) (output : OutputChange) : Type 0 where
  pub so_far : StreamSoFar
  pub keeps : kept ≡ state_so_far so_far
  pub few : CountsAtMost (2 ^ 32 - 1) kept
  pub units : HasPlayedUnits packets stop input output so_far

-- the units ended in this way, whatever the causes
pub record PlayStops
    (packets : ℕ) (answer : Result Summary Ending) (input : InputChange) (output : OutputChange)
    : Type 0 where
  pub given : List ℕ
  pub took : Took input given
  pub ended : PlayEnded packets answer input output (unit_split packets given)

-- what a loop over the units did
abbrev pub PlayLoopEnded : ℕ → Result Stop Ending → Option PlayState → InputChange → OutputChange
    → Type 0
PlayLoopEnded packets (Ok stop) kept input output = PlayHasStopped packets stop kept input output
PlayLoopEnded packets (Err ending) kept input output = PlayStops packets (Err ending) input output

-- ---- what is said of it

abbrev pub unpaired_of : PlayState → ℕ
unpaired_of k = if k.sequence.fields then k.pictures - 2 * k.frames else 0

abbrev pub summary_of : Option PlayState → Summary
summary_of kept =
    option_map_or (λ k. summaries.Played k.pictures (unpaired_of k) k.frames)
    kept (summaries.Played 0 0 0)
