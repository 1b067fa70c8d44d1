-- What datagrams that come one after another did to a capture's source.
use Rattle.std.specs.Prelude.{◌≡◌, ◌≢◌, ◌≤◌, ◌<◌, ◌+◌, ◌^◌, ℕ, List, [], ◌∷◌, ◌++◌}
use Rattle.std.specs.Prelude.{length, Option, Some, None, Result, Ok, Err, ⊤}
use Rattle.link_capture.specs.Capture.{first_entry}
use Rattle.link_capture.specs.declared.fault.EntryFault.{EntryFault}
use Rattle.link_capture.specs.declared.fault.EntryFault.TheVariants as entries
use Rattle.link_outside.specs.Outlets.{capture_of}
use Rattle.link_report.specs.declared.ending.Ending.{Ending}
use Rattle.link_report.specs.declared.ending.Ending.TheVariants.{CaptureCut, InputFailed, NoMemory}
use Rattle.vc_ports.specs.Changes.{InputChange, HasRisen, Took}
use Rattle.vc_ports.specs.Reading.{IsAtEnd}

-- what an inlet did, by its answer
abbrev pub Brings : (List (List ℕ) → Type 0) → (Option Ending → Type 0)
    → Result (Option (List ℕ)) Ending → Type 0
Brings came stopped (Ok (Some datagram)) = came (datagram ∷ [])
Brings came stopped (Ok None) = stopped None
Brings came stopped (Err ending) = stopped (Some ending)

-- ---- a capture

-- each has room in an entry
abbrev pub FitEntries : List (List ℕ) → Type 0
FitEntries [] = ⊤
FitEntries (datagram ∷ rest) = (length datagram < 2 ^ 16) × FitEntries rest

-- the entries of these were read, and behind them a part of one
pub record GaveEntries (input : InputChange) (datagrams : List (List ℕ)) (part : List ℕ) : Type 0
  where
    pub took : Took input (capture_of datagrams ++ part)
    pub fit : FitEntries datagrams
    pub later : input.faults.before ≤ input.faults.after

-- and no more, from a place to a place
pub record GaveWhole (input : InputChange) (first last : ℕ) (datagrams : List (List ℕ)) : Type 0
  where
    pub gave : GaveEntries input datagrams []
    pub moved : last ≡ first + length (capture_of datagrams)

-- then reading ended so, within the entry that begins at a place, or failed
pub record GaveUntil
    (input : InputChange) (datagrams lost : List (List ℕ)) (part : List ℕ) : Type 0 where
  pub gave : GaveEntries input (datagrams ++ lost) part
  pub few : length lost ≤ 1
  pub not_whole : first_entry part ≡ None

abbrev pub EndsReading : Option Ending → InputChange → ℕ → List (List ℕ) → (part : List ℕ) → Type 0
EndsReading None input place lost part = (lost ≡ []) × (part ≡ []) × IsAtEnd input.left.after
EndsReading (Some (CaptureCut at)) input place lost part =
    (lost ≡ []) × (part ≢ []) × IsAtEnd input.left.after × (at ≡ place)
EndsReading (Some InputFailed) input place lost part = (lost ≡ []) × HasRisen input.faults
EndsReading (Some NoMemory) input place lost part = ⊤
EndsReading end input place lost part = ⊥

-- where memory ran out, a last datagram may be lost
pub record StoppedReading
    (input : InputChange) (place : ℕ) (datagrams : List (List ℕ)) (end : Option Ending) : Type 0
  where
    pub lost : List (List ℕ)
    pub part : List ℕ
    pub until : GaveUntil input datagrams lost part
    pub ended : EndsReading end input (place + length (capture_of datagrams)) lost part

-- how a command ends where no entry is read
abbrev pub entry_ending : EntryFault → Ending
entry_ending (entries.Cut place) = CaptureCut place
entry_ending entries.ReadFault = InputFailed
entry_ending entries.NoMemory = NoMemory
