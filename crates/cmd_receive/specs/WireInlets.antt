-- What datagrams that come one after another did to a wire.
use Rattle.std.specs.Prelude.{◌≡◌, ◌≤◌, ℕ, List, [], ◌++◌, length, Option, Some, None, ⊤}
use Rattle.link_hearing.specs.FromWire.{HasEnded, ends_said}
use Rattle.link_outside.specs.Passing.{Passes}
use Rattle.link_report.specs.declared.ending.Ending.{Ending}
use Rattle.link_report.specs.declared.ending.Ending.TheVariants.{NoMemory, WireFailed}
use Rattle.vc_ports.specs.Changes.{WireChange, HasRisen}

-- it gave these, and nothing else was done to it
pub record WasGiven (wire : WireChange) (datagrams : List (List ℕ)) : Type 0 where
  pub passes : Passes wire.told.before wire.told.after [] datagrams
  pub later : wire.faults.before ≤ wire.faults.after

abbrev pub EndsWire : Option Ending → WireChange → List (List ℕ) → Type 0
EndsWire None wire lost = (lost ≡ []) × HasEnded wire.told.after.coming (ends_said wire)
EndsWire (Some WireFailed) wire lost = (lost ≡ []) × HasRisen wire.faults
EndsWire (Some NoMemory) wire lost = ⊤
EndsWire end wire lost = ⊥

pub record StoppedWire (wire : WireChange) (datagrams : List (List ℕ)) (end : Option Ending)
    : Type 0 where
  pub lost : List (List ℕ)
  pub few : length lost ≤ 1
  pub given : WasGiven wire (datagrams ++ lost)
  pub ended : EndsWire end wire lost
