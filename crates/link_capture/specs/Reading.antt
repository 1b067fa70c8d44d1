-- What reading an entry from a source did.
use Rattle.std.specs.Prelude.{◌≡◌, ◌≢◌, ℕ, ◌+◌, ◌<◌, ◌^◌, List, [], length, Option, Some, None, Result, Ok}
use Rattle.std.specs.Prelude.{Err}
use Rattle.std.specs.Global.{Vec}
use Rattle.vc_ports.specs.Reading.{Gave, GaveAll}
use Rattle.link_capture.specs.Capture.{entry, first_entry}
use Rattle.link_capture.specs.declared.fault.EntryFault.{EntryFault}
use Rattle.link_capture.specs.declared.fault.EntryFault.TheVariants.{Cut, ReadFault, NoMemory}

-- what was given begins with no whole entry
pub record GavePartOfEntry (before after : Option (List ℕ)) : Type 0 where
  pub part : List ℕ
  pub gave : Gave before after part
  pub not_whole : first_entry part ≡ None

-- all that was left was given, and is the part of an entry
pub record GaveCutEntry (before after : Option (List ℕ)) : Type 0 where
  pub part : List ℕ
  pub gave : GaveAll before after part
  pub some : part ≢ []
  pub not_whole : first_entry part ≡ None

-- what a read of the entry at a place did to its source, by the answer
abbrev pub ReadsEntry : Option (List ℕ) → Option (List ℕ) → ℕ → Result (Option (Vec ℕ)) EntryFault
    → Type 0
ReadsEntry before after place (Ok (Some datagram)) =
    (length datagram.items < 2 ^ 16) × Gave before after (entry datagram.items)
ReadsEntry before after place (Ok None) = GaveAll before after []
ReadsEntry before after place (Err (Cut at)) = (at ≡ place) × GaveCutEntry before after
ReadsEntry before after place (Err ReadFault) = GavePartOfEntry before after
ReadsEntry before after place (Err NoMemory) = GavePartOfEntry before after

-- the bytes of the entries that were read whole, after an answer
abbrev pub place_after_entry : ℕ → Result (Option (Vec ℕ)) EntryFault → ℕ
place_after_entry place (Ok (Some datagram)) = place + 2 + length datagram.items
place_after_entry place answer = place

-- the fault that stands after an answer
abbrev pub fault_after_entry : Option EntryFault → Result (Option (Vec ℕ)) EntryFault
    → Option EntryFault
fault_after_entry (Some fault) answer = Some fault
fault_after_entry None (Err fault) = Some fault
fault_after_entry None (Ok entry) = None
