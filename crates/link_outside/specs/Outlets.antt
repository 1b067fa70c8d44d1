-- What datagrams that went out did to a capture's sink, and to a wire.
use Rattle.std.specs.Prelude.{◌≡◌, ◌≤◌, ℕ, List, [], ◌++◌, length, take}
use Rattle.std.specs.List.{flat_map}
use Rattle.link_outside.specs.declared.outlet.OutletFault.{OutletFault}
use Rattle.link_outside.specs.declared.outlet.OutletFault.TheVariants.{Output, Wire}
use Rattle.link_capture.specs.Capture.{entry}
use Rattle.vc_ports.specs.Changes.{HasRisen, OutputChange, WireChange, Wrote, WrotePart}
use Rattle.link_outside.specs.Passing.{Passes}

-- the capture of datagrams: their entries
abbrev pub capture_of : List (List ℕ) → List ℕ
capture_of datagrams = flat_map entry datagrams

-- their entries were written
pub record WroteEntries (output : OutputChange) (datagrams : List (List ℕ)) : Type 0 where
  pub wrote : Wrote output (capture_of datagrams)
  pub later : output.faults.before ≤ output.faults.after

-- their entries were written, but for what is kept of them
pub record KeptEntries (output : OutputChange) (kept : List ℕ) (datagrams : List (List ℕ)) : Type 0
  where
    pub gone : List ℕ
    pub wrote : Wrote output gone
    pub all : capture_of datagrams ≡ gone ++ kept
    pub later : output.faults.before ≤ output.faults.after

-- a write failed, and a prefix of them went out
pub record WrotePartOfEntries
    (output : OutputChange) (datagrams : List (List ℕ)) (fault : OutletFault) : Type 0 where
  pub fault_is : fault ≡ Output
  pub wrote : WrotePart output (capture_of datagrams)
  pub rose : HasRisen output.faults

-- they were sent to the wire, to which nothing else was done
pub record SentAll (wire : WireChange) (datagrams : List (List ℕ)) : Type 0 where
  pub passes : Passes wire.told.before wire.told.after datagrams []
  pub later : wire.faults.before ≤ wire.faults.after

-- the wire failed, and the first of them were sent
pub record SentPart (wire : WireChange) (datagrams : List (List ℕ)) (fault : OutletFault) : Type 0
  where
    pub fault_is : fault ≡ Wire
    pub count : ℕ
    pub within : count ≤ length datagrams
    pub passes : Passes wire.told.before wire.told.after (take count datagrams) []
    pub rose : HasRisen wire.faults
