-- What a command did, seen through its input, its output, its report and its wire: what each told
-- before and after.
use Rattle.std.specs.Prelude.{◌≡◌, ℕ, List, Option}
use Rattle.vc_ports.specs.Faults.{Rose}
use Rattle.vc_ports.specs.Reading.{Gave}
use Rattle.vc_ports.specs.Wires.{WireTold}
use Rattle.vc_ports.specs.Writing.{Grew, GrewBySome}

-- a value before a command, and after it
pub record Change (A : Type 0) : Type 0 where
  pub before : A
  pub after : A

-- a member of an object as it was and as it is now
abbrev pub changed : {X A : Type 0} → (X → A) → X → X → Change A
changed member old new = record { before = member old; after = member new }

-- it is as it was
abbrev pub Stays : {A : Type 0} → Change A → Type 0
Stays change = change.after ≡ change.before

-- a count of faults rose
abbrev pub HasRisen : Change ℕ → Type 0
HasRisen faults = Rose faults.before faults.after

-- ---- the input

-- the bytes that are left, where the input tells them, and its count of faults
pub record InputChange : Type 0 where
  pub left : Change (Option (List ℕ))
  pub faults : Change ℕ

abbrev pub input_of : {S : Type 0} → (S → Option (List ℕ)) → (S → ℕ) → S → S → InputChange
input_of left faults old new =
    record { left = changed left old new; faults = changed faults old new }

-- the input gave these bytes
abbrev pub Took : InputChange → List ℕ → Type 0
Took input bytes = Gave input.left.before input.left.after bytes

-- ---- the output, and the report

-- the bytes that it holds, where it tells them, and its count of faults
pub record OutputChange : Type 0 where
  pub held : Change (Option (List ℕ))
  pub faults : Change ℕ

abbrev pub output_of : {O : Type 0} → (O → Option (List ℕ)) → (O → ℕ) → O → O → OutputChange
output_of held faults old new =
    record { held = changed held old new; faults = changed faults old new }

-- it grew by these bytes
abbrev pub Wrote : OutputChange → List ℕ → Type 0
Wrote output bytes = Grew output.held.before output.held.after bytes

-- it grew by a prefix of these bytes
abbrev pub WrotePart : OutputChange → List ℕ → Type 0
WrotePart output bytes = GrewBySome output.held.before output.held.after bytes

-- ---- the wire

-- what it tells, and its count of faults
pub record WireChange : Type 0 where
  pub told : Change WireTold
  pub faults : Change ℕ

abbrev pub wire_of : {N : Type 0} → (N → WireTold) → (N → ℕ) → N → N → WireChange
wire_of told faults old new =
    record { told = changed told old new; faults = changed faults old new }
