-- What filling a buffer from a source did.
use Rattle.std.specs.Prelude.{ℕ, ◌<◌, List, length, take, Option}
use Rattle.vc_ports.specs.Reading.{Gave, GaveAll}
use Rattle.vc_ports.specs.declared.whole.Filled.{Filled}
use Rattle.vc_ports.specs.declared.whole.Filled.TheVariants.{Whole, End, Failed}

-- the bytes that were given stand at the front of the buffer as it is now
abbrev pub Fills : Option (List ℕ) → Option (List ℕ) → List ℕ → Filled → Type 0
Fills before after new Whole = Gave before after new
Fills before after new (End n) = (n < length new) × GaveAll before after (take n new)
Fills before after new (Failed n) = (n < length new) × Gave before after (take n new)

-- nothing was left
abbrev pub IsFillEnd : Filled → Type 0
IsFillEnd (End n) = Unit {0}
IsFillEnd answer = ⊥

-- a read failed
abbrev pub IsFillFault : Filled → Type 0
IsFillFault (Failed n) = Unit {0}
IsFillFault answer = ⊥
