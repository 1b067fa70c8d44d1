-- What the adapters over std pass on, where the bytes of their reader or writer are known.
use Rattle.std.specs.Prelude.{ℕ, List, take, Option}
use Rattle.std.specs.Io.KnownBytes.{Appends, Consumes, IsAtEnd, Keeps}
use Rattle.vc_ports.specs.declared.source.Got.{Got}
use Rattle.vc_ports.specs.declared.source.Got.TheVariants as got
use Rattle.vc_ports.specs.declared.sink.Took.{Took}
use Rattle.vc_ports.specs.declared.sink.Took.TheVariants as took

-- the reader's next bytes came to the front of the buffer, its end is the source's end, and a fault
-- took none of them
abbrev pub PassesRead : Option (List ℕ) → Option (List ℕ) → List ℕ → Got → Type 0
PassesRead before after buf (got.Bytes n) = Consumes before after (take n buf)
PassesRead before after buf got.End = IsAtEnd after
PassesRead before after buf got.Failed = Keeps before after

-- the writer holds the first bytes of the piece too, and a fault added none of them
abbrev pub PassesWrite : Option (List ℕ) → Option (List ℕ) → List ℕ → Took → Type 0
PassesWrite before after piece (took.Bytes n) = Appends before after (take n piece)
PassesWrite before after piece took.Failed = Keeps before after
