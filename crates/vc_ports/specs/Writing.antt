-- What goes out to a sink, where it tells what it holds.
use Rattle.std.specs.Prelude.{◌≡◌, ℕ, ◌<◌, ◌≤◌, List, ◌++◌, length, take, Option}
use Rattle.std.specs.Option.{option_map}
use Rattle.vc_ports.specs.declared.sink.Took.{Took}
use Rattle.vc_ports.specs.declared.sink.Took.TheVariants.{Bytes, Failed}

-- the sink grew by these bytes, where it tells
abbrev pub Grew : Option (List ℕ) → Option (List ℕ) → List ℕ → Type 0
Grew before after bytes = after ≡ option_map (λ held. held ++ bytes) before

-- a prefix of these bytes went out
pub record GrewBySome (before after : Option (List ℕ)) (bytes : List ℕ) : Type 0 where
  pub count : ℕ
  pub within : count ≤ length bytes
  pub grew : Grew before after (take count bytes)

-- what a write of a piece did, by its answer
abbrev pub Writes : Option (List ℕ) → Option (List ℕ) → List ℕ → Took → Type 0
-- the first bytes of the piece went out
Writes before after piece (Bytes n) =
    (0 < n) × (n ≤ length piece) × Grew before after (take n piece)
Writes before after piece Failed = after ≡ before
