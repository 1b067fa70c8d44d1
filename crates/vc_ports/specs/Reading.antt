-- What a source gives, where it tells what is left.
use Rattle.std.specs.Prelude.{◌≡◌, ℕ, ◌<◌, ◌≤◌, List, [], ◌++◌, length, take, drop, Option, IfSome}
use Rattle.std.specs.Option.{option_map}
use Rattle.vc_ports.specs.declared.source.Got.{Got}
use Rattle.vc_ports.specs.declared.source.Got.TheVariants.{Bytes, End, Failed}

-- the source gave these bytes: they are the first that were left, where it tells
abbrev pub Gave : Option (List ℕ) → Option (List ℕ) → List ℕ → Type 0
Gave before after bytes = before ≡ option_map (λ rest. bytes ++ rest) after

-- nothing is left, where the source tells
abbrev pub IsAtEnd : Option (List ℕ) → Type 0
IsAtEnd left = IfSome left (λ bytes. bytes ≡ [])

-- these bytes were all that was left
pub record GaveAll (before after : Option (List ℕ)) (bytes : List ℕ) : Type 0 where
  pub gave : Gave before after bytes
  pub at_end : IsAtEnd after

-- what a read into a buffer did, by its answer
abbrev pub Reads : Option (List ℕ) → Option (List ℕ) → List ℕ → List ℕ → Got → Type 0
-- some bytes came to the front of the buffer, the rest of which stays
Reads before after old new (Bytes n) =
    (0 < n) × (n ≤ length old) × Gave before after (take n new) × (drop n new ≡ drop n old)
Reads before after old new End = IsAtEnd before × (after ≡ before)
Reads before after old new Failed = after ≡ before
