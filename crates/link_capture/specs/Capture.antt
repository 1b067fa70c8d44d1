-- A capture: entries one after another, each a datagram behind its length in 2 bytes, high first
-- (this project's profile).
use Rattle.std.specs.Prelude.{◌≡◌, ◌≢◌, ℕ, zero, suc, ◌+◌, ◌*◌, ◌^◌, ◌<◌, List, [], ◌∷◌, ◌++◌, length, take}
use Rattle.std.specs.Prelude.{drop, Option, Some, None, nat_lt, if◌then◌else◌}
use Rattle.std.specs.Option.{option_map_or}
use Rattle.byteorder.specs.Endian.{big_bytes}

-- the bytes of a datagram's entry
unfoldable pub entry : List ℕ → List ℕ
entry datagram = big_bytes 2 (length datagram) ++ datagram

-- the datagram of the entry that begins the bytes, and what is behind the entry
unfoldable pub first_entry : List ℕ → Option (List ℕ × List ℕ)
first_entry (high ∷ low ∷ bytes) =
    if nat_lt (length bytes) (256 * high + low) then None
    else Some (take (256 * high + low) bytes, drop (256 * high + low) bytes)
first_entry bytes = None

-- so many entries at most
unfoldable pub entries_within : ℕ → List ℕ → List (List ℕ) × List ℕ
entries_within zero bytes = ([], bytes)
entries_within (suc most) bytes =
    option_map_or
    (λ first. let behind = entries_within most first.1 in (first.0 ∷ behind.0, behind.1))
    (first_entry bytes) ([], bytes)

-- the datagrams of the whole entries that begin the bytes, and the rest
unfoldable pub entries_of : List ℕ → List (List ℕ) × List ℕ
entries_of bytes = entries_within (length bytes) bytes

-- the part is the beginning of an entry, and not the whole of it
pub record BeginsEntry (part : List ℕ) : Type 0 where
  pub datagram : List ℕ
  pub fits : length datagram < 2 ^ 16
  pub more : List ℕ
  pub some : more ≢ []
  pub is : part ++ more ≡ entry datagram
