-- The entries that begin bytes, at most so many.
use Rattle.std.proofs.Common.{◌≡◌, ℕ, suc, ◌^◌, ◌<◌, List, [], ◌∷◌, ◌++◌, length, refl, arith}
use Rattle.link_capture.specs.Capture.{entry, entries_within}
use Rattle.link_capture.proofs.Entries.{within-part}
use Rattle.link_capture.proofs.Heads.{first_entry-entry, first_entry-stub}

-- an entry, and those behind it
pub within_entry : (most : ℕ) (datagram more : List ℕ) → length datagram < 2 ^ 16
    → entries_within (suc most) (entry datagram ++ more)
    ≡ (datagram ∷ (entries_within most more).0, (entries_within most more).1)
unfolding entries_within
within_entry most datagram more fits = rw (first_entry-entry datagram more fits) refl

pub within_nothing : (most : ℕ) → entries_within most [] ≡ ([], [])
within_nothing most = within-part most [] (first_entry-stub [] (omega arith))
