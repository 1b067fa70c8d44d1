-- An entry that is read in two steps, its length and its datagram, and what each step's end means.
use Rattle.std.proofs.Common.{◌≡◌, ◌≢◌, ℕ, ◌/◌, ◌%◌, ◌^◌, ◌<◌, List, ◌++◌, length, take, Option, None, ap, arith}
use Rattle.std.proofs.lemmas.List.{length-take-le}
use Rattle.byteorder.specs.Endian.{big_bytes}
use Rattle.vc_ports.specs.Reading.{Gave}
use Rattle.vc_ports.specs.Filling.{Fills}
use Rattle.vc_ports.specs.declared.whole.Filled.TheVariants.{End, Failed}
use Rattle.vc_ports.proofs.Given.{Gave-then, GaveAll-then}
use Rattle.link_capture.specs.Capture.{entry, first_entry}
use Rattle.link_capture.specs.Reading.{GavePartOfEntry, GaveCutEntry}
use Rattle.link_capture.proofs.Heads.{first_entry-stub, first_entry-short}

-- the end came within the length
pub cut_in_length : (before after : Option (List ℕ)) (head : List ℕ) (n : ℕ) → length head ≡ 2 → n ≢ 0 → Fills before after head (End n) → GaveCutEntry before after
cut_in_length before after head n len some fills = grind (arith, first_entry-stub, length-take-le)

-- a read failed within the length
pub fault_in_length : (before after : Option (List ℕ)) (head : List ℕ) (n : ℕ) → length head ≡ 2 → Fills before after head (Failed n) → GavePartOfEntry before after
fault_in_length before after head n len fills = grind (arith, first_entry-stub, length-take-le)

-- a length with fewer bytes behind it than it tells
part_of : (told : ℕ) (bytes : List ℕ) → told < 2 ^ 16 → length bytes < told → first_entry (big_bytes 2 told ++ bytes) ≡ None
part_of told bytes fits short = first_entry-short (told / 256 % 256) (told % 256) bytes (omega arith)

-- the datagram came whole
pub whole_entry : (before mid after : Option (List ℕ)) (told : ℕ) (datagram : List ℕ) → length datagram ≡ told → Gave before mid (big_bytes 2 told) → Gave mid after datagram
    → Gave before after (entry datagram)
unfolding entry
whole_entry before mid after told datagram whole first second = grind arith

-- no memory for a datagram that isn't empty
pub part_without_memory : (before mid : Option (List ℕ)) (told : ℕ) → told < 2 ^ 16 → 0 < told → Gave before mid (big_bytes 2 told) → GavePartOfEntry before mid
part_without_memory before mid told fits some first = grind (arith, part_of)

-- the end came within the datagram
pub cut_in_datagram : (before mid after : Option (List ℕ)) (told : ℕ) (datagram : List ℕ) (n : ℕ) → told < 2 ^ 16 → length datagram ≡ told
    → Gave before mid (big_bytes 2 told) → Fills mid after datagram (End n) → GaveCutEntry before after
cut_in_datagram before mid after told datagram n fits whole first fills =
    let taken : length (take n datagram) ≡ n = length-take-le n datagram (omega (arith, fills.0)) in
    record {
      part = big_bytes 2 told ++ take n datagram;
      gave = GaveAll-then before mid after (big_bytes 2 told) (take n datagram) first fills.1;
      some = λ none. omega (arith, ap length none);
      not_whole = part_of told (take n datagram) fits (omega (arith, fills.0));
    }

-- a read failed within the datagram
pub fault_in_datagram : (before mid after : Option (List ℕ)) (told : ℕ) (datagram : List ℕ) (n : ℕ) → told < 2 ^ 16 → length datagram ≡ told
    → Gave before mid (big_bytes 2 told) → Fills mid after datagram (Failed n) → GavePartOfEntry before after
fault_in_datagram before mid after told datagram n fits whole first fills =
    let taken : length (take n datagram) ≡ n = length-take-le n datagram (omega (arith, fills.0)) in
    record {
      part = big_bytes 2 told ++ take n datagram;
      gave = Gave-then before mid after (big_bytes 2 told) (take n datagram) first fills.1;
      not_whole = part_of told (take n datagram) fits (omega (arith, fills.0));
    }
