-- The entry that begins some bytes.
use Rattle.std.proofs.Common.{◌≡◌, ◌≢◌, ℕ, ◌+◌, ◌-◌, ◌*◌, ◌/◌, ◌%◌, ◌^◌, ◌<◌, ◌≤◌, List, [], ◌∷◌, ◌++◌, length, take, drop, replicate, Some, None, refl, sym, ap, ◌∙◌, arith, inl, inr, All, slice_index}
use Rattle.std.proofs.lemmas.Bool.{cases_lt, lt-ltb, le-ltb}
use Rattle.std.proofs.lemmas.List.{length-append, length-replicate, length-drop, length-take-le, take-append-drop, take-append-le, drop-append-le}
use Rattle.std.proofs.lemmas.Option.{none-some}
use Rattle.std.proofs.Math.Seq.{take-append_seam, drop-append_seam}
use Rattle.byteorder.specs.Endian.{big_bytes, big_number}
use Rattle.link_capture.specs.Capture.{entry, first_entry, BeginsEntry}

-- two bytes are those of the number that they are read as
pub two_bytes : (head : List ℕ) → length head ≡ 2 → ((i : ℕ) → slice_index head i < 256) → big_bytes 2 (big_number 2 head) ≡ head
two_bytes [] len fit = absurd (omega arith)
two_bytes (high ∷ []) len fit = absurd (omega arith)
two_bytes (high ∷ low ∷ []) len fit =
    let h : high < 256 = fit 0 in
    let l : low < 256 = fit 1 in
    let first : (high * 256 + (low * 1 + 0)) / 256 % 256 ≡ high = omega arith in
    let second : (high * 256 + (low * 1 + 0)) % 256 ≡ low = omega arith in
    rw (first, second) refl
two_bytes (high ∷ low ∷ more ∷ rest) len fit = absurd (omega arith)

-- a datagram behind its length
pub entry_is : (high low : ℕ) (datagram : List ℕ) → high < 256 → low < 256 → length datagram ≡ 256 * high + low → entry datagram ≡ high ∷ low ∷ datagram
unfolding entry
entry_is high low datagram h l len = grind arith

-- an entry is two bytes longer than its datagram
pub length-entry : (datagram : List ℕ) → length (entry datagram) ≡ length datagram + 2
unfolding entry
length-entry datagram = omega arith

-- fewer bytes than their length tells begin with no whole entry
pub first_entry-short : (high low : ℕ) (bytes : List ℕ) → length bytes < 256 * high + low → first_entry (high ∷ low ∷ bytes) ≡ None
unfolding first_entry
first_entry-short high low bytes short = rw (lt-ltb (length bytes) (256 * high + low) short) refl

-- as many bytes as their length tells are the first datagram
pub first_entry-whole : (high low : ℕ) (datagram rest : List ℕ) → length datagram ≡ 256 * high + low → first_entry (high ∷ low ∷ datagram ++ rest) ≡ Some (datagram, rest)
unfolding first_entry
first_entry-whole high low datagram rest len =
    let whole : 256 * high + low ≤ length (datagram ++ rest) = omega (arith, length-append datagram rest) in
    rw (le-ltb (length (datagram ++ rest)) (256 * high + low) whole, ← len, take-append_seam datagram rest, drop-append_seam datagram rest) refl

-- an entry that begins the bytes is the first one
pub first_entry-entry : (datagram rest : List ℕ) → length datagram < 2 ^ 16 → first_entry (entry datagram ++ rest) ≡ Some (datagram, rest)
unfolding entry
first_entry-entry datagram rest fits = first_entry-whole (length datagram / 256 % 256) (length datagram % 256) datagram rest (omega arith)

-- the first entry, where there is one, is as long as its length tells
first_entry-found : (high low : ℕ) (bytes : List ℕ) (first : List ℕ × List ℕ) → first_entry (high ∷ low ∷ bytes) ≡ Some first
    → (256 * high + low ≤ length bytes) × (first ≡ (take (256 * high + low) bytes, drop (256 * high + low) bytes))
unfolding first_entry
first_entry-found high low bytes first is = grind (arith, first_entry-short, le-ltb, none-some)

-- what is behind the first entry is shorter than the whole
pub first_entry-shorter : (bytes : List ℕ) (first : List ℕ × List ℕ) → first_entry bytes ≡ Some first → length first.1 < length bytes
unfolding first_entry
first_entry-shorter bytes first is = grind (arith, first_entry-found, length-drop, none-some)

-- the first entry's bytes begin the bytes, and what it leaves is behind them
pub first_entry-is : (bytes : List ℕ) (first : List ℕ × List ℕ) → All (λ byte. byte < 256) bytes → first_entry bytes ≡ Some first
    → (length first.0 < 2 ^ 16) × (bytes ≡ entry first.0 ++ first.1)
unfolding first_entry
first_entry-is [] first fit is = absurd (none-some first is)
first_entry-is (high ∷ []) first fit is = absurd (none-some first is)
first_entry-is (high ∷ low ∷ bytes) first fit is =
    let found = first_entry-found high low bytes first is in
    let len : length (take (256 * high + low) bytes) ≡ 256 * high + low = length-take-le (256 * high + low) bytes found.0 in
    rw (found.1, entry_is high low (take (256 * high + low) bytes) (fit 0 0 (omega arith)) (fit 1 0 (omega arith)) len, take-append-drop (256 * high + low) bytes)
    (omega (arith, len, fit 0 0 (omega arith), fit 1 0 (omega arith)), refl)

-- fewer bytes than a length has begin with no whole entry
pub first_entry-stub : (bytes : List ℕ) → length bytes < 2 → first_entry bytes ≡ None
unfolding first_entry
first_entry-stub bytes short = grind arith

-- bytes behind the first entry stay behind it
pub first_entry-append : (bytes more : List ℕ) (first : List ℕ × List ℕ) → first_entry bytes ≡ Some first → first_entry (bytes ++ more) ≡ Some (first.0, first.1 ++ more)
unfolding first_entry
first_entry-append [] more first is = absurd (none-some first is)
first_entry-append (high ∷ []) more first is = absurd (none-some first is)
first_entry-append (high ∷ low ∷ bytes) more first is =
    let found = first_entry-found high low bytes first is in
    let whole : 256 * high + low ≤ length (bytes ++ more) = omega (arith, length-append bytes more, found.0) in
    rw (found.1, le-ltb (length (bytes ++ more)) (256 * high + low) whole, take-append-le (256 * high + low) bytes more found.0, drop-append-le (256 * high + low) bytes more found.0) refl

some_zeros : (n : ℕ) → 0 < n → replicate {A = ℕ} n 0 ≢ []
some_zeros n some none = omega (arith, length-replicate {A = ℕ} n 0, ap length none)

-- bytes that begin with no whole entry are the beginning of one
pub begins_entry : (part : List ℕ) → All (λ byte. byte < 256) part → first_entry part ≡ None → BeginsEntry part
begins_entry [] fit none = record { datagram = []; fits = omega arith; more = 0 ∷ 0 ∷ []; some = λ same. cc; is = sym (entry_is 0 0 [] (omega arith) (omega arith) refl) }
begins_entry (high ∷ []) fit none =
    let h : high < 256 = fit 0 0 (omega arith) in
    let len : length (replicate {A = ℕ} (256 * high) 0) ≡ 256 * high + 0 = omega (arith, length-replicate {A = ℕ} (256 * high) 0) in
    record {
      datagram = replicate (256 * high) 0;
      fits = omega (arith, len);
      more = 0 ∷ replicate (256 * high) 0;
      some = λ same. cc;
      is = sym (entry_is high 0 (replicate (256 * high) 0) h (omega arith) len);
    }
begins_entry (high ∷ low ∷ bytes) fit none = elim (cases_lt (length bytes) (256 * high + low)) [
  | inl short ↦
      let h : high < 256 = fit 0 0 (omega arith) in
      let l : low < 256 = fit 1 0 (omega arith) in
      let zeros : List ℕ = replicate (256 * high + low - length bytes) 0 in
      let len : length (bytes ++ zeros) ≡ 256 * high + low = omega (arith, length-append bytes zeros, length-replicate {A = ℕ} (256 * high + low - length bytes) 0) in
      record {
        datagram = bytes ++ zeros;
        fits = omega (arith, len);
        more = zeros;
        some = some_zeros (256 * high + low - length bytes) (omega arith);
        is = sym (entry_is high low (bytes ++ zeros) h l len);
      }
  | inr whole ↦
      let n = 256 * high + low in
      let found : first_entry (high ∷ low ∷ take n bytes ++ drop n bytes) ≡ Some (take n bytes, drop n bytes) = first_entry-whole high low (take n bytes) (drop n bytes) (length-take-le n bytes whole) in
      absurd (none-some (take n bytes, drop n bytes) (sym none ∙ rw (take-append-drop n bytes) at found))
]
