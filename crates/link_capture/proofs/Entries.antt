-- The entries of bytes that are read one entry after another.
use Rattle.std.proofs.Common.{◌≡◌, ℕ, zero, suc, ◌^◌, ◌<◌, ◌≤◌, List, [], ◌∷◌, ◌++◌, length, Option, Some, None, refl, sym, ap, ◌∙◌, arith, append_assoc, All}
use Rattle.std.specs.List.{flat_map}
use Rattle.std.proofs.lemmas.List.Elements.{All-drop, All-head, All-tail}
use Rattle.std.proofs.Math.Seq.{drop-append_seam}
use Rattle.std.proofs.lemmas.List.Concat.{flat_map-cons}
use Rattle.link_capture.specs.Capture.{entry, first_entry, entries_within, entries_of, BeginsEntry}
use Rattle.link_capture.proofs.Heads.{first_entry-entry, first_entry-shorter, first_entry-is, begins_entry}

-- an entry before other entries
abbrev then : List ℕ → List (List ℕ) × List ℕ → List (List ℕ) × List ℕ
then datagram behind = (datagram ∷ behind.0, behind.1)

-- bytes that begin with no whole entry have none
pub within-part : (most : ℕ) (bytes : List ℕ) → first_entry bytes ≡ None → entries_within most bytes ≡ ([], bytes)
unfolding entries_within
within-part zero bytes part = refl
within-part (suc most) bytes part = rw part refl

-- one entry more
within-next : (most : ℕ) (bytes : List ℕ) (first : List ℕ × List ℕ) → first_entry bytes ≡ Some first → entries_within (suc most) bytes ≡ then first.0 (entries_within most first.1)
unfolding entries_within
within-next most bytes first is = rw is refl

-- no bytes have no entry
pub none-in-nothing : first_entry [] ≡ None
unfolding first_entry
none-in-nothing = refl

within-cases : (most enough : ℕ) (bytes : List ℕ) → length bytes ≤ most → length bytes ≤ enough → (found : Option (List ℕ × List ℕ)) → first_entry bytes ≡ found → entries_within most bytes ≡ entries_within enough bytes
within-cases most enough bytes h k None is = within-part most bytes is ∙ sym (within-part enough bytes is)
within-cases zero enough bytes h k (Some first) is = absurd (omega (arith, first_entry-shorter bytes first is))
within-cases (suc most) zero bytes h k (Some first) is = absurd (omega (arith, first_entry-shorter bytes first is))
within-cases (suc most) (suc enough) bytes h k (Some first) is =
    let short = first_entry-shorter bytes first is in
    within-next most bytes first is
    ∙ ap (then first.0) (within-cases most enough first.1 (omega arith) (omega arith) (first_entry first.1) refl)
    ∙ sym (within-next enough bytes first is)

-- as many entries as there are bytes are enough
pub entries_within-enough : (most : ℕ) (bytes : List ℕ) → length bytes ≤ most → entries_within most bytes ≡ entries_of bytes
unfolding entries_of
entries_within-enough most bytes enough = within-cases most (length bytes) bytes enough (omega arith) (first_entry bytes) refl

-- bytes that begin with no whole entry are the rest
pub entries_of-part : (bytes : List ℕ) → first_entry bytes ≡ None → entries_of bytes ≡ ([], bytes)
unfolding entries_of
entries_of-part bytes part = within-part (length bytes) bytes part

-- the first entry, and those behind it
pub entries_of-first : (bytes : List ℕ) (first : List ℕ × List ℕ) → first_entry bytes ≡ Some first → entries_of bytes ≡ (first.0 ∷ (entries_of first.1).0, (entries_of first.1).1)
entries_of-first bytes first is =
    let short = first_entry-shorter bytes first is in
    sym (entries_within-enough (suc (length bytes)) bytes (omega arith))
    ∙ within-next (length bytes) bytes first is
    ∙ ap (then first.0) (entries_within-enough (length bytes) first.1 (omega arith))

-- an entry, and the entries of what is behind it
pub entries_of-entry : (datagram rest : List ℕ) → length datagram < 2 ^ 16 → entries_of (entry datagram ++ rest) ≡ (datagram ∷ (entries_of rest).0, (entries_of rest).1)
entries_of-entry datagram rest fits = entries_of-first (entry datagram ++ rest) (datagram, rest) (first_entry-entry datagram rest fits)

-- no bytes have no entry
pub entries_of-nothing : entries_of [] ≡ ([], [])
entries_of-nothing = entries_of-part [] none-in-nothing

rest-cases : (most : ℕ) (bytes : List ℕ) → length bytes ≤ most → (found : Option (List ℕ × List ℕ)) → first_entry bytes ≡ found → first_entry (entries_of bytes).1 ≡ None
rest-cases most bytes h None is = rw (entries_of-part bytes is) is
rest-cases zero bytes h (Some first) is = absurd (omega (arith, first_entry-shorter bytes first is))
rest-cases (suc most) bytes h (Some first) is =
    rw (entries_of-first bytes first is) (rest-cases most first.1 (omega (arith, first_entry-shorter bytes first is)) (first_entry first.1) refl)

-- the rest begins with no whole entry
pub entries_of-rest : (bytes : List ℕ) → first_entry (entries_of bytes).1 ≡ None
entries_of-rest bytes = rest-cases (length bytes) bytes (omega arith) (first_entry bytes) refl

is-cases : (most : ℕ) (bytes : List ℕ) → length bytes ≤ most → All (λ byte. byte < 256) bytes → (found : Option (List ℕ × List ℕ)) → first_entry bytes ≡ found
    → flat_map entry (entries_of bytes).0 ++ (entries_of bytes).1 ≡ bytes
is-cases most bytes h fit None is = rw (entries_of-part bytes is) refl
is-cases zero bytes h fit (Some first) is = absurd (omega (arith, first_entry-shorter bytes first is))
is-cases (suc most) bytes h fit (Some first) is =
    let front = first_entry-is bytes first fit is in
    let fit_behind : All (λ (byte : ℕ). byte < 256) first.1 = rw drop-append_seam at (rw front.1 at (All-drop (λ byte. byte < 256) (length (entry first.0)) bytes fit)) in
    let behind = is-cases most first.1 (omega (arith, first_entry-shorter bytes first is)) fit_behind (first_entry first.1) refl in
    rw (entries_of-first bytes first is, flat_map-cons) (append_assoc (entry first.0) (flat_map entry (entries_of first.1).0) (entries_of first.1).1 ∙ ap (λ (rest : List ℕ). entry first.0 ++ rest) behind ∙ sym front.1)

-- the entries' bytes and the rest are the bytes
pub entries_of-is : (bytes : List ℕ) → All (λ byte. byte < 256) bytes → flat_map entry (entries_of bytes).0 ++ (entries_of bytes).1 ≡ bytes
entries_of-is bytes fit = is-cases (length bytes) bytes (omega arith) fit (first_entry bytes) refl

-- entries that are written one after another are read back
pub entries_of-written : (datagrams : List (List ℕ)) → All (λ datagram. length datagram < 2 ^ 16) datagrams → entries_of (flat_map entry datagrams) ≡ (datagrams, [])
entries_of-written [] fit = entries_of-nothing
entries_of-written (datagram ∷ datagrams) fit =
    let behind = entries_of-written datagrams (All-tail (λ datagram. length datagram < 2 ^ 16) datagram datagrams fit) in
    rw flat_map-cons (rw behind at (entries_of-entry datagram (flat_map entry datagrams) (All-head (λ datagram. length datagram < 2 ^ 16) datagram datagrams fit)))

-- the rest is the beginning of an entry
pub entries_of-begun : (bytes : List ℕ) → All (λ byte. byte < 256) bytes → BeginsEntry (entries_of bytes).1
entries_of-begun bytes fit =
    let whole : All (λ (byte : ℕ). byte < 256) (flat_map entry (entries_of bytes).0 ++ (entries_of bytes).1) = rw (entries_of-is bytes fit) fit in
    let rest : All (λ (byte : ℕ). byte < 256) (entries_of bytes).1 = rw drop-append_seam at (All-drop (λ byte. byte < 256) (length (flat_map entry (entries_of bytes).0)) _ whole) in
    begins_entry (entries_of bytes).1 rest (entries_of-rest bytes)
