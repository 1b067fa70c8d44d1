-- The record that begins some bytes, by its 16 bytes and what follows them.
use Rattle.std.proofs.Common.{◌≡◌, ℕ, ◌^◌, ◌<◌, ◌≤◌, List, ◌++◌, length, drop, Result, Ok, Err, refl, ap, subst, ◌∙◌, append_assoc, arith}
use Rattle.std.proofs.lemmas.Bool.{lt-ltb, le-ltb}
use Rattle.std.proofs.lemmas.List.{length-append}
use Rattle.std.proofs.Math.Seq.{drop-append_seam}
use Rattle.byteorder.specs.Numbers.{big_number-reads_back, little_number-reads_back, length-bytes_high_first, length-bytes_low_first}
use Rattle.vc_types.specs.Fields.{and_then, next_items}
use Rattle.vc_types.proofs.FieldCodecs.{next_items_codec}
use Rattle.pcap_in.specs.Pcap.{file_number, number_bytes, kept_length, kept_bytes, pcap_record, record_bytes, RecordRefusal, Short, TooLong}
use Rattle.pcap_in.specs.declared.head.Order.{Order}
use Rattle.pcap_in.specs.declared.head.Order.TheVariants.{Big, Little}

-- so many bytes from the front
taken : (n : ℕ) (front rest : List ℕ) → length front ≡ n → next_items Short n (front ++ rest) ≡ Ok (front, rest)
taken n front rest len = (next_items_codec Short n).again front rest len

-- fewer bytes than that
untaken : (n : ℕ) (bytes : List ℕ) → length bytes < n → next_items Short n bytes ≡ Err Short
untaken n bytes short = rw (lt-ltb (length bytes) n short) refl

by_head : (order : Order) (head rest : List ℕ) → length head ≡ 16 → pcap_record order (head ++ rest) ≡ kept_bytes (kept_length order head) rest
unfolding pcap_record
by_head order head rest len = ap (λ (r : Result (List ℕ × List ℕ) RecordRefusal). and_then r (λ read. kept_bytes (kept_length order read.0) read.1)) (taken 16 head rest len)

with_length : (order : Order) (head rest : List ℕ) (count : ℕ) → length head ≡ 16 → kept_length order head ≡ count → pcap_record order (head ++ rest) ≡ kept_bytes count rest
with_length order head rest count len told = by_head order head rest len ∙ ap (λ (n : ℕ). kept_bytes n rest) told

-- fewer bytes than stand before the kept ones
pub record-stub : (order : Order) (bytes : List ℕ) → length bytes < 16 → pcap_record order bytes ≡ Err Short
unfolding pcap_record
record-stub order bytes short = ap (λ (r : Result (List ℕ × List ℕ) RecordRefusal). and_then r (λ read. kept_bytes (kept_length order read.0) read.1)) (untaken 16 bytes short)

-- more kept bytes than may be
pub record-long : (order : Order) (head rest : List ℕ) (count : ℕ) → length head ≡ 16 → kept_length order head ≡ count → 262144 < count → pcap_record order (head ++ rest) ≡ Err TooLong
record-long order head rest count len told long = with_length order head rest count len told ∙ refused
  where
    refused : kept_bytes count rest ≡ Err TooLong
    refused = rw (lt-ltb 262144 count long) refl

-- fewer bytes than are told
pub record-cut : (order : Order) (head part : List ℕ) (count : ℕ) → length head ≡ 16 → kept_length order head ≡ count → count ≤ 262144 → length part < count → pcap_record order (head ++ part) ≡ Err Short
record-cut order head part count len told fits short = with_length order head part count len told ∙ cut
  where
    cut : kept_bytes count part ≡ Err Short
    cut = rw (le-ltb 262144 count fits) (untaken count part short)

-- as many bytes as are told
pub record-whole : (order : Order) (head kept rest : List ℕ) (count : ℕ) → length head ≡ 16 → kept_length order head ≡ count → count ≤ 262144 → length kept ≡ count
    → pcap_record order (head ++ (kept ++ rest)) ≡ Ok (kept, rest)
record-whole order head kept rest count len told fits whole = with_length order head (kept ++ rest) count len told ∙ read
  where
    read : kept_bytes count (kept ++ rest) ≡ Ok (kept, rest)
    read = rw (le-ltb 262144 count fits) (taken count kept rest whole)

-- ---- records that are written

number_back : (order : Order) (n : ℕ) (rest : List ℕ) → n < 256 ^ 4 → file_number order (number_bytes order n ++ rest) ≡ n
number_back Big n rest fits = big_number-reads_back 4 n rest fits
number_back Little n rest fits = little_number-reads_back 4 n rest fits

length-number : (order : Order) (n : ℕ) → length (number_bytes order n) ≡ 4
length-number Big n = length-bytes_high_first 4 n
length-number Little n = length-bytes_low_first 0 4 n

-- what a record is written as is read back, whatever follows
pub record-written : (order : Order) (time original kept more : List ℕ) → length time ≡ 8 → length original ≡ 4 → length kept ≤ 262144
    → pcap_record order (record_bytes order time original kept ++ more) ≡ Ok (kept, more)
unfolding record_bytes
record-written order time original kept more eight four fits =
    ap (pcap_record order) regrouped ∙ record-whole order head kept more (length kept) long told fits refl
  where
    number : List ℕ
    number = number_bytes order (length kept)

    head : List ℕ
    head = time ++ (number ++ original)

    long : length head ≡ 16
    long = omega (arith, length-append time (number ++ original), length-append number original, length-number order (length kept), eight, four)

    behind_time : drop 8 head ≡ number ++ original
    behind_time = subst (λ (n : ℕ). drop n head ≡ number ++ original) eight (drop-append_seam time (number ++ original))

    small : length kept < 256 ^ 4
    small = omega arith

    told : kept_length order head ≡ length kept
    told = ap (file_number order) behind_time ∙ number_back order (length kept) original small

    regrouped : (head ++ kept) ++ more ≡ head ++ (kept ++ more)
    regrouped = append_assoc head kept more
