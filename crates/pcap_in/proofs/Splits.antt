-- A whole file, by what was read of it from its first byte.
use Rattle.std.proofs.Common.{◌≡◌, ℕ, zero, suc, ◌+◌, ◌≤◌, ◌<◌, List, [], ◌++◌, length, take, drop, Some, None, Err, refl, ap, subst, ◌∙◌, append_assoc, arith}
use Rattle.std.proofs.lemmas.Bool.{lt-ltb, le-ltb}
use Rattle.std.proofs.lemmas.List.{length-append}
use Rattle.std.proofs.Math.Seq.{take-append_seam, drop-append_seam}
use Rattle.pcap_in.specs.Pcap.{file_head, pcap_head, pcap_record, RecordRefusal, records_within, file_split, split_behind, with_records}
use Rattle.pcap_in.specs.Feeding.{AreRecords, ReadsOn, all_before}
use Rattle.pcap_in.specs.declared.head.FileHead.{FileHead}
use Rattle.pcap_in.specs.declared.head.Order.{Order}

-- 24 bytes before others
pub pcap_head-info : (info behind : List ℕ) → length info ≡ 24 → pcap_head (info ++ behind) ≡ file_head info
unfolding pcap_head
pcap_head-info info behind long =
    let whole : 24 ≤ length (info ++ behind) = omega (arith, length-append info behind, long) in
    let front : take 24 (info ++ behind) ≡ info = subst (λ (n : ℕ). take n (info ++ behind) ≡ info) long (take-append_seam info behind) in
    rw (le-ltb (length (info ++ behind)) 24 whole, front) refl

-- fewer than 24 bytes
pub pcap_head-stub : (bytes : List ℕ) → length bytes < 24 → pcap_head bytes ≡ None
unfolding pcap_head
pcap_head-stub bytes short = rw (lt-ltb (length bytes) 24 short) refl

-- a head, whole records, and what is behind them
pub file_split-read : (most : ℕ) (info behind more : List ℕ) (head : FileHead) (records : List (List ℕ)) → length info ≡ 24 → file_head info ≡ Some head → AreRecords head.order behind records
    → file_split (length records + most) (info ++ (behind ++ more)) ≡ with_records head (all_before records (records_within most head.order more))
unfolding file_split
file_split-read most info behind more head records long is are =
    ap (split_behind (length records + most) (info ++ (behind ++ more))) (pcap_head-info info (behind ++ more) long ∙ is)
    ∙ ap (λ (bytes : List ℕ). with_records head (records_within (length records + most) head.order bytes)) after_head
    ∙ ap (with_records head) (are.split most more)
  where
    after_head : drop 24 (info ++ (behind ++ more)) ≡ behind ++ more
    after_head = subst (λ (n : ℕ). drop n (info ++ (behind ++ more)) ≡ behind ++ more) long (drop-append_seam info (behind ++ more))

-- bytes that begin with no head
pub file_split-none : (most : ℕ) (bytes : List ℕ) → pcap_head bytes ≡ None → file_split most bytes ≡ record { head = None; records = []; rest = bytes }
unfolding file_split
file_split-none most bytes is = ap (split_behind most bytes) is

-- no whole record is in front
pub records_within-none : (most : ℕ) (order : Order) (bytes : List ℕ) (refusal : RecordRefusal) → pcap_record order bytes ≡ Err refusal → records_within most order bytes ≡ ([], bytes)
unfolding records_within
records_within-none zero order bytes refusal is = refl
records_within-none (suc most) order bytes refusal is = rw is refl

-- ---- by what a source gave from a file's first byte

-- the bytes up to a point, and more
pub file_split-on : (most : ℕ) (bytes more : List ℕ) (head : FileHead) (records : List (List ℕ)) → ReadsOn None (Some head) bytes records
    → file_split (length records + most) (bytes ++ more) ≡ with_records head (all_before records (records_within most head.order more))
file_split-on most bytes more head records read =
    ap (file_split (length records + most)) regrouped ∙ file_split-read most read.1.info read.0 more head records read.1.long read.1.is read.2
  where
    regrouped : bytes ++ more ≡ read.1.info ++ (read.0 ++ more)
    regrouped = ap (λ (l : List ℕ). l ++ more) read.1.bytes_are ∙ append_assoc read.1.info read.0 more
