-- A whole pcap file isn't cut, has a head and no record that is too long, and nothing behind the last record.
use Rattle.std.proofs.Common.{◌≡◌, ◌≢◌, ◌≤◌, ◌<◌, ℕ, zero, suc, List, [], ◌++◌, length, take, drop}
use Rattle.std.proofs.Common.{Option, Some, None, IsSome, IsSomeAnd, Ok, Err, refl, sym, ap, ◌∙◌, subst}
use Rattle.std.proofs.Common.{arith, inl, inr, append-nil, append_assoc, length-append}
use Rattle.std.specs.Prelude.{Result, ◌⊎◌, is_some}
use Rattle.std.proofs.lemmas.Bool.{cases_lt, false≢true}
use Rattle.std.proofs.lemmas.List.{length-take-le, take-append-drop, drop-append-le}
use Rattle.pcap_in.proofs.Records.{record-cut, record-long, record-stub, record-whole}
use Rattle.pcap_in.proofs.Splits.{file_split-none, pcap_head-info, pcap_head-stub}
use Rattle.pcap_in.specs.Pcap.{FileSplit, RecordRefusal, Short, TooLong, file_head, file_split, kept_length}
use Rattle.pcap_in.specs.Pcap.{pcap_head, pcap_record, records_within, split_behind, with_records}
use Rattle.pcap_in.specs.declared.head.FileHead.{FileHead}
use Rattle.pcap_in.specs.declared.head.Order.{Order}
use Rattle.vc_ports.proofs.Given.{behind_given}
use Rattle.vc_ports.specs.Changes.{InputChange, Took}
use Rattle.vc_ports.specs.Reading.{IsAtEnd}
use Rattle.link_hearing.specs.Files.{IsCutInRecord, IsLongRecord, IsNoHead, IsPastRecords, IsTooLong, IsWholeFile}

-- ---- a record, and bytes behind it

-- what a reading comes to is the same with more bytes behind it, unless there were too few
abbrev Lasts : Order → List ℕ → List ℕ → Result (List ℕ × List ℕ) RecordRefusal → Type 0
Lasts order bytes more (Ok read) = pcap_record order (bytes ++ more) ≡ Ok (read.0, read.1 ++ more)
Lasts order bytes more (Err TooLong) = pcap_record order (bytes ++ more) ≡ Err TooLong
Lasts order bytes more (Err Short) = Unit {0}

module _ (order : Order) (head more : List ℕ) (long : length head ≡ 16) where
  abbrev Again : List ℕ → Type 0
  Again rest = Lasts order (head ++ rest) more (pcap_record order (head ++ rest))

  whole_lasts : (kept rest : List ℕ) → kept_length order head ≤ 262144
      → length kept ≡ kept_length order head → Again (kept ++ rest)
  whole_lasts kept rest fits whole =
      subst (Lasts order (head ++ (kept ++ rest)) more)
      (sym (record-whole order head kept rest (kept_length order head) long refl fits whole))
      (ap (pcap_record order) regrouped
      ∙ record-whole order head kept (rest ++ more) (kept_length order head) long refl fits whole)
    where
      regrouped : (head ++ (kept ++ rest)) ++ more ≡ head ++ (kept ++ (rest ++ more))
      regrouped = append_assoc head (kept ++ rest) more
          ∙ ap (λ (l : List ℕ). head ++ l) (append_assoc kept rest more)

  kept_lasts : (rest : List ℕ) → kept_length order head ≤ 262144
      → (length rest < kept_length order head) ⊎ (kept_length order head ≤ length rest) → Again rest
  kept_lasts rest fits (inl short) =
      subst (Lasts order (head ++ rest) more)
      (sym (record-cut order head rest (kept_length order head) long refl fits short)) tt
  kept_lasts rest fits (inr enough) =
      let count = kept_length order head in
      subst Again (take-append-drop count rest)
      (whole_lasts (take count rest) (drop count rest) fits (length-take-le count rest enough))

  rest_lasts : (rest : List ℕ) → (262144 < kept_length order head) ⊎ (kept_length order head ≤ 262144)
      → Again rest
  rest_lasts rest (inl many) =
      subst (Lasts order (head ++ rest) more)
      (sym (record-long order head rest (kept_length order head) long refl many))
      (ap (pcap_record order) (append_assoc head rest more)
      ∙ record-long order head (rest ++ more) (kept_length order head) long refl many)
  rest_lasts rest (inr fits) = kept_lasts rest fits (cases_lt (length rest) (kept_length order head))

lasts : (order : Order) (bytes more : List ℕ) → Lasts order bytes more (pcap_record order bytes)
lasts order bytes more = by_length (cases_lt (length bytes) 16)
  where
    by_length : (length bytes < 16) ⊎ (16 ≤ length bytes) → Lasts order bytes more (pcap_record order bytes)
    by_length (inl short) =
        subst (Lasts order bytes more) (sym (record-stub order bytes short)) tt
    by_length (inr long) =
        subst (λ (l : List ℕ). Lasts order l more (pcap_record order l)) (take-append-drop 16 bytes)
        (rest_lasts order (take 16 bytes) more (length-take-le 16 bytes long) (drop 16 bytes)
        (cases_lt 262144 (kept_length order (take 16 bytes))))

-- ---- records, and bytes behind them

-- as many as were asked for, or a record behind them that is too long
abbrev Settled : ℕ → Order → List (List ℕ) × List ℕ → Type 0
Settled most order split = (length split.0 ≡ most) ⊎ (pcap_record order split.1 ≡ Err TooLong)

-- behind the first of them
next_settled : (most : ℕ) (order : Order) (a b : List (List ℕ) × List ℕ) → length a.0 ≡ suc (length b.0)
    → a.1 ≡ b.1 → Settled (suc most) order a → Settled most order b
next_settled most order a b one same (inl full) = inl (omega (arith, full, one))
next_settled most order a b one same (inr long) =
    inr (subst (λ (l : List ℕ). pcap_record order l ≡ Err TooLong) same long)

-- too few bytes
not_settled : (most : ℕ) (order : Order) (bytes : List ℕ) (a : List (List ℕ) × List ℕ) → length a.0 ≡ 0
    → a.1 ≡ bytes → pcap_record order bytes ≡ Err Short → Settled (suc most) order a → ⊥
not_settled most order bytes a none same is (inl full) = omega (arith, full, none)
not_settled most order bytes a none same is (inr long) =
    let other : pcap_record order bytes ≡ Err TooLong =
    subst (λ (l : List ℕ). pcap_record order l ≡ Err TooLong) same long in
    let both = sym is ∙ other in
    cc

rest_behind : (most : ℕ) (order : Order) (bytes more : List ℕ) → Settled most order (records_within most order bytes)
    → (records_within most order (bytes ++ more)).1 ≡ (records_within most order bytes).1 ++ more
unfolding records_within
rest_behind zero order bytes more settled = refl
rest_behind (suc most) order bytes more settled =
    by_first (pcap_record order bytes) refl (lasts order bytes more) (λ rest. rest_behind most order rest more)
  where
    by_first : (r : Result (List ℕ × List ℕ) RecordRefusal) → pcap_record order bytes ≡ r
        → Lasts order bytes more r
        → ((rest : List ℕ) → Settled most order (records_within most order rest)
        → (records_within most order (rest ++ more)).1 ≡ (records_within most order rest).1 ++ more)
        → (records_within (suc most) order (bytes ++ more)).1 ≡ (records_within (suc most) order bytes).1 ++ more
    by_first (Ok read) is last deeper =
        let again : pcap_record order (bytes ++ more) ≡ Ok (read.0, read.1 ++ more) = last in
        let one : length (records_within (suc most) order bytes).0 ≡ suc (length (records_within most order read.1).0) = rw is refl in
        let same : (records_within (suc most) order bytes).1 ≡ (records_within most order read.1).1 = rw is refl in
        let behind = next_settled most order (records_within (suc most) order bytes)
        (records_within most order read.1) one same settled in
        rw (is, again) (deeper read.1 behind)
    by_first (Err TooLong) is last deeper =
        let again : pcap_record order (bytes ++ more) ≡ Err TooLong = last in rw (is, again) refl
    by_first (Err Short) is last deeper =
        let none : length (records_within (suc most) order bytes).0 ≡ 0 = rw is refl in
        let same : (records_within (suc most) order bytes).1 ≡ bytes = rw is refl in
        absurd (not_settled most order bytes (records_within (suc most) order bytes) none same is settled)

-- ---- the head

split_head : (packets : ℕ) (bytes : List ℕ) → (file_split packets bytes).head ≡ pcap_head bytes
unfolding file_split
split_head packets bytes = by_head (pcap_head bytes)
  where
    by_head : (h : Option FileHead) → (split_behind packets bytes h).head ≡ h
    by_head None = refl
    by_head (Some head) = refl

split_parts : (packets : ℕ) (bytes : List ℕ) (head : FileHead) → pcap_head bytes ≡ Some head
    → file_split packets bytes ≡ with_records head (records_within packets head.order (drop 24 bytes))
unfolding file_split
split_parts packets bytes head is = ap (split_behind packets bytes) is

head_long : (bytes : List ℕ) (head : FileHead) → pcap_head bytes ≡ Some head → 24 ≤ length bytes
head_long bytes head is = by_length (cases_lt (length bytes) 24)
  where
    by_length : (length bytes < 24) ⊎ (24 ≤ length bytes) → 24 ≤ length bytes
    by_length (inl short) =
        let none : None ≡ Some head = sym (pcap_head-stub bytes short) ∙ is in absurd cc
    by_length (inr long) = long

head_lasts : (bytes more : List ℕ) → 24 ≤ length bytes → pcap_head (bytes ++ more) ≡ pcap_head bytes
head_lasts bytes more long =
    ap pcap_head (ap (λ (l : List ℕ). l ++ more) (sym apart) ∙ append_assoc (take 24 bytes) (drop 24 bytes) more)
    ∙ pcap_head-info (take 24 bytes) (drop 24 bytes ++ more) len
    ∙ sym (pcap_head-info (take 24 bytes) (drop 24 bytes) len)
    ∙ ap pcap_head apart
  where
    apart : take 24 bytes ++ drop 24 bytes ≡ bytes
    apart = take-append-drop 24 bytes

    len : length (take 24 bytes) ≡ 24
    len = length-take-le 24 bytes long

-- ---- a file, and bytes behind it

module _ (packets : ℕ) (given more : List ℕ) (some : 1 ≤ packets) where
  abbrev SettledFile : FileSplit → Type 0
  SettledFile s = (length s.records ≡ packets) ⊎ IsTooLong s.head s.rest

  rest_grows : SettledFile (file_split packets given)
      → (file_split packets (given ++ more)).rest ≡ (file_split packets given).rest ++ more
  rest_grows settled = by_head (pcap_head given) refl
    where
      no_head : (length {A = List ℕ} [] ≡ packets) ⊎ ⊥ → ⊥
      no_head (inl none) = omega (arith, none, some)
      no_head (inr never) = never

      by_head : (h : Option FileHead) → pcap_head given ≡ h
          → (file_split packets (given ++ more)).rest ≡ (file_split packets given).rest ++ more
      by_head None is = absurd (no_head (subst SettledFile (file_split-none packets given is) settled))
      by_head (Some head) is =
          let long = head_long given head is in
          let parts = split_parts packets given head is in
          ap (λ (s : FileSplit). s.rest)
          (split_parts packets (given ++ more) head (head_lasts given more long ∙ is))
          ∙ ap (λ (l : List ℕ). (records_within packets head.order l).1) (drop-append-le 24 given more long)
          ∙ rest_behind packets head.order (drop 24 given) more (subst SettledFile parts settled)
          ∙ ap (λ (s : FileSplit). s.rest ++ more) (sym parts)

-- ---- what a whole file excludes

module _ (packets : ℕ) (given more : List ℕ) (whole : IsWholeFile packets (given ++ more)) where
  no_cut : more ≡ [] → (file_split packets given).rest ≢ [] → ⊥
  no_cut none part = part
      (ap (λ (bytes : List ℕ). (file_split packets bytes).rest)
      (sym (append-nil given) ∙ ap (λ (l : List ℕ). given ++ l) (sym none)) ∙ whole.no_rest)

  no_more : SettledFile packets given more whole.some (file_split packets given)
      → 1 ≤ length (file_split packets given).rest → ⊥
  no_more settled part =
      let rest = (file_split packets given).rest in
      let none : rest ++ more ≡ [] = sym (rest_grows packets given more whole.some settled) ∙ whole.no_rest in
      omega (arith, length-append rest more, ap length none, part)

  has_head : (file_split packets given).head ≡ None → (length given ≡ 24) ⊎ (more ≡ []) → ⊥
  has_head none read = false≢true (ap is_some (sym headless) ∙ whole.headed)
    where
      same : (length given ≡ 24) ⊎ (more ≡ []) → pcap_head (given ++ more) ≡ pcap_head given
      same (inl long) = head_lasts given more (omega (arith, long))
      same (inr nothing) = ap pcap_head (ap (λ (l : List ℕ). given ++ l) nothing ∙ append-nil given)

      headless : (file_split packets (given ++ more)).head ≡ None
      headless = split_head packets (given ++ more) ∙ same read ∙ sym (split_head packets given) ∙ none

module _ (packets : ℕ) (given : List ℕ) (input : InputChange) (took : Took input given)
    (whole : IsSomeAnd input.left.before (IsWholeFile packets)) where
  behind : (more : List ℕ) × (input.left.after ≡ Some more) × IsWholeFile packets (given ++ more)
  behind = behind_given (IsWholeFile packets) given input.left.before input.left.after took whole

  at_end : IsAtEnd input.left.after → behind.0 ≡ []
  at_end ended = rw behind.1 at ended

  pub file_cut : (place : ℕ) → IsCutInRecord packets input given (file_split packets given) place → ⊥
  file_cut place cut = no_cut packets given behind.0 behind.2 (at_end cut.ended) cut.part

  pub file_past : (limit : ℕ) → IsPastRecords packets (file_split packets given) limit → ⊥
  file_past limit past =
      no_more packets given behind.0 behind.2 (inl past.count) (omega (arith, past.one_more))

  pub file_long : (place : ℕ) → IsLongRecord packets given (file_split packets given) place → ⊥
  file_long place long = no_more packets given behind.0 behind.2 (inr long.too_long) (omega (arith, long.read))

  pub file_headless : (place : ℕ) → IsNoHead packets input given (file_split packets given) place → ⊥
  file_headless place none = has_head packets given behind.0 behind.2 none.no_head (read none.read)
    where
      read : (length given ≡ 24) ⊎ ((length given < 24) × IsAtEnd input.left.after)
          → (length given ≡ 24) ⊎ (behind.0 ≡ [])
      read (inl all) = inl all
      read (inr part) = inr (at_end part.1)
