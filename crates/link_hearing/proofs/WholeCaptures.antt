-- A capture of at most so many entries that ends at an edge isn't cut, and has nothing behind the last of them.
use Rattle.std.proofs.Common.{◌≡◌, ◌≢◌, ℕ, zero, suc, List, [], ◌++◌, length, Option, Some, None, IsSomeAnd}
use Rattle.std.proofs.Common.{refl, sym, ap, ◌∙◌, arith, append-nil, length-append}
use Rattle.link_capture.specs.Capture.{entries_within, first_entry}
use Rattle.link_capture.proofs.Heads.{first_entry-append}
use Rattle.vc_ports.specs.Changes.{InputChange, Took}
use Rattle.vc_ports.proofs.Given.{behind_given}
use Rattle.vc_ports.specs.Reading.{IsAtEnd}
use Rattle.link_hearing.specs.Capture.{IsWholeCapture, IsPastLimit, capture_split}

-- ---- as many entries as were asked for, and bytes behind them

rest_behind : (most : ℕ) (bytes more : List ℕ) → length (entries_within most bytes).0 ≡ most
    → (entries_within most (bytes ++ more)).1 ≡ (entries_within most bytes).1 ++ more
unfolding entries_within
rest_behind zero bytes more full = refl
rest_behind (suc most) bytes more full = by_first (first_entry bytes) refl (λ rest. rest_behind most rest more)
  where
    by_first : (found : Option (List ℕ × List ℕ)) → first_entry bytes ≡ found
        → ((rest : List ℕ) → length (entries_within most rest).0 ≡ most
        → (entries_within most (rest ++ more)).1 ≡ (entries_within most rest).1 ++ more)
        → (entries_within (suc most) (bytes ++ more)).1 ≡ (entries_within (suc most) bytes).1 ++ more
    by_first None is deeper =
        let none : length (entries_within (suc most) bytes).0 ≡ 0 = rw is refl in
        absurd (omega (arith, full, none))
    by_first (Some first) is deeper =
        let one : length (entries_within (suc most) bytes).0 ≡ suc (length (entries_within most first.1).0) = rw is refl in
        let fewer : length (entries_within most first.1).0 ≡ most = omega (arith, full, one) in
        rw (is, first_entry-append bytes more first is) (deeper first.1 fewer)

-- ---- what a whole capture excludes

module _ (packets : ℕ) (given more : List ℕ) (whole : IsWholeCapture packets (given ++ more)) where
  no_cut : more ≡ [] → (capture_split packets given).rest ≢ [] → ⊥
  no_cut none some = some
      (ap (λ (bytes : List ℕ). (capture_split packets bytes).rest)
      (sym (append-nil given) ∙ ap (λ (l : List ℕ). given ++ l) (sym none)) ∙ whole)

  no_more : (input : InputChange) (limit : ℕ) → IsPastLimit packets (capture_split packets given) limit → ⊥
  no_more input limit past =
      let rest = (entries_within packets given).1 in
      let none : length (rest ++ more) ≡ 0 = ap length (sym (rest_behind packets given more past.count) ∙ whole) in
      omega (arith, length-append rest more, none, past.one_more)

module _ (packets : ℕ) (given : List ℕ) (input : InputChange) (took : Took input given) (whole : IsSomeAnd input.left.before (IsWholeCapture packets)) where
  behind : (more : List ℕ) × (input.left.after ≡ Some more) × IsWholeCapture packets (given ++ more)
  behind = behind_given (IsWholeCapture packets) given input.left.before input.left.after took whole

  pub cut_by : IsAtEnd input.left.after → (capture_split packets given).rest ≢ [] → ⊥
  cut_by ended some = no_cut packets given behind.0 behind.2 (rw behind.1 at ended) some

  pub past_by : (limit : ℕ) → IsPastLimit packets (capture_split packets given) limit → ⊥
  past_by limit past = no_more packets given behind.0 behind.2 input limit past
