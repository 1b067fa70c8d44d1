-- A picture that is let go stays so, and nothing of it changes then.
use Rattle.std.proofs.Common.{◌≡◌, ℕ, zero, suc, ◌+◌, ◌-◌, ◌<◌, ◌≤◌, Bool, true, false, List, ◌++◌, Some, refl, ap, ◌∙◌, arith, is_some, option_and_then}
use Rattle.std.specs.List.{list_all, range_with_len}
use Rattle.std.proofs.lemmas.Bool.{and_from}
use Rattle.link_model.specs.Complete.{whole_picture}
use Rattle.link_model.specs.Numbers.{Numbered, greatest, parts_of, entered}
use Rattle.link_model.specs.Output.{complete_at, planes_at, frame_at, frame_bytes_at, is_let_go}
use Rattle.link_model.specs.Session.{Fragment}
use Rattle.link_model.proofs.Keeping.{whole_picture-append}
use Rattle.link_model.proofs.Numbering.{Follows, entered_follows}
use Rattle.vc_types.specs.Planes.{decoded_planes}
use Rattle.vc_types.specs.SequenceHeader.{Sequence}

-- ---- ranges

module _ (test : ℕ → Bool) where
  pub all_at : (a n k : ℕ) → list_all test (range_with_len a n) ≡ true → a ≤ k → k < a + n → test k ≡ true
  all_at a zero k all above below = absurd (omega arith)
  all_at a (suc n) k all above below = grind (arith, all_at (a + 1) n k)

  pub all_from : (a n : ℕ) → ((k : ℕ) → a ≤ k → k < a + n → test k ≡ true) → list_all test (range_with_len a n) ≡ true
  all_from a zero each = refl
  all_from a (suc n) each = and_from (test a) (list_all test (range_with_len (a + 1) n)) (each a (omega arith) (omega arith)) (all_from (a + 1) n (λ k above below. each k (omega arith) (omega arith)))

-- ---- letting go

module _ (window : ℕ) (s : Sequence) where
  pub let_go_at : (es : List Numbered) (n m : ℕ) → is_let_go window s es n ≡ true → greatest es < m + window → m ≤ n → complete_at s es m ≡ true
  unfolding is_let_go
  let_go_at es n m all above below = all_at (complete_at s es) (greatest es + 1 - window) (n + 1 - (greatest es + 1 - window)) m all (omega arith) (omega arith)

  pub let_go_from : (es : List Numbered) (n : ℕ) → ((m : ℕ) → greatest es < m + window → m ≤ n → complete_at s es m ≡ true) → is_let_go window s es n ≡ true
  unfolding is_let_go
  let_go_from es n each = all_from (complete_at s es) (greatest es + 1 - window) (n + 1 - (greatest es + 1 - window)) (λ m above below. each m (omega arith) (omega arith))

  -- what is closed is let go
  pub closed_is_let_go : (es : List Numbered) (n : ℕ) → n + window ≤ greatest es → is_let_go window s es n ≡ true
  closed_is_let_go es n closed = let_go_from es n (λ m above below. absurd (omega arith))

  -- and so are the pictures before one that is let go
  pub let_go_before : (es : List Numbered) (n m : ℕ) → m ≤ n → is_let_go window s es n ≡ true → is_let_go window s es m ≡ true
  let_go_before es n m before gone = let_go_from es m (λ k above below. let_go_at es n k gone above (omega arith))

  -- what isn't let go is greater than all that is
  pub let_go_later_is_greater : (es : List Numbered) (n m : ℕ) → is_let_go window s es n ≡ true → is_let_go window s es m ≡ false → n < m
  let_go_later_is_greater es n m gone kept = grind (arith, let_go_before)

  module _ (old new : List Numbered) (later : Follows window old new) where
    whole_later : (n : ℕ) (bytes : List ℕ) → whole_picture s (parts_of n old) ≡ Some bytes → whole_picture s (parts_of n new) ≡ Some bytes
    whole_later n bytes e = ap (whole_picture s) (later.adds n).1 ∙ whole_picture-append s (parts_of n old) (later.adds n).0 bytes e

    -- a picture that is complete keeps its bytes
    complete_same : (n : ℕ) → complete_at s old n ≡ true → whole_picture s (parts_of n new) ≡ whole_picture s (parts_of n old)
    unfolding complete_at
    complete_same n complete = grind (arith, whole_later)

    pub complete_later : (n : ℕ) → complete_at s old n ≡ true → complete_at s new n ≡ true
    unfolding complete_at
    complete_later n complete = ap is_some (complete_same n complete) ∙ complete

    pub let_go_later : (n : ℕ) → is_let_go window s old n ≡ true → is_let_go window s new n ≡ true
    let_go_later n gone = let_go_from new n (λ m above below. complete_later m (let_go_at old n m gone (omega (arith, later.grows, above)) below))

    -- a picture that is let go stays as it is
    pub whole_same : (n : ℕ) → is_let_go window s old n ≡ true → whole_picture s (parts_of n new) ≡ whole_picture s (parts_of n old)
    whole_same n gone = grind (arith, complete_same, let_go_at)

    pub planes_same : (n : ℕ) → is_let_go window s old n ≡ true → planes_at s new n ≡ planes_at s old n
    unfolding planes_at
    planes_same n gone = ap (option_and_then (decoded_planes s)) (whole_same n gone)

    -- and so does a frame whose last picture is let go
    pub frame_same : (n : ℕ) → is_let_go window s old n ≡ true → frame_bytes_at s new n ≡ frame_bytes_at s old n
    unfolding frame_bytes_at frame_at
    frame_same n gone = grind (arith, let_go_before, planes_same)

-- ---- the same, of fragments

module _ (base window : ℕ) (s : Sequence) (fragments more : List Fragment) (n : ℕ) (gone : is_let_go window s (entered base window fragments) n ≡ true) where
  pub stays_let_go : is_let_go window s (entered base window (fragments ++ more)) n ≡ true
  stays_let_go = let_go_later window s (entered base window fragments) (entered base window (fragments ++ more)) (entered_follows base window fragments more) n gone

  pub stays_the_same : whole_picture s (parts_of n (entered base window (fragments ++ more))) ≡ whole_picture s (parts_of n (entered base window fragments))
  stays_the_same = whole_same window s (entered base window fragments) (entered base window (fragments ++ more)) (entered_follows base window fragments more) n gone

pub ruleset laws = (stays_let_go, stays_the_same, let_go_later_is_greater)
