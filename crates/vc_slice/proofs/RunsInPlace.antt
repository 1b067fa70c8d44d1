-- A run of numbers, from one place of a list to another, that is changed and put back.
use Rattle.std.proofs.Common.{◌≡◌, ℕ, ◌+◌, ◌-◌, ◌<◌, ◌≤◌, List, length, take, drop, get_or, ℤ, pos, ◌++◌, arith, ap, sym, subst, ◌∙◌, ◌⊎◌, inl, inr}
use Rattle.std.proofs.Math.Seq.{get_or-append_right}
use Rattle.std.proofs.lemmas.List.{get_or-take, get_or-drop, get_or_append_left, get_or_default, length-take}
use Rattle.vc_types.specs.Lifting.{line_of}
use borrow.Rule.Slice.PartMut.{mid_of, post_of, put_mid, mid_len, drop_put}

module _ (from k : ℕ) (old new : List ℤ) (within : from ≤ length old) where
  length-front : length (take from old) ≡ from
  length-front = omega (arith, length-take from old)

  pub put_back_at : (i : ℕ) → i < length new → line_of (put_mid from k old new) (from + i) ≡ line_of new i
  put_back_at i h =
      let rest = new ++ post_of from k old in
      get_or-append_right (take from old) rest (from + i) (pos 0) (omega (arith, length-front))
      ∙ ap (λ (n : ℕ). get_or rest n (pos 0)) (let same : from + i - length (take from old) ≡ i = omega (arith, length-front) in same)
      ∙ get_or_append_left new (post_of from k old) (pos 0) i h

  pub put_back_below : (i : ℕ) → i < from → line_of (put_mid from k old new) i ≡ line_of old i
  put_back_below i h =
      get_or_append_left (take from old) (new ++ post_of from k old) (pos 0) i (omega (arith, length-front))
      ∙ get_or-take from old i (pos 0) h

module _ (from to : ℕ) (old : List ℤ) (run : (from ≤ to) × (to ≤ length old)) where
  abbrev own : List ℤ
  own = mid_of from (to - from) old

  pub length-run : length own ≡ to - from
  length-run = mid_len from to old run.1

  run_at : (i : ℕ) (none : ℤ) → i < to - from → get_or own i none ≡ get_or old (from + i) none
  run_at i none h = get_or-take (to - from) (drop from old) i none h ∙ get_or-drop from old i none

  -- what holds of each number there holds of each of the run
  pub of_run : (P : ℤ → Type 0) → ((i : ℕ) → from ≤ i → i < to → P (line_of old i)) → (i : ℕ) (none : ℤ) → i < length own → P (get_or own i none)
  of_run P each i none h =
      let below : i < to - from = omega (arith, length-run) in
      subst P (sym (run_at i none below ∙ get_or_default old (from + i) none (pos 0) (omega (arith, run))))
      (each (from + i) (omega arith) (omega arith))

module _ (from to : ℕ) (old : List ℤ) (run : (from ≤ to) × (to ≤ length old)) (new : List ℤ) (long : length new ≡ length (own from to old run)) where
  placed : (i : ℕ) → from ≤ i → i < to → line_of (put_mid from (to - from) old new) i ≡ line_of new (i - from)
  placed i low high =
      let same : i ≡ from + (i - from) = omega arith in
      ap (λ (n : ℕ). line_of (put_mid from (to - from) old new) n) same
      ∙ put_back_at from (to - from) old new (omega (arith, run)) (i - from) (omega (arith, long, length-run from to old run))

  -- what holds of each changed number holds of each number there
  pub put_back : (P : ℤ → Type 0) → ((i : ℕ) → i < length (own from to old run) → P (line_of new i)) → (i : ℕ) → from ≤ i → i < to → P (line_of (put_mid from (to - from) old new) i)
  put_back P each i low high = subst P (sym (placed i low high)) (each (i - from) (omega (arith, length-run from to old run)))

  -- each is what a function makes of the one of another list in its place
  pub put_back_from : (f : ℤ → ℕ → ℤ) (q : ℕ) (source : List ℤ) (there : (from ≤ to) × (to ≤ length source))
      → ((i : ℕ) → i < length (own from to source there) → line_of new i ≡ f (line_of (own from to source there) i) q)
      → (i : ℕ) → from ≤ i → i < to → line_of (put_mid from (to - from) old new) i ≡ f (line_of source i) q
  put_back_from f q source there each i low high =
      let same : from + (i - from) ≡ i = omega arith in
      placed i low high ∙ each (i - from) (omega (arith, length-run from to source there))
      ∙ ap (λ (z : ℤ). f z q) (run_at from to source there (i - from) (pos 0) (omega arith) ∙ ap (λ (n : ℕ). line_of source n) same)

  -- each is what a function makes of the one that was there
  pub put_back_by : (f : ℤ → ℕ → ℤ) (q : ℕ) → ((i : ℕ) → i < length (own from to old run) → line_of new i ≡ f (line_of (own from to old run) i) q)
      → (i : ℕ) → from ≤ i → i < to → line_of (put_mid from (to - from) old new) i ≡ f (line_of old i) q
  put_back_by f q = put_back_from f q old run

  pub put_back_off : (i : ℕ) → (i < from) ⊎ (to ≤ i) → line_of (put_mid from (to - from) old new) i ≡ line_of old i
  put_back_off i off = elim off [
    | inl before ↦ put_back_below from (to - from) old new (omega (arith, run)) i before
    | inr behind ↦ (
        let whole = put_mid from (to - from) old new in
        let same : i ≡ to + (i - to) = omega arith in
        ap (λ (n : ℕ). line_of whole n) same
        ∙ sym (get_or-drop to whole (i - to) (pos 0))
        ∙ ap (λ (l : List ℤ). line_of l (i - to)) (drop_put from to old new run.0 run.1 (omega (arith, long, length-run from to old run)))
        ∙ get_or-drop to old (i - to) (pos 0)
        ∙ ap (λ (n : ℕ). line_of old n) (sym same))
  ]
