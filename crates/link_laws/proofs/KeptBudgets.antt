-- The slices of a picture keep to a budget together, where each of them can keep to its share.
use Rattle.std.proofs.Common.{◌≡◌, ◌≤◌, ◌<◌, ◌+◌, ◌-◌, ◌*◌, ◌/◌, ◌%◌, ◌∙◌, ℕ, zero, suc, Bool, true, false, List, [], ◌∷◌, length, map, take, refl, sym, ap, subst, arith, mul-div_cancel, mul_comm, le_of_eq, zero-lt-suc, div-mul-le_self, length-append}
use Rattle.std.specs.Prelude.{nat_le, min}
use Rattle.std.specs.List.{range_with_len, enumerate_from, position_or_len}
use Rattle.std.proofs.lemmas.Bool.Decides.{nat_tests}
use Rattle.std.proofs.lemmas.Nat.{le-div}
use Rattle.std.proofs.lemmas.List.FromFn.{take-map-range_with_len}
use Rattle.link_laws.specs.Budgets.{BudgetsAreKept, CanKeepShares, coded_slices}
use Rattle.link_model.specs.SendingPictures.{budget_share, chosen_index, chosen_indices, least_fitting, need_of, picture_needs, sent_coefficients, sent_length, sent_parameters, sent_slice, sent_slices, wants_lengths}
use Rattle.link_model.proofs.PackedBits.{length-packed_bits}
use Rattle.vc_slice.proofs.EncodedSlices.{length_slice}
use Rattle.vc_types.specs.declared.choice.IndexChoice.TheVariants.{Budget}
use Rattle.vc_types.specs.declared.settings.SendSettings.{SendSettings}
use Rattle.vc_types.specs.Encoding.{encoded_slice}
use Rattle.vc_types.specs.Fields.{joined}
use Rattle.vc_types.specs.Planes.{Planes}
use Rattle.vc_types.specs.SenderSettings.{Sending, sending_view}
use Rattle.vc_types.specs.Subbands.{slice_count}
use Rattle.vc_types.specs.TransformParameters.{Parameters}

-- ---- the first index that fits

module _ (bytes : ℕ) (f : ℕ → ℕ) where
  abbrev first_in : (from count : ℕ) → ℕ
  first_in from count = position_or_len (λ len. nat_le len bytes) (map f (range_with_len from count))

  -- it is among them, and fits
  record Fits (from count : ℕ) : Type 0 where
    below : first_in from count < count
    keeps : f (from + first_in from count) ≤ bytes

  fits : (from count index : ℕ) → from ≤ index → index < from + count → f index ≤ bytes → Fits from count
  fits from zero index least most keeps = absurd (omega (arith, least, most))
  fits from (suc count) index least most keeps =
      by_first (nat_le (f from) bytes) refl (λ later. fits (from + 1) count index later (omega (arith, most)) keeps)
    where
      by_first : (here : Bool) → nat_le (f from) bytes ≡ here → (from + 1 ≤ index → Fits (from + 1) count) → Fits from (suc count)
      by_first true is behind = record { below = grind (arith, is, nat_tests); keeps = grind (arith, is, nat_tests) }
      by_first false is behind =
          let later : from + 1 ≤ index = grind (arith, nat_tests, is, least, keeps) in
          let rest = behind later in
          let at : from + (1 + first_in (from + 1) count) ≡ from + 1 + first_in (from + 1) count = omega arith in
          record { below = grind (arith, is, rest.below); keeps = rw (is, at) rest.keeps }

  -- so the least one fits, where one does
  least_keeps : (index : ℕ) → index < 128 → f index ≤ bytes → f (least_fitting bytes (map f (range_with_len 0 128))) ≤ bytes
  unfolding least_fitting
  least_keeps index most keeps =
      let first = fits 0 128 index (omega arith) (omega (arith, most)) keeps in
      let at : min (first_in 0 128) 127 ≡ 0 + first_in 0 128 = grind (arith, first.below) in
      rw at first.keeps

-- ---- shares

-- what the first slices have together
abbrev shared : (bytes slices first : ℕ) → ℕ
shared bytes slices first = first * bytes / slices

shared_grows : (bytes slices first : ℕ) → 0 < slices → shared bytes slices first ≤ shared bytes slices (first + 1)
shared_grows bytes slices first some =
    le-div (first * bytes / slices) ((first + 1) * bytes) slices some (omega (arith, div-mul-le_self (first * bytes) slices))

shared_all : (bytes slices : ℕ) → shared bytes slices slices ≤ bytes
shared_all bytes zero = omega arith
shared_all bytes (suc slices) =
    le_of_eq (ap (λ (k : ℕ). k / suc slices) (mul_comm (suc slices) bytes) ∙ mul-div_cancel bytes (zero-lt-suc slices))

-- ---- the slices of a picture

module _ (settings : SendSettings) (planes : Planes) (bytes : ℕ) (is : settings.choice ≡ Budget bytes) where
  abbrev s : Sending
  s = sending_view settings

  abbrev p : Parameters
  p = sent_parameters s

  abbrev n : ℕ
  n = slice_count p

  abbrev index : ℕ → ℕ
  index slice = least_fitting (budget_share bytes n slice) (map (sent_length p planes slice) (range_with_len 0 128))

  as_chosen : (slice : ℕ) → chosen_index s (need_of s (wants_lengths s.choice) planes slice) ≡ index slice
  unfolding need_of
  as_chosen slice = rw is refl

  all_chosen : (first count : ℕ) → map (chosen_index s) (map (need_of s (wants_lengths s.choice) planes) (range_with_len first count)) ≡ map index (range_with_len first count)
  all_chosen first zero = refl
  all_chosen first (suc count) = cc (as_chosen first, all_chosen (first + 1) count)

  abbrev bytes_at : ℕ → List (ℕ × ℕ) → List ℕ
  bytes_at first zs = joined (map (λ z. sent_slice p planes z.0 z.1) zs)

  chosen : coded_slices s planes ≡ joined (map (λ z. sent_slice p planes z.0 z.1) (enumerate_from 0 (map index (range_with_len 0 n))))
  unfolding chosen_indices picture_needs sent_slices
  chosen = ap (λ (l : List ℕ). joined (map (λ z. sent_slice p planes z.0 z.1) (enumerate_from 0 l)))
      (ap (take n) (all_chosen 0 n) ∙ take-map-range_with_len index 0 n n (omega arith))

  -- a slice's bytes are as many as its length says
  length_is : (slice q : ℕ) → length (sent_slice p planes slice q) ≡ sent_length p planes slice q
  unfolding sent_slice sent_length sent_parameters
  length_is slice q =
      let bits = length_slice p slice q (sent_coefficients p planes slice) some in
      let packed = length-packed_bits (encoded_slice p slice q (sent_coefficients p planes slice)) (omega (arith, bits)) in
      omega (arith, bits, packed)
    where
      some : 0 < settings.scaler
      some = grind (arith, nat_tests, settings.scaler_fits)

  module _ (can : CanKeepShares s planes bytes) where
    kept : (slice : ℕ) → slice < n → length (sent_slice p planes slice (index slice)) ≤ budget_share bytes n slice
    kept slice below =
        let own = can slice below in
        rw (length_is slice (index slice)) (least_keeps (budget_share bytes n slice) (sent_length p planes slice) own.0 own.1 own.2)

    -- the slices from one on, behind what those before it have of the budget
    together : (first count : ℕ) → first + count ≤ n
        → shared bytes n first + length (joined (map (λ z. sent_slice p planes z.0 z.1) (enumerate_from first (map index (range_with_len first count)))))
        ≤ shared bytes n (first + count)
    unfolding budget_share
    together first zero fit = let same : first + 0 ≡ first = omega arith in rw same (omega arith)
    together first (suc count) fit =
        let own = kept first (omega (arith, fit)) in
        let rest = together (first + 1) count (omega (arith, fit)) in
        let grows = shared_grows bytes n first (omega (arith, fit)) in
        let long = length-append (sent_slice p planes first (index first)) (joined (map (λ z. sent_slice p planes z.0 z.1) (enumerate_from (first + 1) (map index (range_with_len (first + 1) count))))) in
        let end : first + suc count ≡ first + 1 + count = omega arith in
        rw end (omega (arith, own, rest, grows, long))

    all_kept : length (coded_slices s planes) ≤ bytes
    all_kept =
        let last : 0 + n ≡ n = omega arith in
        let all : shared bytes n (0 + n) ≤ bytes = rw last (shared_all bytes n) in
        rw chosen (omega (arith, together 0 n (omega arith), all))

pub budgets_are_kept : BudgetsAreKept
budgets_are_kept settings planes bytes is can = all_kept settings planes bytes is can
