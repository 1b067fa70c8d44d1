-- A slice that was encoded at an index, or is too large there, and what was told of it.
use Rattle.std.proofs.Common.{◌≡◌, ℕ, ◌-◌, ◌<◌, ◌≤◌, Bool, true, false, List, length, map, Result, Ok, Err, sym, ap, ◌∙◌, arith}
use Rattle.std.specs.Prelude.{nat_lt, ◌||◌, IfOk}
use Rattle.std.specs.Global.{Vec}
use Rattle.std.specs.List.{range_with_len}
use Rattle.std.proofs.lemmas.Bool.Decides.{nat_tests}
use Rattle.link_model.specs.SendingFaults.{is_too_large}
use Rattle.link_model.specs.SendingPictures.{budget_share, chosen_by, least_fitting, packed_bits, sent_parameters, sent_coefficients, sent_length, sent_slice, slice_room, told_lengths, need_of}
use Rattle.picture_encode.specs.Encoded.{IsEncodedAt, IsTooLargeAt, RefusesAt, Chooses, IsRefusedSlice}
use Rattle.picture_encode.specs.declared.refusal.SliceRefusal.{SliceRefusal}
use Rattle.picture_encode.specs.declared.refusal.SliceRefusal.TheVariants.{SliceTooLarge, NoMemory}
use Rattle.vc_types.specs.Bits.{bits_of}
use Rattle.vc_types.specs.Encoding.{encoded_length, encoded_slice, is_too_long}
use Rattle.vc_types.specs.declared.choice.IndexChoice.TheVariants.{Fit, Budget}
use Rattle.vc_types.specs.Planes.{Planes}
use Rattle.vc_types.specs.SenderSettings.{Sending}
use Rattle.vc_types.specs.Slices.{Coefficients}
use Rattle.vc_types.specs.Subbands.{slice_count}
use Rattle.vc_types.specs.TransformParameters.{Parameters}
use Rattle.vc_types.specs.declared.memory.NoMemory as memory
use Rattle.vc_slice.specs.Refusals.{IsRefusal}
use Rattle.vc_slice.specs.declared.encoding.EncodeRefusal.{EncodeRefusal}
use Rattle.vc_slice.specs.declared.encoding.EncodeRefusal.TheVariants as encoder
use Rattle.picture_encode.specs.Refusals.{refusal_of}

not_over : (len room : ℕ) → len ≤ room → nat_lt room len ≡ false
not_over len room h = grind (arith, nat_tests)

over : (len room : ℕ) → room < len → nat_lt room len ≡ true
over len room h = grind (arith, nat_tests)

either_false : (a b : Bool) → a ≡ false → b ≡ false → (a || b) ≡ false
either_false true b h k = absurd cc
either_false false b h k = k

either_first : (a b : Bool) → a ≡ true → (a || b) ≡ true
either_first true b h = h
either_first false b h = absurd cc

either_second : (a b : Bool) → b ≡ true → (a || b) ≡ true
either_second true b h = true_is_true
  where
    true_is_true : true ≡ true
    true_is_true = λ i. true
either_second false b h = h

at_least_four : (p : Parameters) (slice index : ℕ) (c : Coefficients) → 4 ≤ encoded_length p slice index c
unfolding encoded_length
at_least_four p slice index c = omega arith

module _ (s : Sending) (planes : Planes) (slice index : ℕ) (p : Parameters) (c : Coefficients) (own : p ≡ sent_parameters s) (same : c ≡ sent_coefficients p planes slice) where
  of_planes : c ≡ sent_coefficients (sent_parameters s) planes slice
  of_planes = same ∙ ap (λ (q : Parameters). sent_coefficients q planes slice) own

  length_is : encoded_length p slice index c ≡ sent_length (sent_parameters s) planes slice index
  unfolding sent_length
  length_is = λ i. encoded_length (own i) slice index (of_planes i)

  large_is : is_too_large s planes slice index ≡ (is_too_long p slice index c || nat_lt (slice_room s) (encoded_length p slice index c))
  unfolding is_too_large
  large_is = λ i. is_too_long (sym own i) slice index (sym of_planes i) || nat_lt (slice_room s) (sym length_is i)

  bytes_are : packed_bits (encoded_slice p slice index c) ≡ sent_slice (sent_parameters s) planes slice index
  unfolding sent_slice
  bytes_are = λ i. packed_bits (encoded_slice (own i) slice index (of_planes i))

  pub encoded_at : (bytes : List ℕ) → 32 ≤ s.size → packed_bits (bits_of bytes) ≡ bytes → bits_of bytes ≡ encoded_slice p slice index c → length bytes ≡ encoded_length p slice index c
      → is_too_long p slice index c ≡ false → length bytes ≤ s.size - 32 → IsEncodedAt s planes slice index bytes
  encoded_at bytes some packed bits len short room =
      let four = at_least_four p slice index c in
      record {
        sized = record { some = omega (arith, len, four); room = omega arith };
        fits = large_is ∙ either_false (is_too_long p slice index c) (nat_lt (slice_room s) (encoded_length p slice index c)) short (not_over (encoded_length p slice index c) (slice_room s) (omega (arith, len)));
        bytes_are = sym packed ∙ ap packed_bits bits ∙ bytes_are;
      }

  pub too_large_at : (bytes : ℕ) → bytes ≡ encoded_length p slice index c → s.size - 32 < bytes → IsTooLargeAt s planes slice index bytes
  too_large_at bytes len room = record {
    too_large = large_is ∙ either_second (is_too_long p slice index c) (nat_lt (slice_room s) (encoded_length p slice index c)) (over (encoded_length p slice index c) (slice_room s) (omega (arith, len)));
    needs = len ∙ length_is;
  }

  pub too_long_at : (bytes : ℕ) → is_too_long p slice index c ≡ true → bytes ≡ encoded_length p slice index c → IsTooLargeAt s planes slice index bytes
  too_long_at bytes long len = record {
    too_large = large_is ∙ either_first (is_too_long p slice index c) (nat_lt (slice_room s) (encoded_length p slice index c)) long;
    needs = len ∙ length_is;
  }

  pub refused_by : (e : EncodeRefusal) → IsRefusal p slice index c e → RefusesAt s planes slice index (refusal_of slice e)
  refused_by (encoder.TooLong bytes) h = (λ i. slice, too_long_at bytes h.0 h.1)
  refused_by encoder.NoMemory h = tt

-- ---- what is told

pub lens_told : (wanted : Bool) (p : Parameters) (slice : ℕ) (c : Coefficients) → wanted ≡ true → (r : Result (Vec ℕ) memory.NoMemory)
    → IfOk r (λ lens. lens.items ≡ map (λ index. encoded_length p slice index c) (range_with_len 0 128))
    → IfOk r (λ lens. (planes : Planes) → c ≡ sent_coefficients p planes slice → lens.items ≡ told_lengths wanted p planes slice)
unfolding sent_length
lens_told wanted p slice c is_wanted (Ok lens) h = λ planes same.
    h ∙ ap (λ (d : Coefficients). map (λ index. encoded_length p slice index d) (range_with_len 0 128)) same
    ∙ ap (λ (w : Bool). told_lengths w p planes slice) (sym is_wanted)
lens_told wanted p slice c is_wanted (Err e) h = tt

pub told_need : (s : Sending) (wanted : Bool) (planes : Planes) (slice : ℕ) (p : Parameters) (lens : List ℕ) → p ≡ sent_parameters s → lens ≡ told_lengths wanted p planes slice
    → record { slice = slice; room = s.size - 32; lengths = lens } ≡ need_of s wanted planes slice
unfolding need_of
told_need s wanted planes slice p lens own told =
    let all = told ∙ ap (λ (q : Parameters). told_lengths wanted q planes slice) own in
    λ i. record { slice = slice; room = s.size - 32; lengths = all i }

-- the lengths at all indices are those of the need
pub told_at : (s : Sending) (planes : Planes) (slice : ℕ) (p : Parameters) (c : Coefficients) → p ≡ sent_parameters s → c ≡ sent_coefficients p planes slice
    → map (λ index. encoded_length p slice index c) (range_with_len 0 128) ≡ (need_of s true planes slice).lengths
unfolding need_of sent_length
told_at s planes slice p c own same =
    ap (λ (d : Coefficients). map (λ index. encoded_length p slice index d) (range_with_len 0 128)) same
    ∙ ap (λ (q : Parameters). told_lengths true q planes slice) own

-- the least index that fits is the one that a choice says
module _ (s : Sending) (planes : Planes) (slice : ℕ) (p : Parameters) (c : Coefficients) (own : p ≡ sent_parameters s) (same : c ≡ sent_coefficients p planes slice) (bytes share index : ℕ)
    (is : index ≡ least_fitting share (map (λ q. encoded_length p slice q c) (range_with_len 0 128))) where
  by_need : index ≡ least_fitting share (need_of s true planes slice).lengths
  by_need = is ∙ ap (least_fitting share) (told_at s planes slice p c own same)

  pub fit_is : share ≡ bytes → index ≡ chosen_by (slice_count (sent_parameters s)) (Fit bytes) (need_of s true planes slice)
  fit_is each = by_need ∙ ap (λ (b : ℕ). least_fitting b (need_of s true planes slice).lengths) each

  pub budget_is : share ≡ budget_share bytes (slice_count p) slice → index ≡ chosen_by (slice_count (sent_parameters s)) (Budget bytes) (need_of s true planes slice)
  unfolding need_of
  budget_is each =
      by_need
      ∙ ap (λ (b : ℕ). least_fitting b (need_of s true planes slice).lengths) each
      ∙ ap (λ (q : Parameters). least_fitting (budget_share bytes (slice_count q) slice) (need_of s true planes slice).lengths) own

pub refused_at : (choice : Chooses) (wanted : Bool) (s : Sending) (planes : Planes) (slice index : ℕ) (e : SliceRefusal) → choice (need_of s wanted planes slice) index → RefusesAt s planes slice index e → IsRefusedSlice choice wanted s planes slice e
refused_at choice wanted s planes slice index (SliceTooLarge n bytes) answer h = (index, answer, h)
refused_at choice wanted s planes slice index NoMemory answer h = tt
