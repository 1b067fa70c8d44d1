-- What a comparison counts, sample by sample and byte by byte.
use mir.Val.{bool_byte}
use Rattle.std.proofs.Common.{◌≡◌, ℕ, zero, suc, ◌+◌, ◌*◌, ◌-◌, ◌≤◌, Bool, true, false, List, [], ◌∷◌, ◌++◌, Option, Some, None, length, refl, sym, ap, ◌∙◌, arith}
use Rattle.std.proofs.lemmas.Bool.{eq-eqb}
use Rattle.std.specs.Prelude.{◌==◌, not}
use Rattle.cmd_gen.specs.Counting.{counted_with_samples, counted_with, held_back}
use Rattle.cmd_gen.specs.declared.comparison.Comparison.{Comparison}
use Rattle.cmd_gen.specs.Differences.{different_samples}
use Rattle.frame_writer.specs.FrameBytes.{samples_of_bytes}
use Rattle.cmd_gen.proofs.States.{samples_count}
use Rattle.cmd_gen.specs.Generator.{generated_samples, next_state, sample_of}
use Rattle.vc_types.specs.Bits.{digit_of}

-- ---- samples

-- samples behind the last are no part of a frame
behind_last : (depth z : ℕ) (samples : List ℕ) → different_samples (generated_samples depth z 0) samples ≡ 0
unfolding different_samples generated_samples
behind_last depth z samples = refl

next_counted : (depth z left sample : ℕ) (samples : List ℕ) → 1 ≤ left
    → different_samples (generated_samples depth z left) (sample ∷ samples)
    ≡ digit_of (not (sample == sample_of depth (next_state z))) + different_samples (generated_samples depth (next_state z) (left - 1)) samples
unfolding different_samples generated_samples
next_counted depth z zero sample samples some = absurd (omega (arith, some))
next_counted depth z (suc left) sample samples some =
    let one : left ≡ suc left - 1 = omega arith in
    ap (λ (n : ℕ). digit_of (not (sample == sample_of depth (next_state z))) + different_samples (generated_samples depth (next_state z) n) samples) one

pub byte_digit : (bit : Bool) → bool_byte bit ≡ digit_of bit
byte_digit true = refl
byte_digit false = refl

module _ (depth z left sample : ℕ) (samples : List ℕ) where
  pub none_behind : (d : ℕ) → left ≡ 0 → d + different_samples (generated_samples depth z left) samples ≡ d + different_samples (generated_samples depth z left) (sample ∷ samples)
  none_behind d last = ap (λ (n : ℕ). d + n)
      (ap (λ (n : ℕ). different_samples (generated_samples depth z n) samples) last ∙ behind_last depth z samples
      ∙ sym (ap (λ (n : ℕ). different_samples (generated_samples depth z n) (sample ∷ samples)) last ∙ behind_last depth z (sample ∷ samples)))

  pub one_behind : (d f next expected : ℕ) → 1 ≤ left → next ≡ next_state z → expected ≡ sample_of depth next → f ≡ digit_of (not (sample == expected))
      → (d + f) + different_samples (generated_samples depth next (left - 1)) samples ≡ d + different_samples (generated_samples depth z left) (sample ∷ samples)
  one_behind d f next expected some is_next is_expected is_f =
      let n = different_samples (generated_samples depth (next_state z) (left - 1)) samples in
      let digit : f ≡ digit_of (not (sample == sample_of depth (next_state z))) = is_f ∙ ap (λ (e : ℕ). digit_of (not (sample == e))) (is_expected ∙ ap (sample_of depth) is_next) in
      let sum : (d + f) + n ≡ d + (f + n) = omega arith in
      ap (λ (z' : ℕ). (d + f) + different_samples (generated_samples depth z' (left - 1)) samples) is_next
      ∙ sum
      ∙ ap (λ (k : ℕ). d + (k + n)) digit
      ∙ ap (λ (k : ℕ). d + k) (sym (next_counted depth z left sample samples some))

-- samples of which none came are all different
all_missing : (xs : List ℕ) → different_samples xs [] ≡ length xs
unfolding different_samples
all_missing [] = refl
all_missing (x ∷ xs) = ap suc (all_missing xs)

pub same_samples : (xs : List ℕ) → different_samples xs xs ≡ 0
unfolding different_samples
same_samples [] = refl
same_samples (x ∷ xs) = rw (eq-eqb x x refl) (let rest = same_samples xs in omega (arith, rest))

-- ---- bytes

narrow_byte : (low : Option ℕ) (byte : ℕ) (more : List ℕ) → samples_of_bytes false (held_back false low ++ (byte ∷ more)) ≡ byte ∷ samples_of_bytes false (held_back false low ++ more)
unfolding samples_of_bytes
narrow_byte low byte more = refl

wide_byte : (low byte : ℕ) (more : List ℕ) → samples_of_bytes true (held_back true (Some low) ++ (byte ∷ more)) ≡ (low + 256 * byte) ∷ samples_of_bytes true (held_back true None ++ more)
unfolding samples_of_bytes
wide_byte low byte more = refl

nothing_whole : (wide : Bool) (low : Option ℕ) → samples_of_bytes wide (held_back wide low ++ []) ≡ []
unfolding samples_of_bytes
nothing_whole true None = refl
nothing_whole true (Some low) = refl
nothing_whole false low = refl

-- samples that did not come whole are different
pub rest_missing : (depth z left : ℕ) (wide : Bool) (low : Option ℕ) → different_samples (generated_samples depth z left) (samples_of_bytes wide (held_back wide low ++ [])) ≡ left
rest_missing depth z left wide low =
    ap (different_samples (generated_samples depth z left)) (nothing_whole wide low)
    ∙ all_missing (generated_samples depth z left)
    ∙ samples_count depth z left

-- ---- a byte is taken

module _ (old new : Comparison) (byte sample : ℕ) (same_width : new.wide ≡ old.wide) (counts : (samples : List ℕ) → counted_with_samples new samples ≡ counted_with_samples old (sample ∷ samples)) (more : List ℕ) where
  pub narrow_taken : old.wide ≡ false → new.low ≡ old.low → sample ≡ byte → counted_with new more ≡ counted_with old (byte ∷ more)
  narrow_taken narrow same_low is =
      ap (λ (w : Bool). counted_with_samples new (samples_of_bytes w (held_back w new.low ++ more))) (same_width ∙ narrow)
      ∙ counts (samples_of_bytes false (held_back false new.low ++ more))
      ∙ ap (λ (s : ℕ). counted_with_samples old (s ∷ samples_of_bytes false (held_back false new.low ++ more))) is
      ∙ ap (λ (l : Option ℕ). counted_with_samples old (byte ∷ samples_of_bytes false (held_back false l ++ more))) same_low
      ∙ ap (counted_with_samples old) (sym (narrow_byte old.low byte more))
      ∙ ap (λ (w : Bool). counted_with_samples old (samples_of_bytes w (held_back w old.low ++ (byte ∷ more)))) (sym narrow)

  pub wide_taken : (low : ℕ) → old.wide ≡ true → old.low ≡ Some low → new.low ≡ None → sample ≡ low + 256 * byte → counted_with new more ≡ counted_with old (byte ∷ more)
  wide_taken low wide had has is =
      ap (λ (w : Bool). counted_with_samples new (samples_of_bytes w (held_back w new.low ++ more))) (same_width ∙ wide)
      ∙ ap (λ (l : Option ℕ). counted_with_samples new (samples_of_bytes true (held_back true l ++ more))) has
      ∙ counts (samples_of_bytes true (held_back true None ++ more))
      ∙ ap (λ (s : ℕ). counted_with_samples old (s ∷ samples_of_bytes true (held_back true None ++ more))) is
      ∙ ap (counted_with_samples old) (sym (wide_byte low byte more))
      ∙ ap (λ (l : Option ℕ). counted_with_samples old (samples_of_bytes true (held_back true l ++ (byte ∷ more)))) (sym had)
      ∙ ap (λ (w : Bool). counted_with_samples old (samples_of_bytes w (held_back w old.low ++ (byte ∷ more)))) (sym wide)
