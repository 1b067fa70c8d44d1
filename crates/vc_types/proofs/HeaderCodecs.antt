-- A sequence header is read as it is spelled, and each part of it.
use Rattle.std.proofs.Common.{◌≡◌, ℕ, zero, suc, lit≤, ◌-◌, ◌^◌, ◌<◌, ◌≤◌, Bool, true, false, cond, eqb, leb, List, ◌++◌, Option, Some, None, Result, Ok, refl, sym, ap, subst, ◌∙◌, append_assoc, arith}
use Rattle.std.specs.Prelude.{IsTrue, IfSome, unwrap_or}
use Rattle.std.proofs.lemmas.Bool.{leb-true, le-leb, eqb-true, eq-eqb}
use Rattle.std.proofs.lemmas.Bool.Decides.{nat_tests}
use Rattle.vc_types.specs.Bits.{digit_of}
use Rattle.vc_types.specs.Codes.{uint_bits}
use Rattle.vc_types.specs.Fields.{Field, ◌>>=◌, give, flagged_bits, flagged_value, pair_bits, IsCodec, and_then}
use Rattle.vc_types.specs.HeaderSpelling.{choice_bits, sampling_index, area_bits, range_bits, colour_bits, HeaderSpelling, header_bits_of, header_bits, chosen_range, spelled_header, spelled_whole, IsNumber, IsChoice, ArePair, IsArea, IsRange, IsColour, IsHeaderOf, IsHeader}
use Rattle.vc_types.specs.Presentations.{area, presentation_of}
use Rattle.vc_types.specs.declared.presentation.Choice.{Choice}
use Rattle.vc_types.specs.declared.presentation.Choice.TheVariants.{Preset, Custom}
use Rattle.vc_types.specs.declared.presentation.CleanArea.{CleanArea}
use Rattle.vc_types.specs.declared.presentation.Colour.{Colour}
use Rattle.vc_types.specs.declared.presentation.Presentation.{Presentation}
use Rattle.vc_types.specs.SequenceHeader.{Sequence, HeaderField, header_number, index, part, is_version_of, major_version, profile, base_video_format, frame_size, sampling_by_index, colour_difference_sampling, scan_format, ratio, clean_area, excursion, custom_signal_range, signal_range_of, colour_part, colour_specification, picture_coding_mode, whole_header_of, sequence_header_of, sequence_header}
use Rattle.vc_types.specs.Video.{BaseFormat, format_of, range_of, signal_range, excursion_fits, dimensions_fit}
use Rattle.vc_types.specs.declared.refusal.HeaderRefusal.{HeaderRefusal}
use Rattle.vc_types.specs.declared.refusal.HeaderRefusal.TheVariants as refusals
use Rattle.vc_types.specs.declared.video.Sampling.{Sampling}
use Rattle.vc_types.specs.declared.video.Sampling.TheVariants.{S444, S422, S420}
use Rattle.vc_types.specs.declared.video.SignalRange.{SignalRange}
use Rattle.vc_types.proofs.FieldCodecs.{and_then_ok, give_codec, give_if_codec, then_codec, mapped_codec, retold, number_codec, tested_codec, behind_flag_codec, plain_flag_codec, ok_is}

-- ---- numbers

pub number_is : IsCodec header_number uint_bits (λ n. n) IsNumber
unfolding header_number
number_is = number_codec refusals.Short refusals.TooLarge (2 ^ 32 - 1)

index_is : (limit : ℕ) (refusal : HeaderRefusal) → limit ≤ 2 ^ 32 - 1 → IsCodec (index limit refusal) uint_bits (λ n. n) (λ n. n ≤ limit)
index_is limit refusal small = retold uint_bits (λ n. n) (λ n. n ≤ limit) (λ (n : ℕ). n) (λ (n : ℕ). n)
    (λ n ok. (leb-true n limit ok.1, refl, refl))
    (λ n ok. ((omega arith, le-leb n limit ok), refl, refl))
    (tested_codec (λ n. leb n limit) refusal number_is)

version_is_number : (p n : ℕ) → IsTrue (is_version_of p n) → IsNumber n
version_is_number p n h = grind (arith, nat_tests)

major_is : (p : ℕ) → IsCodec (major_version p) uint_bits (λ n. n) (λ n. IsTrue (is_version_of p n))
unfolding major_version
major_is p = retold uint_bits (λ n. n) (λ n. IsTrue (is_version_of p n)) (λ (n : ℕ). n) (λ (n : ℕ). n)
    (λ n ok. (ok.1, refl, refl))
    (λ n ok. ((version_is_number p n ok, ok), refl, refl))
    (tested_codec (λ n. is_version_of p n) refusals.Version number_is)

profile_is : (p : ℕ) → IsNumber p
    → IsCodec (profile p) (λ (a : Unit {0}). uint_bits p) (λ a. p) (λ a. Unit {0})
unfolding profile
profile_is p number = retold (λ (a : Unit {0}). uint_bits p) (λ a. p) (λ a. Unit {0})
    (λ (n : ℕ). tt) (λ (a : Unit {0}). p)
    (λ n ok. (tt, sym (eqb-true n p ok.1), ap uint_bits (eqb-true n p ok.1)))
    (λ a ok. ((number, eq-eqb p p refl), refl, refl))
    (tested_codec (λ n. eqb n p) refusals.Profile number_is)

base_is : IsCodec base_video_format uint_bits (λ n. n) (λ n. n ≤ 16)
unfolding base_video_format
base_is = index_is 16 refusals.BaseFormat (lit≤ tt)

-- ---- the index of a preset, or what is coded in its place behind the index 0

abbrev pub choice_value : {A X : Type 0} → (ℕ → X) → (A → X) → Choice A → X
choice_value known custom (Preset index) = known index
choice_value known custom (Custom a) = custom a

not_zero : (n : ℕ) → 0 < n → eqb n 0 ≡ false
not_zero n some = grind (arith, nat_tests)

is_some : (n : ℕ) → eqb n 0 ≡ false → 0 < n
is_some n h = grind (arith, nat_tests)

pub choice_codec : {E A X : Type 0} {first : Field Bool E ℕ} {custom : Field Bool E X} {bits : A → List Bool} {value : A → X} {IsCustom : A → Type 0} (limit : ℕ) (known : ℕ → X)
    → IsCodec first uint_bits (λ n. n) (λ n. n ≤ limit) → IsCodec custom bits value IsCustom
    → IsCodec (first >>= λ index. cond (eqb index 0) custom (give (known index))) (choice_bits bits) (choice_value known value) (IsChoice limit IsCustom)
choice_codec {E = E} {A = A} {X = X} {first = first} {custom = custom} {bits = bits} {value = value} {IsCustom = IsCustom} limit known c d = record {
  takes = λ all x rest h.
      let one = and_then_ok (first all) (λ read. cond (eqb read.0 0) custom (give (known read.0)) read.1) (x, rest) h in
      let n = c.takes all one.0.0 one.0.1 one.1 in
      let small : one.0.0 ≤ limit = subst (λ (m : ℕ). m ≤ limit) n.2 n.1 in
      let front : all ≡ uint_bits one.0.0 ++ one.0.1 = n.3 ∙ ap (λ (m : ℕ). uint_bits m ++ one.0.1) n.2 in
      chosen (eqb one.0.0 0) one.0.0 one.0.1 x rest all refl small one.2 front;
  again = choice_again;
}
  where
    chosen : (b : Bool) (n : ℕ) (left : List Bool) (x : X) (rest all : List Bool) → eqb n 0 ≡ b → n ≤ limit → cond b custom (give (known n)) left ≡ Ok (x, rest) → all ≡ uint_bits n ++ left → (a : Choice A) × IsChoice limit IsCustom a × (choice_value known value a ≡ x) × (all ≡ choice_bits bits a ++ rest)
    chosen true n left x rest all zero-is small h front =
        let a = d.takes left x rest h in
        let zero-front : all ≡ uint_bits 0 ++ left = front ∙ ap (λ (m : ℕ). uint_bits m ++ left) (eqb-true n 0 zero-is) in
        (Custom a.0, a.1, a.2, zero-front ∙ ap (λ (l : List Bool). uint_bits 0 ++ l) a.3 ∙ sym (append_assoc (uint_bits 0) (bits a.0) rest))
    chosen false n left x rest all some-is small h front =
        let whole : (known n, left) ≡ (x, rest) = ok_is {E = E} (known n, left) (x, rest) h in
        (Preset n, (is_some n some-is, small), ap (λ (w : X × List Bool). w.0) whole, front ∙ ap (λ (w : X × List Bool). uint_bits n ++ w.1) whole)

    choice_again : (a : Choice A) (rest : List Bool) → IsChoice limit IsCustom a → (first >>= λ index. cond (eqb index 0) custom (give (known index))) (choice_bits bits a ++ rest) ≡ Ok (choice_value known value a, rest)
    choice_again (Preset n) rest ok = ap (λ (r : Result (ℕ × List Bool) E). and_then r (λ read. cond (eqb read.0 0) custom (give (known read.0)) read.1)) (c.again n rest ok.1) ∙ ap (λ (b : Bool). cond b custom (give (known n)) rest) (not_zero n ok.0)
    choice_again (Custom a) rest ok =
        let regrouped : (uint_bits 0 ++ bits a) ++ rest ≡ uint_bits 0 ++ (bits a ++ rest) = append_assoc (uint_bits 0) (bits a) rest in
        ap (first >>= λ index. cond (eqb index 0) custom (give (known index))) regrouped ∙ ap (λ (r : Result (ℕ × List Bool) E). and_then r (λ read. cond (eqb read.0 0) custom (give (known read.0)) read.1)) (c.again 0 (bits a ++ rest) (omega arith)) ∙ d.again a rest ok

-- ---- parts

pair_is : IsCodec (header_number >>= λ first. header_number >>= λ second. give (first, second)) pair_bits (λ p. p) ArePair
pair_is = retold pair_bits (λ (p : ℕ × ℕ). p) ArePair (λ (a : ℕ × (ℕ × Unit {0})). (a.0, a.1.0)) (λ (p : ℕ × ℕ). (p.0, (p.1, tt)))
    (λ a ok. ((ok.0, ok.1.0), refl, refl))
    (λ p ok. ((ok.0, (ok.1, tt)), refl, refl))
    (then_codec number_is (λ (first : ℕ). then_codec number_is (λ (second : ℕ). give_codec (first, second))))

size_is : (base : BaseFormat) → IsCodec (frame_size base) (flagged_bits pair_bits) (λ a. unwrap_or a (base.width, base.height)) (λ a. IfSome a ArePair)
unfolding frame_size
size_is base = plain_flag_codec refusals.Short (base.width, base.height) pair_is

sampling_again : (s : Sampling) → (sampling_index s ≤ 2) × (sampling_by_index (sampling_index s) ≡ s) × (uint_bits (sampling_index s) ≡ uint_bits (sampling_index s))
sampling_again S444 = (lit≤ tt, refl, refl)
sampling_again S422 = (lit≤ tt, refl, refl)
sampling_again S420 = (lit≤ tt, refl, refl)

index_of_sampling : (n : ℕ) → n ≤ 2 → n ≡ sampling_index (sampling_by_index n)
index_of_sampling zero small = refl
index_of_sampling (suc zero) small = refl
index_of_sampling (suc (suc zero)) small = refl
index_of_sampling (suc (suc (suc n))) small = absurd (omega arith)

sampling_is : (base : BaseFormat) → IsCodec (colour_difference_sampling base) (flagged_bits (λ s. uint_bits (sampling_index s))) (λ a. unwrap_or a base.sampling) (λ a. IfSome a (λ s. Unit {0}))
unfolding colour_difference_sampling
sampling_is base = plain_flag_codec refusals.Short base.sampling
    (retold (λ s. uint_bits (sampling_index s)) (λ (s : Sampling). s) (λ s. Unit {0}) sampling_by_index sampling_index
    (λ n ok. (tt, refl, ap uint_bits (index_of_sampling n ok)))
    (λ s ok. sampling_again s)
    (mapped_codec sampling_by_index (index_is 2 refusals.SamplingIndex (lit≤ tt))))

bit_again : (b : Bool) → (digit_of b ≤ 1) × (eqb (digit_of b) 1 ≡ b) × (uint_bits (digit_of b) ≡ uint_bits (digit_of b))
bit_again true = (lit≤ tt, refl, refl)
bit_again false = (lit≤ tt, refl, refl)

digit_of_bit : (n : ℕ) → n ≤ 1 → n ≡ digit_of (eqb n 1)
digit_of_bit zero small = refl
digit_of_bit (suc zero) small = refl
digit_of_bit (suc (suc n)) small = absurd (omega arith)

-- an index of 0 or 1
bit_is : (refusal : HeaderRefusal) → IsCodec (index 1 refusal >>= λ n. give (eqb n 1)) (λ b. uint_bits (digit_of b)) (λ b. b) (λ b. Unit {0})
bit_is refusal = retold (λ b. uint_bits (digit_of b)) (λ (b : Bool). b) (λ b. Unit {0}) (λ (n : ℕ). eqb n 1) digit_of
    (λ n ok. (tt, refl, ap uint_bits (digit_of_bit n ok)))
    (λ b ok. bit_again b)
    (mapped_codec (λ n. eqb n 1) (index_is 1 refusal (lit≤ tt)))

scan_is : (base : BaseFormat) → IsCodec (scan_format base) (flagged_bits (λ b. uint_bits (digit_of b))) (λ a. unwrap_or a base.interlaced) (λ a. IfSome a (λ b. Unit {0}))
unfolding scan_format
scan_is base = plain_flag_codec refusals.Short base.interlaced (bit_is refusals.ScanIndex)

choice_same : {A : Type 0} (c : Choice A) → c ≡ choice_value Preset Custom c
choice_same (Preset index) = refl
choice_same (Custom a) = refl

-- an index, or what is coded in its place, as they stand
choice_is : {A : Type 0} {custom : HeaderField (Choice A)} {bits : A → List Bool} {IsCustom : A → Type 0} → IsCodec custom bits (λ a. Custom a) IsCustom
    → IsCodec (header_number >>= λ index. cond (eqb index 0) custom (give (Preset index))) (choice_bits bits) (λ c. c) (IsChoice (2 ^ 32 - 1) IsCustom)
choice_is {A = A} {bits = bits} {IsCustom = IsCustom} c = retold (choice_bits bits) (λ (c : Choice A). c) (IsChoice (2 ^ 32 - 1) IsCustom) (λ (c : Choice A). c) (λ (c : Choice A). c)
    (λ a ok. (ok, choice_same a, refl))
    (λ a ok. (ok, sym (choice_same a), refl))
    (choice_codec (2 ^ 32 - 1) (λ (n : ℕ). Preset n) number_is c)

ratio_is : (default : Choice (ℕ × ℕ)) → IsCodec (ratio default) (flagged_bits (choice_bits pair_bits)) (λ a. unwrap_or a default) (λ a. IfSome a (IsChoice (2 ^ 32 - 1) ArePair))
unfolding ratio
ratio_is default = plain_flag_codec refusals.Short default (choice_is
    (retold {X = Choice (ℕ × ℕ)} pair_bits (λ (p : ℕ × ℕ). Custom p) ArePair (λ (a : ℕ × (ℕ × Unit {0})). (a.0, a.1.0)) (λ (p : ℕ × ℕ). (p.0, (p.1, tt)))
    (λ a ok. ((ok.0, ok.1.0), refl, refl))
    (λ p ok. ((ok.0, (ok.1, tt)), refl, refl))
    (then_codec number_is (λ (numerator : ℕ). then_codec number_is (λ (denominator : ℕ). give_codec {X = Choice (ℕ × ℕ)} (Custom (numerator, denominator)))))))

area_is : (default : CleanArea) → IsCodec (clean_area default) (flagged_bits area_bits) (λ a. unwrap_or a default) (λ a. IfSome a IsArea)
unfolding clean_area
area_is default = plain_flag_codec refusals.Short default (retold area_bits (λ (a : CleanArea). a) IsArea (λ (a : ℕ × (ℕ × (ℕ × (ℕ × Unit {0})))). area a.0 a.1.0 a.1.1.0 a.1.1.1.0) (λ (a : CleanArea). (a.width, (a.height, (a.left, (a.top, tt)))))
    (λ a ok. (record { width = ok.0; height = ok.1.0; left = ok.1.1.0; top = ok.1.1.1.0 }, refl, refl))
    (λ a ok. ((ok.width, (ok.height, (ok.left, (ok.top, tt)))), refl, refl))
    (then_codec number_is (λ (width : ℕ). then_codec number_is (λ (height : ℕ). then_codec number_is (λ (left : ℕ). then_codec number_is (λ (top : ℕ). give_codec (area width height left top)))))))

excursion_is_number : (n : ℕ) → IsTrue (excursion_fits n) → IsNumber n
excursion_is_number n fits = grind (arith, nat_tests)

excursion_is : IsCodec excursion uint_bits (λ n. n) (λ n. IsTrue (excursion_fits n))
unfolding excursion
excursion_is = retold uint_bits (λ n. n) (λ n. IsTrue (excursion_fits n)) (λ (n : ℕ). n) (λ (n : ℕ). n)
    (λ n ok. (ok.1, refl, refl))
    (λ n ok. ((excursion_is_number n ok, ok), refl, refl))
    (tested_codec excursion_fits refusals.SignalRange number_is)

custom_range_is : IsCodec custom_signal_range range_bits (λ r. r) IsRange
unfolding custom_signal_range
custom_range_is = retold range_bits (λ (r : SignalRange). r) IsRange (λ (a : ℕ × (ℕ × (ℕ × (ℕ × Unit {0})))). signal_range a.0 a.1.0 a.1.1.0 a.1.1.1.0) (λ (r : SignalRange). (r.luma_offset, (r.luma_excursion, (r.colour_offset, (r.colour_excursion, tt)))))
    (λ a ok. (record { luma_offset = ok.0; luma_excursion = ok.1.0; colour_offset = ok.1.1.0; colour_excursion = ok.1.1.1.0 }, refl, refl))
    (λ r ok. ((ok.luma_offset, (ok.luma_excursion, (ok.colour_offset, (ok.colour_excursion, tt)))), refl, refl))
    (then_codec number_is (λ (luma_offset : ℕ). then_codec excursion_is (λ (luma_excursion : ℕ). then_codec number_is (λ (colour_offset : ℕ). then_codec excursion_is (λ (colour_excursion : ℕ). give_codec (signal_range luma_offset luma_excursion colour_offset colour_excursion))))))

range_is : (base : BaseFormat) → IsCodec (signal_range_of base) (flagged_bits (choice_bits range_bits)) (flagged_value (range_of base.range) chosen_range) (λ a. IfSome a (IsChoice 4 IsRange))
unfolding signal_range_of
range_is base = behind_flag_codec refusals.Short (range_of base.range) (retold (choice_bits range_bits) chosen_range (IsChoice 4 IsRange) (λ (c : Choice SignalRange). c) (λ (c : Choice SignalRange). c)
    (λ c ok. (ok, range_same c, refl))
    (λ c ok. (ok, sym (range_same c), refl))
    (choice_codec 4 range_of (index_is 4 refusals.SignalRange (lit≤ tt)) custom_range_is))
  where
    range_same : (c : Choice SignalRange) → chosen_range c ≡ choice_value range_of (λ r. r) c
    range_same (Preset index) = refl
    range_same (Custom r) = refl

colour_part_is : IsCodec colour_part (flagged_bits uint_bits) (λ a. a) (λ a. IfSome a IsNumber)
unfolding colour_part
colour_part_is = retold (flagged_bits uint_bits) (λ (a : Option ℕ). a) (λ a. IfSome a IsNumber) (λ (a : Option ℕ). a) (λ (a : Option ℕ). a)
    (λ a ok. (ok, same a, refl))
    (λ a ok. (ok, sym (same a), refl))
    (behind_flag_codec refusals.Short None (mapped_codec Some number_is))
  where
    same : (a : Option ℕ) → a ≡ flagged_value None Some a
    same None = refl
    same (Some n) = refl

abbrev parts_colour : Option ℕ → Option ℕ → Option ℕ → Colour
parts_colour primaries matrix transfer = record { primaries = primaries; matrix = matrix; transfer = transfer }

colour_is : (default : Choice Colour) → IsCodec (colour_specification default) (flagged_bits (choice_bits colour_bits)) (λ a. unwrap_or a default) (λ a. IfSome a (IsChoice (2 ^ 32 - 1) IsColour))
unfolding colour_specification
colour_is default = plain_flag_codec refusals.Short default (choice_is
    (retold {X = Choice Colour} colour_bits (λ (c : Colour). Custom c) IsColour (λ (a : Option ℕ × (Option ℕ × (Option ℕ × Unit {0}))). parts_colour a.0 a.1.0 a.1.1.0) (λ (c : Colour). (c.primaries, (c.matrix, (c.transfer, tt))))
    (λ a ok. (record { primaries = ok.0; matrix = ok.1.0; transfer = ok.1.1.0 }, refl, refl))
    (λ c ok. ((ok.primaries, (ok.matrix, (ok.transfer, tt))), refl, refl))
    (then_codec colour_part_is (λ (primaries : Option ℕ). then_codec colour_part_is (λ (matrix : Option ℕ). then_codec colour_part_is (λ (transfer : Option ℕ). give_codec {X = Choice Colour} (Custom (parts_colour primaries matrix transfer))))))))

mode_is : IsCodec picture_coding_mode (λ b. uint_bits (digit_of b)) (λ b. b) (λ b. Unit {0})
unfolding picture_coding_mode
mode_is = bit_is refusals.CodingMode

-- ---- the whole header

abbrev Parts : Type 0
Parts = ℕ × (ℕ × (Unit {0} × (ℕ × (ℕ × (Option (ℕ × ℕ) × (Option Sampling × (Option Bool × (Option (Choice (ℕ × ℕ)) × (Option (Choice (ℕ × ℕ)) × (Option CleanArea × (Option (Choice SignalRange) × (Option (Choice Colour) × (Bool × Unit {0})))))))))))))

abbrev parts_told : Parts → HeaderSpelling
parts_told a = record { major = a.0; minor = a.1.0; level = a.1.1.1.0; base = a.1.1.1.1.0; size = a.1.1.1.1.1.0; sampling = a.1.1.1.1.1.1.0; interlaced = a.1.1.1.1.1.1.1.0; frame_rate = a.1.1.1.1.1.1.1.1.0; aspect_ratio = a.1.1.1.1.1.1.1.1.1.0; clean_area = a.1.1.1.1.1.1.1.1.1.1.0; range = a.1.1.1.1.1.1.1.1.1.1.1.0; colour = a.1.1.1.1.1.1.1.1.1.1.1.1.0; fields = a.1.1.1.1.1.1.1.1.1.1.1.1.1.0 }

abbrev parts_of : HeaderSpelling → Parts
parts_of s = (s.major, (s.minor, (tt, (s.level, (s.base, (s.size, (s.sampling, (s.interlaced, (s.frame_rate, (s.aspect_ratio, (s.clean_area, (s.range, (s.colour, (s.fields, tt))))))))))))))

anything : {A : Type 0} (o : Option A) → IfSome o (λ x. Unit {0})
anything None = tt
anything (Some x) = tt

-- What is read is spelled so, and what is spelled so is read, whatever follows.
pub whole_is_of : (p : ℕ) → IsNumber p
    → IsCodec (whole_header_of p) (header_bits_of p) spelled_whole (IsHeaderOf p)
unfolding whole_header_of
whole_is_of p number = retold (header_bits_of p) spelled_whole (IsHeaderOf p) parts_told parts_of
    (λ a ok. (record { major = ok.0; minor = ok.1.0; level = ok.1.1.1.0; base = ok.1.1.1.1.0; size = ok.1.1.1.1.1.0; frame_rate = ok.1.1.1.1.1.1.1.1.0; aspect_ratio = ok.1.1.1.1.1.1.1.1.1.0; clean_area = ok.1.1.1.1.1.1.1.1.1.1.0; range = ok.1.1.1.1.1.1.1.1.1.1.1.0; colour = ok.1.1.1.1.1.1.1.1.1.1.1.1.0; dimensions = ok.1.1.1.1.1.1.1.1.1.1.1.1.1.1 }, refl, refl))
    (λ s ok. ((ok.major, (ok.minor, (tt, (ok.level, (ok.base, (ok.size, (anything s.sampling, (anything s.interlaced, (ok.frame_rate, (ok.aspect_ratio, (ok.clean_area, (ok.range, (ok.colour, (tt, ok.dimensions)))))))))))))), refl, refl))
    (then_codec (major_is p) (λ (major : ℕ).
    then_codec number_is (λ (minor : ℕ).
    then_codec (profile_is p number) (λ (same_profile : ℕ).
    then_codec number_is (λ (level : ℕ).
    then_codec base_is (λ (base : ℕ).
    then_codec (size_is (format_of base)) (λ (size : ℕ × ℕ).
    then_codec (sampling_is (format_of base)) (λ (sampling : Sampling).
    then_codec (scan_is (format_of base)) (λ (interlaced : Bool).
    then_codec (ratio_is (presentation_of base).frame_rate) (λ (frame_rate : Choice (ℕ × ℕ)).
    then_codec (ratio_is (presentation_of base).aspect_ratio) (λ (aspect_ratio : Choice (ℕ × ℕ)).
    then_codec (area_is (presentation_of base).clean_area) (λ (clean_area : CleanArea).
    then_codec (range_is (format_of base)) (λ (range : SignalRange).
    then_codec (colour_is (presentation_of base).colour) (λ (colour : Choice Colour).
    then_codec mode_is (λ (fields : Bool).
    give_if_codec {X = Sequence × Presentation} (dimensions_fit size.0 size.1 sampling fields) (
      record {
        major = major;
        minor = minor;
        level = level;
        base = base;
        width = size.0;
        height = size.1;
        sampling = sampling;
        interlaced = interlaced;
        top_first = (format_of base).top_first;
        range = range;
        fields = fields;
      },
      record {
        frame_rate = frame_rate;
        aspect_ratio = aspect_ratio;
        clean_area = clean_area;
        colour = colour;
      },
    ) refusals.Dimensions)))))))))))))))

pub header_is_of : (p : ℕ) → IsNumber p
    → IsCodec (sequence_header_of p) (header_bits_of p) spelled_header (IsHeaderOf p)
unfolding sequence_header_of
header_is_of p number = mapped_codec {X = Sequence × Presentation} (λ read. read.0) (whole_is_of p number)

pub header_is : IsCodec sequence_header header_bits spelled_header IsHeader
header_is = header_is_of 3 (lit≤ tt)
