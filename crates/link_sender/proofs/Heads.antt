-- The bytes of a picture's sequence header and of its transform parameters.
use Rattle.std.proofs.Common.{◌≡◌, ℕ, ◌+◌, ◌-◌, ◌*◌, ◌%◌, ◌^◌, ◌<◌, ◌≤◌, Bool, true, false, cond, List, [], ◌∷◌, length, Option, Some, None, refl, sym, ap, subst, ◌∙◌, arith, nat_le, ◌&&◌, ◌==◌, replicate}
use Rattle.std.specs.List.{list_all}
use Rattle.std.specs.Prelude.{IfSome}
use Rattle.std.proofs.lemmas.Bool.{and_parts, leb-true}
use Rattle.std.proofs.lemmas.Bool.Decides.{nat_tests}
use Rattle.std.proofs.lemmas.Grind.{common_steps}
use Rattle.std.proofs.lemmas.List.{length-append, length-replicate, length-take}
use Rattle.link_model.specs.SendingPictures.{packed_bits, sent_header, sent_presentation, sent_parameter_bytes, sent_parameters, sent_sequence}
use Rattle.link_model.proofs.PackedBits.{length-packed_bits}
use Rattle.link_model.proofs.SentHeads.{plan, between, presented}
use Rattle.link_sender.proofs.CodedLengths.{uint_short}
use Rattle.vc_types.specs.Bits.{bits_of, digit_of}
use Rattle.vc_types.specs.Codes.{uint_bits}
use Rattle.vc_types.specs.declared.plan.Plan.{Plan}
use Rattle.vc_types.specs.declared.settings.SendSettings.{SendSettings}
use Rattle.vc_types.specs.declared.video.Sampling.{Sampling}
use Rattle.vc_types.specs.declared.video.SignalRange.{SignalRange}
use Rattle.vc_types.specs.Video.{sampling_fits, side_fits}
use Rattle.vc_types.specs.Fields.{filled_up, flagged_bits, joined, pair_bits}
use Rattle.vc_types.specs.HeaderSpelling.{ArePair, IsArea, IsChoice, IsColour, IsEncoderHeader, IsNumber, IsPresentation, area_bits, choice_bits, colour_bits, encoder_base, encoder_header_with, header_bits, preset_of, sampling_index}
use Rattle.vc_types.specs.declared.presentation.Choice.{Choice}
use Rattle.vc_types.specs.declared.presentation.Choice.TheVariants.{Preset, Custom}
use Rattle.vc_types.specs.declared.presentation.CleanArea.{CleanArea}
use Rattle.vc_types.specs.declared.presentation.CodedPresentation.{CodedPresentation}
use Rattle.vc_types.specs.declared.presentation.Colour.{Colour}
use Rattle.vc_types.specs.Limits.{matrix_fits, slice_bytes_fit, slices_fit}
use Rattle.vc_types.specs.ParameterSpelling.{coded_unless, encoder_parameters, numbers_bits, parameter_bits}
use Rattle.vc_types.specs.SenderSettings.{Sending, sending_view}
use Rattle.vc_types.specs.SequenceHeader.{Sequence}
use Rattle.vc_types.specs.TransformParameters.{Parameters, parameters_of}
use Rattle.vc_types.proofs.Matrices.{matrix_fits-take}
use Rattle.vc_types.proofs.WrittenParameters.{IsPlan}

-- ---- the sequence header

encoder_form : (settings : SendSettings) → IsEncoderHeader (sent_sequence (sending_view settings))
unfolding sent_sequence
encoder_form settings = grind (arith, between)

pub is_encoder_header : (settings : SendSettings) (h : Sequence) → h ≡ sent_sequence (sending_view settings) → IsEncoderHeader h
is_encoder_header settings h is = subst (λ (x : Sequence). IsEncoderHeader x) (sym is) (encoder_form settings)

pub header_bytes : (s : Sending) (h : Sequence) (bytes : List ℕ) → h ≡ sent_sequence s → bits_of bytes ≡ filled_up (header_bits (encoder_header_with (sent_presentation s) h)) → packed_bits (bits_of bytes) ≡ sent_header s
unfolding sent_header
header_bytes s h bytes is bits = grind arith

-- ---- the transform parameters

pub parameter_bytes : (s : Sending) (p : Parameters) (bytes : List ℕ) → p ≡ sent_parameters s → bits_of bytes ≡ filled_up (parameter_bits 3 (encoder_parameters p)) → packed_bits (bits_of bytes) ≡ sent_parameter_bytes s
unfolding sent_parameter_bytes
parameter_bytes s p bytes is bits = grind arith

-- ---- which are few

few_bits : (v : ℕ) → v < 2 ^ 16 → length (uint_bits v) ≤ 35
few_bits v small = omega (arith, uint_short 16 v small)

abbrev total : List (List Bool) → ℕ
total [] = 0
total (part ∷ parts) = length part + total parts

joined_length : (parts : List (List Bool)) → length (joined parts) ≡ total parts
joined_length [] = refl
joined_length (part ∷ parts) = length-append part (joined parts) ∙ ap (λ n. length part + n) (joined_length parts)

unless_bits : (number default : ℕ) → number < 2 ^ 16 → length (flagged_bits uint_bits (coded_unless number default)) ≤ 36
unless_bits number default small = grind (arith, few_bits)

values_bits : (values : List ℕ) → matrix_fits values ≡ true → length (numbers_bits values) ≤ 35 * length values
values_bits [] fits = omega arith
values_bits (value ∷ values) fits =
    let both = and_parts (nat_le value 127) (list_all (λ v. nat_le v 127) values) fits in
    let small = leb-true value 127 both.0 in
    let first = few_bits value (omega (arith, small)) in
    let rest = values_bits values both.1 in
    let all = length-append (uint_bits value) (numbers_bits values) in
    omega (arith, first, rest, all)

matrix_bits : (b : Bool) (values : List ℕ) → matrix_fits values ≡ true → length values ≤ 16 → length (flagged_bits numbers_bits (cond b None (Some values))) ≤ 561
matrix_bits true values fits few = omega arith
matrix_bits false values fits few = let bits = values_bits values fits in omega (arith, bits, few)

-- numbers of 16 bits and a matrix of 16 values
pub record AreSmall (p : Parameters) : Type 0 where
  pub wavelet : p.wavelet < 2 ^ 16
  pub wavelet_ho : p.wavelet_ho < 2 ^ 16
  pub depth : p.depth < 2 ^ 16
  pub depth_ho : p.depth_ho < 2 ^ 16
  pub levels : p.depth_ho + 3 * p.depth ≤ 15
  pub across : p.slices_x < 2 ^ 16
  pub down : p.slices_y < 2 ^ 16
  pub prefix : p.prefix < 2 ^ 16
  pub scaler : p.scaler < 2 ^ 16
  pub matrix : matrix_fits p.matrix ≡ true

pub few_parameter_bits : (p : Parameters) → AreSmall p → length (parameter_bits 3 (encoder_parameters p)) ≤ 2000
few_parameter_bits p small =
    grind (
      arith,
      common_steps,
      few_bits,
      joined_length,
      length-take,
      matrix_bits,
      matrix_fits-take,
      unless_bits,
    )

filled_length : (bits : List Bool) → length (filled_up bits) ≡ length bits + (8 - length bits % 8) % 8
filled_length bits = length-append bits (replicate ((8 - length bits % 8) % 8) false) ∙ ap (λ n. length bits + n) (length-replicate ((8 - length bits % 8) % 8) false)

pub few_packed : (bits : List Bool) → length bits ≤ 2000 → length (packed_bits (filled_up bits)) ≤ 1000
few_packed bits few = grind (arith, filled_length, length-packed_bits)

pub slices_small : (across down : ℕ) → slices_fit across down ≡ true → (across < 2 ^ 16) × (down < 2 ^ 16)
slices_small across down fits = (grind (arith, nat_tests), grind (arith, nat_tests))

pub slice_bytes_small : (prefix scaler : ℕ) → slice_bytes_fit prefix scaler ≡ true → (prefix < 2 ^ 16) × (scaler < 2 ^ 16)
slice_bytes_small prefix scaler fits = (grind (arith, nat_tests), grind (arith, nat_tests))

plan_small : (plan : Plan) → AreSmall (parameters_of plan)
plan_small plan = grind (arith, plan, slice_bytes_small, slices_small)

pub short_parameters : (s : Sending) (plan : Plan) → parameters_of plan ≡ sent_parameters s → length (sent_parameter_bytes s) ≤ 1000
unfolding sent_parameter_bytes
short_parameters s plan is = grind (arith, few_packed, few_parameter_bits, plan, plan_small)

planned_small : (p : Parameters) → IsPlan p → AreSmall p
planned_small p plan = grind (arith, plan, slice_bytes_small, slices_small)

-- the same of settings
pub short_parameters_of : (settings : SendSettings) → length (sent_parameter_bytes (sending_view settings)) ≤ 1000
unfolding sent_parameter_bytes
short_parameters_of settings = grind (arith, few_packed, few_parameter_bits, plan, planned_small)

-- ---- and so are those of the sequence header

base_small : (b : Bool) → encoder_base b < 2 ^ 16
base_small true = omega arith
base_small false = omega arith

sampling_small : (sampling : Sampling) → sampling_index sampling < 2 ^ 16
sampling_small sampling = grind arith

digit_small : (b : Bool) → digit_of b < 2 ^ 16
digit_small true = omega arith
digit_small false = omega arith

one_of_four : (a b c : Bool) → cond a 1 (cond b 2 (cond c 3 4)) < 2 ^ 16
one_of_four a b c = grind arith

preset_small : (range : SignalRange) → preset_of range < 2 ^ 16
preset_small range = one_of_four (range.luma_excursion == 255) (range.luma_excursion == 219) (range.luma_excursion == 876)

number_few : (n : ℕ) → IsNumber n → length (uint_bits n) ≤ 67
number_few n fits = omega (arith, uint_short 32 n (omega (arith, fits)))

-- the index in front of what is coded in place of a preset
zero_few : length (uint_bits 0) ≤ 1
zero_few = uint_short 0 0 (omega arith)

ratio_few : (r : Option (Choice (ℕ × ℕ))) → IfSome r (IsChoice (2 ^ 32 - 1) ArePair) → length (flagged_bits (choice_bits pair_bits) r) ≤ 140
ratio_few None fits = omega arith
ratio_few (Some (Preset index)) fits = omega (arith, number_few index fits.1)
ratio_few (Some (Custom p)) fits =
    let all = length-append (uint_bits 0) (pair_bits p) in
    let parts = joined_length (uint_bits p.0 ∷ uint_bits p.1 ∷ []) in
    omega (arith, all, parts, zero_few, number_few p.0 fits.0, number_few p.1 fits.1)

area_few : (a : Option CleanArea) → IfSome a IsArea → length (flagged_bits area_bits a) ≤ 280
area_few None fits = omega arith
area_few (Some a) fits = omega (arith, joined_length (uint_bits a.width ∷ uint_bits a.height ∷ uint_bits a.left ∷ uint_bits a.top ∷ []), number_few a.width fits.width, number_few a.height fits.height, number_few a.left fits.left, number_few a.top fits.top)

part_few : (n : Option ℕ) → IfSome n IsNumber → length (flagged_bits uint_bits n) ≤ 68
part_few None fits = omega arith
part_few (Some n) fits = omega (arith, number_few n fits)

colour_few : (c : Option (Choice Colour)) → IfSome c (IsChoice (2 ^ 32 - 1) IsColour) → length (flagged_bits (choice_bits colour_bits) c) ≤ 210
colour_few None fits = omega arith
colour_few (Some (Preset index)) fits = omega (arith, number_few index fits.1)
colour_few (Some (Custom c)) fits =
    let all = length-append (uint_bits 0) (colour_bits c) in
    let parts = joined_length
    (flagged_bits uint_bits c.primaries ∷ flagged_bits uint_bits c.matrix ∷ flagged_bits uint_bits c.transfer ∷ []) in
    omega (
      arith,
      all,
      parts,
      zero_few,
      part_few c.primaries fits.primaries,
      part_few c.matrix fits.matrix,
      part_few c.transfer fits.transfer,
    )

few_header_bits : (c : CodedPresentation) (h : Sequence) → IsPresentation c → h.width < 2 ^ 16 → h.height < 2 ^ 16 → length (header_bits (encoder_header_with c h)) ≤ 2000
few_header_bits c h coded across down =
    let rate = ratio_few c.frame_rate coded.frame_rate in
    let aspect = ratio_few c.aspect_ratio coded.aspect_ratio in
    let area = area_few c.clean_area coded.clean_area in
    let colour = colour_few c.colour coded.colour in
    grind (
      arith,
      common_steps,
      rate,
      aspect,
      area,
      colour,
      base_small,
      digit_small,
      few_bits,
      joined_length,
      preset_small,
      sampling_small,
    )

side_small : (side : ℕ) → side_fits side ≡ true → side < 2 ^ 16
side_small side fits = grind (arith, nat_tests)

pub short_header : (settings : SendSettings) → length (sent_header (sending_view settings)) ≤ 1000
unfolding sent_header sent_sequence
short_header settings =
    let sides = (and_parts (side_fits settings.width && side_fits settings.height) (sampling_fits settings.width settings.height settings.sampling settings.fields) settings.dimensions).0 in
    let both = and_parts (side_fits settings.width) (side_fits settings.height) sides in
    few_packed (header_bits (encoder_header_with (sent_presentation (sending_view settings)) (sent_sequence (sending_view settings)))) (few_header_bits (sent_presentation (sending_view settings)) (sent_sequence (sending_view settings)) (presented settings) (side_small settings.width both.0) (side_small settings.height both.1))
