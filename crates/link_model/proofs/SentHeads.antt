-- The sequence header and the transform parameters that are sent are read again.
use Rattle.std.proofs.Common.{◌≡◌, ◌≤◌, ◌∙◌, ap, ℕ, zero, suc, Bool, true, cond, List, [], ◌++◌, length, replicate, false, lit≤, ◌-◌, ◌%◌, Option, Some, None, Ok, refl, arith, IsTrue, unwrap_or, nat_le, ◌&&◌}
use Rattle.link_model.specs.SendingPictures.{sent_sequence, sent_header, sent_presentation, shown_presentation, sent_parameters, sent_parameter_bytes}
use Rattle.vc_types.specs.declared.settings.SendSettings.{SendSettings}
use Rattle.vc_types.specs.declared.settings.Told.{Told}
use Rattle.vc_types.specs.Presentations.{nothing_coded, told_fits, told_presentation}
use Rattle.vc_types.specs.Video.{side_fits, sampling_fits}
use Rattle.std.specs.Option.{option_map_or}
use Rattle.std.proofs.lemmas.Bool.{and_parts}
use Rattle.vc_types.specs.Limits.{matrix_fits, slice_bytes_fit, padded_luma_fits}
use Rattle.vc_types.specs.HeaderSpelling.{HeaderSpelling, IsEncoderHeader, IsPresentation, header_bits, encoder_header_with}
use Rattle.vc_types.specs.ParameterSpelling.{parameter_bits, encoder_parameters}
use Rattle.vc_types.specs.Quantisation.{default_matrix}
use Rattle.vc_types.specs.SenderSettings.{Sending, sending_view}
use Rattle.vc_types.specs.SequenceHeader.{Sequence, coded_header, coded_whole_header_of, high_quality_profile, picture_shape}
use Rattle.vc_types.specs.TransformParameters.{coded_parameters, same_across, default_of}
use Rattle.vc_types.proofs.MatrixEnds.{default_filled}
use Rattle.link_model.proofs.PackedBits.{bits_of-filled}
use Rattle.vc_types.proofs.PictureShapes.{side_is}
use Rattle.vc_types.proofs.ToldPresentations.{is_coded}
use Rattle.vc_types.proofs.CodedBytes.{read_again}
use Rattle.vc_types.proofs.HeaderCodecs.{whole_is_of}
use Rattle.vc_types.proofs.WrittenHeaders.{filled_less, header_with_again, is_accepted, nothing_accepted, stands_for_it}
use Rattle.vc_types.proofs.WrittenParameters.{IsPlan, parameters_again}

-- the default matrix of each wavelet at each depth
record HasDefault (wavelet depth : ℕ) : Type 0 where
  some : default_matrix wavelet depth ≡ Some (unwrap_or (default_matrix wavelet depth) [])
  small : matrix_fits (unwrap_or (default_matrix wavelet depth) []) ≡ true

has_default : (wavelet depth : ℕ) → wavelet ≤ 6 → 1 ≤ depth → depth ≤ 4 → HasDefault wavelet depth
unfolding default_matrix
has_default (suc (suc (suc (suc (suc (suc (suc wavelet))))))) depth known some few = absurd (omega arith)
has_default wavelet zero known some few = absurd (omega arith)
has_default wavelet (suc (suc (suc (suc (suc depth))))) known some few = absurd (omega arith)
has_default wavelet depth known some few = record { some = refl; small = refl }

symmetric : (wavelet : ℕ) → same_across wavelet (wavelet, 0) ≡ true
symmetric wavelet = grind arith

pub by_symmetry : (wavelet depth : ℕ) → default_of wavelet depth (wavelet, 0) ≡ default_matrix wavelet depth
by_symmetry wavelet depth = ap (λ (b : Bool). cond b (default_matrix wavelet depth) None) (symmetric wavelet)

pub record IsBetween (low high number : ℕ) : Type 0 where
  pub least : low ≤ number
  pub most : number ≤ high

pub between : (low high number : ℕ) → IsTrue (nat_le low number && nat_le number high) → IsBetween low high number
between low high number fits = grind arith

bytes_fit : (prefix scaler : ℕ) → prefix ≤ 255 → IsTrue (nat_le 1 scaler && nat_le scaler 255) → slice_bytes_fit prefix scaler ≡ true
bytes_fit prefix scaler few some = grind arith

module _ (settings : SendSettings) where
  abbrev s : Sending
  s = sending_view settings

  form : IsEncoderHeader (sent_sequence s)
  unfolding sent_sequence
  form = grind (arith, between)

  -- what is told of how the frames are shown can be coded
  presented_by : (told : Option Told) → option_map_or told_fits told true ≡ true → IsPresentation (option_map_or (told_presentation settings.width settings.height) told nothing_coded)
  presented_by None fits = nothing_accepted
  presented_by (Some t) fits =
      let sides = (and_parts (side_fits settings.width && side_fits settings.height) (sampling_fits settings.width settings.height settings.sampling settings.fields) settings.dimensions).0 in
      let both = and_parts (side_fits settings.width) (side_fits settings.height) sides in
      let across = (side_is settings.width both.0).most in
      let down = (side_is settings.height both.1).most in
      is_coded settings.width settings.height t (omega (arith, across)) (omega (arith, down)) fits

  pub presented : IsPresentation (sent_presentation s)
  unfolding sent_presentation
  presented = presented_by settings.told settings.told_is_known

  -- whatever follows it
  pub coded_header-sent : (behind : List ℕ) → coded_header (sent_header s ++ behind) ≡ Ok (sent_sequence s, length (sent_header s))
  unfolding sent_header sent_sequence
  coded_header-sent behind = header_with_again (sent_presentation s) (sent_sequence s) (sent_header s) behind presented form settings.dimensions (bits_of-filled (header_bits (encoder_header_with (sent_presentation s) (sent_sequence s))))

  abbrev spelling : HeaderSpelling
  spelling = encoder_header_with (sent_presentation s) (sent_sequence s)

  -- with how its frames are shown
  pub coded_whole-sent : (behind : List ℕ) → coded_whole_header_of high_quality_profile (sent_header s ++ behind) ≡ Ok ((sent_sequence s, shown_presentation s), length (sent_header s))
  unfolding sent_header shown_presentation sent_sequence
  coded_whole-sent behind =
      let bits = header_bits spelling in
      let fill = replicate ((8 - length bits % 8) % 8) false in
      let accepted = is_accepted (sent_presentation s) (sent_sequence s) presented form settings.dimensions in
      read_again (sent_header s) behind spelling fill (whole_is_of high_quality_profile (lit≤ tt)) accepted (bits_of-filled bits) (filled_less bits)
      ∙ ap (λ (t : Sequence). Ok ((t, shown_presentation s), length (sent_header s))) (stands_for_it (sent_sequence s) form)

  slice_bytes : slice_bytes_fit settings.prefix settings.scaler ≡ true
  slice_bytes = bytes_fit settings.prefix settings.scaler settings.prefix_fits settings.scaler_fits

  padded_luma : padded_luma_fits (picture_shape (sent_sequence s)) 0 settings.depth ≡ true
  unfolding picture_shape sent_sequence
  padded_luma = grind arith

  pub plan : IsPlan (sent_parameters s)
  unfolding sent_parameters sent_sequence picture_shape
  plan =
      let levels = between 1 4 settings.depth settings.levels in
      let default = has_default settings.wavelet settings.depth settings.wavelet_is_known levels.least levels.most in
      record {
        wavelet = settings.wavelet_is_known;
        wavelet_ho = settings.wavelet_is_known;
        some_levels = levels.least;
        few_levels = omega (arith, levels.most);
        slices = settings.slices;
        slice_bytes = slice_bytes;
        padded_luma = padded_luma;
        values = default.small;
        ends = default_filled settings.wavelet settings.depth (settings.wavelet, 0) (unwrap_or (default_matrix settings.wavelet settings.depth) []) (omega (arith, levels.most)) (by_symmetry settings.wavelet settings.depth ∙ default.some);
      }

  pub coded_parameters-sent : (behind : List ℕ) → coded_parameters (sent_sequence s) (sent_parameter_bytes s ++ behind) ≡ Ok (sent_parameters s, length (sent_parameter_bytes s))
  unfolding sent_parameter_bytes sent_parameters sent_sequence
  coded_parameters-sent behind = parameters_again (sent_sequence s) (sent_parameters s) (sent_parameter_bytes s) behind plan (λ other. refl) refl (bits_of-filled (parameter_bits 3 (encoder_parameters (sent_parameters s))))

pub ruleset laws = (coded_header-sent, coded_whole-sent, coded_parameters-sent)
