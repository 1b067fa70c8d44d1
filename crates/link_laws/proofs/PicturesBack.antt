-- A picture without a fault, sent at index 0, decodes to its planes.
use Rattle.std.proofs.Common.{◌≡◌, ◌<◌, ◌≤◌, ℕ, ◌+◌, ◌*◌, ◌^◌, true, false, List, [], ◌++◌, length, take, get_or, Some, None, sym, ap, subst, ◌∙◌, arith, IsTrue, slice_get, nat_le, ◌&&◌, pow_pos, append-nil, get_or-take}
use Rattle.std.proofs.lemmas.Bool.{and_parts, leb-true}
use Rattle.std.proofs.lemmas.Grind.{common_steps}
use Rattle.std.proofs.lemmas.List.FromFn.{get_or-enumerate_from, length-enumerate_from}
use Rattle.std.proofs.lemmas.Option.{get_or_from_slice_get}
use Rattle.link_laws.specs.FramesToSend.{IsPictureToSend}
use Rattle.link_laws.proofs.FittingRuns.{scaler_is_some, all_slices}
use Rattle.link_sender.proofs.SentFrames.{unmapped}
use Rattle.link_laws.proofs.SentStream.{neither, all_inside, none_too_large, not_too_long, length-sent_slices}
use Rattle.link_laws.proofs.SentPictures.{IsSendable, decoded_planes-sent, sent_slices-zero, slices_at_zero}
use Rattle.link_model.specs.SendingFaults.{first_outside, first_sample_fault, is_too_large}
use Rattle.link_model.specs.SendingPictures.{sent_sequence, sent_parameters, sent_parameter_bytes, sent_coefficients, sent_slices, slices_with_indices, plane_in}
use Rattle.link_model.proofs.SentHeads.{coded_parameters-sent, plan}
use Rattle.vc_types.specs.declared.settings.SendSettings.{SendSettings}
use Rattle.vc_types.specs.declared.video.Component.{Component}
use Rattle.vc_types.specs.Encoding.{is_too_long}
use Rattle.vc_types.specs.Fields.{joined}
use Rattle.vc_types.specs.Planes.{Planes, decoded_planes}
use Rattle.vc_types.specs.Rasters.{sample_at}
use Rattle.vc_types.specs.SenderSettings.{Sending, sending_view}
use Rattle.vc_types.specs.SequenceHeader.{picture_shape}
use Rattle.vc_types.specs.Subbands.{slice_count, plane_depth}
use Rattle.vc_types.specs.TransformParameters.{Parameters, is_symmetric}
use Rattle.vc_types.specs.Video.{range_of, video_depth}
use Rattle.vc_types.proofs.SliceCounts.{some_across, some_down}

record HasBits (depth : ℕ) : Type 0 where
  some : 1 ≤ depth
  few : depth ≤ 16

luma_bits : (range : ℕ) → 1 ≤ range → range ≤ 4 → HasBits (video_depth (range_of range).luma_excursion)
unfolding range_of video_depth
luma_bits range low high = grind (arith, common_steps)

colour_bits : (range : ℕ) → 1 ≤ range → range ≤ 4 → HasBits (video_depth (range_of range).colour_excursion)
unfolding range_of video_depth
colour_bits range low high = grind (arith, common_steps)

record IsRange (range : ℕ) : Type 0 where
  low : 1 ≤ range
  high : range ≤ 4

range_between : (range : ℕ) → (nat_le 1 range && nat_le range 4) ≡ true → IsRange range
range_between range known = (let both = and_parts (nat_le 1 range) (nat_le range 4) known in record { low = leb-true 1 range both.0; high = leb-true range 4 both.1 })

module _ (settings : SendSettings) (planes : Planes) (indices : List ℕ) (is : IsPictureToSend (sending_view settings) indices planes) (zeros : (k : ℕ) → k < slice_count (sent_parameters (sending_view settings)) → slice_get indices k ≡ Some 0) where
  abbrev s : Sending
  s = sending_view settings

  abbrev p : Parameters
  p = sent_parameters s

  abbrev depth : Component → ℕ
  depth c = plane_depth p.shape c

  bits : (c : Component) → HasBits (plane_depth (sent_parameters (sending_view settings)).shape c)
  unfolding sent_parameters sent_sequence picture_shape
  bits c = grind (arith, colour_bits, luma_bits, range_between)

  sound : (c : Component) → first_outside (2 ^ depth c) 0 (plane_in planes c).samples ≡ None
  unfolding first_sample_fault
  sound c = grind (arith, unmapped, neither)

  inside : (c : Component) (x y : ℕ) → sample_at (plane_in planes c) x y < 2 ^ depth c
  unfolding sample_at
  inside c x y = all_inside (2 ^ depth c) 0 (plane_in planes c).samples (pow_pos (depth c)) (sound c) (y * (plane_in planes c).width + x)

  many : length (slices_with_indices p indices) ≡ slice_count p
  many = length-enumerate_from 0 (take (slice_count p) indices) ∙ sym (length-sent_slices s planes indices) ∙ all_slices settings planes indices is.slices zeros

  fits : (n : ℕ) → n < slice_count p → is_too_long p n 0 (sent_coefficients p planes n) ≡ false
  fits n below =
      let enough : n < length (take (slice_count p) indices) = omega (arith, below, many, length-enumerate_from 0 (take (slice_count p) indices)) in
      let at : get_or (slices_with_indices p indices) n (0, 0) ≡ (0 + n, get_or (take (slice_count p) indices) n 0) = get_or-enumerate_from 0 (take (slice_count p) indices) n (0, 0) enough in
      let none_above : get_or (take (slice_count p) indices) n 0 ≡ 0 = get_or-take (slice_count p) indices n 0 below ∙ get_or_from_slice_get indices n 0 0 (zeros n below) in
      let number : 0 + n ≡ n = omega arith in
      let small = none_too_large s planes (slices_with_indices p indices) is.slices n (0, 0) (omega (arith, below, many)) in
      let here : is_too_large s planes (0 + n) (get_or (take (slice_count p) indices) n 0) ≡ false = subst (λ (z : ℕ × ℕ). is_too_large s planes z.0 z.1 ≡ false) at small in
      not_too_long s planes n 0 (sym (λ i. is_too_large s planes (number i) (none_above i)) ∙ here)

  down : 0 < (sent_parameters (sending_view settings)).slices_y
  unfolding sent_parameters
  down = some_down settings.slices_x settings.slices_y settings.slices

  few_levels : p.depth ≤ 5
  few_levels = (let levels = (plan settings).few_levels in omega (arith, levels))

  symmetric : IsTrue (is_symmetric (sent_parameters (sending_view settings)))
  unfolding sent_parameters
  symmetric = grind arith

  is_sendable : IsSendable p planes
  unfolding sent_parameters
  is_sendable = grind (arith, bits, down, few_levels, fits, inside, scaler_is_some, symmetric, some_across)

  -- its whole bytes decode to its planes
  pub picture_back : decoded_planes (sent_sequence s) (sent_parameter_bytes s ++ joined (sent_slices p planes indices)) ≡ Some planes
  picture_back =
      ap (λ (l : List ℕ). decoded_planes (sent_sequence s) (sent_parameter_bytes s ++ l)) (ap joined (sent_slices-zero p planes is_sendable indices zeros) ∙ sym (append-nil (joined (slices_at_zero p planes is_sendable))))
      ∙ decoded_planes-sent p planes is_sendable (sent_sequence s) (sent_parameter_bytes s) [] (coded_parameters-sent settings)
