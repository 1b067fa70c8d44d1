-- Generated frames have no sample that is too large.
use Rattle.std.proofs.Common.{◌≡◌, ◌≤◌, ℕ, ◌^◌, Bool, true, false, List, [], ◌∷◌, Option, Some, None, refl, sym, ap, ◌∙◌, arith}
use Rattle.std.specs.Prelude.{IsTrue, drop, if◌then◌else◌}
use Rattle.std.specs.Option.{option_or}
use Rattle.cmd_send.specs.FramesSent.{frame_fault, frame_indices}
use Rattle.cmd_gen.proofs.States.{samples_below}
use Rattle.cmd_gen.specs.Defaults.{sent_by_default, shape_of_frames}
use Rattle.cmd_gen.specs.Generator.{generated_frame, plane_samples, samples_before, state_behind}
use Rattle.link_model.specs.Sending.{pictures_of}
use Rattle.link_model.specs.SendingFaults.{SendFault, SampleRange, first_of_slices, first_sample_fault, first_slice_fault, is_too_large, send_fault, slice_fault}
use Rattle.link_model.specs.SendingPictures.{sent_parameters, sent_sequence, slices_with_indices}
use Rattle.link_sender.proofs.SentFrames.{none_outside}
use Rattle.vc_types.specs.declared.video.Component.TheVariants.{Y, C1, C2}
use Rattle.vc_types.specs.Planes.{Planes}
use Rattle.vc_types.specs.SenderSettings.{Frames, Sending}
use Rattle.vc_types.specs.SequenceHeader.{picture_shape}
use Rattle.vc_types.specs.Settings.{within}
use Rattle.vc_types.specs.Subbands.{slice_count}
use Rattle.cmd_gen.proofs.SampleBits.{few_luma_bits, same_depth}

sound_samples : (f : Frames) (z : ℕ) → IsTrue (within 1 4 f.range) → first_sample_fault (sent_by_default f) (generated_frame (shape_of_frames f) z) ≡ None
unfolding first_sample_fault generated_frame picture_shape sent_sequence sent_parameters
sound_samples f z known =
    let shape = shape_of_frames f in
    let luma : shape.luma_depth ≤ 64 = (let few = few_luma_bits f known in omega (arith, few)) in
    let colour : shape.colour_depth ≤ 64 = (let same = same_depth f known in omega (arith, luma, same)) in
    rw (
      none_outside (2 ^ shape.luma_depth) 0 _ (samples_below shape.luma_depth (state_behind z (samples_before shape Y)) (plane_samples shape Y) luma),
      none_outside (2 ^ shape.colour_depth) 0 _ (samples_below shape.colour_depth (state_behind z (samples_before shape C1)) (plane_samples shape C1) colour),
      none_outside (2 ^ shape.colour_depth) 0 _ (samples_below shape.colour_depth (state_behind z (samples_before shape C2)) (plane_samples shape C2) colour),
    ) refl

-- ---- a fault of a slice is none of a sample

abbrev IsOfSample : Option SendFault → Type 0
IsOfSample found = (plane place value : ℕ) → found ≡ Some (SampleRange plane place value) → ⊥

of_none : IsOfSample None
of_none plane place value is = absurd cc

of_either : (a b : Option SendFault) → IsOfSample a → IsOfSample b → IsOfSample (option_or a b)
of_either None b first second = second
of_either (Some x) b first second = first

of_first : (large : Bool) (s : Sending) (planes : Planes) (z : ℕ × ℕ) (rest : Option SendFault) → IsOfSample rest → IsOfSample (if large then Some (slice_fault s planes z.0 z.1) else rest)
of_first true s planes z rest behind plane place value same = absurd cc
of_first false s planes z rest behind plane place value same = behind plane place value same

of_slices : (s : Sending) (planes : Planes) (slices : List (ℕ × ℕ)) → IsOfSample (first_of_slices s planes slices)
unfolding first_of_slices
of_slices s planes [] = of_none
of_slices s planes (z ∷ slices) = of_first (is_too_large s planes z.0 z.1) s planes z (first_of_slices s planes slices) (of_slices s planes slices)

of_pictures : (s : Sending) (pictures : List Planes) (indices : List ℕ) → IsOfSample (first_slice_fault s indices pictures)
unfolding first_slice_fault
of_pictures s [] indices = of_none
of_pictures s (planes ∷ pictures) indices =
    of_either (first_of_slices s planes (slices_with_indices (sent_parameters s) indices)) (first_slice_fault s (drop (slice_count (sent_parameters s)) indices) pictures)
    (of_slices s planes (slices_with_indices (sent_parameters s) indices)) (of_pictures s pictures (drop (slice_count (sent_parameters s)) indices))

pub no_sample_fault : (f : Frames) (z plane place value : ℕ) → IsTrue (within 1 4 f.range) → frame_fault (sent_by_default f) (generated_frame (shape_of_frames f) z) ≡ Some (SampleRange plane place value) → ⊥
unfolding send_fault
no_sample_fault f z plane place value known found =
    let s = sent_by_default f in
    let frame = generated_frame (shape_of_frames f) z in
    of_pictures s (pictures_of s frame) (frame_indices s frame) plane place value
    (sym (ap (λ (first : Option SendFault). option_or first (first_slice_fault s (frame_indices s frame) (pictures_of s frame))) (sound_samples f z known)) ∙ found)
