-- Generated frames come back without a difference.
use Rattle.std.proofs.Common.{◌≡◌, ◌<◌, ℕ, zero, suc, ◌*◌, ◌^◌, Bool, List, length, All, refl, sym, ap, subst, ◌∙◌, arith, flat_map}
use Rattle.std.proofs.lemmas.List.Elements.{All-cons, All-nil}
use Rattle.field_pairs.specs.Sizes.{AreWhole}
use Rattle.cmd_gen.specs.Differences.{differences}
use Rattle.cmd_gen.proofs.WholeFrames.{no_differences}
use Rattle.cmd_gen.specs.Generating.{generated_bytes}
use Rattle.link_laws.specs.FramesToSend.{AreFramesToSend}
use Rattle.link_laws.specs.IndexZero.{raw_video}
use Rattle.link_laws.proofs.StreamsBack.{stream_back}
use Rattle.cmd_gen.proofs.Frames.{generated_count}
use Rattle.cmd_gen.proofs.States.{samples_count}
use Rattle.cmd_gen.specs.Defaults.{all_generated, sent_by_default, shape_of_frames}
use Rattle.cmd_gen.specs.Generator.{frame_samples, generated_frame, generated_frames, plane_samples, samples_before, state_behind}
use Rattle.link_model.specs.Sending.{frames_indices, pictures_per_frame}
use Rattle.link_model.specs.SendingPictures.{IsFrame, sent_sequence}
use Rattle.link_laws.proofs.ZeroIndices.{all_at_zero, sound_at_zero}
use Rattle.link_laws.specs.RoundTrip.{GeneratedFramesComeBack}
use Rattle.vc_types.specs.declared.choice.IndexChoice.TheVariants.{Index}
use Rattle.vc_types.specs.declared.video.Component.TheVariants.{Y, C1, C2}
use Rattle.vc_types.specs.Planes.{Planes}
use Rattle.vc_types.specs.RawFrames.{frame_bytes, is_wide}
use Rattle.vc_types.specs.SenderSettings.{Frames, Generating, Sending, generating_view, sending_view}
use Rattle.vc_types.specs.SequenceHeader.{picture_shape}

module _ (f : Frames) where
  one_sized : (z : ℕ) → IsFrame (sent_by_default f) (generated_frame (shape_of_frames f) z)
  unfolding generated_frame picture_shape sent_sequence
  one_sized z = record {
    y = record { width = refl; height = refl };
    c1 = record { width = refl; height = refl };
    c2 = record { width = refl; height = refl };
  }

  one_whole : (z : ℕ) → AreWhole (generated_frame (shape_of_frames f) z)
  unfolding generated_frame
  one_whole z =
      let shape = shape_of_frames f in
      record {
        y = samples_count shape.luma_depth (state_behind z (samples_before shape Y)) (plane_samples shape Y);
        c1 = samples_count shape.colour_depth (state_behind z (samples_before shape C1)) (plane_samples shape C1);
        c2 = samples_count shape.colour_depth (state_behind z (samples_before shape C2)) (plane_samples shape C2);
      }

  all_as_one : (P : Planes → Type 0) → ((z : ℕ) → P (generated_frame (shape_of_frames f) z)) → (z n : ℕ) → All P (generated_frames (shape_of_frames f) z n)
  unfolding generated_frames
  all_as_one P one z zero = All-nil P
  all_as_one P one z (suc n) =
      let shape = shape_of_frames f in
      All-cons P (generated_frame shape z) (generated_frames shape (state_behind z (frame_samples shape)) n) (one z) (all_as_one P one (state_behind z (frame_samples shape)) n)

  as_wide : is_wide (picture_shape (sent_sequence (sent_by_default f))) ≡ is_wide (shape_of_frames f)
  unfolding picture_shape
  as_wide = refl

raw_generated : (g : Generating) → raw_video (sent_by_default g.frames) (all_generated g) ≡ generated_bytes g
raw_generated g = ap (λ (wide : Bool). flat_map (λ (frame : Planes). frame_bytes frame wide) (all_generated g)) (as_wide g.frames)

pub generated_frames_come_back : GeneratedFramesComeBack
generated_frames_come_back settings sends window same some sendable few =
    let g : Generating = generating_view settings in
    let s : Sending = sending_view sends in
    let frames : List Planes = all_generated g in
    let chooses : s.choice ≡ Index 0 = ap (λ (t : Sending). t.choice) same in
    let small : s.ssrc < 2 ^ 32 = (let one : s.ssrc ≡ 1 = ap (λ (t : Sending). t.ssrc) same in omega (arith, one)) in
    let many : length frames ≡ g.count = generated_count (shape_of_frames g.frames) g.seed g.count in
    let can : AreFramesToSend s (frames_indices s frames) frames = record {
      sizes = subst (λ (t : Sending). All (IsFrame t) frames) (sym same) (all_as_one g.frames (IsFrame (sent_by_default g.frames)) (one_sized g.frames) g.seed g.count);
      whole = all_as_one g.frames AreWhole (one_whole g.frames) g.seed g.count;
      sound = sound_at_zero s chooses frames sendable;
      few = subst (λ (n : ℕ). n * pictures_per_frame s < 2 ^ 31) (sym many) few;
    } in
    ap (differences g)
    (stream_back sends small window some (frames_indices s frames) frames can (all_at_zero s chooses frames)
    ∙ ap (λ (t : Sending). raw_video t frames) same
    ∙ raw_generated g)
    ∙ no_differences settings
