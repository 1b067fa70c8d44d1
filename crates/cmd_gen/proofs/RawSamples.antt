-- The samples of generated frames in raw order are those behind the seed.
use Rattle.std.proofs.Common.{◌≡◌, ℕ, zero, suc, ◌+◌, ◌*◌, Bool, true, false, List, [], ◌∷◌, ◌++◌, None, refl, sym, ap, ◌∙◌, arith, append_assoc}
use Rattle.std.proofs.Math.Nat.{suc-mul}
use Rattle.cmd_gen.proofs.SampleBits.{same_depth}
use Rattle.cmd_gen.specs.Counting.{held_back}
use Rattle.cmd_gen.specs.Differences.{different_samples, differences, raw_samples}
use Rattle.frame_writer.specs.FrameBytes.{samples_of_bytes}
use Rattle.cmd_gen.specs.Generating.{sample_total}
use Rattle.cmd_gen.proofs.States.{behind_next}
use Rattle.cmd_gen.specs.Defaults.{shape_of_frames}
use Rattle.cmd_gen.specs.Generator.{frame_samples, generated_frame, generated_frames, generated_samples, next_state, plane_samples, sample_of, state_behind}
use Rattle.vc_types.specs.declared.shape.Shape.{Shape}
use Rattle.vc_types.specs.declared.video.Component.TheVariants.{Y, C1, C2}
use Rattle.vc_types.specs.declared.settings.GenSettings.{GenSettings}
use Rattle.vc_types.specs.RawFrames.{is_wide}
use Rattle.vc_types.specs.SenderSettings.{generating_view}

-- ---- samples one behind the other

samples_then : (depth z a b : ℕ) → generated_samples depth z (a + b) ≡ generated_samples depth z a ++ generated_samples depth (state_behind z a) b
unfolding generated_samples state_behind
samples_then depth z zero b = let none : 0 + b ≡ b = omega arith in ap (generated_samples depth z) none
samples_then depth z (suc a) b =
    let one : suc a + b ≡ suc (a + b) = omega arith in
    ap (generated_samples depth z) one
    ∙ ap (λ (rest : List ℕ). sample_of depth (next_state z) ∷ rest) (samples_then depth (next_state z) a b)
    ∙ ap (λ (state : ℕ). sample_of depth (next_state z) ∷ (generated_samples depth (next_state z) a ++ generated_samples depth state b)) (behind_next z a)

module _ (shape : Shape) (same : shape.colour_depth ≡ shape.luma_depth) where
  abbrev depth : ℕ
  depth = shape.luma_depth

  abbrev samples : ℕ → ℕ → List ℕ
  samples z n = generated_samples depth z n

  frame_raw : (z : ℕ) → (generated_frame shape z).y.samples ++ ((generated_frame shape z).c1.samples ++ (generated_frame shape z).c2.samples) ≡ samples z (frame_samples shape)
  unfolding generated_frame state_behind
  frame_raw z =
      let a = plane_samples shape Y in
      let b = plane_samples shape C1 in
      let c = plane_samples shape C2 in
      ap (λ (d : ℕ). samples z a ++ (generated_samples d (state_behind z a) b ++ generated_samples d (state_behind z (a + b)) c)) same
      ∙ sym (append_assoc (samples z a) (samples (state_behind z a) b) (samples (state_behind z (a + b)) c))
      ∙ ap (λ (l : List ℕ). l ++ samples (state_behind z (a + b)) c) (sym (samples_then depth z a b))
      ∙ sym (samples_then depth z (a + b) c)

  pub frames_raw : (z count : ℕ) → raw_samples (generated_frames shape z count) ≡ samples z (count * frame_samples shape)
  unfolding generated_frames generated_samples
  frames_raw z zero = let none : 0 ≡ 0 * frame_samples shape = omega arith in ap (samples z) none
  frames_raw z (suc count) =
      let n = frame_samples shape in
      let more : n + count * n ≡ suc count * n = omega (arith, suc-mul count n) in
      ap (λ (l : List ℕ). l ++ raw_samples (generated_frames shape (state_behind z n) count)) (frame_raw z)
      ∙ ap (λ (l : List ℕ). samples z n ++ l) (frames_raw (state_behind z n) count)
      ∙ sym (samples_then depth z n (count * n))
      ∙ ap (samples z) more

-- ---- before anything came

nothing_held : (wide : Bool) → held_back wide None ≡ []
nothing_held true = refl
nothing_held false = refl

pub nothing_came : (settings : GenSettings) (shape : Shape) (depth z total : ℕ) (wide : Bool) → shape ≡ shape_of_frames (generating_view settings).frames → depth ≡ shape.luma_depth → z ≡ settings.seed → total ≡ sample_total (generating_view settings)
    → wide ≡ is_wide shape → (bytes : List ℕ) → 0 + different_samples (generated_samples depth z total) (samples_of_bytes wide (held_back wide None ++ bytes)) ≡ differences (generating_view settings) bytes
nothing_came settings shape depth z total wide shape_is depth_is z_is total_is wide_is bytes =
    let g = generating_view settings in
    let own = shape_of_frames g.frames in
    let none : (n : ℕ) → 0 + n ≡ n = λ n. omega arith in
    none _
    ∙ ap (λ (l : List ℕ). different_samples (generated_samples depth z total) (samples_of_bytes wide (l ++ bytes))) (nothing_held wide)
    ∙ ap (λ (w : Bool). different_samples (generated_samples depth z total) (samples_of_bytes w bytes)) (wide_is ∙ ap is_wide shape_is)
    ∙ ap (λ (d : ℕ). different_samples (generated_samples d z total) (samples_of_bytes (is_wide own) bytes)) (depth_is ∙ ap (λ (s : Shape). s.luma_depth) shape_is)
    ∙ ap (λ (s : ℕ). different_samples (generated_samples own.luma_depth s total) (samples_of_bytes (is_wide own) bytes)) z_is
    ∙ ap (λ (n : ℕ). different_samples (generated_samples own.luma_depth g.seed n) (samples_of_bytes (is_wide own) bytes)) total_is
    ∙ ap (λ (l : List ℕ). different_samples l (samples_of_bytes (is_wide own) bytes)) (sym (frames_raw own (same_depth g.frames settings.range_is_known) g.seed g.count))
