-- The raw bytes of the generated frames have no differences.
use Rattle.std.proofs.Common.{◌≡◌, ◌≤◌, ◌<◌, ℕ, ◌+◌, ◌*◌, ◌/◌, ◌%◌, ◌^◌, Bool, true, false, List, [], ◌∷◌, ◌++◌, All, refl, sym, ap, ◌∙◌, subst, arith}
use Rattle.std.proofs.lemmas.Grind.{flat_map-append}
use Rattle.std.proofs.lemmas.List.Elements.{All-head, All-tail, All-weaker}
use Rattle.std.proofs.Math.Nat.{pow-le-pow_right}
use Rattle.cmd_gen.specs.Differences.{differences, different_samples, raw_samples}
use Rattle.cmd_gen.proofs.Counting.{same_samples}
use Rattle.cmd_gen.proofs.RawSamples.{frames_raw}
use Rattle.cmd_gen.proofs.SampleBits.{few_luma_bits, same_depth}
use Rattle.frame_writer.specs.FrameBytes.{samples_of_bytes}
use Rattle.frame_writer.proofs.SampleBytes.{samples_bytes-narrow}
use Rattle.cmd_gen.specs.Generating.{generated_bytes, raw_bytes_of_frames}
use Rattle.cmd_gen.proofs.States.{samples_below}
use Rattle.cmd_gen.specs.Defaults.{all_generated, shape_of_frames}
use Rattle.cmd_gen.specs.Generator.{frame_samples, generated_samples}
use Rattle.vc_types.specs.declared.settings.GenSettings.{GenSettings}
use Rattle.vc_types.specs.declared.shape.Shape.{Shape}
use Rattle.vc_types.specs.Planes.{Planes}
use Rattle.vc_types.specs.RawFrames.{frame_bytes, is_wide, sample_bytes, samples_bytes}
use Rattle.vc_types.specs.SenderSettings.{generating_view}

-- ---- samples are read back from their bytes

whole_again : (sample : ℕ) → sample < 65536 → sample % 256 + 256 * (sample / 256 % 256) ≡ sample
whole_again sample below = omega (arith, below)

wide_back : (samples : List ℕ) → All (λ sample. sample < 65536) samples → samples_of_bytes true (samples_bytes true samples) ≡ samples
unfolding samples_of_bytes sample_bytes
wide_back [] all = refl
wide_back (sample ∷ samples) all =
    ap (λ (s : ℕ). s ∷ samples_of_bytes true (samples_bytes true samples)) (whole_again sample (All-head (λ s. s < 65536) sample samples all))
    ∙ ap (λ (rest : List ℕ). sample ∷ rest) (wide_back samples (All-tail (λ s. s < 65536) sample samples all))

narrow_back : (samples : List ℕ) → samples_of_bytes false (samples_bytes false samples) ≡ samples
unfolding samples_of_bytes
narrow_back samples = samples_bytes-narrow samples

back : (two : Bool) (samples : List ℕ) → All (λ sample. sample < 65536) samples → samples_of_bytes two (samples_bytes two samples) ≡ samples
back true samples all = wide_back samples all
back false samples all = narrow_back samples

-- ---- the bytes of frames are those of their samples

bytes_of_frames : (shape : Shape) (frames : List Planes) → raw_bytes_of_frames shape frames ≡ samples_bytes (is_wide shape) (raw_samples frames)
unfolding frame_bytes
bytes_of_frames shape [] = refl
bytes_of_frames shape (frame ∷ frames) =
    ap (λ (l : List ℕ). frame_bytes frame (is_wide shape) ++ l) (bytes_of_frames shape frames)
    ∙ sym (flat_map-append (sample_bytes (is_wide shape)) (frame.y.samples ++ (frame.c1.samples ++ frame.c2.samples)) (raw_samples frames))

-- ---- all of them

small_samples : (depth z count : ℕ) → depth ≤ 16 → All (λ sample. sample < 65536) (generated_samples depth z count)
small_samples depth z count few =
    let most : 2 ^ depth ≤ 2 ^ 16 = pow-le-pow_right {n = 2} (omega arith) few in
    All-weaker (λ (s : ℕ). s < 2 ^ depth) (λ (s : ℕ). s < 65536) (λ s below. omega (arith, below, most)) (generated_samples depth z count) (samples_below depth z count (omega (arith, few)))

pub no_differences : (settings : GenSettings) → differences (generating_view settings) (generated_bytes (generating_view settings)) ≡ 0
no_differences settings =
    let g = generating_view settings in
    let shape = shape_of_frames g.frames in
    let samples = raw_samples (all_generated g) in
    let small : All (λ sample. sample < 65536) samples = subst (All (λ sample. sample < 65536)) (sym (frames_raw shape (same_depth g.frames settings.range_is_known) g.seed g.count)) (small_samples shape.luma_depth g.seed (g.count * frame_samples shape) (few_luma_bits g.frames settings.range_is_known)) in
    ap (λ (bytes : List ℕ). different_samples samples (samples_of_bytes (is_wide shape) bytes)) (bytes_of_frames shape (all_generated g))
    ∙ ap (different_samples samples) (back (is_wide shape) samples small)
    ∙ same_samples samples
