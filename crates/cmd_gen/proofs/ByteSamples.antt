-- The samples of a narrow generated frame fit a byte.
use Rattle.std.proofs.Common.{◌≡◌, ◌≤◌, ℕ, ◌^◌, false, arith}
use Rattle.std.specs.Prelude.{◌||◌, nat_lt}
use Rattle.std.proofs.Math.Nat.{pow-le-pow_right}
use Rattle.frame_writer.specs.Samples.{FitBytes, HaveByteSamples}
use Rattle.cmd_gen.proofs.States.{samples_below}
use Rattle.cmd_gen.specs.Generator.{generated_frame, generated_samples, plane_samples, samples_before, state_behind}
use Rattle.vc_types.specs.declared.shape.Shape.{Shape}
use Rattle.vc_types.specs.declared.video.Component.TheVariants.{Y, C1, C2}
use Rattle.vc_types.specs.RawFrames.{is_wide}

narrow_first : (a b : ℕ) → (nat_lt 8 a || nat_lt 8 b) ≡ false → a ≤ 8
narrow_first a b narrow = grind arith

narrow_second : (a b : ℕ) → (nat_lt 8 a || nat_lt 8 b) ≡ false → b ≤ 8
narrow_second a b narrow = grind arith

narrow_samples : (depth z count : ℕ) → depth ≤ 8 → FitBytes (generated_samples depth z count)
narrow_samples depth z count few k d below =
    let most : 2 ^ depth ≤ 2 ^ 8 = pow-le-pow_right {n = 2} (omega arith) few in
    let small = samples_below depth z count (omega (arith, few)) k d below in
    omega (arith, small, most)

pub byte_samples : (shape : Shape) (z : ℕ) → is_wide shape ≡ false → HaveByteSamples (generated_frame shape z)
unfolding generated_frame
byte_samples shape z narrow =
    let luma : shape.luma_depth ≤ 8 = narrow_first shape.luma_depth shape.colour_depth narrow in
    let colour : shape.colour_depth ≤ 8 = narrow_second shape.luma_depth shape.colour_depth narrow in
    record {
      y = narrow_samples shape.luma_depth (state_behind z (samples_before shape Y)) (plane_samples shape Y) luma;
      c1 = narrow_samples shape.colour_depth (state_behind z (samples_before shape C1)) (plane_samples shape C1) colour;
      c2 = narrow_samples shape.colour_depth (state_behind z (samples_before shape C2)) (plane_samples shape C2) colour;
    }
