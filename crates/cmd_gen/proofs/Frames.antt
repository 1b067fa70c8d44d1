-- Generated frames, one behind the other.
use Rattle.std.proofs.Common.{◌≡◌, ℕ, zero, suc, ◌+◌, ◌*◌, List, [], ◌∷◌, ◌++◌, length, refl, sym, ap, ◌∙◌, add-one, arith}
use Rattle.std.proofs.Math.Nat.{suc-mul}
use Rattle.cmd_gen.proofs.States.{behind_more}
use Rattle.cmd_gen.specs.Generator.{state_behind, frame_samples, generated_frame, generated_frames, generated_plane, plane_behind, plane_samples}
use Rattle.vc_types.specs.declared.shape.Shape.{Shape}
use Rattle.vc_types.specs.declared.video.Component.TheVariants.{Y, C1, C2}
use Rattle.vc_types.specs.Planes.{Planes}
use Rattle.vc_types.specs.Rasters.{Raster}

behind_none : (z : ℕ) → state_behind z 0 ≡ z
unfolding state_behind
behind_none z = refl

-- the state behind the first frame and more is that behind one more
pub behind_frame_and_more : (shape : Shape) (z a : ℕ) → state_behind (state_behind z (frame_samples shape)) (a * frame_samples shape) ≡ state_behind z (suc a * frame_samples shape)
behind_frame_and_more shape z a =
    let n = frame_samples shape in
    let more : n + a * n ≡ suc a * n = omega (arith, suc-mul a n) in
    behind_more z n (a * n) ∙ ap (state_behind z) more

pub frames_then : (shape : Shape) (z a b : ℕ) → generated_frames shape z (a + b) ≡ generated_frames shape z a ++ generated_frames shape (state_behind z (a * frame_samples shape)) b
unfolding generated_frames
frames_then shape z zero b =
    let none : 0 + b ≡ b = omega arith in
    let start : 0 * frame_samples shape ≡ 0 = omega arith in
    ap (generated_frames shape z) none ∙ ap (λ (state : ℕ). generated_frames shape state b) (sym (ap (state_behind z) start ∙ behind_none z))
frames_then shape z (suc a) b =
    let n = frame_samples shape in
    let one : suc a + b ≡ suc (a + b) = omega arith in
    ap (generated_frames shape z) one
    ∙ ap (λ (rest : List Planes). generated_frame shape z ∷ rest) (frames_then shape (state_behind z n) a b ∙ ap (λ (state : ℕ). generated_frames shape (state_behind z n) a ++ generated_frames shape state b) (behind_frame_and_more shape z a))

-- one frame behind others
pub one_frame_more : (shape : Shape) (z count : ℕ) → generated_frames shape z (count + 1) ≡ generated_frames shape z count ++ generated_frame shape (state_behind z (count * frame_samples shape)) ∷ []
unfolding generated_frames
one_frame_more shape z count = frames_then shape z count 1

-- and the state behind them
pub behind_one_frame_more : (shape : Shape) (z count : ℕ) → state_behind (state_behind z (count * frame_samples shape)) (frame_samples shape) ≡ state_behind z ((count + 1) * frame_samples shape)
behind_one_frame_more shape z count =
    let n = frame_samples shape in
    let more : count * n + n ≡ (count + 1) * n = sym (ap (λ (k : ℕ). k * n) (add-one count) ∙ suc-mul count n) in
    behind_more z (count * n) n ∙ ap (state_behind z) more

pub generated_count : (shape : Shape) (z count : ℕ) → length (generated_frames shape z count) ≡ count
unfolding generated_frames
generated_count shape z zero = refl
generated_count shape z (suc count) = ap suc (generated_count shape (state_behind z (frame_samples shape)) count)

-- ---- a frame of three planes, each behind the one before

first_plane : (shape : Shape) (z : ℕ) → plane_behind z shape.luma_width shape.luma_height shape.luma_depth ≡ generated_plane shape z Y
unfolding state_behind
first_plane shape z = refl

module _ (shape : Shape) (z z1 z2 : ℕ) (y c1 c2 : Raster) (y_is : y ≡ plane_behind z shape.luma_width shape.luma_height shape.luma_depth) (z1_is : z1 ≡ state_behind z (plane_samples shape Y)) (c1_is : c1 ≡ plane_behind z1 shape.colour_width shape.colour_height shape.colour_depth) (z2_is : z2 ≡ state_behind z1 (plane_samples shape C1)) (c2_is : c2 ≡ plane_behind z2 shape.colour_width shape.colour_height shape.colour_depth) where
  y_at : y ≡ generated_plane shape z Y
  y_at = y_is ∙ first_plane shape z

  c1_at : c1 ≡ generated_plane shape z C1
  c1_at = c1_is ∙ ap (λ (state : ℕ). plane_behind state shape.colour_width shape.colour_height shape.colour_depth) z1_is

  z2_at : z2 ≡ state_behind z (plane_samples shape Y + plane_samples shape C1)
  z2_at = z2_is ∙ ap (λ (state : ℕ). state_behind state (plane_samples shape C1)) z1_is ∙ behind_more z (plane_samples shape Y) (plane_samples shape C1)

  c2_at : c2 ≡ generated_plane shape z C2
  c2_at = c2_is ∙ ap (λ (state : ℕ). plane_behind state shape.colour_width shape.colour_height shape.colour_depth) z2_at

  pub three_planes : ◌≡◌ {A = Planes} (record { y = y; c1 = c1; c2 = c2 }) (generated_frame shape z)
  unfolding generated_frame
  three_planes = λ i. record { y = y_at i; c1 = c1_at i; c2 = c2_at i }
