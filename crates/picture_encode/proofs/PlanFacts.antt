-- What the settings of a sender say of its transform parameters.
use Rattle.std.proofs.Common.{◌≡◌, ℕ, ◌+◌, ◌*◌, ◌≤◌, true, ap, ◌∙◌, arith}
use Rattle.std.specs.Prelude.{nat_le}
use Rattle.std.proofs.lemmas.Bool.Decides.{nat_tests}
use Rattle.link_model.specs.SendingPictures.{sent_sequence}
use Rattle.vc_types.specs.Limits.{padded, padded_luma_fits, slice_bytes_fit, slices_fit}
use Rattle.vc_types.specs.SenderSettings.{Sending}
use Rattle.vc_types.specs.SequenceHeader.{picture_shape}
use Rattle.vc_types.specs.Settings.{luma_fits, within}
use Rattle.vc_types.specs.declared.shape.Shape.{Shape}

pub some_levels : (depth : ℕ) → within 1 4 depth ≡ true → 1 ≤ depth
some_levels depth h = grind (arith, nat_tests)

pub few_levels : (depth : ℕ) → within 1 4 depth ≡ true → depth + 0 ≤ 5
few_levels depth h = grind (arith, nat_tests)

pub slice_bytes : (prefix scaler : ℕ) → prefix ≤ 255 → within 1 255 scaler ≡ true → slice_bytes_fit prefix scaler ≡ true
slice_bytes prefix scaler small h = grind (arith, nat_tests)

pub padded_luma : (s : Sending) (shape : Shape) → shape ≡ picture_shape (sent_sequence s) → luma_fits s.frames.width s.frames.height s.frames.fields s.depth ≡ true → padded_luma_fits shape 0 s.depth ≡ true
unfolding picture_shape sent_sequence
padded_luma s shape same h =
    let none : s.depth + 0 ≡ s.depth = omega arith in
    ap (λ (t : Shape). padded_luma_fits t 0 s.depth) same
    ∙ ap (λ d. nat_le (padded s.frames.width d * padded (picture_shape (sent_sequence s)).luma_height s.depth) 8912896) none
    ∙ h

pub some_room : (size : ℕ) → within 64 65507 size ≡ true → 32 ≤ size
some_room size h = grind (arith, nat_tests)

pub few_slices : (across down : ℕ) → slices_fit across down ≡ true → across * down ≤ 131072
few_slices across down h = grind (arith, nat_tests)
