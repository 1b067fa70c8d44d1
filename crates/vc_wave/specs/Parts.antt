-- A level whose low subband stands in a list of its own, and the others nested.
use Rattle.std.specs.Prelude.{ℕ, ◌+◌, ◌*◌, ◌%◌, ◌==◌, if◌then◌else◌, List, ℤ}
use Rattle.vc_types.specs.declared.video.Component.{Component}
use Rattle.vc_types.specs.TransformParameters.{Parameters}
use Rattle.vc_types.specs.Transforms.{Cells, is_within}
use Rattle.vc_lift.specs.Reach.{reach_back, reach_ahead}
use Rattle.vc_wave.specs.declared.parts.Subbands.{Subbands}
use Rattle.vc_wave.specs.Planes.{plane_of}
use Rattle.vc_wave.specs.Sides.{highest_width, highest_height}

-- nested subbands whose first w columns and h rows are taken from the list of the low one
unfoldable pub with_low : ℕ → ℕ → ℕ → List ℤ → List ℤ → Cells
with_low w h pitch low nested x y =
    if is_within w h x y then plane_of w low x y else plane_of pitch nested x y

abbrev pub subbands_of : Subbands → Cells
subbands_of s = with_low s.level.w s.level.h s.level.pitch s.low.now s.nested.now

-- which of two lists has the samples below level number n, where each level goes from one to the other
unfoldable pub held : ℕ → List ℤ → List ℤ → List ℤ
held n first second = if n % 2 == 0 then first else second

-- ---- rooms

-- how many pairs of rows are gathered at most for those that are made together
abbrev pub pairs_held : ℕ → ℕ
pairs_held wavelet = 16 + reach_back wavelet + reach_ahead wavelet

-- how many cells the inverse transform of a component needs to work in
abbrev pub room_length : Parameters → Component → ℕ
room_length p c =
    2 * (highest_height p c * highest_width p c) + 2 * pairs_held p.wavelet * (2 * highest_width p c)

-- the same where the highest level is made in two halves side by side
abbrev pub joined_room_length : Parameters → Component → ℕ
joined_room_length p c =
    2 * (highest_height p c * highest_width p c) + 2 * (2 * pairs_held p.wavelet * (2 * highest_width p c))

-- how many cells the forward transform of a component needs to work in
abbrev pub forward_room_length : Parameters → Component → ℕ
forward_room_length p c = 2 * pairs_held p.wavelet * (2 * highest_width p c)

-- the same where the highest level is made in two halves side by side
abbrev pub joined_forward_room_length : Parameters → Component → ℕ
joined_forward_room_length p c = 2 * forward_room_length p c
