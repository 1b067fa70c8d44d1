-- The highest level of the forward transform.
use Rattle.std.specs.Prelude.{ℕ, ◌+◌, ◌*◌, ◌<◌, ◌≡◌, List, ℤ}
use Rattle.vc_types.specs.declared.video.Component.{Component}
use Rattle.vc_types.specs.Lifting.{line_of}
use Rattle.vc_types.specs.Subbands.{padded_width, padded_height}
use Rattle.vc_types.specs.TransformParameters.{Parameters}
use Rattle.vc_types.specs.Transforms.{padded_plane}
use Rattle.vc_wave.specs.Remade.{parted_in_turn}
use Rattle.vc_wave.specs.Sides.{highest_width, highest_height}

-- cells in rows of the padded width are what the highest level makes of a component's samples, and leaves
-- with the low and the high rows in turn
abbrev pub IsHighestParted : Parameters → Component → (ℕ → ℕ → ℕ) → List ℤ → Type 0
IsHighestParted p c samples cells =
    (x y : ℕ) → x < padded_width p c → y < padded_height p c
    → line_of cells (y * padded_width p c + x)
    ≡ parted_in_turn p.wavelet (highest_width p c) (highest_height p c) (padded_plane p c samples) x y
