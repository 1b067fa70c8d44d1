-- What the settings of a sender and of a generator have to be (this project's own).
use Rattle.std.specs.Prelude.{ℕ, ◌+◌, ◌*◌, ◌/◌, ◌%◌, Bool, ◌&&◌, ◌||◌, not, nat_le, ◌==◌}
use Rattle.vc_types.specs.declared.choice.IndexChoice.{IndexChoice}
use Rattle.vc_types.specs.declared.choice.IndexChoice.TheVariants.{Index, Fit, Budget}
use Rattle.vc_types.specs.Video.{picture_height}
use Rattle.vc_types.specs.Limits.{padded, slices_fit}

-- a number is at least low and at most high
abbrev pub within : ℕ → ℕ → ℕ → Bool
within low high number = nat_le low number && nat_le number high

-- a quantisation index is at most 127, and a budget of a slice 4 to 65,535 bytes
abbrev pub choice_fits : IndexChoice → Bool
choice_fits (Index index) = nat_le index 127
choice_fits (Fit bytes) = within 4 65535 bytes
choice_fits (Budget bytes) = within 4 4294967295 bytes

-- the padded luma of a picture has at most 8,912,896 samples
abbrev pub luma_fits : ℕ → ℕ → Bool → ℕ → Bool
luma_fits width height fields depth =
    nat_le (padded width depth * padded (picture_height fields height) depth) 8912896

-- with field coding a frame's first picture has an even number
abbrev pub first_picture_fits : Bool → ℕ → Bool
first_picture_fits fields picture = not fields || picture % 2 == 0

-- where none are given, slices have 16 columns and 8 rows of a picture
abbrev pub default_across : ℕ → ℕ
default_across width = (width + 15) / 16

abbrev pub default_down : Bool → ℕ → ℕ
default_down fields height = (picture_height fields height + 7) / 8

-- a generator's frames can be sent with three levels and the slices that are the default
abbrev pub can_be_sent : ℕ → ℕ → Bool → Bool
can_be_sent width height fields =
    luma_fits width height fields 3
    && slices_fit (default_across width) (default_down fields height)
