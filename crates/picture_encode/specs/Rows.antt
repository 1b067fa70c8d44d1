-- Where the rows of a subband stand among cells whose rows are taken in turn, where no levels are
-- across alone.
use Rattle.std.specs.Prelude.{ℕ, ◌+◌, ◌-◌, ◌*◌, ◌/◌, ◌^◌}
use Rattle.vc_types.specs.Transforms.{source_of}

-- how many levels lie below the level of subband number b
abbrev pub level_below : ℕ → ℕ
level_below b = (b - 1) / 3

-- the row of cells that holds row y of a subband with so many levels below its own: its level takes
-- the low and the high rows in turn, and each level above doubles the place
abbrev pub band_row : ℕ → ℕ → ℕ → ℕ → ℕ
band_row levels below h y = source_of (h * 2 ^ below) y * 2 ^ (levels - (below + 1))
