-- What is decoded: this project's limits on pictures, slices and matrices.
use Rattle.std.specs.Prelude.{ℕ, ◌+◌, ◌-◌, ◌*◌, ◌/◌, ◌^◌, Bool, ◌&&◌, nat_le, List}
use Rattle.std.specs.List.{list_all}
use Rattle.vc_types.specs.declared.shape.Shape.{Shape}
use Rattle.vc_types.specs.Video.{side_fits}

abbrev pub depth_fits : ℕ → Bool
depth_fits depth = nat_le 1 depth && nat_le depth 16

-- widths and heights are 1 to 8,192, and samples have 1 to 16 bits
abbrev pub shape_fits : Shape → Bool
shape_fits s =
    side_fits s.luma_width && side_fits s.luma_height &&
    side_fits s.colour_width && side_fits s.colour_height &&
    depth_fits s.luma_depth && depth_fits s.colour_depth

abbrev pub slice_count_fits : ℕ → Bool
slice_count_fits slices = nat_le 1 slices && nat_le slices 65535

-- at most 65,535 slices across and down, and 131,072 in all
abbrev pub slices_fit : ℕ → ℕ → Bool
slices_fit across down =
    slice_count_fits across && slice_count_fits down && nat_le (across * down) 131072

abbrev pub slice_bytes_fit : ℕ → ℕ → Bool
slice_bytes_fit prefix scaler = nat_le prefix 65535 && nat_le 1 scaler && nat_le scaler 65535

-- the least multiple of 2 ^ depth that is at least a side (ST 2042-1, subband data dimensions)
abbrev pub padded : ℕ → ℕ → ℕ
padded side depth = (side + 2 ^ depth - 1) / 2 ^ depth * 2 ^ depth

-- the padded luma of a picture, with e levels across alone and d both ways, has at most 8,912,896
-- samples
abbrev pub padded_luma_fits : Shape → ℕ → ℕ → Bool
padded_luma_fits s e d = nat_le (padded s.luma_width (d + e) * padded s.luma_height d) 8912896

abbrev pub matrix_fits : List ℕ → Bool
matrix_fits matrix = list_all (λ value. nat_le value 127) matrix
