-- Subbands whose rows are taken in turn, so that a level finds the rows that it synthesises in
-- their order.
use Rattle.std.specs.Prelude.{ℕ, zero, suc, ◌*◌, ◌^◌, if◌then◌else◌, List, ℤ}
use Rattle.vc_types.specs.declared.video.Component.{Component}
use Rattle.vc_types.specs.TransformParameters.{Parameters}
use Rattle.vc_types.specs.Transforms.{Cells, is_within, source_of, lowest_width, lowest_height, levels_across}
use Rattle.vc_types.specs.Transforms.{inverse_levels}
use Rattle.vc_wave.specs.Planes.{plane_of}

-- Which row has the cell in column x and row y of the nested subbands, the lowest of which have w
-- columns and h rows: each level, from the lowest up, takes the low and the high rows of its own
-- columns in turn.
unfoldable pub row_in_turn : ℕ → ℕ → ℕ → ℕ → ℕ → ℕ
row_in_turn zero w h x y = y
row_in_turn (suc levels) w h x y =
    row_in_turn levels (2 * w) (2 * h) x
    (if is_within (2 * w) (2 * h) x y then source_of h y else y)

-- the nested subbands that a plane holds so
abbrev pub laid_out : ℕ → ℕ → ℕ → Cells → Cells
laid_out levels w h plane x y = plane x (row_in_turn levels w h x y)

-- the same of a component: levels across alone have no rows of their own
abbrev pub turned_row : Parameters → Component → ℕ → ℕ → ℕ
turned_row p c x y =
    row_in_turn p.depth (lowest_width p c * 2 ^ p.depth_ho) (lowest_height p c) x y

-- a component's nested subbands in cells that are kept row by row
abbrev pub nested_in : Parameters → Component → ℕ → List ℤ → Cells
nested_in p c stride cells x y = plane_of stride cells x (turned_row p c x y)

-- what `count` levels both ways, after those across alone, make of a component's nested subbands
abbrev pub after_levels : Parameters → Component → ℕ → Cells → Cells
after_levels p c count nested =
    inverse_levels p.wavelet p.wavelet_ho count
    (lowest_width p c * 2 ^ p.depth_ho) (lowest_height p c)
    (levels_across p.wavelet_ho p.depth_ho (lowest_width p c) (lowest_height p c) nested)
