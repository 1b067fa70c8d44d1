-- What a slice has of a subband, by what it has of the subband's sides.
use Rattle.std.specs.Prelude.{ℕ, ◌+◌, ◌-◌}
use Rattle.vc_types.specs.declared.rect.Rect.{Rect}
use Rattle.vc_types.specs.Subbands.{rect}
use Rattle.vc_geometry.specs.declared.spans.Span.{Span}

-- of the subband whose upper left corner is at (x, y)
abbrev pub part_of : ℕ → ℕ → Span → Span → Rect
part_of x y columns rows =
    rect (x + columns.from) (y + rows.from) (columns.to - columns.from) (rows.to - rows.from)
