-- The pictures that a source began, and how far the slices of the last of them came.
use Rattle.std.specs.Prelude.{ℕ, ◌+◌, ◌*◌, max, Bool, ◌&&◌, ◌==◌, nat_lt, nat_le, if◌then◌else◌}
use Rattle.cmd_probe.specs.Counting.{one_more, with_bytes}
use Rattle.cmd_probe.specs.declared.pictures.Pictures.{Pictures}

abbrev pub no_pictures : Pictures
no_pictures = record {
  count = 0;
  whole = 0;
  first = 0;
  last = 0;
  largest = 0;
  across = 0;
  slices = 0;
  reach = 0;
  bytes = 0;
}

-- the last picture has this number
abbrev pub is_open : Pictures → ℕ → Bool
is_open p number = nat_lt 0 p.count && p.last == number

-- one picture more
unfoldable pub with_picture : Pictures → ℕ → Pictures
with_picture p number = record {
  count = one_more p.count;
  whole = p.whole;
  first = if p.count == 0 then number else p.first;
  last = number;
  largest = p.largest;
  across = 0;
  slices = 0;
  reach = 0;
  bytes = 0;
}

-- the last picture's parameters came: so many slices across and down
unfoldable pub with_raster : Pictures → (across down : ℕ) → Pictures
with_raster p across down =
    if p.slices == 0 then record p { across = across; slices = across * down; reach = 0 } else p

-- how far slices reach in raster order, without a gap, with so many more from the one at x and y on
abbrev pub reached : (before across x y count : ℕ) → ℕ
reached before across x y count =
    if nat_le (y * across + x) before then max before (y * across + x + count) else before

-- slices reach the last one, and didn't
abbrev pub completes : (slices before after : ℕ) → Bool
completes slices before after = nat_lt before slices && nat_le slices after

abbrev pub with_reach : Pictures → (reach bytes : ℕ) → Pictures
with_reach p reach bytes = record p {
  whole = if completes p.slices p.reach reach then one_more p.whole else p.whole;
  largest = max p.largest bytes;
  reach = reach;
  bytes = bytes;
}

-- so many slices of the last picture, from the one at x and y on, of so many bytes
unfoldable pub with_fragment : Pictures → (x y count bytes : ℕ) → Pictures
with_fragment p x y count bytes =
    with_reach p (reached p.reach p.across x y count) (with_bytes p.bytes bytes)
