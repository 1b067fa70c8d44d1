-- A slice has at most its share of each subband's columns and rows, rounded up.
use Rattle.std.proofs.Common.{◌≡◌, ℕ, ◌+◌, ◌-◌, ◌*◌, ◌^◌, ◌<◌, ◌≤◌, arith, ap, ◌∙◌}
use Rattle.std.specs.Int.{div_ceil}
use Rattle.std.proofs.Math.Nat.{div-lt_iff_lt-mul, lt-div-mul-add}
use Rattle.std.proofs.lemmas.Grind.{common_steps, div_ceil_times}
use Rattle.std.proofs.lemmas.Nat.{mul-le}
use Rattle.vc_types.specs.declared.rect.Rect.{Rect}
use Rattle.vc_types.specs.declared.video.Component.{Component}
use Rattle.vc_types.specs.Subbands.{Subband, area, share_start, slice_column, slice_rectangle, slice_row, subband_rectangle}
use Rattle.vc_types.specs.TransformParameters.{Parameters}

share-most : (side n k : ℕ) → 0 < n → share_start side n (k + 1) - share_start side n k ≤ div_ceil side n
share-most side n k some =
    let times = div_ceil_times side n some in
    let before : side * k < share_start side n k * n + n = lt-div-mul-add some in
    let below : share_start side n (k + 1) < share_start side n k + div_ceil side n + 1 = (div-lt_iff_lt-mul some).1 (omega (arith, times.0, before)) in
    omega (arith, below)

ceil-most : (side n : ℕ) → 0 < n → div_ceil side n ≤ side
ceil-most side n some = grind (arith, common_steps)

-- shares, rounded up, of a subband's columns and rows
module _ (p : Parameters) (across : 0 < p.slices_x) (down : 0 < p.slices_y) (r : Rect) (columns rows : ℕ) (columns_are : columns ≡ div_ceil r.width p.slices_x) (rows_are : rows ≡ div_ceil r.height p.slices_y) where
  pub product-most : r.width ≤ 8192 → r.height ≤ 8192 → columns * rows ≤ 2 ^ 26
  product-most narrow low =
      let wide = ceil-most r.width p.slices_x across in
      let high = ceil-most r.height p.slices_y down in
      mul-le columns rows 8192 8192 (omega (arith, wide, columns_are)) (omega (arith, high, rows_are))

  pub part-most : (c : Component) (b : Subband) (slice : ℕ) → r ≡ subband_rectangle p c b → area (slice_rectangle p c b slice) ≤ columns * rows
  unfolding slice_rectangle
  part-most c b slice is =
      let wide = share-most (subband_rectangle p c b).width p.slices_x (slice_column p slice) across in
      let high = share-most (subband_rectangle p c b).height p.slices_y (slice_row p slice) down in
      let columns_is = columns_are ∙ ap (λ (q : Rect). div_ceil q.width p.slices_x) is in
      let rows_is = rows_are ∙ ap (λ (q : Rect). div_ceil q.height p.slices_y) is in
      mul-le _ _ columns rows (omega (arith, wide, columns_is)) (omega (arith, high, rows_is))
