use Rattle.std.proofs.Common.{◌≡◌, ◌+◌, ◌*◌, ◌<◌, ◌≤◌, ◌⊎◌, ℕ, arith, refl, ap, subst}
use Rattle.vc_types.specs.Lifting.{line_of}
use Rattle.picture_encode.proofs.Gathered.{row_end}
use Rattle.picture_encode.proofs.CopiedSlices.{row_copied, rest_kept}
use Rattle.picture_encode.proofs.gathering.copy_rows.Goals as goal

pub loop-row-init : goal.loop-row-init
loop-row-init c = record { on = λ t x h inside. absurd (omega arith); off = λ i any. refl }

pub copy_row-requires-clause-at : goal.copy_row-requires-clause-at
copy_row-requires-clause-at c =
    let row = c.loop-row.row in
    let fits = row_end row c.args.source.now.rect.height c.args.source.now.rect.width c.loop-row-test.true in
    omega (arith, fits, ap (λ w. row * w) c.requires.width, c.requires.width, c.requires.from, c.loop-row.auto.coeffs)

pub loop-row-preserved : goal.loop-row-preserved
loop-row-preserved c =
    let r = c.args.source.now.rect in
    let row = c.loop-row.row in
    let rows = c.args.source.now.rows in
    let new = c.copy_row.new.coeffs in
    let at = (rows.first + row * rows.step) * c.args.source.now.stride + r.x in
    let on = subst (λ w. (x : ℕ) → x < w → line_of new (c.args.from + row * w + x) ≡ line_of c.args.source.now.cells.now (at + x)) c.requires.width c.copy_row.ensures.on in
    let off = subst (λ w. (i : ℕ) → (i < c.args.from + row * w) ⊎ (c.args.from + row * w + w ≤ i) → line_of new i ≡ line_of c.loop-row.coeffs i) c.requires.width c.copy_row.ensures.off in
    record {
      on = row_copied c.args.source.now.cells.now c.args.source.now.stride c.args.from rows.first rows.step r row c.loop-row.coeffs new on off c.loop-row.invariant.on;
      off = rest_kept c.args.source.now.cells.now c.args.source.now.stride c.args.from rows.first rows.step r row c.loop-row.coeffs new on off c.args.coeffs.now c.loop-row.invariant.off;
    }
