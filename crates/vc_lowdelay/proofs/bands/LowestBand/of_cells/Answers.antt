use Rattle.std.proofs.Common.{◌≡◌, ◌+◌, ◌*◌, ◌^◌, ◌<◌, ℕ, ℤ, pos, slice_index_or, unsigned_abs, rules, FitsSigned, sym, ap, subst, ◌∙◌, arith}
use Rattle.std.specs.Int.{w32, w64}
use Rattle.std.proofs.lemmas.Int.{ints, to_z-of_z}
use Rattle.std.proofs.lemmas.Nat.{mul-add-lt}
use Rattle.vc_types.specs.Subbands.{padded_width}
use Rattle.vc_types.specs.TransformParameters.{parameters_of}
use Rattle.vc_lowdelay.specs.Narrow.{cells_of}
use Rattle.vc_lowdelay.proofs.LowestCopies.{FirstHold, FirstStand, none_stand, one_more_stands, row_stands, all_stand, one_more_holds, row_holds}
use Rattle.vc_lowdelay.proofs.LowestPlaces.{is_lowest}
use Rattle.vc_lowdelay.proofs.bands.LowestBand.of_cells.Goals as goal

pub loop-y-init : goal.loop-y-init
loop-y-init c = record {
  long = omega (arith, c.in_ok-values.ensures.len);
  first = none_stand c.band-rect.result.width c.band-rect.result.height c.band-rect.result.width (cells_of c.padded-stride.result.0 c.args.cells.now) c.in_ok-values.values.items _ (omega arith);
  small = λ a b ha hb before. absurd (omega (arith, before));
}

pub loop-x-init : goal.loop-x-init
loop-x-init c =
    let r = c.band-rect.result in
    record {
      long = c.loop-y.invariant.long;
      first = subst (λ (n : ℕ). FirstStand r.width r.height r.width (cells_of c.padded-stride.result.0 c.args.cells.now) n c.loop-y.values.items) (omega arith) c.loop-y.invariant.first;
      small = subst (FirstHold r.width r.height (λ a b. unsigned_abs (cells_of c.padded-stride.result.0 c.args.cells.now a b) < 2 ^ 60)) (omega arith) c.loop-y.invariant.small;
    }

pub loop-y-preserved : goal.loop-y-preserved
loop-y-preserved c =
    let r = c.band-rect.result in
    record {
      long = c.loop-x.invariant.long;
      first = row_stands r.width r.height r.width (cells_of c.padded-stride.result.0 c.args.cells.now) c.loop-y.y c.loop-x.values.items _ (omega arith) c.loop-x.invariant.first;
      small = row_holds r.width r.height (λ a b. unsigned_abs (cells_of c.padded-stride.result.0 c.args.cells.now a b) < 2 ^ 60) c.loop-y.y _ (omega arith) c.loop-x.invariant.small;
    }

pub returns-clause-size : goal.returns-clause-size
returns-clause-size c = is_lowest (parameters_of c.args.plan.now) c.args.c c.band-rect.result c.loop-y.values.items c.band-rect.ensures.value

pub bounds-cells-y : goal.bounds-cells-y
bounds-cells-y c =
    let r = c.band-rect.result in
    let stride = c.padded-stride.result.0 in
    let inside = mul-add-lt c.loop-y.y stride c.loop-x.x c.padded-stride.result.1 (omega (arith, c.band-rect.ensures.bottom, c.padded-stride.ensures.height)) (omega (arith, c.band-rect.ensures.right, c.padded-stride.ensures.width)) in
    let whole = c.requires ∙ ap (λ (n : ℕ). n * padded_width (parameters_of c.args.plan.now) c.args.c) (sym c.padded-stride.ensures.height) ∙ ap (λ (n : ℕ). c.padded-stride.result.1 * n) (sym c.padded-stride.ensures.width) in
    omega (arith, inside, whole)

pub loop-x-preserved : goal.loop-x-preserved
loop-x-preserved c =
    let r = c.band-rect.result in
    let cells = c.args.cells.now in
    let x = c.loop-x.x in
    let y = c.loop-y.y in
    let stride = c.padded-stride.result.0 in
    let fits : FitsSigned w32 (slice_index_or cells (y * stride + x) (pos 0)) = search rules in
    let wide : FitsSigned w64 c.from.result = search rules in
    let inside = mul-add-lt y r.width x r.height c.loop-y-test.true c.loop-x-test.true in
    record {
      long = search rules;
      first = one_more_stands r.width r.height r.width (cells_of stride cells) (omega arith) x y c.loop-x-test.true c.loop-y-test.true c.loop-x.values.items _
          (omega (arith, inside, c.loop-x.invariant.long))
          (to_z-of_z w64 c.from.result wide ∙ c.from.ensures ∙ to_z-of_z w32 (slice_index_or cells (y * stride + x) (pos 0)) fits)
          c.loop-x.invariant.first;
      small = one_more_holds r.width r.height (λ a b. unsigned_abs (cells_of stride cells a b) < 2 ^ 60) x y c.loop-x-test.true (omega (arith, ints, fits)) c.loop-x.invariant.small;
    }

pub returns-clause-values : goal.returns-clause-values
returns-clause-values c = λ x y hx hy.
    let r = c.band-rect.result in
    let end : c.loop-y.y ≡ r.height = omega arith in
    let done = ap (λ (n : ℕ). n * r.width) end in
    all_stand r.width r.height r.width (cells_of c.padded-stride.result.0 c.args.cells.now) c.loop-y.values.items (c.loop-y.y * r.width) (omega (arith, done)) c.loop-y.invariant.first x y hx hy
    ∙ ap (λ (n : ℕ). cells_of n c.args.cells.now x y) c.padded-stride.ensures.width

pub returns-clause-small : goal.returns-clause-small
returns-clause-small c = λ x y hx hy.
    let r = c.band-rect.result in
    let end : c.loop-y.y ≡ r.height = omega arith in
    let done = ap (λ (n : ℕ). n * r.width) end in
    let own = all_stand r.width r.height r.width (cells_of c.padded-stride.result.0 c.args.cells.now) c.loop-y.values.items (c.loop-y.y * r.width) (omega (arith, done)) c.loop-y.invariant.first x y hx hy in
    subst (λ (z : ℤ). unsigned_abs z < 2 ^ 60) (sym own) (c.loop-y.invariant.small x y hx hy (omega (arith, done, mul-add-lt y r.width x r.height hy hx)))
