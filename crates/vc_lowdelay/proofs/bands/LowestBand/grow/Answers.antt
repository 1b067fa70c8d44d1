use Rattle.std.proofs.Common.{◌≡◌, ℕ, ◌+◌, ◌*◌, ◌^◌, ◌<◌, ◌≤◌, ℤ, Err, unsigned_abs, rules, refl, ap, subst, ◌∙◌, FitsSigned, arith}
use Rattle.std.specs.Int.{w64}
use Rattle.std.proofs.lemmas.Int.{to_z-of_z}
use Rattle.vc_types.specs.Rasters.{Lattice}
use Rattle.vc_lowdelay.specs.Bands.{HasLargeValue, grown_value, value_in}
use Rattle.vc_lowdelay.specs.LowDelay.{predicted}
use Rattle.vc_lowdelay.proofs.GrownRows.{GrownTo, none_grown, one_more, all_grown, row_done, are_small, next_value_is}
use Rattle.vc_lowdelay.proofs.bands.LowestBand.grow.Goals as goal

pub loop-y-init : goal.loop-y-init
loop-y-init c =
    let none : 0 ≡ 0 * c.args.self.now.width = omega arith in
    subst (λ (n : ℕ). GrownTo (value_in c.args.self.now) c.args.self.now.width c.args.self.now.height n c.args.self.now) none
    (none_grown (value_in c.args.self.now) c.args.self.now.width c.args.self.now.height c.args.self.now refl refl (λ a b ha hb. refl) c.requires)

pub loop-x-init : goal.loop-x-init
loop-x-init c = subst (λ (n : ℕ). GrownTo (value_in c.args.self.now) c.args.self.now.width c.args.self.now.height n c.loop-y.self) (omega arith) c.loop-y.invariant

pub grown-requires-clause-across : goal.grown-requires-clause-across
grown-requires-clause-across c =
    let wide = ap (λ (b : Lattice). b.width) c.self.view_is in
    omega (arith, wide, c.loop-x.invariant.width, c.loop-x-test.true)

pub grown-requires-clause-down : goal.grown-requires-clause-down
grown-requires-clause-down c =
    let high = ap (λ (b : Lattice). b.height) c.self.view_is in
    omega (arith, high, c.loop-x.invariant.height, c.loop-y-test.true)

pub grown-requires-clause-small : goal.grown-requires-clause-small
grown-requires-clause-small c = are_small (value_in c.args.self.now) c.args.self.now.width c.args.self.now.height c.loop-x.self _ c.loop-x.invariant

pub returns-in_err-value-clause-large : goal.returns-in_err-value-clause-large
returns-in_err-value-clause-large c =
    let cells = value_in c.args.self.now in
    let w = c.args.self.now.width in
    let h = c.args.self.now.height in
    let x = c.loop-x.x in
    let y = c.loop-y.y in
    let across : x < w = (let wide = ap (λ (b : Lattice). b.width) c.self.view_is in omega (arith, wide, c.loop-x-test.true)) in
    let down : y < h = (let high = ap (λ (b : Lattice). b.height) c.self.view_is in omega (arith, high, c.loop-y-test.true)) in
    let is = next_value_is cells w h c.loop-x.self (y * w + x) c.loop-x.invariant x y (grown_value c.loop-x.self x y) across down refl refl in
    let has : HasLargeValue (predicted cells) c.args.self.now = record {
      x = x;
      y = y;
      across = across;
      down = down;
      large = subst (λ (z : ℤ). 2 ^ 60 ≤ unsigned_abs z) is c.in_err-value.ensures.large;
    } in
    let same : c.from_residual.result ≡ Err c.in_err-value.field-0.0 = search rules in
    rw same has

pub loop-x-preserved : goal.loop-x-preserved
loop-x-preserved c =
    let fits : FitsSigned w64 c.in_ok-value.value = search rules in
    let cells = value_in c.args.self.now in
    let w = c.args.self.now.width in
    let h = c.args.self.now.height in
    let x = c.loop-x.x in
    let y = c.loop-y.y in
    let across : x < w = (let wide = ap (λ (b : Lattice). b.width) c.self.view_is in omega (arith, wide, c.loop-x-test.true)) in
    let down : y < h = (let high = ap (λ (b : Lattice). b.height) c.self.view_is in omega (arith, high, c.loop-y-test.true)) in
    subst (λ (n : ℕ). GrownTo cells w h n c.put.new.self) (omega arith)
    (one_more cells w h c.loop-x.self (y * w + x) c.loop-x.invariant x y c.put.new.self c.in_ok-value.value across down refl
    c.in_ok-value.ensures.value c.in_ok-value.ensures.small c.put.ensures.size.0 c.put.ensures.size.1 (c.put.ensures.on ∙ to_z-of_z w64 c.in_ok-value.value fits) c.put.ensures.off)

pub loop-y-preserved : goal.loop-y-preserved
loop-y-preserved c =
    let wide = ap (λ (b : Lattice). b.width) c.self.view_is in
    row_done (value_in c.args.self.now) c.args.self.now.width c.args.self.now.height c.loop-y.y c.loop-x.self _ (omega (arith, wide)) c.loop-x.invariant

pub returns-clause-size : goal.returns-clause-size
returns-clause-size c = (c.loop-y.invariant.width, c.loop-y.invariant.height)

pub returns-clause-grown : goal.returns-clause-grown
returns-clause-grown c =
    let w = c.args.self.now.width in
    let h = c.args.self.now.height in
    let end : c.loop-y.y ≡ h = (let high = ap (λ (b : Lattice). b.height) c.self.view_is in omega (arith, high)) in
    let whole = ap (λ (n : ℕ). n * w) end in
    all_grown (value_in c.args.self.now) w h c.loop-y.self (c.loop-y.y * w) (omega (arith, whole)) c.loop-y.invariant

pub returns-clause-small : goal.returns-clause-small
returns-clause-small c = are_small (value_in c.args.self.now) c.args.self.now.width c.args.self.now.height c.loop-y.self _ c.loop-y.invariant
