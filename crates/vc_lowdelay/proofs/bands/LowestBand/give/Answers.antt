use Rattle.std.proofs.Common.{◌≡◌, ◌+◌, ◌*◌, ◌<◌, ℕ, ap, pos, to_z, of_z, rules, FitsSigned, sym, subst, ◌∙◌, arith}
use Rattle.std.specs.Int.{w32, w64}
use Rattle.std.proofs.lemmas.Int.{to_z-of_z}
use Rattle.std.proofs.lemmas.List.{get_or-set_other}
use Rattle.std.proofs.lemmas.Nat.{mul-add-lt}
use Rattle.std.proofs.lemmas.Result.{OkIff-at_ok}
use Rattle.vc_types.specs.Rasters.{Lattice}
use Rattle.vc_lowdelay.specs.Bands.{value_in}
use Rattle.vc_lowdelay.proofs.LowestCopies.{one_more_stands, row_stands, all_stand}
use Rattle.vc_lowdelay.proofs.bands.LowestBand.give.Goals as goal

pub loop-x-preserved : goal.loop-x-preserved
loop-x-preserved c =
    let band = c.args.self.now in
    let cells = c.loop-x.cells.items in
    let x = c.loop-x.x in
    let y = c.loop-y.y in
    let stride = c.args.stride in
    let w = to_z w64 (of_z w64 c.get.result) in
    let told = OkIff-at_ok c.try_from.result (FitsSigned w32 w) w c.in-Ok.value c.try_from.ensures c.in-Ok.is in
    let fits : FitsSigned w32 c.in-Ok.value = subst (FitsSigned w32) (sym told.1) told.0 in
    let wide_fits : FitsSigned w64 c.get.result = search rules in
    let across : x < band.width = (let wide = ap (λ (b : Lattice). b.width) c.self.view_is in omega (arith, wide, c.loop-x-test.true)) in
    let down : y < band.height = (let high = ap (λ (b : Lattice). b.height) c.self.view_is in omega (arith, high, c.loop-y-test.true)) in
    let inside = mul-add-lt y stride x band.height down (omega (arith, across, c.requires.across)) in
    record {
      on = one_more_stands band.width band.height stride (value_in band) c.requires.across x y across down cells _
          (omega (arith, inside, c.loop-x.invariant.length, c.requires.down))
          (to_z-of_z w32 c.in-Ok.value fits ∙ told.1 ∙ to_z-of_z w64 c.get.result wide_fits ∙ c.get.ensures)
          c.loop-x.invariant.on;
      off = λ k none. get_or-set_other cells (y * stride + x) k _ (pos 0) (none x y across down) ∙ c.loop-x.invariant.off k none;
      length = search rules;
    }

pub loop-y-preserved : goal.loop-y-preserved
loop-y-preserved c =
    let band = c.args.self.now in
    let wide = ap (λ (b : Lattice). b.width) c.self.view_is in
    record {
      on = row_stands band.width band.height c.args.stride (value_in band) c.loop-y.y c.loop-x.cells.items _ (omega (arith, wide)) c.loop-x.invariant.on;
      off = c.loop-x.invariant.off;
      length = c.loop-x.invariant.length;
    }

pub returns-clause-on : goal.returns-clause-on
returns-clause-on c = λ x y hx hy.
    let band = c.args.self.now in
    let high = ap (λ (b : Lattice). b.height) c.self.view_is in
    let end : c.loop-y.y ≡ band.height = omega (arith, high) in
    let done = ap (λ (n : ℕ). n * band.width) end in
    all_stand band.width band.height c.args.stride (value_in band) c.loop-y.cells.items (c.loop-y.y * band.width) (omega (arith, done)) c.loop-y.invariant.on x y hx hy
