use Rattle.std.proofs.Common.{◌≡◌, ◌^◌, ◌<◌, length, drop, All, unsigned_abs, arith, ap, sym, subst, ◌∙◌}
use Rattle.vc_types.specs.TransformParameters.{parameters_of}
use Rattle.vc_wave.proofs.Grids.{lattice, written_over, plane_below, lattice_below, inverse_made}
use Rattle.vc_wave.proofs.synthesis.inverse.Goals as goal

pub merge-requires-clause-room : goal.merge-requires-clause-room
merge-requires-clause-room c = grind arith

pub merge-requires-clause-small : goal.merge-requires-clause-small
merge-requires-clause-small c =
    let is = c.deref_mut.ensures.value ∙ c.into_cells-cells.ensures.value in
    plane_below (2 ^ 60) c.padded-width.result.0 c.deref_mut.result.now (omega arith)
    (subst (λ xs. All (λ z. unsigned_abs z < 2 ^ 60) xs) (sym is) c.requires.small)

made_is : (c : goal.After-drop-scratch)
    → c.new.result ≡ lattice c.padded-width.result.0 c.padded-width.result.1 c.merge.new.cells
made_is c = c.new.ensures
    ∙ ap (lattice c.padded-width.result.0 c.padded-width.result.1)
    (written_over c.into_cells-cells.result.len c.merge.new.cells
    (drop (length c.merge.new.cells) c.into_cells-cells.result.items)
    (sym c.deref_mut.ensures.len ∙ sym c.merge.auto.cells))

pub returns-clause-value : goal.returns-clause-value
returns-clause-value c =
    inverse_made (parameters_of c.args.plan.now) c.args.c c.args.coeffs c.new.result c.padded-width.result.0
    c.padded-width.result.1 c.deref_mut.result.now c.merge.new.cells
    c.padded-width.ensures.width c.padded-width.ensures.height c.requires.width
    (c.deref_mut.ensures.value ∙ c.into_cells-cells.ensures.value)
    (ap length c.deref_mut.ensures.value ∙ c.into_cells-cells.ensures.whole) c.requires.height
    c.merge.auto.cells (made_is c) c.merge.ensures.value

pub returns-clause-small : goal.returns-clause-small
returns-clause-small c =
    lattice_below (2 ^ 100) c.padded-width.result.0 c.padded-width.result.1 c.new.result c.merge.new.cells
    (omega arith) (made_is c) c.merge.ensures.small
