use Rattle.std.proofs.Common.{◌≡◌, ◌*◌, ◌^◌, length, drop, arith, ap, ◌∙◌}
use Rattle.vc_types.specs.Rasters.{Lattice, cell_at}
use Rattle.vc_types.specs.Subbands.{padded_width, padded_height}
use Rattle.vc_types.specs.TransformParameters.{parameters_of}
use Rattle.vc_wave.specs.declared.level.TheConstants.{BLOCK}
use Rattle.vc_wave.specs.Planes.{AreBelow, HasRoom, plane_of}
use Rattle.vc_wave.proofs.Fills.{filled_levels, filled_below}
use Rattle.vc_wave.proofs.Grids.{lattice, lattice_below, cell_at_plane, written_over}
use Rattle.vc_wave.proofs.Levels.{whole_room}
use Rattle.vc_wave.proofs.PlaneGrowth.{forward_below}
use Rattle.vc_wave.proofs.analysis.forward.Goals as goal

-- all cells are filled
whole : (c : goal.After-deref_mut)
    → length c.fill.new.cells ≡ c.padded-width.result.1 * c.padded-width.result.0
whole c = omega (arith, c.in_ok-cells.ensures.len)

filled : (c : goal.After-deref_mut) → AreBelow (2 ^ 16) (plane_of c.padded-width.result.0 c.fill.new.cells)
filled c =
    filled_below c.args.plane.now c.padded-width.result.0 c.padded-width.result.1 c.sample_depth.result
    c.fill.new.cells
    c.fill.ensures (whole c) (omega arith) c.sample_depth.ensures.range.0
    (rw c.sample_depth.ensures.value c.requires.samples) c.sample_depth.ensures.range.1

pub part_levels-requires-clause-room : goal.part_levels-requires-clause-room
part_levels-requires-clause-room c =
    let p = parameters_of c.args.plan.now in
    let l = c.levels_of.ensures in
    let width = c.padded-width.ensures.width in
    let height = c.padded-width.ensures.height in
    let all = whole c in
    let room : HasRoom (padded_width p c.args.c) (padded_height p c.args.c) c.padded-width.result.0
    (length c.fill.new.cells) BLOCK (length c.deref_mut.result.now) = record {
      across = omega (arith, width);
      down = (let rows = ap (λ n. n * c.padded-width.result.0) height in omega (arith, all, rows));
      row = omega (arith, width, c.in_ok-scratch.ensures.len);
      side_by_side = (let rows = ap (λ n. n * BLOCK) height in
          omega (arith, rows, c.in_ok-scratch.ensures.len));
    } in
    rw (l.levels, l.pitch, l.w, l.h) (whole_room p c.args.c c.padded-width.result.0 _ BLOCK _ room)

pub part_levels-requires-clause-small : goal.part_levels-requires-clause-small
part_levels-requires-clause-small c = rw c.levels_of.ensures.pitch (filled c)

made_is : (c : goal.After-drop-scratch-2)
    → c.new.result ≡ lattice c.padded-width.result.0 c.padded-width.result.1 c.part_levels.new.cells
made_is c =
    let len : c.in_ok-cells.cells.len ≡ length c.part_levels.new.cells = omega arith in
    c.new.ensures
    ∙ ap (lattice c.padded-width.result.0 c.padded-width.result.1)
    (written_over c.in_ok-cells.cells.len c.part_levels.new.cells
    (drop (length c.part_levels.new.cells) c.in_ok-cells.cells.items) len)

pub returns-clause-value : goal.returns-clause-value
returns-clause-value c = λ x y a b.
    let l = c.levels_of.ensures in
    let width = c.padded-width.ensures.width in
    let height = c.padded-width.ensures.height in
    let is = made_is c in
    let wide = ap (λ (g : Lattice). g.width) is in
    let high = ap (λ (g : Lattice). g.height) is in
    let grid = lattice c.padded-width.result.0 c.padded-width.result.1 c.part_levels.new.cells in
    let made = rw (l.levels, l.pitch, l.down, l.w, l.h) at c.part_levels.ensures in
    ap (λ (g : Lattice). cell_at g x y) is
    ∙ ap (λ f. f x y) (cell_at_plane grid
    (omega (arith, whole c.before.before.before.before.before, c.part_levels.auto.cells)))
    ∙ ap (λ f. f x y) made
    ∙ filled_levels c.args.plane.now c.padded-width.result.0 c.padded-width.result.1 c.sample_depth.result
    c.fill.new.cells
    c.fill.ensures (parameters_of c.args.plan.now) c.args.c width height c.requires.width c.requires.height
    c.sample_depth.ensures.value c.requires.symmetric x y (omega (arith, wide, width, a))
    (omega (arith, high, height, b))

pub returns-clause-small : goal.returns-clause-small
returns-clause-small c =
    let plan = c.args.plan.now in
    let l = c.levels_of in
    let made = rw (l.ensures.levels, l.ensures.pitch, l.ensures.down) at c.part_levels.ensures in
    lattice_below (2 ^ 60) c.padded-width.result.0 c.padded-width.result.1 c.new.result
    c.part_levels.new.cells
    (omega arith) (made_is c)
    (forward_below plan.wavelet plan.depth l.result.nesting.w l.result.nesting.h _ _ (omega arith) made
    (filled c.before.before.before.before.before))
