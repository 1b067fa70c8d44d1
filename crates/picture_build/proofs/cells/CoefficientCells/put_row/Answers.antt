use Rattle.std.proofs.Common.{◌≡◌, arith, sym, ap, ◌∙◌, ◌+◌, length, drop, take, ◌++◌}
use Rattle.vc_types.specs.Lifting.{line_of}
use Rattle.picture_build.specs.Cells.{cells_in}
use Rattle.picture_build.proofs.GridCells.{written_over}
use Rattle.picture_build.proofs.TwoParts.{length_seen, written_length, written_off, written_low}
use Rattle.picture_build.proofs.cells.CoefficientCells.put_row.Goals as goal

pub copy_row-requires-clause-at : goal.copy_row-requires-clause-at
copy_row-requires-clause-at c =
    let long = length_seen c.self.inside.is_wide c.self.inside.high.items c.self.inside.low.items c.args.self.now c.self.view_is c.self.invariant.even in
    let same = ap length c.deref_mut.ensures.value in
    omega (arith, long, c.requires.at, same)

pub clear_row-requires : goal.clear_row-requires
clear_row-requires c =
    let long = length_seen c.self.inside.is_wide c.self.inside.high.items c.self.inside.low.items c.args.self.now c.self.view_is c.self.invariant.even in
    let same = ap length c.deref_mut-then-self.ensures.value in
    record { at = omega (arith, long, c.requires.at, same, c.self.invariant.even c.if-self.true) }

low_long : (c : goal.After-self-then-self-1) → length c.copy_row.new.cells ≡ length c.self.inside.low.items
low_long c = c.copy_row.ensures.length ∙ ap length c.deref_mut.ensures.value

high_long : (c : goal.After-self-then-self-1) → length c.clear_row.new.cells ≡ length c.self.inside.high.items
high_long c = c.clear_row.ensures.length ∙ ap length c.deref_mut-then-self.ensures.value

even : (c : goal.After-self-then-self-1) → length c.clear_row.new.cells ≡ length c.copy_row.new.cells
even c = high_long c ∙ c.self.invariant.even c.if-self.true ∙ sym (low_long c)

-- what the parts are then
cells_are : (c : goal.After-self-then-self-1)
    → cells_in c.self.inside.is_wide (take c.self.inside.high.len (c.clear_row.new.cells ++ drop (length c.clear_row.new.cells) c.self.inside.high.items)) (take c.self.inside.low.len (c.copy_row.new.cells ++ drop (length c.copy_row.new.cells) c.self.inside.low.items))
    ≡ cells_in c.self.inside.is_wide c.clear_row.new.cells c.copy_row.new.cells
cells_are c =
    ap (λ zs. cells_in c.self.inside.is_wide zs (take c.self.inside.low.len (c.copy_row.new.cells ++ drop (length c.copy_row.new.cells) c.self.inside.low.items))) (written_over c.self.inside.high.len c.clear_row.new.cells (drop (length c.clear_row.new.cells) c.self.inside.high.items) (let same = high_long c in omega (arith, same, c.self.inside.high.ok.0)))
    ∙ ap (cells_in c.self.inside.is_wide c.clear_row.new.cells) (written_over c.self.inside.low.len c.copy_row.new.cells (drop (length c.copy_row.new.cells) c.self.inside.low.items) (let same = low_long c in omega (arith, same, c.self.inside.low.ok.0)))

pub returns-then-self-clause-on : goal.returns-then-self-clause-on
returns-then-self-clause-on c = λ x h.
    ap (λ zs. line_of zs (c.args.at + x)) (cells_are c)
    ∙ written_low c.self.inside.is_wide c.self.inside.high.items c.self.inside.low.items c.args.self.now c.self.view_is c.self.invariant.even c.if-self.true c.clear_row.new.cells c.copy_row.new.cells (even c) (c.args.at + x) (line_of c.args.numbers.now (c.args.from + x)) (c.clear_row.ensures.on x h) (c.copy_row.ensures.on x h)

pub returns-then-self-clause-off : goal.returns-then-self-clause-off
returns-then-self-clause-off c = λ k outside.
    ap (λ zs. line_of zs k) (cells_are c)
    ∙ written_off c.self.inside.is_wide c.self.inside.high.items c.self.inside.low.items c.args.self.now c.self.view_is c.self.invariant.even c.if-self.true c.clear_row.new.cells c.copy_row.new.cells (even c) k
    (c.clear_row.ensures.off k outside ∙ ap (λ xs. line_of xs k) c.deref_mut-then-self.ensures.value)
    (c.copy_row.ensures.off k outside ∙ ap (λ xs. line_of xs k) c.deref_mut.ensures.value)

pub returns-then-self-clause-length : goal.returns-then-self-clause-length
returns-then-self-clause-length c =
    ap length (cells_are c)
    ∙ written_length c.self.inside.is_wide c.self.inside.high.items c.self.inside.low.items c.args.self.now c.self.view_is c.self.invariant.even c.if-self.true c.clear_row.new.cells c.copy_row.new.cells (even c) (low_long c)
