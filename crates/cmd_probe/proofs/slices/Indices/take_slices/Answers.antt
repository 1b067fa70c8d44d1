use Rattle.std.proofs.Common.{ℕ, List, ap, sym, ◌∙◌}
use Rattle.cmd_probe.proofs.SlicesBehind.{none_read, one_read}
use Rattle.cmd_probe.specs.declared.slices.Indices.{Indices}
use Rattle.cmd_probe.proofs.slices.Indices.take_slices.Goals as goal

pub returns-in-None : goal.returns-in-None
returns-in-None c =
    let none = rw (c.from.ensures, c.from-in-loop-slice.ensures) at c.in-None.ensures.value in
    ap (λ (left : List ℕ × Indices). left.1)
    (sym (none_read c.args.prefix c.args.scaler c.args.count c.loop-slice._slice c.loop-slice.rest.now c.loop-slice.self none)
    ∙ c.loop-slice.invariant)

pub loop-slice-preserved : goal.loop-slice-preserved
loop-slice-preserved c =
    let read = rw (c.from.ensures, c.from-in-loop-slice.ensures) at c.in-Some.ensures.value in
    rw c.take.ensures
    (one_read c.args.prefix c.args.scaler c.args.count c.loop-slice._slice c.loop-slice.rest.now c.loop-slice.self _
    c.loop-slice-test.true read
    ∙ c.loop-slice.invariant)
