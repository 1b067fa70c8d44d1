use Rattle.std.proofs.Common.{◌≡◌, Some, None, ap, sym, ◌∙◌, arith}
use Rattle.std.specs.Prelude.{◌==◌, filter, position}
use Rattle.receiver_model.specs.Exchanging.{not_at}
use Rattle.receiver_model.specs.Receptions.{RunOut}
use Rattle.link_slices.proofs.OutRuns.{forgets_all, forgets_one}
use Rattle.link_slices.proofs.runs_out.RunsOut.forget.Goals as goal

pub loop-i-init : goal.loop-i-init
loop-i-init c = ap (filter (not_at c.args.place)) c.self.view_is

pub loop-i-preserved : goal.loop-i-preserved
loop-i-preserved c =
    let found : position (λ (run : RunOut). run.place == c.args.place) c.loop-i.self-inside.runs.items ≡ Some c.in-Some.i =
    ap (position (λ (run : RunOut). run.place == c.args.place)) (sym c.deref.ensures.value) ∙ sym c.index_at.ensures ∙ c.in-Some.is in
    ap (filter (not_at c.args.place)) c.remove.ensures.items
    ∙ forgets_one c.args.place c.loop-i.self-inside.runs.items c.in-Some.i c.remove.result found ∙ c.loop-i.invariant

pub loop-i-smaller : goal.loop-i-smaller
loop-i-smaller c = omega (arith, c.remove.ensures.len)

pub returns : goal.returns
returns c =
    let none : position (λ (run : RunOut). run.place == c.args.place) c.loop-i.self-inside.runs.items ≡ None =
    ap (position (λ (run : RunOut). run.place == c.args.place)) (sym c.deref.ensures.value) ∙ sym c.index_at.ensures ∙ c.in_default.is in
    sym (forgets_all c.args.place c.loop-i.self-inside.runs.items none) ∙ c.loop-i.invariant
