use Rattle.std.proofs.Common.{◌≡◌, ℕ, List, Some, ap, sym, ◌∙◌}
use Rattle.std.specs.Prelude.{position}
use Rattle.cmd_probe.proofs.Changes.{counted}
use Rattle.cmd_probe.specs.Steps.{has_ticks, with_step}
use Rattle.cmd_probe.specs.declared.steps.Step.{Step}
use Rattle.cmd_probe.proofs.steps.Steps.count.Goals as goal

pub returns-in-Some : goal.returns-in-Some
returns-in-Some c =
    let l = c.self.inside.list.items in
    let d = c.index_mut-step.result.now in
    let found : position (has_ticks c.args.ticks) l ≡ Some c.in-Some.place =
    ap (position (has_ticks c.args.ticks)) (sym c.deref.ensures.value) ∙ sym c.place_of.ensures.value ∙ c.in-Some.is in
    counted l c.args.ticks c.in-Some.place d _ found c.index_mut-step.ensures.value
    (ap (λ (n : ℕ). record d { times = n }) c.one_more-step.ensures)
    ∙ ap (λ (s : List Step). with_step s c.args.ticks) c.self.view_is
