use Rattle.std.proofs.Common.{rules, ap, ◌∙◌}
use Rattle.std.proofs.lemmas.Fn.{filter_same}
use Rattle.std.specs.Prelude.{filter}
use Rattle.receiver_model.specs.Releasing.{is_of_other}
use Rattle.link_slices.proofs.OutSlices.{below_filter}
use Rattle.link_slices.proofs.runs_out.RunsOut.free_picture.Goals as goal

pub returns-clause-out : goal.returns-clause-out
returns-clause-out g c =
    filter_same _ (is_of_other c.args.number) _ (λ x b f k. search rules) _ _ c.retain.ensures.filtered
    ∙ ap (filter (is_of_other c.args.number)) c.self.view_is

pub returns-clause-below : goal.returns-clause-below
returns-clause-below g c =
    let left = filter_same _ (is_of_other c.args.number) _ (λ x b f k. search rules) _ _ c.retain.ensures.filtered in
    rw (left, c.self.view_is, c.free_runs.ensures.bound) (below_filter (g.P.Places.bound c.args.places.now) (is_of_other c.args.number)
    c.args.self.now c.requires.below)
