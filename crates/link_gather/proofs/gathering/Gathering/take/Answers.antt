use Rattle.std.proofs.Common.{ap, sym, ◌∙◌, map}
use Rattle.link_model.specs.Books.{Gathered, slot_at, gathers_run, gathers, gathered_outcome}
use Rattle.link_model.specs.Judgement.{run_outcome}
use Rattle.link_model.specs.Kept.{KeptParameters}
use Rattle.link_gather.specs.Views.{new_slice_of, slice_part_of}
use Rattle.link_gather.proofs.NewLaws.{cut_brings, nothing_new}
use Rattle.vc_types.specs.TransformParameters.{parameters_of}
use Rattle.link_gather.proofs.gathering.Gathering.take.Goals as goal

pub returns-in-Err-clause-outcome : goal.returns-in-Err-clause-outcome
returns-in-Err-clause-outcome c =
    c.nothing.ensures.outcome
    ∙ sym (ap (run_outcome (slot_at c.self.inside.slots)) c.in-Err.ensures.refused)
    ∙ ap (λ (g : Gathered). gathered_outcome g (slice_part_of c.args.part.now)) c.self.view_is

pub returns-in-Err-clause-value : goal.returns-in-Err-clause-value
returns-in-Err-clause-value c =
    let plan : KeptParameters =
    record { parameters = parameters_of c.self.inside.plan; bytes = c.self.inside.bytes } in
    sym (ap (λ (g : Gathered). gathers g (slice_part_of c.args.part.now)) (sym c.self.view_is)
    ∙ ap (gathers_run (record { plan = plan; slots = c.self.inside.slots })) c.in-Err.ensures.refused
    ∙ c.self.view_is)

pub returns-in-Err-clause-slices : goal.returns-in-Err-clause-slices
returns-in-Err-clause-slices c = ap (map new_slice_of) c.nothing.ensures.slices ∙ nothing_new c.args.self.now

pub returns-in_ok-seen-in-Ok-clause-slices : goal.returns-in_ok-seen-in-Ok-clause-slices
returns-in_ok-seen-in-Ok-clause-slices c =
    let plan : KeptParameters =
    record { parameters = parameters_of c.self.inside.plan; bytes = c.self.inside.bytes } in
    rw (← c.self.view_is) (c.in_ok-seen-in-Ok.ensures.slices
    ∙ cut_brings plan c.self.inside.slots c.keep_slices.new.slots c.in-Ok.first
    c.args.part.now.count c.args.part.now.body c.self.invariant c.keep_slices.ensures.slots
    c.in-Ok.ensures.inside c.in_ok-seen-in-Ok.ensures.value)
