use Rattle.std.proofs.Common.{ap}
use Rattle.link_model.specs.Books.{Gathered, Slots}
use Rattle.link_model.specs.Kept.{KeptParameters}
use Rattle.link_gather.proofs.Places.{count_fits}
use Rattle.link_gather.proofs.NewLaws.{empty_whole}
use Rattle.vc_types.specs.TransformParameters.{parameters_of}
use Rattle.link_gather.proofs.gathering.Gathering.new.Goals as goal

abbrev with_slots : KeptParameters → Slots → Gathered
with_slots plan slots = record { plan = plan; slots = slots }

pub overflow_mul-plan : goal.overflow_mul-plan
overflow_mul-plan c =
    count_fits c.args.plan.slices_x c.args.plan.slices_y c.args.plan.slices

pub invariant_of-result : goal.invariant_of-result
invariant_of-result c =
    empty_whole (parameters_of c.args.plan) c.in_ok-slots.slots c.in_ok-slots.ensures

pub returns : goal.returns
returns c =
    let plan : KeptParameters = record { parameters = parameters_of c.args.plan; bytes = c.args.bytes } in
    ap (with_slots plan) c.in_ok-slots.ensures
