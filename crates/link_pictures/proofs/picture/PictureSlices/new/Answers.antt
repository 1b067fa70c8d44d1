use Rattle.std.proofs.Common.{◌≡◌, ◌*◌, ◌≤◌, ℕ, None, arith, replicate, rules, Fits, w32}
use Rattle.std.proofs.lemmas.Bool.{and_parts, leb-true}
use Rattle.std.specs.Prelude.{IsTrue, ◌&&◌, nat_le}
use Rattle.link_pictures.proofs.SeenSlots.{seen_none, entries_none}
use Rattle.vc_types.specs.Limits.{slice_count_fits, slices_fit}
use Rattle.vc_types.specs.Subbands.{slice_count}
use Rattle.vc_types.specs.TransformParameters.{parameters_of}
use Rattle.link_pictures.proofs.picture.PictureSlices.new.Goals as goal

-- the number of slices is at most 131,072, as slices_fit says
count_fits : (across down : ℕ) → IsTrue (slices_fit across down) → Fits w32 (across * down)
count_fits across down fit =
    let few : across * down ≤ 131072 =
    leb-true (across * down) 131072 (and_parts (slice_count_fits across && slice_count_fits down)
    (nat_le (across * down) 131072) fit).1 in
    omega arith

pub overflow_mul-plan : goal.overflow_mul-plan
overflow_mul-plan c = count_fits c.args.plan.slices_x c.args.plan.slices_y c.args.plan.slices

pub invariant_of-result : goal.invariant_of-result
invariant_of-result c =
    let p = parameters_of c.args.plan in
    entries_none p c.in_ok-builder.builder c.in_ok-unsound.unsound.items c.in_ok-builder.ensures.value
    (search rules)

pub returns : goal.returns
returns c =
    let p = parameters_of c.args.plan in
    let none : c.in_ok-unsound.unsound.items ≡ replicate (slice_count p) None = search rules in
    record { value = seen_none c.args.number p c.in_ok-builder.builder c.in_ok-unsound.unsound.items c.in_ok-builder.ensures.value none }
