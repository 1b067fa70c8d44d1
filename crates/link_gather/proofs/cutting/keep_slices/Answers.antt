use Rattle.std.proofs.Common.{◌≡◌, ◌+◌, ◌-◌, ◌<◌, List, Some, None, length, map, sym, ap, ◌∙◌, refl, arith, rules, []}
use Rattle.link_model.specs.Books.{Slots}
use Rattle.link_gather.specs.Filling.{run_cut, slices_cut}
use Rattle.link_gather.specs.NewSlices.{PictureSlice, run_new}
use Rattle.link_gather.specs.Views.{new_slice_of}
use Rattle.link_gather.proofs.FillingLaws.{cut_within, left_none, left_cut, run_none, conflict_none, new_none}
use Rattle.link_gather.proofs.FillingLaws.{run_goes_on, conflict_goes_on, new_goes_on}
use Rattle.link_gather.proofs.NewLaws.{some_new}
use Rattle.vc_types.specs.Slices.{slice_length}
use Rattle.vc_types.specs.TransformParameters.{parameters_of}
use Rattle.vc_types.proofs.WholeSlices.{whole_slice}
use Rattle.link_gather.proofs.cutting.keep_slices.Goals as goal

pub split_to-requires : goal.split_to-requires
split_to-requires c =
    let p = parameters_of c.args.plan.now in
    let cut : slice_length p.prefix p.scaler c.loop-i.rest ≡ Some c.in-Ok.len =
    ap (slice_length p.prefix p.scaler) (sym c.as_slice.ensures) ∙ c.in-Ok.ensures.value in
    cut_within p.prefix p.scaler c.in-Ok.len c.loop-i.rest cut

pub keep-requires : goal.keep-requires
keep-requires c =
    let p = parameters_of c.args.plan.now in
    let cut : slice_length p.prefix p.scaler c.loop-i.rest ≡ Some c.in-Ok.len =
    ap (slice_length p.prefix p.scaler) (sym c.as_slice.ensures) ∙ c.in-Ok.ensures.value in
    record {
      inside = omega (arith, c.requires.inside);
      small = omega (arith, c.requires.small);
      whole = rw c.in_ok-bytes.ensures.front (whole_slice p.prefix p.scaler c.loop-i.rest c.in-Ok.len cut);
      slots = c.loop-i.invariant.slots;
    }

pub loop-i-preserved : goal.loop-i-preserved
loop-i-preserved c =
    let p = parameters_of c.args.plan.now in
    let i = c.loop-i.i in
    let slots = c.loop-i.slots in
    let rest = c.loop-i.rest in
    let end = c.args.first + c.args.part.now.count in
    let len = c.in-Ok.len in
    let bytes = c.in_ok-bytes.bytes in
    let left = c.split_to.new.self in
    let now = c.keep.new.slots in
    let below : i < end = search rules in
    let inside : i < length slots = omega (arith, c.requires.inside, c.loop-i.invariant.slots.count) in
    let cut : slice_length p.prefix p.scaler rest ≡ Some len =
    ap (slice_length p.prefix p.scaler) (sym c.as_slice.ensures) ∙ c.in-Ok.ensures.value in
    let kept = c.in_ok-keep.ensures in
    let front = c.in_ok-bytes.ensures.front in
    let behind = c.in_ok-bytes.ensures.rest in
    let before = c.loop-i.seen in
    let seen = c.keep.new.self in
    record {
      value =
          run_goes_on p slots i rest end len below inside cut bytes left front behind now kept.value
          ∙ c.loop-i.invariant.value;
      conflict =
          conflict_goes_on p slots i rest end len below inside cut bytes left front behind now kept.value
          before.conflict seen.conflict kept.conflict
          ∙ c.loop-i.invariant.conflict;
      slices =
          new_goes_on p slots i rest end len below inside cut bytes left front behind now kept.value
          (map new_slice_of before.slices.items) (map new_slice_of seen.slices.items) kept.slices
          ∙ c.loop-i.invariant.slices;
      slots = kept.slots;
    }

-- the bytes end, which has_slices rules out
cut_short : (c : goal.Joined-rest-2) → slices_cut (parameters_of c.args.plan.now) (c.args.first + c.args.part.now.count - c.loop-i.i) c.loop-i.rest ≡ []
cut_short c =
    let p = parameters_of c.args.plan.now in
    left_cut p c.loop-i.slots c.loop-i.i c.loop-i.rest (c.args.first + c.args.part.now.count) (search rules)
    (ap (slice_length p.prefix p.scaler) (sym c.as_slice.ensures) ∙ c.in_default.ensures.short_exactly.0 refl)

pub returns-in_default-clause-value : goal.returns-in_default-clause-value
returns-in_default-clause-value c =
    sym (run_none (parameters_of c.args.plan.now) c.loop-i.slots c.loop-i.i c.loop-i.rest _ (cut_short c))
    ∙ c.loop-i.invariant.value

pub returns-in_default-clause-conflict : goal.returns-in_default-clause-conflict
returns-in_default-clause-conflict c =
    sym (conflict_none (parameters_of c.args.plan.now) c.loop-i.slots c.loop-i.i c.loop-i.rest _ (cut_short c) c.loop-i.seen.conflict)
    ∙ c.loop-i.invariant.conflict

all_new_cut_short : (c : goal.Joined-rest-2) → map new_slice_of c.loop-i.seen.slices.items
    ≡ run_new (parameters_of c.args.plan.now) c.args.slots.now
    (run_cut (parameters_of c.args.plan.now) c.args.first c.args.part.now.count c.args.part.now.body)
all_new_cut_short c =
    sym (new_none (parameters_of c.args.plan.now) c.loop-i.slots c.loop-i.i c.loop-i.rest _ (cut_short c)
    (map new_slice_of c.loop-i.seen.slices.items))
    ∙ c.loop-i.invariant.slices

pub returns-in_default-clause-slices : goal.returns-in_default-clause-slices
returns-in_default-clause-slices c = all_new_cut_short c

pub returns-in_default-clause-some : goal.returns-in_default-clause-some
returns-in_default-clause-some c =
    let p = parameters_of c.args.plan.now in
    some_new p c.args.slots.now (run_cut p c.args.first c.args.part.now.count c.args.part.now.body)
    new_slice_of c.loop-i.seen.slices.items (all_new_cut_short c)

none_behind : (c : goal.Joined-rest-5) → slices_cut (parameters_of c.args.plan.now) (c.args.first + c.args.part.now.count - c.loop-i.i) c.loop-i.rest ≡ []
none_behind c =
    left_none (parameters_of c.args.plan.now) c.loop-i.slots c.loop-i.i c.loop-i.rest
    (c.args.first + c.args.part.now.count) (search rules)

pub returns-clause-value : goal.returns-clause-value
returns-clause-value c =
    sym (run_none (parameters_of c.args.plan.now) c.loop-i.slots c.loop-i.i c.loop-i.rest _ (none_behind c))
    ∙ c.loop-i.invariant.value

pub returns-clause-conflict : goal.returns-clause-conflict
returns-clause-conflict c =
    sym (conflict_none (parameters_of c.args.plan.now) c.loop-i.slots c.loop-i.i c.loop-i.rest _ (none_behind c) c.loop-i.seen.conflict)
    ∙ c.loop-i.invariant.conflict

all_new : (c : goal.Joined-rest-5) → map new_slice_of c.loop-i.seen.slices.items
    ≡ run_new (parameters_of c.args.plan.now) c.args.slots.now
    (run_cut (parameters_of c.args.plan.now) c.args.first c.args.part.now.count c.args.part.now.body)
all_new c =
    sym (new_none (parameters_of c.args.plan.now) c.loop-i.slots c.loop-i.i c.loop-i.rest _ (none_behind c)
    (map new_slice_of c.loop-i.seen.slices.items))
    ∙ c.loop-i.invariant.slices

pub returns-clause-slices : goal.returns-clause-slices
returns-clause-slices c = all_new c

pub returns-clause-some : goal.returns-clause-some
returns-clause-some c =
    let p = parameters_of c.args.plan.now in
    some_new p c.args.slots.now (run_cut p c.args.first c.args.part.now.count c.args.part.now.body)
    new_slice_of c.loop-i.seen.slices.items (all_new c)
