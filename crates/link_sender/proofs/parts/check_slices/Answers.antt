use Rattle.std.proofs.Common.{◌≡◌, ◌+◌, ◌-◌, ◌≤◌, ap, refl, sym, ◌∙◌, arith, rules}
use Rattle.link_model.specs.Kept.{next_slices}
use Rattle.stream_model.specs.Packing.{first_large_slice, slices_in}
use Rattle.vc_types.specs.Subbands.{slice_count}
use Rattle.vc_types.specs.TransformParameters.{parameters_of}
use Rattle.link_sender.proofs.Cutting.{cut_off_front, none_is_left, one_is_there}
use Rattle.link_sender.proofs.Rooms.{large_behind, large_here, none_large}
use Rattle.link_sender.proofs.parts.check_slices.Goals as goal

pub loop-index-init : goal.loop-index-init
loop-index-init c =
    let p = parameters_of c.args.plan.now in
    let same : slice_count p - 0 ≡ slice_count p = omega arith in (
      slices_in p c.args.slices.now,
      ap (λ n. next_slices p n c.args.slices.now) same ∙ c.requires.whole,
      refl,
    )

pub next_slice-requires : goal.next_slice-requires
next_slice-requires c =
    let p = parameters_of c.args.plan.now in
    let n = slice_count p in
    let left = c.loop-index.invariant in
    one_is_there p (n - c.loop-index.index) (n - (c.loop-index.index + 1)) c.loop-index.rest.now left.0 (omega (arith, c.loop-index-test.true)) left.1

pub returns-then-slice-room-clause-refused : goal.returns-then-slice-room-clause-refused
returns-then-slice-room-clause-refused c =
    let p = parameters_of c.args.plan.now in
    let n = slice_count p in
    let i = c.loop-index.index in
    let left = c.loop-index.invariant in
    let one = cut_off_front p (n - i) (n - (i + 1)) c.loop-index.rest.now c.next_slice.result.0.now c.next_slice.result.1.now left.0 (omega (arith, c.loop-index-test.true)) left.1 c.next_slice.ensures in
    rw c.too_large.ensures (sym left.2 ∙ ap (first_large_slice c.args.room i) one.2 ∙ large_here c.args.room i c.next_slice.result.0.now one.0 (omega arith))

pub loop-index-preserved : goal.loop-index-preserved
loop-index-preserved c =
    let p = parameters_of c.args.plan.now in
    let n = slice_count p in
    let i = c.loop-index.index in
    let left = c.loop-index.invariant in
    let one = cut_off_front p (n - i) (n - (i + 1)) c.loop-index.rest.now c.next_slice.result.0.now c.next_slice.result.1.now left.0 (omega (arith, c.loop-index-test.true)) left.1 c.next_slice.ensures in (
      one.0,
      one.1,
      sym (large_behind c.args.room i c.next_slice.result.0.now one.0 (omega arith)) ∙ ap (first_large_slice c.args.room i) (sym one.2) ∙ left.2,
    )

pub returns-clause-fits : goal.returns-clause-fits
returns-clause-fits c =
    let p = parameters_of c.args.plan.now in
    let n = slice_count p in
    let i = c.loop-index.index in
    let left = c.loop-index.invariant in
    let past : n ≤ i = search rules in
    sym left.2 ∙ ap (first_large_slice c.args.room i) (none_is_left p (n - i) c.loop-index.rest.now left.0 (omega (arith, past)) left.1) ∙ none_large c.args.room i
