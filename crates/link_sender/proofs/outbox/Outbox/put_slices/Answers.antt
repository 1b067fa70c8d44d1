use Rattle.std.proofs.Common.{◌≡◌, ◌+◌, ◌-◌, ◌<◌, ◌≤◌, ◌^◌, ◌++◌, [], ◌∷◌, List, ℕ, refl, sym, ap, subst, ◌∙◌, arith, rules, append_assoc, append-nil}
use Rattle.std.proofs.lemmas.Grind.{common_steps}
use Rattle.link_model.specs.Kept.{next_slices}
use Rattle.link_model.proofs.Slots.{next_slices-count}
use Rattle.stream_model.specs.Packing.{first_large_slice, slices_in, slices_room}
use Rattle.link_sender.specs.Runs.{EndsRun, PacksSlices}
use Rattle.link_sender.proofs.Cutting.{cut_off_front, none_is_left, one_is_there, some_bytes}
use Rattle.link_sender.proofs.Numbered.{then_ok}
use Rattle.link_sender.proofs.PutPictures.{some_slices, none_packed, starts, whole_packed}
use Rattle.link_sender.proofs.PayloadLengths.{some_room}
use Rattle.link_sender.proofs.Rooms.{first_fits}
use Rattle.vc_types.specs.SenderSettings.{packing_view}
use Rattle.vc_types.specs.Subbands.{slice_count}
use Rattle.vc_types.specs.TransformParameters.{parameters_of}
use Rattle.link_sender.proofs.outbox.Outbox.put_slices.Goals as goal

pub loop-slice-init : goal.loop-slice-init
loop-slice-init c =
    let picture = c.args.p.now in
    let p = parameters_of picture.plan.now in
    let same : slice_count p - 0 ≡ slice_count p = omega arith in
    let room = some_room picture.settings.size picture.settings.size_fits in
    let zero = c.new-run.ensures.numbers in
    let small : c.args.self.now.sequence < 2 ^ 32 = omega arith in (
      [],
      slices_in p c.args.slices.now,
      refl,
      ap (λ n. next_slices p n c.args.slices.now) same ∙ c.requires.whole,
      c.requires.fits,
      starts (packing_view picture.settings) c.new-run.result room zero.0 zero.1 c.new-run.ensures.body,
      none_packed picture c.args.self.now c.new-run.result small zero.0 zero.1 c.new-run.ensures.body,
    )

pub next_slice-requires : goal.next_slice-requires
next_slice-requires c =
    let p = parameters_of c.args.p.now.plan.now in
    let n = slice_count p in
    let at = c.loop-slice.invariant in
    one_is_there p (n - c.loop-slice._slice) (n - (c.loop-slice._slice + 1)) c.loop-slice.rest.now at.1 (omega (arith, c.loop-slice-test.true)) at.3

pub pack-requires-clause-run : goal.pack-requires-clause-run
pack-requires-clause-run c = grind (arith, common_steps)

pub pack-requires-clause-behind : goal.pack-requires-clause-behind
pack-requires-clause-behind c = omega (arith, c.loop-slice.invariant.5.end, c.loop-slice-test.true)

pub pack-requires-clause-fits : goal.pack-requires-clause-fits
pack-requires-clause-fits c =
    let p = parameters_of c.args.p.now.plan.now in
    let n = slice_count p in
    let i = c.loop-slice._slice in
    let at = c.loop-slice.invariant in
    let slice = c.next_slice.result.0.now in
    let one = cut_off_front p (n - i) (n - (i + 1)) c.loop-slice.rest.now slice c.next_slice.result.1.now at.1 (omega (arith, c.loop-slice-test.true)) at.3 c.next_slice.ensures in
    let room = slices_room (packing_view c.args.p.now.settings) in
    let fits = (first_fits room i slice one.0 (ap (first_large_slice room i) (sym one.2) ∙ at.4)).0 in
    let wide = some_room c.args.p.now.settings.size c.args.p.now.settings.size_fits in
    record { some = some_bytes p c.loop-slice.rest.now slice c.next_slice.result.1.now c.next_slice.ensures; room = omega (arith, fits, wide) }

pub loop-slice-preserved : goal.loop-slice-preserved
loop-slice-preserved c =
    let picture = c.args.p.now in
    let p = parameters_of picture.plan.now in
    let n = slice_count p in
    let i = c.loop-slice._slice in
    let at = c.loop-slice.invariant in
    let slice = c.next_slice.result.0.now in
    let one = cut_off_front p (n - i) (n - (i + 1)) c.loop-slice.rest.now slice c.next_slice.result.1.now at.1 (omega (arith, c.loop-slice-test.true)) at.3 c.next_slice.ensures in
    let room = slices_room (packing_view picture.settings) in
    let ends = at.5 in (
      at.0 ++ slice ∷ [],
      one.0,
      at.2 ∙ ap (λ l. at.0 ++ l) one.2 ∙ sym (append_assoc at.0 (slice ∷ []) one.0),
      one.1,
      (first_fits room i slice one.0 (ap (first_large_slice room i) (sym one.2) ∙ at.4)).1,
      subst (λ (k : ℕ). EndsRun (packing_view picture.settings) k c.pack.new.run) (ap (λ k. k + 1) ends.end) c.in_ok-pack.ensures.run,
      c.in_ok-pack.ensures.packed at.0 c.args.self.now at.6,
    )

pub put_run-requires-clause-some : goal.put_run-requires-clause-some
put_run-requires-clause-some c = grind (arith, common_steps, some_slices)

pub put_run-requires-clause-end : goal.put_run-requires-clause-end
put_run-requires-clause-end c =
    let ends = c.loop-slice.invariant.5 in
    omega (arith, ends.end)

pub put_run-requires-clause-body : goal.put_run-requires-clause-body
put_run-requires-clause-body c = c.loop-slice.invariant.5.body

pub put_run-requires-clause-fits : goal.put_run-requires-clause-fits
put_run-requires-clause-fits c = c.loop-slice.invariant.5.fits

pub returns : goal.returns
returns c =
    let picture = c.args.p.now in
    let p = parameters_of picture.plan.now in
    let n = slice_count p in
    let i = c.loop-slice._slice in
    let at = c.loop-slice.invariant in
    let past : n ≤ i = search rules in
    let none = none_is_left p (n - i) c.loop-slice.rest.now at.1 (omega (arith, past)) at.3 in
    let all : slices_in p c.args.slices.now ≡ at.0 = at.2 ∙ ap (λ l. at.0 ++ l) none ∙ append-nil at.0 in
    let packed : PacksSlices picture (slices_in p c.args.slices.now) c.args.self.now c.loop-slice.self c.loop-slice.run = subst (λ (l : List (List ℕ)). PacksSlices picture l c.args.self.now c.loop-slice.self c.loop-slice.run) (sym all) at.6 in
    let many = next_slices-count p n c.args.slices.now (slices_in p c.args.slices.now, []) c.requires.whole in
    let some = some_slices picture.plan.now.slices_x picture.plan.now.slices_y picture.plan.now.slices in
    then_ok c.put_run.result c.put_run.ensures
    (whole_packed picture (slices_in p c.args.slices.now) c.args.self.now c.loop-slice.self c.put_run.new.self c.loop-slice.run (omega (arith, some, many))
    (λ slice behind is. (first_fits (slices_room (packing_view picture.settings)) 0 slice behind (ap (first_large_slice (slices_room (packing_view picture.settings)) 0) (sym is) ∙ c.requires.fits)).0) packed)
