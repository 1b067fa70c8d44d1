use Rattle.std.proofs.Common.{◌≡◌, ◌+◌, ◌<◌, ◌≤◌, ◌^◌, List, ℕ, length, take, sym, ap, subst, ◌∙◌, arith, All}
use Rattle.std.proofs.lemmas.List.{length-append, length-map, take_all}
use Rattle.std.proofs.lemmas.List.Elements.{All-head}
use Rattle.picture_encode.specs.IndexedSlices.{IndexedSlice}
use Rattle.picture_encode.specs.Encoded.{bytes_of_slices}
use Rattle.vc_types.specs.Fields.{joined}
use Rattle.vc_types.specs.SenderSettings.{packing_view}
use Rattle.link_sender.specs.Runs.{EndsRun, FitsRun, PacksSlices}
use Rattle.link_sender.proofs.Numbered.{then_ok}
use Rattle.link_sender.proofs.PackedRuns.{bytes_more, next_run, next_within, run_fits}
use Rattle.link_sender.proofs.PutPictures.{some_slices, none_packed, starts, whole_packed}
use Rattle.link_sender.proofs.PayloadLengths.{some_room}
use Rattle.link_sender.proofs.outbox.Outbox.put_encoded.Goals as goal

pub loop-run-init : goal.loop-run-init
loop-run-init c =
    let p = c.args.p.now in
    let zero = c.new-open.ensures.numbers in
    let small : c.args.self.now.sequence < 2 ^ 32 = omega arith in
    record {
      run = starts (packing_view p.settings) c.new-open.result (some_room p.settings.size p.settings.size_fits) zero.0 zero.1 c.new-open.ensures.body;
      packed = none_packed p c.args.self.now c.new-open.result small zero.0 zero.1 c.new-open.ensures.body;
    }

pub pack_all-requires-clause-run : goal.pack_all-requires-clause-run
pack_all-requires-clause-run c =
    subst (λ (n : ℕ). EndsRun (packing_view c.args.p.now.settings) n c.loop-run.open) (sym c.loop-run.invariant.run.end) c.loop-run.invariant.run

pub pack_all-requires-clause-behind : goal.pack_all-requires-clause-behind
pack_all-requires-clause-behind c =
    let inside : c.loop-run.run-index < length c.args.runs.now = omega arith in
    let within = next_within c.args.runs.now c.loop-run.run-index c.run-item.result inside c.run-item.is in
    let end = c.loop-run.invariant.run.end in
    omega (arith, within, end, c.requires.count)

pub pack_all-requires-clause-fit : goal.pack_all-requires-clause-fit
pack_all-requires-clause-fit c =
    let inside : c.loop-run.run-index < length c.args.runs.now = omega arith in
    run_fits (FitsRun (packing_view c.args.p.now.settings)) c.args.runs.now c.loop-run.run-index c.run-item.result inside c.run-item.is c.requires.fit

pub loop-run-preserved : goal.loop-run-preserved
loop-run-preserved c =
    let p = c.args.p.now in
    let runs = c.args.runs.now in
    let i = c.loop-run.run-index in
    let item = c.run-item.result in
    let inside : i < length runs = omega arith in
    let next = next_run runs i item inside c.run-item.is in
    let end = c.loop-run.invariant.run.end in
    let long = ap length next ∙ length-append (joined (take i runs)) item in
    let behind : c.loop-run.open.first + c.loop-run.open.count + length item ≡ length (joined (take (i + 1) runs)) = omega (arith, end, long) in
    record {
      run = subst (λ (n : ℕ). EndsRun (packing_view p.settings) n c.pack_all.new.run) behind c.in_ok-pack_all.ensures.run;
      packed = subst (λ (l : List (List ℕ)). PacksSlices p l c.args.self.now c.pack_all.new.self c.pack_all.new.run) (bytes_more (joined (take i runs)) item (joined (take (i + 1) runs)) next)
          (c.in_ok-pack_all.ensures.packed (bytes_of_slices (joined (take i runs))) c.args.self.now c.loop-run.invariant.packed);
    }

pub returns : goal.returns
returns c =
    let p = c.args.p.now in
    let slices = bytes_of_slices (joined c.args.runs.now) in
    let long = length-map (joined c.args.runs.now) (λ (e : IndexedSlice). e.bytes) in
    let last : length c.args.runs.now ≤ c.loop-run.run-index = omega arith in
    let some = some_slices p.plan.now.slices_x p.plan.now.slices_y p.plan.now.slices in
    let all : PacksSlices p slices c.args.self.now c.loop-run.self c.loop-run.open =
    subst (λ (l : List (List IndexedSlice)). PacksSlices p (bytes_of_slices (joined l)) c.args.self.now c.loop-run.self c.loop-run.open) (take_all c.loop-run.run-index c.args.runs.now last) c.loop-run.invariant.packed in
    then_ok c.put_run.result c.put_run.ensures
    (whole_packed p slices c.args.self.now c.loop-run.self c.put_run.new.self c.loop-run.open (omega (arith, long, some, c.requires.count))
    (λ slice behind is. (let one = All-head (FitsRun (packing_view p.settings)) slice behind (subst (λ l. All (FitsRun (packing_view p.settings)) l) is c.requires.fit) in omega (arith, one.room))) all)
