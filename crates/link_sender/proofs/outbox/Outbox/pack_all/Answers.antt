use Rattle.std.proofs.Common.{◌≡◌, ◌+◌, ◌<◌, ◌≤◌, List, [], ◌∷◌, ◌++◌, ℕ, append_assoc, length, take, sym, ap, subst, ◌∙◌, arith}
use Rattle.std.proofs.lemmas.List.{append-nil, length-map, take_all}
use Rattle.std.proofs.lemmas.List.Elements.{All-get_or}
use Rattle.picture_encode.specs.IndexedSlices.{IndexedSlice}
use Rattle.picture_encode.specs.Encoded.{bytes_of_slices}
use Rattle.vc_types.specs.SenderSettings.{packing_view}
use Rattle.link_sender.specs.Runs.{EndsRun, FitsRun, PacksSlices}
use Rattle.link_sender.proofs.PackedRuns.{next_slice}
use Rattle.link_sender.proofs.outbox.Outbox.pack_all.Goals as goal

pub loop-number-init : goal.loop-number-init
loop-number-init c =
    let p = c.args.p.now in
    let run = c.args.run.now in
    let none : run.first + run.count ≡ run.first + run.count + 0 = omega arith in
    record {
      run = subst (λ (n : ℕ). EndsRun (packing_view p.settings) n run) none c.requires.run;
      packed = λ before first packed. subst (λ (l : List (List ℕ)). PacksSlices p l first c.args.self.now run) (sym (append-nil before)) packed;
    }

pub pack-requires-clause-run : goal.pack-requires-clause-run
pack-requires-clause-run c =
    subst (λ (n : ℕ). EndsRun (packing_view c.args.p.now.settings) n c.loop-number.run) (sym c.loop-number.invariant.run.end) c.loop-number.invariant.run

pub pack-requires-clause-fits : goal.pack-requires-clause-fits
pack-requires-clause-fits c =
    let s = packing_view c.args.p.now.settings in
    let slices = bytes_of_slices c.args.slices.now in
    let long = length-map c.args.slices.now (λ (e : IndexedSlice). e.bytes) in
    let inside : c.loop-number.number < length slices = omega (arith, long) in
    subst (λ (l : List ℕ). FitsRun s l) (sym c.slice.ensures) (All-get_or (FitsRun s) slices c.loop-number.number [] inside c.requires.fit)

pub loop-number-preserved : goal.loop-number-preserved
loop-number-preserved c =
    let p = c.args.p.now in
    let start = c.args.run.now.first + c.args.run.now.count in
    let slices = bytes_of_slices c.args.slices.now in
    let i = c.loop-number.number in
    let long = length-map c.args.slices.now (λ (e : IndexedSlice). e.bytes) in
    let inside : i < length slices = omega (arith, long) in
    let end = c.loop-number.invariant.run.end in
    let behind : c.loop-number.run.first + c.loop-number.run.count + 1 ≡ start + (i + 1) = omega (arith, end) in
    let next : take i slices ++ c.slice.result.now ∷ [] ≡ take (i + 1) slices = ap (λ (l : List ℕ). take i slices ++ l ∷ []) c.slice.ensures ∙ sym (next_slice slices i inside) in
    record {
      run = subst (λ (n : ℕ). EndsRun (packing_view p.settings) n c.pack.new.run) behind c.in_ok-pack.ensures.run;
      packed = λ before first packed.
          subst (λ (l : List (List ℕ)). PacksSlices p l first c.pack.new.self c.pack.new.run)
          (append_assoc before (take i slices) (c.slice.result.now ∷ []) ∙ ap (λ l. before ++ l) next)
          (c.in_ok-pack.ensures.packed (before ++ take i slices) first (c.loop-number.invariant.packed before first packed));
    }

pub returns-clause-run : goal.returns-clause-run
returns-clause-run c =
    let start = c.args.run.now.first + c.args.run.now.count in
    let last : c.loop-number.number ≡ length c.args.slices.now = omega arith in
    subst (λ (n : ℕ). EndsRun (packing_view c.args.p.now.settings) n c.loop-number.run) (ap (λ n. start + n) last) c.loop-number.invariant.run

pub returns-clause-packed : goal.returns-clause-packed
returns-clause-packed c =
    let slices = bytes_of_slices c.args.slices.now in
    let long = length-map c.args.slices.now (λ (e : IndexedSlice). e.bytes) in
    let last : length slices ≤ c.loop-number.number = omega (arith, long) in
    λ before first packed.
    subst (λ (l : List (List ℕ)). PacksSlices c.args.p.now (before ++ l) first c.loop-number.self c.loop-number.run) (take_all c.loop-number.number slices last)
    (c.loop-number.invariant.packed before first packed)
