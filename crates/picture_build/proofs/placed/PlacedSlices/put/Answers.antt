use Rattle.std.proofs.Common.{arith, refl, sym, ap, subst, ◌∙◌, ◌≡◌, length}
use Rattle.std.specs.Prelude.{Ok, Err}
use Rattle.std.specs.Vec.{with_items}
use Rattle.std.proofs.lemmas.Bool.{le-ltb, lt-ltb}
use Rattle.vc_types.specs.declared.refusal.Unsound.TheVariants.{IndexRange}
use Rattle.vc_types.specs.Slices.{all_coefficients, slice_coefficients}
use Rattle.vc_types.specs.TransformParameters.{parameters_of}
use Rattle.vc_types.proofs.SliceCounts.{some_across, some_down}
use Rattle.vc_slice.specs.Coded.{coded_of}
use Rattle.picture_build.specs.Kept.{PartPicture}
use Rattle.picture_build.proofs.SeenSlices.{numbered, seen_still, kept_still, seen_more, kept_one_more, index_high, index_low}
use Rattle.picture_build.proofs.WholeSlices.{whole_decoded}
use Rattle.picture_build.proofs.placed.PlacedSlices.put.Goals as goal

pub returns-then-coded-gt127 : goal.returns-then-coded-gt127
returns-then-coded-gt127 c =
    let coded = coded_of c.parts_of-coded.result in
    let high = index_high (parameters_of c.self.inside.plan) c.args.index coded (lt-ltb 127 c.parts_of-coded.result.index (omega arith)) in
    record { value = (subst (λ (q : PartPicture). slice_coefficients q.parameters c.args.index c.args.bytes.now ≡ Err IndexRange) c.self.view_is (c.parts_of-coded.ensures.decoded c.args.index ∙ high), refl) }

pub put_blocks-requires-clause-room : goal.put_blocks-requires-clause-room
put_blocks-requires-clause-room c = λ k.
    let same = ap length c.deref_mut.ensures.value in
    let room = c.self.invariant.largest k c.args.index (numbered (parameters_of c.self.inside.plan) (some_across c.self.inside.plan.slices_x c.self.inside.plan.slices_y c.self.inside.plan.slices) (some_down c.self.inside.plan.slices_x c.self.inside.plan.slices_y c.self.inside.plan.slices) c.self.inside.came.items c.self.inside.y c.self.inside.c1 c.self.inside.c2 (length c.self.inside.numbers.items) c.self.invariant c.args.self.now c.self.view_is c.args.index c.requires.in_plan c.requires.once) in
    omega (arith, same, room)

pub invariant_of-self : goal.invariant_of-self
invariant_of-self c =
    let p = (parameters_of c.self.inside.plan) in
    let coded = coded_of c.parts_of-coded.result in
    let s = all_coefficients p c.args.index coded in
    let decoded = index_low p c.args.index coded (le-ltb 127 c.parts_of-coded.result.index (omega arith)) c.in-Ok.ensures.sound in
    let sound = whole_decoded p c.args.index s coded decoded in
    kept_one_more (parameters_of c.self.inside.plan) (some_across c.self.inside.plan.slices_x c.self.inside.plan.slices_y c.self.inside.plan.slices) (some_down c.self.inside.plan.slices_x c.self.inside.plan.slices_y c.self.inside.plan.slices) c.self.inside.came.items c.self.inside.y c.self.inside.c1 c.self.inside.c2 (length c.self.inside.numbers.items) c.self.invariant c.args.self.now c.self.view_is c.args.index c.requires.in_plan c.requires.once c.put_blocks.new.y c.put_blocks.new.c1 c.put_blocks.new.c2 s sound c.in-Ok.ensures.filled.0 c.in-Ok.ensures.filled.1 c.in-Ok.ensures.filled.2 (length (with_items c.self.inside.numbers c.put_blocks.new.numbers).items) (sym (with_items c.self.inside.numbers c.put_blocks.new.numbers).ok.0 ∙ c.self.inside.numbers.ok.0)

pub returns-in-Ok : goal.returns-in-Ok
returns-in-Ok c =
    let p = (parameters_of c.self.inside.plan) in
    let coded = coded_of c.parts_of-coded.result in
    let s = all_coefficients p c.args.index coded in
    let decoded = index_low p c.args.index coded (le-ltb 127 c.parts_of-coded.result.index (omega arith)) c.in-Ok.ensures.sound in
    let sound = whole_decoded p c.args.index s coded decoded in
    record {
      value = (
        s,
        subst (λ (q : PartPicture). slice_coefficients q.parameters c.args.index c.args.bytes.now ≡ Ok s) c.self.view_is (c.parts_of-coded.ensures.decoded c.args.index ∙ decoded),
        seen_more (parameters_of c.self.inside.plan) (some_across c.self.inside.plan.slices_x c.self.inside.plan.slices_y c.self.inside.plan.slices) (some_down c.self.inside.plan.slices_x c.self.inside.plan.slices_y c.self.inside.plan.slices) c.self.inside.came.items c.self.inside.y c.self.inside.c1 c.self.inside.c2 (length c.self.inside.numbers.items) c.self.invariant c.args.self.now c.self.view_is c.args.index c.requires.in_plan c.requires.once c.put_blocks.new.y c.put_blocks.new.c1 c.put_blocks.new.c2 s sound c.in-Ok.ensures.filled.0 c.in-Ok.ensures.filled.1 c.in-Ok.ensures.filled.2 (length (with_items c.self.inside.numbers c.put_blocks.new.numbers).items) (sym (with_items c.self.inside.numbers c.put_blocks.new.numbers).ok.0 ∙ c.self.inside.numbers.ok.0),
      );
    }

pub invariant_of-self-in-Err : goal.invariant_of-self-in-Err
invariant_of-self-in-Err c = kept_still (parameters_of c.self.inside.plan) (some_across c.self.inside.plan.slices_x c.self.inside.plan.slices_y c.self.inside.plan.slices) (some_down c.self.inside.plan.slices_x c.self.inside.plan.slices_y c.self.inside.plan.slices) c.self.inside.came.items c.self.inside.y c.self.inside.c1 c.self.inside.c2 (length c.self.inside.numbers.items) c.self.invariant c.args.self.now c.self.view_is c.args.index c.requires.in_plan c.requires.once c.put_blocks.new.y c.put_blocks.new.c1 c.put_blocks.new.c2 c.put_blocks.ensures.y c.put_blocks.ensures.c1 c.put_blocks.ensures.c2 (length (with_items c.self.inside.numbers c.put_blocks.new.numbers).items) (sym (with_items c.self.inside.numbers c.put_blocks.new.numbers).ok.0 ∙ c.self.inside.numbers.ok.0)

pub returns-in-Err : goal.returns-in-Err
returns-in-Err c = record { value = seen_still (parameters_of c.self.inside.plan) (some_across c.self.inside.plan.slices_x c.self.inside.plan.slices_y c.self.inside.plan.slices) (some_down c.self.inside.plan.slices_x c.self.inside.plan.slices_y c.self.inside.plan.slices) c.self.inside.came.items c.self.inside.y c.self.inside.c1 c.self.inside.c2 (length c.self.inside.numbers.items) c.self.invariant c.args.self.now c.self.view_is c.args.index c.requires.in_plan c.requires.once c.put_blocks.new.y c.put_blocks.new.c1 c.put_blocks.new.c2 c.put_blocks.ensures.y c.put_blocks.ensures.c1 c.put_blocks.ensures.c2 (length (with_items c.self.inside.numbers c.put_blocks.new.numbers).items) (sym (with_items c.self.inside.numbers c.put_blocks.new.numbers).ok.0 ∙ c.self.inside.numbers.ok.0) }
