use Rattle.std.proofs.Common.{◌≡◌, ◌<◌, sym, ap, subst, ◌∙◌, arith}
use Rattle.vc_types.specs.declared.video.Component.TheVariants.{Y, C1, C2}
use Rattle.vc_types.specs.Subbands.{slice_count}
use Rattle.vc_types.specs.TransformParameters.{Parameters, parameters_of}
use Rattle.vc_slice.specs.declared.bands.SliceParts.{SliceParts}
use Rattle.vc_lowdelay.specs.Coded.{slice_of}
use Rattle.vc_lowdelay.specs.LowDelay.{low_slice, slice_at}
use Rattle.vc_lowdelay.specs.Narrow.{HasPaddedSize}
use Rattle.vc_lowdelay.specs.OfBands.{parameters_in}
use Rattle.vc_lowdelay.specs.OfPlan.{low_parameters_of}
use Rattle.vc_lowdelay.proofs.NarrowSlices.{none_in, one_more_in, one_more_sound, all_in}
use Rattle.vc_lowdelay.proofs.SameSlices.{same_filled, same_sound}
use Rattle.vc_lowdelay.proofs.narrow.put_slices.Goals as goal

pub loop-slice-init : goal.loop-slice-init
loop-slice-init c = record {
  y = none_in c.args.p.now c.args.bytes.now Y c.args.room.now.y.items c.requires.room.y;
  c1 = none_in c.args.p.now c.args.bytes.now C1 c.args.room.now.c1.items c.requires.room.c1;
  c2 = none_in c.args.p.now c.args.bytes.now C2 c.args.room.now.c2.items c.requires.room.c2;
  sound = λ k h. absurd (omega (arith, h));
}

pub put_slice-requires-clause-y : goal.put_slice-requires-clause-y
put_slice-requires-clause-y c =
    let plan : parameters_in c.new-bands.result ≡ parameters_of c.args.p.now.plan = ap (λ (parts : SliceParts). parameters_of parts.plan) c.new-bands.ensures.parts ∙ ap parameters_of c.new-parts.ensures.plan in
    subst (λ (q : Parameters). HasPaddedSize q Y c.loop-slice.room.y.items) (sym plan) c.loop-slice.invariant.y.size

pub put_slice-requires-clause-c1 : goal.put_slice-requires-clause-c1
put_slice-requires-clause-c1 c =
    let plan : parameters_in c.new-bands.result ≡ parameters_of c.args.p.now.plan = ap (λ (parts : SliceParts). parameters_of parts.plan) c.new-bands.ensures.parts ∙ ap parameters_of c.new-parts.ensures.plan in
    subst (λ (q : Parameters). HasPaddedSize q C1 c.loop-slice.room.c1.items) (sym plan) c.loop-slice.invariant.c1.size

pub put_slice-requires-clause-c2 : goal.put_slice-requires-clause-c2
put_slice-requires-clause-c2 c =
    let plan : parameters_in c.new-bands.result ≡ parameters_of c.args.p.now.plan = ap (λ (parts : SliceParts). parameters_of parts.plan) c.new-bands.ensures.parts ∙ ap parameters_of c.new-parts.ensures.plan in
    subst (λ (q : Parameters). HasPaddedSize q C2 c.loop-slice.room.c2.items) (sym plan) c.loop-slice.invariant.c2.size

pub loop-slice-preserved : goal.loop-slice-preserved
loop-slice-preserved c =
    let p = c.args.p.now in
    let bytes = c.args.bytes.now in
    let n = c.loop-slice.slice in
    let bands = c.new-bands.result in
    let old = c.loop-slice.room in
    let new = c.put_slice.new.room in
    let e = c.in_ok-put_slice.ensures in
    let numbered : n < slice_count (parameters_of p.plan) = omega arith in
    let plan : parameters_in bands ≡ parameters_of p.plan = ap (λ (parts : SliceParts). parameters_of parts.plan) c.new-bands.ensures.parts ∙ ap parameters_of c.new-parts.ensures.plan in
    let number : bands.parts.now.slice ≡ n = ap (λ (parts : SliceParts). parts.slice) c.new-bands.ensures.parts ∙ c.new-parts.ensures.slice in
    let own : slice_of c.new-coded.result ≡ slice_at (low_parameters_of p) bytes n = c.new-coded.ensures ∙ ap low_slice c.slice_bytes.ensures.value in
    let filled = same_filled (parameters_in bands) (parameters_of p.plan) bands.parts.now.slice n (slice_of c.new-coded.result) (slice_at (low_parameters_of p) bytes n) plan number own in
    record {
      y = one_more_in p bytes Y n old.y.items new.y.items numbered c.loop-slice.invariant.y (filled Y old.y.items new.y.items e.y);
      c1 = one_more_in p bytes C1 n old.c1.items new.c1.items numbered c.loop-slice.invariant.c1 (filled C1 old.c1.items new.c1.items e.c1);
      c2 = one_more_in p bytes C2 n old.c2.items new.c2.items numbered c.loop-slice.invariant.c2 (filled C2 old.c2.items new.c2.items e.c2);
      sound = one_more_sound p bytes n c.loop-slice.invariant.sound
          (same_sound (parameters_in bands) (parameters_of p.plan) bands.parts.now.slice n (slice_of c.new-coded.result) (slice_at (low_parameters_of p) bytes n) plan number own e.sound);
    }

pub returns : goal.returns
returns c =
    let p = c.args.p.now in
    let bytes = c.args.bytes.now in
    let room = c.loop-slice.room in
    let done : c.loop-slice.slice ≡ slice_count (parameters_of p.plan) = omega arith in
    let all = all_in p bytes c.loop-slice.slice done c.loop-slice.invariant.sound in
    record {
      luma = all Y room.y.items c.loop-slice.invariant.y;
      first_colour = all C1 room.c1.items c.loop-slice.invariant.c1;
      second_colour = all C2 room.c2.items c.loop-slice.invariant.c2;
    }
