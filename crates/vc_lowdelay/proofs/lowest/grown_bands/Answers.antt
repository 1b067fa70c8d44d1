use Rattle.std.proofs.Common.{◌≡◌, ◌<◌, Err, rules, ap, ◌∙◌, arith}
use Rattle.vc_types.specs.declared.video.Component.TheVariants.{Y, C1, C2}
use Rattle.vc_types.specs.Subbands.{slice_count}
use Rattle.vc_types.specs.TransformParameters.{parameters_of}
use Rattle.vc_lowdelay.specs.declared.refusal.LowRefusal.TheVariants.{CoefficientRange, NoMemory}
use Rattle.vc_lowdelay.specs.Coded.{slice_of}
use Rattle.vc_lowdelay.specs.LowDelay.{low_slice, low_slices, slice_at}
use Rattle.vc_lowdelay.specs.OfPlan.{low_parameters_of}
use Rattle.vc_lowdelay.proofs.SliceStarts.{across, down}
use Rattle.vc_lowdelay.proofs.PlacedValues.{none_placed, one_more_placed, values_of}
use Rattle.vc_lowdelay.proofs.SlicesPlaced.{own_placed, slice_refuses, is_ready, has_grown, growth_refuses}
use Rattle.vc_lowdelay.proofs.lowest.grown_bands.Goals as goal

pub returns-in_err-bands-clause-refused : goal.returns-in_err-bands-clause-refused
returns-in_err-bands-clause-refused c =
    let same : c.from_residual.result ≡ Err NoMemory = search rules in
    rw same tt

pub loop-slice-init : goal.loop-slice-init
loop-slice-init c =
    let p = parameters_of c.args.p.now.plan in
    let slices = low_slices (low_parameters_of c.args.p.now) c.args.bytes.now in
    record {
      y = none_placed p Y (values_of slices Y) c.in_ok-bands.bands.y c.in_ok-bands.ensures.y;
      c1 = none_placed p C1 (values_of slices C1) c.in_ok-bands.bands.c1 c.in_ok-bands.ensures.c1;
      c2 = none_placed p C2 (values_of slices C2) c.in_ok-bands.bands.c2 c.in_ok-bands.ensures.c2;
    }

pub returns-in_err-put_slice-clause-refused : goal.returns-in_err-put_slice-clause-refused
returns-in_err-put_slice-clause-refused c =
    let p = low_parameters_of c.args.p.now in
    let bytes = c.args.bytes.now in
    let n = c.loop-slice.slice in
    let numbered : n < slice_count p.parameters = omega arith in
    let is : slice_of c.new-coded.result ≡ slice_at p bytes n = c.new-coded.ensures ∙ ap low_slice c.slice_bytes.ensures.value in
    let same : c.from_residual-in_err-put_slice.result ≡ Err CoefficientRange = search rules in
    rw same (slice_refuses p bytes n numbered (slice_of c.new-coded.result) is c.in_err-put_slice.ensures.large)

pub loop-slice-preserved : goal.loop-slice-preserved
loop-slice-preserved c =
    let p = low_parameters_of c.args.p.now in
    let bytes = c.args.bytes.now in
    let slices = low_slices p bytes in
    let n = c.loop-slice.slice in
    let numbered : n < slice_count p.parameters = omega arith in
    let s = slice_of c.new-coded.result in
    let is : s ≡ slice_at p bytes n = c.new-coded.ensures ∙ ap low_slice c.slice_bytes.ensures.value in
    let old = c.loop-slice.bands in
    let new = c.put_slice.new.bands in
    record {
      y = one_more_placed p.parameters Y (across c.args.p.now) (down c.args.p.now) (values_of slices Y) n old.y new.y numbered c.loop-slice.invariant.y
          (own_placed p bytes n numbered s is Y old.y new.y c.in_ok-put_slice.ensures.y);
      c1 = one_more_placed p.parameters C1 (across c.args.p.now) (down c.args.p.now) (values_of slices C1) n old.c1 new.c1 numbered c.loop-slice.invariant.c1
          (own_placed p bytes n numbered s is C1 old.c1 new.c1 c.in_ok-put_slice.ensures.c1);
      c2 = one_more_placed p.parameters C2 (across c.args.p.now) (down c.args.p.now) (values_of slices C2) n old.c2 new.c2 numbered c.loop-slice.invariant.c2
          (own_placed p bytes n numbered s is C2 old.c2 new.c2 c.in_ok-put_slice.ensures.c2);
    }

pub grow-requires : goal.grow-requires
grow-requires c =
    let p = low_parameters_of c.args.p.now in
    let done : c.loop-slice.slice ≡ slice_count p.parameters = omega arith in
    is_ready p c.args.bytes.now (across c.args.p.now) (down c.args.p.now) Y c.loop-slice.slice done c.loop-slice.bands.y c.loop-slice.invariant.y

pub grow-requires-2 : goal.grow-requires-2
grow-requires-2 c =
    let p = low_parameters_of c.args.p.now in
    let done : c.loop-slice.slice ≡ slice_count p.parameters = omega arith in
    is_ready p c.args.bytes.now (across c.args.p.now) (down c.args.p.now) C1 c.loop-slice.slice done c.loop-slice.bands.c1 c.loop-slice.invariant.c1

pub grow-requires-3 : goal.grow-requires-3
grow-requires-3 c =
    let p = low_parameters_of c.args.p.now in
    let done : c.loop-slice.slice ≡ slice_count p.parameters = omega arith in
    is_ready p c.args.bytes.now (across c.args.p.now) (down c.args.p.now) C2 c.loop-slice.slice done c.loop-slice.bands.c2 c.loop-slice.invariant.c2

pub returns-in_err-grow-clause-refused : goal.returns-in_err-grow-clause-refused
returns-in_err-grow-clause-refused c =
    let p = low_parameters_of c.args.p.now in
    let done : c.loop-slice.slice ≡ slice_count p.parameters = omega arith in
    let same : c.from_residual-in_err-grow.result ≡ Err CoefficientRange = search rules in
    rw same (growth_refuses p c.args.bytes.now (across c.args.p.now) (down c.args.p.now) Y c.loop-slice.slice done c.loop-slice.bands.y c.loop-slice.invariant.y c.in_err-grow.ensures.large)

pub returns-in_err-grow-2-clause-refused : goal.returns-in_err-grow-2-clause-refused
returns-in_err-grow-2-clause-refused c =
    let p = low_parameters_of c.args.p.now in
    let done : c.loop-slice.slice ≡ slice_count p.parameters = omega arith in
    let same : c.from_residual-in_err-grow-2.result ≡ Err CoefficientRange = search rules in
    rw same (growth_refuses p c.args.bytes.now (across c.args.p.now) (down c.args.p.now) C1 c.loop-slice.slice done c.loop-slice.bands.c1 c.loop-slice.invariant.c1 c.in_err-grow-2.ensures.large)

pub returns-in_err-grow-3-clause-refused : goal.returns-in_err-grow-3-clause-refused
returns-in_err-grow-3-clause-refused c =
    let p = low_parameters_of c.args.p.now in
    let done : c.loop-slice.slice ≡ slice_count p.parameters = omega arith in
    let same : c.from_residual-in_err-grow-3.result ≡ Err CoefficientRange = search rules in
    rw same (growth_refuses p c.args.bytes.now (across c.args.p.now) (down c.args.p.now) C2 c.loop-slice.slice done c.loop-slice.bands.c2 c.loop-slice.invariant.c2 c.in_err-grow-3.ensures.large)

pub returns-clause-y : goal.returns-clause-y
returns-clause-y c =
    let p = low_parameters_of c.args.p.now in
    let done : c.loop-slice.slice ≡ slice_count p.parameters = omega arith in
    has_grown p c.args.bytes.now (across c.args.p.now) (down c.args.p.now) Y c.loop-slice.slice done c.loop-slice.bands.y c.loop-slice.invariant.y
    c.grow.new.self c.in_ok-grow.ensures.size.0 c.in_ok-grow.ensures.size.1 c.in_ok-grow.ensures.grown c.in_ok-grow.ensures.small

pub returns-clause-c1 : goal.returns-clause-c1
returns-clause-c1 c =
    let p = low_parameters_of c.args.p.now in
    let done : c.loop-slice.slice ≡ slice_count p.parameters = omega arith in
    has_grown p c.args.bytes.now (across c.args.p.now) (down c.args.p.now) C1 c.loop-slice.slice done c.loop-slice.bands.c1 c.loop-slice.invariant.c1
    c.grow-2.new.self c.in_ok-grow-2.ensures.size.0 c.in_ok-grow-2.ensures.size.1 c.in_ok-grow-2.ensures.grown c.in_ok-grow-2.ensures.small

pub returns-clause-c2 : goal.returns-clause-c2
returns-clause-c2 c =
    let p = low_parameters_of c.args.p.now in
    let done : c.loop-slice.slice ≡ slice_count p.parameters = omega arith in
    has_grown p c.args.bytes.now (across c.args.p.now) (down c.args.p.now) C2 c.loop-slice.slice done c.loop-slice.bands.c2 c.loop-slice.invariant.c2
    c.grow-3.new.self c.in_ok-grow-3.ensures.size.0 c.in_ok-grow-3.ensures.size.1 c.in_ok-grow-3.ensures.grown c.in_ok-grow-3.ensures.small
