use Rattle.std.proofs.Common.{◌≡◌, ◌+◌, ◌<◌, ℕ, true, Err, rules, arith, refl, sym, ap, subst, inl, inr}
use Rattle.std.specs.Prelude.{slice_index_or}
use Rattle.std.proofs.lemmas.Bool.{cases_eq}
use Rattle.vc_types.specs.SliceCoefficients.{AreSliceCoefficients}
use Rattle.vc_types.specs.Subbands.{slice_count}
use Rattle.vc_types.specs.TransformParameters.{Parameters, parameters_of}
use Rattle.picture_build.specs.Kept.{no_coefficients}
use Rattle.picture_build.proofs.FilledSlices.{FirstCame, none_came, one_more_came, all_came}
use Rattle.vc_lowdelay.specs.declared.refusal.LowRefusal.TheVariants.{NoMemory}
use Rattle.vc_lowdelay.specs.Decoded.{IsLargeAt}
use Rattle.vc_lowdelay.specs.Grown.{IsSound}
use Rattle.vc_lowdelay.specs.LowDelay.{are_large, low_slices, slice_at}
use Rattle.vc_lowdelay.specs.OfPlan.{low_parameters_of}
use Rattle.vc_lowdelay.proofs.DecodablePictures.{decodable}
use Rattle.vc_lowdelay.proofs.Decodings.{made, length-made}
use Rattle.vc_lowdelay.proofs.GrownSlices.{AllGrown, made_whole, made_slice}
use Rattle.vc_lowdelay.proofs.Refused.{refusal_of}
use Rattle.vc_lowdelay.proofs.SlicesPlaced.{slice_refuses}
use Rattle.vc_lowdelay.proofs.SliceStarts.{across, down}
use Rattle.vc_lowdelay.proofs.decoding.filled.Goals as goal

pub returns-in_err-lowest-clause-refused : goal.returns-in_err-lowest-clause-refused
returns-in_err-lowest-clause-refused c =
    let p = low_parameters_of c.args.p.now in
    let bytes = c.args.bytes.now in
    let whole = c.requires.whole in
    let e = c.in_err-lowest.field-0.0 in
    let same : c.from_residual.result ≡ Err e = search rules in
    rw same (refusal_of p bytes whole (are_large p.parameters (low_slices p bytes) ≡ true) (λ large. large) e c.in_err-lowest.ensures.refused)

pub returns-in_err-picture-clause-refused : goal.returns-in_err-picture-clause-refused
returns-in_err-picture-clause-refused c =
    let same : c.from_residual-in_err-picture.result ≡ Err NoMemory = search rules in
    rw same tt

pub loop-slice-init : goal.loop-slice-init
loop-slice-init c =
    let p = parameters_of c.args.p.now.plan in
    let slices = made c.args.p.now c.args.bytes.now in
    record {
      came = subst (FirstCame p slices 0) (sym c.in_ok-picture.ensures.value) (none_came p slices);
      sound = λ n h. absurd (omega (arith, h));
    }

pub coefficients-requires-clause-lowest : goal.coefficients-requires-clause-lowest
coefficients-requires-clause-lowest c = record {
  y = c.in_ok-lowest.ensures.y.size;
  c1 = c.in_ok-lowest.ensures.c1.size;
  c2 = c.in_ok-lowest.ensures.c2.size;
}

pub returns-in_err-coeffs-clause-refused : goal.returns-in_err-coeffs-clause-refused
returns-in_err-coeffs-clause-refused c =
    let p = low_parameters_of c.args.p.now in
    let bytes = c.args.bytes.now in
    let n = c.loop-slice.slice in
    let whole = c.requires.whole in
    let numbered : n < slice_count p.parameters = omega arith in
    let e = c.in_err-coeffs.field-0.0 in
    let same : c.from_residual-in_err-coeffs.result ≡ Err e = search rules in
    rw same (refusal_of p bytes whole (IsLargeAt c.args.p.now bytes n) (slice_refuses p bytes n numbered (slice_at p bytes n) refl) e c.in_err-coeffs.ensures.refused)

pub fill-requires-clause-in_plan : goal.fill-requires-clause-in_plan
fill-requires-clause-in_plan c =
    let same = ap slice_count c.loop-slice.invariant.came.parameters in
    omega (arith, same, c.loop-slice-test.true)

pub fill-requires-clause-once : goal.fill-requires-clause-once
fill-requires-clause-once c = c.loop-slice.invariant.came.others c.loop-slice.slice (omega arith)

pub fill-requires-clause-whole : goal.fill-requires-clause-whole
fill-requires-clause-whole c =
    let p = low_parameters_of c.args.p.now in
    let lowest = c.in_ok-lowest.lowest in
    let n = c.loop-slice.slice in
    let grown : AllGrown p.parameters (low_slices p c.args.bytes.now) lowest.y lowest.c1 lowest.c2 = record { y_grown = c.in_ok-lowest.ensures.y; c1_grown = c.in_ok-lowest.ensures.c1; c2_grown = c.in_ok-lowest.ensures.c2 } in
    subst (λ (q : Parameters). AreSliceCoefficients q n c.in_ok-coeffs.coeffs) (sym c.loop-slice.invariant.came.parameters)
    (made_whole p c.args.bytes.now (across c.args.p.now) (down c.args.p.now) lowest.y lowest.c1 lowest.c2 grown n (omega arith) c.in_ok-coeffs.coeffs c.in_ok-coeffs.ensures.value)

pub loop-slice-preserved : goal.loop-slice-preserved
loop-slice-preserved c =
    let p = low_parameters_of c.args.p.now in
    let bytes = c.args.bytes.now in
    let lowest = c.in_ok-lowest.lowest in
    let n = c.loop-slice.slice in
    let s = c.in_ok-coeffs.coeffs in
    let slices = made c.args.p.now bytes in
    let numbered : n < slice_count p.parameters = omega arith in
    let grown : AllGrown p.parameters (low_slices p bytes) lowest.y lowest.c1 lowest.c2 = record { y_grown = c.in_ok-lowest.ensures.y; c1_grown = c.in_ok-lowest.ensures.c1; c2_grown = c.in_ok-lowest.ensures.c2 } in
    let own : slice_index_or slices n no_coefficients ≡ s = made_slice p bytes (across c.args.p.now) (down c.args.p.now) lowest.y lowest.c1 lowest.c2 grown n numbered s c.in_ok-coeffs.ensures.value in
    record {
      came = subst (FirstCame p.parameters slices (n + 1)) (sym c.fill.ensures.value) (one_more_came p.parameters slices n c.loop-slice.picture s numbered own c.loop-slice.invariant.came);
      sound = λ k h. elim (cases_eq k n) [
        | inl e ↦ subst (λ (m : ℕ). IsSound p.parameters m (slice_at p bytes m)) (sym e) c.in_ok-coeffs.ensures.value.sound
        | inr ne ↦ c.loop-slice.invariant.sound k (omega (arith, h, ne))
      ];
    }

pub returns-clause-value : goal.returns-clause-value
returns-clause-value c =
    let p = parameters_of c.args.p.now.plan in
    let slices = made c.args.p.now c.args.bytes.now in
    let done : c.loop-slice.slice ≡ slice_count p = omega arith in
    all_came p slices c.loop-slice.picture (length-made c.args.p.now c.args.bytes.now)
    (subst (λ (n : ℕ). FirstCame p slices n c.loop-slice.picture) done c.loop-slice.invariant.came)

pub returns-clause-sound : goal.returns-clause-sound
returns-clause-sound c =
    let p = low_parameters_of c.args.p.now in
    let bytes = c.args.bytes.now in
    let lowest = c.in_ok-lowest.lowest in
    let whole = c.requires.whole in
    let done : c.loop-slice.slice ≡ slice_count p.parameters = omega arith in
    let grown : AllGrown p.parameters (low_slices p bytes) lowest.y lowest.c1 lowest.c2 = record { y_grown = c.in_ok-lowest.ensures.y; c1_grown = c.in_ok-lowest.ensures.c1; c2_grown = c.in_ok-lowest.ensures.c2 } in
    decodable p bytes lowest.y lowest.c1 lowest.c2 grown whole (λ n h. c.loop-slice.invariant.sound n (omega (arith, h, done)))
