use Rattle.std.proofs.Common.{arith, rules, refl, sym, ap, subst, ◌∙◌, ◌≡◌, length, false}
use Rattle.vc_types.specs.Subbands.{slice_count}
use Rattle.vc_types.specs.TransformParameters.{parameters_of}
use Rattle.picture_build.specs.Kept.{IsKept}
use Rattle.picture_build.proofs.KeptSlices.{nothing_kept, kept_none}
use Rattle.picture_build.proofs.SeenSlices.{seen}
use Rattle.std.specs.Prelude.{replicate}
use Rattle.picture_build.proofs.placed.PlacedSlices.new.Goals as goal

pub invariant_of-result : goal.invariant_of-result
invariant_of-result c =
    let p = parameters_of c.args.plan in
    let none : c.in_ok-came.came.items ≡ replicate (slice_count p) false = search rules in
    subst (λ came. IsKept p came c.in_ok-y.y c.in_ok-c1.c1 c.in_ok-c2.c2 (length c.in_ok-numbers.numbers.items)) (sym none)
    (kept_none p c.in_ok-y.y c.in_ok-c1.c1 c.in_ok-c2.c2 (length c.in_ok-numbers.numbers.items) (slice_count p) refl
    (search rules) (search rules) (search rules)
    (λ k n h. (let most = c.most_coefficients.ensures.most k n h in omega (arith, most, c.in_ok-numbers.ensures.len, c.in_ok-numbers.numbers.ok.0))))

pub returns : goal.returns
returns c =
    let p = parameters_of c.args.plan in
    let none : c.in_ok-came.came.items ≡ replicate (slice_count p) false = search rules in
    record {
      value = ap (λ came. seen p came c.in_ok-y.y c.in_ok-c1.c1 c.in_ok-c2.c2) none
          ∙ ap (λ slices. record { parameters = p; slices = slices }) (nothing_kept p c.in_ok-y.y c.in_ok-c1.c1 c.in_ok-c2.c2 (slice_count p));
    }
