use Rattle.std.proofs.Common.{◌≡◌, ◌+◌, ◌-◌, ◌≤◌, ◌++◌, [], ◌∷◌, suc, ℕ, List, length, take, drop, None, Result, Ok, ap, sym, subst, ◌∙◌, arith, rules}
use Rattle.std.proofs.lemmas.List.{length-drop}
use Rattle.link_model.specs.Kept.{next_slices}
use Rattle.vc_types.specs.Fields.{and_then}
use Rattle.vc_types.specs.Slices.{slice_length}
use Rattle.vc_types.specs.Subbands.{slice_count}
use Rattle.vc_types.specs.TransformParameters.{parameters_of}
use Rattle.link_sender.proofs.Cutting.{cut_within}
use Rattle.cmd_stream.proofs.Slicing.{all_cut, cut_to, no_more, none_more, one_more, put_none, put_one}
use Rattle.cmd_stream.proofs.pack_slices.slices_len.Goals as goal

pub loop-slice-init : goal.loop-slice-init
loop-slice-init c =
    let p = parameters_of c.args.plan.now in
    let same : slice_count p - 0 ≡ slice_count p = omega arith in
    ([], put_none (next_slices p (slice_count p) c.args.bytes.now) ∙ ap (λ n. and_then (next_slices p n c.args.bytes.now) (λ read. Ok ([] ++ read.0, read.1))) (sym same), omega arith)

pub split_at-requires : goal.split_at-requires
split_at-requires c = cut_within c.args.plan.now.prefix c.args.plan.now.scaler c.in-Ok.len c.loop-slice.rest.now c.in-Ok.ensures.value

pub returns-in_default : goal.returns-in_default
returns-in_default c =
    let p = parameters_of c.args.plan.now in
    let n = slice_count p in
    let i = c.loop-slice._slice in
    let next : n - i ≡ suc (n - (i + 1)) = omega (arith, c.loop-slice-test.true) in
    let short : slice_length p.prefix p.scaler c.loop-slice.rest.now ≡ None = search rules in
    c.loop-slice.invariant.1
    ∙ ap (λ k. and_then (next_slices p k c.loop-slice.rest.now) (λ read. Ok (c.loop-slice.invariant.0 ++ read.0, read.1))) next
    ∙ ap (λ (r : Result (List (List ℕ) × List ℕ) (Unit {0})). and_then r (λ read. Ok (c.loop-slice.invariant.0 ++ read.0, read.1))) (none_more p (n - (i + 1)) c.loop-slice.rest.now short)

pub loop-slice-preserved : goal.loop-slice-preserved
loop-slice-preserved c =
    let p = parameters_of c.args.plan.now in
    let n = slice_count p in
    let i = c.loop-slice._slice in
    let rest = c.loop-slice.rest.now in
    let len = c.in-Ok.len in
    let next : n - i ≡ suc (n - (i + 1)) = omega (arith, c.loop-slice-test.true) in
    let before = c.loop-slice.invariant.0 in (
      before ++ take len rest ∷ [],
      subst (λ (l : List ℕ). next_slices p n c.args.bytes.now ≡ and_then {A = List (List ℕ) × List ℕ} {B = List (List ℕ) × List ℕ} (next_slices p (n - (i + 1)) l) (λ read. Ok ((before ++ take len rest ∷ []) ++ read.0, read.1))) (sym c.split_at.ensures.back)
          (c.loop-slice.invariant.1
          ∙ ap (λ k. and_then (next_slices p k rest) (λ read. Ok (before ++ read.0, read.1))) next
          ∙ ap (λ (r : Result (List (List ℕ) × List ℕ) (Unit {0})). and_then r (λ read. Ok (before ++ read.0, read.1))) (one_more p (n - (i + 1)) rest (take len rest) (drop len rest) (cut_to p rest len c.in-Ok.ensures.value))
          ∙ put_one before (take len rest) (next_slices p (n - (i + 1)) (drop len rest))),
      omega (arith, ap length c.split_at.ensures.back ∙ length-drop len rest, c.loop-slice.invariant.2),
    )

pub returns : goal.returns
returns c =
    let p = parameters_of c.args.plan.now in
    let n = slice_count p in
    let i = c.loop-slice._slice in
    let rest = c.loop-slice.rest.now in
    let before = c.loop-slice.invariant.0 in
    let past : n ≤ i = search rules in
    let none : n - i ≡ 0 = omega (arith, past) in
    all_cut p c.args.bytes.now rest (before ++ [])
    (c.loop-slice.invariant.1
    ∙ ap (λ k. and_then (next_slices p k rest) (λ read. Ok (before ++ read.0, read.1))) none
    ∙ ap (λ (r : Result (List (List ℕ) × List ℕ) (Unit {0})). and_then r (λ read. Ok (before ++ read.0, read.1))) (no_more p rest))

pub overflow_sub-result : goal.overflow_sub-result
overflow_sub-result c = omega (arith, c.loop-slice.invariant.2)
