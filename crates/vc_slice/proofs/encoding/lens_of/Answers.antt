use Rattle.std.proofs.Common.{◌≡◌, ℕ, ◌∷◌, [], ◌++◌, ◌∙◌, ◌≤◌, sym, arith}
use Rattle.std.proofs.lemmas.List.FromFn.{map-range_with_len_more}
use Rattle.vc_types.specs.Encoding.{encoded_length}
use Rattle.vc_types.specs.TransformParameters.{parameters_of}
use Rattle.vc_slice.proofs.EncodedSlices.{length_by}
use Rattle.vc_slice.proofs.encoding.lens_of.Goals as goal

pub slice_len-requires : goal.slice_len-requires
slice_len-requires c = grind arith

pub loop-q-preserved : goal.loop-q-preserved
loop-q-preserved c =
    let p = parameters_of c.args.parts.now.plan in
    let q = c.loop-q.q in
    let few : q ≤ 127 = omega arith in
    let f : ℕ → ℕ = λ k. encoded_length p c.args.parts.now.slice k c.args.coeffs.now in
    let len : c.slice_len.result ≡ f q = c.slice_len.ensures ∙ length_by p c.args.parts.now.slice q c.args.coeffs.now _ _ _ (c.all_lens-y.ensures.value q few) (c.all_lens-c1.ensures.value q few) (c.all_lens-c2.ensures.value q few) in
    c.in_ok-push.ensures.items
    ∙ (λ i. c.loop-q.invariant i ++ len i ∷ [])
    ∙ sym (map-range_with_len_more f 0 q q (omega arith))

pub returns : goal.returns
returns c = grind arith
