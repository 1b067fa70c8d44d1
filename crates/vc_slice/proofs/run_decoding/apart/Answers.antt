use Rattle.std.proofs.Common.{◌≡◌, ◌+◌, ◌∙◌, List, [], ◌∷◌, ◌++◌, take, length, arith, sym, ap}
use Rattle.std.specs.Prelude.{slice_index_or, Result}
use Rattle.vc_types.specs.declared.video.Component.TheVariants.{Y}
use Rattle.std.proofs.lemmas.List.{get_or_default}
use Rattle.vc_types.specs.Slices.{Coefficients, slice_coefficients}
use Rattle.vc_types.specs.declared.refusal.Unsound.{Unsound}
use Rattle.vc_types.specs.TransformParameters.{parameters_of}
use Rattle.vc_geometry.proofs.RunPlaces.{numbered}
use Rattle.vc_slice.specs.Strips.{decodings}
use Rattle.vc_slice.proofs.RunDecodings.{decodings-more}
use Rattle.vc_slice.proofs.run_decoding.apart.Goals as goal

pub loop-k-init : goal.loop-k-init
unfolding decodings
loop-k-init c = c.in_ok-answers.ensures.items

pub answer-requires-clause-slice : goal.answer-requires-clause-slice
answer-requires-clause-slice c = numbered (parameters_of c.args.plan.now) Y c.args.first (length c.args.slices.now) c.requires.run c.loop-k.k (omega arith)

pub loop-k-preserved : goal.loop-k-preserved
loop-k-preserved c =
    let p = parameters_of c.args.plan.now in
    let bytes : c.as_slice.result.now ≡ slice_index_or c.args.slices.now c.loop-k.k [] = c.as_slice.ensures ∙ c.index-slices-k.is ∙ get_or_default c.args.slices.now c.loop-k.k c.index-slices-k.result [] (omega arith) in
    let answer : c.in_ok-answer.answer ≡ slice_coefficients p (c.args.first + c.loop-k.k) (slice_index_or c.args.slices.now c.loop-k.k []) = c.in_ok-answer.ensures.value ∙ ap (slice_coefficients p (c.args.first + c.loop-k.k)) bytes in
    c.in_ok-push.ensures.items ∙ ap (λ (xs : List (Result Coefficients Unsound)). xs ++ c.in_ok-answer.answer ∷ []) c.loop-k.invariant ∙ ap (λ (a : Result Coefficients Unsound). decodings p c.args.first (take c.loop-k.k c.args.slices.now) ++ a ∷ []) answer ∙ sym (decodings-more p c.args.first c.args.slices.now c.loop-k.k (omega arith))
