use Rattle.std.proofs.Common.{ℕ, ◌+◌, subst}
use Rattle.vc_types.specs.SenderSettings.{sending_view}
use Rattle.vc_types.specs.Subbands.{share_start, slice_count}
use Rattle.vc_types.specs.TransformParameters.{parameters_of}
use Rattle.picture_encode.specs.Answering.{Answers}
use Rattle.picture_encode.specs.Encoded.{EncodesSlices}
use Rattle.picture_encode.proofs.PlanFacts.{few_slices}
use Rattle.picture_encode.proofs.parts.encode_part.Goals as goal

pub new-part-requires-clause-few_slices : goal.new-part-requires-clause-few_slices
new-part-requires-clause-few_slices g c = few_slices c.args.plan.now.slices_x c.args.plan.now.slices_y c.args.plan.now.slices

pub returns : goal.returns
returns g c =
    let n = slice_count (parameters_of c.args.plan.now) in
    let part = c.new-part in
    λ planes has.
    subst (λ (k : ℕ). EncodesSlices (Answers g.F.Fn (sending_view c.args.s.now) c.args.chooser.now) c.args.chooser.now.wants_lens (sending_view c.args.s.now) planes k (share_start n c.args.parts (c.args.number + 1)) c.encode_slices.result) part.ensures.from
    (subst (λ (k : ℕ). EncodesSlices (Answers g.F.Fn (sending_view c.args.s.now) c.args.chooser.now) c.args.chooser.now.wants_lens (sending_view c.args.s.now) planes part.result.from k c.encode_slices.result) part.ensures.to (c.encode_slices.ensures planes has))
