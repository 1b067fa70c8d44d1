use Rattle.std.proofs.Common.{◌∙◌, ap, arith}
use Rattle.vc_types.specs.Subbands.{plane_width, plane_height, levels}
use Rattle.vc_types.specs.Transforms.{forward_transform}
use Rattle.vc_types.proofs.PaddedSides.{padded-above}
use Rattle.vc_wave.proofs.TransformLaws.{inverse_transform-forward_transform, padded_own}
use Rattle.vc_wave.proofs.TransformLocality.{inverse_transform_agrees}
use Rattle.vc_wave.proofs.laws.inverse_undoes_forward.Goals as goal

pub returns : goal.returns
returns c = λ p of samples coefficients symmetric same x y a b.
    let wide = padded-above (plane_width p.shape of) (levels p) (omega arith) in
    let high = padded-above (plane_height p.shape of) p.depth (omega arith) in
    inverse_transform_agrees p of coefficients (forward_transform p of samples) same x y (omega arith)
    (omega arith)
    ∙ ap (λ f. f x y) (inverse_transform-forward_transform p of samples symmetric)
    ∙ padded_own p of samples x y a b
