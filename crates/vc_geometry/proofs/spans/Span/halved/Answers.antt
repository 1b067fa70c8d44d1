use Rattle.std.proofs.Common.{arith, refl}
use Rattle.vc_types.proofs.SubbandOrder.{subband-inside}
use Rattle.vc_geometry.proofs.spans.Span.halved.Goals as goal

pub returns-clause-half : goal.returns-clause-half
returns-clause-half c = λ once. subband-inside c.args.self.now.side c.args.times 1 _ _ refl (omega arith) (λ none. absurd (omega arith)) (λ some. once)
