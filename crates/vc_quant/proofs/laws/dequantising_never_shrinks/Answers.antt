use Rattle.vc_types.proofs.Quantisers.{dequantised_not_smaller}
use Rattle.vc_quant.proofs.laws.dequantising_never_shrinks.Goals as goal

pub returns : goal.returns
returns c = λ z. dequantised_not_smaller z c.args.q
