use Rattle.vc_types.proofs.Quantisers.{comes_back_near, comes_back}
use Rattle.vc_quant.proofs.laws.quantisation_is_near.Goals as goal

pub returns-clause-near : goal.returns-clause-near
returns-clause-near c = λ z. comes_back_near z c.args.q

pub returns-clause-exact : goal.returns-clause-exact
returns-clause-exact c = λ e z. rw e (comes_back z)
