use Rattle.vc_lift.proofs.LineLaws.{synthesis_undoes_analysis}
use Rattle.vc_lift.proofs.laws.synthesis_undoes_analysis.Goals as goal

pub returns : goal.returns
returns c = synthesis_undoes_analysis c.args.wavelet
