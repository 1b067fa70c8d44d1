use Rattle.vc_lift.proofs.LineLaws.{synthesis_grows_little, analysis_grows_little}
use Rattle.vc_lift.proofs.laws.lines_grow_little.Goals as goal

pub returns-clause-synthesis : goal.returns-clause-synthesis
returns-clause-synthesis c = synthesis_grows_little c.args.wavelet

pub returns-clause-analysis : goal.returns-clause-analysis
returns-clause-analysis c = analysis_grows_little c.args.wavelet
