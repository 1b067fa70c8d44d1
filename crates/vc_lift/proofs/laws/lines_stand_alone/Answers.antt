use Rattle.vc_lift.proofs.LineLaws.{synthesis_is_local, analysis_is_local}
use Rattle.vc_lift.proofs.laws.lines_stand_alone.Goals as goal

pub returns-clause-synthesis : goal.returns-clause-synthesis
returns-clause-synthesis c = synthesis_is_local c.args.wavelet

pub returns-clause-analysis : goal.returns-clause-analysis
returns-clause-analysis c = analysis_is_local c.args.wavelet
