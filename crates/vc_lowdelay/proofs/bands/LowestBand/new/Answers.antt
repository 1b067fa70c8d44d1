use Rattle.vc_types.specs.TransformParameters.{parameters_of}
use Rattle.vc_lowdelay.proofs.LowestPlaces.{is_lowest}
use Rattle.vc_lowdelay.proofs.bands.LowestBand.new.Goals as goal

pub returns : goal.returns
returns c = is_lowest (parameters_of c.args.plan.now) c.args.c c.band-rect.result c.in_ok-values.values.items c.band-rect.ensures.value
