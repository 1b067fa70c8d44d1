use Rattle.picture_build.proofs.Weaving.{field_heights, woven_fits}
use Rattle.picture_build.proofs.laws.fields_can_be_woven.Goals as goal

-- src/laws.rt:23:1
pub returns-clause-heights : goal.returns-clause-heights
returns-clause-heights c = field_heights

-- src/laws.rt:23:1
pub returns-clause-samples : goal.returns-clause-samples
returns-clause-samples c = woven_fits
