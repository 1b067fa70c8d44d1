use Rattle.vc_units.proofs.Written.{data_unit-unit_bytes}
use Rattle.vc_units.proofs.laws.written_unit_is_read.Goals as goal

pub returns : goal.returns
returns c = data_unit-unit_bytes
