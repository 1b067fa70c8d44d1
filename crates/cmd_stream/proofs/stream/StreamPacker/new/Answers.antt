use Rattle.std.proofs.Common.{refl, arith}
use Rattle.vc_types.specs.SenderSettings.{packing_view}
use Rattle.cmd_stream.proofs.Starting.{totals_none}
use Rattle.cmd_stream.proofs.stream.StreamPacker.new.Goals as goal

pub returns-clause-behind : goal.returns-clause-behind
returns-clause-behind c = record { settings_are = refl; seq_fits = omega arith; opened = tt; totals_are = totals_none (packing_view c.args.settings) }
