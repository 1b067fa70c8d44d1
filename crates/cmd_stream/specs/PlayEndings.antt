-- How playing ends by a fault.
use Rattle.std.specs.Prelude.{ℕ}
use Rattle.link_report.specs.declared.ending.Ending.{Ending}
use Rattle.link_report.specs.declared.ending.Ending.TheVariants.{InputFailed, OutputFailed}
use Rattle.link_report.specs.declared.ending.Ending.TheVariants.{NoMemory, StreamBad}
use Rattle.cmd_stream.specs.declared.play_fault.TakeFault.{TakeFault}
use Rattle.cmd_stream.specs.declared.play_fault.TakeFault.TheVariants as taking
use Rattle.vc_units.specs.declared.fault.UnitFault.{UnitFault}
use Rattle.vc_units.specs.declared.fault.UnitFault.TheVariants as reading

-- where a unit that begins at a place isn't read
abbrev pub reading_ended : UnitFault → ℕ → Ending
reading_ended reading.Prefix place = StreamBad place
reading_ended reading.Code place = StreamBad place
reading_ended reading.Offset place = StreamBad place
reading_ended reading.Short place = StreamBad place
reading_ended reading.ReadFault place = InputFailed
reading_ended reading.NoMemory place = NoMemory

-- where it isn't taken
abbrev pub taking_ended : TakeFault → ℕ → Ending
taking_ended taking.Refused place = StreamBad place
taking_ended taking.WriteFault place = OutputFailed
taking_ended taking.NoMemory place = NoMemory
