-- How packing ends by a unit that isn't packed.
use Rattle.std.specs.Prelude.{ℕ}
use Rattle.link_report.specs.declared.ending.Ending.{Ending}
use Rattle.link_report.specs.declared.ending.Ending.TheVariants.{NoMemory, OutputFailed}
use Rattle.link_report.specs.declared.ending.Ending.TheVariants.{SliceTooLarge, StreamBad}
use Rattle.cmd_stream.specs.declared.pack_fault.UnitRefusal.{UnitRefusal}
use Rattle.cmd_stream.specs.declared.pack_fault.UnitRefusal.TheVariants as refusals

abbrev pub unpacked_ended : UnitRefusal → ℕ → Ending
unpacked_ended refusals.Bad place = StreamBad place
unpacked_ended (refusals.TooLarge slice bytes) place = SliceTooLarge slice bytes
unpacked_ended refusals.WriteFault place = OutputFailed
unpacked_ended refusals.NoMemory place = NoMemory
