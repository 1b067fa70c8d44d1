use Rattle.std.proofs.Common.{arith}
use Rattle.vc_lowdelay.proofs.LengthBits.{no_bits, by_log, room, small}
use Rattle.vc_lowdelay.proofs.slice.length_bits.Goals as goal

pub returns-in-0-clause-value : goal.returns-in-0-clause-value
returns-in-0-clause-value c = no_bits c.args.bytes c.requires.0 (omega arith)

pub returns-in_default-clause-value : goal.returns-in_default-clause-value
returns-in_default-clause-value c = by_log c.args.bytes c.requires.1 c.ilog2.result c.ilog2.ensures.power_le c.ilog2.ensures.next_power_gt

pub returns-in_default-clause-few : goal.returns-in_default-clause-few
returns-in_default-clause-few c = omega (arith, small c.args.bytes c.requires.1 c.ilog2.result c.ilog2.ensures.power_le)

pub returns-in_default-clause-room : goal.returns-in_default-clause-room
returns-in_default-clause-room c = room c.args.bytes c.requires.1 c.ilog2.result c.ilog2.ensures.power_le
