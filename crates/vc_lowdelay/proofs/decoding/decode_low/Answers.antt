use Rattle.std.proofs.Common.{arith}
use Rattle.vc_lowdelay.specs.OfPlan.{low_parameters_of}
use Rattle.vc_lowdelay.proofs.LowAnswers.{is_short}
use Rattle.vc_lowdelay.proofs.decoding.decode_low.Goals as goal

pub returns-then-bytes-picture_size-clause-refused : goal.returns-then-bytes-picture_size-clause-refused
returns-then-bytes-picture_size-clause-refused c = is_short (low_parameters_of c.args.p.now) c.args.bytes.now (omega arith)
