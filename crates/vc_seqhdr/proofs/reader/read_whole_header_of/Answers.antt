use Rattle.std.proofs.Common.{arith}
use Rattle.vc_types.proofs.CodedBytes.{found, only}
use Rattle.vc_types.proofs.HeaderCodecs.{whole_is_of}
use Rattle.vc_seqhdr.specs.Whole.{said_by}
use Rattle.vc_seqhdr.proofs.reader.read_whole_header_of.Goals as goal

pub returns-clause-found : goal.returns-clause-found
returns-clause-found c = found c.args.bytes.now said_by c.whole_front.result (whole_is_of c.args.profile (omega arith)) c.whole_front.ensures

pub returns-clause-only : goal.returns-clause-only
returns-clause-only c = only c.args.bytes.now said_by c.whole_front.result (whole_is_of c.args.profile (omega arith)) c.whole_front.ensures
