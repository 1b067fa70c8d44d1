use Rattle.std.proofs.Common.{arith}
use Rattle.vc_types.specs.SequenceHeader.{sequence_of}
use Rattle.vc_types.proofs.CodedBytes.{found, only}
use Rattle.vc_types.proofs.HeaderCodecs.{header_is_of}
use Rattle.vc_seqhdr.proofs.reader.read_header_of.Goals as goal

pub returns-clause-found : goal.returns-clause-found
returns-clause-found c = found c.args.bytes.now (λ x. (sequence_of x.0, x.1)) c.front.result (header_is_of c.args.profile (omega arith)) c.front.ensures

pub returns-clause-only : goal.returns-clause-only
returns-clause-only c = only c.args.bytes.now (λ x. (sequence_of x.0, x.1)) c.front.result (header_is_of c.args.profile (omega arith)) c.front.ensures
