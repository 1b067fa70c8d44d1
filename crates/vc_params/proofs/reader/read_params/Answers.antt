use Rattle.vc_types.specs.SequenceHeader.{sequence_of}
use Rattle.vc_types.specs.TransformParameters.{parameters_of}
use Rattle.vc_types.proofs.CodedBytes.{found, only}
use Rattle.vc_types.proofs.ParameterCodecs.{parameters_are}
use Rattle.vc_params.proofs.reader.read_params.Goals as goal

pub returns-clause-found : goal.returns-clause-found
returns-clause-found c = found c.args.bytes.now (λ x. (parameters_of x.0, x.1)) c.front.result (parameters_are (sequence_of c.args.h.now)) c.front.ensures

pub returns-clause-only : goal.returns-clause-only
returns-clause-only c = only c.args.bytes.now (λ x. (parameters_of x.0, x.1)) c.front.result (parameters_are (sequence_of c.args.h.now)) c.front.ensures
