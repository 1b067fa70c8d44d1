use Rattle.std.proofs.Common.{◌*◌, ◌%◌, ◌^◌, arith}
use Rattle.std.proofs.lemmas.Nat.{one_shl}
use Rattle.vc_types.proofs.PaddedSides.{shifted-above, shifted-upto}
use Rattle.vc_types.proofs.limits.padded.Goals as goal

pub returns-clause-some : goal.returns-clause-some
returns-clause-some c some = shifted-above c.args.side c.args.depth (1 * 2 ^ c.args.depth % 2 ^ 32) (one_shl c.args.depth 32 (omega arith)) some

pub returns-clause-small : goal.returns-clause-small
returns-clause-small c = shifted-upto c.args.side c.args.depth (1 * 2 ^ c.args.depth % 2 ^ 32) (one_shl c.args.depth 32 (omega arith)) (omega arith) (omega arith)
