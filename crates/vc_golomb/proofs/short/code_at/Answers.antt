use Rattle.vc_golomb.proofs.ShortCodes.{code_is}
use Rattle.vc_golomb.proofs.short.code_at.Goals as goal

pub returns : goal.returns
returns c = code_is c.args.place c.requires
