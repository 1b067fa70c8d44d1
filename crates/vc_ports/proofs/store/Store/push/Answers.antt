use Rattle.std.proofs.Common.{refl}
use Rattle.vc_ports.proofs.Storing.{one_more}
use Rattle.vc_ports.proofs.store.Store.push.Goals as goal

pub returns : goal.returns
returns c =
    rw (← c.self.view_is, c.in-Ok-Ok.ensures.items, c.in-Ok-Ok.ensures'.items, c.len-from.ensures, c.self.invariant.3)
    (rw (one_more c.self.inside.bytes.items c.args.bytes.now c.self.inside.pieces.items c.self.invariant.0) refl)
