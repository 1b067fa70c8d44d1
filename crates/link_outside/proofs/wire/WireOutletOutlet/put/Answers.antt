use Rattle.std.proofs.Common.{◌∷◌, [], refl, sym, subst, arith}
use Rattle.vc_ports.specs.Wires.{WireTold}
use Rattle.link_outside.specs.Calls.{passes_none, passes_sent}
use Rattle.link_outside.specs.Passing.{Passes}
use Rattle.link_outside.specs.WireLaws.{more_sent, part_behind}
use Rattle.link_outside.proofs.wire.WireOutletOutlet.put.Goals as goal

pub returns-in-Yes-clause-took : goal.returns-in-Yes-clause-took
returns-in-Yes-clause-took g c = λ first before took.
    let now = c.in-Yes.ensures in
    let datagram = c.args.datagram.now in (
      took.0,
      more_sent _ _ _ _ _ _ before (datagram ∷ []) took.1 (record {
        passes = passes_sent _ _ datagram now.told;
        later = now.cause.later;
      }),
    )

pub returns-in-Failed-clause-broke : goal.returns-in-Failed-clause-broke
returns-in-Failed-clause-broke g c = λ first before took.
    let now = c.in-Failed.ensures in
    let told = g.N.Wire.told c.args.self.now.wire.now in (
      took.0,
      part_behind _ _ _ _ _ _ before (c.args.datagram.now ∷ []) _ took.1 (record {
        fault_is = refl;
        count = 0;
        within = omega arith;
        passes = subst (λ (t : WireTold). Passes told t [] []) (sym now.told) (passes_none told);
        rose = now.cause.rose refl;
      }),
    )
