use Rattle.std.proofs.Common.{List, ℕ, [], length, refl, ap, sym, subst, arith}
use Rattle.link_outside.specs.Calls.{passes_none}
use Rattle.link_outside.specs.Passing.{Passes}
use Rattle.link_outside.specs.WireLaws.{none_sent}
use Rattle.vc_ports.specs.Wires.{WireTold}
use Rattle.cmd_record.specs.Replayers.{replay_state}
use Rattle.cmd_record.proofs.replayer.ReplayerListener.hear.Goals as goal

-- a datagram that is too long
pub returns-then-bytes-gt-LONGEST-clause-broke : goal.returns-then-bytes-gt-LONGEST-clause-broke
returns-then-bytes-gt-LONGEST-clause-broke g c =
    let x = replay_state g.N.Wire.told g.N.Wire.faults c.args.self.now in (
      refl,
      record {
        others = [];
        last = c.args.datagram;
        are = refl;
        too_long = omega (arith, c.if-bytes-gt-LONGEST.true, ap (λ (l : List ℕ). length l) c.as_slice-bytes.ensures);
        sends = record { sent = none_sent x.told x.faults; datagrams_are = omega arith; bytes_are = omega arith };
        place_is = refl;
      },
    )

-- a send that failed
pub returns-clause-broke : goal.returns-clause-broke
returns-clause-broke g c =
    let x = replay_state g.N.Wire.told g.N.Wire.faults c.args.self.now in (
      refl,
      rw c.requires.ready.short (record {
        fault_is = refl;
        count = 0;
        within = omega arith;
        passes = subst (λ (t : WireTold). Passes x.told t [] []) (sym c.in-Failed.ensures.told) (passes_none x.told);
        rose = c.in-Failed.ensures.cause.rose refl;
      }),
    )
