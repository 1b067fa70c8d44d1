-- What sending over a wire did that was aimed before.
use Rattle.std.proofs.Common.{◌≡◌, ◌≤◌, ℕ, List, [], Err, inl, subst, arith, take}
use Rattle.std.specs.Prelude.{Result}
use Rattle.link_outside.specs.Outlets.{SentAll, SentPart}
use Rattle.link_outside.specs.Passing.{Passes}
use Rattle.link_outside.specs.declared.outlet.OutletFault.{OutletFault}
use Rattle.link_report.specs.declared.ending.Ending.{Ending}
use Rattle.link_report.specs.declared.ending.Ending.TheVariants.{WireFailed}
use Rattle.link_report.specs.declared.summary.Summary.{Summary}
use Rattle.cmd_send.specs.OverWire.{SendsOver, behind_aim}
use Rattle.cmd_send.specs.Sends.{SendEnded, SendsFrames}
use Rattle.cmd_send.proofs.Carrying.{sends_weaker}
use Rattle.vc_ports.specs.Changes.{HasRisen, InputChange, WireChange, wire_of}
use Rattle.vc_ports.specs.Wires.{WireTold, aiming}
use Rattle.vc_types.specs.SenderSettings.{Sending}

module _ {N : Type 0} (told : N → WireTold) (faults : N → ℕ) (s : Sending) (most : ℕ) (to : List ℕ)
    (answer : Result Summary Ending) (input : InputChange) (old aimed left : N)
    (aims : told aimed ≡ aiming (told old) to) (later : faults old ≤ faults aimed) where
  abbrev wire : WireChange
  wire = wire_of told faults old left

  abbrev behind : WireChange
  behind = wire_of told faults aimed left

  carry : (datagrams : List (List ℕ)) → SentAll behind datagrams → SentAll (behind_aim to wire) datagrams
  carry datagrams went = record {
    passes = subst (λ (t : WireTold). Passes t (told left) datagrams []) aims went.passes;
    later = omega (arith, later, went.later);
  }

  break : (datagrams : List (List ℕ)) (fault : OutletFault) → SentPart behind datagrams fault → SentPart (behind_aim to wire) datagrams fault
  break datagrams fault part = record {
    fault_is = part.fault_is;
    count = part.count;
    within = part.within;
    passes = subst (λ (t : WireTold). Passes t (told left) (take part.count datagrams) []) aims part.passes;
    rose = omega (arith, later, part.rose);
  }

  risen : SendsFrames s most answer input (SentAll behind) (SentPart behind) → answer ≡ Err WireFailed → HasRisen wire.faults
  risen did failed =
      let unsent = subst (λ (a : Result Summary Ending). SendEnded s most a input (SentAll behind) (SentPart behind) did.frames did.rest) failed did.ended in
      omega (arith, later, unsent.part_sent.rose)

  sends_over : SendsFrames s most answer input (SentAll behind) (SentPart behind) → SendsOver s most to answer input wire
  sends_over did = record {
    did = inl (sends_weaker s most input (SentAll behind) (SentAll (behind_aim to wire)) (SentPart behind) (SentPart (behind_aim to wire)) carry break answer did);
    wire_failed = risen did;
  }

  -- what was lent comes back as it was left
  pub sends_back : (end : N) → SendsFrames s most answer input (SentAll behind) (SentPart behind) → end ≡ left → SendsOver s most to answer input (wire_of told faults old end)
  sends_back end did back = rw back (sends_over did)
