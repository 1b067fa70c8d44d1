-- Datagrams that are sent one after another, and counted. The laws of a listener cite these.
use Rattle.std.proofs.Common.{◌≡◌, ℕ, ◌≤◌, List, [], ◌∷◌, ◌++◌, length, Option, Some, None, refl}
use Rattle.std.proofs.Common.{sym, ap, ◌∙◌, arith, append_assoc, length-append}
use Rattle.std.proofs.lemmas.List.Sums.{sum_by-append}
use Rattle.link_hearing.specs.declared.listener.ListenerFault.{ListenerFault}
use Rattle.link_hearing.specs.declared.listener.ListenerFault.TheVariants as faults
use Rattle.link_outside.specs.WireLaws.{more_sent, none_sent, part_behind}
use Rattle.link_outside.specs.declared.outlet.OutletFault.TheVariants as outlets
use Rattle.cmd_record.specs.Replayers.{ReplayState, BreaksOff, DoesNotSendAgain, SendsAgain, SendsMostAgain}

pub none_sent_again : (x : ReplayState) → SendsAgain x x []
none_sent_again x = record {
  sent = none_sent x.told x.faults;
  datagrams_are = omega arith;
  bytes_are = omega arith;
}

module _ (x y z : ReplayState) (one two : List (List ℕ)) where
  pub more_sent_again : SendsAgain x y one → SendsAgain y z two → SendsAgain x z (one ++ two)
  more_sent_again p q = record {
    sent = more_sent x.told y.told z.told x.faults y.faults z.faults one two p.sent q.sent;
    datagrams_are = omega (arith, p.datagrams_are, q.datagrams_are, length-append one two);
    bytes_are = omega (arith, p.bytes_are, q.bytes_are, sum_by-append length one two);
  }

-- datagrams that are the first of some are the first behind others too
behind : (one two first rest : List (List ℕ)) → two ≡ first ++ rest → one ++ two ≡ (one ++ first) ++ rest
behind one two first rest are =
    ap (λ (l : List (List ℕ)). one ++ l) are ∙ sym (append_assoc one first rest)

module _ (x y z : ReplayState) (one two : List (List ℕ)) where
  unsent_then : (long_at : Option ℕ) → SendsAgain x y one → DoesNotSendAgain long_at y z two
      → DoesNotSendAgain long_at x z (one ++ two)
  unsent_then None p q =
      part_behind x.told y.told z.told x.faults y.faults z.faults one two outlets.Wire p.sent q
  unsent_then (Some place) p q = record {
    others = one ++ q.others;
    last = q.last;
    are = behind one two q.others (q.last ∷ []) q.are;
    too_long = q.too_long;
    sends = more_sent_again x y z one q.others p q.sends;
    place_is = q.place_is;
  }

  pub breaks_then : (fault : ListenerFault) → SendsAgain x y one → BreaksOff y z two fault
      → BreaksOff x z (one ++ two) fault
  breaks_then faults.NoMemory p q = record {
    most = one ++ q.most;
    lost = q.lost;
    are = behind one two q.most q.lost q.are;
    few = q.few;
    sends = more_sent_again x y z one q.most p q.sends;
  }
  breaks_then faults.Output p q = unsent_then z.long_at p q

pub loses_last : (x y : ReplayState) (first lost : List (List ℕ)) → length lost ≤ 1 → SendsAgain x y first
    → SendsMostAgain x y (first ++ lost)
loses_last x y first lost few p =
    record { most = first; lost = lost; are = refl; few = few; sends = p }
