-- Datagrams that a receiver hears one after another. The laws of a listener and of a
-- loop's outlet cite these.
use Rattle.std.proofs.Common.{ℕ, ◌≤◌, List, [], ◌∷◌, ◌++◌, length, Option}
use Rattle.std.proofs.Common.{arith, append-nil, append_assoc}
use Rattle.link_receiver.proofs.Asked.{asked_none, asked_twice}
use Rattle.link_receiver.proofs.Due.{due_with, due_at_end}
use Rattle.link_receiver.specs.HeardLists.{OutputForm, due_so_far, due_in_all, newly_due, still_due}
use Rattle.link_report.specs.declared.ending.Ending.{Ending}
use Rattle.link_report.specs.declared.ending.Ending.TheVariants.{NoMemory, OutputFailed}
use Rattle.vc_ports.proofs.Growing.{GrewBySome-all, GrewBySome-front}
use Rattle.vc_ports.specs.Writing.{GrewBySome}
use Rattle.cmd_receive.specs.Playouts.{PlayoutState, BreaksOff, GoesOn, Hears, Stumbles}

pub stays : (x : PlayoutState) → GoesOn x x
stays x = record { asked = asked_none x.asked; well = λ w. w; later = omega arith }

pub none_heard : (x : PlayoutState) → Hears x x []
none_heard x = record {
  goes = stays x;
  since = λ form window held asked before was. rw append-nil was;
}

goes_then : {x y z : PlayoutState} → GoesOn x y → GoesOn y z → GoesOn x z
goes_then {x = x} {y = y} {z = z} p q = record {
  asked = asked_twice x.asked y.asked z.asked p.asked q.asked;
  well = λ w. q.well (p.well w);
  later = omega (arith, p.later, q.later);
}

module _ {x y z : PlayoutState} {first second : List (List ℕ)} where
  pub hears_then : Hears x y first → Hears y z second → Hears x z (first ++ second)
  hears_then p q = record {
    goes = goes_then p.goes q.goes;
    since = λ form window held asked before was. rw (← append_assoc before first second)
        (q.since form window held asked (before ++ first) (p.since form window held asked before was));
  }

  stumbles_then : Hears x y first → Stumbles y z second → Stumbles x z (first ++ second)
  stumbles_then p q = record {
    goes = goes_then p.goes q.goes;
    since = λ form window held asked before was. rw (← append_assoc before first second)
        (q.since form window held asked (before ++ first) (p.since form window held asked before was));
  }

module _ (x y z : PlayoutState) (first second : List (List ℕ)) where
  pub breaks_then : (end : Ending) → Hears x y first → BreaksOff y z second end
      → BreaksOff x z (first ++ second) end
  breaks_then NoMemory p q = stumbles_then p q
  breaks_then OutputFailed p q = (stumbles_then p q.0, omega (arith, p.goes.later, q.1))
  breaks_then end p q = absurd q

-- ---- a part of what is due

module _ (form : OutputForm) (window : ℕ) (held after : Option (List ℕ)) where
  -- what is due so far is a part of all
  pub part_of_all : (ds : List (List ℕ)) → GrewBySome held after (due_so_far form window ds)
      → GrewBySome held after (due_in_all form window ds)
  part_of_all ds grew = rw (due_at_end form window ds) at
      (GrewBySome-front held after (due_so_far form window ds) (still_due form window ds) grew)

  -- and of all that is due with a datagram more
  part_of_more : (ds : List (List ℕ)) (d : List ℕ)
      → GrewBySome held after (due_so_far form window ds)
      → GrewBySome held after (due_in_all form window (ds ++ d ∷ []))
  part_of_more ds d grew = part_of_all (ds ++ d ∷ []) (rw (due_with form window ds d) at
      (GrewBySome-front held after (due_so_far form window ds) (newly_due form window ds d) grew))

module _ {x y : PlayoutState} {given : List (List ℕ)} where
  pub so_far : Hears x y given → Stumbles x y given
  so_far p = record {
    goes = p.goes;
    since = λ form window held asked before was.
        part_of_all form window held y.held (before ++ given)
        (GrewBySome-all held y.held _ (p.since form window held asked before was).wrote);
  }

  -- it heard all but a last one, for which there was no memory
  pub all_but : (lost : List (List ℕ)) → length lost ≤ 1 → Hears x y given
      → Stumbles x y (given ++ lost)
  all_but [] few p = rw (append-nil given) (so_far p)
  all_but (d ∷ []) few p = record {
    goes = p.goes;
    since = λ form window held asked before was. rw (← append_assoc before given (d ∷ []))
        (part_of_more form window held y.held (before ++ given) d
        (GrewBySome-all held y.held _ (p.since form window held asked before was).wrote));
  }
  all_but (d ∷ e ∷ rest) few p = absurd (omega (arith, few))
