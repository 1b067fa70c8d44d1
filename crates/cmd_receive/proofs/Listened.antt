-- What a receiver's calls do to what it has heard, and what it has heard since it heard nothing.
use Rattle.std.proofs.Common.{◌≡◌, ℕ, List, [], ◌∷◌, ◌++◌, Err, refl, append-nil}
use Rattle.std.specs.Prelude.{Result}
use Rattle.link_model.specs.Judgement.{tally_of}
use Rattle.link_model.specs.declared.tally.Tally.{Tally}
use Rattle.link_receiver.proofs.Due.{due_with, due_at_end, nothing_due}
use Rattle.link_receiver.specs.HeardLists.{OutputForm, HasHeard, OfferedToPlaces}
use Rattle.link_receiver.specs.HeardLists.{due_in_all, newly_due, still_due}
use Rattle.link_receiver.specs.declared.fault.EnterFault.{EnterFault}
use Rattle.link_receiver.specs.declared.fault.EnterFault.TheVariants as faults
use Rattle.link_report.specs.declared.ending.Ending.{Ending}
use Rattle.receiver_model.specs.Entering.{datagram_jobs}
use Rattle.vc_ports.proofs.Growing.{Grew-none, Grew-then, GrewBySome-then}
use Rattle.vc_ports.specs.Faults.{HasCause}
use Rattle.vc_ports.specs.Writing.{Grew, GrewBySome}
use Rattle.cmd_receive.proofs.Asking.{nothing_offered, offered_then, offered_with}
use Rattle.link_hearing.specs.Hearing.{fault_ending}
use Rattle.cmd_receive.specs.HearingLaws.{breaks_then, part_of_all}
use Rattle.cmd_receive.specs.Playouts.{PlayoutState, BreaksOff, Drains, GoesOn}
use Rattle.cmd_receive.specs.Playouts.{HasHeardSince, Hears, Stumbles, fault_of}

-- ---- its calls

module _ (x y : PlayoutState) (goes : GoesOn x y) where
  module _ (d : List ℕ) where
    pub hears_one : ((form : OutputForm) (window : ℕ) (ds : List (List ℕ))
        → HasHeard form x.receiver window ds → HasHeard form y.receiver window (ds ++ d ∷ []))
        → ((form : OutputForm) (window : ℕ) (ds : List (List ℕ))
        → HasHeard form x.receiver window ds → Grew x.held y.held (newly_due form window ds d))
        → OfferedToPlaces x.asked y.asked (datagram_jobs x.receiver.reception d)
        → Hears x y (d ∷ [])
    hears_one hears wrote offered = record {
      goes = goes;
      since = λ form window held asked ds was. record {
        has_heard = hears form window ds was.has_heard;
        wrote = rw (due_with form window ds d) at
            (Grew-then held x.held y.held _ _ was.wrote (wrote form window ds was.has_heard));
        offered = offered_with window ds asked x.asked y.asked was.offered x.receiver d
            was.has_heard offered;
      };
    }

    pub stumbles_at : ((form : OutputForm) (window : ℕ) (ds : List (List ℕ))
        → HasHeard form x.receiver window ds
        → GrewBySome x.held y.held (newly_due form window ds d))
        → Stumbles x y (d ∷ [])
    stumbles_at part = record {
      goes = goes;
      since = λ form window held asked ds was. part_of_all form window held y.held (ds ++ d ∷ [])
          (rw (due_with form window ds d) at
          (GrewBySome-then held x.held y.held _ _ was.wrote (part form window ds was.has_heard)));
    }

  pub drains : (tally : Tally)
      → ((form : OutputForm) (window : ℕ) (ds : List (List ℕ))
      → HasHeard form x.receiver window ds → Grew x.held y.held (still_due form window ds))
      → ((form : OutputForm) (window : ℕ) (ds : List (List ℕ))
      → HasHeard form x.receiver window ds → tally ≡ tally_of window ds)
      → Drains x y tally
  drains tally wrote counts = record {
    goes = goes;
    since = λ form window held asked ds was. record {
      wrote = rw (due_at_end form window ds) at
          (Grew-then held x.held y.held _ _ was.wrote (wrote form window ds was.has_heard));
      counted = counts form window ds was.has_heard;
      offered = offered_then window ds asked x.asked y.asked was.offered goes.asked;
    };
  }

  pub stumbles_at_end : ((form : OutputForm) (window : ℕ) (ds : List (List ℕ))
      → HasHeard form x.receiver window ds → GrewBySome x.held y.held (still_due form window ds))
      → Stumbles x y []
  stumbles_at_end part = record {
    goes = goes;
    since = λ form window held asked ds was. rw (append-nil ds, ← due_at_end form window ds)
        (GrewBySome-then held x.held y.held _ _ was.wrote (part form window ds was.has_heard));
  }

module _ {x y : PlayoutState} {given : List (List ℕ)} where
  pub breaks_so : {A : Type 0} (fault : EnterFault) → Stumbles x y given
      → HasCause x.faults y.faults (◌≡◌ {A = Result A EnterFault} (Err fault) (Err faults.WriteFault))
      → BreaksOff x y given (fault_ending (fault_of fault))
  breaks_so faults.NoMemory stumbles cause = stumbles
  breaks_so faults.WriteFault stumbles cause = (stumbles, cause.rose refl)
  breaks_so faults.Ended stumbles cause = stumbles

-- ---- since it had heard nothing

pub begun : {form : OutputForm} {window : ℕ} (x : PlayoutState) → HasHeard form x.receiver window []
    → HasHeardSince form window x.held x.asked x []
begun {form = form} {window = window} x new = record {
  has_heard = new;
  wrote = rw (nothing_due form window) (Grew-none x.held);
  offered = nothing_offered window x.asked;
}

module _ {form : OutputForm} {window : ℕ} {x y : PlayoutState} {given : List (List ℕ)}
    (new : HasHeard form x.receiver window []) where
  pub heard_all : Hears x y given → HasHeardSince form window x.held x.asked y given
  heard_all p = p.since form window x.held x.asked [] (begun x new)

  pub heard_part : Stumbles x y given → GrewBySome x.held y.held (due_in_all form window given)
  heard_part p = p.since form window x.held x.asked [] (begun x new)

-- the receiver broke off at the end of its input
pub breaks_at_end : (x y z : PlayoutState) (given : List (List ℕ)) (end : Ending) → Hears x y given
    → BreaksOff y z [] end → BreaksOff x z given end
breaks_at_end x y z given end p q = rw append-nil at (breaks_then x y z given [] end p q)
