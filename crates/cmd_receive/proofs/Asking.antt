-- What is offered by calls of places one after another.
use Rattle.std.proofs.Common.{◌≡◌, ℕ, false, List, [], ◌∷◌, ◌++◌, refl, Option}
use Rattle.std.proofs.lemmas.Grind.{flat_map-append}
use Rattle.std.proofs.lemmas.List.Folds.{list_any-append}
use Rattle.machine_model.specs.Feeding.{is_same_job}
use Rattle.machine_model.specs.Places.{Job}
use Rattle.link_model.specs.Session.{HeardSession, sessions_of}
use Rattle.receiver_model.specs.Entering.{datagram_jobs}
use Rattle.receiver_model.specs.Offered.{AreAllOffered}
use Rattle.receiver_model.specs.Standing.{StandsForHeard}
use Rattle.receiver_model.proofs.AllOffered.{none_offered, more_offered}
use Rattle.link_receiver.proofs.Asked.{grows_none, grows_twice}
use Rattle.link_receiver.specs.States.{ReceiverState}
use Rattle.link_slices.specs.Jobs.{jobs_of_run}
use Rattle.cmd_receive.specs.Playouts.{HandsWereOffered}
use Rattle.vc_slice.specs.Asked.{Told, Offer, nothing_told, told_more}
use Rattle.link_receiver.specs.HeardLists.{OutputForm, HasHeard, AskedPlaces, OfferedToPlaces, told_jobs}

heard_by : {form : OutputForm} (r : ReceiverState) (window : ℕ) (datagrams : List (List ℕ))
    → HasHeard form r window datagrams → StandsForHeard r.reception window datagrams false
heard_by r window datagrams h = rw h.heard at (rw h.goes_on at h.stands.heard)

-- nothing was heard
pub nothing_offered : (window : ℕ) (told : Option Told)
    → HandsWereOffered window [] (record { before = told; after = told })
nothing_offered window told = record {
  more = nothing_told;
  grows = grows_none told;
  started = refl;
  offered = none_offered window [];
}

all_with_more : (window : ℕ) (hs : List HeardSession) (offered more : List Job)
    → AreAllOffered window hs offered → AreAllOffered window hs (offered ++ more)
all_with_more window hs offered more was n i job is =
    rw (list_any-append (is_same_job job) offered more, was n i job is) refl

told_jobs_more : (a b : Told) → told_jobs (told_more a b) ≡ told_jobs a ++ told_jobs b
told_jobs_more a b = flat_map-append (λ (offer : Offer). jobs_of_run offer.job) a.offered b.offered

module _ (window : ℕ) (datagrams : List (List ℕ)) (before mid after : Option Told)
    (first : HandsWereOffered window datagrams (record { before = before; after = mid })) where
  -- a datagram more was heard
  pub offered_with : {form : OutputForm} (r : ReceiverState) (d : List ℕ)
      → HasHeard form r window datagrams
      → OfferedToPlaces mid after (datagram_jobs r.reception d)
      → HandsWereOffered window (datagrams ++ d ∷ []) (record { before = before; after = after })
  offered_with r d h second = record {
    more = told_more first.more second.more;
    grows = grows_twice before mid after first.more second.more first.grows second.grows;
    started = rw (first.started, second.started) refl;
    offered = rw (told_jobs_more first.more second.more)
        (more_offered r.reception window datagrams d h.fits (heard_by r window datagrams h)
        (told_jobs first.more) (told_jobs second.more) first.offered second.offered);
  }

  -- places were asked
  pub offered_then : AskedPlaces mid after
      → HandsWereOffered window datagrams (record { before = before; after = after })
  offered_then second = record {
    more = told_more first.more second.more;
    grows = grows_twice before mid after first.more second.more first.grows second.grows;
    started = rw (first.started, second.started) refl;
    offered = rw (told_jobs_more first.more second.more)
        (all_with_more window (sessions_of datagrams) (told_jobs first.more)
        (told_jobs second.more) first.offered);
  }
