-- What calls of a receiver are for a list of datagrams that it has heard.
use Rattle.std.proofs.Common.{◌≡◌, ℕ, ◌≤◌, true, List, [], ◌∷◌, ◌++◌, Option, refl, ap, sym, subst, ◌∙◌, arith}
use Rattle.link_model.specs.Judgement.{tally_of, outcome_behind}
use Rattle.machine_model.specs.Places.{Job}
use Rattle.link_model.specs.Session.{sessions_of}
use Rattle.link_model.specs.declared.outcome.Outcome.{Outcome}
use Rattle.receiver_model.specs.Entering.{before_releases, datagram_jobs}
use Rattle.receiver_model.specs.Exchanging.{Exchange, dones_in, is_job_among}
use Rattle.receiver_model.specs.Receptions.{Reception}
use Rattle.receiver_model.specs.SlicesOut.{AreOutKept}
use Rattle.receiver_model.specs.Standing.{StandsFor, AreDecodings}
use Rattle.receiver_model.proofs.DatagramJobs.{only_jobs, open_jobs}
use Rattle.receiver_model.proofs.OutKept.{offered_not_out}
use Rattle.receiver_model.proofs.UnansweredJobs.{offered_unanswered}
use Rattle.link_receiver.proofs.HeardMore.{heard_stands, heard_outcome, heard_with, heard_writes, end_writes, end_counts, writes_same}
use Rattle.link_receiver.proofs.Asked.{none_started}
use Rattle.link_receiver.proofs.OfferedEach.{told_have, told_are, offers_are_puts}
use Rattle.link_receiver.specs.Entered.{Outside, IsEntered, IsDrained}
use Rattle.link_receiver.specs.Freeing.{all_freed_places}
use Rattle.link_receiver.specs.HeardLists.{OutputForm, HasHeard, OfferedToPlaces, newly_due, still_due}
use Rattle.link_receiver.specs.HeardLists.{IsNewSlice, OfferedNewSlices}
use Rattle.link_receiver.specs.States.{ReceiverState}
use Rattle.link_slices.specs.Calls.{PlaceCall, exchanges_of}
use Rattle.link_pictures.specs.Outputs.{datagram_output, written_behind_datagram, end_output}
use Rattle.link_pictures.specs.declared.written.Written.{Written}
use Rattle.link_pictures.specs.declared.written.Written.TheVariants.{Frames, Filled, Units}
use Rattle.vc_ports.specs.Writing.{Grew, GrewBySome}

some_open : {size : ℕ} → 2 ≤ size → 1 ≤ size
some_open two = omega arith

-- a receiver as its fields are, and as it is seen
module _ {inside old : ReceiverState} (is : inside ≡ old) where
  module _ {d : List ℕ} {outside : Outside} {new : Reception} {outcome : Outcome}
      {calls : List PlaceCall} (e : IsEntered outside inside.reception new d outcome calls) where
    pub enter_offered : OfferedToPlaces outside.told_before outside.told_behind
        (datagram_jobs old.reception d)
    enter_offered = rw (← is) (record {
      more = _;
      grows = e.told;
      started = rw (none_started calls) refl;
      offered = told_have calls
          (all_freed_places (before_releases inside.reception d (exchanges_of calls)))
          (datagram_jobs inside.reception d) e.offered;
    })

    module _ {form : OutputForm} {size : ℕ} {datagrams : List (List ℕ)}
        (h : HasHeard form old size datagrams) where
      heard : HasHeard form inside size datagrams
      heard = rw is h

      pub enter_judged : outcome ≡ outcome_behind size datagrams d
      enter_judged = e.judgement ∙ heard_outcome form inside size datagrams heard d

      pub enter_heard : outside.written_before ≡ inside.written → HasHeard form (record {
        reception = new;
        written = outside.written_behind;
        has_failed = inside.has_failed;
      }) size (datagrams ++ d ∷ [])
      enter_heard first =
          let then = heard_with form inside size datagrams heard (exchanges_of calls) e.decodings d
          (offers_are_puts (datagram_jobs inside.reception d) (exchanges_of calls) e.offered) in
          record {
            sound = heard.sound;
            least = h.least;
            fits = h.fits;
            feeder = then.feeder;
            stands = subst (λ (r : Reception). StandsFor r size then.feeder) (sym e.value)
                then.stands;
            heard = then.heard;
            goes_on = then.goes_on;
            out = subst (λ (r : Reception). AreOutKept size (sessions_of
                (datagrams ++ d ∷ [])) r.out)
                (sym e.value) then.out;
            writes = writes_same form _ _ size (datagrams ++ d ∷ []) e.value
                (e.kept ∙ ap (λ (o : Written).
                written_behind_datagram o inside.reception d (exchanges_of calls)) first)
                then.writes;
          }

      new_slice : (job : Job) → is_job_among (datagram_jobs inside.reception d) job ≡ true
          → IsNewSlice inside.reception size datagrams d job
      new_slice job there =
          let r : Reception = inside.reception in
          let stands = heard_stands form inside size datagrams heard in
          let only = only_jobs r size datagrams d stands h.fits job there in
          record {
            kept = only.0;
            new = only.1;
            unclosed = open_jobs r size datagrams d stands (some_open h.least) h.fits job there;
            unanswered = offered_unanswered r size heard.feeder h.fits heard.stands heard.goes_on
                d job there;
            not_out = offered_not_out r size datagrams d h.fits stands heard.out job there;
          }

      pub enter_chosen : OfferedNewSlices outside.told_before outside.told_behind
          old.reception size datagrams d
      enter_chosen = rw (← is) (record {
        more = _;
        grows = e.told;
        each = λ job there. new_slice job (told_are calls
            (all_freed_places (before_releases inside.reception d (exchanges_of calls)))
            (datagram_jobs inside.reception d) e.offered job there);
      })

      pub enter_wrote : outside.written_before ≡ inside.written
          → Grew outside.held_before outside.held_behind (newly_due form size datagrams d)
      enter_wrote first = grind (arith, heard_writes)

  module _ {outside : Outside} {new : Reception} {calls : List PlaceCall}
      (e : IsDrained outside inside.reception new calls)
      {form : OutputForm} {size : ℕ} {datagrams : List (List ℕ)}
      (h : HasHeard form old size datagrams) where
    pub drain_wrote : outside.written_before ≡ inside.written
        → Grew outside.held_before outside.held_behind (still_due form size datagrams)
    drain_wrote first = grind (arith, end_writes)

    pub drain_counts : new.counts ≡ tally_of size datagrams
    drain_counts =
        ap (λ (r : Reception). r.counts) e.value
        ∙ end_counts form inside size datagrams (rw is h) (exchanges_of calls) e.decodings

  -- a call that fails
  module _ (before behind : Option (List ℕ)) {form : OutputForm} {size : ℕ}
      {datagrams : List (List ℕ)} (h : HasHeard form old size datagrams) where
    pub enter_part : (d : List ℕ)
        → (exchanges : List Exchange) × AreDecodings (dones_in exchanges)
        × GrewBySome before behind (datagram_output inside.written inside.reception d exchanges)
        → GrewBySome before behind (newly_due form size datagrams d)
    enter_part d e = rw (heard_writes form inside size datagrams (rw is h) e.0 e.1 d) at e.2

    pub drain_part : (exchanges : List Exchange) × AreDecodings (dones_in exchanges)
        × GrewBySome before behind (end_output inside.written inside.reception exchanges)
        → GrewBySome before behind (still_due form size datagrams)
    drain_part e = rw (end_writes form inside size datagrams (rw is h) e.0 e.1) at e.2
