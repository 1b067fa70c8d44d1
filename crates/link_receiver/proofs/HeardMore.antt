-- What a receiver has heard behind a datagram, and what it wrote then and at the end.
use Rattle.std.proofs.Common.{◌≡◌, ℕ, false, List, [], ◌∷◌, ◌++◌, Option, ap, ◌∙◌, arith}
use Rattle.std.proofs.lemmas.List.Prefix.{front_rest}
use Rattle.fill_model.proofs.AtEnd.{ends}
use Rattle.fill_model.proofs.Datagrams.{grows}
use Rattle.link_model.specs.Judgement.{tally_of, outcome_behind}
use Rattle.receiver_model.specs.Entering.{datagram_jobs, takes_datagram, takes_end}
use Rattle.receiver_model.specs.Exchanging.{Exchange, dones_in}
use Rattle.receiver_model.specs.Judging.{judged}
use Rattle.receiver_model.specs.Receptions.{Reception}
use Rattle.receiver_model.specs.SlicesOut.{ArePutsOf}
use Rattle.receiver_model.specs.Standing.{StandsForHeard, AreDecodings}
use Rattle.receiver_model.proofs.Entered.{heard_again}
use Rattle.receiver_model.proofs.Following.{outcome_is, datagram_stands, datagram_writes, finished_writes, finished_counts}
use Rattle.receiver_model.proofs.OutKept.{datagram_out_kept}
use Rattle.link_receiver.specs.States.{ReceiverState}
use Rattle.link_receiver.specs.HeardLists.{OutputForm, AsFrames, AsFilled, AsUnits, HasHeard, WritesAs}
use Rattle.link_receiver.specs.HeardLists.{due_so_far, due_in_all, newly_due, still_due}
use Rattle.link_pictures.proofs.Following.{stream_follows, stream_grows, stream_ends}
use Rattle.link_pictures.specs.Outputs.{datagram_output, written_behind_datagram, end_output}
use Rattle.link_pictures.specs.Receiving.{stream_takes}
use Rattle.link_pictures.specs.declared.written.Written.{Written}
use Rattle.link_pictures.specs.declared.written.Written.TheVariants.{Filled}

-- what is written speaks of what a receiver has and what it keeps of that alone
pub writes_same : (form : OutputForm) (r s : ReceiverState) (size : ℕ)
    (datagrams : List (List ℕ)) → s.reception ≡ r.reception → s.written ≡ r.written
    → WritesAs form r size datagrams → WritesAs form s size datagrams
writes_same AsFrames r s size datagrams e f none = f ∙ none
writes_same AsFilled r s size datagrams e f last = f ∙ last
writes_same AsUnits r s size datagrams e f w = (w.0, f ∙ w.1, rw e w.2)

abbrev sound_with : Reception → Written → ReceiverState
sound_with r written = record { reception = r; written = written; has_failed = false }

module _ (form : OutputForm) (r : ReceiverState) (size : ℕ) (datagrams : List (List ℕ))
    (h : HasHeard form r size datagrams) where
  pub heard_stands : StandsForHeard r.reception size datagrams false
  heard_stands = rw h.heard at (rw h.goes_on at h.stands.heard)

  pub heard_outcome : (d : List ℕ) → judged r.reception d ≡ outcome_behind size datagrams d
  heard_outcome d = outcome_is r.reception size datagrams d heard_stands

  module _ (exchanges : List Exchange) (right : AreDecodings (dones_in exchanges)) where
    abbrev then : List ℕ → ReceiverState
    then d = sound_with (takes_datagram r.reception d exchanges)
        (written_behind_datagram r.written r.reception d exchanges)

    writes_with : (d : List ℕ) → (kind : OutputForm) → WritesAs kind r size datagrams
        → WritesAs kind (then d) size (datagrams ++ d ∷ [])
    writes_with d AsFrames none = ap (λ (o : Written).
        written_behind_datagram o r.reception d exchanges) none
    writes_with d AsFilled last =
        ap (λ (o : Written). written_behind_datagram o r.reception d exchanges) last
        ∙ ap Filled (rw h.heard at (grows r.reception size h.feeder h.fits h.stands h.goes_on
        exchanges right d).last)
    writes_with d AsUnits w = (
      stream_takes r.reception d exchanges w.0,
      ap (λ (o : Written). written_behind_datagram o r.reception d exchanges) w.1,
      rw h.heard at (stream_follows r.reception size h.feeder w.0 h.fits h.stands h.goes_on
          (rw (← h.heard) at w.2) exchanges right d),
    )

    pub heard_with : (d : List ℕ) → ArePutsOf (datagram_jobs r.reception d) exchanges
        → HasHeard form (then d) size (datagrams ++ d ∷ [])
    heard_with d offers =
        grind (arith, heard_again, datagram_stands, datagram_out_kept, heard_stands, writes_with)

    due_with : (d : List ℕ) → (kind : OutputForm) → WritesAs kind r size datagrams
        → due_so_far kind size (datagrams ++ d ∷ [])
        ≡ due_so_far kind size datagrams ++ datagram_output r.written r.reception d exchanges
    due_with d AsFrames none = rw none (rw h.heard at (datagram_writes r.reception size h.feeder
        h.fits h.stands h.goes_on exchanges right d))
    due_with d AsFilled last = rw last (rw h.heard at (grows r.reception size h.feeder
        h.fits h.stands h.goes_on exchanges right d).bytes)
    due_with d AsUnits w = rw w.1 (rw h.heard at (stream_grows r.reception size h.feeder w.0
        h.fits h.stands h.goes_on (rw (← h.heard) at w.2) exchanges right d))

    due_at_end : (kind : OutputForm) → WritesAs kind r size datagrams
        → due_in_all kind size datagrams
        ≡ due_so_far kind size datagrams ++ end_output r.written r.reception exchanges
    due_at_end AsFrames none = rw none (rw h.heard at (finished_writes r.reception size h.feeder
        h.fits h.stands h.goes_on exchanges right))
    due_at_end AsFilled last = rw last (rw h.heard at (ends r.reception size h.feeder
        h.fits h.stands h.goes_on exchanges right))
    due_at_end AsUnits w = rw w.1 (rw h.heard at (stream_ends r.reception size h.feeder w.0
        h.fits h.stands h.goes_on (rw (← h.heard) at w.2) exchanges right))

    pub heard_writes : (d : List ℕ) → datagram_output r.written r.reception d exchanges
        ≡ newly_due form size datagrams d
    heard_writes d = grind (arith, front_rest, due_with)

    pub end_writes : end_output r.written r.reception exchanges ≡ still_due form size datagrams
    end_writes = grind (arith, front_rest, due_at_end)

    pub end_counts : (takes_end r.reception exchanges).counts ≡ tally_of size datagrams
    end_counts = rw h.heard at (finished_counts r.reception size h.feeder h.fits h.stands h.goes_on exchanges right)
