-- What hearing an input came to: that of a capture is that of its entries; what a listener knows of either.
use Rattle.std.proofs.Common.{◌≡◌, true, false, ◌≤◌, ℕ, List, [], ◌++◌, length, Option, None, Some, Ok, Err}
use Rattle.std.proofs.Common.{refl, sym, ap, subst, arith, inl, inr, length-append}
use Rattle.std.specs.Prelude.{Result, ◌⊎◌}
use Rattle.link_capture.specs.Capture.{first_entry}
use Rattle.link_outside.specs.Outlets.{capture_of}
use Rattle.link_report.specs.declared.ending.Ending.{Ending}
use Rattle.link_report.specs.declared.ending.Ending.TheVariants.{CaptureCut, InputFailed, NoMemory}
use Rattle.link_report.specs.declared.ending.Ending.TheVariants.{OutputFailed, PacketLimit}
use Rattle.vc_ports.specs.Changes.{InputChange, HasRisen}
use Rattle.vc_ports.specs.Reading.{IsAtEnd}
use Rattle.link_hearing.proofs.HeardEntries.{split_is}
use Rattle.link_hearing.specs.Capture.{CaptureSplit, HasEnded, ReadingEnded, capture_split}
use Rattle.link_hearing.specs.Hearing.{CanGoOn, CaptureHeard, HearsCapture, fault_ending, has_broken}
use Rattle.link_hearing.specs.Inputs.{HeardSo, HearsInput, InputEnded, datagrams_in}
use Rattle.link_hearing.specs.declared.form.InputForm.{InputForm}
use Rattle.link_hearing.specs.declared.form.InputForm.TheVariants.{Capture}
use Rattle.link_hearing.specs.declared.heard.HeardInput.{HeardInput}
use Rattle.link_hearing.specs.declared.listener.ListenerFault.{ListenerFault}
use Rattle.link_hearing.specs.declared.listener.ListenerFault.TheVariants as faults

-- ---- a capture

module _ (packets : ℕ) (input : InputChange) (heard : List (List ℕ) → Type 0)
    (broke : List (List ℕ) → ListenerFault → Type 0) (enough : Type 0) where
  module _ (datagrams : List (List ℕ)) (part given : List ℕ) (given_is : given ≡ capture_of datagrams ++ part)
      (short : first_entry part ≡ None) where
    abbrev split : CaptureSplit
    split = record { datagrams = datagrams; rest = part; given = given }

    end_or_enough : part ≡ [] → IsAtEnd input.left.after ⊎ enough → HasEnded input split ⊎ enough
    end_or_enough none (inl at) = inl (record { no_rest = none; ended = at })
    end_or_enough none (inr is) = inr is

    heard_split : (result : Result (Unit {0}) Ending)
        → CaptureHeard packets 1 input heard broke enough datagrams part result
        → HeardSo datagrams (λ end. ReadingEnded packets end input split) input heard broke enough result
    heard_split (Ok done) d = (d.0, end_or_enough d.1 d.2)
    heard_split (Err (CaptureCut place)) d = (
      d.0,
      record {
        wanted = d.1;
        part = d.2;
        ended = d.3;
        begins = omega (arith, d.4, ap length given_is, length-append (capture_of datagrams) part);
      },
      λ is. absurd cc,
    )
    heard_split (Err InputFailed) d = (d.0, record { short = short; wanted = d.1 }, λ is. d.2)
    heard_split (Err (PacketLimit limit)) d =
        (d.0, record { limit_is = d.1; count = d.2; one_more = d.3 }, λ is. absurd cc)
    heard_split (Err NoMemory) d = d
    heard_split (Err OutputFailed) d = d
    heard_split (Err end) d = absurd d

  pub capture_input : (result : Result (Unit {0}) Ending)
      → HearsCapture packets 1 input heard broke enough result
      → HearsInput Capture packets input heard broke enough (record { ended = result; records = None })
  capture_input result h =
      let given = capture_of h.datagrams ++ h.part in
      let splits = split_is packets h.datagrams h.part h.gave.fit h.few h.not_whole in
      let same : (capture_split packets given).datagrams ≡ h.datagrams =
      ap (λ (s : CaptureSplit). s.datagrams) splits in
      record {
        given = given;
        took = h.gave.took;
        few = omega (arith, ap length same, h.few);
        counted = refl;
        did = subst
            (λ (s : CaptureSplit). HeardSo s.datagrams (λ end. ReadingEnded packets end input s) input heard
            broke enough result)
            (sym splits) (heard_split h.datagrams h.part given refl h.not_whole result h.did);
      }

-- ---- either form

module _ (heard : List (List ℕ) → Type 0) (broke : List (List ℕ) → ListenerFault → Type 0) (enough : Type 0)
    (input : InputChange) (ds : List (List ℕ)) (ended : Option Ending → Type 0) where
  abbrev So : Result (Unit {0}) Ending → Type 0
  So result = HeardSo ds ended input heard broke enough result

  pub so_hears : (result : Result (Unit {0}) Ending) → CanGoOn result → So result → heard ds
  so_hears (Ok done) can so = so.0
  so_hears (Err NoMemory) can so = absurd cc
  so_hears (Err OutputFailed) can so = absurd cc
  so_hears (Err end) can so = so.0

  pub so_breaks : (end : Ending) → has_broken end ≡ true → So (Err end)
      → (fault : ListenerFault) × (end ≡ fault_ending fault) × broke ds fault
  so_breaks NoMemory is so = (faults.NoMemory, refl, so)
  so_breaks OutputFailed is so = (faults.Output, refl, so)
  so_breaks end is so = absurd cc

  pub so_until : (end : Ending) → has_broken end ≡ false → So (Err end) → ended (Some end)
  so_until NoMemory not so = absurd cc
  so_until OutputFailed not so = absurd cc
  so_until end not so = so.1

-- what is lent to a listener is the same, whatever it heard
module _ (B : Type 0) (form : InputForm) (packets : ℕ) (input : InputChange)
    (heard : List (List ℕ) → Type 0) (broke : List (List ℕ) → ListenerFault → Type 0) (enough : Type 0)
  where
    so_apart : (ds : List (List ℕ)) (ended : Option Ending → Type 0) (result : Result (Unit {0}) Ending)
        → HeardSo ds ended input (λ l. B × heard l) (λ l fault. B × broke l fault) enough result
        → B × HeardSo ds ended input heard broke enough result
    so_apart ds ended (Ok done) so = (so.0.0, (so.0.1, so.1))
    so_apart ds ended (Err NoMemory) so = so
    so_apart ds ended (Err OutputFailed) so = so
    so_apart ds ended (Err end) so = (so.0.0, (so.0.1, so.1, so.2))

    pub input_apart : (told : HeardInput)
        → HearsInput form packets input (λ l. B × heard l) (λ l fault. B × broke l fault) enough told
        → B × HearsInput form packets input heard broke enough told
    input_apart told h =
        let apart = so_apart (datagrams_in form packets h.given)
        (λ end. InputEnded form packets end input h.given) told.ended h.did in (
          apart.0,
          record { given = h.given; took = h.took; few = h.few; counted = h.counted; did = apart.1 },
        )

-- a listener that never has enough
module _ {heard : List (List ℕ) → Type 0} {broke : List (List ℕ) → ListenerFault → Type 0}
    {form : InputForm} {told : HeardInput} (packets : ℕ) (input : InputChange)
    (h : HearsInput form packets input heard broke ⊥ told) where
  abbrev Did : Result (Unit {0}) Ending → Type 0
  Did result = HeardSo (datagrams_in form packets h.given)
      (λ end. InputEnded form packets end input h.given) input heard broke ⊥ result

  at_end : InputEnded form packets None input h.given ⊎ ⊥ → InputEnded form packets None input h.given
  at_end (inl ended) = ended
  at_end (inr never) = absurd never

  pub read_all : told.ended ≡ Ok tt → InputEnded form packets None input h.given
  read_all is =
      let so : Did (Ok tt) = rw is at h.did in at_end so.1

  pub read_until : (end : Ending) → has_broken end ≡ false → told.ended ≡ Err end
      → InputEnded form packets (Some end) input h.given
  read_until end not is =
      let so : Did (Err end) = rw is at h.did in
      so_until heard broke ⊥ input (datagrams_in form packets h.given)
      (λ end. InputEnded form packets end input h.given) end not so

  -- a read failed
  pub failed_so : told.ended ≡ Err InputFailed → HasRisen input.faults
  failed_so is =
      let so : Did (Err InputFailed) = rw is at h.did in so.2 refl
