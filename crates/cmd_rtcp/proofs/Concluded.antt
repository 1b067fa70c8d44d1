-- What hearing an input came to: its datagrams were heard, and then the end.
use Rattle.std.proofs.Common.{◌≡◌, ℕ, ◌≤◌, ◌<◌, ◌^◌, true, false, List, [], ◌++◌, length, Option, None, Some, Ok, Err, sym, ap, ◌∙◌, arith, inl, inr, append-nil}
use Rattle.std.specs.Prelude.{Result, ◌⊎◌}
use Rattle.link_hearing.proofs.HeardInputs.{failed_so, read_all, read_until, so_breaks, so_hears}
use Rattle.link_hearing.specs.Hearing.{CanGoOn, fault_ending, has_broken}
use Rattle.link_hearing.specs.Inputs.{HeardSo, HearsInput, InputEnded, datagrams_in}
use Rattle.link_hearing.specs.declared.form.InputForm.{InputForm}
use Rattle.link_hearing.specs.declared.heard.HeardInput.{HeardInput}
use Rattle.link_hearing.specs.declared.listener.ListenerFault.{ListenerFault}
use Rattle.link_hearing.specs.declared.listener.ListenerFault.TheVariants as faults
use Rattle.link_report.specs.declared.ending.Ending.{Ending}
use Rattle.link_report.specs.declared.ending.Ending.TheVariants.{InputFailed, NoMemory, OutputFailed}
use Rattle.vc_ports.proofs.Growing.{Grew-none}
use Rattle.vc_ports.specs.Changes.{InputChange, OutputChange, HasRisen, Wrote, output_of}
use Rattle.cmd_rtcp.specs.Answering.{AnswersInput, InputAnswered}
use Rattle.cmd_rtcp.specs.Due.{Due}
use Rattle.cmd_rtcp.specs.WritingLaws.{breaks_then}
use Rattle.cmd_rtcp.specs.Writings.{WritingState, BreaksOff, BrokeBy, CanHear, Concludes, HasEndedSince, HasHeardSince, Hears, PutsInput}

-- ---- never enough

module _ (form : InputForm) (packets : ℕ) (input : InputChange) (heard : List (List ℕ) → Type 0)
    (broke : List (List ℕ) → ListenerFault → Type 0) (enough : Type 0)
    (never : (ds : List (List ℕ)) → length ds ≤ packets → heard ds → enough → ⊥) where
  without_enough : (ds : List (List ℕ)) (ended : Option Ending → Type 0) (result : Result (Unit {0}) Ending)
      → length ds ≤ packets → HeardSo ds ended input heard broke enough result
      → HeardSo ds ended input heard broke ⊥ result
  without_enough ds ended (Ok done) few so = (so.0, by_end so.1)
    where
      by_end : ended None ⊎ enough → ended None ⊎ ⊥
      by_end (inl at) = inl at
      by_end (inr is) = inr (never ds few so.0 is)
  without_enough ds ended (Err NoMemory) few so = so
  without_enough ds ended (Err OutputFailed) few so = so
  without_enough ds ended (Err end) few so = so

  pub heard_without : (told : HeardInput) → HearsInput form packets input heard broke enough told
      → HearsInput form packets input heard broke ⊥ told
  heard_without told h = record {
    given = h.given;
    took = h.took;
    few = h.few;
    counted = h.counted;
    did = without_enough (datagrams_in form packets h.given)
        (λ end. InputEnded form packets end input h.given) told.ended h.few h.did;
  }

module _ {S : Type 0} (knows : S → S → List (List ℕ) → Type 0) (due : S → Due) (x : WritingState S)
    (none : (due x.scribe).so_far [] ≡ []) (new : knows x.scribe x.scribe []) (zero : x.datagrams ≡ 0) where
  at_first : HasHeardSince knows due x.scribe x.held x []
  at_first = record { knows_so = new; wrote = rw none (Grew-none x.held); count = zero }

  -- ---- hearing

  module _ (form : InputForm) (packets : ℕ) (small : packets < 2 ^ 32) (input : InputChange)
      (y : WritingState S) (told : HeardInput) where
    counted : (ds : List (List ℕ)) → Hears knows due x y ds → y.datagrams ≡ length ds
    counted ds p = (p.since x.scribe x.held [] at_first).count

    pub puts : HearsInput form packets input (Hears knows due x y) (BreaksOff knows due x y) (2 ^ 32 ≤ y.datagrams) told
        → PutsInput knows due form packets input x y told
    puts h = heard_without form packets input (Hears knows due x y) (BreaksOff knows due x y) (2 ^ 32 ≤ y.datagrams)
        (λ ds few p enough. omega (arith, few, counted ds p, enough, small)) told h

    pub ready : PutsInput knows due form packets input x y told → CanGoOn told.ended → CanHear knows y
    ready h can =
        let p = so_hears (Hears knows due x y) (BreaksOff knows due x y) ⊥ input (datagrams_in form packets h.given)
        (λ end. InputEnded form packets end input h.given) told.ended can h.did in
        let is = p.since x.scribe x.held [] at_first in
        record {
          first = x.scribe;
          heard = datagrams_in form packets h.given;
          knows_so = is.knows_so;
          count = is.count;
          few = omega (arith, is.count, h.few, small);
        }

  -- ---- the end

  module _ (ended : S → S → List (List ℕ) → Type 0) (mid y : WritingState S)
      (form : InputForm) (packets : ℕ) (input : InputChange) (told : HeardInput)
      (h : PutsInput knows due form packets input x mid told) where
    abbrev heard : Result (Unit {0}) Ending
    heard = told.ended

    abbrev ds : List (List ℕ)
    ds = datagrams_in form packets h.given

    abbrev Reading : Option Ending → Type 0
    Reading end = InputEnded form packets end input h.given

    -- by the result
    abbrev CameTo : Result ℕ Ending → Type 0
    CameTo (Ok count) =
        (heard ≡ Ok tt) × HasEndedSince ended due x.scribe x.held y ds × (count ≡ length ds)
    CameTo (Err end) =
        ((heard ≡ Err end) × (has_broken end ≡ false) × HasEndedSince ended due x.scribe x.held y ds)
        ⊎ BrokeBy knows due x y ds end

    hears : CanGoOn heard → Hears knows due x mid ds
    hears can =
        so_hears (Hears knows due x mid) (BreaksOff knows due x mid) ⊥ input ds Reading heard can h.did

    since : CanGoOn heard → HasHeardSince knows due x.scribe x.held mid ds
    since can = (hears can).since x.scribe x.held [] at_first

    breaks : (end : Ending) → has_broken end ≡ true → heard ≡ Err end → BrokeBy knows due x mid ds end
    breaks end broken is =
        so_breaks (Hears knows due x mid) (BreaksOff knows due x mid) ⊥ input ds Reading end broken (rw is at h.did)

    came_to : (result : Result ℕ Ending) → Concludes knows ended due mid y heard result → CameTo result
    came_to (Ok count) c =
        let e = c.1.since x.scribe x.held ds (since (rw c.0 tt)) in (c.0, e, c.2 ∙ e.count)
    came_to (Err end) (inl c) = inr (rw c.2 (breaks end c.1 c.0))
    came_to (Err end) (inr (inl c)) =
        inl (c.0, c.1, c.2.since x.scribe x.held ds (since (rw c.0 c.1)))
    came_to (Err end) (inr (inr c)) =
        inr (c.1.0, c.1.1, rw append-nil at (breaks_then knows due x mid y ds [] c.1.0 (hears c.0) c.1.2))

    abbrev output : OutputChange
    output = record {
      held = record { before = x.held; after = y.held };
      faults = record { before = x.faults; after = y.faults };
    }

    abbrev Is : ℕ → List (List ℕ) → Type 0
    Is count heard = (count ≡ length heard) × ended x.scribe y.scribe heard

    abbrev Answered : Result ℕ Ending → Type 0
    Answered result = InputAnswered (due x.scribe).in_all Is form packets result input output h.given

    whole : (end : Ending) → has_broken end ≡ false
        → Reading (Some end) × Wrote output ((due x.scribe).in_all ds) → Answered (Err end)
    whole NoMemory not p = absurd cc
    whole OutputFailed not p = absurd cc
    whole end not p = p

    part : (end : Ending) (fault : ListenerFault) → end ≡ fault_ending fault → BreaksOff knows due x y ds fault
        → Answered (Err end)
    part end faults.NoMemory is b = rw is (b.since x.scribe x.held [] at_first)
    part end faults.Output is b = rw is (b.0.since x.scribe x.held [] at_first)

    answered : (result : Result ℕ Ending) → CameTo result → Answered result
    answered (Ok count) c = (read_all packets input h c.0, c.1.wrote, (c.2, c.1.ended_so))
    answered (Err end) (inl c) = whole end c.1 (read_until packets input h end c.1 c.0, c.2.wrote)
    answered (Err end) (inr c) = part end c.0 c.1 c.2

    no_input_fault : (fault : ListenerFault) → InputFailed ≡ fault_ending fault → ⊥
    no_input_fault faults.NoMemory is = cc
    no_input_fault faults.Output is = cc

    input_did : (result : Result ℕ Ending) → CameTo result → result ≡ Err InputFailed → HasRisen input.faults
    input_did (Ok count) c is = absurd cc
    input_did (Err end) (inl c) is =
        let failed : end ≡ InputFailed = cc in failed_so packets input h (c.0 ∙ ap Err failed)
    input_did (Err end) (inr c) is =
        let failed : end ≡ InputFailed = cc in absurd (no_input_fault c.0 (sym failed ∙ c.1))

    output_rose : (end : Ending) (fault : ListenerFault) → end ≡ OutputFailed → end ≡ fault_ending fault
        → BreaksOff knows due x y ds fault → HasRisen output.faults
    output_rose end faults.NoMemory failed is b = absurd cc
    output_rose end faults.Output failed is b = b.1

    output_did : (result : Result ℕ Ending) → CameTo result → result ≡ Err OutputFailed → HasRisen output.faults
    output_did (Ok count) c is = absurd cc
    output_did (Err end) (inl c) is =
        let failed : end ≡ OutputFailed = cc in
        let broken : true ≡ false = ap has_broken (sym failed) ∙ c.1 in absurd cc
    output_did (Err end) (inr c) is =
        let failed : end ≡ OutputFailed = cc in output_rose end c.0 failed c.1 c.2

    took : (result : Result ℕ Ending) → CameTo result
        → AnswersInput (due x.scribe).in_all Is form packets result input output
    took result c = record {
      given = h.given;
      took = h.took;
      ended = answered result c;
      input_failed = input_did result c;
      output_failed = output_did result c;
    }

    pub took_input : (result : Result ℕ Ending) → Concludes knows ended due mid y heard result
        → AnswersInput (due x.scribe).in_all Is form packets result input output
    took_input result c = took result (came_to result c)

-- what was lent comes back as it was left
module _ (S O : Type 0) (held : O → Option (List ℕ)) (faults : O → ℕ) (ended : S → S → List (List ℕ) → Type 0) (due : S → Due)
    (s_old s_first s_left s_end : S) (o_old o_first o_left o_end : O) where
  pub lent_back : (form : InputForm) (packets : ℕ) (input : InputChange) (result : Result ℕ Ending)
      → AnswersInput (due s_first).in_all (λ count heard. (count ≡ length heard) × ended s_first s_left heard)
      form packets result input (output_of held faults o_first o_left)
      → s_first ≡ s_old → o_first ≡ o_old → s_end ≡ s_left → o_end ≡ o_left
      → AnswersInput (due s_old).in_all (λ count heard. (count ≡ length heard) × ended s_old s_end heard)
      form packets result input (output_of held faults o_old o_end)
  lent_back form packets input result took s_first_is o_first_is s_is o_is =
      rw (← s_first_is, ← o_first_is, s_is, o_is) took
