-- What hearing a capture's entries came to, by what its inlet and a listener did.
use Rattle.std.proofs.Common.{◌≡◌, ◌≤◌, ◌+◌, ℕ, zero, suc, List, [], ◌∷◌, ◌++◌, length}
use Rattle.std.proofs.Common.{Option, Some, None, Ok, Err, refl, sym, ap, subst, arith, inl, inr}
use Rattle.std.proofs.Common.{append-nil, append_assoc, length-append}
use Rattle.std.specs.Prelude.{Result}
use Rattle.std.proofs.lemmas.List.Concat.{flat_map-cons}
use Rattle.link_capture.proofs.Entries.{within-part}
use Rattle.link_capture.proofs.Heads.{first_entry-stub}
use Rattle.link_capture.specs.Capture.{entry, first_entry, entries_within}
use Rattle.link_outside.specs.Outlets.{capture_of}
use Rattle.link_report.specs.declared.ending.Ending.{Ending}
use Rattle.link_report.specs.declared.ending.Ending.TheVariants.{CaptureCut, InputFailed, NoMemory}
use Rattle.link_report.specs.declared.ending.Ending.TheVariants.{OutputFailed, PacketLimit}
use Rattle.vc_ports.proofs.Given.{Gave-then}
use Rattle.vc_ports.specs.Changes.{InputChange}
use Rattle.vc_ports.specs.Faults.{Rose}
use Rattle.vc_ports.specs.Reading.{Gave, GaveAll}
use Rattle.link_hearing.proofs.Within.{within_entry}
use Rattle.link_hearing.specs.Capture.{capture_split}
use Rattle.link_hearing.specs.Hearing.{CaptureHeard, HearsCapture, HearsUntil, LooksBehind, LooksOn, fault_ending}
use Rattle.link_hearing.specs.InletLaws.{left_between}
use Rattle.link_hearing.specs.Inlets.{FitEntries, GaveEntries}
use Rattle.link_hearing.specs.Inlets.{GaveWhole, StoppedReading}
use Rattle.link_hearing.specs.declared.listener.ListenerFault.{ListenerFault}
use Rattle.link_hearing.specs.declared.listener.ListenerFault.TheVariants as faults

-- ---- the entries of the bytes

entries_are : (packets : ℕ) (ds : List (List ℕ)) (part : List ℕ) → FitEntries ds
    → length ds ≤ packets → first_entry part ≡ None
    → entries_within packets (capture_of ds ++ part) ≡ (ds, part)
entries_are packets [] part fit few none = within-part packets part none
entries_are zero (d ∷ ds) part fit few none = absurd (omega (arith, few))
entries_are (suc most) (d ∷ ds) part fit few none =
    let rest = entries_are most ds part fit.1 (omega (arith, few)) none in
    rw (
      flat_map-cons entry d ds,
      append_assoc (entry d) (capture_of ds) part,
      within_entry most d (capture_of ds ++ part) fit.0,
      rest,
    ) refl

pub split_is : (packets : ℕ) (ds : List (List ℕ)) (part : List ℕ) → FitEntries ds
    → length ds ≤ packets → first_entry part ≡ None
    → capture_split packets (capture_of ds ++ part)
    ≡ record { datagrams = ds; rest = part; given = capture_of ds ++ part }
split_is packets ds part fit few none = rw (entries_are packets ds part fit few none) refl

-- ---- by the inlet

module _ (packets : ℕ) (input : InputChange) (heard : List (List ℕ) → Type 0)
    (broke : List (List ℕ) → ListenerFault → Type 0) (enough : Type 0)
    (loses : (ds lost : List (List ℕ)) → length lost ≤ 1 → heard ds → broke (ds ++ lost) faults.NoMemory)
  where
    abbrev Captured : Result (Unit {0}) Ending → Type 0
    Captured result = HearsCapture packets 0 input heard broke enough result

    abbrev Did : List (List ℕ) → List ℕ → Result (Unit {0}) Ending → Type 0
    Did ds part result = CaptureHeard packets 0 input heard broke enough ds part result

    ran_out : (ds : List (List ℕ)) (result : Result (Unit {0}) Ending) (end : Option Ending)
        → (s : StoppedReading input 0 ds end) → length ds + 1 ≤ packets
        → Did (ds ++ s.lost) s.part result → Captured result
    ran_out ds result end s fewer did = record {
      datagrams = ds ++ s.lost;
      part = s.part;
      gave = s.until.gave;
      few = omega (arith, fewer, s.until.few, length-append ds s.lost);
      not_whole = s.until.not_whole;
      did = did;
    }

    all_of : (ds lost : List (List ℕ)) → lost ≡ [] → ds ++ lost ≡ ds
    all_of ds lost none = rw none (append-nil ds)

    heard_all_of : (ds lost : List (List ℕ)) → lost ≡ [] → heard ds → heard (ds ++ lost)
    heard_all_of ds lost none so = rw (all_of ds lost none) so

    by_end : (ds : List (List ℕ)) (end : Ending) → length ds + 1 ≤ packets
        → StoppedReading input 0 ds (Some end) → heard ds → Captured (Err end)
    by_end ds NoMemory fewer s so =
        ran_out ds (Err NoMemory) (Some NoMemory) s fewer (loses ds s.lost s.until.few so)
    by_end ds InputFailed fewer s so =
        let none : s.lost ≡ [] = s.ended.0 in
        ran_out ds (Err InputFailed) (Some InputFailed) s fewer (
          heard_all_of ds s.lost none so,
          inl (omega (arith, ap length (all_of ds s.lost none), fewer)),
          s.ended.1,
        )
    by_end ds (CaptureCut at) fewer s so =
        let none : s.lost ≡ [] = s.ended.0 in
        ran_out ds (Err (CaptureCut at)) (Some (CaptureCut at)) s fewer (
          heard_all_of ds s.lost none so,
          omega (arith, ap length (all_of ds s.lost none), fewer),
          s.ended.1,
          s.ended.2,
          omega (arith, s.ended.3, ap (λ (l : List (List ℕ)). length (capture_of l)) (all_of ds s.lost none)),
        )
    by_end ds end fewer s so = absurd s.ended

    by_fault : (ds : List (List ℕ)) (fault : ListenerFault) → broke ds fault
        → Did ds [] (Err (fault_ending fault))
    by_fault ds faults.NoMemory breaks = breaks
    by_fault ds faults.Output breaks = breaks

    module _ (N : Type 0) (last : ℕ) (wants : Type 0) where
      abbrev Came : List (List ℕ) → Type 0
      Came ds = N × GaveWhole input 0 last ds

      abbrev Stops : List (List ℕ) → Option Ending → Type 0
      Stops ds end = N × StoppedReading input 0 ds end

      whole : (ds : List (List ℕ)) (result : Result (Unit {0}) Ending) → Came ds
          → length ds ≤ packets → Did ds [] result → N × Captured result
      whole ds result came few did = (
        came.0,
        record {
          datagrams = ds;
          part = [];
          gave = came.1.gave;
          few = few;
          not_whole = first_entry-stub [] (omega arith);
          did = did;
        },
      )

      pub capture_heard : (result : Result (Unit {0}) Ending)
          → HearsUntil packets Came Stops heard broke wants enough result → N × Captured result
      capture_heard (Ok done) (ds, inl r) =
          let s = r.stopped_so.1 in (
            r.stopped_so.0,
            ran_out ds (Ok tt) None s (omega (arith, r.fewer))
                (heard_all_of ds s.lost s.ended.0 r.heard_so, s.ended.1, inl s.ended.2),
          )
      capture_heard (Ok done) (ds, inr h) =
          whole ds (Ok tt) h.came_so h.few (h.heard_so, refl, inr h.is_enough)
      capture_heard (Err end) (ds, inl r) =
          (r.stopped_so.0, by_end ds end (omega (arith, r.fewer)) r.stopped_so.1 r.heard_so)
      capture_heard (Err end) (ds, inr (inl m)) =
          rw m.end_is (whole ds (Err (PacketLimit packets)) m.came_so (omega (arith, m.count))
          (m.heard_so, refl, m.count, refl))
      capture_heard (Err end) (ds, inr (inr b)) =
          rw b.end_is (whole ds (Err (fault_ending b.fault)) b.came_so b.few (by_fault ds b.fault b.broke_so))

-- ---- behind as many entries as were asked for

module _ (packets limit : ℕ) (a b c : Option (List ℕ)) (i j k : ℕ) (heard : List (List ℕ) → Type 0)
    (broke : List (List ℕ) → ListenerFault → Type 0) (enough : Type 0) (later : j ≤ k)
    (st : HearsCapture packets 0 (left_between a b i j) heard broke enough (Err (PacketLimit limit))) where
  abbrev OneMore : Result (Unit {0}) Ending → Type 0
  OneMore result = HearsCapture packets 1 (left_between a c i k) heard broke enough result

  gave_more : (more : List ℕ) → Gave b c more
      → GaveEntries (left_between a c i k) st.datagrams more
  gave_more more gave = record {
    took = Gave-then a b c (capture_of st.datagrams) more whole gave;
    fit = st.gave.fit;
    later = omega (arith, st.gave.later, later);
  }
    where
      no_part : (part : List ℕ) → length part ≡ 0 → part ≡ []
      no_part [] none = refl
      no_part (byte ∷ rest) none = absurd (omega (arith, none))

      whole : Gave a b (capture_of st.datagrams)
      whole = rw append-nil at (rw (no_part st.part st.did.3) at st.gave.took)

  behind : (more : List ℕ) (result : Result (Unit {0}) Ending) → Gave b c more → length more ≤ 1
      → CaptureHeard packets 1 (left_between a c i k) heard broke enough st.datagrams more result
      → OneMore result
  behind more result gave short did = record {
    datagrams = st.datagrams;
    part = more;
    gave = gave_more more gave;
    few = st.few;
    not_whole = first_entry-stub more (omega (arith, short));
    did = did;
  }

  one_more : (more : List ℕ) → length more ≡ 1 → Gave b c more → OneMore (Err (PacketLimit limit))
  one_more more one gave = behind more (Err (PacketLimit limit)) gave (omega (arith, one))
      (st.did.0, st.did.1, st.did.2, one)

  none_more : GaveAll b c [] → OneMore (Ok tt)
  none_more gave = behind [] (Ok tt) gave.gave (omega arith) (st.did.0, refl, inl gave.at_end)

  not_read : Gave b c [] → Rose j k → OneMore (Err InputFailed)
  not_read gave rose = behind [] (Err InputFailed) gave (omega arith)
      (st.did.0, inr refl, omega (arith, st.gave.later, rose))

  looked_on : (result : Result (Unit {0}) Ending) → LooksOn limit (left_between b c j k) result
      → OneMore result
  looked_on (Ok done) l = none_more (record { gave = l.0; at_end = l.1 })
  looked_on (Err (PacketLimit most)) l =
      subst (λ (n : ℕ). OneMore (Err (PacketLimit n))) (sym l.0) (one_more l.1 l.2 l.3)
  looked_on (Err InputFailed) l = not_read l.0 l.1
  looked_on (Err end) l = absurd l

module _ (packets : ℕ) (a b c : Option (List ℕ)) (i j k : ℕ) (heard : List (List ℕ) → Type 0)
    (broke : List (List ℕ) → ListenerFault → Type 0) (enough : Type 0) (later : j ≤ k) where
  abbrev Entries : (more : ℕ) → (after : Option (List ℕ)) → (last : ℕ) → Result (Unit {0}) Ending → Type 0
  Entries more after last result =
      HearsCapture packets more (left_between a after i last) heard broke enough result

  -- where it wasn't tried
  so_far : (end : Ending) (result : Result (Unit {0}) Ending)
      → (result ≡ Err end) × (c ≡ b) × (k ≡ j) → Entries 1 b j (Err end) → Entries 1 c k result
  so_far end result l st = rw (l.0, l.1, l.2) st

  ended_before : (ds : List (List ℕ)) (part : List ℕ) (end : Ending)
      → ((limit : ℕ) → end ≡ PacketLimit limit → ⊥)
      → CaptureHeard packets 0 (left_between a b i j) heard broke enough ds part (Err end)
      → CaptureHeard packets 1 (left_between a b i j) heard broke enough ds part (Err end)
  ended_before ds part (PacketLimit limit) not did = absurd (not limit refl)
  ended_before ds part (CaptureCut place) not did = did
  ended_before ds part InputFailed not did = did
  ended_before ds part NoMemory not did = did
  ended_before ds part OutputFailed not did = did
  ended_before ds part end not did = did

  one_as_none : (end : Ending) → ((limit : ℕ) → end ≡ PacketLimit limit → ⊥) → Entries 0 b j (Err end)
      → Entries 1 b j (Err end)
  one_as_none end not st = record {
    datagrams = st.datagrams;
    part = st.part;
    gave = st.gave;
    few = st.few;
    not_whole = st.not_whole;
    did = ended_before st.datagrams st.part end not st.did;
  }

  pub looked_behind : (end : Ending) (result : Result (Unit {0}) Ending) → Entries 0 b j (Err end)
      → LooksBehind end (left_between b c j k) result → Entries 1 c k result
  looked_behind (PacketLimit limit) result st l =
      looked_on packets limit a b c i j k heard broke enough later st result l
  looked_behind end result st l = so_far end result l (one_as_none end (λ limit is. cc) st)
