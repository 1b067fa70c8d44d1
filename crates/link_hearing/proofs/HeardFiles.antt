-- What hearing the records of a pcap file came to, by what its feed and a listener did.
use Rattle.std.proofs.Common.{◌≡◌, ◌≤◌, ◌<◌, ◌^◌, ℕ, ◌+◌, ◌-◌, List, [], ◌++◌, length, Option, Some, None}
use Rattle.std.proofs.Common.{IsSome, Ok, Err, refl, sym, ap, ◌∙◌, subst, arith, inl, inr, append-nil}
use Rattle.std.specs.Prelude.{Result, ◌⊎◌}
use Rattle.link_report.specs.declared.ending.Ending.{Ending}
use Rattle.link_report.specs.declared.ending.Ending.TheVariants.{CaptureCut, InputFailed, NoMemory}
use Rattle.link_report.specs.declared.ending.Ending.TheVariants.{OutputFailed, PacketLimit, StreamBad}
use Rattle.pcap_in.proofs.Records.{record-stub}
use Rattle.pcap_in.proofs.Splits.{file_split-none, file_split-on, pcap_head-stub}
use Rattle.pcap_in.specs.Feeding.{FeedValue, Brought, IsReady, ReadsOn, StoppedAt}
use Rattle.pcap_in.specs.Feeding.{all_before, carried_in, feed_value, payloads_of}
use Rattle.pcap_in.specs.Pcap.{FileSplit, file_split, records_within, with_records}
use Rattle.pcap_in.specs.declared.fault.PcapFault.TheVariants as pcap
use Rattle.pcap_in.specs.declared.feed.CarriedFeed.{CarriedFeed}
use Rattle.pcap_in.specs.declared.reader.PcapReader.{PcapReader}
use Rattle.pcap_in.specs.declared.head.FileHead.{FileHead}
use Rattle.pcap_in.specs.declared.head.Order.{Order}
use Rattle.vc_ports.proofs.Given.{Gave-then}
use Rattle.vc_ports.specs.Changes.{InputChange, Took, input_of}
use Rattle.link_hearing.proofs.FileEndings.{bad_file, could_not_read, cut_in_record, file_end, without_memory}
use Rattle.link_hearing.proofs.ReadFiles.{FileRead, brought_file, carried_is, first_value, point}
use Rattle.link_hearing.specs.FileHearing.{HeardMostRecords, HearsRecords, RecordsHeard, split_at}
use Rattle.link_hearing.specs.Files.{FileEnded, IsPartial}
use Rattle.link_hearing.specs.Hearing.{HearsUntil, LooksBehind, LooksOn, fault_ending}
use Rattle.link_hearing.specs.InletLaws.{left_between}
use Rattle.link_hearing.specs.Inputs.{HeardSo, HearsInput, record_counts}
use Rattle.link_hearing.specs.PcapInlets.{StoppedFeed}
use Rattle.link_hearing.specs.declared.form.InputForm.TheVariants.{Pcap}
use Rattle.link_hearing.specs.declared.heard.HeardInput.{HeardInput}
use Rattle.link_hearing.specs.declared.heard.RecordCounts.{RecordCounts}
use Rattle.link_hearing.specs.declared.listener.ListenerFault.{ListenerFault}
use Rattle.link_hearing.specs.declared.listener.ListenerFault.TheVariants as faults

abbrev counts_of : (records other : ℕ) → RecordCounts
counts_of records other = record { records = records; other = other }

-- ---- by how the bytes split

module _ (port packets : ℕ) (input : InputChange) (heard : List (List ℕ) → Type 0)
    (broke : List (List ℕ) → ListenerFault → Type 0) (enough : Type 0) (counts : Option RecordCounts)
  where
    as_input : (given : List ℕ) (s : FileSplit) → Took input given → file_split packets given ≡ s
        → length s.records ≤ packets → length (carried_in port s) ≤ length s.records
        → counts ≡ Some (record_counts s (carried_in port s)) → (result : Result (Unit {0}) Ending)
        → HeardSo (carried_in port s) (λ end. FileEnded packets end input given s) input heard broke
        enough result
        → HearsInput (Pcap port) packets input heard broke enough
        (record { ended = result; records = counts })
    as_input given s took is few sizes counted result did =
        let same = carried_is packets port given s is in
        record {
          given = given;
          took = took;
          few = omega (arith, ap length same, few, sizes);
          counted = counted
              ∙ ap (λ (t : FileSplit). Some (record_counts t (carried_in port s))) (sym is)
              ∙ ap (λ (l : List (List ℕ)). Some (record_counts (file_split packets given) l)) (sym same);
          did = subst
              (λ (l : List (List ℕ)). HeardSo l
              (λ end. FileEnded packets end input given (file_split packets given)) input heard broke
              enough result)
              (sym same)
              (subst
              (λ (t : FileSplit). HeardSo (carried_in port s)
              (λ end. FileEnded packets end input given t) input heard broke enough result)
              (sym is) did);
        }

-- ---- by the feed

module _ (packets port count : ℕ) (a : Option (List ℕ)) (y : FeedValue)
    (heard : List (List ℕ) → Type 0) (broke : List (List ℕ) → ListenerFault → Type 0)
    (enough : Type 0)
    (loses : (ds lost : List (List ℕ)) → length lost ≤ 1 → heard ds → broke (ds ++ lost) faults.NoMemory)
  where
    abbrev x : FeedValue
    x = first_value a count packets port

    abbrev input : InputChange
    input = left_between a y.left count y.faults

    abbrev counts : Option RecordCounts
    counts = Some (counts_of y.records y.other)

    abbrev Came : Result (Unit {0}) Ending → Type 0
    Came result = RecordsHeard port packets input heard broke enough counts result

    heard_file : (ds : List (List ℕ)) (s : FileSplit) (place : ℕ)
        (f : FileRead packets port a y ds s place) (result : Result (Unit {0}) Ending)
        → HeardSo ds (λ end. FileEnded packets end input f.as_file.given s) input heard broke enough
        result
        → HearsInput (Pcap port) packets input heard broke enough
        (record { ended = result; records = counts })
    heard_file ds s place f result did =
        let sizes : y.other + length (carried_in port s) ≡ length s.records =
        omega (arith, ap length f.carries, f.other) in
        let others : y.other ≡ length s.records - length (carried_in port s) = omega (arith, sizes) in
        as_input port packets input heard broke enough counts f.as_file.given s f.as_file.gave
        f.as_file.is f.few (omega (arith, sizes))
        (ap (λ (n : ℕ). Some (counts_of n y.other)) f.records
        ∙ ap (λ (n : ℕ). Some (counts_of (length s.records) n)) others)
        result
        (subst
        (λ (l : List (List ℕ)). HeardSo l (λ end. FileEnded packets end input f.as_file.given s) input
        heard broke enough result)
        (sym f.carries) did)

    all_of : (m : FeedValue) (ds lost : List (List ℕ)) → lost ≡ [] → Brought x m (ds ++ lost)
        → Brought x m ds
    all_of m ds lost none b =
        subst (λ (l : List (List ℕ)). Brought x m l) (ap (λ (l : List (List ℕ)). ds ++ l) none ∙ append-nil ds) b

    -- as many records as were asked for
    most : (ds : List (List ℕ)) (limit : ℕ) → limit ≡ packets → Brought x y ds → y.records ≡ packets
        → heard ds → Came (Err (PacketLimit limit))
    most ds limit is b full so =
        let sizes : y.other + length (payloads_of y.point.head port b.records) ≡ length b.records =
        omega (arith, b.read.others) in
        let records : y.records ≡ length b.records = omega (arith, b.read.counted) in
        let others : y.other ≡ length b.records - length (payloads_of y.point.head port b.records) =
        omega (arith, sizes) in
        record {
          limit_is = is;
          head = y.point.head;
          records = b.records;
          bytes = b.read.gave.bytes;
          took = b.read.gave.gave;
          later = b.read.later;
          are = b.read.gave.are;
          count = omega (arith, records, full);
          heard_so = subst heard (sym b.payloads_are) so;
          sizes = omega (arith, sizes);
          counted = ap (λ (n : ℕ). Some (counts_of n y.other)) records
              ∙ ap (λ (n : ℕ). Some (counts_of (length b.records) n)) others;
        }

    -- no memory
    lost_last : (m : FeedValue) (ds : List (List ℕ)) → Brought x m ds → broke ds faults.NoMemory
        → (y ≡ m) ⊎ StoppedAt m y pcap.NoMemory → Came (Err NoMemory)
    lost_last m ds b so (inl same) =
        let all : Brought x y ds = subst (λ (n : FeedValue). Brought x n ds) (sym same) b in
        heard_file ds (split_at y.point.head all.records []) y.point.place
        (brought_file packets port count a y ds all) (Err NoMemory) so
    lost_last m ds b so (inr st) =
        let e = without_memory packets port count a m y ds b st in
        heard_file ds e.0 e.1 e.2 (Err NoMemory) so

    by_end : (ds : List (List ℕ)) (end : Ending) → StoppedFeed x y ds (Some end) → heard ds
        → Came (Err end)
    by_end ds (CaptureCut place) s so =
        let b = all_of s.mid ds s.lost s.ended.0 s.brought in
        let e = cut_in_record packets port count a s.mid y ds b place s.ended.1 in
        heard_file ds e.split e.place e.read (Err (CaptureCut place)) (so, e.ended, λ is. absurd cc)
    by_end ds (StreamBad place) s so =
        let b = all_of s.mid ds s.lost s.ended.0 s.brought in
        let e = bad_file packets port count a s.mid y ds b place s.ended.1 in
        heard_file ds e.split e.place e.read (Err (StreamBad place)) (so, e.ended, λ is. absurd cc)
    by_end ds InputFailed s so =
        let b = all_of s.mid ds s.lost s.ended.0 s.brought in
        let e = could_not_read packets port count a s.mid y ds b s.ended.1 in
        heard_file ds e.split e.place e.read (Err InputFailed)
        (so, e.ended, λ is. omega (arith, b.read.later, s.ended.1.cause.rose refl))
    by_end ds NoMemory s so =
        lost_last s.mid (ds ++ s.lost) s.brought (loses ds s.lost s.few so) s.ended
    by_end ds (PacketLimit limit) s so =
        let mid = all_of s.mid ds s.lost s.ended.0 s.brought in
        let b : Brought x y ds = subst (λ (n : FeedValue). Brought x n ds) (sym s.ended.1) mid in
        let full : y.records ≡ packets = s.ended.3 ∙ b.read.packets in
        most ds limit (s.ended.2 ∙ full) b full so
    by_end ds end s so = absurd s.ended

    by_fault : (ds : List (List ℕ)) (fault : ListenerFault) → Brought x y ds → broke ds fault
        → Came (Err (fault_ending fault))
    by_fault ds faults.NoMemory b so =
        heard_file ds (split_at y.point.head b.records []) y.point.place
        (brought_file packets port count a y ds b) (Err NoMemory) so
    by_fault ds faults.Output b so =
        heard_file ds (split_at y.point.head b.records []) y.point.place
        (brought_file packets port count a y ds b) (Err OutputFailed) so

    records_heard : (N wants : Type 0) (result : Result (Unit {0}) Ending)
        → HearsUntil packets (λ ds. N × Brought x y ds) (λ ds end. N × StoppedFeed x y ds end) heard broke
        wants enough result → N × Came result
    records_heard N wants (Ok done) (ds, inl r) =
        let s = r.stopped_so.1 in
        let mid = all_of s.mid ds s.lost s.ended.0 s.brought in
        let b : Brought x y ds = subst (λ (n : FeedValue). Brought x n ds) (sym s.ended.1) mid in
        let e = file_end packets port count a y ds b s.ended.2 s.ended.3 in (
          r.stopped_so.0,
          heard_file ds e.split e.place e.read (Ok done) (r.heard_so, inl e.ended),
        )
    records_heard N wants (Ok done) (ds, inr h) =
        let b = h.came_so.1 in (
          h.came_so.0,
          heard_file ds (split_at y.point.head b.records []) y.point.place
              (brought_file packets port count a y ds b) (Ok done) (h.heard_so, inr h.is_enough),
        )
    records_heard N wants (Err end) (ds, inl r) =
        (r.stopped_so.0, by_end ds end r.stopped_so.1 r.heard_so)
    records_heard N wants (Err end) (ds, inr (inl m)) =
        let b = m.came_so.1 in
        let few : y.records ≤ packets = b.read.few (omega arith) in
        let full : y.records ≡ packets = omega (
          arith,
          few,
          b.read.counted,
          b.read.others,
          ap length b.payloads_are,
          m.count,
        ) in (
          m.came_so.0,
          subst (λ (e : Ending). Came (Err e)) (sym m.end_is) (most ds packets refl b full m.heard_so),
        )
    records_heard N wants (Err end) (ds, inr (inr b)) = (
      b.came_so.0,
      subst (λ (e : Ending). Came (Err e)) (sym b.end_is) (by_fault ds b.fault b.came_so.1 b.broke_so),
    )

    pub from_first : (v : FeedValue) → v ≡ x → (N wants : Type 0) (result : Result (Unit {0}) Ending)
        → HearsUntil packets (λ ds. N × Brought v y ds) (λ ds end. N × StoppedFeed v y ds end) heard broke
        wants enough result → N × Came result
    from_first v is N wants result h =
        records_heard N wants result (subst
        (λ (w : FeedValue). HearsUntil packets (λ ds. N × Brought w y ds) (λ ds end. N × StoppedFeed w y ds end)
        heard broke wants enough result)
        is h)

-- ---- a feed that has read nothing

module _ {S : Type 0} (r : PcapReader S) (f : CarriedFeed) (packets : ℕ) (head : r.head ≡ None)
    (place : r.place ≡ 0) (most : f.packets ≡ packets) (records : f.records ≡ 0)
    (other : f.other ≡ 0) where
  abbrev value : Option (List ℕ) → (faults : ℕ) → Option FileHead → (place packets records other : ℕ)
      → FeedValue
  value left faults head place packets records other = record {
    left = left;
    faults = faults;
    point = point head place;
    port = f.port;
    packets = packets;
    records = records;
    other = other;
  }

  pub is_first : (left : S → Option (List ℕ)) (faults : S → ℕ)
      → feed_value left faults r f
      ≡ first_value (left r.source.now) (faults r.source.now) packets f.port
  is_first left faults =
      let l = left r.source.now in
      let n = faults r.source.now in
      ap (λ (h : Option FileHead). value l n h r.place f.packets f.records f.other) head
      ∙ ap (λ (p : ℕ). value l n None p f.packets f.records f.other) place
      ∙ ap (λ (m : ℕ). value l n None 0 m f.records f.other) most
      ∙ ap (λ (count : ℕ). value l n None 0 packets count f.other) records
      ∙ ap (λ (o : ℕ). value l n None 0 packets 0 o) other

  pub first_ready : r.fault ≡ None → packets < 2 ^ 32 → IsReady packets r f
  first_ready sound small = record {
    sound = sound;
    counts = omega (arith, records, other);
    few = omega (arith, records);
    room = omega (arith, place, most, records, small);
  }

-- ---- behind as many records as were asked for

within_none : (order : Order) (bytes : List ℕ) → records_within 0 order bytes ≡ ([], bytes)
unfolding records_within
within_none order bytes = refl

module _ (packets : ℕ) (bytes : List ℕ) (records : List (List ℕ)) (count : length records ≡ packets) where
  limit_split : (head : Option FileHead) → ReadsOn None head bytes records → (more : List ℕ)
      → length more ≤ 1 → file_split packets (bytes ++ more) ≡ split_at head records more
  limit_split None are more short =
      ap (λ (l : List ℕ). file_split packets (l ++ more)) are.0
      ∙ file_split-none packets more (pcap_head-stub more (omega (arith, short)))
      ∙ ap (λ (all : List (List ℕ)). split_at None all more) (sym are.1)
  limit_split (Some head) are more short =
      ap (λ (n : ℕ). file_split n (bytes ++ more)) all
      ∙ file_split-on 0 bytes more head records are
      ∙ ap (λ (split : List (List ℕ) × List ℕ). with_records head (all_before records split))
      (within_none head.order more)
      ∙ ap (λ (l : List (List ℕ)). with_records head (l, more)) (append-nil records)
    where
      all : packets ≡ length records + 0
      all = omega (arith, count)

  limit_headed : (head : Option FileHead) → ReadsOn None head bytes records → 1 ≤ packets → IsSome head
  limit_headed None are some = absurd (omega (arith, some, count, ap length are.1))
  limit_headed (Some head) are some = refl

nothing_whole : (head : Option FileHead) → IsPartial head []
nothing_whole None = omega arith
nothing_whole (Some head) = record-stub head.order [] (omega arith)

module _ (packets port limit : ℕ) (a b c : Option (List ℕ)) (i j k : ℕ) (heard : List (List ℕ) → Type 0)
    (broke : List (List ℕ) → ListenerFault → Type 0) (enough : Type 0) (counts : Option RecordCounts)
    (later : j ≤ k) (m : HeardMostRecords port packets (left_between a b i j) heard counts limit) where
  abbrev Hears : Result (Unit {0}) Ending → Type 0
  Hears result = HearsInput (Pcap port) packets (left_between a c i k) heard broke enough
      (record { ended = result; records = counts })

  with_more : (more : List ℕ) → Took (left_between b c j k) more → length more ≤ 1
      → (result : Result (Unit {0}) Ending)
      → HeardSo (payloads_of m.head port m.records)
      (λ end. FileEnded packets end (left_between a c i k) (m.bytes ++ more)
      (split_at m.head m.records more)) (left_between a c i k) heard broke enough result
      → Hears result
  with_more more took short result did =
      as_input port packets (left_between a c i k) heard broke enough counts (m.bytes ++ more)
      (split_at m.head m.records more) (Gave-then a b c m.bytes more m.took took)
      (limit_split packets m.bytes m.records m.count m.head m.are more short) (omega (arith, m.count))
      m.sizes m.counted result did

  looked_on : (result : Result (Unit {0}) Ending) → LooksOn limit (left_between b c j k) result
      → Hears result
  looked_on (Ok done) l = with_more [] l.0 (omega arith) (Ok done) (
    m.heard_so,
    inl (record {
      headed = limit_headed packets m.bytes m.records m.count m.head m.are;
      no_rest = refl;
      ended = l.1;
    }),
  )
  looked_on (Err (PacketLimit most)) l = with_more l.1 l.3 (omega (arith, l.2)) (Err (PacketLimit most)) (
    m.heard_so,
    record { limit_is = l.0 ∙ m.limit_is; count = m.count; one_more = l.2 },
    λ is. absurd cc,
  )
  looked_on (Err InputFailed) l = with_more [] l.0 (omega arith) (Err InputFailed) (
    m.heard_so,
    record { not_whole = nothing_whole m.head; wanted = inr refl },
    λ is. omega (arith, m.later, l.1),
  )
  looked_on (Err end) l = absurd l

module _ (packets port : ℕ) (a b c : Option (List ℕ)) (i j k : ℕ) (heard : List (List ℕ) → Type 0)
    (broke : List (List ℕ) → ListenerFault → Type 0) (enough : Type 0) (told : Option RecordCounts)
    (later : j ≤ k) where
  abbrev Records : (after : Option (List ℕ)) → (last : ℕ) → Result (Unit {0}) Ending → Type 0
  Records after last result = HearsInput (Pcap port) packets (left_between a after i last) heard broke enough
      (record { ended = result; records = told })

  -- where it wasn't tried
  so_far : (end : Ending) (result : Result (Unit {0}) Ending)
      → (result ≡ Err end) × (c ≡ b) × (k ≡ j) → Records b j (Err end) → Records c k result
  so_far end result l st = rw (l.0, l.1, l.2) st

  by_ending : (end : Ending) (result : Result (Unit {0}) Ending)
      → RecordsHeard port packets (left_between a b i j) heard broke enough told (Err end)
      → LooksBehind end (left_between b c j k) result → Records c k result
  by_ending (PacketLimit limit) result st l =
      looked_on packets port limit a b c i j k heard broke enough told later st result l
  by_ending end result st l = so_far end result l st

  pub looked_behind : (ended : Result (Unit {0}) Ending) (end : Ending) (result : Result (Unit {0}) Ending)
      → ended ≡ Err end
      → RecordsHeard port packets (left_between a b i j) heard broke enough told ended
      → LooksBehind end (left_between b c j k) result → Records c k result
  looked_behind ended end result is st l =
      by_ending end result
      (subst (λ (r : Result (Unit {0}) Ending). RecordsHeard port packets (left_between a b i j) heard broke enough told r)
      is st)
      l

  pub read_to_end : (ended : Result (Unit {0}) Ending) → ended ≡ Ok tt
      → RecordsHeard port packets (left_between a b i j) heard broke enough told ended → Records b j (Ok tt)
  read_to_end ended is st =
      subst (λ (r : Result (Unit {0}) Ending). RecordsHeard port packets (left_between a b i j) heard broke enough told r)
      is st

-- what was lent to a feed comes back as it was left
module _ {S : Type 0} (left : S → Option (List ℕ)) (faulty : S → ℕ) (old first last end : S)
    (heard : List (List ℕ) → Type 0) (broke : List (List ℕ) → ListenerFault → Type 0) (enough : Type 0)
    (told : HeardInput) where
  pub feed_back : (own port packets : ℕ)
      → HearsRecords own packets (input_of left faulty first last) heard broke enough told
      → own ≡ port → first ≡ old → end ≡ last
      → HearsRecords port packets (input_of left faulty old end) heard broke enough told
  feed_back own port packets h port_is first_is end_is = rw (← port_is, ← first_is, end_is) h
