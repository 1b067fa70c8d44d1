-- How packing ends, behind the units that were packed.
use Rattle.std.proofs.Common.{◌≡◌, ℕ, ◌-◌, ◌<◌, List, [], ◌∷◌, ◌++◌, length, Option, Some, None, Ok, Err, refl, sym, ap, ◌∙◌, subst, arith, append-nil, inl, inr}
use Rattle.std.specs.Prelude.{Result, ◌⊎◌}
use Rattle.link_report.specs.declared.ending.Ending.{Ending}
use Rattle.link_report.specs.declared.ending.Ending.TheVariants.{InputFailed, NoMemory, OutputFailed, PacketLimit, SliceTooLarge, StreamBad}
use Rattle.link_report.specs.declared.summary.Summary.{Summary}
use Rattle.link_report.specs.declared.summary.Summary.TheVariants as summaries
use Rattle.vc_ports.specs.Changes.{InputChange, OutputChange, HasRisen}
use Rattle.vc_ports.specs.Reading.{Gave}
use Rattle.vc_ports.specs.Writing.{Grew, GrewBySome}
use Rattle.vc_ports.proofs.Given.{Gave-then}
use Rattle.vc_ports.proofs.Growing.{GrewBySome-all, GrewBySome-then, GrewBySome-front, Grew-then}
use Rattle.vc_types.specs.DataUnits.{DataUnit, is_end_of_sequence}
use Rattle.vc_units.specs.Reading.{GaveUnit, GaveRefused, GavePartOfUnit, ReadsUnit}
use Rattle.vc_units.specs.Units.{data_unit, units_within}
use Rattle.vc_units.specs.declared.fault.UnitFault.{UnitFault}
use Rattle.vc_units.specs.declared.fault.UnitFault.TheVariants as faults
use Rattle.vc_units.proofs.Infos.{data_unit-stub}
use Rattle.vc_units.proofs.Streams.{units_within-refused}
use Rattle.link_outside.specs.CaptureLaws.{capture-append}
use Rattle.cmd_send.specs.FramesSent.{bytes_in}
use Rattle.link_outside.specs.Outlets.{capture_of}
use Rattle.cmd_stream.specs.Counted.{counted_in_64}
use Rattle.cmd_stream.specs.PlayEndings.{reading_ended}
use Rattle.cmd_stream.specs.Playing.{StopsReading, UnitSplit}
use Rattle.stream_model.specs.Packed.{BadUnit, PackFault, PackStream, PackedSoFar, PartTooLarge, packed_behind, packs_unit, pictures_packed, stream_packed, units_packed, whole_packed}
use Rattle.cmd_stream.specs.declared.pack_fault.UnitRefusal.{UnitRefusal}
use Rattle.cmd_stream.specs.declared.pack_fault.UnitRefusal.TheVariants as taking
use Rattle.cmd_stream.specs.declared.stream.StreamPacker.{StreamPacker}
use Rattle.cmd_stream.specs.PackEndings.{unpacked_ended}
use Rattle.cmd_stream.specs.PackLooping.{HasComeToEnd, HasPackedSome, StopsPacking}
use Rattle.cmd_stream.specs.Packs.{EndsUnpacked, PackEnded, Packs}
use Rattle.cmd_stream.specs.PackSteps.{BringsUnit, CouldNotFinish, FinishesStream, HasFinished, TakesUnit}
use Rattle.cmd_stream.proofs.SoFarPacked.{packed_grows, so_far_refused, so_far_taken, whole_is, end_packed}
use Rattle.cmd_stream.proofs.UnitSplits.{no_units, one_unit}
use Rattle.vc_types.specs.SenderSettings.{Packing}

abbrev Units : Type 0
Units = List DataUnit × List ℕ

abbrev split : Units → UnitSplit
split all = record { units = all.0; rest = all.1 }

module _ (s : Packing) (packets number : ℕ) (input : InputChange) (output : OutputChange) (mid held_mid : Option (List ℕ)) (h : PackedSoFar) (at : HasPackedSome s packets number input.left.before mid output.held.before held_mid h) where
  -- an end with these units and this rest
  stopped : (answer : Result Summary Ending) (more : List ℕ) (all : Units) → Gave mid input.left.after more → units_within packets (at.given ++ more) ≡ all → PackEnded s packets answer input output (split all) → StopsPacking s packets answer input output
  stopped answer more all gave is ended = record {
    given = at.given ++ more;
    took = Gave-then input.left.before mid input.left.after at.given more at.gave gave;
    ended = subst (λ (units : Units). PackEnded s packets answer input output (split units)) (sym is) ended;
  }

  -- the units as they were played, before a rest
  before_rest : (fault : UnitFault) (rest : List ℕ) → data_unit rest ≡ Err fault → units_within packets (at.given ++ rest) ≡ (at.units, rest)
  before_rest fault rest refused = no_units packets number at.given at.units at.split rest (units_within-refused (packets - number) rest fault refused)

  accepted : (units_packed s at.units).1 ≡ None
  accepted = ap (λ (x : PackedSoFar × Option PackFault). x.1) at.so_far

  -- what was written, as what the units bring
  wrote_of : (units : List DataUnit) (so_far : PackedSoFar) (refused : Option PackFault) → units_packed s units ≡ (so_far, refused) → Grew output.held.before output.held.after (capture_of (stream_packed s so_far.stream)) → Grew output.held.before output.held.after (capture_of (stream_packed s (units_packed s units).0.stream))
  wrote_of units so_far refused is grew = subst (λ (x : PackedSoFar × Option PackFault). Grew output.held.before output.held.after (capture_of (stream_packed s x.0.stream))) (sym is) grew

  -- the entries of pictures begin those of all
  with_end : (stream : Option PackStream) → GrewBySome output.held.before output.held.after (capture_of (stream_packed s stream)) → GrewBySome output.held.before output.held.after (capture_of (whole_packed s stream))
  with_end stream some =
      subst (GrewBySome output.held.before output.held.after) (sym (ap capture_of (whole_is s stream) ∙ capture-append (stream_packed s stream) (end_packed s stream ∷ [])))
      (GrewBySome-front output.held.before output.held.after (capture_of (stream_packed s stream)) (capture_of (end_packed s stream ∷ [])) some)

  part_of : (units : List DataUnit) (so_far : PackedSoFar) (refused : Option PackFault) → units_packed s units ≡ (so_far, refused) → GrewBySome output.held.before output.held.after (capture_of (stream_packed s so_far.stream)) → GrewBySome output.held.before output.held.after (capture_of (whole_packed s (units_packed s units).0.stream))
  part_of units so_far refused is some = subst (λ (x : PackedSoFar × Option PackFault). GrewBySome output.held.before output.held.after (capture_of (whole_packed s x.0.stream))) (sym is) (with_end so_far.stream some)

  module _ (same : output.held.after ≡ held_mid) where
    all_written : Grew output.held.before output.held.after (capture_of (stream_packed s h.stream))
    all_written = rw same at.wrote

    wrote : Grew output.held.before output.held.after (capture_of (stream_packed s (units_packed s at.units).0.stream))
    wrote = wrote_of at.units h None at.so_far all_written

    pub input_failed : (rest : List ℕ) → Gave mid input.left.after rest → data_unit rest ≡ Err faults.Short → (length at.units < packets) ⊎ (rest ≡ []) → StopsPacking s packets (Err InputFailed) input output
    input_failed rest gave short wanted = stopped (Err InputFailed) rest (at.units, rest) gave (before_rest faults.Short rest short)
        (record { all = accepted; goes_on = at.goes_on; short = short; wanted = wanted; wrote = wrote })

    no_memory : GavePartOfUnit mid input.left.after → StopsPacking s packets (Err NoMemory) input output
    no_memory part =
        stopped (Err NoMemory) part.part (at.units, part.part) part.gave (before_rest faults.Short part.part part.not_whole) (part_of at.units h None at.so_far (GrewBySome-all output.held.before output.held.after _ all_written))

    -- one byte more than as many units as were asked for
    pub past_limit : number ≡ packets → (more : List ℕ) → length more ≡ 1 → Gave mid input.left.after more → StopsPacking s packets (Err (PacketLimit packets)) input output
    past_limit enough more one gave =
        stopped (Err (PacketLimit packets)) more (at.units, more) gave (before_rest faults.Short more (data_unit-stub more (omega arith)))
        (record { limit_is = refl; count = at.count ∙ enough; goes_on = at.goes_on; one_more = one; all = accepted; wrote = wrote })

    module _ (room : number < packets) where
      bad : (fault : UnitFault) (rest : List ℕ) → Gave mid input.left.after rest → data_unit rest ≡ Err fault → StopsReading input rest fault → StopsPacking s packets (Err (StreamBad h.place)) input output
      bad fault rest gave refused last =
          stopped (Err (StreamBad h.place)) rest (at.units, rest) gave (before_rest fault rest refused)
          (record {
            refused = inr (record { all = accepted; goes_on = at.goes_on; wanted = omega (arith, at.count); fault = fault; refused = refused; last = last });
            place_is = ap (λ (x : PackedSoFar × Option PackFault). x.0.place) (sym at.so_far);
            wrote = wrote;
          })

      refused_info : (fault : UnitFault) (gave : GaveRefused mid input.left.after fault) → StopsReading input gave.bytes fault → StopsPacking s packets (Err (StreamBad h.place)) input output
      refused_info fault gave last = bad fault gave.bytes gave.gave (rw append-nil at (gave.refused [])) last

      -- a unit isn't read
      pub unit_unread : (fault : UnitFault) (place : ℕ) → ReadsUnit mid input.left.after place (Err fault) → StopsPacking s packets (Err (reading_ended fault h.place)) input output
      unit_unread faults.Prefix place gave = refused_info faults.Prefix gave gave.long
      unit_unread faults.Offset place gave = refused_info faults.Offset gave gave.long
      unit_unread faults.Code place gave = refused_info faults.Code gave gave.long
      unit_unread faults.Short place cut = bad faults.Short cut.part cut.gave.gave cut.not_whole (cut.some, cut.gave.at_end)
      unit_unread faults.ReadFault place part = input_failed part.part part.gave part.not_whole (inl (omega (arith, at.count)))
      unit_unread faults.NoMemory place part = no_memory part

  module _ (room : number < packets) (u : DataUnit) (gave : GaveUnit mid input.left.after u) where
    with_one : (answer : Result Summary Ending) → PackEnded s packets answer input output (split (at.units ++ u ∷ [], [])) → StopsPacking s packets answer input output
    with_one answer ended = stopped answer gave.bytes (at.units ++ u ∷ [], []) gave.gave (one_unit packets number at.given at.units at.split room gave.bytes u gave.is (is_end_of_sequence u) refl) ended

    module _ (fault : PackFault) (refused : packs_unit s h.stream u ≡ Err fault) where
      so_far : units_packed s (at.units ++ u ∷ []) ≡ (h, Some fault)
      so_far = so_far_refused s at.units u h fault at.so_far refused

      ends_unpacked : EndsUnpacked s (split (at.units ++ u ∷ [], [])) fault
      ends_unpacked = record {
        others = at.units;
        last = u;
        units = refl;
        all = accepted;
        refused = subst (λ (x : PackedSoFar × Option PackFault). packs_unit s x.0.stream u ≡ Err fault) (sym at.so_far) refused;
        no_rest = refl;
      }

      wrote_before : output.held.after ≡ held_mid → Grew output.held.before output.held.after (capture_of (stream_packed s (units_packed s (at.units ++ u ∷ [])).0.stream))
      wrote_before same = wrote_of (at.units ++ u ∷ []) h (Some fault) so_far (all_written same)

      pub without_it : output.held.after ≡ held_mid → StopsPacking s packets (Err NoMemory) input output
      without_it same = with_one (Err NoMemory) (part_of (at.units ++ u ∷ []) h (Some fault) so_far (GrewBySome-all output.held.before output.held.after (capture_of (stream_packed s h.stream)) (all_written same)))

    bad_unit : packs_unit s h.stream u ≡ Err BadUnit → output.held.after ≡ held_mid → StopsPacking s packets (Err (StreamBad h.place)) input output
    bad_unit refused same = with_one (Err (StreamBad h.place)) (record {
      refused = inl (ends_unpacked BadUnit refused);
      place_is = ap (λ (x : PackedSoFar × Option PackFault). x.0.place) (sym (so_far BadUnit refused));
      wrote = wrote_before BadUnit refused same;
    })

    large_unit : (slice bytes : ℕ) → packs_unit s h.stream u ≡ Err (PartTooLarge (record { slice = slice; bytes = bytes })) → output.held.after ≡ held_mid → StopsPacking s packets (Err (SliceTooLarge slice bytes)) input output
    large_unit slice bytes refused same = with_one (Err (SliceTooLarge slice bytes)) (record {
      refused = ends_unpacked (PartTooLarge (record { slice = slice; bytes = bytes })) refused;
      wrote = wrote_before (PartTooLarge (record { slice = slice; bytes = bytes })) refused same;
    })

    module _ (b : BringsUnit s h.stream u) where
      taken : units_packed s (at.units ++ u ∷ []) ≡ (packed_behind h u b.next, None)
      taken = so_far_taken s at.units u h b.next at.so_far b.taken

      grows : capture_of (stream_packed s h.stream) ++ capture_of b.due ≡ capture_of (stream_packed s b.next)
      grows = sym (ap capture_of b.grows ∙ capture-append (stream_packed s h.stream) b.due)

      unwritten : GrewBySome held_mid output.held.after (capture_of b.due) → StopsPacking s packets (Err OutputFailed) input output
      unwritten some =
          let part = subst (GrewBySome output.held.before output.held.after) grows (GrewBySome-then output.held.before held_mid output.held.after (capture_of (stream_packed s h.stream)) (capture_of b.due) at.wrote some) in
          with_one (Err OutputFailed) (part_of (at.units ++ u ∷ []) (packed_behind h u b.next) None taken part)

      unkept : output.held.after ≡ held_mid → StopsPacking s packets (Err NoMemory) input output
      unkept same =
          let part = subst (GrewBySome output.held.before output.held.after) grows (GrewBySome-front output.held.before output.held.after (capture_of (stream_packed s h.stream)) (capture_of b.due) (GrewBySome-all output.held.before output.held.after (capture_of (stream_packed s h.stream)) (all_written same))) in
          with_one (Err NoMemory) (part_of (at.units ++ u ∷ []) (packed_behind h u b.next) None taken part)

    without_memory : (next : Result (Option PackStream) PackFault) → packs_unit s h.stream u ≡ next → output.held.after ≡ held_mid → StopsPacking s packets (Err NoMemory) input output
    without_memory (Err fault) refused same = without_it fault refused same
    without_memory (Ok next) taken same = unkept (packed_grows s h.stream next u taken) same

    -- a unit isn't packed
    pub unit_unpacked : (refusal : UnitRefusal) (new : StreamPacker) → TakesUnit s h.stream u new held_mid output.held.after (Err refusal) → StopsPacking s packets (Err (unpacked_ended refusal h.place)) input output
    unit_unpacked taking.Bad new (refused, same) = bad_unit refused same
    unit_unpacked (taking.TooLarge slice bytes) new (refused, same) = large_unit slice bytes refused same
    unit_unpacked taking.WriteFault new (b, some) = unwritten b some
    unit_unpacked taking.NoMemory new same = without_memory (packs_unit s h.stream u) refl same

-- ---- the answer

module _ (s : Packing) (packets : ℕ) (input : InputChange) (output : OutputChange) where
  -- it stopped by a fault
  pub packs_part : (ending : Ending) → StopsPacking s packets (Err ending) input output → (ending ≡ InputFailed → HasRisen input.faults) → (ending ≡ OutputFailed → HasRisen output.faults) → Packs packets s (Err ending) input output
  packs_part ending stops input_rose output_rose = record {
    given = stops.given;
    took = stops.took;
    ended = stops.ended;
    input_failed = λ e. input_rose (cc e);
    output_failed = λ e. output_rose (cc e);
  }

  module _ (mid_held : Option (List ℕ)) (h : PackedSoFar) (ended : HasComeToEnd s packets input.left.before input.left.after output.held.before mid_held h) where
    ends_so : (answer : Result Summary Ending) → PackEnded s packets answer input output (split (ended.units, [])) → StopsPacking s packets answer input output
    ends_so answer so = record {
      given = ended.given;
      took = ended.gave;
      ended = subst (λ (all : Units). PackEnded s packets answer input output (split all)) (sym ended.split) so;
    }

    came : (units_packed s ended.units).0.stream ≡ h.stream
    came = ap (λ (x : PackedSoFar × Option PackFault). x.0.stream) ended.so_far

    all_of : (end : List ℕ) → whole_packed s h.stream ≡ stream_packed s h.stream ++ end ∷ [] → capture_of (stream_packed s h.stream) ++ capture_of (end ∷ []) ≡ capture_of (whole_packed s (units_packed s ended.units).0.stream)
    all_of end grows = sym (ap (λ (t : Option PackStream). capture_of (whole_packed s t)) came ∙ ap capture_of grows ∙ capture-append (stream_packed s h.stream) (end ∷ []))

    finished : (pictures datagrams bytes : ℕ) → HasFinished s h.stream mid_held output.held.after pictures datagrams bytes → StopsPacking s packets (Ok (summaries.Packed pictures datagrams bytes)) input output
    finished pictures datagrams bytes f = ends_so (Ok (summaries.Packed pictures datagrams bytes)) (record {
      all = ap (λ (x : PackedSoFar × Option PackFault). x.1) ended.so_far;
      no_rest = refl;
      ended = ended.ends;
      wrote = subst (Grew output.held.before output.held.after) (all_of f.end f.grows) (Grew-then output.held.before mid_held output.held.after (capture_of (stream_packed s h.stream)) (capture_of (f.end ∷ [])) ended.wrote f.grew);
      pictures_are = f.pictures_are ∙ ap (λ (t : Option PackStream). length (pictures_packed t)) (sym came);
      datagrams_are = f.datagrams_are ∙ ap (λ (t : Option PackStream). counted_in_64 (length (whole_packed s t))) (sym came);
      bytes_are = f.bytes_are ∙ ap (λ (t : Option PackStream). counted_in_64 (bytes_in (whole_packed s t))) (sym came);
    })

    unfinished : CouldNotFinish s h.stream mid_held output.held.after → StopsPacking s packets (Err OutputFailed) input output
    unfinished f = ends_so (Err OutputFailed) (subst (GrewBySome output.held.before output.held.after) (all_of f.end f.grows) (GrewBySome-then output.held.before mid_held output.held.after (capture_of (stream_packed s h.stream)) (capture_of (f.end ∷ [])) ended.wrote f.grew))

    without_end : output.held.after ≡ mid_held → StopsPacking s packets (Err NoMemory) input output
    without_end same =
        let before : GrewBySome output.held.before output.held.after (capture_of (stream_packed s h.stream)) = GrewBySome-all output.held.before output.held.after (capture_of (stream_packed s h.stream)) (rw same ended.wrote) in
        ends_so (Err NoMemory) (subst (GrewBySome output.held.before output.held.after) (all_of (end_packed s h.stream) (whole_is s h.stream)) (GrewBySome-front output.held.before output.held.after (capture_of (stream_packed s h.stream)) (capture_of (end_packed s h.stream ∷ [])) before))

    stops_with : (result : Result Summary Ending) → FinishesStream s h.stream mid_held output.held.after result → StopsPacking s packets result input output
    stops_with (Ok (summaries.Packed pictures datagrams bytes)) ends = finished pictures datagrams bytes ends
    stops_with (Err NoMemory) ends = without_end ends
    stops_with (Err OutputFailed) ends = unfinished ends
    stops_with other ends = absurd ends

    not_input : (result : Result Summary Ending) → FinishesStream s h.stream mid_held output.held.after result → result ≡ Err InputFailed → ⊥
    not_input result ends e = subst (FinishesStream s h.stream mid_held output.held.after) e ends

    -- the stream ended
    pub packs_whole : (result : Result Summary Ending) → FinishesStream s h.stream mid_held output.held.after result → (result ≡ Err OutputFailed → HasRisen output.faults) → Packs packets s result input output
    packs_whole result ends output_rose =
        let stops = stops_with result ends in
        record {
          given = stops.given;
          took = stops.took;
          ended = stops.ended;
          input_failed = λ e. absurd (not_input result ends e);
          output_failed = output_rose;
        }
