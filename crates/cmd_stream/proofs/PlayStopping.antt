-- How playing ends by a fault, behind the units that were played.
use Rattle.std.proofs.Common.{◌≡◌, ℕ, ◌-◌, ◌<◌, Bool, true, false, List, [], ◌∷◌, ◌++◌, length, Option, Some, None, Ok, Err, refl, sym, ap, ◌∙◌, subst, arith, append-nil, inl, inr}
use Rattle.std.specs.Prelude.{Result, ◌⊎◌}
use Rattle.std.proofs.lemmas.Grind.{common_steps}
use Rattle.link_report.specs.declared.ending.Ending.{Ending}
use Rattle.link_report.specs.declared.ending.Ending.TheVariants.{NoMemory, InputFailed, OutputFailed, PacketLimit, StreamBad}
use Rattle.link_report.specs.declared.summary.Summary.{Summary}
use Rattle.link_report.specs.declared.summary.Summary.TheVariants as summaries
use Rattle.vc_ports.specs.Changes.{InputChange, OutputChange, HasRisen}
use Rattle.vc_ports.specs.Reading.{Gave}
use Rattle.vc_ports.specs.Writing.{Grew, GrewBySome}
use Rattle.vc_ports.proofs.Growing.{GrewBySome-all, GrewBySome-then, GrewBySome-front}
use Rattle.vc_types.specs.DataUnits.{DataUnit, is_end_of_sequence}
use Rattle.vc_units.specs.Reading.{GaveUnit, GaveRefused, GavePartOfUnit, ReadsUnit}
use Rattle.vc_units.specs.Units.{data_unit, units_within}
use Rattle.vc_units.specs.declared.fault.UnitFault.{UnitFault}
use Rattle.vc_units.specs.declared.fault.UnitFault.TheVariants as faults
use Rattle.vc_units.proofs.Infos.{data_unit-stub}
use Rattle.vc_units.proofs.Streams.{units_within-refused}
use Rattle.cmd_stream.specs.declared.play_fault.TakeFault.{TakeFault}
use Rattle.cmd_stream.specs.declared.play_fault.TakeFault.TheVariants as taking
use Rattle.cmd_stream.specs.PlayEndings.{reading_ended, taking_ended}
use Rattle.cmd_stream.specs.PlayLooping.{PlayIsBehind, UnitsHaveEnded, PlayStops}
use Rattle.cmd_stream.specs.Playing.{UnitSplit, StopsReading, PlayEnded, Plays}
use Rattle.cmd_stream.specs.PlaySteps.{PlayState}
use Rattle.cmd_stream.specs.Stream.{StreamSoFar, Stream, units_taken, takes, after_unit, played, pictures_in, frames_in, unpaired_in}
use Rattle.cmd_stream.specs.Taking.{BringsDue, Brought}
use Rattle.cmd_stream.proofs.SoFar.{so_far-taken, so_far-refused, taken-grows}
use Rattle.cmd_stream.proofs.UnitSplits.{no_units, one_unit}

abbrev Units : Type 0
Units = List DataUnit × List ℕ

abbrev split : Units → UnitSplit
split all = record { units = all.0; rest = all.1 }

module _ (packets number : ℕ) (input : InputChange) (output : OutputChange) (mid held_mid : Option (List ℕ)) (h : StreamSoFar) (at : PlayIsBehind packets number input.left.before mid output.held.before held_mid h) where
  -- an end with these units and this rest
  stopped : (answer : Result Summary Ending) (more : List ℕ) (all : Units) → Gave mid input.left.after more → units_within packets (at.given ++ more) ≡ all → PlayEnded packets answer input output (split all) → PlayStops packets answer input output
  stopped answer more all gave is ended = grind (arith, common_steps)

  -- the units as they were played, before a rest
  before_rest : (fault : UnitFault) (rest : List ℕ) → data_unit rest ≡ Err fault → units_within packets (at.given ++ rest) ≡ (at.units, rest)
  before_rest fault rest refused = no_units packets number at.given at.units at.split rest (units_within-refused (packets - number) rest fault refused)

  accepted : (units_taken at.units).1 ≡ false
  accepted = ap (λ (x : StreamSoFar × Bool). x.1) at.so_far

  -- what was written, as what the units bring
  wrote_of : (units : List DataUnit) (so_far : StreamSoFar) (refused : Bool) → units_taken units ≡ (so_far, refused) → Grew output.held.before output.held.after (played so_far.stream) → Grew output.held.before output.held.after (played (units_taken units).0.stream)
  wrote_of units so_far refused is grew = subst (λ (x : StreamSoFar × Bool). Grew output.held.before output.held.after (played x.0.stream)) (sym is) grew

  part_of : (units : List DataUnit) (so_far : StreamSoFar) (refused : Bool) → units_taken units ≡ (so_far, refused) → GrewBySome output.held.before output.held.after (played so_far.stream) → GrewBySome output.held.before output.held.after (played (units_taken units).0.stream)
  part_of units so_far refused is some = subst (λ (x : StreamSoFar × Bool). GrewBySome output.held.before output.held.after (played x.0.stream)) (sym is) some

  module _ (same : output.held.after ≡ held_mid) where
    all_written : Grew output.held.before output.held.after (played h.stream)
    all_written = rw same at.wrote

    wrote : Grew output.held.before output.held.after (played (units_taken at.units).0.stream)
    wrote = wrote_of at.units h false at.so_far all_written

    pub input_failed : (rest : List ℕ) → Gave mid input.left.after rest → data_unit rest ≡ Err faults.Short → (length at.units < packets) ⊎ (rest ≡ []) → PlayStops packets (Err InputFailed) input output
    input_failed rest gave short wanted = stopped (Err InputFailed) rest (at.units, rest) gave (before_rest faults.Short rest short)
        (record { accepted = accepted; goes_on = at.goes_on; short = short; wanted = wanted; wrote = wrote })

    no_memory : GavePartOfUnit mid input.left.after → PlayStops packets (Err NoMemory) input output
    no_memory part =
        stopped (Err NoMemory) part.part (at.units, part.part) part.gave (before_rest faults.Short part.part part.not_whole) (GrewBySome-all output.held.before output.held.after _ wrote)

    -- one byte more than as many units as were asked for
    pub past_limit : number ≡ packets → (more : List ℕ) → length more ≡ 1 → Gave mid input.left.after more → PlayStops packets (Err (PacketLimit packets)) input output
    past_limit enough more one gave =
        stopped (Err (PacketLimit packets)) more (at.units, more) gave (before_rest faults.Short more (data_unit-stub more (omega arith)))
        (record { limit_is = refl; count = at.count ∙ enough; goes_on = at.goes_on; one_more = one; accepted = accepted; wrote = wrote })

    module _ (room : number < packets) where
      bad : (fault : UnitFault) (rest : List ℕ) → Gave mid input.left.after rest → data_unit rest ≡ Err fault → StopsReading input rest fault → PlayStops packets (Err (StreamBad h.place)) input output
      bad fault rest gave refused last =
          stopped (Err (StreamBad h.place)) rest (at.units, rest) gave (before_rest fault rest refused)
          (record {
            refused = inr (record { accepted = accepted; goes_on = at.goes_on; wanted = omega (arith, at.count); fault = fault; refused = refused; last = last });
            place_is = ap (λ (x : StreamSoFar × Bool). x.0.place) (sym at.so_far);
            wrote = wrote;
          })

      refused_info : (fault : UnitFault) (gave : GaveRefused mid input.left.after fault) → StopsReading input gave.bytes fault → PlayStops packets (Err (StreamBad h.place)) input output
      refused_info fault gave last = bad fault gave.bytes gave.gave (rw append-nil at (gave.refused [])) last

      -- a unit isn't read
      pub unit_unread : (fault : UnitFault) (place : ℕ) → ReadsUnit mid input.left.after place (Err fault) → PlayStops packets (Err (reading_ended fault h.place)) input output
      unit_unread faults.Prefix place gave = refused_info faults.Prefix gave gave.long
      unit_unread faults.Offset place gave = refused_info faults.Offset gave gave.long
      unit_unread faults.Code place gave = refused_info faults.Code gave gave.long
      unit_unread faults.Short place cut = bad faults.Short cut.part cut.gave.gave cut.not_whole (cut.some, cut.gave.at_end)
      unit_unread faults.ReadFault place part = input_failed part.part part.gave part.not_whole (inl (omega (arith, at.count)))
      unit_unread faults.NoMemory place part = no_memory part

  module _ (room : number < packets) (u : DataUnit) (gave : GaveUnit mid input.left.after u) where
    with_one : (answer : Result Summary Ending) → PlayEnded packets answer input output (split (at.units ++ u ∷ [], [])) → PlayStops packets answer input output
    with_one answer ended = stopped answer gave.bytes (at.units ++ u ∷ [], []) gave.gave (one_unit packets number at.given at.units at.split room gave.bytes u gave.is (is_end_of_sequence u) refl) ended

    refused_unit : takes h.stream u ≡ None → output.held.after ≡ held_mid → PlayStops packets (Err (StreamBad h.place)) input output
    refused_unit none same =
        grind (arith, common_steps, so_far-refused, with_one, accepted, wrote, wrote_of, all_written)

    module _ (b : BringsDue h.stream u) where
      taken : units_taken (at.units ++ u ∷ []) ≡ (after_unit h u b.next, false)
      taken = so_far-taken at.units u h b.next at.so_far b.taken

      unwritten : GrewBySome held_mid output.held.after b.due → PlayStops packets (Err OutputFailed) input output
      unwritten some =
          let part : GrewBySome output.held.before output.held.after (played b.next) = rw b.grows (GrewBySome-then output.held.before held_mid output.held.after (played h.stream) b.due at.wrote some) in
          with_one (Err OutputFailed) (part_of (at.units ++ u ∷ []) (after_unit h u b.next) false taken part)

      unkept : output.held.after ≡ held_mid → PlayStops packets (Err NoMemory) input output
      unkept same =
          let part : GrewBySome output.held.before output.held.after (played b.next) = rw b.grows (GrewBySome-front output.held.before output.held.after (played h.stream) b.due (GrewBySome-all output.held.before output.held.after (played h.stream) (all_written same))) in
          with_one (Err NoMemory) (part_of (at.units ++ u ∷ []) (after_unit h u b.next) false taken part)

    without_memory : (next : Option (Option Stream)) → takes h.stream u ≡ next → output.held.after ≡ held_mid → PlayStops packets (Err NoMemory) input output
    without_memory None none same =
        with_one (Err NoMemory) (part_of (at.units ++ u ∷ []) h true (so_far-refused at.units u h at.so_far none) (GrewBySome-all output.held.before output.held.after (played h.stream) (all_written same)))
    without_memory (Some next) taken same = unkept (taken-grows h.stream next u taken) same

    -- a unit isn't taken
    pub unit_untaken : (fault : TakeFault) (new : Option PlayState) → Brought h.stream u new held_mid output.held.after (Err fault) → PlayStops packets (Err (taking_ended fault h.place)) input output
    unit_untaken taking.Refused new (none, same) = refused_unit none same
    unit_untaken taking.WriteFault new (b, some) = unwritten b some
    unit_untaken taking.NoMemory new same = without_memory (takes h.stream u) refl same

-- ---- the answer
module _ (packets : ℕ) (input : InputChange) (output : OutputChange) where
  -- the stream ended
  pub plays_whole : (h : StreamSoFar) (summary : Summary) → UnitsHaveEnded packets input.left.before input.left.after output.held.before output.held.after h
      → summary ≡ summaries.Played (pictures_in h.stream) (unpaired_in h.stream) (frames_in h.stream) → Plays packets (Ok summary) input output
  plays_whole h summary ended is = grind (arith, common_steps, accepted, wrote, input_failed)

  -- it stopped by a fault
  pub plays_part : (ending : Ending) → PlayStops packets (Err ending) input output → (ending ≡ InputFailed → HasRisen input.faults) → (ending ≡ OutputFailed → HasRisen output.faults) → Plays packets (Err ending) input output
  plays_part ending stops input_rose output_rose = grind (arith, common_steps, input_failed)
