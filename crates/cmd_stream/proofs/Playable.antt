-- Where no fault came, a stream that is playable is played to its end, unless memory runs out.
use Rattle.std.proofs.Common.{◌≡◌, ◌⊎◌, ℕ, false, List, [], ◌∷◌, ◌++◌, Option, Some, None, IsSomeAnd, Result, Ok, Err, inl, inr, refl, sym, ap, ◌∙◌, arith}
use Rattle.std.specs.Result.{IsOk}
use Rattle.std.proofs.lemmas.Grind.{common_steps}
use Rattle.link_report.specs.declared.ending.Ending.{Ending}
use Rattle.link_report.specs.declared.ending.Ending.TheVariants as endings
use Rattle.link_report.specs.declared.summary.Summary.{Summary}
use Rattle.vc_ports.specs.Changes.{InputChange, OutputChange, HasRisen, Took}
use Rattle.vc_types.specs.DataUnits.{DataUnit}
use Rattle.vc_units.proofs.Behind.{units_within-more}
use Rattle.cmd_stream.specs.Stream.{Stream, StreamSoFar, all_taken, after_unit, takes, units_taken}
use Rattle.cmd_stream.specs.Playing.{UnitSplit, unit_split, AreAccepted, UnitIsPastLimit, EndsWithRefused, IsBad, Plays, PlayEnded, IsPlayable}
use Rattle.cmd_stream.proofs.Rests.{none_past, none_refused}
use Rattle.vc_ports.proofs.Given.{behind_given}
use Rattle.cmd_stream.proofs.SoFar.{so_far-refused}

-- ---- units that are accepted

front_taken : (start : StreamSoFar) (units behind : List DataUnit) → (all_taken start (units ++ behind)).1 ≡ false → (all_taken start units).1 ≡ false
unfolding all_taken
front_taken start [] behind e = refl
front_taken start (first ∷ units) behind e = by_first (takes start.stream first) refl (λ next. front_taken (after_unit start first next) units behind)
  where
    by_first : (found : Option (Option Stream)) → takes start.stream first ≡ found
        → ((next : Option Stream) → (all_taken (after_unit start first next) (units ++ behind)).1 ≡ false → (all_taken (after_unit start first next) units).1 ≡ false)
        → (all_taken start (first ∷ units)).1 ≡ false
    by_first None is deeper = absurd (cc (rw is at e))
    by_first (Some next) is deeper = rw is (deeper next (rw is at e))

front_accepted : (units behind : List DataUnit) → AreAccepted (units ++ behind) → AreAccepted units
front_accepted units behind e = front_taken _ units behind e

last_refused : (s : UnitSplit) → EndsWithRefused s → AreAccepted s.units → ⊥
last_refused s r accepted = grind (arith, common_steps, so_far-refused)

-- ---- bytes of which a part was given

module _ (packets : ℕ) (given more : List ℕ) (whole : IsPlayable packets (given ++ more)) where
  abbrev split : UnitSplit
  split = unit_split packets given

  no_refused : EndsWithRefused split → ⊥
  no_refused r =
      let behind = units_within-more packets given more in
      last_refused split r (front_accepted split.units behind.0 (ap (λ (units : List DataUnit). (units_taken units).1) (sym behind.1) ∙ whole.accepted))

  no_limit : (output : OutputChange) (limit : ℕ) → UnitIsPastLimit packets output split limit → ⊥
  no_limit output limit p = none_past packets given more whole.ended p.count p.goes_on p.one_more

  no_bad_unit : (input : InputChange) (output : OutputChange) (place : ℕ) → input.left.after ≡ Some more → IsBad packets input output split place → ⊥
  no_bad_unit input output place tells bad = grind (arith, common_steps, no_refused, none_refused)

-- ---- by how it ended

module _ (packets : ℕ) (input : InputChange) (output : OutputChange) (sound_input : HasRisen input.faults → ⊥) (sound_output : HasRisen output.faults → ⊥) (whole : IsSomeAnd input.left.before (IsPlayable packets)) where
  abbrev failed : Ending → Result Summary Ending
  failed ending = Err ending

  abbrev Came : Result Summary Ending → Type 0
  Came answer = IsOk answer ⊎ (answer ≡ Err endings.NoMemory)

  abbrev Behind : List ℕ → Type 0
  Behind given = (more : List ℕ) × (input.left.after ≡ Some more) × IsPlayable packets (given ++ more)

  behind : (given : List ℕ) → Took input given → Behind given
  behind given took = behind_given (IsPlayable packets) given input.left.before input.left.after took whole

  stopped : (ending : Ending) (given : List ℕ) → Behind given → PlayEnded packets (Err ending) input output (unit_split packets given)
      → (ending ≡ endings.InputFailed → ⊥) → (ending ≡ endings.OutputFailed → ⊥) → Came (Err ending)
  stopped endings.NoMemory given b ended read wrote = inr refl
  stopped endings.InputFailed given b ended read wrote = absurd (read refl)
  stopped endings.OutputFailed given b ended read wrote = absurd (wrote refl)
  stopped (endings.PacketLimit limit) given b ended read wrote = absurd (no_limit packets given b.0 b.2 output limit ended)
  stopped (endings.StreamBad place) given b ended read wrote = absurd (no_bad_unit packets given b.0 b.2 input output place b.1 ended)
  stopped ending given b ended read wrote = absurd ended

  pub play_completes : (answer : Result Summary Ending) → Plays packets answer input output → IsOk answer ⊎ (answer ≡ Err endings.NoMemory)
  play_completes (Ok summary) p = inl refl
  play_completes (Err ending) p = stopped ending p.given (behind p.given p.took) p.ended (λ e. sound_input (p.input_failed (ap failed e))) (λ e. sound_output (p.output_failed (ap failed e)))
