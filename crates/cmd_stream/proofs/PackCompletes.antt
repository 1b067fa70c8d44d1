-- Where no fault came, a stream that can be packed is packed to its end, unless memory runs out.
use Rattle.std.proofs.Common.{◌≡◌, ◌⊎◌, ℕ, List, [], ◌∷◌, ◌++◌, Option, Some, None, IsSomeAnd, Result, Ok, Err, inl, inr, refl, sym, ap, ◌∙◌}
use Rattle.std.specs.Result.{IsOk}
use Rattle.link_report.specs.declared.ending.Ending.{Ending}
use Rattle.link_report.specs.declared.ending.Ending.TheVariants as endings
use Rattle.link_report.specs.declared.summary.Summary.{Summary}
use Rattle.vc_ports.specs.Changes.{InputChange, OutputChange, HasRisen, Took}
use Rattle.vc_types.specs.DataUnits.{DataUnit}
use Rattle.vc_units.proofs.Behind.{units_within-more}
use Rattle.stream_model.specs.Packed.{BadUnit, PackFault, PackStream, PackedSoFar, PartTooLarge, packed_behind, packed_of, packs_unit, units_packed}
use Rattle.cmd_stream.specs.Packs.{AreAllPacked, EndsUnpacked, HasUnreadRest, IsBadStream, IsPackable, IsPastUnits, PackEnded, Packs}
use Rattle.cmd_stream.proofs.SoFarPacked.{so_far_refused}
use Rattle.cmd_stream.proofs.Rests.{none_past, none_refused}
use Rattle.vc_ports.proofs.Given.{behind_given}
use Rattle.cmd_stream.specs.Playing.{UnitSplit, unit_split}
use Rattle.vc_types.specs.SenderSettings.{Packing}

-- ---- units that are accepted

module _ (s : Packing) where
  front_packed : (start : PackedSoFar) (units behind : List DataUnit) → (packed_of s start (units ++ behind)).1 ≡ None → (packed_of s start units).1 ≡ None
  unfolding packed_of
  front_packed start [] behind e = refl
  front_packed start (first ∷ units) behind e = by_first (packs_unit s start.stream first) refl (λ next. front_packed (packed_behind start first next) units behind)
    where
      by_first : (found : Result (Option PackStream) PackFault) → packs_unit s start.stream first ≡ found
          → ((next : Option PackStream) → (packed_of s (packed_behind start first next) (units ++ behind)).1 ≡ None → (packed_of s (packed_behind start first next) units).1 ≡ None)
          → (packed_of s start (first ∷ units)).1 ≡ None
      by_first (Err fault) is deeper = absurd (cc (rw is at e))
      by_first (Ok next) is deeper = rw is (deeper next (rw is at e))

  front_accepted : (units behind : List DataUnit) → AreAllPacked s (units ++ behind) → AreAllPacked s units
  front_accepted units behind e = front_packed _ units behind e

  last_refused : (u : UnitSplit) (fault : PackFault) → EndsUnpacked s u fault → AreAllPacked s u.units → ⊥
  last_refused u fault r accepted = cc (sym refused ∙ (rw r.units at accepted))
    where
      refused : (units_packed s (r.others ++ r.last ∷ [])).1 ≡ Some fault
      refused = ap (λ (h : PackedSoFar × Option PackFault). h.1) (so_far_refused s r.others r.last (units_packed s r.others).0 fault (ap (λ (b : Option PackFault). ((units_packed s r.others).0, b)) r.all) r.refused)

-- ---- bytes of which a part was given

module _ (s : Packing) (packets : ℕ) (given more : List ℕ) (whole : IsPackable s packets (given ++ more)) where
  abbrev split : UnitSplit
  split = unit_split packets given

  no_refused : (fault : PackFault) → EndsUnpacked s split fault → ⊥
  no_refused fault r =
      let behind = units_within-more packets given more in
      last_refused s split fault r (front_accepted s split.units behind.0 (ap (λ (units : List DataUnit). (units_packed s units).1) (sym behind.1) ∙ whole.all))

  no_limit : (output : OutputChange) (limit : ℕ) → IsPastUnits s packets output split limit → ⊥
  no_limit output limit p = none_past packets given more whole.ended p.count p.goes_on p.one_more

  no_bad_unit : (input : InputChange) (output : OutputChange) (place : ℕ) → input.left.after ≡ Some more → IsBadStream s packets input output split place → ⊥
  no_bad_unit input output place tells bad = by_refusal bad.refused
    where
      by_refusal : EndsUnpacked s split BadUnit ⊎ HasUnreadRest s packets input split → ⊥
      by_refusal (inl r) = no_refused BadUnit r
      by_refusal (inr r) = none_refused packets given more whole.ended input tells r.goes_on r.fault r.refused r.last

-- ---- by how it ended

module _ (s : Packing) (packets : ℕ) (input : InputChange) (output : OutputChange) (sound_input : HasRisen input.faults → ⊥) (sound_output : HasRisen output.faults → ⊥) (whole : IsSomeAnd input.left.before (IsPackable s packets)) where
  abbrev failed : Ending → Result Summary Ending
  failed ending = Err ending

  abbrev Came : Result Summary Ending → Type 0
  Came answer = IsOk answer ⊎ (answer ≡ Err endings.NoMemory)

  abbrev Behind : List ℕ → Type 0
  Behind given = (more : List ℕ) × (input.left.after ≡ Some more) × IsPackable s packets (given ++ more)

  behind : (given : List ℕ) → Took input given → Behind given
  behind given took = behind_given (IsPackable s packets) given input.left.before input.left.after took whole

  stopped : (ending : Ending) (given : List ℕ) → Behind given → PackEnded s packets (Err ending) input output (unit_split packets given)
      → (ending ≡ endings.InputFailed → ⊥) → (ending ≡ endings.OutputFailed → ⊥) → Came (Err ending)
  stopped endings.NoMemory given b ended read wrote = inr refl
  stopped endings.InputFailed given b ended read wrote = absurd (read refl)
  stopped endings.OutputFailed given b ended read wrote = absurd (wrote refl)
  stopped (endings.PacketLimit limit) given b ended read wrote = absurd (no_limit s packets given b.0 b.2 output limit ended)
  stopped (endings.StreamBad place) given b ended read wrote = absurd (no_bad_unit s packets given b.0 b.2 input output place b.1 ended)
  stopped (endings.SliceTooLarge slice bytes) given b ended read wrote = absurd (no_refused s packets given b.0 b.2 (PartTooLarge (record { slice = slice; bytes = bytes })) ended.refused)
  stopped ending given b ended read wrote = absurd ended

  pub pack_completes : (answer : Result Summary Ending) → Packs packets s answer input output → IsOk answer ⊎ (answer ≡ Err endings.NoMemory)
  pack_completes (Ok summary) p = inl refl
  pack_completes (Err ending) p = stopped ending p.given (behind p.given p.took) p.ended (λ e. sound_input (p.input_failed (ap failed e))) (λ e. sound_output (p.output_failed (ap failed e)))
