-- Steps: where the event is legal, where it is refused, and what is kept behind it.
use Rattle.std.proofs.Common.{◌≡◌, ℕ, ◌+◌, Bool, List, [], ◌∷◌, ◌++◌, Option, Some, None, arith}
use Rattle.std.proofs.Common.{Result, Ok, Err, refl, ap, sym, subst, ◌∙◌}
use Rattle.std.specs.Prelude.{not, position, true, false, is_some}
use Rattle.std.proofs.lemmas.Bool.{and_parts, not-true}
use Rattle.std.proofs.lemmas.Option.{same_Some, none-some}
use Rattle.std.specs.Option.{option_map, option_map_or}
use Rattle.machine_model.specs.Feeders.{Feeder, is_closed_now, is_decoded, is_kept, slice_job}
use Rattle.machine_model.specs.Feeding.{takes_answer, with_answer}
use Rattle.machine_model.specs.Interleavings.{AreOwnAnswers}
use Rattle.machine_model.specs.Machine.{Machine, Event, IsLegal, AreLegal, conditions}
use Rattle.machine_model.specs.Machine.{happens, run, new_machine}
use Rattle.machine_model.specs.Machine.{Put, Take, Redo}
use Rattle.machine_model.specs.Places.{Job, Answered, own_answer, Content, Nothing, Offered, Claimed}
use Rattle.machine_model.specs.Places.{Decoded, JobPlace, place_at, may_put, stands_in, puts_job}
use Rattle.machine_model.specs.Places.{frees_place}
use Rattle.slice_ring.specs.Calls.{done_in}
use Rattle.link_model.specs.Session.{sessions_of}
use Rattle.machine_model.proofs.MachineHalves.{legal_halves}
use Rattle.machine_model.proofs.MachineRuns.{own_decoded}
use Rattle.machine_model.proofs.PicturesStay.{kept_slice}
use Rattle.link_core.specs.Cores.{CoreState, IsReached, core_after, Steps}
use Rattle.link_core.specs.Events.{refused_by, verdict}
use Rattle.link_core.specs.declared.event.StepRefusal.{StepRefusal}
use Rattle.link_core.specs.declared.event.StepRefusal.TheVariants.{NotLegal}

-- ---- refusals

abbrev Verdict : Type 0
Verdict = Result (Unit {0}) StepRefusal

abbrev okay : Verdict
okay = Ok tt

abbrev refusal : StepRefusal → Verdict
refusal r = Err r

ok_err : (r : StepRefusal) → refusal r ≡ okay → ⊥
ok_err r h = cc

none_broken : (o : Option ℕ) → refused_by o ≡ okay → option_map (λ k. k + 1) o ≡ None
none_broken None e = refl
none_broken (Some k) e = absurd (ok_err (NotLegal (k + 1)) e)

module _ (c : CoreState) (e : Event) where
  pub legal_by : verdict (conditions c.window c.machine e) ≡ Ok tt → IsLegal c.window c.machine e
  legal_by is = none_broken (position not (conditions c.window c.machine e)) is

-- ---- runs that are one event longer

module _ (window : ℕ) where
  run_more : (m : Machine) (events : List Event) (e : Event) → run window m (events ++ e ∷ []) ≡ happens window (run window m events) e
  run_more m [] e = refl
  run_more m (first ∷ events) e = run_more (happens window m first) events e

  legal_more : (m : Machine) (events : List Event) (e : Event) → AreLegal window m events → IsLegal window (run window m events) e → AreLegal window m (events ++ e ∷ [])
  legal_more m [] e legal last = (last, tt)
  legal_more m (first ∷ events) e legal last = (legal.0, legal_more (happens window m first) events e legal.1 last)

pub reached_more : (c : CoreState) → IsReached c → (e : Event) → IsLegal c.window c.machine e → IsReached (core_after c e)
reached_more c r e legal = record {
  least = r.least;
  most = r.most;
  places = r.places;
  events = r.events ++ e ∷ [];
  legal = legal_more c.window (new_machine r.places) r.events e r.legal (subst (λ (m : Machine). IsLegal c.window m e) r.is legal);
  is = ap (λ (m : Machine). happens c.window m e) r.is ∙ sym (run_more c.window (new_machine r.places) r.events e);
}

-- ---- a core's parts

abbrev pub machine_of : Feeder → List JobPlace → Machine
machine_of f places = record { feeder = f; places = places }

abbrev pub core_of : ℕ → Feeder → List JobPlace → CoreState
core_of window f places = record { window = window; machine = machine_of f places }

-- they are as an event leaves them
pub reached_by : (window : ℕ) (f g : Feeder) (p q : List JobPlace) → IsReached (core_of window f p) → (e : Event) → IsLegal window (machine_of f p) e
    → machine_of g q ≡ happens window (machine_of f p) e → IsReached (core_of window g q)
reached_by window f g p q r e legal is = subst IsReached (ap (λ (m : Machine). record { window = window; machine = m }) (sym is)) (reached_more (core_of window f p) r e legal)

-- by the conditions of the event
pub legal_if : (window : ℕ) (f : Feeder) (p : List JobPlace) (e : Event) (holds : List Bool) → Ok tt ≡ verdict holds → holds ≡ conditions window (machine_of f p) e → IsLegal window (machine_of f p) e
legal_if window f p e holds is same = legal_by (core_of window f p) e (sym (is ∙ ap verdict same))

-- ---- takes, puts and redone slices

pub done_there : (content : Content) (done : Answered) → Some done ≡ done_in content → content ≡ Decoded done
done_there Nothing done e = absurd (none-some done (sym e))
done_there (Offered job) done e = absurd (none-some done (sym e))
done_there (Claimed worker job) done e = absurd (none-some done (sym e))
done_there (Decoded d) done e = ap Decoded (same_Some d done (sym e))

pub taken_is : (window : ℕ) (f g : Feeder) (p q : List JobPlace) (place : ℕ) (done : Answered) → Some done ≡ done_in (place_at p place).content
    → g ≡ takes_answer window f done → q ≡ frees_place p place → machine_of g q ≡ happens window (machine_of f p) (Take place)
taken_is window f g p q place done there taken freed = grind (arith, done_there)

pub put_is : (window : ℕ) (f : Feeder) (p q : List JobPlace) (place n i : ℕ) (job : Job) → Some job ≡ slice_job window f n i
    → q ≡ puts_job p place job → machine_of f q ≡ happens window (machine_of f p) (Put place n i)
put_is window f p q place n i job kept put = ap (machine_of f) (put ∙ ap (λ (o : Option Job). option_map_or (puts_job p place) o p) kept)

pub redone_is : (window : ℕ) (f g : Feeder) (p : List JobPlace) (n i : ℕ) (job : Job) → Some job ≡ slice_job window f n i
    → g ≡ with_answer f (own_answer job) → machine_of g p ≡ happens window (machine_of f p) (Redo n i)
redone_is window f g p n i job kept redone =
    ap (λ (f : Feeder). machine_of f p) (redone ∙ ap (λ (o : Option Job). option_map_or (λ job. with_answer f (own_answer job)) o f) kept)

-- a condition that comes behind one that is broken doesn't matter
pub third_only : (a b c c' d e : Bool) → (b ≡ true → c ≡ c') → verdict (a ∷ b ∷ c ∷ d ∷ e ∷ []) ≡ verdict (a ∷ b ∷ c' ∷ d ∷ e ∷ [])
third_only a true c c' d e same = ap (λ (c : Bool). verdict (a ∷ true ∷ c ∷ d ∷ e ∷ [])) (same refl)
third_only true false c c' d e same = refl
third_only false false c c' d e same = refl

-- the verdict on a put, by whether the slice is kept
module _ (window : ℕ) (f : Feeder) (p : List JobPlace) (place n i : ℕ) (free kept stays apart new : Bool)
    (may : free ≡ may_put p place) (there : kept ≡ is_kept window f n i) (still : kept ≡ true → stays ≡ not (is_closed_now window f n))
    (nowhere : apart ≡ not (stands_in p n i)) (undecoded : new ≡ not (is_decoded f n i)) where
  pub put_verdict : verdict (free ∷ kept ∷ stays ∷ apart ∷ new ∷ []) ≡ verdict (conditions window (machine_of f p) (Put place n i))
  put_verdict = grind (arith, third_only)

pub some_mapped : {X Y : Type 0} (f : X → Y) (o : Option X) (p : Option Y) → option_map f o ≡ p → is_some o ≡ is_some p
some_mapped f None p e = ap is_some e
some_mapped f (Some x) p e = ap is_some e

-- a slice that may be put there
module _ (window : ℕ) (f : Feeder) (p : List JobPlace) (place n i : ℕ) (legal : IsLegal window (machine_of f p) (Put place n i)) where
  both : (may_put p place ≡ true) × (not (stands_in p n i) ≡ true)
  both = and_parts (may_put p place) (not (stands_in p n i)) (legal_halves window (machine_of f p) (Put place n i) legal).0

  pub put_free : may_put p place ≡ true
  put_free = both.0

  pub put_apart : (job : Job) → Some job ≡ slice_job window f n i → stands_in p job.number job.index ≡ false
  put_apart job kept =
      let k = kept_slice window (sessions_of f.heard) n i job (sym kept) in
      ap (λ m. stands_in p m job.index) (sym (ap (λ (j : Job). j.number) k.is)) ∙ ap (stands_in p n) (sym (ap (λ (j : Job). j.index) k.is))
      ∙ not-true (stands_in p n i) both.1

-- what a step answers, by a core's parts
pub stepped_by : (old : CoreState) (window : ℕ) (f g : Feeder) (p q : List JobPlace) → core_of window f p ≡ old → (e : Event) → IsLegal window (machine_of f p) e
    → machine_of g q ≡ happens window (machine_of f p) e → Steps old e (Ok tt) (core_of window g q)
stepped_by old window f g p q view e legal is = grind arith

-- the answers of a core are its slices' own
pub reached_answers : (c : CoreState) → IsReached c → AreOwnAnswers c.window (sessions_of c.machine.feeder.heard) c.machine.feeder.decoded
reached_answers c r = subst (λ (m : Machine). AreOwnAnswers c.window (sessions_of m.feeder.heard) m.feeder.decoded) (sym r.is) (own_decoded c.window r.places r.events r.most r.legal)
