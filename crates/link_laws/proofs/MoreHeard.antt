-- What a datagram changes of pictures, where it opens a session, ends one, or has other copies of slices.
use Rattle.std.proofs.Common.{◌≡◌, ℕ, Bool, true, false, List, [], ◌∷◌, ◌++◌, Option, Some, None, Result, Ok, Err, refl, ap, sym, ◌∙◌, cond, arith, append-nil, filter_map}
use Rattle.std.specs.Option.{option_and_then, option_or}
use Rattle.std.proofs.lemmas.Bool.{false≢true}
use Rattle.std.proofs.lemmas.List.Sums.{fold-append}
use Rattle.std.proofs.lemmas.Option.{none-some}
use Rattle.link_laws.proofs.EnteredNumbers.{own_part, unopened}
use Rattle.link_laws.specs.MoreHeard.{BringsNewSlices, ConflictsBringNewSlices, EndsLeavePictures, HeadersLeavePictures, LeavesPictures, fragment_of_last, keeps_of_heard, number_of_last, run_in_part, with_run_more}
use Rattle.link_model.proofs.Hearing.{hears_new, hears_on, sessions_of_more, with_fragment, without_fragment}
use Rattle.link_model.proofs.Keeping.{first_copy-append, grown, own-append}
use Rattle.link_model.proofs.Numbering.{early_enters, parts_of-append, parts_of-other}
use Rattle.link_model.proofs.OpeningOutcomes.{fragment_outcomes, new_is_opening, turns}
use Rattle.link_model.proofs.SessionOutcomes.{fragment_is_judged, opening_is_new}
use Rattle.link_model.specs.Judgement.{KnownSession, fragment_outcome, judged_value, known_session, outcome_behind, outcome_of, part_outcome, run_outcome}
use Rattle.link_model.specs.Kept.{Own, SliceRun, first_copy, own, own_slice, slice_in, run_taken, slice_run, split_parts}
use Rattle.link_model.specs.Numbers.{Numbered, entered, enters, greatest, has_parts, is_late, least, opened_numbers, parts_of, picture_number}
use Rattle.link_model.specs.Output.{all_frames, all_output, base_behind, entered_behind, full_output}
use Rattle.link_model.specs.Packets.{PayloadValue, Header, End, Skip, Params, Slices}
use Rattle.link_model.specs.Session.{DatagramRefusal, Fragment, HeardSession, Part, ParamsPart, Received, Session, SlicePart, SlicesPart, begins, fragment_by, fragment_from, fragment_in, hears, just_opened, last_with, opens_next, params_fragment, received, sessions_of, slices_fragment, with_datagram}
use Rattle.link_model.specs.declared.outcome.Outcome.{Outcome}
use Rattle.link_model.specs.declared.outcome.Outcome.TheVariants as outcomes
use Rattle.machine_model.specs.Feeders.{EnteredSession, entered_session, keeps_of, picture_keeps, session_opening}
use Rattle.vc_types.specs.SequenceHeader.{Sequence}
use Rattle.vc_types.specs.TransformParameters.{Parameters}

-- ---- what a picture keeps, by its parts in the session that stands

module _ (window : ℕ) where
  -- by its own parts, and where it has none as before that session
  abbrev keeps_by : List HeardSession → Sequence → List Part → ℕ → Option Own
  keeps_by hs s parts n = cond (has_parts parts) (own s parts) (picture_keeps window hs n)

  by_last : (h : HeardSession) (hs : List HeardSession) (n : ℕ)
      → picture_keeps window (h ∷ hs) n ≡ keeps_by hs h.session.sequence (parts_of n (entered_behind window hs h)) n
  unfolding session_opening
  by_last h hs n = by_test (has_parts (parts_of n (entered_behind window hs h)))
    where
      by_test : (b : Bool) → option_and_then (λ (e : EnteredSession). keeps_of e n)
          (cond b (Some (entered_session window hs h)) (session_opening window hs n))
          ≡ cond b (keeps_of (entered_session window hs h) n) (picture_keeps window hs n)
      by_test true = refl
      by_test false = refl

  -- sessions that differ in their last one's end alone
  same_kept : (h g : HeardSession) (hs : List HeardSession) → g.session ≡ h.session → g.fragments ≡ h.fragments
      → (n : ℕ) → picture_keeps window (g ∷ hs) n ≡ picture_keeps window (h ∷ hs) n
  same_kept h g hs session fragments n =
      by_last g hs n
      ∙ (λ i. keeps_by hs (session i).sequence (parts_of n (entered (base_behind window hs) window (fragments i))) n)
      ∙ sym (by_last h hs n)

  same_output : (h g : HeardSession) (hs : List HeardSession) → g.session ≡ h.session → g.fragments ≡ h.fragments
      → all_output window (g ∷ hs) ≡ all_output window (h ∷ hs)
  unfolding all_output
  same_output h g hs session fragments =
      (λ i. all_output window hs ++ all_frames (session i).sequence (entered (base_behind window hs) window (fragments i)))

  -- one that was just opened has no pictures
  opened_keeps : (s : Session) (hs : List HeardSession) (n : ℕ)
      → picture_keeps window (just_opened s ∷ hs) n ≡ picture_keeps window hs n
  unfolding parts_of
  opened_keeps s hs n = by_last (just_opened s) hs n

  opened_output : (s : Session) (hs : List HeardSession) → all_output window (just_opened s ∷ hs) ≡ all_output window hs
  unfolding all_output all_frames opened_numbers parts_of least greatest
  opened_output s hs = append-nil (all_output window hs)

  leaves_by : (datagrams : List (List ℕ)) (d : List ℕ) (now : List HeardSession) → hears (sessions_of datagrams) d ≡ now
      → ((n : ℕ) → picture_keeps window now n ≡ picture_keeps window (sessions_of datagrams) n)
      → all_output window now ≡ all_output window (sessions_of datagrams) → LeavesPictures window datagrams d
  unfolding full_output
  leaves_by datagrams d now is kept output = record {
    kept = λ n. ap (λ (hs : List HeardSession). picture_keeps window hs n) (sessions_of_more datagrams d ∙ is) ∙ kept n;
    output = ap (all_output window) (sessions_of_more datagrams d ∙ is) ∙ output;
  }

-- ---- a header

pub headers_leave_pictures : HeadersLeavePictures
headers_leave_pictures window datagrams d is =
    let opens = new_is_opening window datagrams d is in
    leaves_by window datagrams d (just_opened opens.0 ∷ sessions_of datagrams)
    (hears_new (sessions_of datagrams) d opens.0 opens.1)
    (opened_keeps window opens.0 (sessions_of datagrams)) (opened_output window opens.0 (sessions_of datagrams))

-- ---- a datagram that opens nothing

abbrev is_new : Outcome → Bool
is_new outcomes.HeaderNew = true
is_new other = false

module _ (window : ℕ) (datagrams : List (List ℕ)) (d : List ℕ) (other : is_new (outcome_behind window datagrams d) ≡ false) where
  goes_on : hears (sessions_of datagrams) d ≡ last_with (sessions_of datagrams) d
  goes_on = by_next (opens_next (sessions_of datagrams) (begins d)) refl
    where
      by_next : (o : Option Session) → opens_next (sessions_of datagrams) (begins d) ≡ o
          → hears (sessions_of datagrams) d ≡ last_with (sessions_of datagrams) d
      by_next None none = hears_on (sessions_of datagrams) d none
      by_next (Some s) opens =
          absurd (false≢true (sym other ∙ ap is_new (opening_is_new window datagrams d s opens)))

-- ---- an end

pub ends_leave_pictures : EndsLeavePictures
ends_leave_pictures window datagrams d is = by_sessions (sessions_of datagrams) refl
  where
    on : hears (sessions_of datagrams) d ≡ last_with (sessions_of datagrams) d
    on = goes_on window datagrams d (ap is_new is)

    by_fragment : (h : HeardSession) (hs : List HeardSession) → sessions_of datagrams ≡ h ∷ hs
        → (o : Option Fragment) → fragment_in h.session d ≡ o → (with_datagram h d).fragments ≡ h.fragments
    by_fragment h hs stand None none = without_fragment h d none
    by_fragment h hs stand (Some f) its =
        let outcome = sym (fragment_is_judged window h hs datagrams stand d f its) ∙ is in
        absurd (false≢true (sym (fragment_outcomes (base_behind window hs) window h.session.sequence (entered_behind window hs h) f) ∙ ap turns outcome))

    by_sessions : (hs : List HeardSession) → sessions_of datagrams ≡ hs → LeavesPictures window datagrams d
    by_sessions [] stand =
        leaves_by window datagrams d (last_with (sessions_of datagrams) d) on
        (λ n. ap (λ (l : List HeardSession). picture_keeps window (last_with l d) n) stand
        ∙ sym (ap (λ (l : List HeardSession). picture_keeps window l n) stand))
        (ap (λ (l : List HeardSession). all_output window (last_with l d)) stand ∙ sym (ap (all_output window) stand))
    by_sessions (h ∷ hs) stand =
        let fragments = by_fragment h hs stand (fragment_in h.session d) refl in
        leaves_by window datagrams d (last_with (sessions_of datagrams) d) on
        (λ n. ap (λ (l : List HeardSession). picture_keeps window (last_with l d) n) stand
        ∙ same_kept window h (with_datagram h d) hs refl fragments n
        ∙ sym (ap (λ (l : List HeardSession). picture_keeps window l n) stand))
        (ap (λ (l : List HeardSession). all_output window (last_with l d)) stand
        ∙ same_output window h (with_datagram h d) hs refl fragments
        ∙ sym (ap (all_output window) stand))

-- ---- where an outcome is a conflict

abbrev conflicts : Outcome → Bool
conflicts outcomes.SlicesConflict = true
conflicts other = false

abbrev run_conflicts : Result SliceRun Outcome → Bool
run_conflicts (Ok run) = false
run_conflicts (Err outcome) = conflicts outcome

refused_otherwise : (p : Parameters) (s : SlicePart) → run_conflicts (slice_run p s) ≡ false
unfolding slice_run
refused_otherwise p s = grind arith

has_run : (f : ℕ → Option (List ℕ)) (r : Result SliceRun Outcome) → run_conflicts r ≡ false
    → conflicts (run_outcome f r) ≡ true → (run : SliceRun) × (r ≡ Ok run)
has_run f (Ok run) other is = (run, refl)
has_run f (Err outcome) other is = absurd (false≢true (sym other ∙ is))

-- it is of slices, and their picture has parameters
record HasSlices (s : Sequence) (parts : List Part) (part : Part) : Type 0 where
  slices : SlicePart
  is : part ≡ SlicesPart slices
  kept : Own
  keeps : own s parts ≡ Some kept
  run : SliceRun
  runs : slice_run kept.plan.parameters slices ≡ Ok run

has_slices : (s : Sequence) (parts : List Part) (part : Part) → conflicts (part_outcome s parts part) ≡ true
    → HasSlices s parts part
unfolding part_outcome
has_slices s parts (ParamsPart body) is = absurd (false≢true (grind arith))
has_slices s parts (SlicesPart slices) is = by_own (own s parts) refl
  where
    by_own : (o : Option Own) → own s parts ≡ o → HasSlices s parts (SlicesPart slices)
    by_own None none = absurd (false≢true (grind arith))
    by_own (Some kept) its =
        let run = has_run (own_slice kept) (slice_run kept.plan.parameters slices) (refused_otherwise kept.plan.parameters slices) (grind arith) in
        record { slices = slices; is = refl; kept = kept; keeps = its; run = run.0; runs = run.1 }

-- it has a fragment of the session that stands
of_value : (known : KnownSession) (value : PayloadValue) (opens own : Bool)
    → conflicts (cond opens outcomes.HeaderNew (cond own (judged_value known value) outcomes.Foreign)) ≡ true
    → (f : Fragment) × (cond own (fragment_by value) None ≡ Some f)
of_value known value true own is = absurd (false≢true is)
of_value known value false false is = absurd (false≢true is)
of_value known (Header high from body) false true is = absurd (false≢true (grind arith))
of_value known (End high) false true is = absurd (false≢true is)
of_value known (Skip high code) false true is = absurd (false≢true is)
of_value known (Params head from body) false true is = (params_fragment head body, refl)
of_value known (Slices head count x y from body) false true is = (slices_fragment head count x y body, refl)

module _ (window : ℕ) where
  has_fragment : (hs : List HeardSession) (r : Result Received DatagramRefusal) → conflicts (outcome_of window hs r) ≡ true
      → (h : HeardSession) × (more : List HeardSession) × (hs ≡ h ∷ more) × (f : Fragment) × (fragment_from h.session r ≡ Some f)
  has_fragment hs (Err refusal) is = absurd (false≢true (grind arith))
  has_fragment [] (Ok r) is = absurd (false≢true (grind arith))
  has_fragment (h ∷ hs) (Ok r) is =
      let found = of_value (known_session (base_behind window hs) window h) r.value _ _ is in
      (h, hs, refl, found.0, found.1)

-- ---- a conflict

module _ (window : ℕ) (datagrams : List (List ℕ)) (d : List ℕ) (h : HeardSession) (hs : List HeardSession) (stand : sessions_of datagrams ≡ h ∷ hs) (f : Fragment) (its : fragment_in h.session d ≡ Some f) (is : outcome_behind window datagrams d ≡ outcomes.SlicesConflict) where
  abbrev es : List Numbered
  es = entered_behind window hs h

  abbrev number : ℕ
  number = picture_number (base_behind window hs) es f.number

  abbrev added : Numbered
  added = record { number = number; part = f.part }

  judged_so : conflicts (fragment_outcome (base_behind window hs) window h.session.sequence es f) ≡ true
  judged_so = ap conflicts (sym (fragment_is_judged window h hs datagrams stand d f its) ∙ is)

  in_time : (is_late window es number ≡ false) × (conflicts (part_outcome h.session.sequence (parts_of number es) f.part) ≡ true)
  unfolding fragment_outcome
  in_time = by_test (is_late window es number) (part_outcome h.session.sequence (parts_of number es) f.part) judged_so
    where
      by_test : (late : Bool) (x : Outcome) → conflicts (cond late outcomes.Late x) ≡ true → (late ≡ false) × (conflicts x ≡ true)
      by_test true x so = absurd (false≢true so)
      by_test false x so = (refl, so)

  entered_is : entered_behind window hs (with_datagram h d) ≡ es ++ added ∷ []
  entered_is =
      ap (entered (base_behind window hs) window) (with_fragment h d f its)
      ∙ fold-append (enters (base_behind window hs) window) [] h.fragments (f ∷ [])
      ∙ early_enters (base_behind window hs) window es f in_time.0

  parts_more : (n : ℕ) → parts_of n (entered_behind window hs (with_datagram h d)) ≡ parts_of n es ++ parts_of n (added ∷ [])
  parts_more n = ap (parts_of n) entered_is ∙ parts_of-append n es (added ∷ [])

  sessions_are : sessions_of (datagrams ++ d ∷ []) ≡ with_datagram h d ∷ hs
  sessions_are =
      sessions_of_more datagrams d ∙ goes_on window datagrams d (ap is_new is)
      ∙ ap (λ (l : List HeardSession). last_with l d) stand

  -- ---- other pictures

  others_keep : (n : ℕ) → (n ≡ number → ⊥) → keeps_of_heard window (datagrams ++ d ∷ []) n ≡ keeps_of_heard window datagrams n
  others_keep n apart =
      ap (λ (l : List HeardSession). picture_keeps window l n) sessions_are
      ∙ by_last window (with_datagram h d) hs n
      ∙ ap (λ (parts : List Part). keeps_by window hs h.session.sequence parts n)
      (parts_more n ∙ ap (λ (l : List Part). parts_of n es ++ l) (parts_of-other n added (λ same. apart (sym same)))
      ∙ append-nil (parts_of n es))
      ∙ sym (by_last window h hs n)
      ∙ sym (ap (λ (l : List HeardSession). picture_keeps window l n) stand)

  -- ---- its own

  abbrev has : HasSlices h.session.sequence (parts_of number es) f.part
  has = has_slices h.session.sequence (parts_of number es) f.part in_time.1

  keeps_own : (parts : List Part) (kept : Own) → own h.session.sequence parts ≡ Some kept
      → keeps_by window hs h.session.sequence parts number ≡ Some kept
  unfolding own split_parts
  keeps_own [] kept its = absurd (none-some kept its)
  keeps_own (part ∷ parts) kept its = its

  kept_is : keeps_of_heard window datagrams number ≡ Some has.kept
  kept_is =
      ap (λ (l : List HeardSession). picture_keeps window l number) stand ∙ by_last window h hs number
      ∙ keeps_own (parts_of number es) has.kept has.keeps

  run_is : run_in_part has.kept f.part ≡ Some has.run
  run_is = grind arith

  its_part : parts_of number (added ∷ []) ≡ f.part ∷ []
  its_part = own_part number added [] refl ∙ ap (λ (l : List Part). f.part ∷ l) (unopened number)

  abbrev with_runs_more : Own → Result SliceRun Outcome → Own
  with_runs_more kept r = record { plan = kept.plan; runs = kept.runs ++ filter_map run_taken (r ∷ []) }

  own_more : own h.session.sequence (parts_of number (entered_behind window hs (with_datagram h d))) ≡ Some (with_run_more has.kept has.run)
  own_more =
      ap (own h.session.sequence) (parts_more number)
      ∙ own-append h.session.sequence (parts_of number es) (parts_of number (added ∷ [])) has.kept has.keeps
      ∙ ap (λ (parts : List Part). Some (grown parts has.kept)) (its_part ∙ ap (λ (part : Part). part ∷ []) has.is)
      ∙ ap (λ (r : Result SliceRun Outcome). Some (with_runs_more has.kept r)) has.runs

  now_is : keeps_of_heard window (datagrams ++ d ∷ []) number ≡ Some (with_run_more has.kept has.run)
  now_is =
      ap (λ (l : List HeardSession). picture_keeps window l number) sessions_are ∙ by_last window (with_datagram h d) hs number
      ∙ keeps_own (parts_of number (entered_behind window hs (with_datagram h d))) (with_run_more has.kept has.run) own_more

  slices_are : (i : ℕ) → own_slice (with_run_more has.kept has.run) i ≡ option_or (own_slice has.kept i) (slice_in has.run i)
  unfolding first_copy
  slices_are i =
      first_copy-append has.kept.runs (has.run ∷ []) i
      ∙ ap (option_or (own_slice has.kept i)) (alone (slice_in has.run i))
    where
      alone : (o : Option (List ℕ)) → option_or o None ≡ o
      alone None = refl
      alone (Some bytes) = refl

  pub brings : BringsNewSlices window datagrams d
  brings = record {
    fragment = f;
    number = number;
    kept = has.kept;
    run = has.run;
    is_fragment = ap (λ (l : List HeardSession). fragment_of_last l d) stand ∙ its;
    is_number = sym (ap (λ (l : List HeardSession). number_of_last window l f) stand);
    is_kept = kept_is;
    is_run = run_is;
    now = now_is;
    slices = slices_are;
    others = others_keep;
  }

pub conflicts_bring_new_slices : ConflictsBringNewSlices
unfolding outcome_behind fragment_in
conflicts_bring_new_slices window datagrams d is =
    let found = has_fragment window (sessions_of datagrams) (received d) (ap conflicts is) in
    brings window datagrams d found.0 found.1 found.2 found.3 found.4 is
