-- The planes of the picture that may be released next, and of the field before it, by answers.
use Rattle.std.proofs.Common.{◌≡◌, ℕ, ◌+◌, ◌%◌, ◌<◌, ◌≤◌, Bool, true, false, refl, ap, sym, List}
use Rattle.std.proofs.Common.{[], ◌∷◌, ◌++◌, Option, Some, None, subst, ◌∙◌, arith, cond, inl, inr}
use Rattle.std.specs.Prelude.{◌==◌, ◌&&◌, ◌||◌, is_some, not}
use Rattle.std.specs.List.{last_or}
use Rattle.std.specs.Option.{option_and_then}
use Rattle.std.proofs.lemmas.Bool.{cases_Bool, cases_eq, cond-true, cond-false}
use Rattle.std.proofs.lemmas.Bool.{eq-eqb, ne_eqb, both_ways, false_from_ne_true}
use Rattle.std.proofs.lemmas.Grind.{common_steps}
use Rattle.std.proofs.lemmas.List.Sums.{fold_push}
use Rattle.std.proofs.lemmas.Option.{none-some}
use Rattle.link_model.specs.Complete.{slice_numbers, has_all_slices, picture_planes}
use Rattle.machine_model.specs.Feeders.{Feeder, SliceAnswer, picture_keeps, is_among, answer_in}
use Rattle.machine_model.specs.Feeders.{has_released, is_decoded, keeps_now}
use Rattle.machine_model.specs.Feeding.{planes_by, built_planes}
use Rattle.link_model.specs.Kept.{Own, own, own_slice}
use Rattle.machine_model.specs.Next.{unanswered}
use Rattle.link_model.specs.Numbers.{Numbered, is_opened, parts_of}
use Rattle.link_model.specs.Output.{planes_at}
use Rattle.link_model.specs.Session.{HeardSession, sessions_of}
use Rattle.link_model.specs.Windows.{WindowPast, releasable_numbers, first_of, released_up_to}
use Rattle.link_model.specs.declared.tally.Tally.{Tally}
use Rattle.link_model.proofs.Releasing.{all_at}
use Rattle.vc_types.specs.Planes.{Planes}
use Rattle.vc_types.specs.SequenceHeader.{Sequence}
use Rattle.vc_types.specs.Subbands.{slice_count}
use Rattle.receiver_model.specs.Receptions.{StandingSession, Reception, FirstField}
use Rattle.receiver_model.specs.Releasing.{as_first, field_before, field_behind}
use Rattle.machine_model.specs.Interleavings.{AreOwnAnswers}
use Rattle.receiver_model.specs.Standing.{Fields, no_fields, next_field, fields_behind}
use Rattle.link_model.proofs.WindowStands.{first_and_rest}
use Rattle.receiver_model.proofs.AnsweredPictures.{AreOfKept, incomplete_planes, no_own_planes}
use Rattle.receiver_model.proofs.AnsweredPictures.{answered_planes_hold, answered_planes_ready}
use Rattle.receiver_model.proofs.AnsweredPictures.{answered_planes_missing}
use Rattle.receiver_model.proofs.Redone.{answers_of_kept, kept_job_there, redone, redone_own}
use Rattle.receiver_model.proofs.Redone.{redone_others, redone_stays, redone_there}
use Rattle.receiver_model.proofs.ReleasedNumbers.{AreRising, among_rising, just_before, released_is}
use Rattle.receiver_model.proofs.ReleasedNumbers.{releasable_gone, releasable_unreleased}
use Rattle.receiver_model.proofs.ReleasedNumbers.{released_rise, gone_before}
use Rattle.receiver_model.proofs.SliceJobs.{same_planes_by}
use Rattle.receiver_model.proofs.WaitingFields.{waiting_is}
use Rattle.receiver_model.proofs.Working.{IsWorking, entered_of, released_parts}
use Rattle.receiver_model.proofs.ReleaseLists.{among_filter, among_range}
use Rattle.receiver_model.proofs.ReleaseLists.{planes_opened, keeps_opened}

module _ (r : Reception) (size : ℕ) (f : Feeder) (hs : List HeardSession) (p : WindowPast)
    (st : StandingSession) (t : Tally) (works : IsWorking r size f hs p st t)
    (n : ℕ) (next : first_of (releasable_numbers p) ≡ Some n) where
  abbrev s : Sequence
  s = p.sequence

  abbrev es : List Numbered
  es = p.entries

  abbrev heard : List HeardSession
  heard = sessions_of f.heard

  -- ---- the picture

  there : is_among (releasable_numbers p) n ≡ true
  there = grind (arith, first_and_rest)

  pub next_opened : is_opened es n ≡ true
  next_opened = (releasable_gone p works.window.in_order n there).0

  pub next_above : released_up_to (last_or None p.released) n ≡ false
  next_above = sym (released_is p works.window.in_order n next_opened)
      ∙ releasable_unreleased p works.window.in_order n there

  pub next_unreleased : has_released f n ≡ false
  next_unreleased =
      grind (arith, common_steps, next_opened, releasable_unreleased, released_parts, there)

  -- what a picture of the session keeps
  pub session_keeps : (m : ℕ) → is_opened es m ≡ true
      → picture_keeps size heard m ≡ own s (parts_of m es)
  session_keeps m opened = grind arith

  -- ---- the feeder decodes

  abbrev missing : List ℕ
  missing = unanswered f n (keeps_now size f n)

  abbrev pub now_decoded : List SliceAnswer
  now_decoded = redone size heard n missing f.decoded

  pub now_own : AreOwnAnswers size heard now_decoded
  now_own = redone_own size heard n missing f.decoded works.own

  of_kept : (m : ℕ) → is_opened es m ≡ true → (kept : Own)
      → (is : own s (parts_of m es) ≡ Some kept) → (decoded : List SliceAnswer)
      → AreOwnAnswers size heard decoded → AreOfKept s (parts_of m es) kept is m decoded
  of_kept m opened kept is decoded own = answers_of_kept size heard decoded own m kept
      (session_keeps m opened ∙ is)

  -- each slice of the picture has an answer then
  now_there : (kept : Own) → own s (parts_of n es) ≡ Some kept → has_all_slices kept ≡ true
      → (k : ℕ) → k < slice_count kept.plan.parameters
      → is_some (answer_in now_decoded n k) ≡ true
  unfolding has_all_slices
  now_there kept is complete k below = elim (cases_Bool (is_decoded f n k)) [
    | inl was ↦ redone_stays size heard n missing f.decoded k was
    | inr new ↦ redone_there size heard n missing f.decoded k
        (kept_job_there size heard n k kept (session_keeps n next_opened ∙ is)
        (all_at (λ i. is_some (own_slice kept i)) 0 (slice_count kept.plan.parameters) k complete
        (omega arith) (omega arith)))
        (ap (λ (o : Option Own). is_among (unanswered f n o) k) (session_keeps n next_opened ∙ is)
        ∙ among_filter (λ i. has_all_slices kept && not (is_decoded f n i)) (slice_numbers kept) k
        (among_range k (slice_count kept.plan.parameters) 0 (omega arith) (omega arith))
        (ap (λ (b : Bool). b && not (is_decoded f n k)) complete ∙ ap not new))
  ]

  -- so its planes by the answers are its planes
  pub built_now : built_planes now_decoded (entered_of p) n ≡ planes_at s es n
  unfolding planes_at
  built_now = by_own (own s (parts_of n es)) refl
    where
      by_all : (kept : Own) → (is : own s (parts_of n es) ≡ Some kept) → (b : Bool)
          → has_all_slices kept ≡ b
          → planes_by now_decoded n kept ≡ picture_planes s (parts_of n es)
      by_all kept is true at = answered_planes_ready s (parts_of n es) kept is n now_decoded
          (of_kept n next_opened kept is now_decoded now_own) at (now_there kept is at)
      by_all kept is false at =
          answered_planes_missing s (parts_of n es) kept is n now_decoded
          (of_kept n next_opened kept is now_decoded now_own) at
          ∙ sym (incomplete_planes s (parts_of n es) kept is at)

      by_own : (o : Option Own) → own s (parts_of n es) ≡ o
          → option_and_then (planes_by now_decoded n) o ≡ picture_planes s (parts_of n es)
      by_own None is = sym (no_own_planes s (parts_of n es) is)
      by_own (Some kept) is = by_all kept is (has_all_slices kept) refl

  -- planes by the answers are a picture's planes
  built_holds : (m : ℕ) (planes : Planes)
      → built_planes now_decoded (entered_of p) m ≡ Some planes → planes_at s es m ≡ Some planes
  unfolding planes_at
  built_holds m planes e = by_own (own s (parts_of m es)) refl e
    where
      by_own : (o : Option Own) → own s (parts_of m es) ≡ o
          → option_and_then (planes_by now_decoded m) o ≡ Some planes
          → picture_planes s (parts_of m es) ≡ Some planes
      by_own None is e = absurd (none-some planes e)
      by_own (Some kept) is e = answered_planes_hold s (parts_of m es) kept is m now_decoded
          (of_kept m (keeps_opened s es m kept is) kept is now_decoded now_own) planes e

  -- ---- the field before

  -- it waits, where it has planes
  waits : (m : ℕ) → m + 1 ≡ n → s.fields ≡ true → (m % 2 == 0) ≡ true → (planes : Planes)
      → planes_at s es m ≡ Some planes → r.field ≡ Some (as_first m planes)
  waits m before fields even planes is =
      let rest = first_and_rest (releasable_numbers p) n next in
      let was = planes_opened s es m planes is in
      let rises : AreRising 0 (p.released ++ (m + 1) ∷ rest.0) =
      subst (λ k. AreRising 0 (p.released ++ k ∷ rest.0)) (sym before)
      (subst (λ (l : List ℕ). AreRising 0 (p.released ++ l)) rest.1
      (released_rise p works.window.in_order)) in
      let last = just_before m 0 p.released rest.0 rises (was_released was rest.0 rest.1) in
      works.waiting
      ∙ ap (λ (l : List ℕ). (fields_behind s es l).waiting) last.1
      ∙ ap (λ (x : Fields). x.waiting) (fold_push (next_field s es) no_fields last.0 m)
      ∙ ap (λ (o : Option Planes). field_behind s m o) is
      ∙ ap (λ (b : Bool). cond (b && m % 2 == 0) (Some (as_first m planes)) None) fields
      ∙ ap (λ (b : Bool). cond b (Some (as_first m planes)) None) even
    where
      not_later : (rest : List ℕ) → releasable_numbers p ≡ n ∷ rest
          → is_among (releasable_numbers p) m ≡ false
      not_later rest is = false_from_ne_true (is_among (releasable_numbers p) m)
          (λ among. let low = among_rising m n (n ∷ rest) (
            omega arith,
            (rest_rises p.released 0 (subst (λ (l : List ℕ).
                AreRising 0 (p.released ++ l)) is (released_rise p works.window.in_order))).1,
          )
          (sym (ap (λ (l : List ℕ). is_among l m) is) ∙ among) in omega (arith, low, before))
        where
          rest_rises : (l : List ℕ) (b : ℕ) → AreRising b (l ++ n ∷ rest)
              → (b ≤ n) × AreRising (n + 1) rest
          rest_rises [] b rises = rises
          rest_rises (k ∷ l) b rises = let later = rest_rises l (k + 1) rises.1 in
              (omega (arith, later.0, rises.0), later.1)

      was_released : is_opened es m ≡ true → (rest : List ℕ) → releasable_numbers p ≡ n ∷ rest
          → is_among p.released m ≡ true
      was_released was rest is = grind (arith, not_later, gone_before, there)

  module _ (fields : s.fields ≡ true) (m : ℕ) (before : m + 1 ≡ n)
      (even : (m % 2 == 0) ≡ true) where
    -- the planes that the receiver has of it are its planes
    pub before_is : field_before r.field n ≡ planes_at s es m
    before_is = by_planes (planes_at s es m) refl
      where
        here : (w : FirstField) → w.number + 1 ≡ n → w.number ≡ m
        here w is = omega (arith, is, before)

        by_field : (o : Option FirstField) → r.field ≡ o → planes_at s es m ≡ None
            → field_before o n ≡ None
        by_field None at none = refl
        by_field (Some w) at none = elim (cases_eq (w.number + 1) n) [
          | inl same ↦ (let found = waiting_is s es w p.released (sym works.waiting ∙ at) in
              absurd (none-some w.planes (sym none
              ∙ ap (planes_at s es) (sym (here w same) ∙ found.2.number)
              ∙ found.2.planes_are)))
          | inr other ↦ cond-false (w.number + 1 == n) (Some w.planes) None
              (ne_eqb (w.number + 1) n other)
        ]

        by_planes : (o : Option Planes) → planes_at s es m ≡ o → field_before r.field n ≡ o
        by_planes (Some planes) at = grind (arith, waits)
        by_planes None at = by_field r.field refl at

    -- and so are those that the feeder makes of its answers
    others_same : (k : ℕ) → answer_in now_decoded m k ≡ answer_in f.decoded m k
    others_same = redone_others size heard n missing f.decoded m
        (λ same. omega (arith, same, before))

    pub built_before : built_planes now_decoded (entered_of p) m ≡ planes_at s es m
    built_before = by_planes (planes_at s es m) refl
      where
        none_built : planes_at s es m ≡ None → (o : Option Planes)
            → built_planes now_decoded (entered_of p) m ≡ o → o ≡ None
        none_built none None at = refl
        none_built none (Some planes) at = absurd (none-some planes (sym none
            ∙ built_holds m planes at))

        by_planes : (o : Option Planes) → planes_at s es m ≡ o
            → built_planes now_decoded (entered_of p) m ≡ o
        by_planes None at =
            none_built at (built_planes now_decoded (entered_of p) m) refl
        by_planes (Some planes) at =
            same_planes_by f.decoded now_decoded m others_same (own s (parts_of m es))
            ∙ sym (ap (option_and_then (planes_by f.decoded m))
            (session_keeps m (planes_opened s es m planes at)))
            ∙ works.first_field (as_first m planes) (waits m before fields even planes at)
