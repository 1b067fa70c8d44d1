-- The fields that were found to be alone one after another are the unpaired ones.
use Rattle.std.proofs.Common.{◌≡◌, ℕ, ◌+◌, ◌-◌, ◌%◌, ◌<◌, ◌≤◌, Bool, true, false, refl, ap, sym}
use Rattle.std.proofs.Common.{List, [], ◌∷◌, Option, Some, None, ◌∙◌, arith, cond, inl, inr}
use Rattle.std.specs.Prelude.{◌==◌, ◌&&◌, is_some, not, fold, count_by}
use Rattle.std.specs.Option.{option_map}
use Rattle.std.proofs.lemmas.Bool.{cases_Bool, cases_eq, cases_lt, cond-true, cond-false, eqb-true}
use Rattle.std.proofs.lemmas.Bool.{eq-eqb, ne_eqb, false≢true, both_ways, false_from_ne_true}
use Rattle.std.proofs.lemmas.Grind.{common_steps}
use Rattle.std.proofs.lemmas.List.Sums.{length-filter}
use Rattle.std.proofs.lemmas.Option.{none-some}
use Rattle.machine_model.specs.Feeders.{is_among}
use Rattle.link_model.specs.Judgement.{has_planes, partner, is_unpaired}
use Rattle.link_model.specs.Numbers.{Numbered}
use Rattle.link_model.specs.Output.{planes_at, woven_fields}
use Rattle.vc_types.specs.Planes.{Planes}
use Rattle.vc_types.specs.SequenceHeader.{Sequence}
use Rattle.receiver_model.specs.Receptions.{FirstField}
use Rattle.receiver_model.specs.Releasing.{as_first, field_before, field_behind}
use Rattle.receiver_model.specs.Releasing.{fields_alone, one_if}
use Rattle.receiver_model.specs.Standing.{Fields, no_fields, next_field, fields_behind}
use Rattle.receiver_model.proofs.ReleasedNumbers.{AreRising, among_rising}
use Rattle.receiver_model.proofs.WaitingFields.{first_is}

-- how many pass
count_first : (test : ℕ → Bool) (n : ℕ) (ns : List ℕ)
    → count_by test (n ∷ ns) ≡ one_if (test n) + count_by test ns
count_first test n ns = grind (arith, common_steps, length-filter)

module _ (s : Sequence) (es : List Numbered) where
  abbrev found : ℕ → Bool
  found n = is_some (planes_at s es n)

  abbrev after : Fields → List ℕ → Fields
  after x ns = fold (next_field s es) x ns

  -- ---- with frame coding there are none

  module _ (frames : s.fields ≡ false) where
    none_waits : (n : ℕ) (planes : Option Planes) → field_behind s n planes ≡ None
    none_waits n planes =
        ap (λ (b : Bool). cond (b && n % 2 == 0) (option_map (as_first n) planes) None) frames

    frames_after : (ns : List ℕ) (x : Fields) → x.waiting ≡ None
        → ((after x ns).alone ≡ x.alone) × ((after x ns).waiting ≡ None)
    frames_after [] x none = (refl, none)
    frames_after (n ∷ ns) x none =
        grind (arith, frames_after ns (next_field s es x n) (none_waits n (planes_at s es n)))

    none_unpaired : (ns : List ℕ) → count_by (is_unpaired s es) ns ≡ 0
    none_unpaired [] = omega (arith, length-filter (is_unpaired s es) [])
    none_unpaired (n ∷ ns) = grind (arith, count_first, none_unpaired ns)

  -- ---- with field coding

  module _ (coding : s.fields ≡ true) where
    -- whether a field that waits stays alone
    abbrev debt : Option FirstField → ℕ
    debt None = 0
    debt (Some w) = one_if (not (found (w.number + 1)))

    unpaired_is : (n : ℕ) → is_unpaired s es n ≡ (found n && not (found (partner n)))
    unpaired_is n =
        ap (λ (b : Bool). b && has_planes s es n && not (has_planes s es (partner n))) coding

    alone_is : (w : Option FirstField) (n : ℕ) → fields_alone s w n (planes_at s es n)
        ≡ cond (is_some (cond (n % 2 == 1)
        (woven_fields s.top_first (field_before w n) (planes_at s es n)) None)) 0
        (one_if (is_some w) + one_if (n % 2 == 1 && found n))
    alone_is w n = grind arith

    behind_is : (n : ℕ) → field_behind s n (planes_at s es n)
        ≡ cond (n % 2 == 0) (option_map (as_first n) (planes_at s es n)) None
    behind_is n = ap (λ (b : Bool). cond (b && n % 2 == 0)
        (option_map (as_first n) (planes_at s es n)) None) coding

    no_frame : (b : Bool) (o : Option Planes) → is_some (woven_fields b None o) ≡ false
    no_frame b None = refl
    no_frame b (Some planes) = refl

    a_frame : (b : Bool) (first : Planes) (o : Option Planes)
        → is_some (woven_fields b (Some first) o) ≡ is_some o
    a_frame b first None = refl
    a_frame b first (Some planes) = refl

    -- after the pictures before a number, of which these are left
    record IsReady (bound : ℕ) (ns : List ℕ) (w : Option FirstField) : Type 0 where
      pub rises : AreRising bound ns
      pub left : (k : ℕ) → bound ≤ k → found k ≡ true → is_among ns k ≡ true
      pub waits : (v : FirstField) → w ≡ Some v
          → (v.number + 1 ≡ bound) × (planes_at s es v.number ≡ Some v.planes)
          × ((v.number % 2 == 0) ≡ true)
      pub waited : (k : ℕ) → k + 1 ≡ bound → (k % 2 == 0) ≡ true → found k ≡ true
          → is_some w ≡ true

    -- what isn't left has no planes
    missing : (bound n : ℕ) (ns : List ℕ) (w : Option FirstField) → IsReady bound (n ∷ ns) w
        → (k : ℕ) → bound ≤ k → k < n → found k ≡ false
    missing bound n ns w ready k from less = grind (arith, among_rising, from)

    -- what n is, by its parity
    abbrev alone_by : Bool → Option FirstField → ℕ → Option Planes → ℕ
    alone_by odd w n planes = cond (is_some (cond odd
        (woven_fields s.top_first (field_before w n) planes) None)) 0
        (one_if (is_some w) + one_if (odd && is_some planes))

    -- a first field that waits is alone, where a later one comes that isn't its second
    module _ (bound n : ℕ) (ns : List ℕ) (w : Option FirstField)
        (ready : IsReady bound (n ∷ ns) w) where
      owes : (m : ℕ) → m + 1 ≡ bound → bound < n → one_if (not (found (m + 1))) ≡ 1
      owes m at less = ap (λ (b : Bool). one_if (not b))
          (missing bound n ns w ready (m + 1) (omega (arith, at)) (omega (arith, at, less)))

      from : bound ≤ n
      from = ready.rises.0

      -- an even one
      module _ (even : (n % 2 == 0) ≡ true) where
        is_even : n % 2 ≡ 0
        is_even = eqb-true (n % 2) 0 even

        odd_not : (n % 2 == 1) ≡ false
        odd_not = ne_eqb (n % 2) 1 (λ e. omega (arith, e, is_even))

        debt_now : debt (option_map (as_first n) (planes_at s es n))
            ≡ one_if (found n && not (found (n + 1)))
        debt_now = grind arith

        debt_before : one_if (is_some w) ≡ debt w
        debt_before = by_field w refl
          where
            by_field : (o : Option FirstField) → w ≡ o → one_if (is_some o) ≡ debt o
            by_field None is = refl
            by_field (Some v) is =
                let waits = ready.waits v is in
                let low : v.number % 2 ≡ 0 = eqb-true (v.number % 2) 0 waits.2 in
                sym (owes v.number waits.0 (omega (arith, from, waits.0, low, is_even)))

        even_step : fields_alone s w n (planes_at s es n)
            + debt (field_behind s n (planes_at s es n)) ≡ one_if (is_unpaired s es n) + debt w
        even_step = grind (arith, alone_is, behind_is, debt_before, debt_now, odd_not, unpaired_is)

      -- an odd one
      module _ (odd : (n % 2 == 1) ≡ true) where
        is_odd : n % 2 ≡ 1
        is_odd = eqb-true (n % 2) 1 odd

        even_not : (n % 2 == 0) ≡ false
        even_not = ne_eqb (n % 2) 0 (λ e. omega (arith, e, is_odd))

        -- the field before has no planes, unless it waits
        none_before : (bound ≡ n → is_some w ≡ false) → found (n - 1) ≡ false
        none_before alone = elim (cases_lt bound n) [
          | inl less ↦ missing bound n ns w ready (n - 1) (omega (arith, less))
              (omega (arith, is_odd))
          | inr more ↦ (let same : bound ≡ n = omega (arith, more, from) in
              false_from_ne_true (found (n - 1)) (λ is. both_ways (is_some w) (alone same)
              (ready.waited (n - 1) (omega (arith, same, is_odd))
              (eq-eqb ((n - 1) % 2) 0 (omega (arith, is_odd))) is)))
        ]

        -- nothing is woven: what waited is alone, and so is this one
        unwoven : field_before w n ≡ None → one_if (is_some w) ≡ debt w
            → found (n - 1) ≡ false
            → alone_by true w n (planes_at s es n)
            ≡ one_if (found n && not (found (n - 1))) + debt w
        unwoven none owed missing = grind (arith, missing, no_frame)

        by_field : (o : Option FirstField) → w ≡ o → alone_by true w n (planes_at s es n)
            ≡ one_if (found n && not (found (n - 1))) + debt w
        by_field None is = grind (arith, none_before, unwoven)
        by_field (Some v) is = elim (cases_eq (v.number + 1) n) [
          | inl second ↦ woven second
          | inr other ↦ (let waits = ready.waits v is in
              let less : bound < n = omega (arith, from, waits.0, other) in
              unwoven (ap (λ (v : Option FirstField). field_before v n) is
              ∙ cond-false (v.number + 1 == n) (Some v.planes) None
              (ne_eqb (v.number + 1) n other))
              (ap (λ (v : Option FirstField). one_if (is_some v)) is
              ∙ sym (owes v.number waits.0 less) ∙ sym (ap debt is))
              (none_before (λ same. absurd (omega (arith, same, less)))))
        ]
          where
            woven : v.number + 1 ≡ n → alone_by true w n (planes_at s es n)
                ≡ one_if (found n && not (found (n - 1))) + debt w
            woven second =
                let waits = ready.waits v is in
                let low : v.number ≡ n - 1 = omega (arith, second) in
                let first : found (n - 1) ≡ true =
                ap found (sym low) ∙ ap (λ (o : Option Planes). is_some o) waits.1 in
                ap (λ (u : Option FirstField). alone_by true u n (planes_at s es n)) is
                ∙ ap (λ (o : Option Planes). cond (is_some (woven_fields s.top_first o
                (planes_at s es n))) 0 (1 + one_if (true && found n)))
                (cond-true (v.number + 1 == n) (Some v.planes) None
                (eq-eqb (v.number + 1) n second))
                ∙ ap (λ (b : Bool). cond b 0 (1 + one_if (found n)))
                (a_frame s.top_first v.planes (planes_at s es n))
                ∙ by_second (found n)
                ∙ sym (ap (λ (b : Bool). one_if (found n && not b) + one_if (not (found n))) first)
                ∙ ap (λ k. one_if (found n && not (found (n - 1))) + one_if (not (found k)))
                (sym second)
                ∙ sym (ap (λ (u : Option FirstField).
                one_if (found n && not (found (n - 1))) + debt u) is)
              where
                by_second : (b : Bool) → cond b 0 (1 + one_if b)
                    ≡ one_if (b && not true) + one_if (not b)
                by_second true = refl
                by_second false = refl

        odd_step : fields_alone s w n (planes_at s es n)
            + debt (field_behind s n (planes_at s es n)) ≡ one_if (is_unpaired s es n) + debt w
        odd_step = grind (arith, alone_is, behind_is, by_field, even_not, unpaired_is)

      step : fields_alone s w n (planes_at s es n) + debt (field_behind s n (planes_at s es n))
          ≡ one_if (is_unpaired s es n) + debt w
      step = grind (arith, even_step, odd_step)

      ready_behind : IsReady (n + 1) ns (field_behind s n (planes_at s es n))
      ready_behind = grind (arith, behind_is, first_is, from)

    fields_after : (ns : List ℕ) (bound : ℕ) (x : Fields) → IsReady bound ns x.waiting
        → (after x ns).alone + one_if (is_some (after x ns).waiting)
        ≡ x.alone + count_by (is_unpaired s es) ns + debt x.waiting
    fields_after [] bound x ready =
        omega (arith, length-filter (is_unpaired s es) [], owed x.waiting refl)
      where
        owed : (o : Option FirstField) → x.waiting ≡ o → one_if (is_some o) ≡ debt o
        owed None is = refl
        owed (Some v) is = sym (ap (λ (b : Bool). one_if (not b))
            (false_from_ne_true (found (v.number + 1)) (λ there.
            false≢true (ready.left (v.number + 1) (omega (arith, (ready.waits v is).0)) there))))
    fields_after (n ∷ ns) bound x ready =
        omega (
          arith,
          fields_after ns (n + 1) (next_field s es x n) (ready_behind bound n ns x.waiting ready),
          step bound n ns x.waiting ready,
          count_first (is_unpaired s es) n ns,
        )

  -- once all pictures were released
  pub all_fields : (ns : List ℕ) → AreRising 0 ns
      → ((k : ℕ) → found k ≡ true → is_among ns k ≡ true)
      → (fields_behind s es ns).alone + one_if (is_some (fields_behind s es ns).waiting)
      ≡ count_by (is_unpaired s es) ns
  all_fields ns rises all = elim (cases_Bool s.fields) [
    | inl coding ↦ fields_after coding ns 0 no_fields (record {
      rises = rises;
      left = λ k above is. all k is;
      waits = λ v none. absurd (none-some v none);
      waited = λ k at even is. absurd (omega (arith, at));
    }) ∙ omega arith
    | inr frames ↦ (let plain = frames_after frames ns no_fields refl in
        omega (
          arith,
          plain.0,
          ap (λ (o : Option FirstField). one_if (is_some o)) plain.1,
          none_unpaired frames ns,
        ))
  ]
