-- A release: the pictures that a receiver of units writes are those of the frame that its last
-- picture completes.
use Rattle.std.proofs.Common.{◌≡◌, ℕ, ◌+◌, ◌-◌, ◌%◌, Bool, true, false, refl, ap, sym, ◌∙◌}
use Rattle.std.proofs.Common.{List, [], ◌∷◌, Option, Some, None, cond, arith, inl, inr}
use Rattle.std.specs.Prelude.{◌==◌, is_some, unwrap_or}
use Rattle.std.specs.Option.{option_and_then}
use Rattle.std.proofs.lemmas.Bool.{false≢true, eqb-true, cases_Bool}
use Rattle.link_model.specs.Books.{book_whole}
use Rattle.link_model.specs.Complete.{whole_picture}
use Rattle.machine_model.specs.Feeders.{Feeder}
use Rattle.link_model.specs.Judgement.{has_frame}
use Rattle.link_model.specs.Numbers.{Numbered, parts_of}
use Rattle.link_model.specs.Output.{planes_at, frame_at, woven_fields}
use Rattle.link_model.specs.Session.{HeardSession}
use Rattle.link_model.specs.Windows.{WindowPast, releasable_numbers, first_of, as_releasable}
use Rattle.link_model.specs.declared.tally.Tally.{Tally}
use Rattle.link_model.proofs.Bookkeeping.{book_whole_is}
use Rattle.receiver_model.specs.Receptions.{StandingSession, Reception, FirstField}
use Rattle.receiver_model.specs.Releasing.{released_planes, released_frame, field_before}
use Rattle.receiver_model.specs.Releasing.{field_behind, one_if}
use Rattle.receiver_model.specs.Standing.{with_released}
use Rattle.receiver_model.proofs.BuiltPictures.{next_opened, next_above}
use Rattle.receiver_model.proofs.ReleaseLists.{count_push}
use Rattle.receiver_model.proofs.Releases.{works_then}
use Rattle.receiver_model.proofs.WaitingFields.{first_is, waiting_is}
use Rattle.receiver_model.proofs.Working.{IsWorking, book_of_unreleased}
use Rattle.stream_model.specs.Streams.{picture_unit, picture_unit_at, frame_units}
use Rattle.vc_types.specs.Planes.{Planes}
use Rattle.vc_types.specs.SequenceHeader.{Sequence}
use Rattle.link_pictures.specs.Writing.{WrittenStream, ReleasedPicture, released_pictures}
use Rattle.link_pictures.specs.Writing.{field_unit, writes_picture, behind_picture, picture_bytes}
use Rattle.link_pictures.specs.Writing.{bytes_next}
use Rattle.link_pictures.specs.Receiving.{picture_from, whole_in, streams_picture, streamed_bytes}
use Rattle.link_pictures.specs.Standing.{waiting_bytes}

same_ones : (a b : Bool) → one_if a ≡ one_if b → a ≡ b
same_ones a b e = grind arith

-- a picture that has planes is whole
planes_whole : (s : Sequence) (es : List Numbered) (n : ℕ) → is_some (planes_at s es n) ≡ true
    → is_some (whole_picture s (parts_of n es)) ≡ true
unfolding planes_at
planes_whole s es n has = grind arith

is_there : {X : Type 0} (o : Option X) → is_some o ≡ true → (x : X) × (o ≡ Some x)
is_there None e = absurd (false≢true e)
is_there (Some x) e = (x, refl)

-- a frame of two fields has both
both_there : (top_first : Bool) (a b : Option Planes) → is_some (woven_fields top_first a b) ≡ true
    → is_some a ≡ true
both_there top_first None b e = absurd (false≢true e)
both_there top_first (Some x) b e = refl

module _ (r : Reception) (size : ℕ) (f : Feeder) (hs : List HeardSession) (p : WindowPast)
    (st : StandingSession) (t : Tally) (works : IsWorking r size f hs p st t)
    (n : ℕ) (next : first_of (releasable_numbers p) ≡ Some n) where
  abbrev s : Sequence
  s = p.sequence

  abbrev es : List Numbered
  es = p.entries

  abbrev planes : Option Planes
  planes = released_planes r.answers st.window n

  abbrev frame : Option Planes
  frame = released_frame st.session.sequence r.field n planes

  abbrev of_receiver : ReleasedPicture
  of_receiver = picture_from r n st

  whole_is : whole_in st.window n ≡ whole_picture s (parts_of n es)
  whole_is =
      ap (option_and_then book_whole) (book_of_unreleased r size f hs p st t works n
      (next_opened r size f hs p st t works n next) (next_above r size f hs p st t works n next))
      ∙ book_whole_is s (parts_of n es)

  -- the receiver counts a frame exactly where there is one
  counted_frame : one_if (is_some frame) ≡ one_if (has_frame s es n)
  unfolding with_released
  counted_frame =
      let then = ap (λ (c : Tally). c.frames) (works_then r size f hs p st t works n next).counted in
      let before = ap (λ (c : Tally). c.frames) works.counted in
      omega (arith, then, before, count_push (has_frame s es) p.released n)

  frame_is : is_some frame ≡ is_some (frame_at s es n)
  frame_is = same_ones (is_some frame) (is_some (frame_at s es n)) counted_frame

  -- the bytes of a first field, as it waits
  field_is : (o : Option FirstField) → field_behind st.session.sequence n planes ≡ o
      → cond (is_some o) (whole_in st.window n) None ≡ waiting_bytes s es o
  field_is o is = grind (arith, first_is, whole_is)

  -- without field coding none waits
  none_waits : s.fields ≡ false → r.field ≡ None
  none_waits frames = by_field r.field refl
    where
      by_field : (o : Option FirstField) → r.field ≡ o → o ≡ None
      by_field None is = refl
      by_field (Some w) is =
          let one = waiting_is s es w p.released (sym works.waiting ∙ is) in
          absurd (false≢true (sym frames ∙ one.2.fields))

  module _ (w : WrittenStream) (stands : w.field ≡ waiting_bytes s es r.field) where
    -- the first field of a frame
    first_units : s.fields ≡ true → is_some (frame_at s es n) ≡ true
        → field_unit (n - 1) w.field ≡ picture_unit_at s es (n - 1) ∷ []
    unfolding frame_at
    first_units coding there = by_odd (n % 2 == 1) refl
        (sym (ap (λ (b : Bool). is_some (cond b (cond (n % 2 == 1)
        (woven_fields s.top_first (planes_at s es (n - 1)) (planes_at s es n)) None)
        (planes_at s es n))) coding) ∙ there)
        (sym (ap (λ (q : Sequence). is_some (cond q.fields (cond (n % 2 == 1)
        (woven_fields q.top_first (field_before r.field n) planes) None) planes)) works.sequence
        ∙ ap (λ (b : Bool). is_some (cond b (cond (n % 2 == 1)
        (woven_fields s.top_first (field_before r.field n) planes) None) planes)) coding)
        ∙ frame_is ∙ there)
      where
        by_field : (o : Option FirstField) → r.field ≡ o
            → is_some (field_before o n) ≡ true → w.field ≡ whole_picture s (parts_of (n - 1) es)
        by_field None is e = absurd (false≢true e)
        by_field (Some first) is e = elim (cases_Bool (first.number + 1 == n)) [
          | inl same ↦ (let here : first.number ≡ n - 1 =
              omega (arith, eqb-true (first.number + 1) n same) in
              stands ∙ ap (waiting_bytes s es) is
              ∙ ap (λ k. whole_picture s (parts_of k es)) here)
          | inr other ↦ absurd (false≢true (sym (ap (λ (b : Bool).
              is_some (cond b (Some first.planes) None)) other) ∙ e))
        ]

        by_odd : (odd : Bool) → (n % 2 == 1) ≡ odd
            → is_some (cond odd
            (woven_fields s.top_first (planes_at s es (n - 1)) (planes_at s es n)) None) ≡ true
            → is_some (cond odd
            (woven_fields s.top_first (field_before r.field n) planes) None) ≡ true
            → field_unit (n - 1) w.field ≡ picture_unit_at s es (n - 1) ∷ []
        by_odd false is entered received = absurd (false≢true entered)
        by_odd true is entered received =
            let here = by_field r.field refl
            (both_there s.top_first (field_before r.field n) planes received) in
            let found = is_there (whole_picture s (parts_of (n - 1) es))
            (planes_whole s es (n - 1) (both_there s.top_first (planes_at s es (n - 1))
            (planes_at s es n) entered)) in
            ap (field_unit (n - 1)) (here ∙ found.1)
            ∙ ap (λ (o : Option (List ℕ)). picture_unit (n - 1) (unwrap_or o []) ∷ [])
            (sym found.1)

    -- what is written is the frame's pictures
    pub pictures_are : released_pictures w of_receiver ≡ frame_units s es n
    unfolding frame_units
    pictures_are = grind (arith, first_units, frame_is, none_waits, whole_is)

    -- behind the release
    module _ (on : w.is_over ≡ false) where
      pub stream_then : streams_picture r (as_releasable p n) w ≡ behind_picture w of_receiver
      unfolding writes_picture
      stream_then = grind arith

      pub bytes_then : streamed_bytes r (as_releasable p n) w ≡ bytes_next w (frame_units s es n)
      unfolding picture_bytes
      bytes_then = grind (arith, pictures_are)

      pub field_then : (behind_picture w of_receiver).field
          ≡ waiting_bytes s es (field_behind st.session.sequence n planes)
      field_then = field_is (field_behind st.session.sequence n planes) refl
