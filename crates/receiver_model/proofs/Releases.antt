-- A release: what the receiver writes of a picture is its frame, and so is what the feeder writes.
use Rattle.std.proofs.Common.{◌≡◌, ℕ, ◌+◌, ◌-◌, ◌%◌, Bool, true, false, refl, ap, sym, List, []}
use Rattle.std.proofs.Common.{◌∷◌, ◌++◌, Option, Some, None, ◌∙◌, arith, cond}
use Rattle.std.specs.Prelude.{◌==◌}
use Rattle.std.specs.List.{flat_map}
use Rattle.std.specs.Option.{option_and_then, option_map, option_map_or}
use Rattle.std.proofs.lemmas.Bool.{eqb-true, eq-eqb, or_parts}
use Rattle.std.proofs.lemmas.List.{append_assoc, append-nil}
use Rattle.std.proofs.lemmas.List.Concat.{flat_map-append}
use Rattle.std.proofs.lemmas.List.Sums.{fold_push, fold-append}
use Rattle.machine_model.specs.Feeders.{Feeder, SliceAnswer, picture_keeps, heard_pictures, answer_in}
use Rattle.machine_model.specs.Feeders.{has_released, keeps_now}
use Rattle.machine_model.specs.Feeding.{built_planes, frame_of}
use Rattle.link_model.specs.Kept.{own}
use Rattle.machine_model.specs.Next.{feeder_run, unanswered, releasing}
use Rattle.link_model.specs.Numbers.{Numbered, is_opened, parts_of}
use Rattle.link_model.specs.Output.{planes_at, frame_at, frame_bytes_at, all_output, woven_fields}
use Rattle.link_model.specs.Session.{HeardSession, sessions_of}
use Rattle.link_model.specs.Windows.{WindowPast, past_releases, releasable_numbers, first_of}
use Rattle.link_model.specs.Windows.{as_releasable, releases, Releasable, next_release}
use Rattle.link_model.specs.declared.tally.Tally.{Tally}
use Rattle.link_model.proofs.WindowStands.{next_is, releases_stands}
use Rattle.vc_types.specs.Planes.{Planes}
use Rattle.vc_types.specs.SequenceHeader.{Sequence}
use Rattle.receiver_model.specs.Receptions.{StandingSession, Reception, FirstField}
use Rattle.receiver_model.specs.Receptions.{answers_at, kept_answer, answers_without}
use Rattle.receiver_model.specs.Releasing.{released_planes, book_planes, released_frame}
use Rattle.receiver_model.specs.Releasing.{field_behind, counts_released}
use Rattle.receiver_model.specs.Releasing.{forgets_picture, releases_from, releases_picture_of}
use Rattle.receiver_model.specs.Releasing.{released_bytes, next_picture}
use Rattle.receiver_model.specs.Standing.{HasSlots, answered_planes, with_released, past_fields}
use Rattle.receiver_model.specs.Standing.{past_counts}
use Rattle.receiver_model.proofs.AnsweredPictures.{book_planes_are}
use Rattle.receiver_model.proofs.KeptAnswers.{without_own, without_others}
use Rattle.receiver_model.proofs.Redone.{answers_of_kept, redone, redone_others, redo_run}
use Rattle.receiver_model.proofs.SessionPictures.{among_append}
use Rattle.receiver_model.proofs.WaitingFields.{first_is}
use Rattle.receiver_model.proofs.Working.{IsWorking, entered_of, book_of_unreleased}
use Rattle.receiver_model.proofs.BuiltPictures.{next_opened, next_above, next_unreleased}
use Rattle.receiver_model.proofs.BuiltPictures.{session_keeps, now_own, built_now, before_is}
use Rattle.receiver_model.proofs.BuiltPictures.{built_before}
use Rattle.receiver_model.proofs.ReleaseLists.{count_push}

module _ (r : Reception) (size : ℕ) (f : Feeder) (hs : List HeardSession) (p : WindowPast)
    (st : StandingSession) (t : Tally) (works : IsWorking r size f hs p st t)
    (n : ℕ) (next : first_of (releasable_numbers p) ≡ Some n) where
  abbrev s : Sequence
  s = p.sequence

  abbrev es : List Numbered
  es = p.entries

  abbrev heard : List HeardSession
  heard = sessions_of f.heard

  abbrev missing : List ℕ
  missing = unanswered f n (keeps_now size f n)

  abbrev pub now_decoded : List SliceAnswer
  now_decoded = redone size heard n missing f.decoded

  opened : is_opened es n ≡ true
  opened = next_opened r size f hs p st t works n next

  keeps_is : (m : ℕ) → is_opened es m ≡ true
      → picture_keeps size heard m ≡ own s (parts_of m es)
  keeps_is = session_keeps r size f hs p st t works n next

  built_is : built_planes now_decoded (entered_of p) n ≡ planes_at s es n
  built_is = built_now r size f hs p st t works n next

  -- ---- the frame

  even_before : (n % 2 == 1) ≡ true → (m : ℕ) × (m + 1 ≡ n) × ((m % 2 == 0) ≡ true)
  even_before odd = let one : n % 2 ≡ 1 = eqb-true (n % 2) 1 odd in
      (n - 1, omega (arith, one), eq-eqb ((n - 1) % 2) 0 (omega (arith, one)))

  abbrev frame_with : Option Planes → Option Planes
  frame_with before = woven_fields s.top_first before (planes_at s es n)

  -- of the receiver's planes
  released_frame_is : released_frame s r.field n (planes_at s es n) ≡ frame_at s es n
  unfolding frame_at
  released_frame_is = grind (arith, before_is)

  -- and of the feeder's answers
  built_frame_is : frame_of (built_planes now_decoded (entered_of p)) s n ≡ frame_at s es n
  unfolding frame_at
  built_frame_is =
      ap (λ (o : Option Planes). cond s.fields (cond (n % 2 == 1)
      (woven_fields s.top_first (built_planes now_decoded (entered_of p) (n - 1)) o) None) o)
      built_is
      ∙ by_mode s.fields refl (n % 2 == 1) refl
    where
      by_mode : (fields : Bool) → s.fields ≡ fields → (odd : Bool) → (n % 2 == 1) ≡ odd
          → cond fields (cond odd (frame_with (built_planes now_decoded (entered_of p) (n - 1)))
          None) (planes_at s es n)
          ≡ cond fields (cond odd (frame_with (planes_at s es (n - 1))) None) (planes_at s es n)
      by_mode false coding odd is = refl
      by_mode true coding false is = refl
      by_mode true coding true is =
          let found = even_before is in
          let here : found.0 ≡ n - 1 = omega (arith, found.1) in
          ap frame_with (ap (built_planes now_decoded (entered_of p)) (sym here)
          ∙ built_before r size f hs p st t works n next coding found.0 found.1 found.2
          ∙ ap (planes_at s es) here)

  -- ---- what the receiver makes of the picture

  planes_are : released_planes r.answers st.window n ≡ planes_at s es n
  unfolding planes_at
  planes_are =
      ap (option_and_then (book_planes r.answers n))
      (book_of_unreleased r size f hs p st t works n opened
      (next_above r size f hs p st t works n next))
      ∙ book_planes_are s (parts_of n es) n r.answers
      (λ kept is k d at. (answers_of_kept size heard f.decoded works.own n kept
      (keeps_is n opened ∙ is) k d (sym (works.answers n k
      (next_unreleased r size f hs p st t works n next)) ∙ at)).1)

  abbrev picture : Releasable
  picture = as_releasable p n

  abbrev pub receiver_then : Reception
  receiver_then = forgets_picture r st picture (released_planes r.answers st.window n)

  pub next_picture_is : next_picture r ≡ Some picture
  next_picture_is =
      ap (option_and_then (λ (st : StandingSession). next_release st.window)) works.stands
      ∙ next_is st.window p works.window
      ∙ ap (option_map (as_releasable p)) next

  pub receiver_then_is : releases_picture_of r picture ≡ receiver_then
  receiver_then_is = ap (λ (o : Option StandingSession).
      option_map_or (releases_from r picture) o r) works.stands

  pub bytes_are : released_bytes r picture ≡ frame_bytes_at s es n
  unfolding frame_bytes_at
  bytes_are = grind (arith, planes_are, released_frame_is)

  -- ---- what the feeder makes of it

  abbrev pub feeder_then : Feeder
  feeder_then = record f {
    decoded = now_decoded;
    released = f.released ++ n ∷ [];
    written = f.written ++ frame_bytes_at s es n;
  }

  pub feeder_then_is : feeder_run size f (releasing size f n) ≡ feeder_then
  unfolding frame_bytes_at
  feeder_then_is = grind (arith, built_frame_is, fold-append, opened, redo_run)

  -- ---- the counts

  counts_are : counts_released (past_counts p t) s (past_fields p).waiting picture
      (planes_at s es n) ≡ past_counts (past_releases p n) t
  unfolding with_released
  counts_are = grind (arith, count_push, fold_push, released_frame_is)

  -- ---- the receiver goes on

  abbrev pub standing_then : StandingSession
  standing_then = record st { window = releases st.window n }

  written_then : f.written ++ frame_bytes_at s es n
      ≡ all_output size hs ++ flat_map (frame_bytes_at s es) (p.released ++ n ∷ [])
  written_then = grind (arith, append-nil, append_assoc, flat_map-append)

  answers_then : (m i : ℕ) → has_released feeder_then m ≡ false
      → kept_answer (answers_without r.answers n) m i ≡ answer_in now_decoded m i
  answers_then m i stays = grind (arith, among_append, or_parts, redone_others, without_others)

  room_then : (m : ℕ) → HasSlots size heard m (answers_at (answers_without r.answers n) m)
  room_then m = grind (arith, without_others, without_own)

  field_then : (w : FirstField)
      → field_behind st.session.sequence n (released_planes r.answers st.window n) ≡ Some w
      → answered_planes size heard now_decoded w.number ≡ Some w.planes
  field_then w is = grind (arith, built_is, first_is, keeps_is, opened, planes_are)

  waiting_then : field_behind st.session.sequence n (released_planes r.answers st.window n)
      ≡ (past_fields (past_releases p n)).waiting
  waiting_then = grind (arith, fold_push, planes_are)

  counted_then : counts_released r.counts st.session.sequence r.field picture
      (released_planes r.answers st.window n) ≡ past_counts (past_releases p n) t
  counted_then = grind (arith, counts_are, planes_are)

  pub works_then : IsWorking receiver_then size feeder_then hs (past_releases p n) standing_then t
  works_then = record {
    open_pictures = works.open_pictures;
    ended = works.ended;
    stands = refl;
    sequence = works.sequence;
    window = releases_stands st.window p works.window n next;
    let_go = works.let_go;
    released = ap (λ (l : List ℕ). l ++ n ∷ []) works.released
        ∙ append_assoc (heard_pictures size hs) p.released (n ∷ []);
    opened = works.opened;
    others = works.others;
    apart = works.apart;
    written = written_then;
    own = now_own r size f hs p st t works n next;
    answers = answers_then;
    room = room_then;
    first_field = field_then;
    waiting = waiting_then;
    counted = counted_then;
  }
