-- A receiver that stands for what was heard goes to work as a datagram or the end comes.
use Rattle.std.proofs.Common.{◌≡◌, ℕ, ◌-◌, ◌%◌, ◌≤◌, true, false, refl, ap, sym}
use Rattle.std.proofs.Common.{List, [], ◌∷◌, ◌++◌, Option, Some, None, subst, ◌∙◌, arith, cond}
use Rattle.std.specs.Prelude.{◌==◌, ◌⊎◌, is_some, filter_map}
use Rattle.std.specs.List.{flat_map}
use Rattle.std.specs.Option.{option_map}
use Rattle.std.proofs.lemmas.Grind.{common_steps}
use Rattle.std.proofs.lemmas.List.{append-nil}
use Rattle.machine_model.specs.Feeders.{Feeder, session_opening}
use Rattle.machine_model.specs.Feeders.{heard_pictures, let_go_pictures, is_among, EnteredSession}
use Rattle.machine_model.specs.Feeding.{hears_datagram, hears_end}
use Rattle.link_model.specs.Judgement.{outcome_behind, outcomes_in, outcome_counts, with_outcome}
use Rattle.link_model.specs.Judgement.{with_sessions}
use Rattle.link_model.specs.Numbers.{Numbered, base_above, greatest, least, parts_of}
use Rattle.link_model.specs.Numbers.{opened_numbers}
use Rattle.link_model.specs.Output.{complete_at, planes_at, frame_at, frame_bytes_at, is_let_go}
use Rattle.link_model.specs.Output.{let_go_numbers, frames_so_far, all_output, last_so_far}
use Rattle.link_model.specs.Output.{output_so_far, entered_behind, greatest_of, woven_fields}
use Rattle.link_model.specs.Session.{Session, Fragment, HeardSession, just_opened, with_datagram}
use Rattle.link_model.specs.Session.{hears, sessions_of, opens_behind, begins, fragment_in}
use Rattle.link_model.specs.Windows.{WindowPast, StandsForPast, past_let_go, session_past}
use Rattle.link_model.specs.Windows.{past_finishes, window_enters}
use Rattle.link_model.specs.declared.tally.Tally.{Tally}
use Rattle.link_model.proofs.Counting.{counts_more}
use Rattle.link_model.proofs.Hearing.{sessions_of_more, hears_new, hears_on}
use Rattle.link_model.proofs.Numbering.{Follows, entered_follows}
use Rattle.link_model.proofs.Releasing.{whole_same, planes_same, frame_same, let_go_before}
use Rattle.link_model.proofs.WindowNumbers.{session_enters, session_stays}
use Rattle.link_model.proofs.WindowStands.{enters_stands, finishes_stands}
use Rattle.vc_types.specs.Planes.{Planes}
use Rattle.receiver_model.specs.Judging.{session_opened, opens_after, stands_on, goes_on}
use Rattle.receiver_model.specs.Judging.{enters_window, is_over, keeps_datagram, ends_input, judged}
use Rattle.receiver_model.specs.Receptions.{StandingSession, Reception, FirstField, answers_at}
use Rattle.receiver_model.specs.Standing.{StandsFor, standing_of, standing_with}
use Rattle.receiver_model.specs.Standing.{all_released, last_past, HasSlots}
use Rattle.machine_model.specs.Interleavings.{AreOwnAnswers}
use Rattle.receiver_model.specs.Standing.{answered_planes, past_fields, past_counts, Fields}
use Rattle.receiver_model.proofs.HeardMore.{written_of, own_stays, room_stays, planes_stay, of_last}
use Rattle.receiver_model.proofs.HeardMore.{of_others, not_before}
use Rattle.receiver_model.proofs.JudgedOutcomes.{resting_stands, opens_same, judged_is}
use Rattle.receiver_model.proofs.ReleasedNumbers.{released_gone}
use Rattle.receiver_model.proofs.SessionPictures.{session_opens}
use Rattle.receiver_model.proofs.Tallies.{released_outcome, sessions_outcome, fields_same}
use Rattle.receiver_model.proofs.Tallies.{released_same}
use Rattle.receiver_model.proofs.Working.{IsWorking}

-- ---- a receiver at rest

abbrev pub tally_behind : ℕ → List HeardSession → List (List ℕ) → Tally
tally_behind size hs heard = with_sessions size hs (outcome_counts (outcomes_in size heard))

module _ (r : Reception) (size : ℕ) (small : size ≤ 8) (f : Feeder) (stands : StandsFor r size f)
    (runs : f.has_ended ≡ false) (h : HeardSession) (hs : List HeardSession)
    (at : sessions_of f.heard ≡ h ∷ hs) where
  abbrev pub past_at_rest : WindowPast
  past_at_rest = all_released (last_past size false hs h)

  abbrev pub st_at_rest : StandingSession
  st_at_rest = standing_with h past_at_rest

  pub standing_at_rest : r.standing ≡ Some st_at_rest
  standing_at_rest = grind arith

  field_at_rest : r.field ≡ (past_fields past_at_rest).waiting
  field_at_rest = grind arith

  counts_at_rest : r.counts ≡ past_counts past_at_rest (tally_behind size hs f.heard)
  counts_at_rest = grind arith

  let_go_at_rest : let_go_pictures size f.has_ended (sessions_of f.heard)
      ≡ heard_pictures size hs ++ past_let_go past_at_rest
  unfolding let_go_pictures
  let_go_at_rest = grind arith

  written_at_rest : f.written ≡ all_output size hs
      ++ flat_map (frame_bytes_at past_at_rest.sequence past_at_rest.entries) past_at_rest.released
  unfolding output_so_far last_so_far frames_so_far
  written_at_rest = grind (arith, written_of)

  pub at_rest_works : IsWorking r size f hs past_at_rest st_at_rest (tally_behind size hs f.heard)
  at_rest_works =
      grind (
        arith,
        common_steps,
        counts_at_rest,
        field_at_rest,
        let_go_at_rest,
        not_before,
        of_last,
        of_others,
        resting_stands,
        standing_at_rest,
        written_at_rest,
      )

  -- ---- a datagram that opens no session

  module _ (d : List ℕ) where
    abbrev now_heard : List (List ℕ)
    now_heard = f.heard ++ d ∷ []

    heard_is : sessions_of now_heard ≡ hears (sessions_of f.heard) d
    heard_is = sessions_of_more f.heard d

    own_now : AreOwnAnswers size (sessions_of now_heard) f.decoded
    own_now = subst (λ (l : List HeardSession). AreOwnAnswers size l f.decoded) (sym heard_is)
        (own_stays size small (sessions_of f.heard) d f.decoded stands.own)

    room_now : (n : ℕ) → HasSlots size (sessions_of now_heard) n (answers_at r.answers n)
    room_now n = grind (arith, heard_is, room_stays)

    field_now : (w : FirstField) → r.field ≡ Some w
        → answered_planes size (sessions_of now_heard) f.decoded w.number ≡ Some w.planes
    field_now w is = subst (λ (l : List HeardSession).
        answered_planes size l f.decoded w.number ≡ Some w.planes) (sym heard_is)
        (planes_stay size small (sessions_of f.heard) d f.decoded w.number w.planes
        (stands.first_field w is))

    -- the outcome is counted
    counts_now : with_outcome r.counts (judged r d)
        ≡ past_counts past_at_rest (tally_behind size hs now_heard)
    counts_now =
        let o = outcome_behind size f.heard d in
        let t = outcome_counts (outcomes_in size f.heard) in
        ap (λ (c : Tally). with_outcome c (judged r d)) counts_at_rest
        ∙ ap (with_outcome (past_counts past_at_rest (tally_behind size hs f.heard)))
        (judged_is r size f.heard d
        (standing_at_rest ∙ sym (ap (standing_of size false) at)))
        ∙ released_outcome past_at_rest.sequence past_at_rest.entries past_at_rest.released
        (tally_behind size hs f.heard) o
        ∙ ap (past_counts past_at_rest) (sessions_outcome size hs t o)
        ∙ ap (λ (c : Tally). past_counts past_at_rest (with_sessions size hs c))
        (sym (counts_more size f.heard d))

    pub opened_is : session_opened r d ≡ opens_behind h (begins d)
    opened_is = ap (λ (o : Option StandingSession). opens_after o (begins d)) standing_at_rest
        ∙ opens_same size h hs (begins d)

    standing_now : (o : Option Session) → opens_behind h (begins d) ≡ o
        → (keeps_datagram r d).standing ≡ Some (stands_on o st_at_rest d)
    unfolding keeps_datagram
    standing_now o is = grind (arith, opened_is, standing_at_rest)

    module _ (none : opens_behind h (begins d) ≡ None) where
      abbrev pub h_now : HeardSession
      h_now = with_datagram h d

      abbrev old : List Numbered
      old = entered_behind size hs h

      abbrev new : List Numbered
      new = entered_behind size hs h_now

      abbrev pub past_now : WindowPast
      past_now = session_past size hs h_now past_at_rest.released

      pub sessions_now : sessions_of now_heard ≡ h_now ∷ hs
      sessions_now = heard_is ∙ ap (λ (l : List HeardSession). hears l d) at
          ∙ hears_on (h ∷ hs) d none

      window_now : StandsForPast (goes_on st_at_rest d).window past_now
      window_now = by_fragment (fragment_in h.session d) refl
        where
          by_fragment : (o : Option Fragment) → fragment_in h.session d ≡ o
              → StandsForPast (enters_window st_at_rest.window o) past_now
          by_fragment None is = subst (StandsForPast st_at_rest.window)
              (sym (session_stays size hs h past_at_rest.released d is))
              (resting_stands (last_past size false hs h))
          by_fragment (Some fragment) is =
              subst (StandsForPast (window_enters st_at_rest.window fragment))
              (session_enters size hs h past_at_rest.released d fragment is)
              (enters_stands st_at_rest.window past_at_rest
              (resting_stands (last_past size false hs h)) refl fragment)

      follows : Follows size old new
      follows = entered_follows (base_above (greatest_of size hs)) size h.fragments
          (filter_map (fragment_in h.session) (d ∷ []))

      gone : (n : ℕ) → is_among past_at_rest.released n ≡ true
          → is_let_go size h.session.sequence old n ≡ true
      gone n there = released_gone past_at_rest
          (resting_stands (last_past size false hs h)).in_order n there

      planes_then : (n : ℕ) → is_among past_at_rest.released n ≡ true
          → planes_at h.session.sequence old n ≡ planes_at h.session.sequence new n
      planes_then n there =
          sym (planes_same size h.session.sequence old new follows n (gone n there))

      complete_then : (n : ℕ) → is_among past_at_rest.released n ≡ true
          → complete_at h.session.sequence old n ≡ complete_at h.session.sequence new n
      unfolding complete_at
      complete_then n there = sym (ap is_some
          (whole_same size h.session.sequence old new follows n (gone n there)))

      frame_then : (n : ℕ) → is_among past_at_rest.released n ≡ true
          → frame_at h.session.sequence old n ≡ frame_at h.session.sequence new n
      unfolding frame_at
      frame_then n there =
          ap (λ (o : Option Planes). cond h.session.sequence.fields (cond (n % 2 == 1)
          (woven_fields h.session.sequence.top_first o (planes_at h.session.sequence old n)) None)
          (planes_at h.session.sequence old n))
          (sym (planes_same size h.session.sequence old new follows (n - 1)
          (let_go_before size h.session.sequence old n (n - 1) (omega arith) (gone n there))))
          ∙ ap (λ (o : Option Planes). cond h.session.sequence.fields (cond (n % 2 == 1)
          (woven_fields h.session.sequence.top_first
          (planes_at h.session.sequence new (n - 1)) o) None) o) (planes_then n there)

      pieces_same : (f g : ℕ → List ℕ) (ns : List ℕ)
          → ((n : ℕ) → is_among ns n ≡ true → f n ≡ g n) → flat_map f ns ≡ flat_map g ns
      pieces_same f g [] same = refl
      pieces_same f g (n ∷ ns) same = grind (arith, pieces_same f g ns)

      let_go_now : let_go_pictures size f.has_ended (sessions_of now_heard)
          ≡ heard_pictures size hs ++ past_let_go past_now
      unfolding let_go_pictures
      let_go_now = grind (arith, sessions_now)

      pub datagram_works : IsWorking (keeps_datagram r d) size (hears_datagram f d) hs past_now
          (goes_on st_at_rest d) (tally_behind size hs now_heard)
      unfolding keeps_datagram
      datagram_works = record {
        open_pictures = stands.heard.open_pictures;
        ended = stands.heard.ended;
        stands = standing_now None none;
        sequence = refl;
        window = window_now;
        let_go = let_go_now;
        released = stands.released ∙ let_go_at_rest;
        opened = λ n opened. ap (λ (l : List HeardSession). session_opening size l n) sessions_now
            ∙ of_last size h_now hs n opened;
        others = λ n shut. subst (λ (l : List HeardSession).
            (is_among (heard_pictures size hs) n ≡ true) ⊎ (session_opening size l n ≡ None))
            (sym sessions_now) (of_others size h_now hs n shut);
        apart = not_before size h_now hs small;
        written = written_at_rest ∙ ap (λ (l : List ℕ). all_output size hs ++ l)
            (pieces_same (frame_bytes_at h.session.sequence old)
            (frame_bytes_at h.session.sequence new) past_at_rest.released
            (λ n there. sym (frame_same size h.session.sequence old new follows n
            (gone n there))));
        own = own_now;
        answers = stands.answers;
        room = room_now;
        first_field = field_now;
        waiting = field_at_rest ∙ ap (λ (x : Fields). x.waiting)
            (fields_same h.session.sequence old new past_at_rest.released complete_then
            planes_then frame_then);
        counted = counts_now ∙ released_same h.session.sequence old new past_at_rest.released
            complete_then planes_then frame_then (tally_behind size hs now_heard);
      }

    -- ---- one that opens the next

    module _ (s : Session) (opens : opens_behind h (begins d) ≡ Some s) where
      abbrev pub past_over : WindowPast
      past_over = past_finishes past_at_rest

      pub sessions_next : sessions_of now_heard ≡ just_opened s ∷ h ∷ hs
      sessions_next = heard_is ∙ ap (λ (l : List HeardSession). hears l d) at
          ∙ hears_new (h ∷ hs) d s opens

      let_go_next : let_go_pictures size f.has_ended (sessions_of now_heard)
          ≡ heard_pictures size hs ++ past_let_go past_over
      unfolding let_go_pictures heard_pictures let_go_numbers opened_numbers greatest least parts_of
      let_go_next = grind (arith, append-nil, sessions_next)

      session_next : (n : ℕ) → session_opening size (sessions_of now_heard) n
          ≡ session_opening size (h ∷ hs) n
      session_next n = ap (λ (l : List HeardSession). session_opening size l n) sessions_next
          ∙ session_opens size s (h ∷ hs) n

      pub next_works : IsWorking (keeps_datagram r d) size (hears_datagram f d) hs past_over
          (is_over st_at_rest) (tally_behind size hs now_heard)
      unfolding keeps_datagram
      next_works = record {
        open_pictures = stands.heard.open_pictures;
        ended = stands.heard.ended;
        stands = standing_now (Some s) opens;
        sequence = refl;
        window = finishes_stands st_at_rest.window past_at_rest
            (resting_stands (last_past size false hs h));
        let_go = let_go_next;
        released = stands.released ∙ let_go_at_rest;
        opened = λ n opened. session_next n ∙ of_last size h hs n opened;
        others = λ n shut. subst (λ (o : Option EnteredSession).
            (is_among (heard_pictures size hs) n ≡ true) ⊎ (o ≡ None))
            (sym (session_next n)) (of_others size h hs n shut);
        apart = not_before size h hs small;
        written = written_at_rest;
        own = own_now;
        answers = stands.answers;
        room = room_now;
        first_field = field_now;
        waiting = field_at_rest;
        counted = counts_now;
      }

  -- ---- the end of the input

  end_let_go : let_go_pictures size true (sessions_of f.heard)
      ≡ heard_pictures size hs ++ past_let_go (past_finishes past_at_rest)
  unfolding let_go_pictures heard_pictures
  end_let_go = ap (let_go_pictures size true) at

  pub end_works : IsWorking (ends_input r) size (hears_end f) hs (past_finishes past_at_rest)
      (is_over st_at_rest) (tally_behind size hs f.heard)
  end_works = record {
    open_pictures = stands.heard.open_pictures;
    ended = refl;
    stands = ap (option_map is_over) standing_at_rest;
    sequence = refl;
    window = finishes_stands st_at_rest.window past_at_rest
        (resting_stands (last_past size false hs h));
    let_go = end_let_go;
    released = stands.released ∙ let_go_at_rest;
    opened = at_rest_works.opened;
    others = at_rest_works.others;
    apart = at_rest_works.apart;
    written = written_at_rest;
    own = stands.own;
    answers = stands.answers;
    room = stands.room;
    first_field = stands.first_field;
    waiting = field_at_rest;
    counted = counts_at_rest;
  }
