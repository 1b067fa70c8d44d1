-- A datagram before a session stands: it is judged, and it may open the first one.
use Rattle.std.proofs.Common.{◌≡◌, ℕ, ◌≤◌, Bool, false, refl, ap, sym, ◌∙◌, arith}
use Rattle.std.proofs.Common.{List, [], ◌∷◌, ◌++◌, Option, Some, None, subst}
use Rattle.std.specs.Option.{option_map}
use Rattle.std.proofs.lemmas.List.{append-nil}
use Rattle.std.proofs.lemmas.Option.{none-some}
use Rattle.machine_model.specs.Feeders.{Feeder, heard_pictures, let_go_pictures, releasable}
use Rattle.machine_model.specs.Feeding.{hears_datagram}
use Rattle.link_model.specs.Judgement.{outcomes_in, outcome_counts, with_sessions}
use Rattle.machine_model.specs.Machine.{Enter}
use Rattle.machine_model.specs.Next.{taken_back, next_feeder}
use Rattle.link_model.specs.Numbers.{greatest, least, parts_of, opened_numbers}
use Rattle.link_model.specs.Output.{let_go_numbers, all_output, last_so_far}
use Rattle.link_model.specs.Output.{output_so_far, greatest_of}
use Rattle.machine_model.specs.Places.{Answered}
use Rattle.link_model.specs.Session.{Session, HeardSession, just_opened, hears, sessions_of, begins}
use Rattle.link_model.specs.Windows.{Window, WindowPast, new_past, new_window, window_of}
use Rattle.link_model.proofs.Counting.{counts_more}
use Rattle.link_model.proofs.Hearing.{sessions_of_more, hears_new, hears_on}
use Rattle.link_model.proofs.SessionOutput.{opening_writes_nothing}
use Rattle.link_model.proofs.WindowStands.{new_stands}
use Rattle.receiver_model.specs.Entering.{greatest_in, opens_session, takes_datagram}
use Rattle.receiver_model.specs.Entering.{datagram_bytes}
use Rattle.receiver_model.specs.Exchanging.{Exchange, all_exchanged, dones_in}
use Rattle.receiver_model.specs.Judging.{session_opened, opens_after, keeps_datagram, stands_on}
use Rattle.receiver_model.specs.Receptions.{StandingSession, Reception}
use Rattle.receiver_model.specs.Receptions.{PictureAnswers, answers_at, kept_answer}
use Rattle.receiver_model.specs.Releasing.{releases_all}
use Rattle.receiver_model.specs.Standing.{StandsFor, standing_of, all_released}
use Rattle.receiver_model.specs.Standing.{last_past, field_of_sessions, counts_of_sessions}
use Rattle.receiver_model.specs.Standing.{past_fields, HasSlots}
use Rattle.receiver_model.proofs.Followed.{FollowsDatagram, opened_same}
use Rattle.receiver_model.proofs.HeardMore.{written_of}
use Rattle.receiver_model.specs.Standing.{out_without}
use Rattle.machine_model.specs.Interleavings.{AreOwnAnswers}
use Rattle.receiver_model.proofs.JudgedOutcomes.{judged_is}
use Rattle.receiver_model.proofs.ReleaseRuns.{none_go}
use Rattle.receiver_model.proofs.HeardMore.{own_stays, room_stays}
use Rattle.receiver_model.proofs.Tallies.{none_released}
use Rattle.receiver_model.proofs.Idle.{IsSame, IsIdle, idle_exchanged, nothing_released}
use Rattle.receiver_model.proofs.Idle.{nothing_written, idle_feeder, idle_releasable, nothing_kept}
use Rattle.receiver_model.proofs.Idle.{nothing_kept_yet, none_stands, no_field, counts_are}
use Rattle.receiver_model.proofs.Idle.{none_gone, none_written}

module _ (r : Reception) (size : ℕ) (small : size ≤ 8) (f : Feeder)
    (stands : StandsFor r size f) (runs : f.has_ended ≡ false) (at : sessions_of f.heard ≡ [])
    (xs : List Exchange) where
  abbrev dones : List Answered
  dones = dones_in xs

  -- ---- a datagram

  module _ (d : List ℕ) where
    abbrev r_now : Reception
    r_now = all_exchanged (keeps_datagram r d) xs

    abbrev f_now : Feeder
    f_now = hears_datagram f d

    idle_now : (keeps_datagram r d).standing ≡ None
    unfolding keeps_datagram
    idle_now = ap (option_map (λ (st : StandingSession). stands_on (session_opened r d) st d))
        (none_stands r size f stands runs at)

    same_now : IsSame (keeps_datagram r d) r_now
    same_now = idle_exchanged xs (keeps_datagram r d) idle_now

    standing_now : r_now.standing ≡ None
    standing_now = same_now.standing ∙ idle_now

    counts_now : r_now.counts ≡ outcome_counts (outcomes_in size (f.heard ++ d ∷ []))
    unfolding keeps_datagram
    counts_now = grind (arith, counts_are, counts_more, judged_is, none_stands, same_now)

    rest_now : (keeps_datagram r d).field ≡ None
    unfolding keeps_datagram
    rest_now = (no_field r size f stands runs at)

    size_now : r_now.size ≡ size
    unfolding keeps_datagram
    size_now = same_now.size ∙ stands.heard.open_pictures

    ended_now : r_now.has_ended ≡ f.has_ended
    unfolding keeps_datagram
    ended_now = same_now.ended ∙ stands.heard.ended

    answers_now : r_now.answers ≡ r.answers
    unfolding keeps_datagram
    answers_now = same_now.answers

    opened_now : session_opened r d ≡ begins d
    opened_now = ap (λ (o : Option StandingSession). opens_after o (begins d))
        (none_stands r size f stands runs at)

    heard_now : sessions_of (f.heard ++ d ∷ []) ≡ hears [] d
    heard_now = sessions_of_more f.heard d ∙ ap (λ (l : List HeardSession). hears l d) at

    own_now : AreOwnAnswers size (sessions_of (f.heard ++ d ∷ [])) f.decoded
    own_now = grind (arith, own_stays, sessions_of_more)

    room_now : (n : ℕ) → HasSlots size (sessions_of (f.heard ++ d ∷ [])) n
        (answers_at r_now.answers n)
    room_now n = subst (λ (l : List PictureAnswers).
        HasSlots size (sessions_of (f.heard ++ d ∷ [])) n (answers_at l n)) (sym answers_now)
        (subst (λ (l : List HeardSession). HasSlots size l n (answers_at r.answers n))
        (sym (sessions_of_more f.heard d))
        (room_stays size small (sessions_of f.heard) d n (answers_at r.answers n)
        (stands.room n)))

    -- no session opens
    module _ (none : begins d ≡ None) where
      sessions_now : sessions_of (f.heard ++ d ∷ []) ≡ []
      sessions_now = heard_now ∙ hears_on [] d none

      still_idle : IsIdle size f_now
      unfolding let_go_pictures
      still_idle = grind (arith, none_gone, nothing_kept, sessions_now)

      none_written_now : f.written ≡ written_of size f.has_ended (f.heard ++ d ∷ [])
      unfolding output_so_far last_so_far
      none_written_now = grind (arith, none_written, sessions_now, written_of)

      idle_stands : StandsFor r_now size f_now
      idle_stands =
          grind (
            arith,
            answers_now,
            counts_now,
            ended_now,
            none_gone,
            none_written_now,
            own_now,
            rest_now,
            room_now,
            same_now,
            sessions_now,
            size_now,
            standing_now,
            still_idle,
          )

    -- the first one opens
    module _ (s : Session) (opens : begins d ≡ Some s) where
      sessions_first : sessions_of (f.heard ++ d ∷ []) ≡ just_opened s ∷ []
      sessions_first = heard_now ∙ hears_new [] d s opens

      idle_first : IsIdle size f_now
      unfolding let_go_pictures heard_pictures let_go_numbers opened_numbers greatest least parts_of
      idle_first = grind (arith, none_gone, nothing_kept_yet, sessions_first)

      abbrev fresh : WindowPast
      fresh = all_released (last_past size false [] (just_opened s))

      fresh_is : new_past s.sequence size 0 ≡ fresh
      unfolding let_go_numbers opened_numbers greatest least parts_of greatest_of
      fresh_is = refl

      window_first : new_window s.sequence r_now.size (greatest_in r_now.standing)
          ≡ window_of fresh
      window_first = grind (arith, fresh_is, new_stands, size_now, standing_now)

      counts_first : (opens_session (Some s) r_now).counts
          ≡ counts_of_sessions size f.has_ended (sessions_of (f.heard ++ d ∷ []))
          (outcome_counts (outcomes_in size (f.heard ++ d ∷ [])))
      unfolding with_sessions
      counts_first =
          grind (arith, counts_now, fresh_is, none_released, rest_now, same_now, sessions_first)

      written_first : f.written ≡ written_of size f.has_ended (f.heard ++ d ∷ [])
      unfolding output_so_far all_output
      written_first = (none_written r size f stands runs at)
          ∙ sym (opening_writes_nothing size [] s)
          ∙ sym (ap (last_so_far size) sessions_first)
          ∙ sym (ap (λ (over : Bool). written_of size over (f.heard ++ d ∷ [])) runs)

      opens_first : StandsFor (opens_session (Some s) r_now) size f_now
      opens_first = record {
        heard = record {
          open_pictures = size_now;
          ended = ended_now;
          session =
              ap (λ (w : Window). (let o : Option StandingSession = Some (record {
                session = s;
                has_ended = false;
                window = w;
              }) in o)) window_first
              ∙ sym (ap (standing_of size false) sessions_first)
              ∙ sym (ap (λ (over : Bool). standing_of size over
              (sessions_of (f.heard ++ d ∷ []))) runs);
          waiting_field =
              ap (λ (q : WindowPast). (past_fields q).waiting) fresh_is
              ∙ sym (ap (field_of_sessions size false) sessions_first)
              ∙ sym (ap (λ (over : Bool). field_of_sessions size over
              (sessions_of (f.heard ++ d ∷ []))) runs);
          counted = counts_first;
        };
        released = (none_gone r size f stands runs at) ∙ sym idle_first.none_gone;
        written = written_first;
        own = own_now;
        answers = λ n i stays. ap (λ (l : List PictureAnswers). kept_answer l n i) answers_now
            ∙ stands.answers n i stays;
        room = room_now;
        first_field = λ w none. absurd (none-some w none);
      }

    -- whatever opens
    module _ (o : Option Session) (opening : begins d ≡ o) (idle : IsIdle size f_now)
        (rests : StandsFor (opens_session o r_now) size f_now) where
      stands_then : StandsFor (takes_datagram r d xs) size (next_feeder size f (Enter d) dones)
      unfolding next_feeder takes_datagram
      stands_then =
          grind (arith, idle_feeder, nothing_released, opened_now, standing_now)

      writes_then : (next_feeder size f (Enter d) dones).written
          ≡ f.written ++ datagram_bytes r d xs
      unfolding next_feeder datagram_bytes
      writes_then = grind (arith, append-nil, idle_feeder, nothing_written, standing_now)

      out_then : (takes_datagram r d xs).out
          ≡ out_without (releasable size (taken_back size f_now dones)) r_now.out
      unfolding takes_datagram
      out_then =
          opened_same (session_opened r d) (releases_all r_now)
          ∙ ap (λ (v : Reception). v.out) (nothing_released r_now standing_now)
          ∙ none_go r_now.out
          ∙ sym (ap (λ (ns : List ℕ). out_without ns r_now.out)
          (idle_releasable size f_now idle dones))

      follows_then : FollowsDatagram r size f xs d
      follows_then = record { stands = stands_then; writes = writes_then; out = out_then }

    pub early_follows : (o : Option Session) → begins d ≡ o → FollowsDatagram r size f xs d
    early_follows None none = follows_then None none (still_idle none) (idle_stands none)
    early_follows (Some s) opens =
        follows_then (Some s) opens (idle_first s opens) (opens_first s opens)
