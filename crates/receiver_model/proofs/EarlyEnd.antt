-- The end of the input before a session stands.
use Rattle.std.proofs.Common.{◌≡◌, ℕ, true, false, refl, ap, sym, ◌∙◌, arith}
use Rattle.std.proofs.Common.{List, [], None, subst}
use Rattle.std.specs.Option.{option_map}
use Rattle.std.proofs.lemmas.List.{append-nil}
use Rattle.std.proofs.lemmas.Option.{none-some}
use Rattle.machine_model.specs.Feeders.{Feeder, heard_pictures, let_go_pictures}
use Rattle.machine_model.specs.Feeding.{hears_end}
use Rattle.link_model.specs.Judgement.{outcomes_in, outcome_counts, with_sessions}
use Rattle.machine_model.specs.Next.{next_feeder}
use Rattle.link_model.specs.Output.{all_output, full_output}
use Rattle.machine_model.specs.Places.{Answered}
use Rattle.link_model.specs.Session.{sessions_of}
use Rattle.receiver_model.specs.Entering.{gives_up_field, takes_end, end_bytes}
use Rattle.receiver_model.specs.Exchanging.{Exchange, all_exchanged, dones_in}
use Rattle.receiver_model.specs.Judging.{ends_input, is_over}
use Rattle.receiver_model.specs.Receptions.{Reception, PictureAnswers, answers_at, kept_answer}
use Rattle.receiver_model.specs.Standing.{StandsFor, standing_of, counts_of_sessions, HasSlots}
use Rattle.receiver_model.proofs.Followed.{FollowsEnd}
use Rattle.receiver_model.proofs.HeardMore.{written_of}
use Rattle.receiver_model.specs.Standing.{out_without}
use Rattle.receiver_model.proofs.ReleaseRuns.{none_go}
use Rattle.receiver_model.proofs.Idle.{IsSame, IsIdle, idle_exchanged, nothing_released}
use Rattle.receiver_model.proofs.Idle.{nothing_written, idle_feeder, idle_releasable, nothing_kept}
use Rattle.receiver_model.proofs.Idle.{none_stands, no_field, counts_are, none_gone, none_written}

module _ (r : Reception) (size : ℕ) (f : Feeder) (stands : StandsFor r size f)
    (runs : f.has_ended ≡ false) (at : sessions_of f.heard ≡ []) (xs : List Exchange) where
  abbrev dones : List Answered
  dones = dones_in xs

  abbrev r_end : Reception
  r_end = all_exchanged (ends_input r) xs

  abbrev f_end : Feeder
  f_end = hears_end f

  idle_end : (ends_input r).standing ≡ None
  idle_end = ap (option_map is_over) (none_stands r size f stands runs at)

  same_end : IsSame (ends_input r) r_end
  same_end = idle_exchanged xs (ends_input r) idle_end

  standing_end : r_end.standing ≡ None
  standing_end = same_end.standing ∙ idle_end

  over_idle : IsIdle size f_end
  unfolding let_go_pictures heard_pictures
  over_idle = grind (arith, none_gone, nothing_kept)

  counts_end : (gives_up_field r_end).counts ≡ counts_of_sessions size true (sessions_of f.heard)
      (outcome_counts (outcomes_in size f.heard))
  unfolding with_sessions
  counts_end = grind (arith, counts_are, no_field, same_end)

  written_end : f.written ≡ written_of size true f.heard
  unfolding full_output all_output
  written_end = (none_written r size f stands runs at) ∙ sym (ap (all_output size) at)

  over_stands : StandsFor (gives_up_field r_end) size f_end
  over_stands = record {
    heard = record {
      open_pictures = same_end.size ∙ stands.heard.open_pictures;
      ended = same_end.ended;
      session = standing_end ∙ sym (ap (standing_of size true) at);
      waiting_field = refl;
      counted = counts_end;
    };
    released = (none_gone r size f stands runs at) ∙ sym over_idle.none_gone;
    written = written_end;
    own = stands.own;
    answers = λ n i stays. ap (λ (l : List PictureAnswers). kept_answer l n i) same_end.answers
        ∙ stands.answers n i stays;
    room = λ n. subst (λ (l : List PictureAnswers).
        HasSlots size (sessions_of f.heard) n (answers_at l n)) (sym same_end.answers)
        (stands.room n);
    first_field = λ w none. absurd (none-some w none);
  }

  pub early_end : FollowsEnd r size f xs
  unfolding next_feeder takes_end end_bytes
  early_end = record {
    stands = grind (arith, idle_feeder, nothing_released, over_idle, over_stands, standing_end);
    writes = grind (arith, append-nil, idle_feeder, nothing_written, over_idle, standing_end);
    out =
        ap (λ (v : Reception). v.out) (nothing_released r_end standing_end)
        ∙ none_go r_end.out
        ∙ sym (ap (λ (ns : List ℕ). out_without ns r_end.out)
        (idle_releasable size f_end over_idle dones));
  }
