-- Counts: those of outcomes and those of pictures don't touch each other.
use Rattle.std.proofs.Common.{◌≡◌, ℕ, ◌+◌, Bool, true, refl, ap, sym, ◌∙◌, cond, arith}
use Rattle.std.proofs.Common.{List, [], ◌∷◌}
use Rattle.std.specs.Prelude.{◌==◌, ◌||◌, count_by, filter, fold, length}
use Rattle.std.proofs.lemmas.Bool.{eq-eqb, or_right}
use Rattle.std.proofs.lemmas.Grind.{common_steps}
use Rattle.std.proofs.lemmas.List.Sums.{length-filter}
use Rattle.machine_model.specs.Feeders.{is_among}
use Rattle.link_model.specs.Judgement.{with_outcome, with_pictures, with_sessions, is_incomplete}
use Rattle.link_model.specs.Judgement.{is_unsound, has_frame}
use Rattle.link_model.specs.Numbers.{Numbered}
use Rattle.link_model.specs.Output.{complete_at, planes_at, frame_at}
use Rattle.link_model.specs.Session.{HeardSession}
use Rattle.link_model.specs.declared.outcome.Outcome.{Outcome}
use Rattle.link_model.specs.declared.outcome.Outcome.TheVariants as outcomes
use Rattle.link_model.specs.declared.tally.Tally.{Tally}
use Rattle.vc_types.specs.SequenceHeader.{Sequence}
use Rattle.receiver_model.specs.Standing.{Fields, no_fields, next_field, fields_behind}
use Rattle.receiver_model.specs.Standing.{with_released}

-- counts of pictures more
abbrev pub added : ℕ → ℕ → ℕ → ℕ → Tally → Tally
added a b c d t = record t {
  incomplete = t.incomplete + a;
  unsound = t.unsound + b;
  unpaired = t.unpaired + c;
  frames = t.frames + d;
}

outcome_added : (a b c d : ℕ) (t : Tally) (o : Outcome)
    → with_outcome (added a b c d t) o ≡ added a b c d (with_outcome t o)
outcome_added a b c d t outcomes.RtpShort = refl
outcome_added a b c d t other = refl

pub released_outcome : (s : Sequence) (es : List Numbered) (ns : List ℕ) (t : Tally) (o : Outcome)
    → with_outcome (with_released s es ns t) o ≡ with_released s es ns (with_outcome t o)
unfolding with_released
released_outcome s es ns t o = outcome_added (count_by (is_incomplete s es) ns)
    (count_by (is_unsound s es) ns) (fields_behind s es ns).alone (count_by (has_frame s es) ns) t o

pictures_outcome : (s : Sequence) (es : List Numbered) (t : Tally) (o : Outcome)
    → with_outcome (with_pictures s es t) o ≡ with_pictures s es (with_outcome t o)
unfolding with_pictures
pictures_outcome s es t o = outcome_added _ _ _ _ t o

pub sessions_outcome : (size : ℕ) (hs : List HeardSession) (t : Tally) (o : Outcome)
    → with_outcome (with_sessions size hs t) o ≡ with_sessions size hs (with_outcome t o)
unfolding with_sessions
sessions_outcome size [] t o = refl
sessions_outcome size (h ∷ hs) t o = grind (arith, pictures_outcome, sessions_outcome size hs t o)

-- nothing was released yet
pub none_released : (s : Sequence) (es : List Numbered) (t : Tally) → with_released s es [] t ≡ t
unfolding with_released
none_released s es t = grind (arith, length-filter)

-- ---- of other entries, by which these pictures are the same

count_same : (f g : ℕ → Bool) (ns : List ℕ) → ((n : ℕ) → is_among ns n ≡ true → f n ≡ g n)
    → count_by f ns ≡ count_by g ns
count_same f g ns same =
    sym (length-filter f ns) ∙ ap length (filter_same ns same) ∙ length-filter g ns
  where
    filter_same : (ns : List ℕ) → ((n : ℕ) → is_among ns n ≡ true → f n ≡ g n)
        → filter f ns ≡ filter g ns
    filter_same [] same = refl
    filter_same (n ∷ ns) same = grind (arith, filter_same ns)

module _ (s : Sequence) (old new : List Numbered) (ns : List ℕ)
    (complete : (n : ℕ) → is_among ns n ≡ true → complete_at s old n ≡ complete_at s new n)
    (planes : (n : ℕ) → is_among ns n ≡ true → planes_at s old n ≡ planes_at s new n)
    (frame : (n : ℕ) → is_among ns n ≡ true → frame_at s old n ≡ frame_at s new n) where
  fields_from : (ns : List ℕ) (x : Fields)
      → ((n : ℕ) → is_among ns n ≡ true → planes_at s old n ≡ planes_at s new n)
      → fold (next_field s old) x ns ≡ fold (next_field s new) x ns
  fields_from [] x same = refl
  fields_from (n ∷ ns) x same = grind (arith, fields_from ns (next_field s new x n))

  pub fields_same : fields_behind s old ns ≡ fields_behind s new ns
  fields_same = fields_from ns no_fields planes

  pub released_same : (t : Tally) → with_released s old ns t ≡ with_released s new ns t
  unfolding with_released
  released_same t = grind (arith, common_steps, count_same, fields_same)
