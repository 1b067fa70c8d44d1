-- The coefficients of a picture's slices, of answers that are all sound.
use Rattle.std.proofs.Common.{◌≡◌, ℕ, zero, suc, ◌+◌, ◌-◌, ◌<◌, List, [], ◌∷◌, ◌++◌, length, Option, Some, None}
use Rattle.std.proofs.Common.{Result, Ok, Err, refl, ap, sym, subst, ◌∙◌, arith}
use Rattle.std.specs.Prelude.{slice_index_or}
use Rattle.std.specs.List.{range_with_len}
use Rattle.std.specs.Option.{option_map}
use Rattle.std.proofs.lemmas.List.{append_assoc}
use Rattle.std.proofs.lemmas.Option.{same_Some, none-some}
use Rattle.link_model.proofs.Ranges.{range_step}
use Rattle.link_core.specs.Frames.{IsAnswered, IsAnsweredBook}
use Rattle.link_model.specs.Books.{Book, book_plan}
use Rattle.machine_model.specs.Feeders.{SliceAnswer, answer_in}
use Rattle.machine_model.specs.Feeding.{sound_answer, sound_answers, with_first}
use Rattle.link_model.specs.Kept.{KeptParameters}
use Rattle.picture_build.specs.PictureCoefficients.{ArePictureCoefficients}
use Rattle.vc_types.specs.SequenceHeader.{Sequence, picture_shape}
use Rattle.vc_types.specs.Slices.{Coefficients}
use Rattle.vc_types.specs.Subbands.{slice_count}
use Rattle.vc_types.specs.TransformParameters.{Parameters}
use Rattle.vc_types.specs.declared.refusal.Unsound.{Unsound}

module _ (decoded : List SliceAnswer) (n : ℕ) where
  -- ---- a loop over the slices

  -- with these from the first slices, and those that are left
  abbrev pub Left : List Coefficients → ℕ → ℕ → Option (List Coefficients) → Type 0
  Left items i count all = option_map (λ rest. items ++ rest) (sound_answers decoded n (range_with_len i (count - i))) ≡ all

  module _ (items : List Coefficients) (i count : ℕ) (all : Option (List Coefficients)) (left : Left items i count all) where
    stepped : i < count → option_map (λ rest. items ++ rest) (with_first (sound_answer (answer_in decoded n i)) (sound_answers decoded n (range_with_len (i + 1) (count - (i + 1))))) ≡ all
    stepped less = sym (ap (λ (l : List ℕ). option_map (λ rest. items ++ rest) (sound_answers decoded n l)) (range_step i count less)) ∙ left

    pub left_more : i < count → (c : Coefficients) → sound_answer (answer_in decoded n i) ≡ Some c → Left (items ++ c ∷ []) (i + 1) count all
    left_more less c some = grind (arith, stepped, append_assoc)

  -- ---- each of them

  sound_is : (o : Option (Result Coefficients Unsound)) (c : Coefficients) → sound_answer o ≡ Some c → o ≡ Some (Ok c)
  sound_is None c e = absurd (none-some c e)
  sound_is (Some (Err unsound)) c e = absurd (none-some c e)
  sound_is (Some (Ok d)) c e = ap (λ (c : Coefficients). Some (Ok c)) (same_Some d c e)

  abbrev AreAnswers : ℕ → ℕ → List Coefficients → Type 0
  AreAnswers i m items = (length items ≡ m) × ((k : ℕ) (none : Coefficients) → k < m → answer_in decoded n (i + k) ≡ Some (Ok (slice_index_or items k none)))

  answers_at : (i m : ℕ) (items : List Coefficients) → sound_answers decoded n (range_with_len i m) ≡ Some items → AreAnswers i m items
  answers_at i zero items e = subst (AreAnswers i 0) (same_Some [] items e) (refl, λ k none below. absurd (omega (arith, below)))
  answers_at i (suc m) items e = by_first (sound_answer (answer_in decoded n i)) refl (sound_answers decoded n (range_with_len (i + 1) m)) refl e (answers_at (i + 1) m)
    where
      consed : (c : Coefficients) (rest : List Coefficients) → sound_answer (answer_in decoded n i) ≡ Some c → AreAnswers (i + 1) m rest → AreAnswers i (suc m) (c ∷ rest)
      consed c rest here more = (ap suc more.0, at)
        where
          at : (k : ℕ) (none : Coefficients) → k < suc m → answer_in decoded n (i + k) ≡ Some (Ok (slice_index_or (c ∷ rest) k none))
          at zero none below = (let same : i + 0 ≡ i = omega arith in ap (answer_in decoded n) same) ∙ sound_is (answer_in decoded n i) c here
          at (suc k) none below = (let same : i + suc k ≡ i + 1 + k = omega arith in ap (answer_in decoded n) same) ∙ more.1 k none (omega (arith, below))

      by_first : (o : Option Coefficients) → sound_answer (answer_in decoded n i) ≡ o → (p : Option (List Coefficients)) → sound_answers decoded n (range_with_len (i + 1) m) ≡ p → with_first o p ≡ Some items
          → ((items : List Coefficients) → sound_answers decoded n (range_with_len (i + 1) m) ≡ Some items → AreAnswers (i + 1) m items) → AreAnswers i (suc m) items
      by_first None here p rest e later = absurd (none-some items e)
      by_first (Some c) here None rest e later = absurd (none-some items e)
      by_first (Some c) here (Some more) rest e later = subst (AreAnswers i (suc m)) (same_Some (c ∷ more) items e) (consed c more here (later more rest))

  -- ---- a picture's slices

  module _ (book : Book) (p : Parameters) (planned : Some p ≡ option_map (λ (plan : KeptParameters). plan.parameters) (book_plan book)) where
    plan_there : (plan : KeptParameters) × (book_plan book ≡ Some plan) × (plan.parameters ≡ p)
    plan_there = grind arith

    module _ (items : List Coefficients) (sound : Some items ≡ sound_answers decoded n (range_with_len 0 (slice_count p))) where
      pub slices_count : length items ≡ slice_count p
      slices_count = (answers_at 0 (slice_count p) items (sym sound)).0

      module _ (s : Sequence) (answered : IsAnsweredBook decoded s n book) where
        is_answered : IsAnswered decoded s n plan_there.0
        is_answered = answered plan_there.0 plan_there.1

        pub plan_shape : p.shape ≡ picture_shape s
        plan_shape = ap (λ (q : Parameters). q.shape) (sym plan_there.2) ∙ is_answered.shape

        pub slices_whole : ArePictureCoefficients p items
        slices_whole k none below = grind (arith, plan_there, answers_at, slices_count)
