-- A picture that is released: its book's slices, the answers to them, and its planes.
use Rattle.std.proofs.Common.{◌≡◌, ℕ, zero, suc, ◌<◌, true, List, [], ◌∷◌, length, Option, Some, None}
use Rattle.std.proofs.Common.{Result, Ok, Err, sym, ap, subst, ◌∙◌, arith}
use Rattle.std.specs.Prelude.{is_some, IfOk}
use Rattle.std.specs.List.{list_all, range_with_len}
use Rattle.std.specs.Option.{option_map, option_map_or, option_and_then}
use Rattle.std.proofs.lemmas.Bool.{and_parts}
use Rattle.std.proofs.lemmas.Grind.{common_steps}
use Rattle.link_model.specs.Books.{Gathered, Book, Slots, slot_at, book_slice}
use Rattle.link_model.specs.Books.{gathered_whole, book_whole}
use Rattle.receiver_model.specs.Receptions.{Decoding, PictureAnswers, answer_at, answers_at}
use Rattle.receiver_model.specs.Receptions.{no_answers}
use Rattle.receiver_model.specs.Releasing.{answers_by, slice_decoding, sound_slices, book_planes}
use Rattle.receiver_model.specs.WholeBooks.{IsWholeBook}
use Rattle.picture_build.specs.Kept.{PartPicture}
use Rattle.link_pictures.specs.Completing.{comes_to, HasWholeSlices}
use Rattle.link_pictures.specs.SeenAnswers.{part_answer, answers_of_plan}
use Rattle.link_pictures.proofs.CompletedSlices.{same_sound}
use Rattle.receiver_model.proofs.KeptAnswers.{none_at}
use Rattle.vc_types.specs.Planes.{planes_of}
use Rattle.vc_types.specs.SequenceHeader.{Sequence}
use Rattle.vc_types.specs.Subbands.{slice_count}
use Rattle.vc_types.specs.TransformParameters.{Parameters}
use Rattle.vc_types.specs.declared.refusal.Unsound.{Unsound}
use Rattle.vc_types.proofs.SameValues.{parameters_exactly}

-- ---- a book's slices

gathered_whole_is : (g : Gathered) → is_some (gathered_whole g) ≡ true
    → list_all is_some g.slots ≡ true
gathered_whole_is g e = grind arith

slot_there : (slots : Slots) → list_all is_some slots ≡ true → (i : ℕ) → i < length slots
    → is_some (slot_at slots i) ≡ true
slot_there [] all i h = absurd (omega (arith, h))
slot_there (slot ∷ slots) all zero h = (and_parts (is_some slot) (list_all is_some slots) all).0
slot_there (slot ∷ slots) all (suc i) h =
    slot_there slots (and_parts (is_some slot) (list_all is_some slots) all).1 i (omega (arith, h))

module _ (book : Book) where
  module _ (g : Gathered) (at : book.gathered ≡ Some g) where
    slice_is : (i : ℕ) → book_slice book i ≡ slot_at g.slots i
    slice_is i = ap (λ (o : Option Gathered).
        option_and_then (λ (h : Gathered). slot_at h.slots i) o) at

    all_slots : is_some (book_whole book) ≡ true → list_all is_some g.slots ≡ true
    all_slots whole = gathered_whole_is g
        (ap (λ (o : Option Gathered). is_some (option_and_then gathered_whole o)) (sym at) ∙ whole)

    pub whole_slices : (s : Sequence) → IsWholeBook s book → is_some (book_whole book) ≡ true
        → (p : Parameters) → g.plan.parameters ≡ p → HasWholeSlices p book
    whole_slices s is whole p own =
        let one = is g at in
        subst (λ (q : Parameters). HasWholeSlices q book) own (record {
          all = λ i h. ap is_some (slice_is i) ∙ slot_there g.slots (all_slots whole) i
              (omega (arith, one.slots, h));
          whole = λ i bytes e. one.slices i bytes (sym (slice_is i) ∙ e);
        })

    -- ---- what its slices come to

    module _ (answers : List PictureAnswers) (n : ℕ) (kept : Option PictureAnswers)
        (found : answers_at answers n ≡ kept) where
      pub comes_own : (part : PartPicture) (unsound : List (Option Unsound))
          → part.parameters ≡ g.plan.parameters
          → ((i : ℕ) → part_answer part unsound i
          ≡ answer_at (option_map_or (answers_by g.plan.parameters) kept []) i)
          → (i : ℕ) → comes_to part unsound book i ≡ slice_decoding answers n g i
      unfolding comes_to
      comes_own part unsound own same i = grind (arith, slice_is)

      -- its planes
      pub planes_are : (s : Sequence) → IsWholeBook s book → is_some (book_whole book) ≡ true
          → (p : Parameters) → g.plan.parameters ≡ p
          → (decoding : ℕ → Decoding) → ((i : ℕ) → decoding i ≡ slice_decoding answers n g i)
          → option_map (planes_of p) (sound_slices decoding (range_with_len 0 (slice_count p)))
          ≡ book_planes answers n book
      planes_are s is whole p own decoding same = grind (arith, same_sound)

-- ---- answers that are kept by these parameters

module _ (p : Parameters) where
  -- what a picture has by them
  abbrev AnswersAre : PictureAnswers → Option PictureAnswers → Type 0
  AnswersAre a kept =
      (i : ℕ) → answer_at a.slices i ≡ answer_at (option_map_or (answers_by p) kept []) i

  pub of_plan_some : (kept : Option PictureAnswers) (a : PictureAnswers)
      → answers_of_plan p kept ≡ Some a → (a.parameters ≡ p) × AnswersAre a kept
  of_plan_some kept a e = grind (arith, parameters_exactly)

  pub of_plan_none : (n : ℕ) (kept : Option PictureAnswers)
      → answers_of_plan p kept ≡ None → AnswersAre (no_answers n p) kept
  of_plan_none n kept e i = grind (arith, none_at)

  pub of_plan_new : {E : Type 0} (n : ℕ) (kept : Option PictureAnswers)
      (result : Result PictureAnswers E) → answers_of_plan p kept ≡ None
      → IfOk result (λ a. a ≡ no_answers n p) → IfOk result (λ a. AnswersAre a kept)
  of_plan_new n kept result none is = grind (arith, common_steps, of_plan_none n kept none)

  pub new_plan : {E : Type 0} (n : ℕ) (result : Result PictureAnswers E)
      → IfOk result (λ a. a ≡ no_answers n p) → IfOk result (λ a. a.parameters ≡ p)
  new_plan n (Ok a) is = ap (λ (a : PictureAnswers). a.parameters) is
  new_plan n (Err e) is = is
