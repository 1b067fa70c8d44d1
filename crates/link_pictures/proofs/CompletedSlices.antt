-- A picture's slices as they come into its builder, and the planes of all of them.
use Rattle.std.proofs.Common.{◌≡◌, ℕ, zero, suc, ◌+◌, ◌<◌, ◌≤◌, Bool, false, List, [], ◌∷◌}
use Rattle.std.proofs.Common.{length, Option, Some, None, Result, Ok, Err, refl, sym, ap, subst, ◌∙◌}
use Rattle.std.proofs.Common.{inl, inr, arith, length-set}
use Rattle.std.specs.Prelude.{map, slice_index_or, unwrap_or, is_some, IfOk}
use Rattle.std.specs.List.{range_with_len}
use Rattle.std.proofs.lemmas.Bool.{cases_eq}
use Rattle.std.proofs.lemmas.List.{ext_get_or, get_or-map, length-map, get_or-set_same}
use Rattle.std.proofs.lemmas.List.{get_or-set_other}
use Rattle.std.proofs.lemmas.List.FromFn.{length-map-range_with_len, get_or-map-range_with_len}
use Rattle.link_model.specs.Books.{Book, book_slice}
use Rattle.machine_model.specs.Feeding.{with_first}
use Rattle.receiver_model.specs.Receptions.{Decoding}
use Rattle.receiver_model.specs.Releasing.{if_sound, sound_slices}
use Rattle.picture_build.specs.Kept.{PartPicture, slice_that_came, slices_of, no_coefficients}
use Rattle.link_pictures.specs.Completing.{comes_to, PutsDecoded, HasCome, ComesInto}
use Rattle.link_pictures.specs.Completing.{HaveCome, IsCompleted}
use Rattle.link_pictures.specs.SeenAnswers.{part_answer}
use Rattle.link_pictures.proofs.SeenSlots.{answer_none, answer_sound, answer_unsound}
use Rattle.vc_types.specs.Slices.{Coefficients, slice_coefficients}
use Rattle.vc_types.specs.Subbands.{slice_count}
use Rattle.vc_types.specs.TransformParameters.{Parameters}
use Rattle.vc_types.specs.declared.refusal.Unsound.{Unsound}

-- ---- what a slice comes to

module _ (part : PartPicture) (unsound : List (Option Unsound)) (book : Book) (i : ℕ) where
  pub comes_sound : (s : Coefficients) → slice_that_came part i ≡ Some s
      → comes_to part unsound book i ≡ Ok s
  unfolding comes_to
  comes_sound s came = rw (answer_sound part unsound i s came) refl

  pub comes_unsound : (why : Unsound) → slice_that_came part i ≡ None
      → slice_index_or unsound i None ≡ Some why → comes_to part unsound book i ≡ Err why
  unfolding comes_to
  comes_unsound why came is = rw (answer_unsound part unsound i why came is) refl

  pub comes_decoded : (bytes : List ℕ) → slice_that_came part i ≡ None
      → slice_index_or unsound i None ≡ None → book_slice book i ≡ Some bytes
      → comes_to part unsound book i ≡ slice_coefficients part.parameters i bytes
  unfolding comes_to
  comes_decoded bytes came none is = grind (arith, answer_none)

-- of another part with the same slice
same_answer : (old new : PartPicture) (unsound : List (Option Unsound)) (i : ℕ)
    → slice_that_came new i ≡ slice_that_came old i
    → part_answer new unsound i ≡ part_answer old unsound i
unfolding part_answer
same_answer old new unsound i same = rw same refl

pub comes_again : (old new : PartPicture) (unsound : List (Option Unsound)) (book : Book) (i : ℕ)
    → slice_that_came new i ≡ slice_that_came old i → new.parameters ≡ old.parameters
    → comes_to new unsound book i ≡ comes_to old unsound book i
unfolding comes_to
comes_again old new unsound book i same p = grind (arith, same_answer)

-- ---- a slice more

pub comes_put : {E : Type 0} (decoding : Decoding) (i : ℕ) (old new : PartPicture)
    (result : Result Bool E) (own : Decoding) → own ≡ decoding → i < length old.slices
    → IfOk result (PutsDecoded decoding i old new) → IfOk result (ComesInto own i old new)
comes_put decoding i old new result own is inside put =
    grind (arith, get_or-set_other, get_or-set_same, length-set)

pub was_there : (decoding : Decoding) (i : ℕ) (old : PartPicture) (s : Coefficients)
    → slice_that_came old i ≡ Some s → decoding ≡ Ok s → HasCome decoding i old old
was_there decoding i old s came is = grind arith

module _ (decoding : ℕ → Decoding) where
  pub none_came : (old : PartPicture) → HaveCome decoding 0 old old
  none_came old = grind arith

  pub one_came : (count : ℕ) (first old new : PartPicture) (one : Decoding)
      → HaveCome decoding count first old → one ≡ decoding count → HasCome one count old new
      → HaveCome decoding (count + 1) first new
  one_came count first old new one before same come = record {
    came = λ i h. elim (cases_eq i count) [
      | inl e ↦ rw e (come.coefficients, sym same ∙ come.sound, come.here)
      | inr ne ↦ (
          let earlier = before.came i (omega (arith, h, ne)) in
          (earlier.0, earlier.1, come.others i ne ∙ earlier.2))
    ];
    others = λ i h. come.others i (λ e. omega (arith, h, e)) ∙ before.others i (omega (arith, h));
    parameters = come.parameters ∙ before.parameters;
    entries = come.entries ∙ before.entries;
  }

  -- ---- all slices

  -- the coefficients of a slice, or none
  abbrev sound_at : ℕ → Coefficients
  sound_at i = unwrap_or (if_sound (decoding i)) no_coefficients

  sound_all : (from count : ℕ)
      → ((i : ℕ) → from ≤ i → i < from + count → (s : Coefficients) × (decoding i ≡ Ok s))
      → sound_slices decoding (range_with_len from count)
      ≡ Some (map sound_at (range_with_len from count))
  sound_all from zero each = refl
  sound_all from (suc count) each =
      let first = each from (omega arith) (omega arith) in
      let rest = sound_all (from + 1) count
      (λ i low high. each i (omega (arith, low)) (omega (arith, high))) in
      ap (λ (d : Decoding). with_first (if_sound d)
      (sound_slices decoding (range_with_len (from + 1) count))) first.1
      ∙ ap (with_first (Some first.0)) rest
      ∙ ap (λ (d : Decoding). Some (unwrap_or (if_sound d) no_coefficients
      ∷ map sound_at (range_with_len (from + 1) count))) (sym first.1)

  unsound_any : (from count i : ℕ) (why : Unsound) → from ≤ i → i < from + count
      → decoding i ≡ Err why → sound_slices decoding (range_with_len from count) ≡ None
  unsound_any from zero i why low high e = absurd (omega (arith, low, high))
  unsound_any from (suc count) i why low high e = grind (arith, unsound_any (from + 1) count i why)

  module _ (p : Parameters) (first : PartPicture) (own : first.parameters ≡ p)
      (entries : length first.slices ≡ slice_count p) where
    pub all_came : (new : PartPicture) → HaveCome decoding (slice_count p) first new
        → IsCompleted decoding p new
    all_came new have = record {
      slices = sound_all 0 (slice_count p)
          (λ i low high. (let came = have.came i (omega (arith, high)) in (came.0, came.1)))
          ∙ ap Some same;
      whole = λ i h. (
          let below : i < slice_count p = subst (λ (q : Parameters). i < slice_count q)
          (have.parameters ∙ own) h in
          ap is_some (have.came i below).2);
      parameters = have.parameters ∙ own;
    }
      where
        same : map sound_at (range_with_len 0 (slice_count p)) ≡ slices_of new
        same =
            let seen = λ (s : Option Coefficients). unwrap_or s no_coefficients in
            let long = length-map-range_with_len sound_at 0 (slice_count p) in
            let count = have.entries ∙ entries in
            ext_get_or no_coefficients (map sound_at (range_with_len 0 (slice_count p)))
            (slices_of new) (long ∙ sym (length-map new.slices seen ∙ count))
            (λ i h. (
            let lt : i < slice_count p = omega (arith, long) in
            let came = have.came i lt in
            get_or-map-range_with_len sound_at 0 (slice_count p) i i no_coefficients lt (omega arith)
            ∙ ap (λ (d : Decoding). unwrap_or (if_sound d) no_coefficients) came.1
            ∙ sym (get_or-map seen new.slices i None no_coefficients (omega (arith, count, lt))
            ∙ ap seen came.2)))

    pub one_unsound : (i : ℕ) (why : Unsound) → i < slice_count p → decoding i ≡ Err why
        → sound_slices decoding (range_with_len 0 (slice_count p)) ≡ None
    one_unsound i why h e = unsound_any 0 (slice_count p) i why (omega arith) (omega (arith, h)) e

-- ---- other decodings

-- the same slices, where each comes to the same
pub same_sound : (f g : ℕ → Decoding) → ((i : ℕ) → f i ≡ g i) → (is : List ℕ)
    → sound_slices f is ≡ sound_slices g is
same_sound f g same [] = refl
same_sound f g same (i ∷ is) = grind (arith, same_sound f g same is)

-- ---- tests

pub none_is : {X : Type 0} (o : Option X) → is_some o ≡ false → o ≡ None
none_is None e = refl
none_is (Some x) e = absurd cc
