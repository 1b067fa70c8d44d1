-- How a picture is completed: each slice that has no answer is decoded from its own bytes.
use Rattle.std.specs.Prelude.{◌≡◌, ◌≢◌, ◌<◌, ◌≤◌, ℕ, Bool, true, false, is_some, List, length}
use Rattle.std.specs.Prelude.{unwrap_or, [], Option, Some, None, Ok, Err}
use Rattle.std.specs.List.{range_with_len}
use Rattle.link_model.specs.Books.{Gathered, Book, book_slice, book_whole}
use Rattle.receiver_model.specs.Receptions.{Decoding}
use Rattle.receiver_model.specs.Releasing.{sound_slices}
use Rattle.receiver_model.specs.WholeBooks.{IsWholeBook}
use Rattle.picture_build.specs.Kept.{PartPicture, slice_that_came, with_slice, slices_of}
use Rattle.picture_build.specs.Kept.{HasAllSlices}
use Rattle.link_pictures.specs.SeenAnswers.{part_answer}
use Rattle.vc_types.specs.SequenceHeader.{Sequence}
use Rattle.vc_types.specs.Slices.{Coefficients, slice_coefficients, slice_length}
use Rattle.vc_types.specs.Subbands.{slice_count}
use Rattle.vc_types.specs.TransformParameters.{Parameters}
use Rattle.vc_types.specs.declared.refusal.Unsound.{Unsound}

-- the book, if there is one, has whole slices, and is of a picture of the sequence
abbrev pub IsWholeIfAny : Sequence → Option Book → Type 0
IsWholeIfAny s None = Unit {0}
IsWholeIfAny s (Some book) = IsWholeBook s book

-- of some sequence
abbrev pub IsWholeBySome : Option Book → Type 0
IsWholeBySome None = Unit {0}
IsWholeBySome (Some book) = (s : Sequence) × IsWholeBook s book

-- the parameters of a book that is complete
abbrev pub IsWholePlan : Book → Option Parameters → Type 0
IsWholePlan book None = is_some (book_whole book) ≡ false
IsWholePlan book (Some p) =
    (g : Gathered) × (book.gathered ≡ Some g) × (g.plan.parameters ≡ p)
    × (is_some (book_whole book) ≡ true)

-- each slice of the picture is in its book, whole
pub record HasWholeSlices (p : Parameters) (book : Book) : Type 0 where
  pub all : (i : ℕ) → i < slice_count p → is_some (book_slice book i) ≡ true
  pub whole : (i : ℕ) (bytes : List ℕ) → book_slice book i ≡ Some bytes
      → slice_length p.prefix p.scaler bytes ≡ Some (length bytes)

-- ---- one slice

abbrev pub book_bytes : Book → ℕ → List ℕ
book_bytes book i = unwrap_or (book_slice book i) []

-- its answer, or else what its bytes decode to
unfoldable pub comes_to : PartPicture → List (Option Unsound) → Book → ℕ → Decoding
comes_to part unsound book i =
    unwrap_or (part_answer part unsound i)
    (slice_coefficients part.parameters i (book_bytes book i))

-- the slice decodes soundly, and is put into the picture; or it is unsound
abbrev pub PutsDecoded : Decoding → ℕ → PartPicture → PartPicture → Bool → Type 0
PutsDecoded decoding i old new true =
    (s : Coefficients) × (decoding ≡ Ok s) × (new ≡ with_slice old i s)
PutsDecoded decoding i old new false = (why : Unsound) × (decoding ≡ Err why)

-- the slice is in the picture, and the others are as they were
pub record HasCome (decoding : Decoding) (i : ℕ) (old new : PartPicture) : Type 0 where
  pub coefficients : Coefficients
  pub sound : decoding ≡ Ok coefficients
  pub here : slice_that_came new i ≡ Some coefficients
  pub others : (k : ℕ) → k ≢ i → slice_that_came new k ≡ slice_that_came old k
  pub parameters : new.parameters ≡ old.parameters
  pub entries : length new.slices ≡ length old.slices

abbrev pub ComesInto : Decoding → ℕ → PartPicture → PartPicture → Bool → Type 0
ComesInto decoding i old new true = HasCome decoding i old new
ComesInto decoding i old new false = (why : Unsound) × (decoding ≡ Err why)

-- ---- all slices

-- the first slices have come, and the others are as they were
pub record HaveCome (decoding : ℕ → Decoding) (count : ℕ) (old new : PartPicture) : Type 0 where
  pub came : (i : ℕ) → i < count
      → (s : Coefficients) × (decoding i ≡ Ok s) × (slice_that_came new i ≡ Some s)
  pub others : (i : ℕ) → count ≤ i → slice_that_came new i ≡ slice_that_came old i
  pub parameters : new.parameters ≡ old.parameters
  pub entries : length new.slices ≡ length old.slices

pub record IsCompleted (decoding : ℕ → Decoding) (p : Parameters) (new : PartPicture)
    : Type 0 where
  pub slices : sound_slices decoding (range_with_len 0 (slice_count p)) ≡ Some (slices_of new)
  pub whole : HasAllSlices new
  pub parameters : new.parameters ≡ p

-- all slices are in the picture; or one of them is unsound
abbrev pub CompletesPicture : (ℕ → Decoding) → Parameters → PartPicture → Bool → Type 0
CompletesPicture decoding p new true = IsCompleted decoding p new
CompletesPicture decoding p new false =
    sound_slices decoding (range_with_len 0 (slice_count p)) ≡ None
