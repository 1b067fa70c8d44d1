-- The planes of a picture by the answers to its slices are those of its own whole bytes.
use Rattle.std.proofs.Common.{◌≡◌, ℕ, zero, suc, ◌+◌, ◌<◌, ◌≤◌, true, false, refl, ap, sym}
use Rattle.std.proofs.Common.{List, [], ◌∷◌, ◌++◌, length, map, Option, Some, None}
use Rattle.std.proofs.Common.{Result, Ok, Err, ◌∙◌, arith}
use Rattle.std.specs.Prelude.{is_some, unwrap_or}
use Rattle.std.specs.List.{range_with_len}
use Rattle.std.specs.Option.{option_and_then, option_map}
use Rattle.std.proofs.Math.Seq.{drop-append_seam, take-append_seam}
use Rattle.std.proofs.lemmas.Bool.{false≢true}
use Rattle.std.proofs.lemmas.List.FromFn.{length-map-range_with_len}
use Rattle.std.proofs.lemmas.Option.{none-some}
use Rattle.link_model.specs.Books.{book_of, gathered_of, slot_at}
use Rattle.link_model.specs.Complete.{slice_numbers, has_all_slices, all_bytes, whole_of}
use Rattle.link_model.specs.Complete.{whole_picture, picture_planes}
use Rattle.machine_model.specs.Feeders.{SliceAnswer, answer_in}
use Rattle.machine_model.specs.Feeding.{sound_answer, with_first, sound_answers, planes_by}
use Rattle.link_model.specs.Kept.{Own, own, own_slice}
use Rattle.link_model.specs.Session.{Part}
use Rattle.link_model.proofs.Bookkeeping.{book_whole_is}
use Rattle.link_model.proofs.Releasing.{all_at, all_from}
use Rattle.link_model.proofs.Slots.{slot_inside}
use Rattle.link_model.proofs.WholeBytes.{SlicesStandAlone, decoded_whole, own_slice_whole}
use Rattle.vc_types.specs.Fields.{and_then, joined}
use Rattle.vc_types.specs.PictureBytes.{IsWholeSlice}
use Rattle.vc_types.specs.Pictures.{Picture, with_slices, slices_from}
use Rattle.vc_types.specs.Planes.{Planes, planes_of, decoded_planes}
use Rattle.vc_types.specs.SequenceHeader.{Sequence}
use Rattle.vc_types.specs.Slices.{Coefficients, slice_coefficients}
use Rattle.vc_types.specs.Subbands.{slice_count}
use Rattle.vc_types.specs.TransformParameters.{Parameters}
use Rattle.vc_types.proofs.WholeSlices.{whole_slice, slice_before}
use Rattle.vc_types.proofs.WholeSlices.{slices_from-sound, slices_from-unsound}
use Rattle.receiver_model.specs.Receptions.{Decoding, PictureAnswers, kept_answer}
use Rattle.receiver_model.specs.Releasing.{if_sound, sound_slices, slice_decoding}
use Rattle.receiver_model.specs.Releasing.{own_answer_at, gathered_planes, book_planes}
use Rattle.receiver_model.proofs.KeptAnswers.{kept_where_own}

-- ---- slices that are read one after another

abbrev read_slices : Result (List Coefficients × List ℕ) (Unit {0}) → Option (List Coefficients)
read_slices (Ok read) = Some read.0
read_slices (Err none) = None

none_left : (p : Parameters) (i : ℕ) (bytes : List ℕ) → slices_from p i 0 bytes ≡ Ok ([], bytes)
unfolding slices_from
none_left p i bytes = refl

first_read : (s : Coefficients) (r : Result (List Coefficients × List ℕ) (Unit {0}))
    → read_slices (and_then r (λ read. Ok (s ∷ read.0, read.1)))
    ≡ with_first (Some s) (read_slices r)
first_read s (Ok read) = refl
first_read s (Err none) = refl

module _ (p : Parameters) (bytes_of : ℕ → List ℕ) where
  abbrev each_decoded : ℕ → Decoding
  each_decoded k = slice_coefficients p k (bytes_of k)

  abbrev AreWhole : ℕ → ℕ → Type 0
  AreWhole i n = (k : ℕ) → i ≤ k → k < i + n → IsWholeSlice p (bytes_of k)

  slices_are : (n i : ℕ) → AreWhole i n
      → read_slices (slices_from p i n (joined (map bytes_of (range_with_len i n))))
      ≡ sound_slices each_decoded (range_with_len i n)
  slices_are zero i whole = ap read_slices (none_left p i [])
  slices_are (suc n) i whole =
      by_answer (each_decoded i) refl
      (slices_are n (i + 1) (λ k from to. whole k (omega arith) (omega arith)))
    where
      by_answer : (r : Decoding) → each_decoded i ≡ r
          → read_slices (slices_from p (i + 1) n (joined (map bytes_of (range_with_len (i + 1) n))))
          ≡ sound_slices each_decoded (range_with_len (i + 1) n)
          → read_slices (slices_from p i (suc n)
          (bytes_of i ++ joined (map bytes_of (range_with_len (i + 1) n))))
          ≡ with_first (if_sound r) (sound_slices each_decoded (range_with_len (i + 1) n))
      by_answer (Err why) is more =
          let rest = joined (map bytes_of (range_with_len (i + 1) n)) in
          ap read_slices (slices_from-unsound p i n (length (bytes_of i)) (bytes_of i ++ rest) why
          (slice_before p.prefix p.scaler (bytes_of i) rest (whole i (omega arith) (omega arith)))
          (ap (slice_coefficients p i) (take-append_seam (bytes_of i) rest) ∙ is))
      by_answer (Ok s) is more =
          let rest = joined (map bytes_of (range_with_len (i + 1) n)) in
          ap read_slices (slices_from-sound p i n (length (bytes_of i)) (bytes_of i ++ rest) s
          (slice_before p.prefix p.scaler (bytes_of i) rest (whole i (omega arith) (omega arith)))
          (ap (slice_coefficients p i) (take-append_seam (bytes_of i) rest) ∙ is))
          ∙ ap (λ (l : List ℕ). read_slices
          (and_then (slices_from p (i + 1) n l) (λ read. Ok (s ∷ read.0, read.1))))
          (drop-append_seam (bytes_of i) rest)
          ∙ first_read s (slices_from p (i + 1) n rest)
          ∙ ap (with_first (Some s)) more

-- ---- lists of answers

sound_same : (f g : ℕ → Decoding) (m a : ℕ) → ((k : ℕ) → a ≤ k → k < a + m → f k ≡ g k)
    → sound_slices f (range_with_len a m) ≡ sound_slices g (range_with_len a m)
sound_same f g zero a each = refl
sound_same f g (suc m) a each = grind (arith, sound_same f g m (a + 1))

module _ (decoded : List SliceAnswer) (n : ℕ) where
  answers_sound : (f : ℕ → Decoding) (m a : ℕ)
      → ((k : ℕ) → a ≤ k → k < a + m → answer_in decoded n k ≡ Some (f k))
      → sound_answers decoded n (range_with_len a m) ≡ sound_slices f (range_with_len a m)
  answers_sound f zero a each = refl
  answers_sound f (suc m) a each = grind (arith, answers_sound f m (a + 1))

  -- where each is sound, each is there
  all_there : (m a : ℕ) (l : List Coefficients)
      → sound_answers decoded n (range_with_len a m) ≡ Some l
      → (k : ℕ) → a ≤ k → k < a + m → is_some (answer_in decoded n k) ≡ true
  all_there zero a l is k from to = absurd (omega arith)
  all_there (suc m) a l is k from to =
      by_first (answer_in decoded n a) refl
      (sound_answers decoded n (range_with_len (a + 1) m)) refl
      is (λ rest at less. all_there m (a + 1) rest at k (omega arith) (omega arith))
    where
      zipped : (s : Coefficients) (o : Option (List Coefficients)) → with_first (Some s) o ≡ Some l
          → (rest : List Coefficients) × (o ≡ Some rest)
      zipped s None e = absurd (none-some l e)
      zipped s (Some rest) e = (rest, refl)

      by_first : (o : Option Decoding) → answer_in decoded n a ≡ o
          → (rest : Option (List Coefficients))
          → sound_answers decoded n (range_with_len (a + 1) m) ≡ rest
          → with_first (sound_answer o) rest ≡ Some l
          → ((l : List Coefficients) → sound_answers decoded n (range_with_len (a + 1) m) ≡ Some l
          → a < k → is_some (answer_in decoded n k) ≡ true)
          → is_some (answer_in decoded n k) ≡ true
      by_first None at rest more e later = absurd (none-some l e)
      by_first (Some (Err why)) at rest more e later = absurd (none-some l e)
      by_first (Some (Ok s)) at rest more e later = grind (arith, zipped)

-- ---- a picture that keeps something

pub no_own_planes : (s : Sequence) (parts : List Part) → own s parts ≡ None
    → picture_planes s parts ≡ None
unfolding whole_picture
no_own_planes s parts none =
    ap (λ (o : Option Own). option_and_then (decoded_planes s) (option_and_then whole_of o)) none

module _ (s : Sequence) (parts : List Part) (kept : Own) (is : own s parts ≡ Some kept) where
  abbrev count : ℕ
  count = slice_count kept.plan.parameters

  abbrev pub own_decoding : ℕ → Decoding
  own_decoding k = slice_coefficients kept.plan.parameters k (unwrap_or (own_slice kept k) [])

  abbrev pub own_planes : Option Planes
  own_planes =
      option_map (planes_of kept.plan.parameters) (sound_slices own_decoding (slice_numbers kept))

  alone : SlicesStandAlone kept.plan.parameters
  alone bytes len e =
      whole_slice kept.plan.parameters.prefix kept.plan.parameters.scaler bytes len e

  pub incomplete_planes : has_all_slices kept ≡ false → picture_planes s parts ≡ None
  unfolding whole_picture
  incomplete_planes misses = grind arith

  module _ (complete : has_all_slices kept ≡ true) where
    one_kept : (k : ℕ) → k < count → is_some (own_slice kept k) ≡ true
    unfolding has_all_slices
    one_kept k below =
        all_at (λ i. is_some (own_slice kept i)) 0 count k complete (omega arith) (omega arith)

    pub one_whole : (k : ℕ) → k < count
        → IsWholeSlice kept.plan.parameters (unwrap_or (own_slice kept k) [])
    one_whole k below = by_slice (own_slice kept k) refl (one_kept k below)
      where
        by_slice : (o : Option (List ℕ)) → own_slice kept k ≡ o → is_some o ≡ true
            → IsWholeSlice kept.plan.parameters (unwrap_or o [])
        by_slice None at e = absurd (false≢true e)
        by_slice (Some bytes) at e = own_slice_whole s parts kept is alone k bytes at

    with_planes : (r : Result (List Coefficients × List ℕ) (Unit {0}))
        → option_map (λ (picture : Picture). planes_of picture.parameters picture.slices)
        (with_slices kept.plan.parameters r)
        ≡ option_map (planes_of kept.plan.parameters) (read_slices r)
    with_planes (Ok read) = refl
    with_planes (Err none) = refl

    whole_planes : decoded_planes s (all_bytes kept) ≡ own_planes
    unfolding decoded_planes
    whole_planes = grind (arith, decoded_whole, one_whole, slices_are, with_planes)

    pub complete_planes : picture_planes s parts ≡ own_planes
    unfolding whole_picture
    complete_planes = grind (arith, whole_planes)

  -- ---- by the feeder's answers

  module _ (n : ℕ) (decoded : List SliceAnswer) where
    -- each answer is the decoding of a slice that is kept
    abbrev pub AreOfKept : Type 0
    AreOfKept = (k : ℕ) (d : Decoding) → answer_in decoded n k ≡ Some d
        → (is_some (own_slice kept k) ≡ true) × (d ≡ own_decoding k)

    module _ (own_answers : AreOfKept) where
      known : (k : ℕ) → is_some (answer_in decoded n k) ≡ true
          → (is_some (own_slice kept k) ≡ true) × (answer_in decoded n k ≡ Some (own_decoding k))
      known k some = grind arith

      pub answered_planes_are : ((k : ℕ) → k < count → is_some (answer_in decoded n k) ≡ true)
          → planes_by decoded n kept ≡ own_planes
      answered_planes_are each = grind (arith, answers_sound, known)

      has_all : ((k : ℕ) → k < count → is_some (answer_in decoded n k) ≡ true)
          → has_all_slices kept ≡ true
      unfolding has_all_slices
      has_all each = all_from (λ i. is_some (own_slice kept i)) 0 count
          (λ k from to. (known k (each k (omega arith))).0)

      -- planes by answers are the picture's
      pub answered_planes_hold : (planes : Planes) → planes_by decoded n kept ≡ Some planes
          → picture_planes s parts ≡ Some planes
      answered_planes_hold planes e =
          grind (arith, all_there, answered_planes_are, complete_planes, has_all)

      pub answered_planes_ready : has_all_slices kept ≡ true
          → ((k : ℕ) → k < count → is_some (answer_in decoded n k) ≡ true)
          → planes_by decoded n kept ≡ picture_planes s parts
      answered_planes_ready complete each =
          answered_planes_are each ∙ sym (complete_planes complete)

      pub answered_planes_missing : has_all_slices kept ≡ false → planes_by decoded n kept ≡ None
      answered_planes_missing misses = grind (arith, answered_planes_hold, incomplete_planes)

  -- ---- by the receiver's

  module _ (n : ℕ) (answers : List PictureAnswers)
      (own_answers : (k : ℕ) (d : Decoding) → kept_answer answers n k ≡ Some d → d ≡ own_decoding k)
    where
      one_decoding : (k : ℕ) → k < count
          → slice_decoding answers n (gathered_of kept) k ≡ own_decoding k
      one_decoding k below = by_answer (own_answer_at answers n (gathered_of kept) k) refl
        where
          by_answer : (o : Option Decoding) → own_answer_at answers n (gathered_of kept) k ≡ o
              → unwrap_or o (slice_coefficients kept.plan.parameters k
              (unwrap_or (slot_at (gathered_of kept).slots k) [])) ≡ own_decoding k
          by_answer None at = grind (arith, slot_inside)
          by_answer (Some d) at =
              own_answers k d (kept_where_own answers n (gathered_of kept) k d at)

      gathered_planes_are : gathered_planes answers n (gathered_of kept) ≡ own_planes
      gathered_planes_are = grind (arith, length-map-range_with_len, one_decoding, sound_same)

      pub gathered_planes_hold : has_all_slices kept ≡ true
          → gathered_planes answers n (gathered_of kept) ≡ picture_planes s parts
      gathered_planes_hold complete = gathered_planes_are ∙ sym (complete_planes complete)

-- the planes that a receiver makes of a picture are the picture's
module _ (s : Sequence) (parts : List Part) (n : ℕ) (answers : List PictureAnswers) where
  abbrev pub AreOwn : Type 0
  AreOwn = (kept : Own) → own s parts ≡ Some kept → (k : ℕ) (d : Decoding)
      → kept_answer answers n k ≡ Some d
      → d ≡ slice_coefficients kept.plan.parameters k (unwrap_or (own_slice kept k) [])

  pub book_planes_are : AreOwn → book_planes answers n (book_of s parts) ≡ picture_planes s parts
  unfolding whole_picture book_of
  book_planes_are own_answers = grind (arith, book_whole_is, gathered_planes_hold)
