-- Transform parameters are read as they are spelled, and each part of them.
use Rattle.std.proofs.Common.{◌≡◌, ℕ, zero, suc, ◌+◌, ◌-◌, ◌*◌, ◌^◌, ◌≤◌, Bool, true, false, cond, eqb, leb, List, [], ◌∷◌, ◌++◌, length, Option, Some, None, refl, sym, ap, ◌∙◌, append_assoc, arith, lit≤}
use Rattle.std.specs.Prelude.{IsTrue, IfSome, IsSome, MatchOption, unwrap_or, ◌&&◌}
use Rattle.std.proofs.lemmas.Bool.{leb-true, le-leb, and_parts, and_from}
use Rattle.vc_types.specs.Codes.{uint_bits}
use Rattle.vc_types.specs.Fields.{◌>>=◌, give, tested, behind_flag, flagged_bits, flagged_value, joined, pair_bits, IsCodec}
use Rattle.vc_types.specs.Limits.{slices_fit, slice_bytes_fit, padded_luma_fits, matrix_fits}
use Rattle.vc_types.specs.ParameterSpelling.{ParameterSpelling, extension_bits, numbers_bits, parameter_bits, across_of, spelled_parameters, MayCode, IsMatrix, AreParameters}
use Rattle.vc_types.specs.Quantisation.{filled_matrix, subband_count}
use Rattle.vc_types.specs.SequenceHeader.{Sequence, picture_shape}
use Rattle.vc_types.specs.TransformParameters.{Parameters, Transform, ParamsField, number, wavelet_index, wavelet_depth, extended_parameters, slice_counts, prefix_bytes, size_scaler, matrix_value, matrix_values, matrix_by_default, default_of, quantisation_matrix, wavelet_transform, with_matrix, transform_parameters}
use Rattle.vc_types.specs.declared.refusal.ParamsRefusal.{ParamsRefusal}
use Rattle.vc_types.specs.declared.refusal.ParamsRefusal.TheVariants as refusals
use Rattle.vc_types.proofs.FieldCodecs.{give_codec, give_if_codec, then_codec, mapped_codec, retold, number_codec, tested_codec, plain_flag_codec, flag_choice_codec}

-- ---- numbers

number_is : IsCodec number uint_bits (λ n. n) (λ n. n ≤ 2 ^ 32 - 1)
unfolding number
number_is = number_codec refusals.Short refusals.TooLarge (2 ^ 32 - 1)

at_most_is : (limit : ℕ) (refusal : ParamsRefusal) → limit ≤ 2 ^ 32 - 1 → IsCodec (tested (λ n. leb n limit) refusal number) uint_bits (λ n. n) (λ n. n ≤ limit)
at_most_is limit refusal small = retold uint_bits (λ n. n) (λ n. n ≤ limit) (λ (n : ℕ). n) (λ (n : ℕ). n)
    (λ n ok. (leb-true n limit ok.1, refl, refl))
    (λ n ok. ((omega arith, le-leb n limit ok), refl, refl))
    (tested_codec (λ n. leb n limit) refusal number_is)

between_is : (low high : ℕ) (refusal : ParamsRefusal) → high ≤ 2 ^ 32 - 1 → IsCodec (tested (λ n. leb low n && leb n high) refusal number) uint_bits (λ n. n) (λ n. (low ≤ n) × (n ≤ high))
between_is low high refusal small = retold uint_bits (λ n. n) (λ n. (low ≤ n) × (n ≤ high)) (λ (n : ℕ). n) (λ (n : ℕ). n)
    (λ n ok. let p = and_parts (leb low n) (leb n high) ok.1 in ((leb-true low n p.0, leb-true n high p.1), refl, refl))
    (λ n ok. ((omega (arith, ok.1), and_from (leb low n) (leb n high) (le-leb low n ok.0) (le-leb n high ok.1)), refl, refl))
    (tested_codec (λ n. leb low n && leb n high) refusal number_is)

wavelet_is : IsCodec wavelet_index uint_bits (λ n. n) (λ n. n ≤ 6)
unfolding wavelet_index
wavelet_is = at_most_is 6 refusals.Wavelet (lit≤ tt)

depth_is : IsCodec wavelet_depth uint_bits (λ n. n) (λ n. (1 ≤ n) × (n ≤ 5))
unfolding wavelet_depth
depth_is = between_is 1 5 refusals.Depth (lit≤ tt)

prefix_is : IsCodec prefix_bytes uint_bits (λ n. n) (λ n. n ≤ 65535)
unfolding prefix_bytes
prefix_is = at_most_is 65535 refusals.SliceBytes (lit≤ tt)

scaler_is : IsCodec size_scaler uint_bits (λ n. n) (λ n. (1 ≤ n) × (n ≤ 65535))
unfolding size_scaler
scaler_is = between_is 1 65535 refusals.SliceBytes (lit≤ tt)

-- ---- the wavelet and the depth across

abbrev pub ArePartsAcross : Bool → ℕ → Option ℕ × Option ℕ → Type 0
ArePartsAcross true depth e = IfSome e.0 (λ n. n ≤ 6) × IfSome e.1 (λ n. (n ≤ 2 ^ 32 - 1) × IsTrue (leb (depth + n) 5))
ArePartsAcross false depth e = (e.0 ≡ None) × (e.1 ≡ None)

abbrev pub across_value : ℕ → Option ℕ × Option ℕ → ℕ × ℕ
across_value wavelet e = (unwrap_or e.0 wavelet, unwrap_or e.1 0)

abbrev coded_across : ℕ → ℕ → ParamsField (ℕ × ℕ)
coded_across wavelet depth = behind_flag refusals.Short wavelet wavelet_index >>= λ wavelet_ho. behind_flag refusals.Short 0 (tested (λ n. leb (depth + n) 5) refusals.Depth number) >>= λ depth_ho. give (wavelet_ho, depth_ho)

across_is : (extended : Bool) (wavelet depth : ℕ) → IsCodec (cond extended (coded_across wavelet depth) (give (wavelet, 0))) (λ (e : Option ℕ × Option ℕ). cond extended (joined (flagged_bits uint_bits e.0 ∷ flagged_bits uint_bits e.1 ∷ [])) []) (across_value wavelet) (ArePartsAcross extended depth)
across_is true wavelet depth = retold (λ (e : Option ℕ × Option ℕ). joined (flagged_bits uint_bits e.0 ∷ flagged_bits uint_bits e.1 ∷ [])) (across_value wavelet) (ArePartsAcross true depth) (λ (a : Option ℕ × (Option ℕ × Unit {0})). (a.0, a.1.0)) (λ (e : Option ℕ × Option ℕ). (e.0, (e.1, tt)))
    (λ a ok. ((ok.0, ok.1.0), refl, refl))
    (λ e ok. ((ok.0, (ok.1, tt)), refl, refl))
    (then_codec (plain_flag_codec refusals.Short wavelet wavelet_is) (λ (wavelet_ho : ℕ). then_codec (plain_flag_codec refusals.Short 0 (tested_codec (λ n. leb (depth + n) 5) refusals.Depth number_is)) (λ (depth_ho : ℕ). give_codec (wavelet_ho, depth_ho))))
across_is false wavelet depth = retold (λ (e : Option ℕ × Option ℕ). []) (across_value wavelet) (ArePartsAcross false depth) (λ (a : Unit {0}). (None, None)) (λ (e : Option ℕ × Option ℕ). tt)
    (λ a ok. ((refl, refl), refl, refl))
    (λ e ok. (tt, sym (ap (λ (o : Option ℕ). (unwrap_or o wavelet, unwrap_or e.1 0)) ok.0 ∙ ap (λ (o : Option ℕ). (wavelet, unwrap_or o 0)) ok.1), refl))
    (give_codec (wavelet, 0))

extended_is : (major wavelet depth : ℕ) → IsCodec (extended_parameters major wavelet depth) (extension_bits major) (across_value wavelet) (ArePartsAcross (eqb major 3) depth)
unfolding extended_parameters
extended_is major wavelet depth = across_is (eqb major 3) wavelet depth

-- ---- slices

slices_are_numbers : (p : ℕ × ℕ) → IsTrue (slices_fit p.0 p.1) → (p.0 ≤ 2 ^ 32 - 1) × (p.1 ≤ 2 ^ 32 - 1)
slices_are_numbers p fits =
    let whole = and_parts (leb 1 p.0 && leb p.0 65535 && (leb 1 p.1 && leb p.1 65535)) (leb (p.0 * p.1) 131072) fits in
    let sides = and_parts (leb 1 p.0 && leb p.0 65535) (leb 1 p.1 && leb p.1 65535) whole.0 in
    let across = leb-true p.0 65535 (and_parts (leb 1 p.0) (leb p.0 65535) sides.0).1 in
    let down = leb-true p.1 65535 (and_parts (leb 1 p.1) (leb p.1 65535) sides.1).1 in
    (omega (arith, across), omega (arith, down))

slices_are : IsCodec slice_counts pair_bits (λ p. p) (λ p. IsTrue (slices_fit p.0 p.1))
unfolding slice_counts
slices_are = retold pair_bits (λ (p : ℕ × ℕ). p) (λ p. IsTrue (slices_fit p.0 p.1)) (λ (a : ℕ × (ℕ × Unit {0})). (a.0, a.1.0)) (λ (p : ℕ × ℕ). (p.0, (p.1, tt)))
    (λ a ok. (ok.1, refl, refl))
    (λ p ok. ((((slices_are_numbers p ok).0, ((slices_are_numbers p ok).1, tt)), ok), refl, refl))
    (tested_codec (λ n. slices_fit n.0 n.1) refusals.Slices (then_codec number_is (λ (across : ℕ). then_codec number_is (λ (down : ℕ). give_codec (across, down)))))

slice_bytes_is : (prefix scaler : ℕ) → prefix ≤ 65535 → 1 ≤ scaler → scaler ≤ 65535 → IsTrue (slice_bytes_fit prefix scaler)
slice_bytes_is prefix scaler a b c = and_from (leb prefix 65535 && leb 1 scaler) (leb scaler 65535) (and_from (leb prefix 65535) (leb 1 scaler) (le-leb prefix 65535 a) (le-leb 1 scaler b)) (le-leb scaler 65535 c)

slice_bytes_are : (prefix scaler : ℕ) → IsTrue (slice_bytes_fit prefix scaler) → (prefix ≤ 65535) × ((1 ≤ scaler) × (scaler ≤ 65535))
slice_bytes_are prefix scaler fits =
    let whole = and_parts (leb prefix 65535 && leb 1 scaler) (leb scaler 65535) fits in
    let front = and_parts (leb prefix 65535) (leb 1 scaler) whole.0 in
    (leb-true prefix 65535 front.0, (leb-true 1 scaler front.1, leb-true scaler 65535 whole.1))

-- ---- the matrix

matrix_value_is : IsCodec matrix_value uint_bits (λ n. n) (λ n. n ≤ 127)
unfolding matrix_value
matrix_value_is = at_most_is 127 refusals.Matrix (lit≤ tt)

abbrev pub AreValues : ℕ → List ℕ → Type 0
AreValues n values = (length values ≡ n) × IsTrue (matrix_fits values)

abbrev front_of : List ℕ → ℕ × List ℕ
front_of [] = (0, [])
front_of (v ∷ vs) = (v, vs)

values_are : (n : ℕ) → IsCodec (matrix_values n) numbers_bits (λ l. l) (AreValues n)
unfolding matrix_values
values_are zero = retold numbers_bits (λ (l : List ℕ). l) (AreValues 0) (λ (a : Unit {0}). []) (λ (l : List ℕ). tt)
    (λ a ok. ((refl, refl), refl, refl))
    (λ l ok. none l ok.0)
    (give_codec [])
  where
    none : (l : List ℕ) → length l ≡ 0 → Unit {0} × ([] ≡ l) × (numbers_bits l ≡ [])
    none [] e = (tt, refl, refl)
    none (v ∷ vs) e = absurd (omega (arith, e))
values_are (suc n) = retold numbers_bits (λ (l : List ℕ). l) (AreValues (suc n)) (λ (a : ℕ × List ℕ). a.0 ∷ a.1) front_of
    (λ a ok. ((omega (arith, ok.1.0), and_from (leb a.0 127) (matrix_fits a.1) (le-leb a.0 127 ok.0) ok.1.1), refl, refl))
    some
    (then_codec matrix_value_is (λ (v : ℕ). mapped_codec (λ vs. v ∷ vs) (values_are n)))
  where
    some : (l : List ℕ) → AreValues (suc n) l → (((front_of l).0 ≤ 127) × AreValues n (front_of l).1) × ((front_of l).0 ∷ (front_of l).1 ≡ l) × (numbers_bits l ≡ uint_bits (front_of l).0 ++ numbers_bits (front_of l).1)
    some [] ok = absurd (omega (arith, ok.0))
    some (v ∷ vs) ok =
        let small = and_parts (leb v 127) (matrix_fits vs) ok.1 in
        ((leb-true v 127 small.0, (omega (arith, ok.0), small.1)), refl, refl)

default_is : (m : Option (List ℕ)) → IsCodec (matrix_by_default m) (λ (a : Unit {0}). []) (λ a. unwrap_or m []) (λ a. IsSome m)
default_is None = record {
  takes = λ all x rest h. absurd cc;
  again = λ a rest ok. absurd cc;
}
default_is (Some m) = retold (λ (a : Unit {0}). []) (λ a. m) (λ a. IsSome (Some m)) (λ (a : Unit {0}). a) (λ (a : Unit {0}). a)
    (λ a ok. (refl, refl, refl))
    (λ a ok. (tt, refl, refl))
    (give_codec m)

matrix_is : (wavelet depth : ℕ) (across : ℕ × ℕ) → IsCodec (quantisation_matrix wavelet depth across) (flagged_bits numbers_bits) (flagged_value (unwrap_or (default_of wavelet depth across) []) filled_matrix) (λ m. MatchOption m (IsSome (default_of wavelet depth across)) (AreValues (subband_count across.1 depth)))
unfolding quantisation_matrix
matrix_is wavelet depth across = flag_choice_codec refusals.Short (mapped_codec filled_matrix (values_are (subband_count across.1 depth))) (default_is (default_of wavelet depth across))

-- ---- the transform, and the end with the matrix

-- a transform as it is spelled: the wavelet, the depth, and the parts across
abbrev pub TransformSpelling : Type 0
TransformSpelling = ℕ × (ℕ × ((Option ℕ × Option ℕ) × Unit {0}))

abbrev pub transform_bits : ℕ → TransformSpelling → List Bool
transform_bits major a = joined (uint_bits a.0 ∷ uint_bits a.1.0 ∷ extension_bits major a.1.1.0 ∷ [])

abbrev pub spelled_transform : TransformSpelling → Transform
spelled_transform a = record { wavelet = a.0; depth = a.1.0; across = across_value a.0 a.1.1.0 }

abbrev pub IsTransform : ℕ → TransformSpelling → Type 0
IsTransform major a =
    (a.0 ≤ 6) × (((1 ≤ a.1.0) × (a.1.0 ≤ 5)) × (ArePartsAcross (eqb major 3) a.1.0 a.1.1.0 × Unit {0}))

pub transform_is : (major : ℕ)
    → IsCodec (wavelet_transform major) (transform_bits major) spelled_transform (IsTransform major)
unfolding wavelet_transform
transform_is major =
    then_codec wavelet_is (λ (wavelet : ℕ).
    then_codec depth_is (λ (depth : ℕ).
    then_codec (extended_is major wavelet depth) (λ (across : ℕ × ℕ).
    give_codec (record { wavelet = wavelet; depth = depth; across = across }))))

-- parameters by their transform, slice counts, prefix bytes and scaler, and matrix
abbrev pub parameters_with : Sequence → Transform → ℕ × ℕ → ℕ × ℕ → List ℕ → Parameters
parameters_with sequence t slices slice_bytes matrix = record {
  shape = picture_shape sequence;
  wavelet = t.wavelet;
  wavelet_ho = t.across.0;
  depth = t.depth;
  depth_ho = t.across.1;
  slices_x = slices.0;
  slices_y = slices.1;
  prefix = slice_bytes.0;
  scaler = slice_bytes.1;
  matrix = matrix;
}

-- a matrix of a transform as it is spelled, and what follows it, which is nothing
abbrev pub IsMatrixOf : Sequence → Transform → Option (List ℕ) × Unit {0} → Type 0
IsMatrixOf sequence t m =
    MatchOption m.0 (IsSome (default_of t.wavelet t.depth t.across))
    (AreValues (subband_count t.across.1 t.depth))
    × IsTrue (padded_luma_fits (picture_shape sequence) t.across.1 t.depth)

abbrev pub spelled_matrix : Transform → Option (List ℕ) → List ℕ
spelled_matrix t m =
    flagged_value (unwrap_or (default_of t.wavelet t.depth t.across) []) filled_matrix m

pub with_matrix_is : (sequence : Sequence) (t : Transform) (slices slice_bytes : ℕ × ℕ)
    → IsCodec (with_matrix sequence t slices slice_bytes)
    (λ (m : Option (List ℕ) × Unit {0}). joined (flagged_bits numbers_bits m.0 ∷ []))
    (λ m. parameters_with sequence t slices slice_bytes (spelled_matrix t m.0)) (IsMatrixOf sequence t)
unfolding with_matrix
with_matrix_is sequence t slices slice_bytes =
    then_codec (matrix_is t.wavelet t.depth t.across) (λ (matrix : List ℕ).
    give_if_codec (padded_luma_fits (picture_shape sequence) t.across.1 t.depth)
    (parameters_with sequence t slices slice_bytes matrix) refusals.TooLarge)

-- ---- the whole parameters

abbrev Parts : Type 0
Parts = TransformSpelling × ((ℕ × ℕ) × (ℕ × (ℕ × (Option (List ℕ) × Unit {0}))))

abbrev parts_told : Parts → ParameterSpelling
parts_told a = record {
  wavelet = a.0.0;
  depth = a.0.1.0;
  wavelet_ho = a.0.1.1.0.0;
  depth_ho = a.0.1.1.0.1;
  slices_x = a.1.0.0;
  slices_y = a.1.0.1;
  prefix = a.1.1.0;
  scaler = a.1.1.1.0;
  matrix = a.1.1.1.1.0;
}

abbrev parts_of : ParameterSpelling → Parts
parts_of s = (
  (s.wavelet, (s.depth, ((s.wavelet_ho, s.depth_ho), tt))),
  ((s.slices_x, s.slices_y), (s.prefix, (s.scaler, (s.matrix, tt)))),
)

matrix_told : (count : ℕ) (d : Type 0) (m : Option (List ℕ)) → MatchOption m d (AreValues count) → MatchOption m d (IsMatrix count)
matrix_told count d None ok = ok
matrix_told count d (Some m) ok = record { many = ok.0; small = ok.1 }

matrix_of : (count : ℕ) (d : Type 0) (m : Option (List ℕ)) → MatchOption m d (IsMatrix count) → MatchOption m d (AreValues count)
matrix_of count d None ok = ok
matrix_of count d (Some m) ok = (ok.many, ok.small)

-- the wavelet and the levels across are known
abbrev AreKnown : ℕ → ℕ × ℕ → Type 0
AreKnown depth across = (across.0 ≤ 6) × (depth + across.1 ≤ 5)

across_told : (extended : Bool) (wavelet depth : ℕ) (o p : Option ℕ) → wavelet ≤ 6 → depth ≤ 5 → ArePartsAcross extended depth (o, p) → MayCode extended (o, p) × AreKnown depth (across_value wavelet (o, p))
across_told true wavelet depth o p w d ok = (tt, (known o ok.0, few p ok.1))
  where
    known : (o : Option ℕ) → IfSome o (λ n. n ≤ 6) → unwrap_or o wavelet ≤ 6
    known None h = w
    known (Some n) h = h

    few : (p : Option ℕ) → IfSome p (λ n. (n ≤ 2 ^ 32 - 1) × IsTrue (leb (depth + n) 5)) → depth + unwrap_or p 0 ≤ 5
    few None h = omega arith
    few (Some n) h = leb-true (depth + n) 5 h.1
across_told false wavelet depth None None w d ok = (ok, (w, omega arith))
across_told false wavelet depth (Some n) p w d ok = let some = ok.0 in absurd cc
across_told false wavelet depth None (Some n) w d ok = let some = ok.1 in absurd cc

across_from : (extended : Bool) (wavelet depth : ℕ) (o p : Option ℕ) → MayCode extended (o, p) → AreKnown depth (across_value wavelet (o, p)) → ArePartsAcross extended depth (o, p)
across_from true wavelet depth o p may ok = (known o ok.0, few p ok.1)
  where
    known : (o : Option ℕ) → unwrap_or o wavelet ≤ 6 → IfSome o (λ n. n ≤ 6)
    known None h = tt
    known (Some n) h = h

    few : (p : Option ℕ) → depth + unwrap_or p 0 ≤ 5 → IfSome p (λ n. (n ≤ 2 ^ 32 - 1) × IsTrue (leb (depth + n) 5))
    few None h = tt
    few (Some n) h = (omega (arith, h), le-leb (depth + n) 5 h)
across_from false wavelet depth o p may ok = may

-- the bits behind the transform
abbrev slices_bits : ParameterSpelling → List Bool
slices_bits s = joined (
    pair_bits (s.slices_x, s.slices_y) ∷
    uint_bits s.prefix ∷
    uint_bits s.scaler ∷
    flagged_bits numbers_bits s.matrix ∷
    [])

module _ (sequence : Sequence) where
  abbrev extended : Bool
  extended = eqb sequence.major 3

  joined_bits : (a b c rest : List Bool) → (a ++ (b ++ (c ++ []))) ++ rest ≡ a ++ (b ++ (c ++ rest))
  joined_bits a b c rest = simp append_assoc

  regrouped : (s : ParameterSpelling)
      → transform_bits sequence.major (parts_of s).0 ++ slices_bits s ≡ parameter_bits sequence.major s
  regrouped s =
      joined_bits (uint_bits s.wavelet) (uint_bits s.depth)
      (extension_bits sequence.major (s.wavelet_ho, s.depth_ho)) (slices_bits s)

  abbrev ArePartsOf : Parts → Type 0
  ArePartsOf a =
      IsTransform sequence.major a.0
      × (IsTrue (slices_fit a.1.0.0 a.1.0.1)
      × ((a.1.1.0 ≤ 65535)
      × (((1 ≤ a.1.1.1.0) × (a.1.1.1.0 ≤ 65535))
      × IsMatrixOf sequence (spelled_transform a.0) a.1.1.1.1)))

  are_told : (a : Parts) → ArePartsOf a → AreParameters sequence (parts_told a)
  are_told a ok =
      let t = spelled_transform a.0 in
      let transform = ok.0 in
      let known = across_told extended t.wavelet t.depth a.0.1.1.0.0 a.0.1.1.0.1
      transform.0 transform.1.0.1 transform.1.1.0 in
      let bytes = ok.1.1 in
      let count = subband_count t.across.1 t.depth in
      let default = IsSome (default_of t.wavelet t.depth t.across) in
      record {
        wavelet = transform.0;
        wavelet_ho = known.1.0;
        some_levels = transform.1.0.0;
        few_levels = known.1.1;
        extension = known.0;
        slices = ok.1.0;
        slice_bytes = slice_bytes_is a.1.1.0 a.1.1.1.0 bytes.0 bytes.1.0.0 bytes.1.0.1;
        matrix = matrix_told count default a.1.1.1.1.0 bytes.1.1.0;
        padded_luma = bytes.1.1.1;
      }

  are_parts : (s : ParameterSpelling) → AreParameters sequence s → ArePartsOf (parts_of s)
  are_parts s ok =
      let few = ok.few_levels in
      let bytes = slice_bytes_are s.prefix s.scaler ok.slice_bytes in
      let across = across_from extended s.wavelet s.depth s.wavelet_ho s.depth_ho
      ok.extension (ok.wavelet_ho, few) in
      let count = subband_count (across_of s).1 s.depth in
      let default = IsSome (default_of s.wavelet s.depth (across_of s)) in
      let matrix = matrix_of count default s.matrix ok.matrix in (
        (ok.wavelet, ((ok.some_levels, omega (arith, few)), (across, tt))),
        (ok.slices, (bytes.0, (bytes.1, (matrix, ok.padded_luma)))),
      )

  -- What is read is spelled so, and what is spelled so is read, whatever follows.
  pub parameters_are : IsCodec (transform_parameters sequence) (parameter_bits sequence.major)
      (spelled_parameters sequence) (AreParameters sequence)
  unfolding transform_parameters
  parameters_are = retold (parameter_bits sequence.major) (spelled_parameters sequence)
      (AreParameters sequence) parts_told parts_of
      (λ a ok. (are_told a ok, refl, regrouped (parts_told a)))
      (λ s ok. (are_parts s ok, refl, sym (regrouped s)))
      (then_codec (transform_is sequence.major) (λ (t : Transform).
      then_codec slices_are (λ (slices : ℕ × ℕ).
      then_codec prefix_is (λ (prefix : ℕ).
      then_codec scaler_is (λ (scaler : ℕ).
      with_matrix_is sequence t slices (prefix, scaler))))))
