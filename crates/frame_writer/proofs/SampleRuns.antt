-- The samples that are read from bytes.
use Rattle.std.proofs.Common.{◌≡◌, ℕ, suc, ◌+◌, ◌*◌, ◌<◌, List, [], ◌∷◌, length, drop, get_or, arith, refl, ap, sym, ◌∙◌, true, false}
use Rattle.std.proofs.lemmas.List.{same_lists, get_or_default}
use Rattle.byteorder.specs.Endian.{little_number, IsRead}
use Rattle.frame_writer.specs.FrameBytes.{samples_of_bytes}

-- numbers of two bytes each
pub wide_read : (samples bytes : List ℕ) → length bytes ≡ 2 * length samples → IsRead little_number 2 bytes samples → samples ≡ samples_of_bytes true bytes
unfolding samples_of_bytes
wide_read [] [] long read = refl
wide_read [] (low ∷ bytes) long read = absurd (omega (arith, long))
wide_read (x ∷ samples) [] long read = absurd (omega (arith, long))
wide_read (x ∷ samples) (low ∷ []) long read = absurd (omega (arith, long))
wide_read (x ∷ samples) (low ∷ high ∷ bytes) long read =
    let first : x ≡ low + 256 * high = read 0 (omega arith) ∙ omega arith in
    let behind : samples ≡ samples_of_bytes true bytes = wide_read samples bytes (omega (arith, long)) (λ k below. read (suc k) (omega arith) ∙ ap (little_number 2) (next k)) in
    ap (λ (y : ℕ). y ∷ samples) first ∙ ap (λ (l : List ℕ). (low + 256 * high) ∷ l) behind
  where
    next : (k : ℕ) → drop (2 * suc k) (low ∷ high ∷ bytes) ≡ drop (2 * k) bytes
    next k = ap (λ (n : ℕ). drop n (low ∷ high ∷ bytes)) two where
      two : 2 * suc k ≡ suc (suc (2 * k))
      two = omega arith

-- a byte each
pub narrow_samples : (samples bytes : List ℕ) → length bytes ≡ length samples → ((k : ℕ) → k < length samples → get_or samples k 0 ≡ get_or bytes k 0) → samples ≡ samples_of_bytes false bytes
unfolding samples_of_bytes
narrow_samples samples bytes long same =
    same_lists samples bytes (sym long) (λ k d below. get_or_default samples k d 0 below ∙ same k below ∙ get_or_default bytes k 0 d (omega (arith, long)))
