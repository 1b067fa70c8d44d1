-- The bytes of samples, as they are put into a buffer.
use Rattle.std.proofs.Common.{◌≡◌, ℕ, ◌<◌, ◌/◌, ◌%◌, true, false, List, [], ◌∷◌, length, get_or, arith, ◌∙◌, sym, ap}
use mathlib.Core.Path.{fun_ext}
use Rattle.std.specs.List.{flat_map}
use Rattle.std.proofs.lemmas.List.{map-id, same_lists, get_or_default}
use Rattle.std.proofs.lemmas.List.Concat.{flat_map_single}
use Rattle.byteorder.specs.Endian.{little_bytes}
use Rattle.vc_types.specs.RawFrames.{sample_bytes, samples_bytes}

little : (sample : ℕ) → little_bytes 2 sample ≡ sample_bytes true sample
unfolding sample_bytes
little sample = ap (λ (n : ℕ). n % 256 ∷ sample / 256 % 256 ∷ []) (omega arith)

pub samples_bytes-wide : (samples : List ℕ) → flat_map (little_bytes 2) samples ≡ samples_bytes true samples
samples_bytes-wide samples = ap (λ (f : ℕ → List ℕ). flat_map f samples) (fun_ext little)

pub samples_bytes-narrow : (samples : List ℕ) → samples_bytes false samples ≡ samples
unfolding sample_bytes
samples_bytes-narrow samples = flat_map_single (λ (n : ℕ). n) samples ∙ map-id samples

-- a list that holds the samples
pub narrow_put : (samples bytes : List ℕ) → length bytes ≡ length samples → ((k : ℕ) → k < length samples → get_or bytes k 0 ≡ get_or samples k 0) → bytes ≡ samples_bytes false samples
narrow_put samples bytes long same =
    same_lists bytes samples long (λ k d below. get_or_default bytes k d 0 below ∙ same k (omega arith) ∙ get_or_default samples k 0 d (omega arith))
    ∙ sym (samples_bytes-narrow samples)
