-- Bits that are packed into bytes are the bits of these bytes, and bytes are their own bits, packed.
use Rattle.std.proofs.Common.{◌≡◌, ℕ, suc, ◌<◌, Bool, List, [], ◌∷◌, ◌++◌, length, ap, ◌∙◌, arith, refl}
use Rattle.std.proofs.Math.ListN.{get_or}
use Rattle.link_model.specs.SendingPictures.{packed_bits}
use Rattle.vc_types.specs.Bits.{byte_bits, bits_of, number_of}
use Rattle.vc_types.proofs.Bits.{bits_of-cons, bits_of-nil}
use Rattle.vc_types.proofs.Digits.{number_of-byte}

packed_byte : (byte : ℕ) (bits : List Bool) → packed_bits (byte_bits byte ++ bits) ≡ number_of (byte_bits byte) ∷ packed_bits bits
unfolding packed_bits byte_bits
packed_byte byte bits = refl

pub packed_back : (bytes : List ℕ) → ((i : ℕ) → i < length bytes → get_or bytes i 0 < 256) → packed_bits (bits_of bytes) ≡ bytes
unfolding packed_bits
packed_back [] small = ap packed_bits bits_of-nil
packed_back (byte ∷ bytes) small =
    ap packed_bits (bits_of-cons byte bytes) ∙ packed_byte byte (bits_of bytes)
    ∙ (λ i. number_of-byte byte (small 0 (omega arith)) i ∷ packed_back bytes (λ k h. small (suc k) (omega arith)) i)
