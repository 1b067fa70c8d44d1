-- Bits that are packed into bytes are the bits of these bytes.
use Rattle.std.proofs.Common.{◌≡◌, ℕ, zero, suc, ◌-◌, ◌*◌, ◌/◌, ◌%◌, Bool, false, List, [], ◌∷◌, ◌++◌, length, sym, ap, ◌∙◌, arith, replicate, length-append, drop}
use Rattle.std.proofs.lemmas.List.{length-replicate}
use Rattle.vc_types.specs.Bits.{byte_bits, bits_of, number_of}
use Rattle.link_model.specs.SendingPictures.{packed_bits}
use Rattle.vc_types.specs.Fields.{filled_up}
use Rattle.vc_types.proofs.Bits.{bits_of-cons, bits_of-nil, length-bits_of, byte_bits-push}

byte_of_eight : (a b c d e f g h : Bool) → byte_bits (number_of (a ∷ b ∷ c ∷ d ∷ e ∷ f ∷ g ∷ h ∷ [])) ≡ a ∷ b ∷ c ∷ d ∷ e ∷ f ∷ g ∷ h ∷ []
unfolding byte_bits
byte_of_eight a b c d e f g h =
    byte_bits-push (number_of (a ∷ b ∷ c ∷ d ∷ e ∷ f ∷ g ∷ [])) h
    ∙ ap (λ (l : List Bool). drop 1 l ++ h ∷ []) (byte_bits-push (number_of (a ∷ b ∷ c ∷ d ∷ e ∷ f ∷ [])) g
    ∙ ap (λ (l : List Bool). drop 1 l ++ g ∷ []) (byte_bits-push (number_of (a ∷ b ∷ c ∷ d ∷ e ∷ [])) f
    ∙ ap (λ (l : List Bool). drop 1 l ++ f ∷ []) (byte_bits-push (number_of (a ∷ b ∷ c ∷ d ∷ [])) e
    ∙ ap (λ (l : List Bool). drop 1 l ++ e ∷ []) (byte_bits-push (number_of (a ∷ b ∷ c ∷ [])) d
    ∙ ap (λ (l : List Bool). drop 1 l ++ d ∷ []) (byte_bits-push (number_of (a ∷ b ∷ [])) c
    ∙ ap (λ (l : List Bool). drop 1 l ++ c ∷ []) (byte_bits-push (number_of (a ∷ [])) b
    ∙ ap (λ (l : List Bool). drop 1 l ++ b ∷ []) (byte_bits-push 0 a)))))))

packed_from : (bits : List Bool) (n : ℕ) → length bits ≡ 8 * n → bits_of (packed_bits bits) ≡ bits
unfolding packed_bits
packed_from [] n whole = bits_of-nil
packed_from (a ∷ b ∷ c ∷ d ∷ e ∷ f ∷ g ∷ h ∷ bits) zero whole = absurd (omega arith)
packed_from (a ∷ b ∷ c ∷ d ∷ e ∷ f ∷ g ∷ h ∷ bits) (suc n) whole =
    bits_of-cons (number_of (a ∷ b ∷ c ∷ d ∷ e ∷ f ∷ g ∷ h ∷ [])) (packed_bits bits)
    ∙ (λ i. byte_of_eight a b c d e f g h i ++ packed_from bits n (omega arith) i)
packed_from bits n whole = absurd (omega arith)

-- bits whose count is a multiple of eight
pub bits_of-packed_bits : (bits : List Bool) → length bits % 8 ≡ 0 → bits_of (packed_bits bits) ≡ bits
bits_of-packed_bits bits whole = packed_from bits (length bits / 8) (omega arith)

pub length-packed_bits : (bits : List Bool) → length bits % 8 ≡ 0 → 8 * length (packed_bits bits) ≡ length bits
length-packed_bits bits whole = sym (length-bits_of (packed_bits bits)) ∙ ap length (bits_of-packed_bits bits whole)

-- bits that are filled up to the edge of a byte
pub bits_of-filled : (bits : List Bool) → bits_of (packed_bits (filled_up bits)) ≡ filled_up bits
bits_of-filled bits = bits_of-packed_bits (filled_up bits) (omega (arith, length-append bits (replicate ((8 - length bits % 8) % 8) false), length-replicate {A = Bool} ((8 - length bits % 8) % 8) false))
