-- A field that is read from bytes is read again from the bytes that it used, whatever follows them.
use Rattle.std.proofs.Common.{◌≡◌, ℕ, ◌+◌, ◌*◌, ◌%◌, Bool, List, ◌++◌, length, take, Ok, sym, ap, ◌∙◌, append_assoc, length-append, arith}
use Rattle.std.proofs.lemmas.List.{length-take}
use Rattle.std.proofs.Math.Seq.{take-append-add}
use Rattle.vc_types.specs.Bits.{bits_of}
use Rattle.vc_types.specs.Fields.{Field}
use Rattle.vc_types.specs.SequenceHeader.{bytes_used}
use Rattle.vc_types.proofs.Bits.{bits_of-append, take-bits_of, length-bits_of}
use Rattle.vc_types.proofs.OwnBits.{ReadsOwn}

-- how the value is read where these bytes stand before others
pub record ReadAgain {E X : Type 0} (field : Field Bool E X) (bytes more : List ℕ) (x : X) : Type 0 where
  pub left : List Bool
  pub read : field (bits_of (bytes ++ more)) ≡ Ok (x, left)
  pub used : bytes_used (bytes ++ more) left ≡ length bytes

-- the bits of the bytes that were used: those that the field read, and some up to the end of a byte
used_bits : (body : List ℕ) (own left : List Bool) → bits_of body ≡ own ++ left → bits_of (take (bytes_used body left) body) ≡ own ++ take (length left % 8) left
used_bits body own left whole =
    let lengths : 8 * length body ≡ length own + length left = sym (length-bits_of body) ∙ ap length whole ∙ length-append own left in
    let used : 8 * bytes_used body left ≡ length own + length left % 8 = omega (arith, lengths) in
    sym (take-bits_of (bytes_used body left) body) ∙ ap (λ (n : ℕ). take n (bits_of body)) used ∙ ap (take (length own + length left % 8)) whole ∙ take-append-add own left (length left % 8)

pub read_again : {E X : Type 0} (field : Field Bool E X) → ReadsOwn field → (body : List ℕ) (x : X) (left : List Bool) → field (bits_of body) ≡ Ok (x, left) → (more : List ℕ) → ReadAgain field (take (bytes_used body left) body) more x
read_again {E = E} {X = X} field own body x left h more =
    let part = own.own (bits_of body) x left h in
    let bytes = take (bytes_used body left) body in
    let pad = take (length left % 8) left in
    let regrouped : bits_of (bytes ++ more) ≡ part.0 ++ (pad ++ bits_of more) = bits_of-append bytes more ∙ ap (λ (l : List Bool). l ++ bits_of more) (used_bits body part.0 left part.1) ∙ append_assoc part.0 pad (bits_of more) in
    let pad_length : length pad ≡ length left % 8 = length-take (length left % 8) left ∙ omega arith in
    let left_length : length (pad ++ bits_of more) ≡ length left % 8 + 8 * length more = length-append pad (bits_of more) ∙ omega (arith, pad_length, length-bits_of more) in
    record {
      left = pad ++ bits_of more;
      read = ap field regrouped ∙ part.2 (pad ++ bits_of more);
      used = omega (arith, left_length, length-append bytes more);
    }
