-- The bytes of a slice that was encoded are read again as its index and its blocks.
use Rattle.std.proofs.Common.{◌≡◌, ◌<◌, ◌≤◌, ℕ, zero, suc, ◌+◌, ◌-◌, ◌*◌, ◌/◌, Bool, true, false, List, [], ◌∷◌, ◌++◌, length, replicate, Some, Ok, refl, sym, ap, ◌∙◌, arith, append_assoc, length-append}
use Rattle.std.proofs.lemmas.Bool.{le-ltb, ltb-false, or_parts}
use Rattle.std.proofs.lemmas.Grind.{common_steps}
use Rattle.std.proofs.lemmas.List.{length-replicate, append-nil}
use Rattle.std.proofs.Math.Nat.{lt-div-mul-add}
use Rattle.std.proofs.Math.Seq.{take-append_seam, drop-append_seam}
use Rattle.vc_types.specs.Bits.{byte_bits, bits_of, number_of}
use Rattle.link_model.specs.SendingPictures.{packed_bits}
use Rattle.vc_types.specs.Encoding.{encoded_block, block_units, encoded_slice, component_bits, component_units, is_too_long}
use Rattle.vc_types.specs.Fields.{next_items}
use Rattle.vc_types.specs.Slices.{block, coded_slice, CodedSlice, Coefficients, slice_length}
use Rattle.vc_types.specs.TransformParameters.{Parameters}
use Rattle.vc_types.specs.declared.video.Component.TheVariants.{Y, C1, C2}
use Rattle.vc_types.proofs.Bits.{bits_of-cons, bits_of-nil}
use Rattle.vc_types.proofs.Digits.{number_of-byte}
use Rattle.link_model.proofs.PackedBits.{bits_of-packed_bits, length-packed_bits}

-- ---- bits packed one after another

packed_bits-byte : (byte : ℕ) (bits : List Bool) → byte < 256 → packed_bits (byte_bits byte ++ bits) ≡ byte ∷ packed_bits bits
unfolding packed_bits byte_bits
packed_bits-byte byte bits small = ap (λ (n : ℕ). n ∷ packed_bits bits) (number_of-byte byte small)

appended : (xs ys : List Bool) (n : ℕ) → length xs ≡ 8 * n → packed_bits (xs ++ ys) ≡ packed_bits xs ++ packed_bits ys
unfolding packed_bits
appended [] ys n whole = refl
appended (a ∷ b ∷ c ∷ d ∷ e ∷ f ∷ g ∷ h ∷ xs) ys zero whole = absurd (omega arith)
appended (a ∷ b ∷ c ∷ d ∷ e ∷ f ∷ g ∷ h ∷ xs) ys (suc n) whole = ap (λ (l : List ℕ). number_of (a ∷ b ∷ c ∷ d ∷ e ∷ f ∷ g ∷ h ∷ []) ∷ l) (appended xs ys n (omega arith))
appended xs ys n whole = absurd (omega arith)

head_bytes : (prefix index : ℕ) (bits : List Bool) → index < 256 → packed_bits (bits_of (replicate prefix 0 ++ index ∷ []) ++ bits) ≡ replicate prefix 0 ++ index ∷ packed_bits bits
head_bytes zero index bits small =
    grind (arith, append_assoc, bits_of-cons, bits_of-nil, packed_bits-byte, small)
head_bytes (suc prefix) index bits small =
    grind (arith, append_assoc, bits_of-cons, packed_bits-byte, small, head_bytes prefix index bits small)

-- ---- a block

-- the length of the block of some bits, in units of the slice size scaler
abbrev pub units_of : ℕ → List Bool → ℕ
units_of scaler bits = block_units scaler (length bits)

-- the codes, and ones up to the end
abbrev pub filled_block : ℕ → List Bool → List Bool
filled_block scaler bits = bits ++ replicate (8 * (units_of scaler bits * scaler) - length bits) true

abbrev pub block_bytes : ℕ → List Bool → List ℕ
block_bytes scaler bits = packed_bits (filled_block scaler bits)

enough : (scaler : ℕ) (bits : List Bool) → 0 < scaler → length bits ≤ 8 * (units_of scaler bits * scaler)
enough scaler bits some = omega (arith, lt-div-mul-add {a = (length bits + 7) / 8 + scaler - 1} some)

length-filled : (scaler : ℕ) (bits : List Bool) → 0 < scaler → length (filled_block scaler bits) ≡ 8 * (units_of scaler bits * scaler)
length-filled scaler bits some = omega (arith, enough scaler bits some, length-append bits (replicate (8 * (units_of scaler bits * scaler) - length bits) true), length-replicate {A = Bool} (8 * (units_of scaler bits * scaler) - length bits) true)

pub bits_of-block_bytes : (scaler : ℕ) (bits : List Bool) → 0 < scaler → bits_of (block_bytes scaler bits) ≡ filled_block scaler bits
bits_of-block_bytes scaler bits some = bits_of-packed_bits (filled_block scaler bits) (omega (arith, length-filled scaler bits some))

encoded_bytes : (scaler : ℕ) (bits more : List Bool) → 0 < scaler → units_of scaler bits < 256 → packed_bits (encoded_block scaler bits ++ more) ≡ units_of scaler bits ∷ (block_bytes scaler bits ++ packed_bits more)
unfolding encoded_block
encoded_bytes scaler bits more some small =
    let ones : List Bool = replicate (8 * (units_of scaler bits * scaler) - length bits) true in
    ap (λ (l : List Bool). packed_bits (l ++ more)) (append_assoc (byte_bits (units_of scaler bits)) bits ones)
    ∙ ap packed_bits (append_assoc (byte_bits (units_of scaler bits)) (bits ++ ones) more)
    ∙ packed_bits-byte (units_of scaler bits) (filled_block scaler bits ++ more) small
    ∙ ap (λ (l : List ℕ). units_of scaler bits ∷ l) (appended (filled_block scaler bits) more (units_of scaler bits * scaler) (length-filled scaler bits some))

-- ---- reading

items_front : (n : ℕ) (front rest : List ℕ) → length front ≡ n → next_items {T = ℕ} {E = Unit {0}} tt n (front ++ rest) ≡ Ok (front, rest)
items_front n front rest is = rw (sym is) (rw (le-ltb (length (front ++ rest)) (length front) (omega (arith, length-append front rest))) (λ i. Ok (take-append_seam front rest i, drop-append_seam front rest i)))

-- ---- a slice

module _ (p : Parameters) (slice index : ℕ) (s : Coefficients) (some : 0 < p.scaler) (known : index < 256) (fits : is_too_long p slice index s ≡ false) where
  abbrev pub coded : CodedSlice
  coded = record { index = index; y = block_bytes p.scaler (component_bits p slice index s Y); c1 = block_bytes p.scaler (component_bits p slice index s C1); c2 = block_bytes p.scaler (component_bits p slice index s C2) }

  record AreSmall : Type 0 where
    y : component_units p slice index s Y < 256
    c1 : component_units p slice index s C1 < 256
    c2 : component_units p slice index s C2 < 256

  small : AreSmall
  unfolding is_too_long
  small = grind (arith, ltb-false, or_parts)

  abbrev pub with_length : List ℕ → List Bool → List ℕ → List ℕ
  with_length own bits rest = units_of p.scaler bits ∷ (own ++ rest)

  abbrev pub laid_out : List ℕ → List ℕ
  laid_out behind = replicate p.prefix 0 ++ index ∷ with_length coded.y (component_bits p slice index s Y) (with_length coded.c1 (component_bits p slice index s C1) (with_length coded.c2 (component_bits p slice index s C2) behind))

  -- the bytes of a slice
  pub bytes_are : packed_bits (encoded_slice p slice index s) ≡ laid_out []
  unfolding encoded_slice packed_bits
  bytes_are =
      let head : List Bool = bits_of (replicate p.prefix 0 ++ index ∷ []) in
      let y : List Bool = component_bits p slice index s Y in
      let c1 : List Bool = component_bits p slice index s C1 in
      let c2 : List Bool = component_bits p slice index s C2 in
      let last : packed_bits (encoded_block p.scaler c2) ≡ with_length (block_bytes p.scaler c2) c2 [] =
      ap packed_bits (sym (append-nil (encoded_block p.scaler c2))) ∙ encoded_bytes p.scaler c2 [] some small.c2 ∙ ap (with_length (block_bytes p.scaler c2) c2) refl in
      let two : packed_bits (encoded_block p.scaler c1 ++ encoded_block p.scaler c2) ≡ with_length (block_bytes p.scaler c1) c1 (with_length (block_bytes p.scaler c2) c2 []) =
      encoded_bytes p.scaler c1 (encoded_block p.scaler c2) some small.c1 ∙ ap (with_length (block_bytes p.scaler c1) c1) last in
      grind (arith, append_assoc, c1, c2, encoded_bytes, head_bytes, small, y)

  pub read : (behind : List ℕ) → coded_slice p.prefix p.scaler (laid_out behind) ≡ Ok (coded, behind)
  unfolding coded_slice block
  read behind = grind (arith, items_front, length-replicate, length-filled, length-packed_bits)

  behind_it : (behind : List ℕ) → laid_out [] ++ behind ≡ laid_out behind
  behind_it behind = grind (arith, append_assoc)

  -- it is read as its index and its blocks, whatever follows
  pub coded_slice-encoded : (behind : List ℕ) → coded_slice p.prefix p.scaler (packed_bits (encoded_slice p slice index s) ++ behind) ≡ Ok (coded, behind)
  coded_slice-encoded behind = ap (λ (l : List ℕ). coded_slice p.prefix p.scaler (l ++ behind)) bytes_are ∙ ap (coded_slice p.prefix p.scaler) (behind_it behind) ∙ read behind

  -- so it is one whole slice
  pub slice_length-encoded : (behind : List ℕ) → slice_length p.prefix p.scaler (packed_bits (encoded_slice p slice index s) ++ behind) ≡ Some (length (packed_bits (encoded_slice p slice index s)))
  unfolding slice_length
  slice_length-encoded behind = grind (arith, common_steps, coded_slice-encoded, length-append)
