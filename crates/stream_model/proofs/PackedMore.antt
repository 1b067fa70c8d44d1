-- A picture more at the end of the pictures that are packed.
use Rattle.std.proofs.Common.{◌≡◌, ℕ, ◌+◌, List, [], ◌∷◌, ◌++◌, length, refl, ap, arith, append_assoc, append-nil, length-append}
use Rattle.stream_model.specs.Packing.{PackedPicture, packed_contents, packed_datagrams, packed_from, packed_picture, packed_timestamp, timestamp_behind}
use Rattle.stream_model.proofs.Contents.{how_many}
use Rattle.vc_types.specs.SenderSettings.{Packing}

module _ (s : Packing) where
  one_more : (before sequence : ℕ) (p : PackedPicture) → packed_from s before sequence (p ∷ []) ≡ packed_picture s before sequence p
  unfolding packed_from
  one_more before sequence p = append-nil (packed_picture s before sequence p)

  from_more : (before sequence : ℕ) (pictures : List PackedPicture) (p : PackedPicture)
      → packed_from s before sequence (pictures ++ p ∷ []) ≡ packed_from s before sequence pictures ++ packed_picture s (before + length pictures) (sequence + length (packed_from s before sequence pictures)) p
  unfolding packed_from
  from_more before sequence [] p = grind (arith, one_more)
  from_more before sequence (q ∷ pictures) p =
      grind (arith, how_many, length-append, append_assoc, from_more (before + 1) (sequence + length (packed_contents s q)) pictures)

  behind_more : (before t : ℕ) (pictures : List PackedPicture) (p : PackedPicture) → timestamp_behind s before t (pictures ++ p ∷ []) ≡ packed_timestamp s (before + length pictures) p.number
  unfolding timestamp_behind
  behind_more before t [] p = let here : before ≡ before + 0 = omega arith in ap (λ n. packed_timestamp s n p.number) here
  behind_more before t (q ∷ pictures) p =
      grind (arith, behind_more (before + 1) (packed_timestamp s before q.number) pictures p)

-- the datagrams of a picture more come after the others
pub packed_more : (s : Packing) (pictures : List PackedPicture) (p : PackedPicture) → packed_datagrams s (pictures ++ p ∷ []) ≡ packed_datagrams s pictures ++ packed_picture s (length pictures) (s.seq + length (packed_datagrams s pictures)) p
unfolding packed_datagrams
packed_more s pictures p = grind (arith, from_more)

-- and its timestamp is the last
pub timestamp_more : (s : Packing) (pictures : List PackedPicture) (p : PackedPicture) → timestamp_behind s 0 0 (pictures ++ p ∷ []) ≡ packed_timestamp s (length pictures) p.number
timestamp_more s pictures p = grind (arith, behind_more)

pub none_packed : (s : Packing) → packed_datagrams s [] ≡ []
unfolding packed_datagrams packed_from
none_packed s = refl

pub none_behind : (s : Packing) → timestamp_behind s 0 0 [] ≡ 0
unfolding timestamp_behind
none_behind s = refl
