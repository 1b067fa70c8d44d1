-- Parts of a picture that have room, and the first that has none.
use Rattle.std.proofs.Common.{◌≡◌, ◌≤◌, ◌<◌, ◌+◌, ℕ, List, [], ◌∷◌, length, Some, None, refl, arith}
use Rattle.std.proofs.lemmas.Bool.Decides.{nat_tests}
use Rattle.stream_model.specs.Packing.{PackedPicture, first_large_part, first_large_slice, header_room, parameters_room, part_with, slices_room}
use Rattle.vc_types.specs.SenderSettings.{Packing}

pub record PartsFit (s : Packing) (p : PackedPicture) : Type 0 where
  pub header : length p.header ≤ header_room s
  pub coded : length p.coded ≤ parameters_room s
  pub slices : first_large_slice (slices_room s) 0 p.slices ≡ None

pub parts_fit : (s : Packing) (p : PackedPicture) → first_large_part s p ≡ None → PartsFit s p
unfolding first_large_part
parts_fit s p none = grind (arith, nat_tests)

module _ (room i : ℕ) (slice : List ℕ) (slices : List (List ℕ)) where
  pub large_here : room < length slice → first_large_slice room i (slice ∷ slices) ≡ Some (part_with i slice)
  unfolding first_large_slice
  large_here large = grind (arith, nat_tests)

  pub large_behind : length slice ≤ room → first_large_slice room i (slice ∷ slices) ≡ first_large_slice room (i + 1) slices
  unfolding first_large_slice
  large_behind fits = grind (arith, nat_tests)

  pub first_fits : first_large_slice room i (slice ∷ slices) ≡ None → (length slice ≤ room) × (first_large_slice room (i + 1) slices ≡ None)
  unfolding first_large_slice
  first_fits none = grind (arith, nat_tests)

pub none_large : (room i : ℕ) → first_large_slice room i [] ≡ None
unfolding first_large_slice
none_large room i = refl
