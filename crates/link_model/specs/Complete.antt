-- Whole pictures.
use Rattle.std.specs.Prelude.{ℕ, Bool, is_some, if◌then◌else◌, List, [], ◌++◌, Option, Some, None, unwrap_or}
use Rattle.std.specs.List.{flat_map, list_all, range_with_len}
use Rattle.std.specs.Option.{option_and_then}
use Rattle.link_model.specs.Kept.{Own, own, own_slice}
use Rattle.link_model.specs.Session.{Part}
use Rattle.vc_types.specs.Planes.{Planes, decoded_planes}
use Rattle.vc_types.specs.SequenceHeader.{Sequence}
use Rattle.vc_types.specs.Subbands.{slice_count}

-- the numbers of a picture's slices
abbrev pub slice_numbers : Own → List ℕ
slice_numbers kept = range_with_len 0 (slice_count kept.plan.parameters)

-- every slice is kept
unfoldable pub has_all_slices : Own → Bool
has_all_slices kept = list_all (λ i. is_some (own_slice kept i)) (slice_numbers kept)

-- the bytes of the parameters, and after them the slices in raster order
unfoldable pub all_bytes : Own → List ℕ
all_bytes kept =
    kept.plan.bytes ++ flat_map (λ i. unwrap_or (own_slice kept i) []) (slice_numbers kept)

abbrev pub whole_of : Own → Option (List ℕ)
whole_of kept = if has_all_slices kept then Some (all_bytes kept) else None

-- a picture's whole bytes, if it is complete
unfoldable pub whole_picture : Sequence → List Part → Option (List ℕ)
whole_picture sequence parts = option_and_then whole_of (own sequence parts)

abbrev pub is_complete : Sequence → List Part → Bool
is_complete sequence parts = is_some (whole_picture sequence parts)

-- the planes of a picture that is complete and sound
abbrev pub picture_planes : Sequence → List Part → Option Planes
picture_planes sequence parts =
    option_and_then (decoded_planes sequence) (whole_picture sequence parts)
