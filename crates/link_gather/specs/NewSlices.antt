-- The slices that a picture newly has.
use Rattle.std.specs.Prelude.{◌≡◌, ℕ, Bool, if◌then◌else◌, is_some, List, [], length, map, filter}
use Rattle.std.specs.Prelude.{filter_map, Option, Some, None}
use Rattle.std.specs.List.{range_with_len}
use Rattle.std.specs.Option.{option_map, option_map_or}
use Rattle.link_model.specs.Books.{Slots, slot_at, Gathered, Book, book_slice, book_takes}
use Rattle.link_model.specs.Judgement.{is_new, numbered_slices}
use Rattle.link_model.specs.Kept.{SliceRun}
use Rattle.link_model.specs.Session.{Part}
use Rattle.vc_types.specs.Slices.{slice_length}
use Rattle.vc_types.specs.Subbands.{slice_count}
use Rattle.vc_types.specs.TransformParameters.{Parameters}

-- a slice of a picture with these parameters
pub record PictureSlice : Type 0 where
  pub parameters : Parameters
  pub index : ℕ
  pub bytes : List ℕ

abbrev pub picture_slice : Parameters → ℕ → List ℕ → PictureSlice
picture_slice p i bytes = record { parameters = p; index = i; bytes = bytes }

abbrev pub slice_at : Gathered → ℕ → Option PictureSlice
slice_at g i = option_map (picture_slice g.plan.parameters i) (slot_at g.slots i)

-- the slices that are there and weren't there before, in raster order
abbrev pub new_in : (ℕ → Bool) → Gathered → List PictureSlice
new_in was_there g = filter_map (λ i. if was_there i then None else slice_at g i)
    (range_with_len 0 (length g.slots))

abbrev pub new_slices : Book → Book → List PictureSlice
new_slices old new = option_map_or (new_in (λ i. is_some (book_slice old i))) new.gathered []

-- those that a part brings
abbrev pub brought_slices : Book → Part → List PictureSlice
brought_slices book part = new_slices book (book_takes book part)

-- those of a run
abbrev pub run_new : Parameters → Slots → SliceRun → List PictureSlice
run_new p slots run = map (λ slice. picture_slice p slice.0 slice.1)
    (filter (is_new (slot_at slots)) (numbered_slices run))

-- there is a slot for each slice, and what stands in one is a whole slice
pub record HasWholeSlots (p : Parameters) (slots : Slots) : Type 0 where
  pub count : length slots ≡ slice_count p
  pub whole : (i : ℕ) (bytes : List ℕ) → slot_at slots i ≡ Some bytes
      → slice_length p.prefix p.scaler bytes ≡ Some (length bytes)
