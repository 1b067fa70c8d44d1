-- How slots are filled, slice by slice.
use Rattle.std.specs.Prelude.{ℕ, Bool, true, false, zero, suc, List, [], ◌∷◌, take}
use Rattle.std.specs.Prelude.{drop, set, Option, Some, None, if◌then◌else◌}
use Rattle.std.specs.List.{list_any}
use Rattle.std.specs.Option.{option_or}
use Rattle.std.specs.Str.{bytes_eq}
use Rattle.link_gather.specs.declared.slots.Put.{Put}
use Rattle.link_gather.specs.declared.slots.Put.TheVariants.{New, Same, Other}
use Rattle.link_model.specs.Books.{Slots, slot_at}
use Rattle.link_model.specs.Judgement.{is_conflict, is_new, numbered_slices}
use Rattle.link_model.specs.Kept.{SliceRun}
use Rattle.link_model.specs.declared.outcome.Outcome.{Outcome}
use Rattle.link_model.specs.declared.outcome.Outcome.TheVariants.{SlicesConflict, SlicesKept, SlicesRepeat}
use Rattle.vc_types.specs.Slices.{slice_length}
use Rattle.vc_types.specs.TransformParameters.{Parameters}

-- the slices that begin the bytes, so many or as many as there are
abbrev pub cut_by : (List ℕ → List (List ℕ)) → List ℕ → Option ℕ → List (List ℕ)
cut_by more bytes None = []
cut_by more bytes (Some len) = take len bytes ∷ more (drop len bytes)

abbrev pub slices_cut : Parameters → ℕ → List ℕ → List (List ℕ)
slices_cut p zero bytes = []
slices_cut p (suc n) bytes = cut_by (slices_cut p n) bytes (slice_length p.prefix p.scaler bytes)

abbrev pub run_cut : Parameters → ℕ → ℕ → List ℕ → SliceRun
run_cut p first count bytes = record { first = first; slices = slices_cut p count bytes }

-- whether a slice of a run is kept with other bytes, and whether one isn't kept yet
abbrev pub has_conflict : Slots → SliceRun → Bool
has_conflict slots run = list_any (is_conflict (slot_at slots)) (numbered_slices run)

abbrev pub has_new : Slots → SliceRun → Bool
has_new slots run = list_any (is_new (slot_at slots)) (numbered_slices run)

-- a slice in its slot, except where one is kept
abbrev pub put_in : Slots → ℕ → List ℕ → Slots
put_in slots i slice = set slots i (option_or (slot_at slots i) (Some slice))

-- what becomes of it
abbrev pub put_result : Option (List ℕ) → List ℕ → Put
put_result None slice = New
put_result (Some kept) slice = if bytes_eq kept slice then Same else Other

abbrev pub is_put_other : Put → Bool
is_put_other Other = true
is_put_other put = false

abbrev pub is_put_new : Put → Bool
is_put_new New = true
is_put_new put = false

-- what becomes of a run
abbrev pub seen_outcome : Bool → Bool → Outcome
seen_outcome conflict new =
    if conflict then SlicesConflict else (if new then SlicesKept else SlicesRepeat)
