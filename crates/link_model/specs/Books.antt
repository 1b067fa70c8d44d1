-- A picture's book: what stands for its parts, without the parts themselves, and what one part more
-- changes.
use Rattle.std.specs.Prelude.{ℕ, nat_lt, if◌then◌else◌, List, [], ◌∷◌, ◌++◌, length, map, take}
use Rattle.std.specs.Prelude.{drop, replicate, slice_get, fold, filter_map, is_some, unwrap_or}
use Rattle.std.specs.Prelude.{Option, Some, None, Result, Ok, Err}
use Rattle.std.specs.List.{flat_map, list_all}
use Rattle.std.specs.Option.{option_and_then, option_map, option_or}
use Rattle.link_model.specs.Complete.{slice_numbers}
use Rattle.link_model.specs.Judgement.{KnownPicture, run_outcome, judged_part}
use Rattle.link_model.specs.Kept.{KeptParameters, kept_parameters, Own, own, own_slice, part_slices}
use Rattle.link_model.specs.Kept.{SliceRun, slice_run, waiting_limit}
use Rattle.link_model.specs.Session.{Part, ParamsPart, SlicesPart, SlicePart}
use Rattle.link_model.specs.declared.outcome.Outcome.{Outcome}
use Rattle.vc_types.specs.SequenceHeader.{Sequence}
use Rattle.vc_types.specs.Subbands.{slice_count}
use Rattle.vc_types.specs.TransformParameters.{coded_parameters}

-- a picture's slices in raster order, those that came
abbrev pub Slots : Type 0
Slots = List (Option (List ℕ))

abbrev pub slot_at : Slots → ℕ → Option (List ℕ)
slot_at slots i = option_and_then (λ slot. slot) (slice_get slots i)

-- what is gathered of a picture that has its parameters
pub record Gathered : Type 0 where
  pub plan : KeptParameters
  pub slots : Slots

-- the slices that wait for their picture's parameters, and what is gathered once these are there
pub record Book : Type 0 where
  pub sequence : Sequence
  pub waiting : List SlicePart
  pub gathered : Option Gathered

-- ---- one part more

abbrev pub nothing_gathered : KeptParameters → Gathered
nothing_gathered plan = record { plan = plan; slots = replicate (slice_count plan.parameters) None }

-- slices in the slots from the first one on, except where one is kept
abbrev pub filled_with : Slots → List (List ℕ) → Slots
filled_with slots [] = slots
filled_with [] (slice ∷ slices) = []
filled_with (slot ∷ slots) (slice ∷ slices) = option_or slot (Some slice) ∷ filled_with slots slices

abbrev pub with_run : Slots → SliceRun → Slots
with_run slots run = take run.first slots ++ filled_with (drop run.first slots) run.slices

abbrev pub gathers_run : Gathered → Result SliceRun Outcome → Gathered
gathers_run g (Ok run) = record g { slots = with_run g.slots run }
gathers_run g (Err outcome) = g

abbrev pub gathers : Gathered → SlicePart → Gathered
gathers g slices = gathers_run g (slice_run g.plan.parameters slices)

-- the first accepted parameters are kept, and the slices that wait are taken in their order
abbrev pub takes_plan : Book → Option KeptParameters → Book
takes_plan book None = book
takes_plan book (Some plan) = record book {
  waiting = [];
  gathered = Some (fold gathers (nothing_gathered plan) book.waiting);
}

abbrev pub takes_params : Option Gathered → Book → List ℕ → Book
takes_params None book body =
    takes_plan book (kept_parameters body (coded_parameters book.sequence body))
takes_params (Some g) book body = book

abbrev pub waits_too : Book → SlicePart → Book
waits_too book slices =
    if nat_lt (length book.waiting) waiting_limit
    then record book { waiting = book.waiting ++ slices ∷ [] }
    else book

abbrev pub takes_slices : Option Gathered → Book → SlicePart → Book
takes_slices None book slices = waits_too book slices
takes_slices (Some g) book slices = record book { gathered = Some (gathers g slices) }

unfoldable pub book_takes : Book → Part → Book
book_takes book (ParamsPart body) = takes_params book.gathered book body
book_takes book (SlicesPart slices) = takes_slices book.gathered book slices

-- ---- what it knows of its picture

abbrev pub book_plan : Book → Option KeptParameters
book_plan book = option_map (λ (g : Gathered). g.plan) book.gathered

abbrev pub book_slice : Book → ℕ → Option (List ℕ)
book_slice book i = option_and_then (λ (g : Gathered). slot_at g.slots i) book.gathered

abbrev pub known_by_book : Book → KnownPicture
known_by_book book = record {
  sequence = book.sequence;
  plan = book_plan book;
  waiting = length book.waiting;
  slice = book_slice book;
}

unfoldable pub book_outcome : Book → Part → Outcome
book_outcome book part = judged_part (known_by_book book) part

-- a slice part's, once there are parameters
abbrev pub gathered_outcome : Gathered → SlicePart → Outcome
gathered_outcome g slices = run_outcome (slot_at g.slots) (slice_run g.plan.parameters slices)

-- ---- the book of a list of parts

abbrev pub gathered_of : Own → Gathered
gathered_of kept = record { plan = kept.plan; slots = map (own_slice kept) (slice_numbers kept) }

abbrev pub waiting_by : Option Own → List Part → List SlicePart
waiting_by None parts = take waiting_limit (filter_map part_slices parts)
waiting_by (Some kept) parts = []

abbrev pub book_by : Sequence → List Part → Option Own → Book
book_by sequence parts kept = record {
  sequence = sequence;
  waiting = waiting_by kept parts;
  gathered = option_map gathered_of kept;
}

unfoldable pub book_of : Sequence → List Part → Book
book_of sequence parts = book_by sequence parts (own sequence parts)

-- ---- whole pictures

abbrev pub gathered_bytes : Gathered → List ℕ
gathered_bytes g = g.plan.bytes ++ flat_map (λ slot. unwrap_or slot []) g.slots

abbrev pub gathered_whole : Gathered → Option (List ℕ)
gathered_whole g = if list_all is_some g.slots then Some (gathered_bytes g) else None

-- the whole bytes, if every slice is there
abbrev pub book_whole : Book → Option (List ℕ)
book_whole book = option_and_then gathered_whole book.gathered
