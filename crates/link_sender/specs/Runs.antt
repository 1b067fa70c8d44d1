-- Slices that are packed into runs one after another.
use Rattle.std.specs.Prelude.{◌≡◌, ◌≤◌, ◌+◌, ℕ, List, [], ◌++◌, length, map}
use Rattle.link_model.specs.Kept.{SliceRun}
use Rattle.link_model.specs.Sending.{SlicesContent, runs_from}
use Rattle.stream_model.specs.Packing.{slices_room}
use Rattle.link_sender.specs.declared.outbox.Outbox.{Outbox}
use Rattle.link_sender.specs.declared.picture.Picture.{Picture}
use Rattle.link_sender.specs.declared.runs.OpenRun.{OpenRun}
use Rattle.link_sender.specs.Puts.{PutsDatagrams}
use Rattle.vc_types.specs.Fields.{joined}
use Rattle.vc_types.specs.SenderSettings.{Packing, packing_view}

-- a run has these slices, one behind another
pub record HoldsSlices (run : OpenRun) (slices : List (List ℕ)) : Type 0 where
  pub count : run.count ≡ length slices
  pub body : run.body.items ≡ joined slices

abbrev pub run_with_slices : OpenRun → List (List ℕ) → SliceRun
run_with_slices run slices = record { first = run.first; slices = slices }

-- a run with no slice yet, the first of a picture
abbrev pub first_run : SliceRun
first_run = record { first = 0; slices = [] }

-- a slice of some bytes has room in a datagram
pub record FitsRun (s : Packing) (slice : List ℕ) : Type 0 where
  pub some : 1 ≤ length slice
  pub room : length slice + 32 ≤ s.size

-- a run ends before a slice, is empty before the first alone, and has room in a datagram
pub record EndsRun (s : Packing) (slice : ℕ) (run : OpenRun) : Type 0 where
  pub end : run.first + run.count ≡ slice
  pub some : 1 ≤ slice → 1 ≤ run.count
  pub empty : slice ≡ 0 → length run.body.items ≡ 0
  pub body : run.count ≤ length run.body.items
  pub fits : length run.body.items + 32 ≤ s.size

-- slices were packed: some runs of them were put, the others are in the open run, and whatever
-- slices follow, the runs go on from there
pub record PacksSlices (p : Picture) (slices : List (List ℕ)) (old new : Outbox) (run : OpenRun)
    : Type 0 where
  pub put : List SliceRun
  pub left : List (List ℕ)
  pub holds : HoldsSlices run left
  pub puts : PutsDatagrams p (map SlicesContent put) old new
  pub goes_on : (more : List (List ℕ))
      → runs_from (slices_room (packing_view p.settings)) first_run (slices ++ more)
      ≡ put ++ runs_from (slices_room (packing_view p.settings)) (run_with_slices run left)
      more
