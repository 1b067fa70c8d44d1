use Rattle.std.proofs.Common.{◌≡◌, ◌+◌, ◌++◌, ◌-◌, map}
use Rattle.std.specs.Prelude.{◌||◌}
use Rattle.link_model.specs.Books.{with_run}
use Rattle.link_gather.specs.Filling.{run_cut, has_conflict}
use Rattle.link_gather.specs.NewSlices.{HasWholeSlots, run_new}
use Rattle.link_gather.specs.Views.{new_slice_of}
use Rattle.vc_types.specs.TransformParameters.{parameters_of}
use Rattle.link_gather.proofs.cutting.keep_slices.Given as goal

-- the slices that are left do to the slots what is left to do
abbrev pub invariant-loop-i : goal.invariant-loop-i
invariant-loop-i l =
    let p = parameters_of l.plan in
    let left = run_cut p l.i (l.fn.first + l.fn.part.count - l.i) l.rest in
    let all = run_cut p l.fn.first l.fn.part.count l.fn.part.body in record {
      value : with_run l.slots left ≡ with_run l.fn.slots all;
      conflict : (l.seen.conflict || has_conflict l.slots left) ≡ has_conflict l.fn.slots all;
      slices : map new_slice_of l.seen.slices.items ++ run_new p l.slots left ≡ run_new p l.fn.slots all;
      slots : HasWholeSlots p l.slots;
    }
