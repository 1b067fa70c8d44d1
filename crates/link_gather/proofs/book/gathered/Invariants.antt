use Rattle.std.proofs.Common.{◌≡◌, drop, map}
use Rattle.std.specs.Prelude.{fold}
use Rattle.link_model.specs.Books.{nothing_gathered, gathers}
use Rattle.link_gather.specs.Views.{slice_part_of}
use Rattle.vc_types.specs.TransformParameters.{parameters_of}
use Rattle.link_gather.proofs.book.gathered.Given as goal

-- what the parts that are left add
abbrev pub invariant-loop-part : goal.invariant-loop-part
invariant-loop-part l =
    fold gathers l.gathering (map slice_part_of (drop l.part-index l.waiting))
    ≡ fold gathers (nothing_gathered (record { parameters = parameters_of l.fn.plan; bytes = l.fn.bytes })) (map slice_part_of l.waiting)
