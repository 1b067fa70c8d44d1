use Rattle.std.proofs.Common.{◌≡◌, ◌-◌, ◌≤◌, ◌++◌, length, List, ℕ, Ok}
use Rattle.link_model.specs.Kept.{next_slices}
use Rattle.vc_types.specs.Fields.{and_then}
use Rattle.vc_types.specs.Subbands.{slice_count}
use Rattle.vc_types.specs.TransformParameters.{parameters_of}
use Rattle.cmd_stream.proofs.pack_slices.slices_len.Given as goal

-- the slices that were cut, and those behind them
abbrev pub invariant-loop-slice : goal.invariant-loop-slice
invariant-loop-slice l =
    (slices : List (List ℕ))
    × (next_slices (parameters_of l.plan) (slice_count (parameters_of l.plan)) l.fn.bytes
    ≡ and_then (next_slices (parameters_of l.plan) (slice_count (parameters_of l.plan) - l._slice) l.rest) (λ read. Ok (slices ++ read.0, read.1)))
    × (length l.rest ≤ length l.fn.bytes)
