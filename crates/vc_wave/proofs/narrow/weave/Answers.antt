use Rattle.std.proofs.Common.{rules, ◌≡◌, ◌+◌, ◌*◌, ◌<◌, length, pos, FitsSigned, slice_index_or, to_z, of_z}
use Rattle.std.proofs.Common.{arith, ap, ◌∙◌}
use Rattle.std.specs.Prelude.{if◌then◌else◌}
use Rattle.std.specs.Int.{w32}
use Rattle.std.proofs.lemmas.Int.{to_z-of_z}
use Rattle.vc_types.specs.Lifting.{line_of}
use Rattle.vc_types.specs.Transforms.{halved}
use Rattle.vc_wave.specs.Remade.{shifted_down}
use Rattle.vc_wave.proofs.RowHalves.{even_more, odd_more, off_more, woven}
use Rattle.vc_wave.proofs.narrow.weave.Goals as goal

pub loop-k-preserved : goal.loop-k-preserved
loop-k-preserved c =
    let k = c.loop-k.k in
    let line = c.copy_row.new.line in
    let first = slice_index_or line k (pos 0) in
    let second = slice_index_or line (c.args.half + k) (pos 0) in
    let first_fits : FitsSigned w32 first = search rules in
    let second_fits : FitsSigned w32 second = search rules in
    let within : c.args.start + 2 * k + 1 < length c.loop-k.cells = omega arith in
    let even : to_z w32 (of_z w32 c.shifted_down.result) ≡ shifted_down c.args.shifted first =
    to_z-of_z w32 c.shifted_down.result (record { sfits = c.shifted_down.type_inv }) ∙ c.shifted_down.ensures
    ∙ ap (λ z. if c.args.shifted then halved z else z) (to_z-of_z w32 first first_fits) in
    let odd : to_z w32 (of_z w32 c.shifted_down-in-loop-k.result)
    ≡ (if c.args.shifted then halved second else second) =
    to_z-of_z w32 c.shifted_down-in-loop-k.result (record { sfits = c.shifted_down-in-loop-k.type_inv })
    ∙ c.shifted_down-in-loop-k.ensures
    ∙ ap (λ z. if c.args.shifted then halved z else z) (to_z-of_z w32 second second_fits) in
    record {
      even = even_more (pos 0) c.loop-k.cells c.args.start k _ _ within
          (λ i. if c.args.shifted then halved
          (line_of line i) else line_of line i) even c.loop-k.invariant.even;
      odd = odd_more (pos 0) c.loop-k.cells c.args.start k _ _ within
          (λ i. if c.args.shifted then halved (line_of line (c.args.half + i)) else line_of line
          (c.args.half + i)) odd c.loop-k.invariant.odd;
      off = off_more (pos 0) c.loop-k.cells c.args.start k _ _ within c.args.cells.now c.loop-k.invariant.off;
    }

pub returns : goal.returns
returns c =
    let end : c.loop-k.k ≡ c.args.half = omega arith in
    woven c.args.start c.args.half c.args.shifted c.args.cells.now c.loop-k.cells
    (rw end at c.loop-k.invariant.off)
    (λ k h. c.loop-k.invariant.even k (omega arith)
    ∙ ap (shifted_down c.args.shifted) (c.copy_row.ensures k (omega arith)))
    (λ k h. c.loop-k.invariant.odd k (omega arith)
    ∙ ap (shifted_down c.args.shifted) (c.copy_row.ensures (c.args.half + k) (omega arith)))
