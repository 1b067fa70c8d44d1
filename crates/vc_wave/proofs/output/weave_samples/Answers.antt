use Rattle.std.proofs.Common.{rules, ◌≡◌, ◌≢◌, ◌+◌, ◌*◌, ◌/◌, ◌%◌, ◌^◌, ◌<◌, length, pos, unsigned_abs}
use Rattle.std.proofs.Common.{FitsSigned, slice_index_or, arith, ap, subst, ◌∙◌}
use Rattle.std.specs.Int.{w32}
use Rattle.std.proofs.lemmas.Int.{to_z-of_z}
use Rattle.vc_types.specs.Lifting.{line_of}
use Rattle.vc_types.specs.Planes.{output_sample}
use Rattle.vc_wave.specs.Remade.{shifted_down}
use Rattle.vc_wave.proofs.RowHalves.{even_more, odd_more, off_more}
use Rattle.vc_wave.proofs.OutputRows.{row_whole, row_odd}
use Rattle.vc_wave.proofs.output.weave_samples.Goals as goal

pub loop-k-preserved : goal.loop-k-preserved
loop-k-preserved c =
    let k = c.loop-k.k in
    let first = slice_index_or c.args.cells.now (c.args.start + k) (pos 0) in
    let second = slice_index_or c.args.cells.now (c.args.start + c.args.half + k) (pos 0) in
    let within : c.args.at + 2 * k + 1 < length c.loop-k.samples = omega arith in
    let place : c.args.start + c.args.half + k ≡ c.args.start + (c.args.half + k) = omega arith in
    let depth = c.args.format.depth in
    let first_fits : FitsSigned w32 first = search rules in
    let second_fits : FitsSigned w32 second = search rules in
    let even : c.sample.result ≡ output_sample depth (shifted_down c.args.shifted first) =
    c.sample.ensures ∙ ap (output_sample depth)
    (to_z-of_z w32 c.shifted_down.result (record { sfits = c.shifted_down.type_inv })
    ∙ c.shifted_down.ensures ∙ ap (shifted_down c.args.shifted) (to_z-of_z w32 first first_fits)) in
    let odd : c.sample-in-loop-k.result
    ≡ output_sample depth
    (shifted_down c.args.shifted (line_of c.args.cells.now (c.args.start + (c.args.half + k)))) =
    c.sample-in-loop-k.ensures
    ∙ ap (output_sample depth)
    (to_z-of_z w32 c.shifted_down-in-loop-k.result (record { sfits = c.shifted_down-in-loop-k.type_inv })
    ∙ c.shifted_down-in-loop-k.ensures
    ∙ ap (shifted_down c.args.shifted) (to_z-of_z w32 second second_fits)
    ∙ ap (λ i. shifted_down c.args.shifted (line_of c.args.cells.now i)) place) in
    record {
      even = even_more 0 c.loop-k.samples c.args.at k _ _ within
          (λ i. output_sample depth
          (shifted_down c.args.shifted (line_of c.args.cells.now (c.args.start + i)))) even
          c.loop-k.invariant.even;
      odd = odd_more 0 c.loop-k.samples c.args.at k _ _ within
          (λ i. output_sample depth
          (shifted_down c.args.shifted (line_of c.args.cells.now (c.args.start + (c.args.half + i))))) odd
          c.loop-k.invariant.odd;
      off = off_more 0 c.loop-k.samples c.args.at k _ _ within c.args.samples.now c.loop-k.invariant.off;
    }

pub shifted_down-requires-in-loop-k : goal.shifted_down-requires-in-loop-k
shifted_down-requires-in-loop-k c = λ h.
    let place : c.args.start + (c.args.half + c.loop-k.k) ≡ c.args.start + c.args.half + c.loop-k.k =
    omega arith in
    let second = slice_index_or c.args.cells.now (c.args.start + c.args.half + c.loop-k.k) (pos 0) in
    let second_fits : FitsSigned w32 second = search rules in
    let small : unsigned_abs second + 1 < 2 ^ 31 =
    subst (λ i. unsigned_abs (line_of c.args.cells.now i) + 1 < 2 ^ 31) place
    (c.requires.small h (c.args.half + c.loop-k.k) (omega arith)) in
    rw (to_z-of_z w32 second second_fits) small

pub returns-then-format-eq1-clause-on : goal.returns-then-format-eq1-clause-on
returns-then-format-eq1-clause-on c =
    let depth = c.args.format.depth in
    let last = slice_index_or c.args.cells.now (c.args.start + c.args.format.columns / 2) (pos 0) in
    let last_fits : FitsSigned w32 last = search rules in
    let is : c.sample-then-format-eq1.result ≡ output_sample depth (shifted_down c.args.shifted last) =
    c.sample-then-format-eq1.ensures
    ∙ ap (output_sample depth)
    (to_z-of_z w32 c.shifted_down-then-format-eq1.result
    (record { sfits = c.shifted_down-then-format-eq1.type_inv }) ∙ c.shifted_down-then-format-eq1.ensures
    ∙ ap (shifted_down c.args.shifted) (to_z-of_z w32 last last_fits)) in
    row_odd c.args.at c.args.start c.args.half c.args.format.columns
    (λ z. output_sample depth (shifted_down c.args.shifted z)) c.args.cells.now c.loop-k.samples
    (λ i h. c.loop-k.invariant.even i (omega (arith, h)))
    (λ i h. c.loop-k.invariant.odd i
    (omega (arith, h))) c.sample-then-format-eq1.result c.if-format-eq1.true (omega arith) is

pub returns-else-format-eq1-clause-on : goal.returns-else-format-eq1-clause-on
returns-else-format-eq1-clause-on c = λ k h.
    let even : c.args.format.columns % 2 ≢ 1 = c.if-format-eq1.false in
    row_whole c.args.at c.args.start c.args.half c.args.format.columns
    (λ z. output_sample c.args.format.depth
    (shifted_down c.args.shifted z)) c.args.cells.now c.loop-k.samples
    (λ i h. c.loop-k.invariant.even i (omega (arith, h)))
    (λ i h. c.loop-k.invariant.odd i (omega (arith, h))) k (omega (arith, h, even))
