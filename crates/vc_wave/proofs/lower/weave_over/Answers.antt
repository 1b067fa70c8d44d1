use Rattle.std.proofs.Common.{rules, ◌≡◌, ◌+◌, ◌*◌, ◌^◌, ◌<◌, length, pos, unsigned_abs, FitsSigned}
use Rattle.std.proofs.Common.{slice_index_or, to_z, of_z, arith, ap, subst, ◌∙◌}
use Rattle.std.specs.Int.{w32}
use Rattle.std.proofs.lemmas.Int.{to_z-of_z}
use Rattle.vc_types.specs.Lifting.{line_of}
use Rattle.vc_wave.specs.Remade.{shifted_down}
use Rattle.vc_wave.proofs.RowHalves.{even_more, odd_more, off_more, halves_met}
use Rattle.vc_wave.proofs.lower.weave_over.Goals as goal

pub loop-k-preserved : goal.loop-k-preserved
loop-k-preserved c =
    let k = c.loop-k.k in
    let first = slice_index_or c.args.cells.now (c.args.start + k) (pos 0) in
    let second = slice_index_or c.args.cells.now (c.args.start + c.args.half + k) (pos 0) in
    let within : c.args.at + 2 * k + 1 < length c.loop-k.out = omega arith in
    let place : c.args.start + c.args.half + k ≡ c.args.start + (c.args.half + k) = omega arith in
    let first_fits : FitsSigned w32 first = search rules in
    let second_fits : FitsSigned w32 second = search rules in
    let even : to_z w32 (of_z w32 c.shifted_down.result) ≡ shifted_down c.args.shifted first =
    to_z-of_z w32 c.shifted_down.result (record { sfits = c.shifted_down.type_inv })
    ∙ c.shifted_down.ensures ∙ ap (shifted_down c.args.shifted) (to_z-of_z w32 first first_fits) in
    let odd : to_z w32 (of_z w32 c.shifted_down-in-loop-k.result)
    ≡ shifted_down c.args.shifted (line_of c.args.cells.now (c.args.start + (c.args.half + k))) =
    to_z-of_z w32 c.shifted_down-in-loop-k.result (record { sfits = c.shifted_down-in-loop-k.type_inv })
    ∙ c.shifted_down-in-loop-k.ensures
    ∙ ap (shifted_down c.args.shifted) (to_z-of_z w32 second second_fits)
    ∙ ap (λ i. shifted_down c.args.shifted (line_of c.args.cells.now i)) place in
    record {
      even = even_more (pos 0) c.loop-k.out c.args.at k _ _ within
          (λ i. shifted_down c.args.shifted (line_of c.args.cells.now (c.args.start + i))) even
          c.loop-k.invariant.even;
      odd = odd_more (pos 0) c.loop-k.out c.args.at k _ _ within
          (λ i. shifted_down c.args.shifted (line_of c.args.cells.now (c.args.start + (c.args.half + i)))) odd
          c.loop-k.invariant.odd;
      off = off_more (pos 0) c.loop-k.out c.args.at k _ _ within c.args.out.now c.loop-k.invariant.off;
    }

pub shifted_down-requires-in-loop-k : goal.shifted_down-requires-in-loop-k
shifted_down-requires-in-loop-k c = λ h.
    let place : c.args.start + (c.args.half + c.loop-k.k) ≡ c.args.start + c.args.half + c.loop-k.k =
    omega arith in
    let second = slice_index_or c.args.cells.now (c.args.start + c.args.half + c.loop-k.k) (pos 0) in
    let second_fits : FitsSigned w32 second = search rules in
    let small : unsigned_abs second + 1 < 2 ^ 31 =
    subst (λ i. unsigned_abs (line_of c.args.cells.now i) + 1 < 2 ^ 31) place
    (c.requires.small h (c.args.half + c.loop-k.k) (omega arith)) in
    rw (to_z-of_z w32 second second_fits) small

pub returns-clause-on : goal.returns-clause-on
returns-clause-on c = λ k h.
    let end : c.loop-k.k ≡ c.args.half = omega arith in
    halves_met c.args.half c.args.half (λ j. line_of c.loop-k.out (c.args.at + j))
    (λ j. shifted_down c.args.shifted (line_of c.args.cells.now (c.args.start + j)))
    (λ j lt. c.loop-k.invariant.even j (omega (arith, end, lt)))
    (λ j lt. c.loop-k.invariant.odd j (omega (arith, end, lt))) k h
