use Rattle.std.proofs.Common.{rules, ◌≡◌, arith, sym, ap, ◌∙◌, length, pos, to_z, of_z, FitsSigned, slice_set}
use Rattle.std.specs.Int.{w32, w64}
use Rattle.std.proofs.lemmas.Int.{to_z-of_z}
use Rattle.vc_types.specs.Lifting.{line_of}
use Rattle.picture_build.specs.Cells.{whole_number}
use Rattle.picture_build.proofs.TwoParts.{length_seen, written_length, written_off, written_on, widened_length, widened_off, widened_on, zeros_at}
use Rattle.std.proofs.lemmas.List.{get_or-set_same, get_or-set_other, length-replicate}
use Rattle.std.proofs.Common.{length-set}
use Rattle.picture_build.proofs.cells.CoefficientCells.put.Goals as goal

pub index_mut-requires : goal.index_mut-requires
index_mut-requires c =
    let long = length_seen c.self.inside.is_wide c.self.inside.high.items c.self.inside.low.items c.args.self.now c.self.view_is c.self.invariant.even in
    omega (arith, long, c.requires.at, c.self.invariant.even c.if-self.true)

pub index_mut-requires-then-self : goal.index_mut-requires-then-self
index_mut-requires-then-self c =
    let long = length_seen c.self.inside.is_wide c.self.inside.high.items c.self.inside.low.items c.args.self.now c.self.view_is c.self.invariant.even in
    omega (arith, long, c.requires.at, c.self.invariant.even c.if-self.true)

pub returns-then-self-clause-on : goal.returns-then-self-clause-on
returns-then-self-clause-on c =
    let h = to_z w32 (of_z w32 c.parts-high.result.0) in
    let l = to_z w32 (of_z w32 c.parts-high.result.1) in
    let high = c.self.inside.high.items in
    let low = c.self.inside.low.items in
    let long = length_seen c.self.inside.is_wide c.self.inside.high.items c.self.inside.low.items c.args.self.now c.self.view_is c.self.invariant.even in
    let even = length-set high c.args.at h ∙ c.self.invariant.even c.if-self.true ∙ sym (length-set low c.args.at l) in
    let fits_high : FitsSigned w32 c.parts-high.result.0 = search rules in
    let fits_low : FitsSigned w32 c.parts-high.result.1 = search rules in
    let whole : length high ≡ length low = c.self.invariant.even c.if-self.true in
    written_on c.self.inside.is_wide c.self.inside.high.items c.self.inside.low.items c.args.self.now c.self.view_is c.self.invariant.even c.if-self.true (slice_set high c.args.at h) (slice_set low c.args.at l) even c.args.at h l
    (get_or-set_same high c.args.at h (pos 0) (omega (arith, long, c.requires.at, whole))) (get_or-set_same low c.args.at l (pos 0) (omega (arith, long, c.requires.at)))
    ∙ ap (λ z. whole_number z l) (to_z-of_z w32 c.parts-high.result.0 fits_high) ∙ ap (whole_number c.parts-high.result.0) (to_z-of_z w32 c.parts-high.result.1 fits_low)
    ∙ c.parts-high.ensures ∙ to_z-of_z w64 c.args.coefficient c.ranges.coefficient

pub returns-then-self-clause-off : goal.returns-then-self-clause-off
returns-then-self-clause-off c = λ k other.
    let h = to_z w32 (of_z w32 c.parts-high.result.0) in
    let l = to_z w32 (of_z w32 c.parts-high.result.1) in
    let high = c.self.inside.high.items in
    let low = c.self.inside.low.items in
    let long = length_seen c.self.inside.is_wide c.self.inside.high.items c.self.inside.low.items c.args.self.now c.self.view_is c.self.invariant.even in
    let even = length-set high c.args.at h ∙ c.self.invariant.even c.if-self.true ∙ sym (length-set low c.args.at l) in
    written_off c.self.inside.is_wide c.self.inside.high.items c.self.inside.low.items c.args.self.now c.self.view_is c.self.invariant.even c.if-self.true (slice_set high c.args.at h) (slice_set low c.args.at l) even k
    (get_or-set_other high c.args.at k h (pos 0) other) (get_or-set_other low c.args.at k l (pos 0) other)

pub returns-then-self-clause-length : goal.returns-then-self-clause-length
returns-then-self-clause-length c =
    let h = to_z w32 (of_z w32 c.parts-high.result.0) in
    let l = to_z w32 (of_z w32 c.parts-high.result.1) in
    let high = c.self.inside.high.items in
    let low = c.self.inside.low.items in
    let long = length_seen c.self.inside.is_wide c.self.inside.high.items c.self.inside.low.items c.args.self.now c.self.view_is c.self.invariant.even in
    let even = length-set high c.args.at h ∙ c.self.invariant.even c.if-self.true ∙ sym (length-set low c.args.at l) in
    written_length c.self.inside.is_wide c.self.inside.high.items c.self.inside.low.items c.args.self.now c.self.view_is c.self.invariant.even c.if-self.true (slice_set high c.args.at h) (slice_set low c.args.at l) even (length-set low c.args.at l)

pub returns-else-self-clause-on : goal.returns-else-self-clause-on
returns-else-self-clause-on c =
    let h = to_z w32 (of_z w32 c.parts-high.result.0) in
    let l = to_z w32 (of_z w32 c.parts-high.result.1) in
    let high = c.clear_all.new.cells.items in
    let low = c.self.inside.low.items in
    let long = length_seen c.self.inside.is_wide c.self.inside.high.items c.self.inside.low.items c.args.self.now c.self.view_is c.self.invariant.even in
    let filled = c.clear_all.ensures.items in
    let whole : length high ≡ length low = ap length filled ∙ length-replicate c.len.result (pos 0) ∙ c.len.ensures ∙ c.self.inside.low.ok.0 in
    let even = length-set high c.args.at h ∙ whole ∙ sym (length-set low c.args.at l) in
    let fits_high : FitsSigned w32 c.parts-high.result.0 = search rules in
    let fits_low : FitsSigned w32 c.parts-high.result.1 = search rules in
    widened_on c.self.inside.is_wide c.self.inside.high.items c.self.inside.low.items c.args.self.now c.self.view_is c.self.invariant.even c.if-self.false (slice_set high c.args.at h) (slice_set low c.args.at l) even c.args.at h l
    (get_or-set_same high c.args.at h (pos 0) (omega (arith, long, c.requires.at, whole))) (get_or-set_same low c.args.at l (pos 0) (omega (arith, long, c.requires.at)))
    ∙ ap (λ z. whole_number z l) (to_z-of_z w32 c.parts-high.result.0 fits_high) ∙ ap (whole_number c.parts-high.result.0) (to_z-of_z w32 c.parts-high.result.1 fits_low)
    ∙ c.parts-high.ensures ∙ to_z-of_z w64 c.args.coefficient c.ranges.coefficient

pub returns-else-self-clause-off : goal.returns-else-self-clause-off
returns-else-self-clause-off c = λ k other.
    let h = to_z w32 (of_z w32 c.parts-high.result.0) in
    let l = to_z w32 (of_z w32 c.parts-high.result.1) in
    let high = c.clear_all.new.cells.items in
    let low = c.self.inside.low.items in
    let long = length_seen c.self.inside.is_wide c.self.inside.high.items c.self.inside.low.items c.args.self.now c.self.view_is c.self.invariant.even in
    let filled = c.clear_all.ensures.items in
    let whole : length high ≡ length low = ap length filled ∙ length-replicate c.len.result (pos 0) ∙ c.len.ensures ∙ c.self.inside.low.ok.0 in
    let even = length-set high c.args.at h ∙ whole ∙ sym (length-set low c.args.at l) in
    widened_off c.self.inside.is_wide c.self.inside.high.items c.self.inside.low.items c.args.self.now c.self.view_is c.self.invariant.even c.if-self.false (slice_set high c.args.at h) (slice_set low c.args.at l) even k
    (get_or-set_other high c.args.at k h (pos 0) other ∙ ap (λ zs. line_of zs k) filled ∙ zeros_at c.len.result k) (get_or-set_other low c.args.at k l (pos 0) other)

pub returns-else-self-clause-length : goal.returns-else-self-clause-length
returns-else-self-clause-length c =
    let h = to_z w32 (of_z w32 c.parts-high.result.0) in
    let l = to_z w32 (of_z w32 c.parts-high.result.1) in
    let high = c.clear_all.new.cells.items in
    let low = c.self.inside.low.items in
    let long = length_seen c.self.inside.is_wide c.self.inside.high.items c.self.inside.low.items c.args.self.now c.self.view_is c.self.invariant.even in
    let filled = c.clear_all.ensures.items in
    let whole : length high ≡ length low = ap length filled ∙ length-replicate c.len.result (pos 0) ∙ c.len.ensures ∙ c.self.inside.low.ok.0 in
    let even = length-set high c.args.at h ∙ whole ∙ sym (length-set low c.args.at l) in
    widened_length c.self.inside.is_wide c.self.inside.high.items c.self.inside.low.items c.args.self.now c.self.view_is c.self.invariant.even c.if-self.false (slice_set high c.args.at h) (slice_set low c.args.at l) even (length-set low c.args.at l)
