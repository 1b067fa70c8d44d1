use Rattle.std.proofs.Common.{ℕ, arith, refl, pos, subst, ◌∙◌, length, ◌+◌}
use Rattle.vc_types.specs.TransformParameters.{parameters_of}
use Rattle.vc_types.proofs.SliceRectangles.{coefficients_before, coefficients_before-none}
use Rattle.picture_build.proofs.RowsWithin.{rows_within}
use Rattle.picture_build.proofs.PlacedNumbers.{FirstStand, from_more, subband_stands, subband_stays, all_stand}
use Rattle.picture_build.proofs.cells.clear_part.Goals as goal

pub loop-b-init : goal.loop-b-init
loop-b-init c =
    let none = coefficients_before-none (parameters_of c.args.parts.now.plan) c.args.c c.args.parts.now.slice in
    record { on = λ i h. absurd (omega (arith, h, none)); off = λ k none. refl; length = refl }

pub clear_rect-requires : goal.clear_rect-requires
clear_rect-requires c =
    let r = c.rect-rect.result in
    rows_within (r.y + r.height) c.padded-width.result.0 _ _ (length c.args.cells.now) (length c.loop-b.cells)
    c.rect-rect.ensures.bottom c.padded-width.ensures.width c.requires c.loop-b.invariant.length

pub loop-b-preserved : goal.loop-b-preserved
loop-b-preserved c =
    let parts = c.args.parts.now in
    let from = coefficients_before (parameters_of parts.plan) c.args.c parts.slice c.loop-b.b in
    let r = c.rect-rect.result in
    let zero = λ (i : ℕ). pos 0 in
    let new = c.clear_rect.new.cells in
    record {
      on = subst (λ n. FirstStand parts c.args.c zero n new) (from_more parts c.args.c c.loop-b.b from r (omega arith) c.rect-rect.ensures.value refl)
          (subband_stands parts c.args.c c.loop-b.b from r (omega arith) c.rect-rect.ensures.value refl c.padded-width.result.0 c.padded-width.ensures.width zero c.loop-b.cells new c.clear_rect.ensures.on c.clear_rect.ensures.off c.loop-b.invariant.on);
      off = subband_stays parts c.args.c c.loop-b.b from r (omega arith) c.rect-rect.ensures.value refl c.padded-width.result.0 c.padded-width.ensures.width zero c.loop-b.cells new c.clear_rect.ensures.on c.clear_rect.ensures.off c.args.cells.now c.loop-b.invariant.off;
      length = c.clear_rect.ensures.length ∙ c.loop-b.invariant.length;
    }

pub returns : goal.returns
returns c =
    let parts = c.args.parts.now in
    record {
      on = all_stand parts c.args.c c.loop-b.b _ (λ i. pos 0) c.loop-b.cells (omega arith) refl c.loop-b.invariant.on;
      only = record { length = c.loop-b.invariant.length; others = c.loop-b.invariant.off };
    }
