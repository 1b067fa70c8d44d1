use Rattle.std.proofs.Common.{rules, arith, sym, ap, ◌∙◌, pos, to_z, of_z, FitsSigned}
use Rattle.std.specs.Int.{w32, w64}
use Rattle.std.proofs.lemmas.Int.{to_z-of_z}
use Rattle.vc_types.specs.Lifting.{line_of}
use Rattle.picture_build.specs.Cells.{whole_number}
use Rattle.picture_build.proofs.TwoParts.{length_seen, seen_wide}
use Rattle.std.proofs.lemmas.List.{get_or_default}
use Rattle.picture_build.proofs.cells.CoefficientCells.get.Goals as goal

pub index-requires : goal.index-requires
index-requires c =
    let long = length_seen c.self.inside.is_wide c.self.inside.high.items c.self.inside.low.items c.args.self.now c.self.view_is c.self.invariant.even in
    omega (arith, long, c.requires.at, c.self.invariant.even c.if-self.true)

pub index-requires-then-self : goal.index-requires-then-self
index-requires-then-self c =
    let long = length_seen c.self.inside.is_wide c.self.inside.high.items c.self.inside.low.items c.args.self.now c.self.view_is c.self.invariant.even in
    omega (arith, long, c.requires.at, c.self.invariant.even c.if-self.true)

pub returns-then-self : goal.returns-then-self
returns-then-self c =
    let fits : FitsSigned w64 c.whole.result = search rules in
    let high = c.index.result.now in
    let low = c.index-then-self.result.now in
    let fits_high : FitsSigned w32 high = search rules in
    let fits_low : FitsSigned w32 low = search rules in
    let long = length_seen c.self.inside.is_wide c.self.inside.high.items c.self.inside.low.items c.args.self.now c.self.view_is c.self.invariant.even in
    let seen = seen_wide c.self.inside.is_wide c.self.inside.high.items c.self.inside.low.items c.args.self.now c.self.view_is c.self.invariant.even c.args.at c.if-self.true in
    record {
      value = to_z-of_z w64 c.whole.result fits ∙ c.whole.ensures
          ∙ ap (λ z. whole_number z (to_z w32 (of_z w32 low))) (to_z-of_z w32 high fits_high) ∙ ap (whole_number high) (to_z-of_z w32 low fits_low)
          ∙ ap (λ z. whole_number z low) (c.index.ensures ∙ get_or_default c.self.inside.high.items c.args.at high (pos 0) (omega (arith, long, c.requires.at, c.self.invariant.even c.if-self.true)))
          ∙ ap (whole_number (line_of c.self.inside.high.items c.args.at)) (c.index-then-self.ensures ∙ get_or_default c.self.inside.low.items c.args.at low (pos 0) (omega (arith, long, c.requires.at)))
          ∙ sym seen;
    }
