use Rattle.std.proofs.Common.{◌+◌, ◌≤◌, length, arith, sym, ap, ◌∙◌}
use Rattle.std.proofs.lemmas.List.{length-drop}
use Rattle.vc_types.specs.Lifting.{line_of}
use Rattle.vc_types.specs.Subbands.{area, place_in}
use Rattle.vc_geometry.specs.Runs.{cell_of}
use Rattle.vc_slice.proofs.StripPlaces.{in-back, off-back, nothing-behind, all-of-it, part-cell, part-fits}
use Rattle.vc_slice.proofs.strip_parts.put_part.Goals as goal

pub dequantise_rect-requires-clause-cells : goal.dequantise_rect-requires-clause-cells
dequantise_rect-requires-clause-cells c =
    part-fits c.args.part.now c.args.whole.now _ c.requires.down.1 c.requires.down.0 (let long = length-drop c.args.base c.args.strip.now in omega (arith, long, c.requires.base))

pub returns-clause-on : goal.returns-clause-on
returns-clause-on c = λ j h.
    let fits : c.args.base ≤ length c.args.strip.now = omega (arith, c.requires.base) in
    let cell = part-cell c.args.part.now c.args.whole.now j c.requires.across.0 c.requires.down.0 in
    ap (λ strip. line_of strip (c.args.base + cell_of c.args.whole.now (place_in c.args.part.now j))) (nothing-behind c.args.base c.args.strip.now c.dequantise_rect.new.cells fits)
    ∙ in-back c.args.base c.args.strip.now c.dequantise_rect.new.cells fits (cell_of c.args.whole.now (place_in c.args.part.now j))
    ∙ ap (line_of c.dequantise_rect.new.cells) (sym cell) ∙ c.dequantise_rect.ensures.on j h

pub returns-clause-off : goal.returns-clause-off
returns-clause-off c = λ k none.
    let fits : c.args.base ≤ length c.args.strip.now = omega (arith, c.requires.base) in
    ap (λ strip. line_of strip k) (nothing-behind c.args.base c.args.strip.now c.dequantise_rect.new.cells fits)
    ∙ off-back c.args.base c.args.strip.now c.dequantise_rect.new.cells fits (λ j. cell_of c.args.whole.now (place_in c.args.part.now j)) (area c.args.part.now)
    (λ m apart. c.dequantise_rect.ensures.off m (λ j h e. apart j h (e ∙ part-cell c.args.part.now c.args.whole.now j c.requires.across.0 c.requires.down.0))
    ∙ ap (λ xs. line_of xs m) (all-of-it c.args.base c.args.strip.now c.dequantise_rect.new.cells fits)) k none
