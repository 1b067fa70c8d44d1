use Rattle.std.proofs.Common.{rules, ◌≡◌, ◌+◌, length, arith, sym, ap, ◌∙◌}
use Rattle.vc_types.specs.declared.video.Component.TheVariants.{Y, C1, C2}
use Rattle.vc_types.specs.Lifting.{line_of}
use Rattle.vc_types.specs.Slices.{block_coefficients}
use Rattle.vc_types.specs.TransformParameters.{parameters_of}
use Rattle.vc_slice.proofs.ColourParts.{colour_counts}
use Rattle.vc_slice.proofs.NarrowRuns.{length-block}
use Rattle.vc_slice.proofs.WideSlices.{parts_by_place}
use Rattle.vc_slice.proofs.narrow_slice.read_blocks.Goals as goal

pub read_at-requires-3 : goal.read_at-requires-3
read_at-requires-3 c = omega (arith, colour_counts)

pub returns-clause-value : goal.returns-clause-value
returns-clause-value c =
    let p = parameters_of c.args.bands.now.parts.now.plan in
    let n = c.args.bands.now.parts.now.slice in
    let coded = c.args.coded.now in
    let index = c.args.bands.now.index in
    let both = colour_counts p n in
    let numbers = c.read_at-3.new.numbers in
    let long : length c.read_at-3.new.numbers ≡ length c.args.numbers.now = search rules in
    rw (← c.requires.index) (parts_by_place c.args.y c.args.c c.args.c (block_coefficients p Y n index coded.y.now) (block_coefficients p C1 n index coded.c1.now) (block_coefficients p C2 n index coded.c2.now)
    (length-block p Y n index coded.y.now ∙ sym c.requires.y)
    (length-block p C1 n index coded.c1.now ∙ sym c.requires.c)
    (length-block p C2 n index coded.c2.now ∙ both ∙ sym c.requires.c)
    numbers (omega (arith, long, c.requires.room))
    (λ i h. c.read_at-3.ensures.off i (omega arith) ∙ c.read_at-2.ensures.off i h ∙ ap (line_of c.read_at.new.numbers) (omega arith) ∙ c.in_ok-read_at.ensures.on i (omega (arith, c.requires.y)))
    (λ i h. c.read_at-3.ensures.off (c.args.y + i) (omega arith) ∙ c.in_ok-read_at-2.ensures.on i (omega (arith, c.requires.c)))
    (λ i h. c.in_ok-read_at-3.ensures.on i (omega (arith, both, c.requires.c))))
