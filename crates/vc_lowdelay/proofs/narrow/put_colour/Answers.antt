use Rattle.std.proofs.Common.{◌+◌, ◌*◌, ◌<◌, ◌≤◌, ℕ, ℤ, get_or, unsigned_abs, sym, ap, subst, ◌∙◌, arith}
use Rattle.std.proofs.lemmas.Result.{on_ok_weaker}
use Rattle.vc_types.specs.Lifting.{line_of}
use Rattle.vc_types.specs.Quantisation.{dequantised}
use Rattle.vc_slice.specs.Bands.{numbered_in, quantisers_of}
use Rattle.vc_lowdelay.specs.OfBands.{turned_in}
use Rattle.vc_lowdelay.proofs.SliceReads.{puts_same, puts_through}
use Rattle.vc_lowdelay.proofs.narrow.put_colour.Goals as goal

pub put_dequantised-requires-clause-small : goal.put_dequantised-requires-clause-small
put_dequantised-requires-clause-small c = λ i h.
    let below : i < c.count.result = omega (arith, h, c.count.ensures) in
    subst (λ (z : ℤ). unsigned_abs z ≤ c.args.turns.now.greatest) (sym (c.take_turns.ensures i below))
    (c.requires.greatest (2 * i + c.first_turn.result) (omega (arith, h, c.first_turn.ensures.range)))

pub returns : goal.returns
returns c =
    let bands = c.args.bands.now in
    let turns = c.args.turns.now.numbers.now in
    on_ok_weaker c.put_dequantised.result (λ puts.
    puts_through bands c.args.c (turned_in bands c.args.c turns) c.args.cells.now.items _ _ c.args.cells.now.len c.deref_mut.ensures.value (omega (arith, c.args.cells.now.ok.0))
    (puts_same bands c.args.c (numbered_in bands c.args.c c.take_turns.new.numbers) (turned_in bands c.args.c turns) _ _
    (λ i h.
    let below : i < c.count.result = omega (arith, h, c.count.ensures) in
    ap (λ (z : ℤ). dequantised z (get_or (quantisers_of bands c.args.c) i 0)) (c.take_turns.ensures i below ∙ ap (λ (first : ℕ). line_of turns (2 * i + first)) c.first_turn.ensures.value))
    puts))
    c.put_dequantised.ensures.all
