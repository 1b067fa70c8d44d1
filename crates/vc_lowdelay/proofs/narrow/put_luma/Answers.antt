use Rattle.std.proofs.Common.{ℤ, get_or, ap, arith}
use Rattle.std.proofs.lemmas.Result.{on_ok_weaker}
use Rattle.vc_types.specs.declared.video.Component.TheVariants.{Y}
use Rattle.vc_types.specs.Quantisation.{dequantised}
use Rattle.vc_slice.specs.Bands.{numbered_in, quantisers_of}
use Rattle.vc_lowdelay.specs.OfBands.{read_in}
use Rattle.vc_lowdelay.proofs.SliceReads.{puts_same, puts_through}
use Rattle.vc_lowdelay.proofs.narrow.put_luma.Goals as goal

pub put_dequantised-requires-clause-small : goal.put_dequantised-requires-clause-small
put_dequantised-requires-clause-small c = λ i h. c.in_ok-greatest.ensures.most i (omega (arith, h, c.count-count.ensures))

pub returns : goal.returns
returns c =
    let bands = c.args.bands.now in
    let numbers = c.read_block.new.numbers in
    on_ok_weaker c.put_dequantised.result (λ puts.
    puts_through bands Y (read_in bands Y c.args.block.now) c.args.cells.now.items _ _ c.args.cells.now.len c.deref_mut.ensures.value (omega (arith, c.args.cells.now.ok.0))
    (puts_same bands Y (numbered_in bands Y numbers) (read_in bands Y c.args.block.now) _ _
    (λ i h. ap (λ (z : ℤ). dequantised z (get_or (quantisers_of bands Y) i 0)) (c.in_ok-greatest.ensures.numbers i (omega (arith, h, c.count-count.ensures))))
    puts))
    c.put_dequantised.ensures.all
