use Rattle.vc_types.specs.declared.video.Component.TheVariants.{Y, C1, C2}
use Rattle.vc_lowdelay.proofs.HeldPictures.{held, decodable}
use Rattle.vc_lowdelay.proofs.decoding.put_cells.Goals as goal

pub returns : goal.returns
returns c = record {
  y = held c.args.p.now c.args.bytes.now Y _ _ c.in_ok-put_slices.ensures.luma c.in_ok-grow_lowest.ensures;
  c1 = held c.args.p.now c.args.bytes.now C1 _ _ c.in_ok-put_slices.ensures.first_colour c.in_ok-grow_lowest-2.ensures;
  c2 = held c.args.p.now c.args.bytes.now C2 _ _ c.in_ok-put_slices.ensures.second_colour c.in_ok-grow_lowest-3.ensures;
  sound = decodable c.args.p.now c.args.bytes.now c.requires.whole _ _ _ _ _ _ c.in_ok-put_slices.ensures c.in_ok-grow_lowest.ensures c.in_ok-grow_lowest-2.ensures c.in_ok-grow_lowest-3.ensures;
}
