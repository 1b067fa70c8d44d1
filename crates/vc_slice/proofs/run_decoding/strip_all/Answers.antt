use Rattle.std.proofs.Common.{◌∙◌, length, arith}
use Rattle.vc_types.specs.TransformParameters.{parameters_of}
use Rattle.vc_slice.proofs.ColourParts.{run_colour_counts}
use Rattle.vc_slice.proofs.RunDecodings.{room-for, joined-value}
use Rattle.vc_slice.proofs.run_decoding.strip_all.Goals as goal

pub strip_each-requires-clause-room : goal.strip_each-requires-clause-room
strip_each-requires-clause-room c = room-for (parameters_of c.args.run.now.plan) c.args.run.now.first c.args.run.now.count c.args.y c.args.c (length c.split_at_mut-strip.result.1.now) c.requires.y c.requires.c
    (omega (arith, c.requires.room, c.split_at_mut-strip.ensures.back_len))

pub strip_each-requires-clause-c2 : goal.strip_each-requires-clause-c2
strip_each-requires-clause-c2 c =
    let both = run_colour_counts (parameters_of c.args.run.now.plan) c.args.run.now.first c.args.run.now.count in
    omega (arith, both, c.requires.c, c.split_at_mut-for_c1.ensures.back_len, c.split_at_mut-for_y.ensures.back_len, c.split_at_mut-strip.ensures.front_len)

pub returns : goal.returns
returns c = record {
  value = joined-value (parameters_of c.args.run.now.plan) c.args.run.now.first c.args.run.now.count c.args.slices.now c.args.y c.args.c c.strip_each.new.y c.strip_each.new.c1 c.strip_each.new.c2 c.strip_each.new.numbers
      (c.strip_each.auto.y ∙ c.split_at_mut-for_y.ensures.front_len) (c.strip_each.auto.c1 ∙ c.split_at_mut-for_c1.ensures.front_len)
      (c.strip_each.auto.c2 ∙ omega (arith, c.split_at_mut-for_c1.ensures.back_len, c.split_at_mut-for_y.ensures.back_len, c.split_at_mut-strip.ensures.front_len))
      c.strip_each.result c.strip_each.ensures.value;
}
