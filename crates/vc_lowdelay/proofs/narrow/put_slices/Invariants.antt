use Rattle.vc_types.specs.declared.video.Component.TheVariants.{Y, C1, C2}
use Rattle.vc_lowdelay.proofs.NarrowSlices.{FirstIn, FirstSound}
use Rattle.vc_lowdelay.proofs.narrow.put_slices.Given as goal

abbrev pub invariant-loop-slice : goal.invariant-loop-slice
invariant-loop-slice l = record {
  y : FirstIn l.p l.bytes Y l.slice l.room.y.items;
  c1 : FirstIn l.p l.bytes C1 l.slice l.room.c1.items;
  c2 : FirstIn l.p l.bytes C2 l.slice l.room.c2.items;
  sound : FirstSound l.p l.bytes l.slice;
}
