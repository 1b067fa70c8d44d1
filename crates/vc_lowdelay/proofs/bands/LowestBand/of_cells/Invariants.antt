use Rattle.std.proofs.Common.{◌≡◌, ◌+◌, ◌*◌, ◌^◌, ◌<◌, length, unsigned_abs}
use Rattle.vc_lowdelay.specs.Narrow.{cells_of}
use Rattle.vc_lowdelay.proofs.LowestCopies.{FirstHold, FirstStand}
use Rattle.vc_lowdelay.proofs.bands.LowestBand.of_cells.Given as goal

abbrev pub invariant-loop-y : goal.invariant-loop-y
invariant-loop-y l = record {
  long : length l.values.items ≡ l.rect.width * l.rect.height;
  first : FirstStand l.rect.width l.rect.height l.rect.width (cells_of l.stride l.cells) (l.y * l.rect.width) l.values.items;
  small : FirstHold l.rect.width l.rect.height (λ a b. unsigned_abs (cells_of l.stride l.cells a b) < 2 ^ 60) (l.y * l.rect.width);
}

abbrev pub invariant-loop-x : goal.invariant-loop-x
invariant-loop-x l = record {
  long : length l.values.items ≡ l.rect.width * l.rect.height;
  first : FirstStand l.rect.width l.rect.height l.rect.width (cells_of l.stride l.cells) (l.y * l.rect.width + l.x) l.values.items;
  small : FirstHold l.rect.width l.rect.height (λ a b. unsigned_abs (cells_of l.stride l.cells a b) < 2 ^ 60) (l.y * l.rect.width + l.x);
}
