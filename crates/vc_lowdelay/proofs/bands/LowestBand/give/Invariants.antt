use Rattle.std.proofs.Common.{◌≡◌, ◌≢◌, ◌+◌, ◌*◌, ◌<◌, ℕ, length}
use Rattle.vc_types.specs.Lifting.{line_of}
use Rattle.vc_lowdelay.specs.Bands.{value_in}
use Rattle.vc_lowdelay.proofs.LowestCopies.{FirstStand}
use Rattle.vc_lowdelay.proofs.bands.LowestBand.give.Given as goal

abbrev pub invariant-loop-y : goal.invariant-loop-y
invariant-loop-y l = record {
  on : FirstStand l.self.width l.self.height l.stride (value_in l.self) (l.y * l.self.width) l.cells.items;
  off : (k : ℕ) → ((x y : ℕ) → x < l.self.width → y < l.self.height → k ≢ y * l.stride + x) → line_of l.cells.items k ≡ line_of l.initial.cells.items k;
  length : length l.cells.items ≡ length l.initial.cells.items;
}

abbrev pub invariant-loop-x : goal.invariant-loop-x
invariant-loop-x l = record {
  on : FirstStand l.self.width l.self.height l.stride (value_in l.self) (l.y * l.self.width + l.x) l.cells.items;
  off : (k : ℕ) → ((x y : ℕ) → x < l.self.width → y < l.self.height → k ≢ y * l.stride + x) → line_of l.cells.items k ≡ line_of l.fn.cells.items k;
  length : length l.cells.items ≡ length l.fn.cells.items;
}
