use Rattle.std.proofs.Common.{◌-◌, List, ℕ}
use Rattle.link_hearing.proofs.HeardLoop.{IsAt}
use Rattle.link_hearing.proofs.hearing.hear_all.Given as goal

abbrev pub invariant-loop-place : goal.invariant-loop-place
invariant-loop-place g l = record {
  inlet : g.I.Inlet.is_ready l.inlet (l.fn.packets - l._place);
  listener : g.L.Listener.is_ready l.listener;
  at : (heard : List (List ℕ)) × IsAt (g.I.Inlet.came l.fn.inlet l.inlet)
      (g.L.Listener.heard l.fn.listener l.listener) l._place heard;
}
