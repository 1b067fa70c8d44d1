use Rattle.link_pictures.specs.Completing.{HaveCome, comes_to}
use Rattle.link_pictures.proofs.completing.Source.complete.Given as goal

abbrev pub invariant-loop-index : goal.invariant-loop-index
invariant-loop-index l =
    HaveCome (comes_to l.fn.builder l.fn.unsound l.fn.self.book.now) l.index l.fn.builder l.builder
