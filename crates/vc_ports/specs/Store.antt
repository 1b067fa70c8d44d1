-- Where byte strings are kept one behind the other.
use Rattle.std.specs.Prelude.{ℕ, ◌≤◌, List, length, slice_range}
use Rattle.vc_ports.specs.declared.store.Piece.{Piece}

abbrev pub piece_of : List ℕ → Piece → List ℕ
piece_of bytes piece = slice_range bytes piece.from piece.to

abbrev pub LiesWithin : List ℕ → Piece → Type 0
LiesWithin bytes piece = (piece.from ≤ piece.to) × (piece.to ≤ length bytes)
