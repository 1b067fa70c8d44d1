-- Byte strings that are kept one behind the other, and one more.
use Rattle.std.proofs.Common.{◌≡◌, ℕ, ◌+◌, ◌-◌, List, [], ◌∷◌, ◌++◌, All, map, length, take, drop, refl, ap, ◌∙◌, arith}
use Rattle.std.proofs.lemmas.List.{length-drop, take-append-le, drop-append-le, map-append}
use Rattle.std.proofs.lemmas.List.Elements.{All-head, All-tail}
use Rattle.std.proofs.Math.Seq.{take-length, drop-append_seam}
use Rattle.vc_ports.specs.Store.{piece_of, LiesWithin}
use Rattle.vc_ports.specs.declared.store.Piece.{Piece}

-- what stands inside some bytes stands there whatever comes behind them
piece_stays : (bytes more : List ℕ) (piece : Piece) → LiesWithin bytes piece → piece_of (bytes ++ more) piece ≡ piece_of bytes piece
piece_stays bytes more piece inside =
    ap (take (piece.to - piece.from)) (drop-append-le piece.from bytes more (omega (arith, inside.0, inside.1)))
    ∙ take-append-le (piece.to - piece.from) (drop piece.from bytes) more (rw length-drop (omega (arith, inside.0, inside.1)))

pieces_stay : (bytes more : List ℕ) (pieces : List Piece) → All (LiesWithin bytes) pieces → map (piece_of (bytes ++ more)) pieces ≡ map (piece_of bytes) pieces
pieces_stay bytes more [] all = refl
pieces_stay bytes more (piece ∷ pieces) all =
    ap (λ (one : List ℕ). one ∷ map (piece_of (bytes ++ more)) pieces) (piece_stays bytes more piece (All-head (LiesWithin bytes) piece pieces all))
    ∙ ap (λ (rest : List (List ℕ)). piece_of bytes piece ∷ rest) (pieces_stay bytes more pieces (All-tail (LiesWithin bytes) piece pieces all))

-- the piece behind the last
abbrev pub behind : List ℕ → List ℕ → Piece
behind bytes more = record { from = length bytes; to = length bytes + length more }

new_piece : (bytes more : List ℕ) → piece_of (bytes ++ more) (behind bytes more) ≡ more
new_piece bytes more =
    ap (λ (n : ℕ). take n (drop (length bytes) (bytes ++ more))) (omega arith)
    ∙ ap (take (length more)) (drop-append_seam bytes more)
    ∙ take-length more

pub one_more : (bytes more : List ℕ) (pieces : List Piece) → All (LiesWithin bytes) pieces → map (piece_of (bytes ++ more)) (pieces ++ behind bytes more ∷ []) ≡ map (piece_of bytes) pieces ++ more ∷ []
one_more bytes more pieces all =
    map-append (piece_of (bytes ++ more)) pieces (behind bytes more ∷ [])
    ∙ ap (λ (front : List (List ℕ)). front ++ map (piece_of (bytes ++ more)) (behind bytes more ∷ [])) (pieces_stay bytes more pieces all)
    ∙ ap (λ (last : List ℕ). map (piece_of bytes) pieces ++ last ∷ []) (new_piece bytes more)
