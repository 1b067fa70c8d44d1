-- Whole frames one behind the other: none, one more, and that bytes hold one list of them alone.
use Rattle.std.proofs.Common.{◌≡◌, ℕ, ◌<◌, List, [], ◌∷◌, ◌++◌, length, refl, ap, sym, ◌∙◌, append-nil}
use Rattle.std.specs.List.{concat}
use Rattle.std.proofs.lemmas.List.{map-append}
use Rattle.std.proofs.lemmas.List.Folds.{concat-append}
use Rattle.std.proofs.lemmas.List.Elements.{All-nil, All-cons, All-append}
use Rattle.vc_types.specs.declared.shape.Shape.{Shape}
use Rattle.vc_types.specs.Planes.{Planes}
use Rattle.frame_writer.specs.FrameBytes.{frame_of_bytes, frame_length}
use Rattle.frame_writer.specs.WholeFrames.{HoldFrames}

-- no frames
pub hold_none : (shape : Shape) → 0 < frame_length shape → HoldFrames shape [] [] []
hold_none shape some = record {
  pieces = [];
  whole = All-nil (λ piece. length piece ≡ frame_length shape);
  short = some;
  bytes_are = refl;
  frames_are = refl;
}

module _ (shape : Shape) (bytes : List ℕ) (frames : List Planes) (holds : HoldFrames shape bytes frames []) where
  pub bytes_are : bytes ≡ concat holds.pieces
  bytes_are = holds.bytes_are ∙ append-nil (concat holds.pieces)

  -- one more behind them
  pub hold_more : (piece : List ℕ) → length piece ≡ frame_length shape → HoldFrames shape (bytes ++ piece) (frames ++ frame_of_bytes shape piece ∷ []) []
  hold_more piece long = record {
    pieces = holds.pieces ++ piece ∷ [];
    whole = All-append (λ p. length p ≡ frame_length shape) holds.pieces (piece ∷ []) holds.whole (All-cons (λ p. length p ≡ frame_length shape) piece [] long (All-nil (λ p. length p ≡ frame_length shape)));
    short = holds.short;
    bytes_are =
        ap (λ (l : List ℕ). l ++ piece) bytes_are
        ∙ ap (λ (l : List ℕ). concat holds.pieces ++ l) (sym (append-nil piece))
        ∙ sym (concat-append holds.pieces (piece ∷ []))
        ∙ sym (append-nil (concat (holds.pieces ++ piece ∷ [])));
    frames_are =
        ap (λ (l : List Planes). l ++ frame_of_bytes shape piece ∷ []) holds.frames_are
        ∙ sym (map-append (frame_of_bytes shape) holds.pieces (piece ∷ []));
  }

  -- a rest behind them
  pub hold_rest : (rest : List ℕ) → length rest < frame_length shape → HoldFrames shape (bytes ++ rest) frames rest
  hold_rest rest short = record {
    pieces = holds.pieces;
    whole = holds.whole;
    short = short;
    bytes_are = ap (λ (l : List ℕ). l ++ rest) bytes_are;
    frames_are = holds.frames_are;
  }
