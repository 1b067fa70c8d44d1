-- A picture more at the end of a stream's pictures: the frames that it brings, and the field that waits then.
use Rattle.std.proofs.Common.{◌≡◌, List, [], ◌∷◌, ◌++◌, refl, ap, inl, inr, arith}
use Rattle.std.proofs.lemmas.Bool.{cases_Bool}
use Rattle.std.proofs.lemmas.Grind.{common_steps}
use Rattle.vc_types.specs.FieldPairs.{woven}
use Rattle.vc_types.specs.Planes.{Planes}
use Rattle.vc_types.specs.SequenceHeader.{Sequence}
use Rattle.cmd_stream.specs.Stream.{StreamPicture, is_pair, paired_frames}
use Rattle.cmd_stream.specs.PlaySteps.{next_waiting, completed, waiting_in}

module _ (s : Sequence) (p : StreamPicture) where
  abbrev frames : List StreamPicture → List Planes
  frames pictures = paired_frames s.top_first pictures

  abbrev BringsFrames : List StreamPicture → Type 0
  BringsFrames pictures = frames (pictures ++ p ∷ []) ≡ frames pictures ++ completed s (waiting_in pictures) p

  abbrev LeavesWaiting : List StreamPicture → Type 0
  LeavesWaiting pictures = waiting_in (pictures ++ p ∷ []) ≡ next_waiting (waiting_in pictures) p

  pub paired-more : (pictures : List StreamPicture) → BringsFrames pictures
  unfolding paired_frames waiting_in
  paired-more [] = refl
  paired-more (a ∷ []) = grind (arith, common_steps, cases_Bool)
  paired-more (a ∷ b ∷ rest) = elim (cases_Bool (is_pair a b)) [
    | inl pair ↦ rw pair (ap (λ (behind : List Planes). woven s.top_first a.planes b.planes ∷ behind) (paired-more rest))
    | inr apart ↦ rw apart (paired-more (b ∷ rest))
  ]

  pub waiting-more : (pictures : List StreamPicture) → LeavesWaiting pictures
  unfolding waiting_in
  waiting-more [] = refl
  waiting-more (a ∷ []) = grind (arith, common_steps, cases_Bool)
  waiting-more (a ∷ b ∷ rest) = elim (cases_Bool (is_pair a b)) [
    | inl pair ↦ rw pair (waiting-more rest)
    | inr apart ↦ rw apart (waiting-more (b ∷ rest))
  ]
