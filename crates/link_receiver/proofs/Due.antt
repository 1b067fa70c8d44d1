-- What is due with one datagram more, and at the end, behind what was due before.
use Rattle.std.proofs.Common.{◌≡◌, ℕ, List, [], ◌∷◌, ◌++◌, length, drop, refl, sym, ap, ◌∙◌, append-nil}
use Rattle.std.proofs.Math.Seq.{drop-append_seam}
use Rattle.fill_model.proofs.Prefixes.{filled_grows, filled_begins_all}
use Rattle.fill_model.specs.Filled.{filled_behind}
use Rattle.fill_model.specs.FilledSessions.{filled_so_far, last_filled}
use Rattle.link_model.specs.Output.{output_so_far, last_so_far, IsPrefixOf}
use Rattle.link_model.proofs.Growing.{output_so_far_grows, output_so_far_begins_full}
use Rattle.link_receiver.specs.HeardLists.{OutputForm, AsFrames, AsFilled, AsUnits}
use Rattle.link_receiver.specs.HeardLists.{due_so_far, due_in_all, newly_due, still_due}
use Rattle.stream_model.specs.Streams.{stream_so_far, first_pictures_so_far, units_behind}
use Rattle.stream_model.proofs.Growing.{so_far_grows, so_far_begins_stream}

-- the rest behind a prefix
behind_prefix : (front all : List ℕ) → IsPrefixOf front all → front ++ drop (length front) all ≡ all
behind_prefix front all begins =
    ap (λ (l : List ℕ). front ++ drop (length front) l) begins.1
    ∙ ap (λ (l : List ℕ). front ++ l) (drop-append_seam front begins.0)
    ∙ sym begins.1

module _ (window : ℕ) (datagrams : List (List ℕ)) where
  grows : (form : OutputForm) (d : List ℕ)
      → IsPrefixOf (due_so_far form window datagrams) (due_so_far form window (datagrams ++ d ∷ []))
  grows AsFrames d = output_so_far_grows window datagrams (d ∷ [])
  grows AsFilled d = filled_grows window datagrams d
  grows AsUnits d = so_far_grows window datagrams (d ∷ [])

  begins_all : (form : OutputForm)
      → IsPrefixOf (due_so_far form window datagrams) (due_in_all form window datagrams)
  begins_all AsFrames = rw append-nil at (output_so_far_begins_full window datagrams [])
  begins_all AsFilled = filled_begins_all window datagrams
  begins_all AsUnits = rw append-nil at (so_far_begins_stream window datagrams [])

pub due_with : (form : OutputForm) (window : ℕ) (datagrams : List (List ℕ)) (d : List ℕ)
    → due_so_far form window datagrams ++ newly_due form window datagrams d
    ≡ due_so_far form window (datagrams ++ d ∷ [])
due_with form window datagrams d =
    behind_prefix (due_so_far form window datagrams) (due_so_far form window (datagrams ++ d ∷ []))
    (grows window datagrams form d)

pub due_at_end : (form : OutputForm) (window : ℕ) (datagrams : List (List ℕ))
    → due_so_far form window datagrams ++ still_due form window datagrams
    ≡ due_in_all form window datagrams
due_at_end form window datagrams =
    behind_prefix (due_so_far form window datagrams) (due_in_all form window datagrams)
    (begins_all window datagrams form)

-- nothing is due of no datagrams
pub nothing_due : (form : OutputForm) (window : ℕ) → due_so_far form window [] ≡ []
unfolding output_so_far last_so_far filled_so_far last_filled filled_behind stream_so_far
    first_pictures_so_far units_behind
nothing_due AsFrames window = refl
nothing_due AsFilled window = refl
nothing_due AsUnits window = refl
