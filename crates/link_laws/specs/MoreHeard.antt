-- What a datagram changes of pictures, where it opens a session, ends one, or has other copies of slices.
use Rattle.std.specs.Prelude.{◌≡◌, ℕ, List, [], ◌∷◌, ◌++◌, Option, Some, None}
use Rattle.std.specs.Option.{option_and_then, option_or}
use Rattle.link_model.specs.Judgement.{outcome_behind}
use Rattle.link_model.specs.Kept.{Own, SliceRun, own_slice, part_slices, run_taken, slice_in, slice_run}
use Rattle.link_model.specs.Numbers.{picture_number}
use Rattle.link_model.specs.Output.{base_behind, entered_behind, full_output}
use Rattle.link_model.specs.Session.{Fragment, HeardSession, Part, fragment_in, sessions_of}
use Rattle.link_model.specs.declared.outcome.Outcome.TheVariants.{HeaderNew, End, SlicesConflict}
use Rattle.machine_model.specs.Feeders.{picture_keeps}

-- what a picture keeps of datagrams
abbrev pub keeps_of_heard : ℕ → List (List ℕ) → ℕ → Option Own
keeps_of_heard window datagrams n = picture_keeps window (sessions_of datagrams) n

-- with one datagram more, every picture keeps what it kept, and the same is due of all pictures
pub record LeavesPictures (window : ℕ) (datagrams : List (List ℕ)) (d : List ℕ) : Type 0 where
  pub kept : (n : ℕ)
      → keeps_of_heard window (datagrams ++ d ∷ []) n ≡ keeps_of_heard window datagrams n
  pub output : full_output window (datagrams ++ d ∷ []) ≡ full_output window datagrams

-- A datagram that says the sequence ends changes nothing of pictures.
abbrev pub EndsLeavePictures : Type 0
EndsLeavePictures = (window : ℕ) (datagrams : List (List ℕ)) (d : List ℕ)
    → outcome_behind window datagrams d ≡ End → LeavesPictures window datagrams d

-- A header that opens a session leaves the pictures of those before it.
abbrev pub HeadersLeavePictures : Type 0
HeadersLeavePictures = (window : ℕ) (datagrams : List (List ℕ)) (d : List ℕ)
    → outcome_behind window datagrams d ≡ HeaderNew → LeavesPictures window datagrams d

-- ---- slices that differ from those that are kept

-- the fragment in a datagram of the session that stands
abbrev pub fragment_of_last : List HeardSession → List ℕ → Option Fragment
fragment_of_last [] d = None
fragment_of_last (h ∷ hs) d = fragment_in h.session d

-- the number of a fragment's picture in the session that stands
abbrev pub number_of_last : ℕ → List HeardSession → Fragment → ℕ
number_of_last window [] f = f.number
number_of_last window (h ∷ hs) f =
    picture_number (base_behind window hs) (entered_behind window hs h) f.number

-- the slices of a part, by what its picture keeps
abbrev pub run_in_part : Own → Part → Option SliceRun
run_in_part kept part =
    option_and_then (λ slices. run_taken (slice_run kept.plan.parameters slices)) (part_slices part)

abbrev pub with_run_more : Own → SliceRun → Own
with_run_more kept run = record kept { runs = kept.runs ++ run ∷ [] }

-- The slices of a datagram come after those that their picture keeps: it has each slice that it had,
-- and of the datagram's those that it hadn't. Every other picture keeps what it kept.
pub record BringsNewSlices (window : ℕ) (datagrams : List (List ℕ)) (d : List ℕ) : Type 0 where
  pub fragment : Fragment
  pub number : ℕ
  pub kept : Own
  pub run : SliceRun
  pub is_fragment : fragment_of_last (sessions_of datagrams) d ≡ Some fragment
  pub is_number : number ≡ number_of_last window (sessions_of datagrams) fragment
  pub is_kept : keeps_of_heard window datagrams number ≡ Some kept
  pub is_run : run_in_part kept fragment.part ≡ Some run
  pub now : keeps_of_heard window (datagrams ++ d ∷ []) number ≡ Some (with_run_more kept run)
  pub slices : (i : ℕ)
      → own_slice (with_run_more kept run) i ≡ option_or (own_slice kept i) (slice_in run i)
  pub others : (n : ℕ) → (n ≡ number → ⊥)
      → keeps_of_heard window (datagrams ++ d ∷ []) n ≡ keeps_of_heard window datagrams n

-- Slices of which one is kept with other bytes change nothing but those that are new.
abbrev pub ConflictsBringNewSlices : Type 0
ConflictsBringNewSlices = (window : ℕ) (datagrams : List (List ℕ)) (d : List ℕ)
    → outcome_behind window datagrams d ≡ SlicesConflict → BringsNewSlices window datagrams d
