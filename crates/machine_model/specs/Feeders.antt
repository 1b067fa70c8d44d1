-- What the feeder of workers has (this project's own): the datagrams that it heard, the answers to
-- slices that it got, and the pictures that it released.
use Rattle.std.specs.Prelude.{ℕ, ◌==◌, Bool, true, false, ◌&&◌, ◌||◌, not, is_some, if◌then◌else◌}
use Rattle.std.specs.Prelude.{List, [], ◌∷◌, ◌++◌, filter, slice_get, Option, Some, None, Result}
use Rattle.std.specs.List.{list_all, list_any}
use Rattle.std.specs.Option.{option_and_then, option_map}
use Rattle.link_model.specs.Complete.{has_all_slices, slice_numbers}
use Rattle.link_model.specs.Kept.{Own, own, own_slice}
use Rattle.link_model.specs.Numbers.{Numbered, is_opened, parts_of, opened_numbers}
use Rattle.link_model.specs.Output.{entered_behind, is_closed_in, let_go_numbers}
use Rattle.machine_model.specs.Places.{Job}
use Rattle.link_model.specs.Session.{HeardSession, sessions_of}
use Rattle.vc_types.specs.SequenceHeader.{Sequence}
use Rattle.vc_types.specs.Slices.{Coefficients}
use Rattle.vc_types.specs.declared.refusal.Unsound.{Unsound}

-- the answer to a slice of a picture
pub record SliceAnswer : Type 0 where
  pub number : ℕ
  pub index : ℕ
  pub answer : Result Coefficients Unsound

-- the datagrams, and whether the input has ended; the answers, the last one first; the numbers of
-- the pictures that were released, in this order; and the bytes that were written
pub record Feeder : Type 0 where
  pub heard : List (List ℕ)
  pub has_ended : Bool
  pub decoded : List SliceAnswer
  pub released : List ℕ
  pub written : List ℕ

abbrev pub new_feeder : Feeder
new_feeder = record { heard = []; has_ended = false; decoded = []; released = []; written = [] }

-- ---- pictures that were heard

-- the sequence of a session, and what was entered of it
pub record EnteredSession : Type 0 where
  pub sequence : Sequence
  pub entries : List Numbered

abbrev pub entered_session : ℕ → List HeardSession → HeardSession → EnteredSession
entered_session window hs h = record {
  sequence = h.session.sequence;
  entries = entered_behind window hs h;
}

-- the session in which a picture is opened
unfoldable pub session_opening : ℕ → List HeardSession → ℕ → Option EnteredSession
session_opening window [] n = None
session_opening window (h ∷ hs) n =
    if is_opened (entered_behind window hs h) n then Some (entered_session window hs h)
    else session_opening window hs n

abbrev pub keeps_of : EnteredSession → ℕ → Option Own
keeps_of e n = own e.sequence (parts_of n e.entries)

-- what a picture keeps
abbrev pub picture_keeps : ℕ → List HeardSession → ℕ → Option Own
picture_keeps window hs n = option_and_then (λ e. keeps_of e n) (session_opening window hs n)

abbrev pub job_with : Own → ℕ → ℕ → List ℕ → Job
job_with kept n i bytes = record {
  plan = kept.plan.parameters;
  number = n;
  index = i;
  bytes = bytes;
}

-- the job of a slice that a picture keeps
abbrev pub job_by : Own → ℕ → ℕ → Option Job
job_by kept n i = option_map (job_with kept n i) (own_slice kept i)

unfoldable pub kept_job : ℕ → List HeardSession → ℕ → ℕ → Option Job
kept_job window hs n i = option_and_then (λ kept. job_by kept n i) (picture_keeps window hs n)

-- ---- pictures that are let go

-- the pictures of all sessions, in rising order
unfoldable pub heard_pictures : ℕ → List HeardSession → List ℕ
heard_pictures window [] = []
heard_pictures window (h ∷ hs) =
    heard_pictures window hs ++ opened_numbers (entered_behind window hs h)

-- Those that are let go, in rising order: all pictures of the sessions before the last, and of the
-- last one those that are closed, or before which every picture that isn't is complete. All, once
-- the input has ended.
unfoldable pub let_go_pictures : ℕ → Bool → List HeardSession → List ℕ
let_go_pictures window true hs = heard_pictures window hs
let_go_pictures window false [] = []
let_go_pictures window false (h ∷ hs) =
    heard_pictures window hs
    ++ let_go_numbers window h.session.sequence (entered_behind window hs h)

abbrev pub is_among : List ℕ → ℕ → Bool
is_among numbers n = list_any (λ m. m == n) numbers

-- pictures that are let go and weren't released
abbrev pub not_released : List ℕ → List ℕ → List ℕ
not_released released numbers = filter (λ n. not (is_among released n)) numbers

abbrev pub releasable : ℕ → Feeder → List ℕ
releasable window f =
    not_released f.released (let_go_pictures window f.has_ended (sessions_of f.heard))

-- the least of them
abbrev pub next_to_release : ℕ → Feeder → Option ℕ
next_to_release window f = slice_get (releasable window f) 0

-- ---- answers

abbrev pub answer_in : List SliceAnswer → ℕ → ℕ → Option (Result Coefficients Unsound)
answer_in [] n i = None
answer_in (a ∷ later) n i =
    if a.number == n && a.index == i then Some a.answer else answer_in later n i

abbrev pub is_decoded : Feeder → ℕ → ℕ → Bool
is_decoded f n i = is_some (answer_in f.decoded n i)

-- the job of a slice that was heard and is kept
abbrev pub slice_job : ℕ → Feeder → ℕ → ℕ → Option Job
slice_job window f n i = kept_job window (sessions_of f.heard) n i

abbrev pub is_kept : ℕ → Feeder → ℕ → ℕ → Bool
is_kept window f n i = is_some (slice_job window f n i)

-- what a picture keeps of what was heard
abbrev pub keeps_now : ℕ → Feeder → ℕ → Option Own
keeps_now window f n = picture_keeps window (sessions_of f.heard) n

-- a picture is closed by the window, by the next session, or by the end of the input
abbrev pub is_closed_now : ℕ → Feeder → ℕ → Bool
is_closed_now window f n = f.has_ended || is_closed_in window (sessions_of f.heard) n

abbrev pub has_released : Feeder → ℕ → Bool
has_released f n = is_among f.released n

-- each of a picture's slices has an answer
abbrev pub has_every_answer : List SliceAnswer → ℕ → Own → Bool
has_every_answer decoded n kept =
    list_all (λ i. is_some (answer_in decoded n i)) (slice_numbers kept)

-- and so it is where the picture is complete
abbrev pub is_ready : List SliceAnswer → ℕ → Option Own → Bool
is_ready decoded n None = true
is_ready decoded n (Some kept) =
    not (has_all_slices kept) || has_every_answer decoded n kept
