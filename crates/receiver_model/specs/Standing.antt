-- What a receiver stands for: a list of datagrams that it heard, and the feeder of workers that
-- heard them.
use Rattle.std.specs.Prelude.{◌≡◌, ◌⊎◌, ℕ, ◌+◌, Bool, true, false, count_by, fold, filter, not}
use Rattle.std.specs.Prelude.{List, [], ◌∷◌, length, Option, Some, None}
use Rattle.std.specs.Option.{option_and_then}
use Rattle.link_model.specs.Books.{Book, book_of}
use Rattle.machine_model.specs.Feeders.{Feeder, let_go_pictures, answer_in, has_released}
use Rattle.machine_model.specs.Feeders.{SliceAnswer, picture_keeps, is_among}
use Rattle.machine_model.specs.Feeding.{planes_by}
use Rattle.machine_model.specs.Interleavings.{due, AreOwnAnswers}
use Rattle.link_model.specs.Judgement.{is_incomplete, is_unsound, has_frame, with_sessions}
use Rattle.link_model.specs.Judgement.{outcomes_in, outcome_counts, keeps}
use Rattle.link_model.specs.Kept.{Own}
use Rattle.link_model.specs.Numbers.{Numbered, opened_numbers}
use Rattle.link_model.specs.Output.{planes_at, entered_behind, let_go_numbers}
use Rattle.machine_model.specs.Places.{Answered, decoding}
use Rattle.link_model.specs.Session.{HeardSession, sessions_of}
use Rattle.link_model.specs.Windows.{WindowPast, session_past, past_let_go, window_of}
use Rattle.link_model.specs.Windows.{Window, book_at, stays_in, with_number}
use Rattle.link_model.specs.declared.outcome.Outcome.{Outcome}
use Rattle.link_model.specs.declared.outcome.Outcome.TheVariants.{HeaderNew, End}
use Rattle.link_model.specs.declared.tally.Tally.{Tally}
use Rattle.vc_types.specs.Planes.{Planes}
use Rattle.vc_types.specs.SequenceHeader.{Sequence}
use Rattle.vc_types.specs.Subbands.{slice_count}
use Rattle.receiver_model.specs.Receptions.{StandingSession, Reception, FirstField, PictureAnswers}
use Rattle.receiver_model.specs.Receptions.{answers_at, kept_answer, RunOut}
use Rattle.receiver_model.specs.Releasing.{fields_alone, field_behind}

-- ---- the session that stands

-- every picture that is let go was released
abbrev pub all_released : WindowPast → WindowPast
all_released p = record p { released = past_let_go p }

abbrev pub last_past : ℕ → Bool → List HeardSession → HeardSession → WindowPast
last_past size over hs h = record (session_past size hs h []) { is_ended = over }

abbrev pub standing_with : HeardSession → WindowPast → StandingSession
standing_with h p = record {
  session = h.session;
  has_ended = h.has_ended;
  window = window_of p;
}

-- of the last session of those that were heard
abbrev pub standing_of : ℕ → Bool → List HeardSession → Option StandingSession
standing_of size over [] = None
standing_of size over (h ∷ hs) = Some (standing_with h (all_released (last_past size over hs h)))

-- ---- fields and counts

-- a first field that waits, and how many fields were found to be alone
pub record Fields : Type 0 where
  pub waiting : Option FirstField
  pub alone : ℕ

abbrev pub no_fields : Fields
no_fields = record { waiting = None; alone = 0 }

-- a picture more
abbrev pub next_field : Sequence → List Numbered → Fields → ℕ → Fields
next_field s es fields n = record {
  waiting = field_behind s n (planes_at s es n);
  alone = fields.alone + fields_alone s fields.waiting n (planes_at s es n);
}

-- after pictures that were released, in this order
abbrev pub fields_behind : Sequence → List Numbered → List ℕ → Fields
fields_behind s es released = fold (next_field s es) no_fields released

-- with what became of the pictures of a session that were released
unfoldable pub with_released : Sequence → List Numbered → List ℕ → Tally → Tally
with_released s es released t = record t {
  incomplete = t.incomplete + count_by (is_incomplete s es) released;
  unsound = t.unsound + count_by (is_unsound s es) released;
  unpaired = t.unpaired + (fields_behind s es released).alone;
  frames = t.frames + count_by (has_frame s es) released;
}

abbrev pub past_fields : WindowPast → Fields
past_fields p = fields_behind p.sequence p.entries p.released

abbrev pub past_counts : WindowPast → Tally → Tally
past_counts p t = with_released p.sequence p.entries p.released t

-- once the input has ended none waits
abbrev pub field_of_sessions : ℕ → Bool → List HeardSession → Option FirstField
field_of_sessions size true hs = None
field_of_sessions size false [] = None
field_of_sessions size false (h ∷ hs) =
    (past_fields (all_released (last_past size false hs h))).waiting

-- the counts of outcomes, and of the pictures that were released
abbrev pub counts_of_sessions : ℕ → Bool → List HeardSession → Tally → Tally
counts_of_sessions size true hs t = with_sessions size hs t
counts_of_sessions size false [] t = t
counts_of_sessions size false (h ∷ hs) t =
    past_counts (all_released (last_past size false hs h)) (with_sessions size hs t)

-- how many frames sessions have
unfoldable pub frames_of_sessions : ℕ → List HeardSession → ℕ
frames_of_sessions size [] = 0
frames_of_sessions size (h ∷ hs) =
    let es = entered_behind size hs h in
    frames_of_sessions size hs + count_by (has_frame h.session.sequence es) (opened_numbers es)

-- and how many of them are in the output so far
abbrev pub frames_written : ℕ → List HeardSession → ℕ
frames_written size [] = 0
frames_written size (h ∷ hs) =
    let es = entered_behind size hs h in
    let s = h.session.sequence in
    frames_of_sessions size hs + count_by (has_frame s es) (let_go_numbers size s es)

-- the counts of outcomes of the one, and those of pictures of the other
abbrev pub with_picture_counts : Tally → Tally → Tally
with_picture_counts t pictures = record t {
  incomplete = pictures.incomplete;
  unsound = pictures.unsound;
  unpaired = pictures.unpaired;
  frames = pictures.frames;
}

-- ---- a list of datagrams

pub record StandsForHeard (r : Reception) (size : ℕ) (datagrams : List (List ℕ)) (over : Bool)
    : Type 0 where
  pub open_pictures : r.size ≡ size
  pub ended : r.has_ended ≡ over
  pub session : r.standing ≡ standing_of size over (sessions_of datagrams)
  pub waiting_field : r.field ≡ field_of_sessions size over (sessions_of datagrams)
  pub counted : r.counts
      ≡ counts_of_sessions size over (sessions_of datagrams)
      (outcome_counts (outcomes_in size datagrams))

-- ---- what isn't kept

-- whether a datagram with this outcome leaves the session, and what its pictures keep
abbrev pub leaves_pictures : Outcome → Bool
leaves_pictures HeaderNew = false
leaves_pictures End = false
leaves_pictures other = not (keeps other)

-- The books are the same: each was there before, or is that of a picture that keeps nothing yet; and
-- none goes but those of pictures that are closed and were released.
pub record LeavesBooks (s : Sequence) (old new : Window) : Type 0 where
  pub no_other : (n : ℕ) (book : Book) → book_at new.books n ≡ Some book
      → (book_at old.books n ≡ Some book)
      ⊎ ((book_at old.books n ≡ None) × (book ≡ book_of s []))
  pub none_goes : (n : ℕ) (book : Book) → book_at old.books n ≡ Some book
      → stays_in new (with_number n book) ≡ true → book_at new.books n ≡ Some book

abbrev pub LeavesSession : Option StandingSession → Option StandingSession → Type 0
LeavesSession None None = Unit {0}
LeavesSession None (Some now) = ⊥
LeavesSession (Some st) None = ⊥
LeavesSession (Some st) (Some now) =
    (now.session ≡ st.session) × (now.has_ended ≡ st.has_ended)
    × LeavesBooks st.session.sequence st.window now.window

-- ---- what places give back

-- each is the decoding of its own job
abbrev pub AreDecodings : List Answered → Type 0
AreDecodings [] = Unit {0}
AreDecodings (done ∷ rest) = (done.answer ≡ decoding done.job) × AreDecodings rest

-- the runs that are out but those of these pictures
abbrev pub out_without : List ℕ → List RunOut → List RunOut
out_without released out = filter (λ run. not (is_among released run.number)) out

-- ---- a feeder

-- they have the picture's parameters, and room for each of its slices
abbrev pub HasSlots : ℕ → List HeardSession → ℕ → Option PictureAnswers → Type 0
HasSlots size hs n None = Unit {0}
HasSlots size hs n (Some a) =
    (kept : Own) × (picture_keeps size hs n ≡ Some kept)
    × (a.parameters ≡ kept.plan.parameters)
    × (length a.slices ≡ slice_count kept.plan.parameters)

-- the planes of a picture, if each of its slices has an answer that is sound
abbrev pub answered_planes : ℕ → List HeardSession → List SliceAnswer → ℕ → Option Planes
answered_planes size hs decoded n =
    option_and_then (planes_by decoded n) (picture_keeps size hs n)

-- It stands for what was heard; what is let go is released, and written; every answer is its own
-- slice's; the receiver has the answers of the pictures that aren't released.
pub record StandsFor (r : Reception) (size : ℕ) (f : Feeder) : Type 0 where
  pub heard : StandsForHeard r size f.heard f.has_ended
  pub released : f.released ≡ let_go_pictures size f.has_ended (sessions_of f.heard)
  pub written : f.written ≡ due size f
  pub own : AreOwnAnswers size (sessions_of f.heard) f.decoded
  pub answers : (n i : ℕ) → has_released f n ≡ false
      → kept_answer r.answers n i ≡ answer_in f.decoded n i
  pub room : (n : ℕ) → HasSlots size (sessions_of f.heard) n (answers_at r.answers n)
  pub first_field : (w : FirstField) → r.field ≡ Some w
      → answered_planes size (sessions_of f.heard) f.decoded w.number ≡ Some w.planes
