-- How a receiver releases a picture (this project's own): it decodes the slices that have no
-- answer, writes the frame of which the picture is the last, and forgets what it had of it.
use Rattle.std.specs.Prelude.{ℕ, zero, suc, ◌+◌, ◌%◌, ◌==◌, Bool, ◌&&◌, not, is_some, is_none}
use Rattle.std.specs.Prelude.{if◌then◌else◌, List, [], ◌∷◌, ◌++◌, length, map, filter, unwrap_or}
use Rattle.std.specs.Prelude.{Option, Some, None, Ok, Err}
use Rattle.std.specs.List.{range_with_len}
use Rattle.std.specs.Option.{option_and_then, option_map, option_map_or}
use Rattle.link_model.specs.Books.{Gathered, Book, slot_at, book_whole}
use Rattle.machine_model.specs.Feeding.{with_first}
use Rattle.link_model.specs.Output.{raw_bytes, woven_fields}
use Rattle.link_model.specs.Windows.{Window, book_at, Releasable, next_release, releases}
use Rattle.link_model.specs.declared.tally.Tally.{Tally}
use Rattle.vc_types.specs.Planes.{Planes, planes_of}
use Rattle.vc_types.specs.SameValues.{same_parameters}
use Rattle.vc_types.specs.SequenceHeader.{Sequence}
use Rattle.vc_types.specs.Slices.{Coefficients, slice_coefficients}
use Rattle.vc_types.specs.TransformParameters.{Parameters}
use Rattle.receiver_model.specs.Receptions.{StandingSession, Decoding, PictureAnswers, RunOut}
use Rattle.receiver_model.specs.Receptions.{FirstField, Reception, answers_at, answer_at}
use Rattle.receiver_model.specs.Receptions.{answers_without}

-- ---- its planes

abbrev pub slot_bytes : Gathered → ℕ → List ℕ
slot_bytes g i = unwrap_or (slot_at g.slots i) []

-- the answers by these parameters
abbrev pub answers_by : Parameters → PictureAnswers → List (Option Decoding)
answers_by p a = if same_parameters a.parameters p then a.slices else []

-- the answer to a picture's slice
abbrev pub own_answer_at : List PictureAnswers → ℕ → Gathered → ℕ → Option Decoding
own_answer_at answers n g i =
    answer_at (option_map_or (answers_by g.plan.parameters) (answers_at answers n) []) i

-- it, or what the receiver itself decodes the slice to
abbrev pub slice_decoding : List PictureAnswers → ℕ → Gathered → ℕ → Decoding
slice_decoding answers n g i =
    unwrap_or (own_answer_at answers n g i)
    (slice_coefficients g.plan.parameters i (slot_bytes g i))

abbrev pub if_sound : Decoding → Option Coefficients
if_sound (Ok coefficients) = Some coefficients
if_sound (Err unsound) = None

-- the coefficients of these slices, if each is sound
abbrev pub sound_slices : (ℕ → Decoding) → List ℕ → Option (List Coefficients)
sound_slices decoding [] = Some []
sound_slices decoding (i ∷ is) = with_first (if_sound (decoding i)) (sound_slices decoding is)

abbrev pub gathered_planes : List PictureAnswers → ℕ → Gathered → Option Planes
gathered_planes answers n g =
    option_map (planes_of g.plan.parameters)
    (sound_slices (slice_decoding answers n g) (range_with_len 0 (length g.slots)))

-- the planes of a complete picture, if it is sound
abbrev pub book_planes : List PictureAnswers → ℕ → Book → Option Planes
book_planes answers n book =
    if is_some (book_whole book)
    then option_and_then (gathered_planes answers n) book.gathered else None

abbrev pub released_planes : List PictureAnswers → Window → ℕ → Option Planes
released_planes answers w n = option_and_then (book_planes answers n) (book_at w.books n)

-- ---- its frame

-- the planes of the field before, if these wait
abbrev pub field_before : Option FirstField → ℕ → Option Planes
field_before field n =
    option_and_then (λ f. if f.number + 1 == n then Some f.planes else None) field

-- the frame of which it is the last picture
abbrev pub released_frame : Sequence → Option FirstField → ℕ → Option Planes → Option Planes
released_frame s field n planes =
    if s.fields
    then (if n % 2 == 1 then woven_fields s.top_first (field_before field n) planes else None)
    else planes

abbrev pub as_first : ℕ → Planes → FirstField
as_first n planes = record { number = n; planes = planes }

-- the field that waits after it
abbrev pub field_behind : Sequence → ℕ → Option Planes → Option FirstField
field_behind s n planes =
    if s.fields && n % 2 == 0 then option_map (as_first n) planes else None

-- ---- its counts

abbrev pub one_if : Bool → ℕ
one_if b = if b then 1 else 0

-- the field that waited, if it isn't in the frame, and a second field that isn't in one
abbrev pub fields_alone : Sequence → Option FirstField → ℕ → Option Planes → ℕ
fields_alone s field n planes =
    if is_some (released_frame s field n planes) then 0
    else one_if (is_some field) + one_if (s.fields && n % 2 == 1 && is_some planes)

abbrev pub counts_released : Tally → Sequence → Option FirstField → Releasable → Option Planes
    → Tally
counts_released t s field picture planes = record t {
  incomplete = t.incomplete + one_if (not picture.complete);
  unsound = t.unsound + one_if (picture.complete && is_none planes);
  unpaired = t.unpaired + fields_alone s field picture.number planes;
  frames = t.frames + one_if (is_some (released_frame s field picture.number planes));
}

-- ---- one release

abbrev pub is_of_other : ℕ → RunOut → Bool
is_of_other n run = not (run.number == n)

-- the places where runs of it are: each is freed
abbrev pub freed_places : Reception → ℕ → List ℕ
freed_places r n =
    map (λ run. run.place) (filter (λ run. not (is_of_other n run)) r.out)

abbrev pub forgets_picture : Reception → StandingSession → Releasable → Option Planes → Reception
forgets_picture r st picture planes = record r {
  standing = Some (record st { window = releases st.window picture.number });
  counts = counts_released r.counts st.session.sequence r.field picture planes;
  answers = answers_without r.answers picture.number;
  out = filter (is_of_other picture.number) r.out;
  field = field_behind st.session.sequence picture.number planes;
}

abbrev pub releases_from : Reception → Releasable → StandingSession → Reception
releases_from r picture st =
    forgets_picture r st picture (released_planes r.answers st.window picture.number)

abbrev pub releases_picture_of : Reception → Releasable → Reception
releases_picture_of r picture = option_map_or (releases_from r picture) r.standing r

abbrev pub bytes_from : Reception → ℕ → StandingSession → List ℕ
bytes_from r n st = raw_bytes st.session.sequence
    (released_frame st.session.sequence r.field n (released_planes r.answers st.window n))

-- what is written
abbrev pub released_bytes : Reception → Releasable → List ℕ
released_bytes r picture = option_map_or (bytes_from r picture.number) r.standing []

-- ---- while a picture may be released, the next one

abbrev pub next_picture : Reception → Option Releasable
next_picture r = option_and_then (λ st. next_release st.window) r.standing

-- at most so many
unfoldable pub releases_up_to : ℕ → Reception → Reception
releases_up_to zero r = r
releases_up_to (suc k) r = option_map_or
    (λ picture. releases_up_to k (releases_picture_of r picture)) (next_picture r) r

unfoldable pub bytes_up_to : ℕ → Reception → List ℕ
bytes_up_to zero r = []
bytes_up_to (suc k) r = option_map_or
    (λ picture. released_bytes r picture ++ bytes_up_to k (releases_picture_of r picture))
    (next_picture r) []

-- each has its book
abbrev pub book_count : Reception → ℕ
book_count r = option_map_or (λ st. length st.window.books) r.standing 0

abbrev pub releases_all : Reception → Reception
releases_all r = releases_up_to (book_count r) r

abbrev pub all_released_bytes : Reception → List ℕ
all_released_bytes r = bytes_up_to (book_count r) r
