-- What becomes of each datagram of a list, and the counts of it (this project's profile).
--
-- Ten rules judge a datagram, and the first that applies decides. They stand here once, and go by
-- what is known when it comes; lists, books, windows and receivers say what they know.
use Rattle.std.specs.Prelude.{ℕ, ◌+◌, ◌-◌, ◌%◌, Bool, true, false, ◌&&◌, not, is_some, is_none}
use Rattle.std.specs.Prelude.{nat_lt, ◌==◌, if◌then◌else◌, List, [], ◌∷◌, ◌++◌, length, filter_map}
use Rattle.std.specs.Prelude.{fold, count_by, Option, Some, None, Result, Ok, Err}
use Rattle.std.specs.List.{list_any, enumerate_from}
use Rattle.std.specs.Option.{option_map_or, option_and_then}
use Rattle.std.specs.Str.{bytes_eq}
use Rattle.vc_types.specs.SameValues.{same_sequence, same_parameters}
use Rattle.link_model.specs.Kept.{KeptParameters, ReadParameters, own, own_parameters, own_slice}
use Rattle.link_model.specs.Kept.{part_slices, waiting_limit, SliceRun, slice_run}
use Rattle.link_model.specs.Numbers.{Numbered, entered, picture_number, is_late, parts_of, opened_numbers}
use Rattle.link_model.specs.Output.{complete_at, planes_at, frame_at, base_behind, entered_behind}
use Rattle.link_model.specs.Packets.{PayloadValue, Header, End, Skip, Params, Slices}
use Rattle.link_model.specs.Session.{Received, received, DatagramRefusal, OfRtp, OfPayload, Session}
use Rattle.link_model.specs.Session.{HeardSession, opens_over, session_by, sessions_of, Part}
use Rattle.link_model.specs.Session.{ParamsPart, SlicesPart, SlicePart, Fragment, params_fragment}
use Rattle.link_model.specs.Session.{slices_fragment}
use Rattle.link_model.specs.declared.outcome.Outcome.{Outcome}
use Rattle.link_model.specs.declared.outcome.Outcome.TheVariants as outcomes
use Rattle.link_model.specs.declared.refusal.PayloadRefusal.{PayloadRefusal}
use Rattle.link_model.specs.declared.refusal.PayloadRefusal.TheVariants as payload_refusals
use Rattle.link_model.specs.declared.refusal.RtpRefusal.{RtpRefusal}
use Rattle.link_model.specs.declared.refusal.RtpRefusal.TheVariants as rtp_refusals
use Rattle.link_model.specs.declared.tally.Tally.{Tally}
use Rattle.vc_types.specs.SequenceHeader.{Sequence, coded_header}
use Rattle.vc_types.specs.TransformParameters.{coded_parameters}
use Rattle.vc_types.specs.declared.refusal.HeaderRefusal.{HeaderRefusal}

-- ---- what is known when a datagram comes

-- of a picture: the parameters that it keeps, how many slice parts came before them, and the bytes
-- that it keeps of each slice
pub record KnownPicture : Type 0 where
  pub sequence : Sequence
  pub plan : Option KeptParameters
  pub waiting : ℕ
  pub slice : ℕ → Option (List ℕ)

-- of the session that stands: whether it has had its end, and what becomes of a fragment, by rules
-- 7 to 10
pub record KnownSession : Type 0 where
  pub session : Session
  pub has_ended : Bool
  pub fragment : Fragment → Outcome

-- ---- the rules, from the last to the first

-- a slice is kept with other bytes
abbrev pub is_conflict : (ℕ → Option (List ℕ)) → ℕ × List ℕ → Bool
is_conflict kept slice = option_map_or (λ bytes. not (bytes_eq bytes slice.1)) (kept slice.0) false

abbrev pub is_new : (ℕ → Option (List ℕ)) → ℕ × List ℕ → Bool
is_new kept slice = is_none (kept slice.0)

-- the slices of a run, each with its number
abbrev pub numbered_slices : SliceRun → List (ℕ × List ℕ)
numbered_slices run = enumerate_from run.first run.slices

-- 10. Slices of a picture with parameters: of another form, out of place, or cut off, as `slice_run`
-- says; then one of them is kept with other bytes, or one is new, or none is.
abbrev pub run_outcome : (ℕ → Option (List ℕ)) → Result SliceRun Outcome → Outcome
run_outcome kept (Err outcome) = outcome
run_outcome kept (Ok run) =
    if list_any (is_conflict kept) (numbered_slices run) then outcomes.SlicesConflict
    else (if list_any (is_new kept) (numbered_slices run) then outcomes.SlicesKept
    else outcomes.SlicesRepeat)

-- 9. Slices of a picture without parameters wait, up to a limit.
abbrev pub waiting_outcome : ℕ → Outcome
waiting_outcome waiting =
    if nat_lt waiting waiting_limit then outcomes.SlicesPending else outcomes.SlicesFull

abbrev pub slices_outcome : KnownPicture → Option KeptParameters → SlicePart → Outcome
slices_outcome known None slices = waiting_outcome known.waiting
slices_outcome known (Some plan) slices =
    run_outcome known.slice (slice_run plan.parameters slices)

-- 8. Parameters: refused, or the first, or equal to those that are kept, or others.
abbrev pub parameters_outcome : Option KeptParameters → ReadParameters → Outcome
parameters_outcome plan (Err refusal) = outcomes.ParamsBad
parameters_outcome None (Ok read) = outcomes.ParamsKept
parameters_outcome (Some plan) (Ok read) =
    if same_parameters plan.parameters read.0 then outcomes.ParamsRepeat
    else outcomes.ParamsConflict

abbrev pub judged_part : KnownPicture → Part → Outcome
judged_part known (ParamsPart body) =
    parameters_outcome known.plan (coded_parameters known.sequence body)
judged_part known (SlicesPart slices) = slices_outcome known known.plan slices

-- 7. A fragment whose number is late.
abbrev pub unless_late : Bool → Outcome → Outcome
unless_late late outcome = if late then outcomes.Late else outcome

-- 5. A header: refused, or equal to the session's, or another.
abbrev pub header_outcome : Sequence → Result (Sequence × ℕ) HeaderRefusal → Outcome
header_outcome sequence (Err refusal) = outcomes.HeaderBad
header_outcome sequence (Ok read) =
    if same_sequence sequence read.0 then outcomes.HeaderSame else outcomes.HeaderOther

-- 6. The end of the sequence, auxiliary data and padding.
abbrev pub judged_value : KnownSession → PayloadValue → Outcome
judged_value known (Header high from body) =
    header_outcome known.session.sequence (coded_header body)
judged_value known (End high) = outcomes.End
judged_value known (Skip high code) = outcomes.Skipped
judged_value known (Params head from body) = known.fragment (params_fragment head body)
judged_value known (Slices head count x y from body) =
    known.fragment (slices_fragment head count x y body)

-- 3. No session stands: a header begins the first, if it is accepted.
abbrev pub opening_outcome : Result (Sequence × ℕ) HeaderRefusal → Outcome
opening_outcome (Ok read) = outcomes.HeaderNew
opening_outcome (Err refusal) = outcomes.HeaderBad

abbrev pub early_outcome : PayloadValue → Outcome
early_outcome (Header high from body) = opening_outcome (coded_header body)
early_outcome other = outcomes.Foreign

-- 4. A session stands: a header of another source or value begins the next, if the session has had
-- its end; all else of another source is foreign.
abbrev pub judged_received : Option KnownSession → Received → Outcome
judged_received None r = early_outcome r.value
judged_received (Some known) r =
    if is_some (opens_over known.session known.has_ended (session_by r.ssrc r.value))
    then outcomes.HeaderNew
    else (if r.ssrc == known.session.ssrc then judged_value known r.value else outcomes.Foreign)

-- 1. It is no RTP packet.
abbrev pub rtp_outcome : RtpRefusal → Outcome
rtp_outcome rtp_refusals.Short = outcomes.RtpShort
rtp_outcome rtp_refusals.Version = outcomes.RtpVersion
rtp_outcome rtp_refusals.Shape = outcomes.RtpShape

-- 2. Its payload is refused.
abbrev pub payload_outcome : PayloadRefusal → Outcome
payload_outcome payload_refusals.Short = outcomes.PayloadShort
payload_outcome payload_refusals.Code = outcomes.PayloadCode
payload_outcome payload_refusals.Fragment = outcomes.PayloadFragment

abbrev pub refusal_outcome : DatagramRefusal → Outcome
refusal_outcome (OfRtp refusal) = rtp_outcome refusal
refusal_outcome (OfPayload refusal) = payload_outcome refusal

-- the judgement, by the session that stands
abbrev pub judgement : Option KnownSession → Result Received DatagramRefusal → Outcome
judgement standing (Err refusal) = refusal_outcome refusal
judgement standing (Ok r) = judged_received standing r

-- whether a part with this outcome changes what its picture keeps
abbrev pub keeps : Outcome → Bool
keeps outcomes.ParamsKept = true
keeps outcomes.SlicesKept = true
keeps outcomes.SlicesConflict = true
keeps outcomes.SlicesPending = true
keeps other = false

-- ---- what a list of datagrams knows

-- of a picture, by its parts
abbrev pub known_by_parts : Sequence → List Part → KnownPicture
known_by_parts sequence before = record {
  sequence = sequence;
  plan = own_parameters sequence before;
  waiting = length (filter_map part_slices before);
  slice = λ i. option_and_then (λ kept. own_slice kept i) (own sequence before);
}

unfoldable pub part_outcome : Sequence → List Part → Part → Outcome
part_outcome sequence before part = judged_part (known_by_parts sequence before) part

-- a fragment, by what was entered before it
unfoldable pub fragment_outcome : ℕ → ℕ → Sequence → List Numbered → Fragment → Outcome
fragment_outcome base window sequence before f =
    let n = picture_number base before f.number in
    unless_late (is_late window before n) (part_outcome sequence (parts_of n before) f.part)

-- of a session whose numbers begin at the base
abbrev pub known_session : ℕ → ℕ → HeardSession → KnownSession
known_session base window h = record {
  session = h.session;
  has_ended = h.has_ended;
  fragment = fragment_outcome base window h.session.sequence (entered base window h.fragments);
}

-- of sessions, the last one first
abbrev pub known_sessions : ℕ → List HeardSession → Option KnownSession
known_sessions window [] = None
known_sessions window (h ∷ hs) = Some (known_session (base_behind window hs) window h)

-- what becomes of a payload from the source of the last session
abbrev pub later_outcome : ℕ → ℕ → HeardSession → PayloadValue → Outcome
later_outcome base window h value = judged_value (known_session base window h) value

abbrev pub outcome_of : ℕ → List HeardSession → Result Received DatagramRefusal → Outcome
outcome_of window hs r = judgement (known_sessions window hs) r

-- what becomes of a datagram after others
unfoldable pub outcome_behind : ℕ → List (List ℕ) → List ℕ → Outcome
outcome_behind window before datagram = outcome_of window (sessions_of before) (received datagram)

unfoldable pub outcomes_behind : ℕ → List (List ℕ) → List (List ℕ) → List Outcome
outcomes_behind window before [] = []
outcomes_behind window before (datagram ∷ datagrams) =
    outcome_behind window before datagram
    ∷ outcomes_behind window (before ++ datagram ∷ []) datagrams

-- what becomes of each datagram of a list
abbrev pub outcomes_in : ℕ → List (List ℕ) → List Outcome
outcomes_in window datagrams = outcomes_behind window [] datagrams

-- ---- counts

abbrev pub no_counts : Tally
no_counts = record {
  datagrams = 0;
  rtp_short = 0;
  rtp_version = 0;
  rtp_shape = 0;
  payload_short = 0;
  payload_code = 0;
  payload_fragment = 0;
  foreign = 0;
  header_new = 0;
  header_same = 0;
  header_other = 0;
  header_bad = 0;
  «end» = 0;
  skipped = 0;
  late = 0;
  params_kept = 0;
  params_repeat = 0;
  params_conflict = 0;
  params_bad = 0;
  slices_kept = 0;
  slices_repeat = 0;
  slices_conflict = 0;
  slices_pending = 0;
  slices_full = 0;
  slices_form = 0;
  slices_place = 0;
  slices_cut = 0;
  incomplete = 0;
  unsound = 0;
  unpaired = 0;
  frames = 0;
}

-- one more of an outcome
abbrev pub one_more : Tally → Outcome → Tally
one_more t outcomes.RtpShort = record t { rtp_short = t.rtp_short + 1 }
one_more t outcomes.RtpVersion = record t { rtp_version = t.rtp_version + 1 }
one_more t outcomes.RtpShape = record t { rtp_shape = t.rtp_shape + 1 }
one_more t outcomes.PayloadShort = record t { payload_short = t.payload_short + 1 }
one_more t outcomes.PayloadCode = record t { payload_code = t.payload_code + 1 }
one_more t outcomes.PayloadFragment = record t { payload_fragment = t.payload_fragment + 1 }
one_more t outcomes.Foreign = record t { foreign = t.foreign + 1 }
one_more t outcomes.HeaderNew = record t { header_new = t.header_new + 1 }
one_more t outcomes.HeaderSame = record t { header_same = t.header_same + 1 }
one_more t outcomes.HeaderOther = record t { header_other = t.header_other + 1 }
one_more t outcomes.HeaderBad = record t { header_bad = t.header_bad + 1 }
one_more t outcomes.End = record t { «end» = t.«end» + 1 }
one_more t outcomes.Skipped = record t { skipped = t.skipped + 1 }
one_more t outcomes.Late = record t { late = t.late + 1 }
one_more t outcomes.ParamsKept = record t { params_kept = t.params_kept + 1 }
one_more t outcomes.ParamsRepeat = record t { params_repeat = t.params_repeat + 1 }
one_more t outcomes.ParamsConflict = record t { params_conflict = t.params_conflict + 1 }
one_more t outcomes.ParamsBad = record t { params_bad = t.params_bad + 1 }
one_more t outcomes.SlicesKept = record t { slices_kept = t.slices_kept + 1 }
one_more t outcomes.SlicesRepeat = record t { slices_repeat = t.slices_repeat + 1 }
one_more t outcomes.SlicesConflict = record t { slices_conflict = t.slices_conflict + 1 }
one_more t outcomes.SlicesPending = record t { slices_pending = t.slices_pending + 1 }
one_more t outcomes.SlicesFull = record t { slices_full = t.slices_full + 1 }
one_more t outcomes.SlicesForm = record t { slices_form = t.slices_form + 1 }
one_more t outcomes.SlicesPlace = record t { slices_place = t.slices_place + 1 }
one_more t outcomes.SlicesCut = record t { slices_cut = t.slices_cut + 1 }

abbrev pub with_outcome : Tally → Outcome → Tally
with_outcome t outcome = one_more (record t { datagrams = t.datagrams + 1 }) outcome

abbrev pub outcome_counts : List Outcome → Tally
outcome_counts outcomes = fold with_outcome no_counts outcomes

-- ---- pictures

abbrev pub is_incomplete : Sequence → List Numbered → ℕ → Bool
is_incomplete sequence es n = not (complete_at sequence es n)

-- whether a picture is complete and sound
abbrev pub has_planes : Sequence → List Numbered → ℕ → Bool
has_planes sequence es n = is_some (planes_at sequence es n)

abbrev pub is_unsound : Sequence → List Numbered → ℕ → Bool
is_unsound sequence es n = complete_at sequence es n && not (has_planes sequence es n)

-- the number of the other field of a frame
abbrev pub partner : ℕ → ℕ
partner n = if n % 2 == 0 then n + 1 else n - 1

-- a field that is complete and sound, and whose partner isn't
abbrev pub is_unpaired : Sequence → List Numbered → ℕ → Bool
is_unpaired sequence es n =
    sequence.fields && has_planes sequence es n && not (has_planes sequence es (partner n))

abbrev pub has_frame : Sequence → List Numbered → ℕ → Bool
has_frame sequence es n = is_some (frame_at sequence es n)

-- with what became of a session's pictures, once it is over
unfoldable pub with_pictures : Sequence → List Numbered → Tally → Tally
with_pictures sequence es t = record t {
  incomplete = t.incomplete + count_by (is_incomplete sequence es) (opened_numbers es);
  unsound = t.unsound + count_by (is_unsound sequence es) (opened_numbers es);
  unpaired = t.unpaired + count_by (is_unpaired sequence es) (opened_numbers es);
  frames = t.frames + count_by (has_frame sequence es) (opened_numbers es);
}

-- with what became of the pictures of all sessions, the last one first
unfoldable pub with_sessions : ℕ → List HeardSession → Tally → Tally
with_sessions window [] t = t
with_sessions window (h ∷ hs) t =
    with_pictures h.session.sequence (entered_behind window hs h) (with_sessions window hs t)

-- the tally of a list of datagrams
unfoldable pub tally_of : ℕ → List (List ℕ) → Tally
tally_of window datagrams =
    with_sessions window (sessions_of datagrams) (outcome_counts (outcomes_in window datagrams))
