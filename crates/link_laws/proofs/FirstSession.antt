-- What is written of the first session.
use Rattle.std.proofs.Common.{◌≡◌, ◌≤◌, ℕ, List, [], ◌∷◌, ◌++◌, length, Some, None, refl, sym, ap, subst, ◌∙◌, append_assoc, append-nil, arith, flat_map}
use Rattle.link_model.specs.Numbers.{Numbered, opened_numbers}
use Rattle.link_model.specs.Output.{IsPrefixOf, all_frames, all_output, entered_behind, frame_bytes_at, full_output}
use Rattle.link_model.specs.Session.{HeardSession, Session, sessions_of}
use Rattle.stream_model.specs.Streams.{first_pictures, frame_units}
use Rattle.vc_types.specs.DataUnits.{DataUnit}
use Rattle.vc_types.specs.SequenceHeader.{Sequence}
use Rattle.link_laws.specs.Playback.{FirstSessionsBeginOutput, OneSessionIsAll, first_output}
use Rattle.link_laws.proofs.FirstHeader.{first_of}

-- ---- against what is written of all

begins_all : (window : ℕ) (hs : List HeardSession) → IsPrefixOf (first_output window hs) (all_output window hs)
unfolding all_output first_output
begins_all window [] = ([], refl)
begins_all window (h ∷ []) = ([], sym (append-nil _))
begins_all window (h ∷ g ∷ hs) =
    let later = begins_all window (g ∷ hs) in
    let own : List ℕ = all_frames h.session.sequence (entered_behind window (g ∷ hs) h) in
    (later.0 ++ own, ap (λ (l : List ℕ). l ++ own) later.1 ∙ append_assoc (first_output window (g ∷ hs)) later.0 own)

pub first_sessions_begin_output : FirstSessionsBeginOutput
unfolding full_output
first_sessions_begin_output window datagrams = begins_all window (sessions_of datagrams)

alone_is_all : (window : ℕ) (hs : List HeardSession) → length hs ≤ 1 → all_output window hs ≡ first_output window hs
unfolding all_output first_output
alone_is_all window (h ∷ g ∷ hs) few = absurd (omega arith)
alone_is_all window hs few = refl

pub one_session_is_all : OneSessionIsAll
unfolding full_output
one_session_is_all window datagrams few = alone_is_all window (sessions_of datagrams) few

-- ---- number by number

-- the units of the first session's pictures and the bytes of its frames, by the same numbers
pub record AreOfNumbers (s : Sequence) (units : List DataUnit) (bytes : List ℕ) : Type 0 where
  pub entered : List Numbered
  pub units_are : units ≡ flat_map (frame_units s entered) (opened_numbers entered)
  pub bytes_are : bytes ≡ flat_map (frame_bytes_at s entered) (opened_numbers entered)

pub by_number : (window : ℕ) (hs : List HeardSession) (t : Session) → first_of hs ≡ Some t → AreOfNumbers t.sequence (first_pictures window hs) (first_output window hs)
unfolding all_frames all_output first_output first_pictures
by_number window [] t is = absurd cc
by_number window (h ∷ []) t is = let same : h.session ≡ t = cc is in subst (λ (u : Session). AreOfNumbers u.sequence (first_pictures window (h ∷ [])) (first_output window (h ∷ []))) same (record {
  entered = entered_behind window [] h;
  units_are = refl;
  bytes_are = refl;
})
by_number window (h ∷ g ∷ hs) t is = by_number window (g ∷ hs) t is

-- without a session there is nothing
pub nothing_first : (hs : List HeardSession) → first_of hs ≡ None → hs ≡ []
nothing_first [] none = refl
nothing_first (h ∷ []) none = absurd cc
nothing_first (h ∷ g ∷ hs) none = absurd (some_first h g hs none)
  where
    some_first : (h g : HeardSession) (hs : List HeardSession) → first_of (g ∷ hs) ≡ None → ⊥
    some_first h g [] none = cc
    some_first h g (f ∷ fs) none = some_first g f fs none
