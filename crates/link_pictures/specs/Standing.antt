-- What a stream that is being written stands for: the datagrams that its receiver heard.
use Rattle.std.specs.Prelude.{◌≡◌, ℕ, Bool, true, false, List, [], ◌∷◌, Option, None}
use Rattle.std.specs.Option.{option_and_then}
use Rattle.link_model.specs.Complete.{whole_picture}
use Rattle.link_model.specs.Numbers.{Numbered, parts_of}
use Rattle.link_model.specs.Output.{entered_behind}
use Rattle.link_model.specs.Session.{HeardSession, sessions_of}
use Rattle.receiver_model.specs.Receptions.{FirstField, Reception}
use Rattle.stream_model.specs.Streams.{first_header, units_so_far}
use Rattle.vc_types.specs.SequenceHeader.{Sequence}
use Rattle.link_pictures.specs.Writing.{WrittenStream, length_behind}

-- the next session has opened behind the first
abbrev pub has_next : List HeardSession → Bool
has_next [] = false
has_next (h ∷ []) = false
has_next (h ∷ g ∷ hs) = true

-- the whole bytes of the field that waits
abbrev pub waiting_bytes : Sequence → List Numbered → Option FirstField → Option (List ℕ)
waiting_bytes s es field = option_and_then (λ f. whole_picture s (parts_of f.number es)) field

-- while there is one session, it has the bytes of the field that waits
abbrev pub HasField : ℕ → List HeardSession → Option FirstField → Option (List ℕ) → Type 0
HasField size [] field bytes = bytes ≡ None
HasField size (h ∷ []) field bytes =
    bytes ≡ waiting_bytes h.session.sequence (entered_behind size [] h) field
HasField size (h ∷ g ∷ hs) field bytes = Unit {0}

-- it is what was written of the stream of what was heard
pub record StreamsFor (r : Reception) (w : WrittenStream) (size : ℕ) (datagrams : List (List ℕ))
    : Type 0 where
  pub header : w.header ≡ first_header datagrams
  pub over : w.is_over ≡ has_next (sessions_of datagrams)
  pub field : HasField size (sessions_of datagrams) r.field w.field
  pub previous : w.previous ≡ length_behind None (units_so_far size datagrams)
