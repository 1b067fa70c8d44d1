-- What a datagram is to sessions: it may begin one or end one.
use Rattle.std.specs.Prelude.{◌≡◌, ℕ, Bool, false, ◌==◌, List, Option, Some, None}
use Rattle.link_model.specs.Session.{Session, begins, ends}
use Rattle.vc_types.specs.SequenceHeader.{sequence_of}
use Rattle.cmd_record.specs.declared.sign.Opening.{Opening}
use Rattle.cmd_record.specs.declared.sign.Sign.{Sign}
use Rattle.cmd_record.specs.declared.sign.Sign.TheVariants.{Begins, Ends, Nothing}

abbrev pub session_of : Opening → Session
session_of o = record {
  ssrc = o.ssrc;
  sequence = sequence_of o.header;
  presentation = o.presentation;
}

-- the session that it begins
abbrev pub begun_by : Sign → Option Session
begun_by (Begins o) = Some (session_of o)
begun_by (Ends ssrc) = None
begun_by Nothing = None

-- whether it is an end of a session's source
abbrev pub ends_by : Session → Sign → Bool
ends_by s (Begins o) = false
ends_by s (Ends ssrc) = ssrc == s.ssrc
ends_by s Nothing = false

pub record IsSign (datagram : List ℕ) (sign : Sign) : Type 0 where
  pub begins_so : begins datagram ≡ begun_by sign
  pub ends_so : (s : Session) → ends s datagram ≡ ends_by s sign
