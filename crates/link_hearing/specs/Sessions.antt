-- How many sessions of a list of datagrams have had their end (this project's profile).
use Rattle.std.specs.Prelude.{ℕ, List, count_by}
use Rattle.link_model.specs.Session.{HeardSession, sessions_of}

-- those that have had their end: more than one end of a session counts once
abbrev pub ended_in : List HeardSession → ℕ
ended_in hs = count_by (λ h. h.has_ended) hs

abbrev pub ended_sessions : List (List ℕ) → ℕ
ended_sessions datagrams = ended_in (sessions_of datagrams)
