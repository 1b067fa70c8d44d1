-- What is written at one time.
use Rattle.std.specs.Prelude.{◌≡◌, ◌<◌, ◌^◌, ℕ, List, [], length, Option, Result, Ok, Err, ⊤}
use Rattle.std.specs.String.{string_bytes}
use Rattle.link_capture.specs.Capture.{entry}
use Rattle.link_hearing.specs.declared.listener.ListenerFault.{ListenerFault}
use Rattle.link_hearing.specs.declared.listener.ListenerFault.TheVariants as faults
use Rattle.vc_ports.specs.Faults.{Rose}
use Rattle.vc_ports.specs.Writing.{Grew, GrewBySome}
use Rattle.vc_types.specs.declared.memory.NoMemory.{NoMemory}
use Rattle.cmd_rtcp.specs.declared.piece.Piece.{Piece}
use Rattle.cmd_rtcp.specs.declared.piece.Piece.TheVariants.{Nothing, Entry, Text}

abbrev pub piece_bytes : Piece → List ℕ
piece_bytes Nothing = []
piece_bytes (Entry datagram) = entry datagram.items
piece_bytes (Text text) = string_bytes text

-- a datagram has room in an entry
abbrev pub EntryFits : Piece → Type 0
EntryFits (Entry datagram) = length datagram.items < 2 ^ 16
EntryFits piece = ⊤

-- what writing a piece did, where there was memory for it
abbrev pub WritesPiece : Result Piece NoMemory → (before after : Option (List ℕ)) → (first last : ℕ)
    → Result (Unit {0}) ListenerFault → Type 0
WritesPiece (Ok piece) before after first last (Ok done) = Grew before after (piece_bytes piece)
WritesPiece (Ok piece) before after first last (Err faults.Output) =
    GrewBySome before after (piece_bytes piece) × Rose first last
WritesPiece (Err none) before after first last (Err faults.NoMemory) = after ≡ before
WritesPiece piece before after first last result = ⊥
