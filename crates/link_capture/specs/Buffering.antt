-- What keeping an entry did, where entries go out together.
use Rattle.std.specs.Prelude.{◌≡◌, ℕ, List, ◌++◌, take, Option}
use Rattle.link_capture.specs.declared.buffer.EntryBuffer.{EntryBuffer}
use Rattle.vc_ports.specs.Writing.{Grew}

-- the bytes of the entries that are kept
abbrev pub kept_in : EntryBuffer → List ℕ
kept_in b = take b.len b.bytes

-- what was kept and more behind it are what went out and what is kept now
pub record Buffers (before after : Option (List ℕ)) (old new more : List ℕ) : Type 0 where
  pub gone : List ℕ
  pub grew : Grew before after gone
  pub kept : old ++ more ≡ gone ++ new
