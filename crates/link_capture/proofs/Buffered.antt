-- Entries that are kept behind others, or go out before they are.
use Rattle.std.proofs.Common.{◌≡◌, ℕ, ◌+◌, List, [], ◌++◌, length, take, Option, Result, Ok, Err, OnOk, sym, ap, ◌∙◌, append_assoc, append-nil}
use Rattle.std.proofs.Math.Seq.{take-append-add, take-append_seam}
use Rattle.byteorder.specs.Endian.{big_bytes}
use Rattle.vc_ports.specs.Writing.{Grew}
use Rattle.vc_ports.proofs.Growing.{Grew-none}
use Rattle.link_capture.specs.Buffering.{Buffers}
use Rattle.link_capture.specs.Capture.{entry}

-- nothing went out
pub still_kept : (held : Option (List ℕ)) (kept : List ℕ) → Buffers held held kept kept []
still_kept held kept = record { gone = []; grew = Grew-none held; kept = append-nil kept }

-- all that was kept went out
pub gone_out : {F : Type 0} (before after : Option (List ℕ)) (old bytes : List ℕ) (len : ℕ) (written : Result (Unit {0}) F) → OnOk written (Grew before after old) → len ≡ 0 → OnOk written (Buffers before after old (take len bytes) [])
gone_out before after old bytes len (Ok done) grew none = record { gone = old; grew = grew; kept = ap (λ (n : ℕ). old ++ take n bytes) (sym none) }
gone_out before after old bytes len (Err fault) grew none = tt

-- more behind what is kept then
pub kept_behind : (before after : Option (List ℕ)) (old mid new more : List ℕ) → Buffers before after old mid [] → new ≡ mid ++ more → Buffers before after old new more
kept_behind before after old mid new more room is = record {
  gone = room.gone;
  grew = room.grew;
  kept =
      ap (λ (l : List ℕ). l ++ more) (sym (append-nil old) ∙ room.kept)
      ∙ append_assoc room.gone mid more
      ∙ ap (λ (l : List ℕ). room.gone ++ l) (sym is);
}

-- an entry that is added in two steps, its length and its datagram
pub entry_added : (kept datagram : List ℕ) → (kept ++ big_bytes 2 (length datagram)) ++ datagram ≡ kept ++ entry datagram
unfolding entry
entry_added kept datagram = append_assoc kept (big_bytes 2 (length datagram)) datagram

-- bytes that stand behind others, and before others
pub copied_behind : (at : ℕ) (first more rest : List ℕ) → length first ≡ at → take (at + length more) (first ++ (more ++ rest)) ≡ first ++ more
copied_behind at first more rest long =
    ap (λ (n : ℕ). take (n + length more) (first ++ (more ++ rest))) (sym long)
    ∙ take-append-add first (more ++ rest) (length more)
    ∙ ap (λ (l : List ℕ). first ++ l) (take-append_seam more rest)
