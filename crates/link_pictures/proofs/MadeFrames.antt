-- A frame that is written behind others, and bytes that are written several times, to a sink.
use Rattle.std.proofs.Common.{◌≡◌, ℕ, suc, ◌+◌, ◌<◌, true, ap, sym, subst, ◌∙◌, arith}
use Rattle.std.proofs.Common.{List, [], ◌++◌, Option, Some}
use Rattle.std.specs.Prelude.{is_some, unwrap_or}
use Rattle.fill_model.proofs.Repeats.{repeated_on, repeated_part, filled_one, last_one}
use Rattle.fill_model.specs.Filled.{WrittenFrame, again, repeated, filled_behind, last_frame}
use Rattle.fill_model.specs.FilledSessions.{frame_number, written_frame}
use Rattle.link_model.specs.Output.{raw_bytes}
use Rattle.vc_ports.proofs.Growing.{Grew-then, GrewBySome-then, GrewBySome-front}
use Rattle.vc_ports.specs.Writing.{Grew, GrewBySome}
use Rattle.vc_types.specs.Planes.{Planes}
use Rattle.vc_types.specs.SequenceHeader.{Sequence}

module _ (first held later : Option (List ℕ)) (done : ℕ) (bytes : List ℕ)
    (grew : Grew first held (repeated done bytes)) where
  pub once_more : Grew held later bytes → Grew first later (repeated (done + 1) bytes)
  once_more more =
      let next : done + 1 ≡ suc done = omega arith in
      subst (λ (k : ℕ). Grew first later (repeated k bytes)) (sym next)
      (subst (Grew first later) (sym (repeated_on done bytes))
      (Grew-then first held later (repeated done bytes) bytes grew more))

  pub cut_short : (times : ℕ) → done < times → GrewBySome held later bytes
      → GrewBySome first later (repeated times bytes)
  cut_short times less some =
      let part = repeated_part bytes done times less in
      subst (GrewBySome first later) (sym part.1)
      (GrewBySome-then first held later (repeated done bytes) (bytes ++ part.0) grew
      (GrewBySome-front held later bytes part.0 some))

-- ---- a frame whose bytes were made in memory

module _ (before : Option WrittenFrame) (s : Sequence) (n number : ℕ) (frame : Option Planes)
    (start bytes : List ℕ) (there : is_some frame ≡ true) (none : start ≡ [])
    (grew : Grew (Some start) (Some bytes) (raw_bytes s frame)) (is : number ≡ frame_number s n) where
  abbrev made : WrittenFrame
  made = record { number = number; bytes = bytes }

  all_of_it : bytes ≡ raw_bytes s frame
  all_of_it = ap (λ (o : Option (List ℕ)). unwrap_or o []) grew
      ∙ ap (λ (l : List ℕ). l ++ raw_bytes s frame) none

  pub made_last : last_frame before (written_frame s n frame) ≡ Some made
  made_last = last_one before s n frame bytes there all_of_it
      ∙ ap (λ (k : ℕ). (let f : WrittenFrame = record { number = k; bytes = bytes } in Some f)) (sym is)

  pub made_filled : filled_behind before (written_frame s n frame) ≡ again before made ++ bytes
  made_filled = filled_one before s n frame bytes there all_of_it
      ∙ ap (λ (k : ℕ). (let f : WrittenFrame = record { number = k; bytes = bytes } in
      again before f ++ bytes)) (sym is)
