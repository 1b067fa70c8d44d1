-- The value of a header, and the whole of what it says.
use Rattle.std.proofs.Common.{◌≡◌, ℕ, List, Bool, Result, Ok, Err, refl}
use Rattle.vc_types.specs.Bits.{bits_of}
use Rattle.vc_types.specs.Fields.{and_then}
use Rattle.vc_types.specs.SequenceHeader.{Sequence, coded_header_of, coded_whole_header_of, sequence_header_of, whole_header_of, with_bytes_used}
use Rattle.vc_types.specs.declared.presentation.Presentation.{Presentation}
use Rattle.vc_types.specs.declared.refusal.HeaderRefusal.{HeaderRefusal}

-- the value of what was read, without the presentation
abbrev pub value_alone : Result ((Sequence × Presentation) × ℕ) HeaderRefusal → Result (Sequence × ℕ) HeaderRefusal
value_alone (Ok read) = Ok (read.0.0, read.1)
value_alone (Err refusal) = Err refusal

module _ (p : ℕ) (bytes : List ℕ) where
  by_read : (read : Result ((Sequence × Presentation) × List Bool) HeaderRefusal)
      → with_bytes_used bytes (and_then read (λ r. Ok (r.0.0, r.1))) ≡ value_alone (with_bytes_used bytes read)
  by_read (Ok read) = refl
  by_read (Err refusal) = refl

  pub value_of_whole : coded_header_of p bytes ≡ value_alone (coded_whole_header_of p bytes)
  unfolding sequence_header_of
  value_of_whole = by_read (whole_header_of p (bits_of bytes))
