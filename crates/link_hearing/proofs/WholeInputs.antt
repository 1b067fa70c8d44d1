-- The reading of a whole input ends early only where a read fails.
use Rattle.std.proofs.Common.{◌≡◌, ℕ, List, IsSomeAnd, Some, refl, inl, inr}
use Rattle.std.specs.Prelude.{◌⊎◌}
use Rattle.link_report.specs.declared.ending.Ending.{Ending}
use Rattle.link_report.specs.declared.ending.Ending.TheVariants.{CaptureCut, InputFailed, PacketLimit, StreamBad}
use Rattle.pcap_in.specs.Pcap.{file_split}
use Rattle.vc_ports.specs.Changes.{InputChange, Took}
use Rattle.link_hearing.proofs.WholeCaptures.{cut_by, past_by}
use Rattle.link_hearing.proofs.WholeFiles.{file_cut, file_headless, file_long, file_past}
use Rattle.link_hearing.specs.Capture.{IsWholeCapture, ReadingEnded, capture_split}
use Rattle.link_hearing.specs.Files.{FileEnded, IsWholeFile}
use Rattle.link_hearing.specs.Inputs.{InputEnded, IsWholeInput}
use Rattle.link_hearing.specs.declared.form.InputForm.{InputForm}
use Rattle.link_hearing.specs.declared.form.InputForm.TheVariants.{Capture, Pcap}

module _ (packets : ℕ) (given : List ℕ) (input : InputChange) (took : Took input given) (end : Ending)
    (sound : end ≡ InputFailed → ⊥) where
  capture_ends : (end : Ending) → (end ≡ InputFailed → ⊥)
      → IsSomeAnd input.left.before (IsWholeCapture packets)
      → ReadingEnded packets (Some end) input (capture_split packets given) → ⊥
  capture_ends (CaptureCut place) sound whole e = cut_by packets given input took whole e.ended e.part
  capture_ends (PacketLimit limit) sound whole e = past_by packets given input took whole limit e
  capture_ends InputFailed sound whole e = sound refl
  capture_ends end sound whole e = e

  file_ends : (end : Ending) → (end ≡ InputFailed → ⊥)
      → IsSomeAnd input.left.before (IsWholeFile packets)
      → FileEnded packets (Some end) input given (file_split packets given) → ⊥
  file_ends (CaptureCut place) sound whole e = file_cut packets given input took whole place e
  file_ends (StreamBad place) sound whole (inl e) = file_headless packets given input took whole place e
  file_ends (StreamBad place) sound whole (inr e) = file_long packets given input took whole place e
  file_ends (PacketLimit limit) sound whole e = file_past packets given input took whole limit e
  file_ends InputFailed sound whole e = sound refl
  file_ends end sound whole e = e

  pub no_early_end : (form : InputForm) → IsSomeAnd input.left.before (IsWholeInput form packets)
      → InputEnded form packets (Some end) input given → ⊥
  no_early_end Capture whole e = capture_ends end sound whole e
  no_early_end (Pcap port) whole e = file_ends end sound whole e
