-- Where no fault came, a whole input is decoded to its end, or unpacked, unless memory runs out.
use Rattle.std.proofs.Common.{◌≡◌, ℕ, Bool, Option, None, Some, IsSomeAnd, refl, sym, ap, ◌∙◌}
use Rattle.link_receiver.specs.HeardLists.{OutputForm}
use Rattle.link_report.specs.declared.answer.Answer.{Answer}
use Rattle.link_report.specs.declared.answer.Answer.TheVariants.{Done, Stopped, Drained, WithRecords}
use Rattle.link_model.specs.declared.tally.Tally.{Tally}
use Rattle.link_report.specs.declared.ending.Ending.{Ending}
use Rattle.link_report.specs.declared.ending.Ending.TheVariants.{NoMemory, InputFailed, OutputFailed}
use Rattle.vc_ports.specs.Changes.{Change, InputChange, OutputChange, HasRisen}
use Rattle.vc_slice.specs.Asked.{Told}
use Rattle.link_hearing.proofs.WholeInputs.{no_early_end}
use Rattle.link_hearing.specs.Inputs.{InputEnded, IsWholeInput}
use Rattle.link_hearing.specs.declared.form.InputForm.{InputForm}
use Rattle.link_hearing.specs.declared.heard.RecordCounts.{RecordCounts}
use Rattle.cmd_receive.specs.Decoding.{Decodes, IsTaken, TakesInput, Unpacks, counted_so, drained_by, has_failed_input}

-- all was read, or memory ran out
abbrev pub IsComplete : Answer → Type 0
IsComplete (Done summary) = Unit {0}
IsComplete (WithRecords summary records other None) = Unit {0}
IsComplete (Stopped NoMemory) = Unit {0}
IsComplete answer = ⊥

-- the ending that is counted up to is the answer's
counted_end : (answer : Answer) (end : Option Ending) (counts : Option RecordCounts) (tally : Tally)
    → answer ≡ counted_so counts tally end → end ≡ drained_by answer
counted_end answer end counts tally is = sym (ap drained_by is ∙ by_counts counts end)
  where
    by_counts : (counts : Option RecordCounts) (end : Option Ending)
        → drained_by (counted_so counts tally end) ≡ end
    by_counts None None = refl
    by_counts None (Some end) = refl
    by_counts (Some counts) end = refl

module _ (window workers packets : ℕ) (form : InputForm) (input : InputChange) (output : OutputChange)
    (hands : Change (Option Told)) (sound_input : HasRisen input.faults → ⊥)
    (sound_output : HasRisen output.faults → ⊥)
    (whole : IsSomeAnd input.left.before (IsWholeInput form packets)) where
  failed_not : (answer : Answer) (end : Ending) → drained_by answer ≡ Some end
      → (has_failed_input answer → HasRisen input.faults) → end ≡ InputFailed → ⊥
  failed_not answer end is failed same = sound_input (failed (is ∙ ap Some same))

  no_end : {writes : OutputForm} (answer : Answer) (end : Ending) → drained_by answer ≡ Some end
      → (d : TakesInput writes window workers packets form answer input output hands)
      → IsTaken writes window packets form answer input output d.given → ⊥
  no_end answer end is d t = by_end t.end (counted_end answer t.end _ _ t.counted ∙ is) t.reading
    where
      by_end : (last : Option Ending) → last ≡ Some end → InputEnded form packets last input d.given → ⊥
      by_end None same reading = absurd (cc same)
      by_end (Some other) same reading =
          let one : other ≡ end = cc same in
          no_early_end packets d.given input d.took other
          (λ failed. failed_not answer end is d.input_failed (sym one ∙ failed)) form whole reading

  completes : {writes : OutputForm} (answer : Answer)
      → TakesInput writes window workers packets form answer input output hands → IsComplete answer
  completes (Done summary) d = tt
  completes (WithRecords summary records other None) d = tt
  completes (Stopped NoMemory) d = tt
  completes (Stopped OutputFailed) d = sound_output (d.output_failed refl)
  completes (Stopped end) d = d.ended
  completes (Drained summary end) d = no_end (Drained summary end) end refl d d.ended
  completes (WithRecords summary records other (Some end)) d =
      no_end (WithRecords summary records other (Some end)) end refl d d.ended

  pub decode_completes : (fill : Bool) (answer : Answer)
      → Decodes fill window workers packets form answer input output hands → IsComplete answer
  decode_completes fill answer d = completes answer d

  pub unpack_completes : (answer : Answer)
      → Unpacks window workers packets form answer input output hands → IsComplete answer
  unpack_completes answer d = completes answer d
