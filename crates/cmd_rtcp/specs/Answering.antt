-- What a command did that writes something for the datagrams of an input, by its result.
use Rattle.std.specs.Prelude.{◌≡◌, ℕ, List, None, Some, Result, Ok, Err}
use Rattle.link_hearing.specs.Inputs.{InputEnded, datagrams_in}
use Rattle.link_hearing.specs.declared.form.InputForm.{InputForm}
use Rattle.link_report.specs.declared.ending.Ending.{Ending}
use Rattle.link_report.specs.declared.ending.Ending.TheVariants.{InputFailed, NoMemory, OutputFailed}
use Rattle.vc_ports.specs.Changes.{InputChange, OutputChange, HasRisen, Took, Wrote, WrotePart}

-- What is written of the datagrams of the bytes that were given was written, and where the input came to
-- its end, the value is the one that is theirs; or memory ran out or a write failed, and a part of it was
-- written.
abbrev pub InputAnswered : {A : Type 0} → (written : List (List ℕ) → List ℕ)
    → (is : A → List (List ℕ) → Type 0) → InputForm → (packets : ℕ) → Result A Ending → InputChange
    → OutputChange → (given : List ℕ) → Type 0
InputAnswered written is form packets (Ok value) input output given =
    InputEnded form packets None input given × Wrote output (written (datagrams_in form packets given))
    × is value (datagrams_in form packets given)
InputAnswered written is form packets (Err NoMemory) input output given =
    WrotePart output (written (datagrams_in form packets given))
InputAnswered written is form packets (Err OutputFailed) input output given =
    WrotePart output (written (datagrams_in form packets given))
InputAnswered written is form packets (Err end) input output given =
    InputEnded form packets (Some end) input given
    × Wrote output (written (datagrams_in form packets given))

-- of the datagrams that the input gave, in at most so many entries or records
pub record AnswersInput
    {A : Type 0} (written : List (List ℕ) → List ℕ) (is : A → List (List ℕ) → Type 0)
    (form : InputForm) (packets : ℕ) (result : Result A Ending) (input : InputChange)
    (output : OutputChange) : Type 0 where
  pub given : List ℕ
  pub took : Took input given
  pub ended : InputAnswered written is form packets result input output given
  pub input_failed : result ≡ Err InputFailed → HasRisen input.faults
  pub output_failed : result ≡ Err OutputFailed → HasRisen output.faults
