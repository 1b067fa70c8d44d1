-- The strip of a run: its coefficients, those of a subband in one rectangle; and what runs decode to.
use Rattle.std.specs.Prelude.{◌≡◌, ℕ, ◌+◌, length, List, [], ◌∷◌, map, ℤ, Result, Ok}
use Rattle.std.specs.List.{range_with_len}
use Rattle.vc_types.specs.declared.refusal.Unsound.{Unsound}
use Rattle.vc_types.specs.declared.video.Component.{Component}
use Rattle.vc_types.specs.declared.video.Component.TheVariants.{Y, C1, C2}
use Rattle.vc_types.specs.Lifting.{line_of}
use Rattle.vc_types.specs.Slices.{Coefficients, coefficients_of, slice_coefficients}
use Rattle.vc_types.specs.Subbands.{slice_coefficient_count}
use Rattle.vc_types.specs.TransformParameters.{Parameters}
use Rattle.vc_geometry.specs.Runs.{run_coefficient_count, strip_number}
use Rattle.vc_slice.specs.declared.run_answer.RunAnswer.{RunAnswer}
use Rattle.vc_slice.specs.declared.run_answer.RunAnswer.TheVariants.{Together, Apart}

-- a slice's coefficients of a component, cut out of those of a run
abbrev pub strip_component : Parameters → Component → ℕ → ℕ → List ℤ → ℕ → List ℤ
strip_component p c first count strip n =
    map (λ i. line_of strip (strip_number p c first count n i))
    (range_with_len 0 (slice_coefficient_count p c n))

-- slice number n, cut out of a run's strip
unfoldable pub strip_slice : Parameters → ℕ → ℕ → Coefficients → ℕ → Coefficients
strip_slice p first count strip n = record {
  y = strip_component p Y first count strip.y n;
  c1 = strip_component p C1 first count strip.c1 n;
  c2 = strip_component p C2 first count strip.c2 n;
}

-- the slices of a run, in order
abbrev pub strip_slices : Parameters → ℕ → ℕ → Coefficients → List Coefficients
strip_slices p first count strip =
    map (strip_slice p first count strip) (range_with_len first count)

-- of each component it has as many coefficients as the run
abbrev pub IsStripOf : Parameters → ℕ → ℕ → Coefficients → Type 0
IsStripOf p first count strip =
    (c : Component) → length (coefficients_of strip c) ≡ run_coefficient_count p c first count

-- what slices decode to, one after another from number n on
unfoldable pub decodings : Parameters → ℕ → List (List ℕ) → List (Result Coefficients Unsound)
decodings p n [] = []
decodings p n (bytes ∷ slices) = slice_coefficients p n bytes ∷ decodings p (n + 1) slices

-- what a run's slices decode to, by the answer of the run
abbrev pub run_answers : Parameters → ℕ → ℕ → RunAnswer → List (Result Coefficients Unsound)
run_answers p first count (Together strip) = map Ok (strip_slices p first count strip)
run_answers p first count (Apart answers) = answers.items

-- a strip has the coefficients of the whole run
abbrev pub IsWholeStrip : Parameters → ℕ → ℕ → RunAnswer → Type 0
IsWholeStrip p first count answer =
    (strip : Coefficients) → answer ≡ Together strip → IsStripOf p first count strip
