-- What a plan's slices are refused for, and what its runs decode to.
use Rattle.std.specs.Prelude.{ℕ, List, Result}
use Rattle.vc_types.specs.declared.plan.Plan.{Plan}
use Rattle.vc_types.specs.declared.refusal.Unsound.{Unsound}
use Rattle.vc_types.specs.Slices.{Coefficients}
use Rattle.vc_types.specs.TransformParameters.{parameters_of}
use Rattle.vc_slice.specs.declared.encoding.EncodeRefusal.{EncodeRefusal}
use Rattle.vc_slice.specs.declared.run_answer.RunAnswer.{RunAnswer}
use Rattle.vc_slice.specs.Refusals as refusals
use Rattle.vc_slice.specs.Strips as strips

abbrev pub IsRefusal : Plan → ℕ → ℕ → Coefficients → EncodeRefusal → Type 0
IsRefusal plan = refusals.IsRefusal (parameters_of plan)

-- what slices decode to, one after another from number n on
abbrev pub decodings : Plan → ℕ → List (List ℕ) → List (Result Coefficients Unsound)
decodings plan = strips.decodings (parameters_of plan)

abbrev pub strip_slices : Plan → ℕ → ℕ → Coefficients → List Coefficients
strip_slices plan = strips.strip_slices (parameters_of plan)

abbrev pub run_answers : Plan → ℕ → ℕ → RunAnswer → List (Result Coefficients Unsound)
run_answers plan = strips.run_answers (parameters_of plan)

abbrev pub IsStripOf : Plan → ℕ → ℕ → Coefficients → Type 0
IsStripOf plan = strips.IsStripOf (parameters_of plan)

abbrev pub IsWholeStrip : Plan → ℕ → ℕ → RunAnswer → Type 0
IsWholeStrip plan = strips.IsWholeStrip (parameters_of plan)
