-- A wavelet's steps in the code.
use Rattle.std.specs.Prelude.{List, map}
use Rattle.vc_lift.specs.declared.steps.Steps.{Steps}
use Rattle.vc_lift.specs.CountedSteps.{CountedStep, in_order}
use Rattle.vc_lift.specs.Steps.{counted_row}

-- the steps that they are, in the order in which they are made
abbrev pub steps_of : Steps → List CountedStep
steps_of s = in_order s.undo (map counted_row s.rows.now)
