-- The steps of the code.
use Rattle.vc_types.specs.Lifting as standard
use Rattle.vc_types.specs.Lifting.{LiftingStep}
use Rattle.vc_lift.specs.declared.table.Parity.{Parity}
use Rattle.vc_lift.specs.declared.table.Parity.TheVariants.{Even, Odd}
use Rattle.vc_lift.specs.declared.table.Row.{Row}
use Rattle.vc_lift.specs.declared.step.Step.{Step}
use Rattle.vc_lift.specs.CountedSteps.{CountedStep, counted_step}

abbrev pub parity_of : Parity → standard.Parity
parity_of Even = standard.even
parity_of Odd = standard.odd

-- what a row of the code's table means
abbrev pub lifting_step : Row → LiftingStep
lifting_step r =
    record { parity = parity_of r.0; adds = r.1; taps = r.2.now; shift = r.3; first = r.4 }

abbrev pub counted_row : Row → CountedStep
counted_row r = counted_step (lifting_step r)

-- what a step of the code means
abbrev pub counted_of : Step → CountedStep
counted_of s =
    record { parity = s.parity; adds = s.adds; taps = s.taps.now; back = s.back; shift = s.shift }
