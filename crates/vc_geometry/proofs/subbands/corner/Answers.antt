use Rattle.std.proofs.Common.{◌≡◌, ℕ, ◌<◌, arith, sym, ◌∙◌, ap}
use Rattle.vc_types.specs.Quantisation.{subband_count}
use Rattle.vc_types.specs.Subbands.{Orientation, nested, subband_at}
use Rattle.vc_types.proofs.SubbandOrder.{orientation_of, subband_at-orientation, orientation-LL, orientation-H, orientation-HL, orientation-LH, orientation-HH}
use Rattle.vc_geometry.proofs.subbands.corner.Goals as goal

nested_at : (e d b w h : ℕ) (o : Orientation) → b < subband_count e d → orientation_of e b ≡ o → nested o w h ≡ nested (subband_at e d b).orientation w h
nested_at e d b w h o below is = ap (λ q. nested q w h) (sym is ∙ sym (subband_at-orientation e d b below))

pub returns-then-b-eq0-clause-value : goal.returns-then-b-eq0-clause-value
returns-then-b-eq0-clause-value c = λ d h. nested_at c.args.across d c.args.b c.args.width c.args.height _ h (orientation-LL c.args.across c.args.b (omega arith))

pub returns-then-b-across-clause-value : goal.returns-then-b-across-clause-value
returns-then-b-across-clause-value c = λ d h. nested_at c.args.across d c.args.b c.args.width c.args.height _ h (orientation-H c.args.across c.args.b (λ e. absurd (omega arith)) (omega arith))

pub returns-in-1-clause-value : goal.returns-in-1-clause-value
returns-in-1-clause-value c = λ d h. nested_at c.args.across d c.args.b c.args.width c.args.height _ h (orientation-HL c.args.across c.args.b (omega arith) (omega arith))

pub returns-in-2-clause-value : goal.returns-in-2-clause-value
returns-in-2-clause-value c = λ d h. nested_at c.args.across d c.args.b c.args.width c.args.height _ h (orientation-LH c.args.across c.args.b (omega arith) (omega arith))

pub returns-in_default-clause-value : goal.returns-in_default-clause-value
returns-in_default-clause-value c = λ d h. nested_at c.args.across d c.args.b c.args.width c.args.height _ h (orientation-HH c.args.across c.args.b (omega arith) (λ e. absurd (omega arith)) (λ e. absurd (omega arith)))
