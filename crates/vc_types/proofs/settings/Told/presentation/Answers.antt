use Rattle.std.proofs.Common.{arith, subst, sym}
use Rattle.vc_types.specs.HeaderSpelling.{IsPresentation}
use Rattle.vc_types.proofs.ToldPresentations.{is_coded}
use Rattle.vc_types.proofs.settings.Told.presentation.Goals as goal

pub returns-clause-coded : goal.returns-clause-coded
returns-clause-coded c = subst IsPresentation (sym c.coded.ensures) (is_coded c.args.width c.args.height c.args.self.now (omega arith) (omega arith) c.requires)
