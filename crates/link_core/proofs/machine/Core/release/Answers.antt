use Rattle.std.proofs.Common.{◌≡◌, ◌∙◌, ℕ, false, Option, [], ◌∷◌, ap}
use Rattle.std.specs.Prelude.{◌==◌}
use Rattle.std.specs.Option.{option_map_or}
use Rattle.machine_model.specs.Feeders.{Feeder}
use Rattle.machine_model.specs.Machine as machine
use Rattle.link_core.proofs.Stepping.{machine_of, core_of, reached_by, legal_if, reached_answers}
use Rattle.link_core.proofs.machine.Core.release.Goals as goal

pub release-requires-clause-own : goal.release-requires-clause-own
release-requires-clause-own c = reached_answers (core_of c.self.inside.window c.self.inside.feeder c.self.inside.ring) c.self.invariant

pub invariant_of-self-2 : goal.invariant_of-self-2
invariant_of-self-2 c =
    let w = c.self.inside.window in
    let f = c.self.inside.feeder in
    let p = c.self.inside.ring in
    let n = c.args.number in
    let next : c.is_number.result ≡ machine.is_next w f n = c.is_number.ensures ∙ ap (λ (o : Option ℕ). option_map_or (λ m. m == n) o false) c.in_ok-next.ensures in
    reached_by w f c.release.new.self p p c.self.invariant (machine.Release n)
    (legal_if w f p (machine.Release n) (c.is_number.result ∷ c.in_ok-has_answers.has_answers ∷ []) c.in_ok-all_of_2.ensures (λ j. next j ∷ c.in_ok-has_answers.ensures j ∷ []))
    (ap (λ (f : Feeder). machine_of f p) c.in_ok-release.ensures.released)
