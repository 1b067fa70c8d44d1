use Rattle.std.proofs.Common.{◌≡◌, ◌∙◌, None, ap, sym}
use Rattle.std.specs.Option.{option_map}
use Rattle.std.specs.Prelude.{is_some}
use Rattle.receiver_model.specs.Releasing.{next_picture}
use Rattle.link_receiver.proofs.CallSteps.{asks_then, same_next_picture, still_next, takes_some}
use Rattle.link_window.specs.Views.{releasable_of}
use Rattle.link_receiver.proofs.reception.Reception.take_back.Goals as goal

pub returns-in_default-clause-exchanged : goal.returns-in_default-clause-exchanged
returns-in_default-clause-exchanged g c =
    let none : None ≡ next_picture c.args.self.now =
    sym (ap (option_map releasable_of) c.in_default.is) ∙ c.next_release.ensures in
    takes_some _ _ _ _ none c.in_ok-collect.ensures.exchanged

-- a picture may be released still
pub help-requires-clause-released : goal.help-requires-clause-released
help-requires-clause-released g c =
    let all = c.in_ok-_came.ensures.exchanged in
    ap is_some (same_next_picture _ _ _ _ all.0 all.1)
    ∙ sym (ap is_some (sym (ap (option_map releasable_of) c.in-Some.is) ∙ c.next_release.ensures))

pub returns-clause-exchanged : goal.returns-clause-exchanged
returns-clause-exchanged g c = asks_then _ _ _ _ _ _ c.in_ok-_came.ensures.exchanged
    c.in_ok-help.ensures.exchanged

pub returns-in_default-clause-next : goal.returns-in_default-clause-next
returns-in_default-clause-next g c =
    let none : None ≡ next_picture c.args.self.now =
    sym (ap (option_map releasable_of) c.in_default.is) ∙ c.next_release.ensures in
    let some = takes_some _ _ _ _ none c.in_ok-collect.ensures.exchanged in
    none ∙ sym (still_next _ _ _ _ some)

pub returns-clause-next : goal.returns-clause-next
returns-clause-next g c =
    let all = asks_then _ _ _ _ _ _ c.in_ok-_came.ensures.exchanged
    c.in_ok-help.ensures.exchanged in
    sym (ap (option_map releasable_of) c.in-Some.is) ∙ c.next_release.ensures
    ∙ sym (still_next _ _ _ _ all)
