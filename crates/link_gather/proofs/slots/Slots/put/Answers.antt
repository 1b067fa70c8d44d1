use Rattle.std.proofs.Common.{◌≡◌, ℕ, List, Option, Some, ◌+◌, ◌<◌, length, sym, ap, subst, ◌∙◌, rules, set}
use Rattle.std.specs.Option.{option_copied, option_or}
use Rattle.link_model.specs.Books.{Slots, slot_at}
use Rattle.link_gather.specs.Filling.{put_result}
use Rattle.link_gather.proofs.FillingLaws.{put_kept, kept_more}
use Rattle.link_gather.proofs.slots.Slots.put.Goals as goal

pub returns-in-Some-clause-value : goal.returns-in-Some-clause-value
returns-in-Some-clause-value c = sym (put_kept c.args.self.now c.args.i c.args.slice.now c.in-Some.kept.now
    (sym c.get.ensures ∙ ap option_copied c.in-Some.is))

pub returns-in-Some-clause-result : goal.returns-in-Some-clause-result
returns-in-Some-clause-result c = c.compare.ensures
    ∙ ap (λ (o : Option (List ℕ)). put_result o c.args.slice.now)
    (sym (sym c.get.ensures ∙ ap option_copied c.in-Some.is))

pub returns-in_ok-copy-in-None-clause-value : goal.returns-in_ok-copy-in-None-clause-value
returns-in_ok-copy-in-None-clause-value c =
    let same : c.in_ok-copy-in-None.copy ≡ c.args.slice.now = search rules in
    ap (λ (l : Slots). set l c.args.i (Some c.in_ok-copy-in-None.copy)) c.self.view_is
    ∙ ap (λ (l : List ℕ). set c.args.self.now c.args.i (Some l)) same
    ∙ ap (λ (o : Option (List ℕ)). set c.args.self.now c.args.i (option_or o (Some c.args.slice.now)))
    (sym (sym c.get.ensures ∙ ap option_copied c.in-None.is))

pub returns-in_ok-copy-in-None-clause-result : goal.returns-in_ok-copy-in-None-clause-result
returns-in_ok-copy-in-None-clause-result c = ap (λ (o : Option (List ℕ)). put_result o c.args.slice.now)
    (sym (sym c.get.ensures ∙ ap option_copied c.in-None.is))

pub invariant_of-self : goal.invariant_of-self
invariant_of-self c =
    let below = subst (λ (l : Slots). c.args.i < length l) (sym c.self.view_is) c.requires in
    let none = ap (λ (l : Slots). slot_at l c.args.i) c.self.view_is
    ∙ sym c.get.ensures ∙ ap option_copied c.in-None.is in
    sym (kept_more c.self.inside.items.items c.args.i c.in_ok-copy-in-None.copy below none
    ∙ ap (λ (k : ℕ). k + 1) (sym c.self.invariant))
