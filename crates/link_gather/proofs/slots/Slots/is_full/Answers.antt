use Rattle.std.proofs.Common.{◌≡◌, ap, ◌∙◌, length, rules}
use Rattle.std.specs.Prelude.{is_some}
use Rattle.std.specs.List.{list_all}
use Rattle.link_gather.proofs.FillingLaws.{full_is}
use Rattle.link_gather.proofs.slots.Slots.is_full.Goals as goal

pub returns : goal.returns
returns c =
    let long : c.len.result ≡ length c.self.inside.items.items = search rules in
    full_is c.self.inside.items.items c.self.inside.kept c.len.result c.self.invariant long ∙ ap (list_all is_some) c.self.view_is
