use Rattle.std.proofs.Common.{rules, ◌≡◌, ◌<◌, length}
use Rattle.link_core.proofs.NextReleases.{none_there, found_early, found_last_by}
use Rattle.link_core.proofs.pictures.+next_in.Goals as goal

pub returns-then-is_empty : goal.returns-then-is_empty
returns-then-is_empty t c = λ size hs are.
    (let empty : length c.args.sessions.items ≡ 0 = search rules in
    none_there size hs c.args.released.now c.args.has_ended c.args.sessions.items are empty)

pub returns-in-Some : goal.returns-in-Some
returns-in-Some t c = λ size hs are.
    (let some : 0 < length c.args.sessions.items = search rules in
    found_early size hs c.args.released.now c.args.has_ended c.args.sessions.items are c.remove-last.result c.remove-last.new.self.items some
    c.remove-last.ensures.value c.remove-last.ensures.items c.in-Some.number c.in-Some.ensures)

pub returns : goal.returns
returns t c = λ size hs are.
    (let some : 0 < length c.args.sessions.items = search rules in
    found_last_by size hs c.args.released.now c.args.has_ended c.args.sessions.items are c.remove-last.result c.remove-last.new.self.items some
    c.remove-last.ensures.value c.remove-last.ensures.items c.next_release.result c.next_in.result c.in_default.not-Some c.next_in.ensures c.next_release.ensures)
