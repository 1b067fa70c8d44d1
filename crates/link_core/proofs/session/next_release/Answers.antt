use Rattle.std.proofs.Common.{rules, ◌≡◌, ◌<◌, ◌^◌, ◌∙◌, Some, true, ap, sym, subst}
use Rattle.std.specs.Option.{option_map}
use Rattle.machine_model.specs.Feeders.{is_among}
use Rattle.link_model.specs.Windows.{Window, Releasable, next_release, past_releases}
use Rattle.link_core.proofs.NextReleases.{room, room_falls, next_behind}
use Rattle.link_core.proofs.session.next_release.Goals as goal

pub loop-next-smaller : goal.loop-next-smaller
loop-next-smaller c =
    let w = c.loop-next.window in
    let n = c.in-Some.next.number in
    let next : option_map (λ (r : Releasable). r.number) (next_release w) ≡ Some n = ap (option_map (λ (r : Releasable). r.number)) (sym c.in-Some.ensures.value) in
    let fits : n < 2 ^ 64 = search rules in
    subst (λ (v : Window). room v.last_released < room w.last_released) (sym c.release.ensures.value) (room_falls w n fits next)

pub loop-next-preserved : goal.loop-next-preserved
loop-next-preserved c = λ p stands.
    (let w = c.loop-next.window in
    let n = c.in-Some.next.number in
    let next : option_map (λ (r : Releasable). r.number) (next_release w) ≡ Some n = ap (option_map (λ (r : Releasable). r.number)) (sym c.in-Some.ensures.value) in
    let among : is_among c.args.released.now n ≡ true = search rules in
    let before = c.loop-next.invariant p stands in (
      past_releases before.0 n,
      c.release.ensures.stands before.0 before.1,
      before.2 ∙ next_behind c.args.released.now w before.0 before.1 n next among,
    ))
