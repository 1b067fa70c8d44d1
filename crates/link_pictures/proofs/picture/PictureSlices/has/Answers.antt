use Rattle.std.proofs.Common.{rules, ◌≡◌, Bool, true, None, sym, ap, ◌∙◌}
use Rattle.std.specs.Prelude.{◌||◌, is_some, slice_index_or}
use Rattle.picture_build.specs.Kept.{slice_that_came}
use Rattle.link_pictures.proofs.SeenSlots.{has_seen}
use Rattle.link_pictures.proofs.picture.PictureSlices.has.Goals as goal

pub returns-then-has : goal.returns-then-has
returns-then-has c =
    let s = c.self.inside in
    let why = is_some (slice_index_or s.unsound.items c.args.index None) in
    let came : is_some (slice_that_came s.builder c.args.index) ≡ true = sym c.has.ensures ∙ c.if-has.true in
    c.if-has.true ∙ sym (ap (λ (b : Bool). b || why) came)
    ∙ sym (has_seen s.builder s.unsound.items c.self.invariant s.number c.args.index c.args.self.now c.self.view_is)

pub returns-else-has : goal.returns-else-has
returns-else-has c =
    let s = c.self.inside in
    let why = is_some (slice_index_or s.unsound.items c.args.index None) in
    let own : c.is_some.result ≡ why = search rules in
    own ∙ sym (ap (λ (b : Bool). b || why) (sym c.has.ensures ∙ c.if-has.false))
    ∙ sym (has_seen s.builder s.unsound.items c.self.invariant s.number c.args.index c.args.self.now c.self.view_is)
