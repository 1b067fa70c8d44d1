use Rattle.std.proofs.Common.{◌≡◌, List, ap, ◌∙◌, rules}
use Rattle.std.specs.Prelude.{filter}
use Rattle.std.proofs.lemmas.Fn.{filter_same}
use Rattle.link_model.specs.Windows.{NumberedBook, Window, stays_in, forgets}
use Rattle.link_window.specs.contracts.window.Window.{the_view}
use Rattle.link_window.proofs.window.Window.forget.Goals as goal

pub returns : goal.returns
returns c =
    let w : Window = the_view c.self.inside in
    let kept : c.retain.new.self.items ≡ filter (stays_in w) w.books =
    filter_same _ (stays_in w) _ (λ x b f k. search rules) _ _ c.retain.ensures.filtered in
    ap (λ (l : List NumberedBook). let v : Window = record w { books = l } in v) kept ∙ ap forgets c.self.view_is
