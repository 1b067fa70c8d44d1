use Rattle.std.proofs.Common.{◌≡◌, ◌+◌, ◌<◌, ◌∷◌, List, ℕ, suc, drop, length, get_or, map, sym, ap, ◌∙◌, add-one, arith}
use Rattle.std.specs.Prelude.{fold}
use Rattle.std.proofs.Math.ListN.{drop_of_length-le}
use Rattle.std.proofs.Math.Seq.{drop-cons}
use Rattle.link_model.specs.Books.{Gathered, gathers}
use Rattle.link_gather.specs.Views.{slice_part_of}
use Rattle.link_gather.proofs.book.gathered.Goals as goal

fold_one : {S X Y : Type 0} (f : S → Y → S) (view : X → Y) (l : List X) (i : ℕ) (x : X) (s next : S)
    → i < length l → x ≡ get_or l i x → next ≡ f s (view x)
    → fold f next (map view (drop (i + 1) l)) ≡ fold f s (map view (drop i l))
fold_one f view l i x s next below is step =
    let here : drop i l ≡ x ∷ drop (i + 1) l = rw add-one (drop-cons l i x below ∙ ap (λ h. h ∷ drop (suc i) l) (sym is)) in
    ap (λ g. fold f g (map view (drop (i + 1) l))) step ∙ sym (ap (λ d. fold f s (map view d)) here)

pub loop-part-init : goal.loop-part-init
loop-part-init c =
    ap (λ (g : Gathered). fold gathers g (map slice_part_of c.args.waiting.now)) c.in_ok-gathering.ensures

pub loop-part-preserved : goal.loop-part-preserved
loop-part-preserved c =
    fold_one gathers slice_part_of c.args.waiting.now c.loop-part.part-index c.part-item.result c.loop-part.gathering
    c.take.new.self c.loop-part-test.true c.part-item.is c.in_ok-_taken.ensures.value
    ∙ c.loop-part.invariant

pub returns : goal.returns
returns c =
    let over = drop_of_length-le c.args.waiting.now {i = c.loop-part.part-index} (omega arith) in
    sym (ap (λ (l : List _). fold gathers c.loop-part.gathering (map slice_part_of l)) over) ∙ c.loop-part.invariant
