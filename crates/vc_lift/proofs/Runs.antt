-- A run of steps: its order, and one step more.
use Rattle.std.proofs.Common.{◌≡◌, ℕ, ◌+◌, ◌-◌, ◌<◌, length, take, get_or, ℤ, sym, ap, refl, ◌∙◌, Bool, true}
use Rattle.std.proofs.Common.{false, fold, map, List, IsTrue, arith}
use Rattle.std.proofs.lemmas.List.{length-map, length-reverse, get_or-map}
use Rattle.std.proofs.lemmas.List.Sums.{fold_more}
use Rattle.vc_lift.specs.declared.table.Row.{Row}
use Rattle.vc_lift.specs.declared.steps.Steps.{Steps}
use Rattle.vc_lift.specs.CountedSteps.{CountedStep, lift, lift_all, undone, opposite_counted, in_order}
use Rattle.vc_lift.specs.Growth.{IsPlain, is_plain, grows_little}
use Rattle.vc_lift.specs.Steps.{counted_row}
use Rattle.vc_lift.specs.StepLists.{steps_of}
use Rattle.vc_lift.proofs.LineGrowth.{plain, plain_at}
use Rattle.vc_lift.proofs.LineUndoing.{order_at}

length-in_order : (undo : Bool) (steps : List CountedStep) → length (in_order undo steps) ≡ length steps
length-in_order true steps = simp (length-map, length-reverse)
length-in_order false steps = refl

pub length-steps_of : (s : Steps) → length (steps_of s) ≡ length s.rows.now
length-steps_of s = length-in_order s.undo (map counted_row s.rows.now) ∙ length-map s.rows.now counted_row

-- a row of steps that grow little is a plain one, whichever way they go
pub plain_row : (undo : Bool) (rows : List Row) (k : ℕ) (d : Row)
    → IsTrue (grows_little 16 (in_order undo (map counted_row rows))) → k < length rows
    → IsPlain (counted_row (get_or rows k d))
plain_row true rows k d little h =
    let steps = map counted_row rows in
    let i = length rows - 1 - k in
    let back : length rows - 1 - i ≡ k = omega arith in
    let within : i < length (undone steps) = simp (length-map, length-reverse) (omega arith) in
    let own = counted_row d in
    plain (counted_row (get_or rows k d))
    (ap (λ n. is_plain (opposite_counted (counted_row (get_or rows n d)))) (sym back)
    ∙ ap is_plain (sym (order_at counted_row rows i d own (omega arith)))
    ∙ plain_at 16 (undone steps) 4096 4096 i own little within)
plain_row false rows k d little h =
    let within : k < length (map counted_row rows) = rw length-map h in
    plain (counted_row (get_or rows k d))
    (ap is_plain (sym (get_or-map counted_row rows k d (counted_row d) h))
    ∙ plain_at 16 (map counted_row rows) 4096 4096 k (counted_row d) little within)

pub lift_all_more : (steps : List CountedStep) (half : ℕ) (x : ℕ → ℤ) (i : ℕ) (s : CountedStep)
    → i < length steps → s ≡ get_or steps i s
    → lift_all (take (i + 1) steps) half x ≡ lift s half (lift_all (take i steps) half x)
unfolding lift_all
lift_all_more steps half x i s h e = fold_more (λ y t. lift t half y) x steps i s h
    ∙ ap (λ t. lift t half (fold (λ y t. lift t half y) x (take i steps))) (sym e)
