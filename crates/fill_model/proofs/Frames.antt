-- Lists of frames, filled.
use Rattle.std.proofs.Common.{◌≡◌, refl, ap, sym, ◌∙◌, List, [], ◌∷◌, ◌++◌, ℕ, Option, Some, None}
use Rattle.std.proofs.lemmas.List.{append_assoc}
use Rattle.fill_model.specs.Filled.{WrittenFrame, again, filled, filled_behind, last_frame}

pub filled-append : (before : Option WrittenFrame) (xs ys : List WrittenFrame)
    → filled_behind before (xs ++ ys)
    ≡ filled_behind before xs ++ filled_behind (last_frame before xs) ys
unfolding filled_behind last_frame
filled-append before [] ys = refl
filled-append before (x ∷ xs) ys =
    ap (λ (l : List ℕ). (again before x ++ x.bytes) ++ l) (filled-append (Some x) xs ys)
    ∙ sym (append_assoc (again before x ++ x.bytes) (filled_behind (Some x) xs)
    (filled_behind (last_frame (Some x) xs) ys))

pub last-append : (before : Option WrittenFrame) (xs ys : List WrittenFrame)
    → last_frame before (xs ++ ys) ≡ last_frame (last_frame before xs) ys
unfolding last_frame
last-append before [] ys = refl
last-append before (x ∷ xs) ys = last-append (Some x) xs ys

pub filled-none : (before : Option WrittenFrame) → filled_behind before [] ≡ []
unfolding filled_behind
filled-none before = refl

pub last-none : (before : Option WrittenFrame) → last_frame before [] ≡ before
unfolding last_frame
last-none before = refl

-- what was written, and what is written behind it
pub filled_more : (front : List ℕ) (xs ys : List WrittenFrame)
    → front ++ filled (xs ++ ys) ≡ (front ++ filled xs) ++ filled_behind (last_frame None xs) ys
filled_more front xs ys =
    ap (λ (l : List ℕ). front ++ l) (filled-append None xs ys)
    ∙ sym (append_assoc front (filled xs) (filled_behind (last_frame None xs) ys))
