-- An item that stands in a list, with what stands before and after it.
use Rattle.std.proofs.Common.{◌≡◌, ℕ, zero, suc, List, [], ◌∷◌, ◌++◌, map, length, take, Some, refl, sym, ap, ◌∙◌, subst, arith, All, slice_get}
use Rattle.std.proofs.Math.Seq.{take-append_seam}
use Rattle.std.proofs.lemmas.List.{append_assoc, map-append}
use Rattle.std.proofs.lemmas.List.Elements.{All-head, All-tail, All-cons}
use Rattle.std.proofs.lemmas.Option.{none-some, same_Some}

abbrev pub IsAmong : {A : Type 0} → List A → A → Type 0
IsAmong {A} xs x = (front : List A) × (rest : List A) × (xs ≡ front ++ x ∷ rest)

pub among_first : {A : Type 0} (x : A) (xs : List A) → IsAmong (x ∷ xs) x
among_first x xs = ([], xs, refl)

pub among_later : {A : Type 0} (y x : A) (xs : List A) → IsAmong xs x → IsAmong (y ∷ xs) x
among_later y x xs is = (y ∷ is.0, is.1, ap (λ l. y ∷ l) is.2)

pub among_behind : {A : Type 0} (x : A) (before xs : List A) → IsAmong xs x → IsAmong (before ++ xs) x
among_behind x before xs is = (before ++ is.0, is.1, ap (λ l. before ++ l) is.2 ∙ sym (append_assoc before is.0 (x ∷ is.1)))

pub among_before : {A : Type 0} (x : A) (xs behind : List A) → IsAmong xs x → IsAmong (xs ++ behind) x
among_before x xs behind is = (is.0, is.1 ++ behind, ap (λ l. l ++ behind) is.2 ∙ append_assoc is.0 (x ∷ is.1) behind)

pub among_map : {A B : Type 0} (f : A → B) (x : A) (xs : List A) → IsAmong xs x → IsAmong (map f xs) (f x)
among_map f x xs is = (map f is.0, map f is.1, ap (map f) is.2 ∙ map-append f is.0 (x ∷ is.1))

-- its place
at_place : {A : Type 0} (front : List A) (x : A) (rest : List A) → slice_get (front ++ x ∷ rest) (length front) ≡ Some x
at_place [] x rest = refl
at_place (y ∷ front) x rest = at_place front x rest

pub among_at : {A : Type 0} (x : A) (xs : List A) (is : IsAmong xs x) → slice_get xs (length is.0) ≡ Some x
among_at x xs is = ap (λ l. slice_get l (length is.0)) is.2 ∙ at_place is.0 x is.1

-- what stands in front of it
pub front_of : {A : Type 0} (x : A) (xs : List A) (is : IsAmong xs x) → take (length is.0) xs ≡ is.0
front_of x xs is = ap (take (length is.0)) is.2 ∙ take-append_seam is.0 (x ∷ is.1)

pub among_from : {A : Type 0} (x : A) (xs : List A) (k : ℕ) → slice_get xs k ≡ Some x → IsAmong xs x
among_from x [] k is = absurd (none-some x is)
among_from x (y ∷ xs) zero is = ([], xs, ap (λ z. z ∷ xs) (same_Some y x is))
among_from x (y ∷ xs) (suc k) is = among_later y x xs (among_from x xs k is)

-- what holds of all holds of it
in_middle : {A : Type 0} (P : A → Type 0) (front : List A) (x : A) (rest : List A) → All P (front ++ x ∷ rest) → P x
in_middle P [] x rest all = All-head P x rest all
in_middle P (y ∷ front) x rest all = in_middle P front x rest (All-tail P y (front ++ x ∷ rest) all)

pub among_all : {A : Type 0} (P : A → Type 0) (x : A) (xs : List A) → All P xs → IsAmong xs x → P x
among_all P x xs all is = in_middle P is.0 x is.1 (subst (λ l. All P l) is.2 all)

-- what holds of a list holds of its front
pub All-front : {A : Type 0} (P : A → Type 0) (xs ys : List A) → All P (xs ++ ys) → All P xs
All-front P [] ys all = λ k d h. absurd (omega (arith, h))
All-front P (x ∷ xs) ys all = All-cons P x xs (All-head P x (xs ++ ys) all) (All-front P xs ys (All-tail P x (xs ++ ys) all))

-- and of its back
pub All-back : {A : Type 0} (P : A → Type 0) (xs ys : List A) → All P (xs ++ ys) → All P ys
All-back P [] ys all = all
All-back P (x ∷ xs) ys all = All-back P xs ys (All-tail P x (xs ++ ys) all)
