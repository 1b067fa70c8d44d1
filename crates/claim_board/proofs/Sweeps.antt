-- The places that were left are asked, one after another.
use Rattle.std.proofs.Common.{◌≡◌, refl, ℕ, zero, suc, ◌+◌, Bool, true, false, cond, List, [], ◌∷◌, get_or, sym, ◌∙◌, subst, arith, count_by}
use Rattle.std.proofs.lemmas.Bool.{false≢true}
use Rattle.std.proofs.lemmas.List.Sums.{sum_by-cons}
use Rattle.claim_board.specs.declared.feeder.BoardFeeder.{BoardFeeder}
use Rattle.claim_board.specs.Feeders.{HasAskedBelow, HasAskedIfLeft, left_in}

none_marked : (marks : List Bool) (p : ℕ) → count_by (λ (m : Bool). m) marks ≡ 0 → get_or marks p false ≡ false
none_marked [] p e = refl
none_marked (true ∷ ms) p e = absurd (let k = sum_by-cons (λ (m : Bool). cond {A = ℕ} m 1 0) true ms in omega arith)
none_marked (false ∷ ms) zero e = refl
none_marked (false ∷ ms) (suc p) e = none_marked ms p (let k = sum_by-cons (λ (m : Bool). cond {A = ℕ} m 1 0) false ms in omega arith)

-- where none was left, none is asked
pub asked_none : (f : BoardFeeder) → count_by (λ (m : Bool). m) (left_in f) ≡ 0 → (n : ℕ) → HasAskedBelow n f f
asked_none f none zero = refl
asked_none f none (suc n) = (
  f,
  asked_none f none n,
  record { asked = λ yes. absurd (false≢true (sym (none_marked (left_in f) n none) ∙ yes)); same = λ no. refl },
)

pub asked_more : (p : ℕ) (old between new : BoardFeeder) → HasAskedBelow p old between → HasAskedIfLeft between new p → HasAskedBelow (p + 1) old new
asked_more p old between new h a = let e : suc p ≡ p + 1 = omega arith in subst (λ (k : ℕ). HasAskedBelow k old new) e (between, h, a)
