-- Numbers that are read behind those that were.
use Rattle.std.proofs.Common.{◌≡◌, ℕ, ◌+◌, ◌-◌, ◌<◌, ◌≤◌, ℤ, unsigned_abs, arith, ap, sym, ◌∙◌, inl, inr}
use Rattle.std.proofs.lemmas.Bool.{cases_lt}

-- all numbers, those that were left, and the cells before and after so many more are read
module _ (all left cells now : ℕ → ℤ) (done more : ℕ) where
  pub read_on : ((k : ℕ) → all (done + k) ≡ left k) → ((i : ℕ) → i < done → cells i ≡ all i)
      → ((i : ℕ) → i < done → now i ≡ cells i) → ((j : ℕ) → j < more → now (done + j) ≡ left j)
      → (i : ℕ) → i < done + more → now i ≡ all i
  read_on behind before kept on i h = elim (cases_lt i done) [
    | inl below ↦ kept i below ∙ before i below
    | inr past ↦ (let at : i ≡ done + (i - done) = omega arith in
        ap now at ∙ on (i - done) (omega arith) ∙ sym (behind (i - done)) ∙ ap all (sym at))
  ]

  pub left_on : ((k : ℕ) → all (done + k) ≡ left k) → (rest : ℕ → ℤ) → ((k : ℕ) → left (more + k) ≡ rest k)
      → (k : ℕ) → all (done + more + k) ≡ rest k
  left_on behind rest next k =
      let at : done + more + k ≡ done + (more + k) = omega arith in ap all at ∙ behind (more + k) ∙ next k

  pub most_on : (most : ℕ) → ((i : ℕ) → i < done → unsigned_abs (cells i) ≤ most)
      → ((i : ℕ) → i < done → now i ≡ cells i) → ((j : ℕ) → j < more → unsigned_abs (now (done + j)) ≤ most)
      → (i : ℕ) → i < done + more → unsigned_abs (now i) ≤ most
  most_on most before kept small i h = elim (cases_lt i done) [
    | inl below ↦ rw (kept i below) (before i below)
    | inr past ↦ (let at : i ≡ done + (i - done) = omega arith in rw at (small (i - done) (omega arith)))
  ]
