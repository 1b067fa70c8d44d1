-- How slices share the columns, or the rows, of a subband: each belongs to one share.
use Rattle.std.proofs.Common.{◌≡◌, ℕ, ◌+◌, ◌-◌, ◌*◌, ◌/◌, ◌<◌, ◌≤◌, ◌≢◌, Bool, arith, sym, subst, inl, inr}
use Rattle.std.specs.Prelude.{nat_lt, nat_le, ◌&&◌, ◌==◌}
use Rattle.std.proofs.lemmas.Bool.{cases_lt, cases_eq}
use Rattle.std.proofs.lemmas.Bool.Decides.{nat_tests}
use Rattle.std.proofs.lemmas.Grind.{common_steps}
use Rattle.vc_types.specs.Subbands.{share_start}

-- the share that a place belongs to
unfoldable pub owner : ℕ → ℕ → ℕ → ℕ
owner length n x = ((x + 1) * n - 1) / length

pub owner-below : (length n x : ℕ) → 0 < n → x < length → owner length n x < n
unfolding owner
owner-below length n x some h = grind (arith, common_steps)

owner-from : (length n x : ℕ) → 0 < n → x < length → share_start length n (owner length n x) ≤ x
unfolding owner
owner-from length n x some h = grind (arith, common_steps)

owner-to : (length n x : ℕ) → 0 < n → x < length → x < share_start length n (owner length n x + 1)
unfolding owner
owner-to length n x some h = grind (arith, common_steps)

owner-only : (length n x k : ℕ) → 0 < n → x < length → share_start length n k ≤ x → x < share_start length n (k + 1) → k ≡ owner length n x
unfolding owner
owner-only length n x k some h from to = grind (arith, common_steps)

pub share_start-within : (length n k : ℕ) → k < n → share_start length n (k + 1) ≤ length
share_start-within length n k h = grind (arith, common_steps)

abbrev shared : ℕ → ℕ → ℕ → ℕ → Bool
shared from a b x = nat_le (from + a) x && nat_lt x (from + a + (b - a))

abbrev owned : ℕ → ℕ → ℕ → ℕ → ℕ → Bool
owned from length x k o = (nat_le from x && nat_lt x (from + length)) && (k == o)

before : (from length x k a b o : ℕ) → x < from → shared from a b x ≡ owned from length x k o
before from length x k a b o h = grind (arith, nat_tests)

behind : (from length x k a b o : ℕ) → b ≤ length → from + length ≤ x → shared from a b x ≡ owned from length x k o
behind from length x k a b o within h = grind (arith, nat_tests)

mine : (from length x k a b o : ℕ) → from ≤ x → x < from + length → k ≡ o → a ≤ x - from → x - from < b → shared from a b x ≡ owned from length x k o
mine from length x k a b o left right e low high = grind (arith, nat_tests)

others : (from length x k a b o : ℕ) → k ≢ o → (a ≤ x - from → x - from < b → k ≡ o) → from ≤ x → x < from + length → shared from a b x ≡ owned from length x k o
others from length x k a b o apart only left right = elim (cases_lt (x - from) a) [
  | inl low ↦ grind (arith, nat_tests)
  | inr above ↦ elim (cases_lt (x - from) b) [
    | inl below ↦ absurd (apart (only above below))
    | inr high ↦ grind (arith, nat_tests)
  ]
]

-- the test whether a place lies in share k of a stretch
pub in_share : (from length n k x : ℕ) → k < n
    → (nat_le (from + share_start length n k) x && nat_lt x (from + share_start length n k + (share_start length n (k + 1) - share_start length n k)))
    ≡ ((nat_le from x && nat_lt x (from + length)) && (k == owner length n (x - from)))
in_share from length n k x h =
    let a = share_start length n k in
    let b = share_start length n (k + 1) in
    let o = owner length n (x - from) in
    let some : 0 < n = omega arith in
    elim (cases_lt x from) [
      | inl low ↦ before from length x k a b o low
      | inr left ↦ elim (cases_lt x (from + length)) [
        | inr high ↦ behind from length x k a b o (share_start-within length n k h) high
        | inl right ↦ (let inside : x - from < length = omega arith in elim (cases_eq k o) [
          | inl e ↦ mine from length x k a b o left right e (subst (λ j. share_start length n j ≤ x - from) (sym e) (owner-from length n (x - from) some inside)) (subst (λ j. x - from < share_start length n (j + 1)) (sym e) (owner-to length n (x - from) some inside))
          | inr apart ↦ others from length x k a b o apart (λ low high. owner-only length n (x - from) k some inside low high) left right
        ])
      ]
    ]
