-- The subbands by their numbers: how many there are, and the level, the orientation and the rectangle of each.
use Rattle.std.proofs.Common.{◌≡◌, ℕ, zero, suc, ◌+◌, ◌-◌, ◌*◌, ◌/◌, ◌%◌, ◌^◌, ◌<◌, ◌≤◌, ◌≢◌, [], ◌∷◌, length, get_or, min, arith, refl, ◌∙◌, sym, ap, inl, inr}
use Rattle.std.specs.Prelude.{if◌then◌else◌, ◌==◌, nat_le}
use Rattle.std.proofs.lemmas.Bool.{cases_lt, cases_eq}
use Rattle.std.proofs.lemmas.Bool.Decides.{nat_tests}
use Rattle.std.proofs.lemmas.List.{length-append}
use Rattle.std.proofs.Math.ListN.{get_or-append}
use Rattle.std.proofs.Math.Nat.{div-le_self, div-mul-le_self, mul-le-mul_right, pow-suc}
use Rattle.std.proofs.Math.Pow.{pow_pos}
use Rattle.std.proofs.Math.Seq.{get_or-append_right}
use Rattle.vc_types.specs.Quantisation.{subband_count}
use Rattle.vc_types.specs.Subbands.{Orientation, LL, H, HL, LH, HH, Subband, subband, subbands_across, both_ways, subbands, subband_at}

length-across : (e : ℕ) → length (subbands_across e) ≡ 1 + e
length-across zero = refl
length-across (suc e) =
    let more = length-append (subbands_across e) (subband (suc e) H ∷ []) in
    let before = length-across e in
    omega (arith, more, before)

pub length-subbands : (e d : ℕ) → length (subbands e d) ≡ subband_count e d
length-subbands e zero = let across = length-across e in omega (arith, across)
length-subbands e (suc d) =
    let more = length-append (subbands e d) (both_ways (e + suc d)) in
    let before = length-subbands e d in
    omega (arith, more, before)

-- the level of subband number b, where e levels are across alone
abbrev pub level_of : ℕ → ℕ → ℕ
level_of e b = min b e + (b - e + 2) / 3

unfoldable pub orientation_of : ℕ → ℕ → Orientation
orientation_of e b = if b == 0 then LL else if nat_le b e then H else if (b - e) % 3 == 1 then HL else if (b - e) % 3 == 2 then LH else HH

-- subband number b, however many levels there are both ways
abbrev pub numbered : ℕ → ℕ → Subband
numbered e b = subband (level_of e b) (orientation_of e b)

pub orientation-LL : (e b : ℕ) → b ≡ 0 → orientation_of e b ≡ LL
unfolding orientation_of
orientation-LL e b h = rw h refl

pub orientation-H : (e b : ℕ) → b ≢ 0 → b ≤ e → orientation_of e b ≡ H
unfolding orientation_of
orientation-H e b some across = grind (arith, nat_tests)

module _ (e b : ℕ) (up : e < b) where
  some_up : b ≢ 0
  some_up z = absurd (omega arith)

  pub orientation-HL : (b - e) % 3 ≡ 1 → orientation_of e b ≡ HL
  unfolding orientation_of
  orientation-HL h = let some = some_up in grind (arith, nat_tests)

  pub orientation-LH : (b - e) % 3 ≡ 2 → orientation_of e b ≡ LH
  unfolding orientation_of
  orientation-LH h = let some = some_up in grind (arith, nat_tests)

  pub orientation-HH : (b - e) % 3 ≢ 1 → (b - e) % 3 ≢ 2 → orientation_of e b ≡ HH
  unfolding orientation_of
  orientation-HH one two = let some = some_up in grind (arith, nat_tests)

same_subband : (k l : ℕ) (o q : Orientation) → k ≡ l → o ≡ q → subband k o ≡ subband l q
same_subband k l o q e f = ap (λ n. subband n o) e ∙ ap (subband l) f

across-numbered : (e b : ℕ) → b ≤ e → (upto : ℕ) → e ≤ upto → get_or (subbands_across e) b (subband 0 LL) ≡ numbered upto b
across-numbered zero zero h upto k = same_subband 0 (level_of upto 0) LL (orientation_of upto 0) (omega arith) (sym (orientation-LL upto 0 refl))
across-numbered zero (suc b) h upto k = absurd (omega arith)
across-numbered (suc e) b h upto k = elim (cases_lt b (1 + e)) [
  | inl below ↦ get_or-append (subbands_across e) (subband (suc e) H ∷ []) (subband 0 LL) b (let n = length-across e in omega (arith, n)) ∙ across-numbered e b (omega arith) upto (omega arith)
  | inr above ↦ (let last : b - length (subbands_across e) ≡ 0 = let n = length-across e in omega (arith, n) in
      get_or-append_right (subbands_across e) (subband (suc e) H ∷ []) b (subband 0 LL) (let n = length-across e in omega (arith, n))
      ∙ ap (λ j. get_or (subband (suc e) H ∷ []) j (subband 0 LL)) last
      ∙ same_subband (suc e) (level_of upto b) H (orientation_of upto b) (omega arith) (sym (orientation-H upto b (λ z. absurd (omega arith)) (omega arith))))
]

in_three : (e d b j : ℕ) → b ≡ subband_count e d + j → j < 3 → get_or (both_ways (e + suc d)) j (subband 0 LL) ≡ numbered e b
in_three e d b zero is h = same_subband (e + suc d) (level_of e b) HL (orientation_of e b) (omega arith) (sym (orientation-HL e b (omega arith) (omega arith)))
in_three e d b (suc zero) is h = same_subband (e + suc d) (level_of e b) LH (orientation_of e b) (omega arith) (sym (orientation-LH e b (omega arith) (omega arith)))
in_three e d b (suc (suc zero)) is h = same_subband (e + suc d) (level_of e b) HH (orientation_of e b) (omega arith) (sym (orientation-HH e b (omega arith) (λ z. absurd (omega arith)) (λ z. absurd (omega arith))))
in_three e d b (suc (suc (suc j))) is h = absurd (omega arith)

pub subband_at-numbered : (e d b : ℕ) → b < subband_count e d → subband_at e d b ≡ numbered e b
subband_at-numbered e zero b h = across-numbered e b (omega arith) e (omega arith)
subband_at-numbered e (suc d) b h = elim (cases_lt b (subband_count e d)) [
  | inl below ↦ get_or-append (subbands e d) (both_ways (e + suc d)) (subband 0 LL) b (let n = length-subbands e d in omega (arith, n)) ∙ subband_at-numbered e d b below
  | inr above ↦ get_or-append_right (subbands e d) (both_ways (e + suc d)) b (subband 0 LL) (let n = length-subbands e d in omega (arith, n)) ∙ in_three e d b (b - length (subbands e d)) (let n = length-subbands e d in omega (arith, n)) (let n = length-subbands e d in omega (arith, n))
]

pub subband_at-level : (e d b : ℕ) → b < subband_count e d → (subband_at e d b).level ≡ level_of e b
subband_at-level e d b h = ap (λ s. s.level) (subband_at-numbered e d b h)

pub subband_at-orientation : (e d b : ℕ) → b < subband_count e d → (subband_at e d b).orientation ≡ orientation_of e b
subband_at-orientation e d b h = ap (λ s. s.orientation) (subband_at-numbered e d b h)

twice-halved : (side halvings : ℕ) → 1 ≤ halvings → 2 * (side / 2 ^ halvings) ≤ side
twice-halved side zero h = absurd (omega arith)
twice-halved side (suc n) h =
    let power = pow_pos n in
    let twice : 2 ≤ 2 ^ suc n = rw pow-suc (omega (arith, power)) in
    let more = mul-le-mul_right (side / 2 ^ suc n) twice in
    let low = div-mul-le_self side (2 ^ suc n) in
    omega (arith, more, low)

-- a subband's columns, or its rows, lie in the plane
pub subband-inside : (side halvings b from length : ℕ) → length ≡ side / 2 ^ halvings → from ≤ length → (b ≡ 0 → from ≡ 0) → (0 < b → 1 ≤ halvings) → from + length ≤ side
subband-inside side halvings b from length is low lowest inner = elim (cases_eq b 0) [
  | inl e ↦ (let whole = div-le_self side (2 ^ halvings) in let first = lowest e in omega (arith, whole, first))
  | inr some ↦ (let once = inner (omega arith) in let twice = twice-halved side halvings once in omega (arith, twice))
]
