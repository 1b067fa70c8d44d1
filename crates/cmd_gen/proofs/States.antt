-- The states of the generator, and its samples one behind the other.
use Rattle.std.proofs.Common.{◌≡◌, ◌≤◌, ◌<◌, ℕ, zero, suc, ◌+◌, ◌*◌, ◌-◌, ◌/◌, ◌%◌, ◌^◌, List, [], ◌∷◌, ◌++◌, All, length, refl, sym, ap, subst, ◌∙◌, add-one, arith}
use Rattle.std.proofs.lemmas.List.Elements.{All-nil, All-cons}
use Rattle.std.proofs.lemmas.Nat.{pow-add, pow_pos}
use Rattle.std.proofs.Math.Nat.{mod-add-mod, mul_comm, div-lt_iff_lt-mul}
use Rattle.cmd_gen.specs.Generator.{next_state, state_behind, sample_of, generated_samples}

pub step_wraps : (z : ℕ) → next_state z ≡ ((z * 6364136223846793005) % 2 ^ 64 + 1442695040888963407) % 2 ^ 64
unfolding next_state
step_wraps z = ap (λ (m : ℕ). (m + 1442695040888963407) % 2 ^ 64) (mul_comm 6364136223846793005 z) ∙ sym (mod-add-mod (z * 6364136223846793005) (2 ^ 64) 1442695040888963407)

pub behind_next : (z count : ℕ) → state_behind (next_state z) count ≡ next_state (state_behind z count)
unfolding state_behind
behind_next z zero = refl
behind_next z (suc count) = ap next_state (behind_next z count)

pub behind_more : (z a b : ℕ) → state_behind (state_behind z a) b ≡ state_behind z (a + b)
unfolding state_behind
behind_more z a zero = ap (state_behind z) (omega arith)
behind_more z a (suc b) =
    let more : suc (a + b) ≡ a + suc b = omega arith in
    ap next_state (behind_more z a b) ∙ ap (state_behind z) more

more_samples : (depth z count : ℕ) → generated_samples depth z (suc count) ≡ generated_samples depth z count ++ sample_of depth (next_state (state_behind z count)) ∷ []
unfolding generated_samples state_behind
more_samples depth z zero = refl
more_samples depth z (suc count) =
    ap (λ (rest : List ℕ). sample_of depth (next_state z) ∷ rest)
    (more_samples depth (next_state z) count
    ∙ ap (λ (state : ℕ). generated_samples depth (next_state z) count ++ sample_of depth (next_state state) ∷ []) (behind_next z count))

-- the same, counted as a loop counts
pub one_more : (depth z count : ℕ) → generated_samples depth z (count + 1) ≡ generated_samples depth z count ++ sample_of depth (next_state (state_behind z count)) ∷ []
one_more depth z count = ap (generated_samples depth z) (add-one count) ∙ more_samples depth z count

pub behind_one_more : (z count : ℕ) → state_behind z (count + 1) ≡ next_state (state_behind z count)
unfolding state_behind
behind_one_more z count = ap (state_behind z) (add-one count)

pub next_below : (z : ℕ) → next_state z < 2 ^ 64
unfolding next_state
next_below z = omega arith

-- the upper bits of a state are as many as they are asked for
pub upper_below : (depth z : ℕ) → depth ≤ 64 → z < 2 ^ 64 → z / 2 ^ (64 - depth) < 2 ^ depth
upper_below depth z few below =
    let bits : depth + (64 - depth) ≡ 64 = omega (arith, few) in
    let both : 2 ^ depth * 2 ^ (64 - depth) ≡ 2 ^ 64 = sym (pow-add 2 depth (64 - depth)) ∙ ap (λ (e : ℕ). 2 ^ e) bits in
    (div-lt_iff_lt-mul {k = 2 ^ (64 - depth)} {x = z} {y = 2 ^ depth} (pow_pos (64 - depth))).1 (subst (λ (m : ℕ). z < m) (sym both) below)

pub samples_below : (depth z count : ℕ) → depth ≤ 64 → All (λ sample. sample < 2 ^ depth) (generated_samples depth z count)
unfolding generated_samples
samples_below depth z zero few = All-nil (λ (sample : ℕ). sample < 2 ^ depth)
samples_below depth z (suc count) few =
    All-cons (λ (sample : ℕ). sample < 2 ^ depth) _ _ (upper_below depth (next_state z) few (next_below z)) (samples_below depth (next_state z) count few)

pub samples_count : (depth z count : ℕ) → length (generated_samples depth z count) ≡ count
unfolding generated_samples
samples_count depth z zero = refl
samples_count depth z (suc count) = ap suc (samples_count depth (next_state z) count)
