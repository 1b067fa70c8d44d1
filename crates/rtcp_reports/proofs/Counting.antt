-- What is kept goes on being counted within its bounds.
use Rattle.std.proofs.Common.{◌≡◌, ◌≢◌, ℕ, ◌+◌, ◌^◌, ◌<◌, ◌≤◌, refl, sym, subst, arith, inl, inr}
use Rattle.std.proofs.lemmas.Bool.{cases_lt, lt-ltb, le-ltb}
use Rattle.rtcp_reports.specs.Tracks.{Tracked, restarted, packet_counted, wrapped, update_counted}
use Rattle.rtcp_reports.specs.Views.{HasCounted}

-- ---- an update

-- the cycles make up for a number that wraps
wraps : (greatest number : ℕ) → greatest < 65536 → (wrapped greatest number ≤ 65536) × (greatest ≤ wrapped greatest number + number)
wraps greatest number small = elim (cases_lt number greatest) [
  | inl less ↦ let e = lt-ltb number greatest less in rw e (omega arith, omega arith)
  | inr more ↦ let e = le-ltb number greatest more in rw e (omega arith, omega arith)
]

module _ (t s : Tracked) (is : t ≡ s) (few : s.updates < 2 ^ 32) (h : HasCounted t) where
  few_inside : t.updates < 2 ^ 32
  few_inside = subst (λ (x : Tracked). x.updates < 2 ^ 32) (sym is) few

  pub counted-update : HasCounted (update_counted t)
  counted-update = record {
    updates = omega (arith, few_inside);
    cycles = omega (arith, h.cycles);
    received = omega (arith, h.received);
    received_prior = h.received_prior;
    base = h.base;
    expected_prior = h.expected_prior;
    came = h.came;
  }

  -- late, or a duplicate
  pub counted-late : HasCounted (packet_counted (update_counted t))
  counted-late = record {
    updates = omega (arith, few_inside);
    cycles = omega (arith, h.cycles);
    received = omega (arith, h.received);
    received_prior = omega (arith, h.received_prior);
    base = h.base;
    expected_prior = h.expected_prior;
    came = λ out. omega (arith, h.came out);
  }

  -- in order
  pub counted-advanced : (more number : ℕ) → more ≡ wrapped t.greatest number → t.greatest < 65536 → number < 65536
      → HasCounted (record t { cycles = t.cycles + more; greatest = number; received = t.received + 1; updates = t.updates + 1 })
  counted-advanced more number grows small fits =
      let most : more ≤ 65536 = omega (arith, grows, (wraps t.greatest number small).0) in
      let above : t.greatest ≤ more + number = omega (arith, grows, (wraps t.greatest number small).1) in
      record {
        updates = omega (arith, few_inside);
        cycles = omega (arith, h.cycles);
        received = omega (arith, h.received);
        received_prior = omega (arith, h.received_prior);
        base = λ out. omega (arith, h.base out);
        expected_prior = λ out. omega (arith, h.expected_prior out, h.base out);
        came = λ out. omega (arith, h.came out, h.base out);
      }

-- ---- a restart

pub counted-restarted : (t u : Tracked) (number probation : ℕ) → 1 ≤ t.updates → t.updates ≤ 2 ^ 32 → u ≡ packet_counted (restarted number t) → HasCounted (record u { probation = probation })
unfolding restarted
counted-restarted t u number probation some few is =
    subst (λ (x : Tracked). HasCounted (record x { probation = probation })) (sym is) (record {
      updates = few;
      cycles = omega arith;
      received = some;
      received_prior = omega arith;
      base = λ out. omega arith;
      expected_prior = λ out. omega arith;
      came = λ out. omega arith;
    })

-- as it stands then, and one that ends the probation
module _ (t s : Tracked) (number : ℕ) (is : t ≡ s) (some : 1 ≤ s.updates) (h : HasCounted t) where
  pub counted-anew : HasCounted (packet_counted (restarted number t))
  unfolding restarted
  counted-anew =
      let met_some : 1 ≤ t.updates = subst (λ (x : Tracked). 1 ≤ x.updates) (sym is) some in
      counted-restarted t (packet_counted (restarted number t)) number t.probation met_some h.updates refl

  pub counted-off : (u : Tracked) → u ≡ packet_counted (restarted number s) → HasCounted (record u { probation = 0 })
  counted-off u anew =
      counted-restarted s u number 0 some (subst (λ (x : Tracked). x.updates ≤ 2 ^ 32) is h.updates) anew

-- ---- on probation

-- of a source of which no packet has come
pub counted-fresh : (t : Tracked) → t.updates ≡ 0 → t.cycles ≡ 0 → t.received ≡ 0 → t.received_prior ≡ 0 → t.probation ≢ 0 → HasCounted t
counted-fresh t updates cycles received prior some = record {
  updates = omega arith;
  cycles = omega arith;
  received = omega arith;
  received_prior = omega arith;
  base = λ out. absurd (some out);
  expected_prior = λ out. absurd (some out);
  came = λ out. absurd (some out);
}

-- ---- a report
