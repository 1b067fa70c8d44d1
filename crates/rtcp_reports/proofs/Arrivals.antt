-- Of packets that arrive near the greatest number, what is kept is what came.
use Rattle.std.proofs.Common.{◌≡◌, ℕ, ◌+◌, ◌-◌, ◌%◌, ◌^◌, ◌<◌, ◌≤◌, max, Bool, true, false, List, [], ◌∷◌, length, refl, ap, ap₂, arith, inl, inr}
use Rattle.std.proofs.lemmas.Bool.{cases_lt, lt-ltb, le-ltb, eq-eqb}
use Rattle.rtcp_reports.proofs.Judging.{ordered, late}
use Rattle.rtcp_reports.specs.Tracks.{Tracked, fresh, restarted, packet_counted, wrapped, tried, advanced, sequenced, update_counted, updated, extended, expected, loss, block_of, Arrive, tracked_on, tracked_from, highest_of}

-- ---- one packet

first_try : (t : Tracked) (number : ℕ) → t.probation ≡ 2 → number ≡ (t.greatest + 1) % 65536 → sequenced t number ≡ (record t { probation = t.probation - 1; greatest = number }, false)
unfolding sequenced tried
first_try t number p e = rw (p, eq-eqb number ((t.greatest + 1) % 65536) e) refl

last_try : (t : Tracked) (number : ℕ) → t.probation ≡ 1 → number ≡ (t.greatest + 1) % 65536 → sequenced t number ≡ (packet_counted (record (restarted number t) { probation = 0 }), true)
unfolding sequenced tried
last_try t number p e = rw (p, eq-eqb number ((t.greatest + 1) % 65536) e) refl

-- ---- many

-- what is kept of so many packets from one number on, up to the greatest
record Stands (t : Tracked) (first highest count : ℕ) : Type 0 where
  probation : t.probation ≡ 0
  base : t.base ≡ first % 65536
  greatest : t.greatest ≡ highest % 65536
  counts : t.cycles + t.greatest + first ≡ highest + first % 65536
  received : t.received ≡ count
  above : first ≤ highest

-- what the cycles grow by makes up for the numbers that wrap
wrapped_is : (g n : ℕ) → g ≤ n → n < g + 3000 → wrapped (g % 65536) (n % 65536) + n % 65536 ≡ g % 65536 + (n - g)
wrapped_is g n above below = elim (cases_lt (n % 65536) (g % 65536)) [
  | inl less ↦ let e = lt-ltb (n % 65536) (g % 65536) less in rw e (omega arith)
  | inr more ↦ let e = le-ltb (n % 65536) (g % 65536) more in rw e (omega arith)
]

forward : (t : Tracked) (first greatest count number : ℕ) → Stands t first greatest count → greatest ≤ number → number < greatest + 3000 → Stands (packet_counted (advanced (update_counted t) (number % 65536))) first number (count + 1)
unfolding advanced
forward t first greatest count number s low high = record {
  probation = s.probation;
  base = s.base;
  greatest = refl;
  counts = let w = wrapped_is greatest number low high in let g = s.greatest in rw g (omega (arith, w, s.counts));
  received = ap (λ (n : ℕ). n + 1) s.received;
  above = omega (arith, s.above);
}

backward : (t : Tracked) (first greatest count : ℕ) → Stands t first greatest count → Stands (packet_counted (update_counted t)) first greatest (count + 1)
backward t first greatest count s = record {
  probation = s.probation;
  base = s.base;
  greatest = s.greatest;
  counts = s.counts;
  received = ap (λ (n : ℕ). n + 1) s.received;
  above = s.above;
}

one_more : (t : Tracked) (first greatest count number : ℕ) → Stands t first greatest count → greatest < number + 100 → number < greatest + 3000 → Stands (updated t (number % 65536)).0 first (max greatest number) (count + 1)
one_more t first greatest count number s low high = elim (cases_lt number greatest) [
  | inl below ↦
      let same_packets : sequenced (update_counted t) (number % 65536) ≡ (packet_counted (update_counted t), true) = late (update_counted t) (number % 65536) s.probation (omega (arith, s.greatest)) in
      let same : max greatest number ≡ greatest = omega arith in
      rw (same_packets, same) (backward t first greatest count s)
  | inr above ↦
      let order : sequenced (update_counted t) (number % 65536) ≡ (packet_counted (advanced (update_counted t) (number % 65536)), true) = ordered (update_counted t) (number % 65536) s.probation (omega (arith, s.greatest)) in
      let same : max greatest number ≡ number = omega arith in
      rw (order, same) (forward t first greatest count number s above high)
]

all_stand : (t : Tracked) (first greatest count : ℕ) (numbers : List ℕ) → Stands t first greatest count → Arrive greatest numbers → Stands (tracked_on t numbers) first (highest_of greatest numbers) (count + length numbers)
all_stand t first greatest count [] s arrive = let e : count + 0 ≡ count = omega arith in rw e s
all_stand t first greatest count (number ∷ numbers) s arrive =
    let more = one_more t first greatest count number s arrive.0 arrive.1 in
    let rest = all_stand (updated t (number % 65536)).0 first (max greatest number) (count + 1) numbers more arrive.2 in
    let e : count + length (number ∷ numbers) ≡ count + 1 + length numbers = omega arith in
    rw e rest

-- ---- the first two

tried_once : (first : ℕ) → (updated (fresh (first % 65536)) (first % 65536)).0 ≡ record (update_counted (fresh (first % 65536))) { probation = 1; greatest = first % 65536 }
unfolding fresh
tried_once first = ap (λ (r : Tracked × Bool). r.0) (first_try (update_counted (fresh (first % 65536))) (first % 65536) refl (omega arith))

tried_twice : (t : Tracked) (first : ℕ) → t.probation ≡ 1 → t.greatest ≡ first % 65536 → Stands (updated t ((first + 1) % 65536)).0 (first + 1) (first + 1) 1
unfolding restarted
tried_twice t first p g =
    let e = last_try (update_counted t) ((first + 1) % 65536) p (omega (arith, g)) in
    rw e (record {
      probation = refl;
      base = refl;
      greatest = refl;
      counts = omega arith;
      received = refl;
      above = omega arith;
    })

stands : (first : ℕ) (numbers : List ℕ) → Arrive (first + 1) numbers → Stands (tracked_from first ((first + 1) ∷ numbers)) (first + 1) (highest_of (first + 1) numbers) (1 + length numbers)
stands first numbers arrive =
    let once : Tracked = record (update_counted (fresh (first % 65536))) { probation = 1; greatest = first % 65536 } in
    let two = all_stand (updated once ((first + 1) % 65536)).0 (first + 1) (first + 1) 1 numbers (tried_twice once first refl refl) arrive in
    rw (tried_once first) two

-- ---- what a report says

pub ends_probation : (first : ℕ) (numbers : List ℕ) → Arrive (first + 1) numbers → (tracked_from first ((first + 1) ∷ numbers)).probation ≡ 0
ends_probation first numbers arrive = (stands first numbers arrive).probation

highest_where : (ssrc : ℕ) (t : Tracked) (first greatest count : ℕ) → Stands t first greatest count → (block_of ssrc t).highest ≡ (greatest - first + first % 65536) % 2 ^ 32
unfolding block_of
highest_where ssrc t first greatest count s =
    let e : extended t ≡ greatest - first + first % 65536 = omega (arith, s.counts, s.above) in
    ap (λ (n : ℕ). n % 2 ^ 32) e

lost_of : (ssrc : ℕ) (t : Tracked) (first greatest count : ℕ) → Stands t first greatest count → (block_of ssrc t).lost ≡ loss (greatest - first + 1) count
unfolding block_of
lost_of ssrc t first greatest count s =
    let e : expected t ≡ greatest - first + 1 = omega (arith, s.counts, s.base, s.above) in
    ap₂ loss e s.received

pub highest_is : (ssrc first : ℕ) (numbers : List ℕ) → Arrive (first + 1) numbers → (block_of ssrc (tracked_from first ((first + 1) ∷ numbers))).highest ≡ (highest_of (first + 1) numbers - (first + 1) + (first + 1) % 65536) % 2 ^ 32
highest_is ssrc first numbers arrive = highest_where ssrc _ _ _ _ (stands first numbers arrive)

pub lost_is : (ssrc first : ℕ) (numbers : List ℕ) → Arrive (first + 1) numbers → (block_of ssrc (tracked_from first ((first + 1) ∷ numbers))).lost ≡ loss (highest_of (first + 1) numbers - (first + 1) + 1) (1 + length numbers)
lost_is ssrc first numbers arrive = lost_of ssrc _ _ _ _ (stands first numbers arrive)
