-- What is kept behind a packet, in each of its cases.
use Rattle.std.proofs.Common.{◌≡◌, ◌≢◌, ℕ, ◌+◌, ◌-◌, ◌%◌, ◌<◌, ◌≤◌, Bool, true, false, if◌then◌else◌, refl, sym, subst, ap, ◌∙◌, arith}
use Rattle.std.specs.Prelude.{not, ◌==◌, nat_lt, nat_le}
use Rattle.std.proofs.lemmas.Bool.{lt-ltb, le-ltb, le-leb, lt-leb, eq-eqb, ne_eqb}
use Rattle.rtcp_reports.specs.Tracks.{Tracked, fresh, restarted, packet_counted, ahead, wrapped, tried, advanced, jumped, sequenced, update_counted, updated}

-- ---- before the first packet

abbrev before : ℕ → ℕ → Tracked
before number greatest = record {
  base = number;
  greatest = greatest;
  bad = 65537;
  cycles = 0;
  probation = 2;
  received = 0;
  expected_prior = 0;
  received_prior = 0;
  updates = 0;
}

pub starts : (number greatest : ℕ) → greatest ≡ (number + 65535) % 65536 → before number greatest ≡ fresh number
unfolding fresh
starts number greatest is = rw is refl

-- ---- off probation, and on it

on_probation : (t : Tracked) (number : ℕ) → t.probation ≢ 0 → sequenced t number ≡ tried t number
unfolding sequenced
on_probation t number some = rw (ne_eqb t.probation 0 some) refl

pub ordered : (t : Tracked) (number : ℕ) → t.probation ≡ 0 → ahead t.greatest number < 3000 → sequenced t number ≡ (packet_counted (advanced t number), true)
unfolding sequenced
ordered t number none near = rw (none, lt-ltb (ahead t.greatest number) 3000 near) refl

far : (t : Tracked) (number : ℕ) → t.probation ≡ 0 → 3000 ≤ ahead t.greatest number → ahead t.greatest number ≤ 65436 → sequenced t number ≡ jumped t number
unfolding sequenced
far t number none above below =
    rw (none, le-ltb (ahead t.greatest number) 3000 above, le-leb (ahead t.greatest number) 65436 below) refl

pub late : (t : Tracked) (number : ℕ) → t.probation ≡ 0 → 65436 < ahead t.greatest number → sequenced t number ≡ (packet_counted t, true)
unfolding sequenced
late t number none behind =
    rw (none, le-ltb (ahead t.greatest number) 3000 (omega arith), lt-leb (ahead t.greatest number) 65436 behind) refl

-- ---- an update, by what is kept inside

-- the packet counts, and so it does behind a restart
abbrev yes : Tracked → Tracked × Bool
yes t = (t, true)

abbrev yes_off_probation : Tracked → Tracked × Bool
yes_off_probation t = (record t { probation = 0 }, true)

advances : (t : Tracked) (number more : ℕ) → more ≡ wrapped t.greatest number → packet_counted (advanced (update_counted t) number) ≡ record t { cycles = t.cycles + more; greatest = number; received = t.received + 1; updates = t.updates + 1 }
unfolding advanced
advances t number more grows = rw grows refl

module _ (t s : Tracked) (number : ℕ) (is : t ≡ s) where
  judges : (r : Tracked × Bool) → sequenced (update_counted t) number ≡ r → updated s number ≡ r
  judges r e = subst (λ (x : Tracked). updated x number ≡ r) is e

  pub tries : (r : Tracked × Bool) → t.probation ≢ 0 → tried (update_counted t) number ≡ r → updated s number ≡ r
  tries r some e = judges r (on_probation (update_counted t) number some ∙ e)

  pub orders : (more : ℕ) → t.probation ≡ 0 → ahead t.greatest number < 3000 → more ≡ wrapped t.greatest number
      → updated s number ≡ (record t { cycles = t.cycles + more; greatest = number; received = t.received + 1; updates = t.updates + 1 }, true)
  orders more none near grows = judges _ (ordered (update_counted t) number none near ∙ ap yes (advances t number more grows))

  pub jumps : (r : Tracked × Bool) → t.probation ≡ 0 → 3000 ≤ ahead t.greatest number → ahead t.greatest number ≤ 65436 → jumped (update_counted t) number ≡ r → updated s number ≡ r
  jumps r none above below e = judges r (far (update_counted t) number none above below ∙ e)

  pub lates : t.probation ≡ 0 → 65436 < ahead t.greatest number → updated s number ≡ (packet_counted (update_counted t), true)
  lates none behind = judges (packet_counted (update_counted t), true) (late (update_counted t) number none behind)

-- ---- a packet on probation, and a jump

other_tried : (t : Tracked) (number : ℕ) → number ≢ (t.greatest + 1) % 65536 → tried t number ≡ (record t { probation = 1; greatest = number }, false)
unfolding tried
other_tried t number other = rw (ne_eqb number ((t.greatest + 1) % 65536) other) refl

first_tried : (t : Tracked) (number : ℕ) → number ≡ (t.greatest + 1) % 65536 → t.probation ≢ 1 → tried t number ≡ (record t { probation = t.probation - 1; greatest = number }, false)
unfolding tried
first_tried t number next more = rw (eq-eqb number ((t.greatest + 1) % 65536) next, ne_eqb t.probation 1 more) refl

last_tried : (t : Tracked) (number : ℕ) → number ≡ (t.greatest + 1) % 65536 → t.probation ≡ 1 → tried t number ≡ yes_off_probation (packet_counted (restarted number t))
unfolding tried
last_tried t number next one = rw (eq-eqb number ((t.greatest + 1) % 65536) next, one) refl

jumped_once : (t : Tracked) (number next : ℕ) → number ≢ t.bad → next ≡ (number + 1) % 65536 → jumped t number ≡ (record t { bad = next }, false)
unfolding jumped
jumped_once t number next other is = rw (ne_eqb number t.bad other, is) refl

jumped_twice : (t : Tracked) (number : ℕ) → number ≡ t.bad → jumped t number ≡ yes (packet_counted (restarted number t))
unfolding jumped
jumped_twice t number same = rw (eq-eqb number t.bad same) refl

module _ (t s : Tracked) (number : ℕ) (is : t ≡ s) where
  tried_as : (r : Tracked × Bool) → tried t number ≡ r → tried s number ≡ r
  tried_as r e = subst (λ (x : Tracked). tried x number ≡ r) is e

  jumped_as : (r : Tracked × Bool) → jumped t number ≡ r → jumped s number ≡ r
  jumped_as r e = subst (λ (x : Tracked). jumped x number ≡ r) is e

  anew : (new : Tracked) → new ≡ packet_counted (restarted number s) → packet_counted (restarted number t) ≡ new
  anew new e = ap (λ (x : Tracked). packet_counted (restarted number x)) is ∙ sym e

  pub tries_other : number ≢ (t.greatest + 1) % 65536 → tried s number ≡ (record t { probation = 1; greatest = number }, false)
  tries_other other = tried_as _ (other_tried t number other)

  pub tries_first : number ≡ (t.greatest + 1) % 65536 → t.probation ≢ 1 → tried s number ≡ (record t { probation = t.probation - 1; greatest = number }, false)
  tries_first next more = tried_as _ (first_tried t number next more)

  pub tries_last : (u : Tracked) → number ≡ (t.greatest + 1) % 65536 → t.probation ≡ 1 → u ≡ packet_counted (restarted number s) → tried s number ≡ (record u { probation = 0 }, true)
  tries_last u next one e = tried_as _ (last_tried t number next one ∙ ap yes_off_probation (anew u e))

  pub jumps_once : (next : ℕ) → number ≢ t.bad → next ≡ (number + 1) % 65536 → jumped s number ≡ (record t { bad = next }, false)
  jumps_once next other e = jumped_as _ (jumped_once t number next other e)

  pub jumps_twice : (new : Tracked) → number ≡ t.bad → new ≡ packet_counted (restarted number s) → jumped s number ≡ (new, true)
  jumps_twice new same e = jumped_as _ (jumped_twice t number same ∙ ap yes (anew new e))

-- ---- each update counts

updates_if : (b : Bool) (x y : Tracked × Bool) (n : ℕ) → x.0.updates ≡ n → y.0.updates ≡ n → (if b then x else y).0.updates ≡ n
updates_if true x y n first second = first
updates_if false x y n first second = second

updates-restarted : (t : Tracked) (number : ℕ) → (restarted number t).updates ≡ t.updates
unfolding restarted
updates-restarted t number = refl

updates-advanced : (t : Tracked) (number : ℕ) → (advanced t number).updates ≡ t.updates
unfolding advanced
updates-advanced t number = refl

-- where the number is the next
abbrev second_try : Tracked → ℕ → Tracked × Bool
second_try t number =
    if t.probation == 1 then yes_off_probation (packet_counted (restarted number t))
    else (record t { probation = t.probation - 1; greatest = number }, false)

updates-tried : (t : Tracked) (number : ℕ) → (tried t number).0.updates ≡ t.updates
unfolding tried
updates-tried t number =
    updates_if (not (number == (t.greatest + 1) % 65536)) (record t { probation = 1; greatest = number }, false) (second_try t number) t.updates refl
    (updates_if (t.probation == 1) (yes_off_probation (packet_counted (restarted number t))) (record t { probation = t.probation - 1; greatest = number }, false) t.updates (updates-restarted t number) refl)

updates-jumped : (t : Tracked) (number : ℕ) → (jumped t number).0.updates ≡ t.updates
unfolding jumped
updates-jumped t number = updates_if _ _ _ t.updates (updates-restarted t number) refl

abbrev far_off : Tracked → ℕ → Tracked × Bool
far_off t number = if nat_le (ahead t.greatest number) 65436 then jumped t number else yes (packet_counted t)

abbrev off_probation : Tracked → ℕ → Tracked × Bool
off_probation t number =
    if nat_lt (ahead t.greatest number) 3000 then yes (packet_counted (advanced t number)) else far_off t number

updates-sequenced : (t : Tracked) (number : ℕ) → (sequenced t number).0.updates ≡ t.updates
unfolding sequenced
updates-sequenced t number =
    updates_if (not (t.probation == 0)) (tried t number) (off_probation t number) t.updates (updates-tried t number)
    (updates_if (nat_lt (ahead t.greatest number) 3000) (yes (packet_counted (advanced t number))) (far_off t number) t.updates (updates-advanced t number)
    (updates_if (nat_le (ahead t.greatest number) 65436) (jumped t number) (yes (packet_counted t)) t.updates (updates-jumped t number) refl))

pub counts_updates : (s new : Tracked) (number : ℕ) (counts : Bool) → updated s number ≡ (new, counts) → new.updates ≡ s.updates + 1
counts_updates s new number counts is =
    sym (ap (λ (r : Tracked × Bool). r.0.updates) is) ∙ updates-sequenced (update_counted s) number
