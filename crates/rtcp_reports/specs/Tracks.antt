-- The sequence numbers of one source's packets, and what a report says of them (RFC 3550, A.1 and A.3).
use Rattle.std.specs.Prelude.{ℕ, ◌+◌, ◌-◌, ◌*◌, ◌/◌, ◌%◌, ◌^◌, ◌<◌, max, Bool, true, false}
use Rattle.std.specs.Prelude.{not, ◌||◌, ◌==◌, nat_lt, nat_le, if◌then◌else◌, ℤ, pos, neg_ℤ, ◌-ℤ◌}
use Rattle.std.specs.Prelude.{List, [], ◌∷◌, fold}
use Rattle.std.specs.Int.{int_max, int_min}
use Rattle.rtcp_reports.specs.declared.block.Block.{Block}

-- ==== what is kept

-- The variables of A.1 by its names: base_seq, max_seq and bad_seq, the cycles, 65,536 for each time that
-- the numbers wrapped, how many packets in sequence are still wanted, how many packets count, and what was
-- expected and had come at the report before. Beside them, how many packets were met.
pub record Tracked : Type 0 where
  pub base : ℕ
  pub greatest : ℕ
  pub bad : ℕ
  pub cycles : ℕ
  pub probation : ℕ
  pub received : ℕ
  pub expected_prior : ℕ
  pub received_prior : ℕ
  pub updates : ℕ

-- before the first packet, which has this number
unfoldable pub fresh : ℕ → Tracked
fresh number = record {
  base = number;
  greatest = (number + 65535) % 65536;
  bad = 65537;
  cycles = 0;
  probation = 2;
  received = 0;
  expected_prior = 0;
  received_prior = 0;
  updates = 0;
}

-- ==== one packet more (A.1)

-- counting begins anew at a number (init_seq); what is bad then is no number
unfoldable pub restarted : ℕ → Tracked → Tracked
restarted number t = record t {
  base = number;
  greatest = number;
  bad = 65537;
  cycles = 0;
  received = 0;
  expected_prior = 0;
  received_prior = 0;
}

-- the packet counts
abbrev pub packet_counted : Tracked → Tracked
packet_counted t = record t { received = t.received + 1 }

-- how far a number is above another, modulo 65,536
abbrev pub ahead : ℕ → ℕ → ℕ
ahead greatest number = (number + 65536 - greatest) % 65536

-- what the cycles grow by from one number to another that is ahead of it
abbrev pub wrapped : ℕ → ℕ → ℕ
wrapped greatest number = if nat_lt number greatest then 65536 else 0

-- A source on probation: of the packets in sequence that are wanted, this is one, and perhaps the last, or
-- it is the first of others.
unfoldable pub tried : Tracked → ℕ → Tracked × Bool
tried t number =
    if not (number == (t.greatest + 1) % 65536) then (record t { probation = 1; greatest = number }, false)
    else (if t.probation == 1 then (packet_counted (record (restarted number t) { probation = 0 }), true)
    else (record t { probation = t.probation - 1; greatest = number }, false))

-- in order, with a permissible gap
unfoldable pub advanced : Tracked → ℕ → Tracked
advanced t number = record t {
  cycles = t.cycles + wrapped t.greatest number;
  greatest = number;
}

-- a very large jump: two packets in sequence make a restart, and one is bad
unfoldable pub jumped : Tracked → ℕ → Tracked × Bool
jumped t number =
    if number == t.bad then (packet_counted (restarted number t), true)
    else (record t { bad = (number + 1) % 65536 }, false)

-- what is kept behind a packet, and whether it counts (update_seq): a number less than 3,000 (MAX_DROPOUT)
-- ahead is in order, one up to 65,436, 100 (MAX_MISORDER) behind, is a jump, and any other is a duplicate,
-- or late
unfoldable pub sequenced : Tracked → ℕ → Tracked × Bool
sequenced t number =
    if not (t.probation == 0) then tried t number
    else (if nat_lt (ahead t.greatest number) 3000 then (packet_counted (advanced t number), true)
    else (if nat_le (ahead t.greatest number) 65436 then jumped t number
    else (packet_counted t, true)))

abbrev pub update_counted : Tracked → Tracked
update_counted t = record t { updates = t.updates + 1 }

abbrev pub updated : Tracked → ℕ → Tracked × Bool
updated t number = sequenced (update_counted t) number

-- ==== what a report says (A.3)

-- the highest number that came, and how often the numbers wrapped above it
abbrev pub extended : Tracked → ℕ
extended t = t.cycles + t.greatest

-- how many packets were expected
abbrev pub expected : Tracked → ℕ
expected t = extended t + 1 - t.base

-- how many were lost of those that were due, held within 24 bits
abbrev pub loss : ℕ → ℕ → ℤ
loss due came = int_max (neg_ℤ (pos 8388608)) (int_min (pos due -ℤ pos came) (pos 8388607))

-- how many were lost so far: none of a source on probation
abbrev pub lost_of : Tracked → ℤ
lost_of t = if t.probation == 0 then loss (expected t) t.received else pos 0

-- the share of an interval's packets that was lost, in 256ths
abbrev pub fraction : ℕ → ℕ → ℕ
fraction due came =
    if due == 0 || nat_le due came then 0 else 256 * (due - came) / due

-- what is said of a source that isn't on probation
unfoldable pub block_of : ℕ → Tracked → Block
block_of ssrc t = record {
  ssrc = ssrc;
  fraction = fraction (expected t - t.expected_prior) (t.received - t.received_prior);
  lost = loss (expected t) t.received;
  highest = extended t % 2 ^ 32;
}

-- what is kept behind a report
unfoldable pub reported : Tracked → Tracked
reported t =
    if t.probation == 0 then record t { expected_prior = expected t; received_prior = t.received } else t

-- ==== the law

-- numbers one after another, each less than 100 below the greatest of those before it, or less than 3,000
-- above
abbrev pub Arrive : ℕ → List ℕ → Type 0
Arrive greatest [] = Unit {0}
Arrive greatest (number ∷ numbers) =
    (greatest < number + 100) × (number < greatest + 3000) × Arrive (max greatest number) numbers

-- a packet has the number's remainder modulo 65,536
abbrev pub tracked_on : Tracked → List ℕ → Tracked
tracked_on t numbers = fold (λ t number. (updated t (number % 65536)).0) t numbers

-- a source whose first packet has this number, and the packets behind it
abbrev pub tracked_from : ℕ → List ℕ → Tracked
tracked_from first numbers = tracked_on (fresh (first % 65536)) (first ∷ numbers)

abbrev pub highest_of : ℕ → List ℕ → ℕ
highest_of greatest numbers = fold max greatest numbers
