-- What a report says: the loss, held within 24 bits, the share of an interval, and the block of both.
use Rattle.std.proofs.Common.{◌≡◌, ℕ, ◌+◌, ◌-◌, ◌%◌, ◌^◌, ℤ, refl, subst}
use Rattle.std.proofs.lemmas.Bool.{ne_eqb, eq-eqb}
use Rattle.rtcp_reports.specs.Tracks.{Tracked, loss, fraction, block_of, reported}
use Rattle.rtcp_reports.specs.declared.block.Block.{Block}

-- ---- the block

abbrev a_block : ℕ → ℕ → ℤ → ℕ → Block
a_block ssrc share lost highest = record { ssrc = ssrc; fraction = share; lost = lost; highest = highest }

pub block_is : (ssrc share greatest base : ℕ) (lost : ℤ) (t s : Tracked) → t ≡ s → greatest ≡ t.greatest → base ≡ t.base → share ≡ fraction (t.cycles + greatest + 1 - base - t.expected_prior) (t.received - t.received_prior)
    → lost ≡ loss (t.cycles + greatest + 1 - base) t.received → a_block ssrc share lost ((t.cycles + greatest) % 2 ^ 32) ≡ block_of ssrc s
unfolding block_of
block_is ssrc share greatest base lost t s is is_greatest is_base is_share is_lost =
    subst (λ (x : Tracked). a_block ssrc share lost ((t.cycles + greatest) % 2 ^ 32) ≡ block_of ssrc x) is
    (rw (is_share, is_lost, is_greatest, is_base) refl)

-- ---- what is kept behind a report

pub none_reported : (t s : Tracked) → t ≡ s → (t.probation ≡ 0 → ⊥) → s ≡ reported s
unfolding reported
none_reported t s is some =
    subst (λ (x : Tracked). x ≡ reported x) is (rw (ne_eqb t.probation 0 some) refl)

pub some_reported : (greatest base : ℕ) (t s : Tracked) → t ≡ s → t.probation ≡ 0 → greatest ≡ t.greatest → base ≡ t.base → reported s ≡ record t { expected_prior = t.cycles + greatest + 1 - base; received_prior = t.received }
unfolding reported
some_reported greatest base t s is none is_greatest is_base =
    subst (λ (x : Tracked). reported x ≡ record t { expected_prior = t.cycles + greatest + 1 - base; received_prior = t.received }) is
    (rw (eq-eqb t.probation 0 none, is_greatest, is_base) refl)
