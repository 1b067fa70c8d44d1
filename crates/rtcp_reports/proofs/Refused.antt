-- When a compound packet has each refusal.
use Rattle.std.proofs.Common.{◌≡◌, ◌≢◌, ◌↔◌, ◌⊎◌, inl, inr, ℕ, zero, suc, ◌<◌, ◌≤◌, Bool, true, false, not, nat_lt, IsFalse, List, length, drop, Option, Some, None, Result, Ok, Err, refl, if◌then◌else◌, ◌==◌}
use Rattle.std.proofs.lemmas.Bool.{ltb-true, ltb-false, eqb-true, eqb-false, not-true, not-false}
use Rattle.link_model.specs.Packets.{version}
use Rattle.vc_types.specs.Fields.{and_then}
use Rattle.rtcp_reports.specs.Rtcp.{packet_size, whole_packet, refusal_behind, packets_refusal, refusal_in, is_report, report_room, report_size, report_view, unless, compound, IsRefusedLater}
use Rattle.rtcp_reports.proofs.Compounds.{refused_first, refused_later}
use Rattle.rtcp_reports.proofs.Packets.{report_short, report_other, report_none}
use Rattle.rtcp_reports.proofs.Testing.{refusing}
use Rattle.rtcp_reports.specs.declared.block.CompoundView.{CompoundView}
use Rattle.rtcp_reports.specs.declared.refusal.RtcpRefusal.{RtcpRefusal}
use Rattle.rtcp_reports.specs.declared.refusal.RtcpRefusal.TheVariants.{Short, Length, Version, First}

-- ---- which packet is refused

later_refusal : (o : Option RtcpRefusal) (view : CompoundView) (refusal : RtcpRefusal) → unless o view ≡ Err refusal → o ≡ Some refusal
later_refusal None view refusal is = cc
later_refusal (Some other) view refusal is = cc

one_refusal : (first : Result ℕ RtcpRefusal) (later : ℕ → Option RtcpRefusal) (view : CompoundView) (refusal : RtcpRefusal) → and_then first (λ size. unless (later size) view) ≡ Err refusal
    → (first ≡ Err refusal) ⊎ ((size : ℕ) × (first ≡ Ok size) × (later size ≡ Some refusal))
one_refusal (Err other) later view refusal is = inl (cc)
one_refusal (Ok size) later view refusal is = inr (size, refl, later_refusal (later size) view refusal is)

refused_by : (bytes : List ℕ) (refusal : RtcpRefusal) → compound bytes ≡ Err refusal → (report_size bytes ≡ Err refusal) ⊎ IsRefusedLater bytes refusal
unfolding compound
refused_by bytes refusal is = elim (one_refusal (report_size bytes) (λ size. refusal_in (drop size bytes)) (report_view bytes) refusal is) [
  | inl first ↦ inl first
  | inr later ↦ inr (record { size = later.0; first = later.1; later = later.2 })
]

refused : (bytes : List ℕ) (refusal : RtcpRefusal) → (report_size bytes ≡ Err refusal) ⊎ IsRefusedLater bytes refusal → compound bytes ≡ Err refusal
refused bytes refusal (inl first) = refused_first bytes refusal first
refused bytes refusal (inr later) = refused_later bytes later.size refusal later.first later.later

-- ---- what no later packet is refused for

behind_other : (x : Result ℕ RtcpRefusal) (behind : ℕ → Option RtcpRefusal) (refusal : RtcpRefusal) → (x ≡ Err refusal → ⊥) → ((size : ℕ) → behind size ≡ Some refusal → ⊥) → refusal_behind x behind ≡ Some refusal → ⊥
behind_other (Ok size) behind refusal here later is = later size is
behind_other (Err other) behind refusal here later is = here (cc)

unless_empty : (b : Bool) (o : Option RtcpRefusal) (refusal : RtcpRefusal) → (o ≡ Some refusal → ⊥) → (if b then None else o) ≡ Some refusal → ⊥
unless_empty true o refusal never is = cc
unless_empty false o refusal never is = never is

no_packet : (refusal : RtcpRefusal) → ((bytes : List ℕ) → whole_packet bytes ≡ Err refusal → ⊥) → (n : ℕ) (bytes : List ℕ) → packets_refusal n bytes ≡ Some refusal → ⊥
unfolding packets_refusal
no_packet refusal never zero bytes is = cc
no_packet refusal never (suc n) bytes is =
    unless_empty (length bytes == 0) (refusal_behind (whole_packet bytes) (λ size. packets_refusal n (drop size bytes))) refusal
    (behind_other (whole_packet bytes) (λ size. packets_refusal n (drop size bytes)) refusal (never bytes) (λ size. no_packet refusal never n (drop size bytes))) is

-- the tests of a packet behind the first, and behind the second
abbrev behind_version : List ℕ → Result ℕ RtcpRefusal
behind_version bytes = if nat_lt (length bytes) (packet_size bytes) then Err Length else Ok (packet_size bytes)

abbrev behind_length : List ℕ → Result ℕ RtcpRefusal
behind_length bytes = if not (version bytes == 2) then Err Version else behind_version bytes

packet_refusals : (bytes : List ℕ) (refusal : RtcpRefusal) → whole_packet bytes ≡ Err refusal → (refusal ≡ Length) ⊎ (refusal ≡ Version)
unfolding whole_packet
packet_refusals bytes refusal is = elim (refusing (nat_lt (length bytes) 4) (behind_length bytes) Length refusal is) [
  | inl short ↦ inl short.1
  | inr long ↦ elim (refusing (not (version bytes == 2)) (behind_version bytes) Version refusal long.1) [
    | inl other ↦ inr other.1
    | inr same ↦ elim (refusing (nat_lt (length bytes) (packet_size bytes)) (Ok (packet_size bytes)) Length refusal same.1) [
      | inl passes ↦ inl passes.1
      | inr whole ↦ absurd (let never = whole.1 in cc)
    ]
  ]
]

never_short : (bytes : List ℕ) → whole_packet bytes ≡ Err Short → ⊥
never_short bytes is = elim (packet_refusals bytes Short is) [ inl never ↦ cc | inr never ↦ cc ]

never_first : (bytes : List ℕ) → whole_packet bytes ≡ Err First → ⊥
never_first bytes is = elim (packet_refusals bytes First is) [ inl never ↦ cc | inr never ↦ cc ]

only_first : (bytes : List ℕ) (refusal : RtcpRefusal) → ((bytes : List ℕ) → whole_packet bytes ≡ Err refusal → ⊥) → compound bytes ≡ Err refusal → report_size bytes ≡ Err refusal
only_first bytes refusal never is = elim (refused_by bytes refusal is) [
  | inl first ↦ first
  | inr later ↦ absurd (no_packet refusal never (length (drop later.size bytes)) (drop later.size bytes) later.later)
]

-- ---- the first packet

-- the tests behind those of the length, of the version and of the type
abbrev behind_report : List ℕ → Result ℕ RtcpRefusal
behind_report bytes =
    if nat_lt (length bytes) (packet_size bytes) then Err Length
    else (if nat_lt (packet_size bytes) (report_room bytes) then Err Length else Ok (packet_size bytes))

abbrev behind_two : List ℕ → Result ℕ RtcpRefusal
behind_two bytes = if not (is_report bytes) then Err First else behind_report bytes

abbrev behind_eight : List ℕ → Result ℕ RtcpRefusal
behind_eight bytes = if not (version bytes == 2) then Err Version else behind_two bytes

-- which test of the first packet a refusal is of
data Refuses (bytes : List ℕ) (refusal : RtcpRefusal) : Type 0 where
  AsShort : length bytes < 8 → refusal ≡ Short → Refuses bytes refusal
  AsVersion : 8 ≤ length bytes → version bytes ≢ 2 → refusal ≡ Version → Refuses bytes refusal
  AsFirst : 8 ≤ length bytes → version bytes ≡ 2 → is_report bytes ≡ false → refusal ≡ First → Refuses bytes refusal
  AsLength : refusal ≡ Length → Refuses bytes refusal

length_refuses : (bytes : List ℕ) (refusal : RtcpRefusal) → behind_report bytes ≡ Err refusal → refusal ≡ Length
length_refuses bytes refusal is = elim (refusing (nat_lt (length bytes) (packet_size bytes)) (if nat_lt (packet_size bytes) (report_room bytes) then Err Length else Ok (packet_size bytes)) Length refusal is) [
  | inl passes ↦ passes.1
  | inr whole ↦ elim (refusing (nat_lt (packet_size bytes) (report_room bytes)) (Ok (packet_size bytes)) Length refusal whole.1) [
    | inl few ↦ few.1
    | inr room ↦ absurd (let never = room.1 in cc)
  ]
]

refuses : (bytes : List ℕ) (refusal : RtcpRefusal) → report_size bytes ≡ Err refusal → Refuses bytes refusal
unfolding report_size
refuses bytes refusal is = elim (refusing (nat_lt (length bytes) 8) (behind_eight bytes) Short refusal is) [
  | inl short ↦ AsShort (ltb-true (length bytes) 8 short.0) short.1
  | inr long ↦
      let eight : 8 ≤ length bytes = ltb-false (length bytes) 8 long.0 in
      elim (refusing (not (version bytes == 2)) (behind_two bytes) Version refusal long.1) [
        | inl other ↦ AsVersion eight (eqb-false (version bytes) 2 (not-true (version bytes == 2) other.0)) other.1
        | inr same ↦
            let two : version bytes ≡ 2 = eqb-true (version bytes) 2 (not-false (version bytes == 2) same.0) in
            elim (refusing (not (is_report bytes)) (behind_report bytes) First refusal same.1) [
              | inl none ↦ AsFirst eight two (not-true (is_report bytes) none.0) none.1
              | inr some ↦ AsLength (length_refuses bytes refusal some.1)
            ]
      ]
]

short_means : (bytes : List ℕ) → report_size bytes ≡ Err Short → length bytes < 8
short_means bytes is = elim (refuses bytes Short is) [
  | AsShort few as_it ↦ few
  | AsVersion long other never ↦ absurd (cc)
  | AsFirst long two none never ↦ absurd (cc)
  | AsLength never ↦ absurd (cc)
]

version_means : (bytes : List ℕ) → report_size bytes ≡ Err Version → (8 ≤ length bytes) × (version bytes ≢ 2)
version_means bytes is = elim (refuses bytes Version is) [
  | AsShort few never ↦ absurd (cc)
  | AsVersion long other as_it ↦ (long, other)
  | AsFirst long two none never ↦ absurd (cc)
  | AsLength never ↦ absurd (cc)
]

first_means : (bytes : List ℕ) → report_size bytes ≡ Err First → (8 ≤ length bytes) × (version bytes ≡ 2) × IsFalse (is_report bytes)
first_means bytes is = elim (refuses bytes First is) [
  | AsShort few never ↦ absurd (cc)
  | AsVersion long other never ↦ absurd (cc)
  | AsFirst long two none as_it ↦ (long, two, none)
  | AsLength never ↦ absurd (cc)
]

-- ---- each refusal

pub short_exactly : (bytes : List ℕ) → (compound bytes ≡ Err Short) ↔ (length bytes < 8)
short_exactly bytes = (λ is. short_means bytes (only_first bytes Short never_short is), λ h. refused_first bytes Short (report_short bytes h))

pub version_exactly : (bytes : List ℕ) → (compound bytes ≡ Err Version) ↔ (((8 ≤ length bytes) × (version bytes ≢ 2)) ⊎ IsRefusedLater bytes Version)
version_exactly bytes = (
  λ is. elim (refused_by bytes Version is) [
    | inl first ↦ inl (version_means bytes first)
    | inr later ↦ inr later
  ],
  λ is. elim is [
    | inl first ↦ refused_first bytes Version (report_other bytes first.0 first.1)
    | inr later ↦ refused_later bytes later.size Version later.first later.later
  ],
)

pub first_exactly : (bytes : List ℕ) → (compound bytes ≡ Err First) ↔ ((8 ≤ length bytes) × (version bytes ≡ 2) × IsFalse (is_report bytes))
first_exactly bytes = (
  λ is. first_means bytes (only_first bytes First never_first is),
  λ h. refused_first bytes First (report_none bytes h.0 h.1 h.2),
)

pub length_exactly : (bytes : List ℕ) → (compound bytes ≡ Err Length) ↔ ((report_size bytes ≡ Err Length) ⊎ IsRefusedLater bytes Length)
length_exactly bytes = (refused_by bytes Length, refused bytes Length)
