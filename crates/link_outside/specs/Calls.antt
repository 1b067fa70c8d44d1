-- What one call of a wire makes of what it tells, and calls one after another. The laws of an outlet cite
-- these.
use Rattle.std.proofs.Common.{◌≡◌, ℕ, Bool, true, false, List, [], ◌∷◌, ◌++◌, take, drop, Option, Some, None}
use Rattle.std.proofs.Common.{refl, sym, ap, ◌∙◌, append_assoc, append-nil, take-append-drop}
use Rattle.std.proofs.Common.{◌+◌, length, length-append, subst, arith}
use Rattle.std.specs.Option.{option_map}
use Rattle.std.specs.Prelude.{IfSome, if◌then◌else◌, Result, Ok, Err}
use Rattle.std.specs.Result.{IsErr}
use Rattle.vc_ports.specs.WireCounts.{sent_one, kept_one, ended_once}
use Rattle.vc_ports.specs.Wires.{WireTold, Receives, grown, sending, keeping, ending}
use Rattle.vc_ports.specs.declared.wire_counts.WireCounts.{WireCounts}
use Rattle.vc_types.specs.declared.memory.NoMemory.{NoMemory}
use Rattle.link_outside.specs.declared.inbox.Arrived.{Arrived}
use Rattle.link_outside.specs.Passing.{Arrives, Counted, Passes, grown_by, led_by, looped_back}
use Rattle.std.proofs.lemmas.Bool.{false≢true}

abbrev Lists : Type 0
Lists = List (List ℕ)

abbrev Told : Type 0
Told = Option Lists

-- ---- lists that are told

grown-none : (list : Told) → list ≡ grown_by list []
grown-none None = refl
grown-none (Some all) = ap Some (sym (append-nil all))

grown-twice : (list : Told) (a b : Lists) → grown_by (grown_by list a) b ≡ grown_by list (a ++ b)
grown-twice None a b = refl
grown-twice (Some all) a b = ap Some (append_assoc all a b)

led-twice : (list : Told) (a b : Lists) → led_by a (led_by b list) ≡ led_by (a ++ b) list
led-twice None a b = refl
led-twice (Some rest) a b = ap Some (sym (append_assoc a b rest))

led-then-grown : (list : Told) (a b : Lists) → grown_by (led_by a list) b ≡ led_by a (grown_by list b)
led-then-grown None a b = refl
led-then-grown (Some rest) a b = ap Some (append_assoc a rest b)

led-none : (list : Told) → led_by [] list ≡ list
led-none None = refl
led-none (Some rest) = refl

pub looped-none : (looped : Bool) → looped_back looped [] ≡ []
looped-none true = refl
looped-none false = refl

looped-append : (looped : Bool) (a b : Lists)
    → looped_back looped (a ++ b) ≡ looped_back looped a ++ looped_back looped b
looped-append true a b = refl
looped-append false a b = refl

-- ---- what is counted

counted_none : (counts : WireCounts) → Counted 0 counts counts
counted_none counts = record {
  sent = record { least = omega arith; most = omega arith };
  idle_stays = refl;
  kept_later = omega arith;
  ends_later = omega arith;
}

counted_sent : (counts : WireCounts) → Counted 1 counts (sent_one counts)
counted_sent counts = record {
  sent = record { least = omega arith; most = omega arith };
  idle_stays = refl;
  kept_later = omega arith;
  ends_later = omega arith;
}

counted_kept : (counts : WireCounts) → Counted 0 counts (kept_one counts)
counted_kept counts = record {
  sent = record { least = omega arith; most = omega arith };
  idle_stays = refl;
  kept_later = omega arith;
  ends_later = omega arith;
}

counted_end : (counts : WireCounts) → Counted 0 counts (ended_once counts)
counted_end counts = record {
  sent = record { least = omega arith; most = omega arith };
  idle_stays = refl;
  kept_later = omega arith;
  ends_later = omega arith;
}

counted_then : (a b c : WireCounts) (sends more all : ℕ) → Counted sends a b → Counted more b c
    → all ≡ sends + more → Counted all a c
counted_then a b c sends more all p q sum = record {
  sent = record {
    least = omega (arith, p.sent.least, q.sent.least, sum);
    most = omega (arith, p.sent.most, q.sent.most, sum);
  };
  idle_stays = q.idle_stays ∙ p.idle_stays;
  kept_later = omega (arith, p.kept_later, q.kept_later);
  ends_later = omega (arith, p.ends_later, q.ends_later);
}

-- ---- no call, and those by which no datagram passes

passes_nothing : (told : WireTold) (counts : WireCounts) → Counted 0 told.counts counts
    → Passes told (record told { counts = counts }) [] []
passes_nothing told counts counted = record {
  sent_grew = grown-none told.sent;
  given_grew = grown-none told.given;
  came = ap (grown_by told.coming) (looped-none told.looped)
      ∙ sym (grown-none told.coming) ∙ sym (led-none told.coming);
  at_stays = refl;
  to_stays = refl;
  looped_stays = refl;
  listens_stays = refl;
  aimed_stays = refl;
  counted = counted;
}

pub passes_none : (told : WireTold) → Passes told told [] []
passes_none told = passes_nothing told told.counts (counted_none told.counts)

-- it was told that a datagram was kept
pub passes_kept : (before after : WireTold) → after ≡ keeping before → Passes before after [] []
passes_kept before after is = rw is (passes_nothing before _ (counted_kept before.counts))

-- it said that nothing more will come
pub passes_end : (before after : WireTold) → after ≡ ending before → Passes before after [] []
passes_end before after is = rw is (passes_nothing before _ (counted_end before.counts))

-- ---- one call

pub passes_sent : (before after : WireTold) (datagram : List ℕ) → after ≡ sending before datagram
    → Passes before after (datagram ∷ []) []
passes_sent before after datagram is = rw is (record {
  sent_grew = refl;
  given_grew = grown-none before.given;
  came = by_loop before.looped before.coming ∙ sym (led-none _);
  at_stays = refl;
  to_stays = refl;
  looped_stays = refl;
  listens_stays = refl;
  aimed_stays = refl;
  counted = counted_sent before.counts;
})
  where
    by_loop : (looped : Bool) (coming : Told) → grown_by coming (looped_back looped (datagram ∷ []))
        ≡ (if looped then grown coming datagram else coming)
    by_loop true coming = refl
    by_loop false coming = sym (grown-none coming)

first_of : (datagram : List ℕ) (coming : Told) → IfSome coming (λ all. take 1 all ≡ datagram ∷ [])
    → coming ≡ led_by (datagram ∷ []) (option_map (drop 1) coming)
first_of datagram None first = refl
first_of datagram (Some all) first =
    ap Some (sym (take-append-drop 1 all) ∙ ap (λ (l : Lists). l ++ drop 1 all) first)

pub passes_given : (before after : WireTold) (datagram : List ℕ) → Receives before after datagram
    → Passes before after [] (datagram ∷ [])
passes_given before after datagram received = rw received.told (record {
  sent_grew = grown-none before.sent;
  given_grew = refl;
  came = ap (grown_by before.coming) (looped-none before.looped)
      ∙ sym (grown-none before.coming) ∙ first_of datagram before.coming received.first;
  at_stays = refl;
  to_stays = refl;
  looped_stays = refl;
  listens_stays = refl;
  aimed_stays = refl;
  counted = counted_none before.counts;
})

-- a datagram for which there was no memory
pub lost : (before after : WireTold) (datagram : List ℕ) (answer : Result Arrived NoMemory) → IsErr answer
    → Receives before after datagram → Arrives before after answer
lost before after datagram (Ok arrived) failed received = absurd (false≢true failed)
lost before after datagram (Err no_memory) failed received =
    (datagram, passes_given before after datagram received)

-- ---- calls one after another

pub passes_then : (before mid after : WireTold) (sent given more_sent more_given : Lists)
    → Passes before mid sent given → Passes mid after more_sent more_given
    → Passes before after (sent ++ more_sent) (given ++ more_given)
passes_then before mid after sent given more_sent more_given first second = record {
  sent_grew = second.sent_grew ∙ ap (λ (l : Told). grown_by l more_sent) first.sent_grew
      ∙ grown-twice before.sent sent more_sent;
  given_grew = second.given_grew ∙ ap (λ (l : Told). grown_by l more_given) first.given_grew
      ∙ grown-twice before.given given more_given;
  came =
      ap (grown_by before.coming) (looped-append before.looped sent more_sent)
      ∙ sym (grown-twice before.coming (looped_back before.looped sent) (looped_back before.looped more_sent))
      ∙ ap (λ (l : Told). grown_by l (looped_back before.looped more_sent)) first.came
      ∙ led-then-grown mid.coming given (looped_back before.looped more_sent)
      ∙ ap (λ (b : Bool). led_by given (grown_by mid.coming (looped_back b more_sent)))
      (sym first.looped_stays)
      ∙ ap (led_by given) second.came
      ∙ led-twice after.coming given more_given;
  at_stays = second.at_stays ∙ first.at_stays;
  to_stays = second.to_stays ∙ first.to_stays;
  looped_stays = second.looped_stays ∙ first.looped_stays;
  listens_stays = second.listens_stays ∙ first.listens_stays;
  aimed_stays = second.aimed_stays ∙ first.aimed_stays;
  counted = counted_then _ _ _ (length sent) (length more_sent) _ first.counted second.counted
      (length-append sent more_sent);
}

-- and then calls by which no datagram passes
pub passes_on : (before mid after : WireTold) (sent given : Lists) → Passes before mid sent given
    → Passes mid after [] [] → Passes before after sent given
passes_on before mid after sent given first second =
    subst (λ (l : Lists). Passes before after l given) (append-nil sent)
    (subst (λ (l : Lists). Passes before after (sent ++ []) l) (append-nil given)
    (passes_then before mid after sent given [] [] first second))
