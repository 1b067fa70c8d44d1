-- Entries that are written one after another. The laws of an outlet cite these.
use Rattle.std.proofs.Common.{◌≡◌, ◌≤◌, ℕ, List, [], ◌∷◌, ◌++◌, Option, refl, sym, ap, subst, arith}
use Rattle.std.proofs.Common.{◌∙◌, append-nil, append_assoc, take}
use Rattle.std.proofs.lemmas.List.Concat.{flat_map-cons, flat_map-append}
use Rattle.link_capture.specs.Buffering.{Buffers}
use Rattle.link_capture.specs.Capture.{entry}
use Rattle.vc_ports.specs.Changes.{OutputChange}
use Rattle.vc_ports.specs.Faults.{counted}
use Rattle.vc_ports.specs.Writing.{Grew, GrewBySome}
use Rattle.vc_ports.proofs.Growing.{Grew-none, Grew-then, GrewBySome-then, GrewBySome-front}
use Rattle.link_outside.specs.declared.outlet.OutletFault.{OutletFault}
use Rattle.link_outside.specs.declared.outlet.OutletFault.TheVariants.{Output}
use Rattle.link_outside.specs.Outlets.{KeptEntries, WroteEntries, WrotePartOfEntries, capture_of}

-- an output that held so much, and had counted so many faults, before and after
abbrev held_between : (before after : Option (List ℕ)) → (first last : ℕ) → OutputChange
held_between before after first last =
    record {
      held = record { before = before; after = after };
      faults = record { before = first; after = last };
    }

pub capture-append : (first second : List (List ℕ))
    → capture_of (first ++ second) ≡ capture_of first ++ capture_of second
capture-append first second = flat_map-append entry first second

-- one entry
pub capture-one : (datagram : List ℕ) → capture_of (datagram ∷ []) ≡ entry datagram
capture-one datagram = flat_map-cons entry datagram [] ∙ append-nil (entry datagram)

both : (first second : List (List ℕ))
    → capture_of first ++ capture_of second ≡ capture_of (first ++ second)
both first second = sym (capture-append first second)

pub none_written : (held : Option (List ℕ)) (faults : ℕ)
    → WroteEntries (held_between held held faults faults) []
none_written held faults = record { wrote = Grew-none held; later = omega arith }

module _ (a b c : Option (List ℕ)) (i j k : ℕ) (first second : List (List ℕ)) where
  pub more_written : WroteEntries (held_between a b i j) first
      → WroteEntries (held_between b c j k) second
      → WroteEntries (held_between a c i k) (first ++ second)
  more_written p q = record {
    wrote = subst (Grew a c) (both first second)
        (Grew-then a b c (capture_of first) (capture_of second) p.wrote q.wrote);
    later = omega (arith, p.later, q.later);
  }

  pub part_behind : (fault : OutletFault) → WroteEntries (held_between a b i j) first
      → WrotePartOfEntries (held_between b c j k) second fault
      → WrotePartOfEntries (held_between a c i k) (first ++ second) fault
  part_behind fault p q = record {
    fault_is = q.fault_is;
    wrote = subst (GrewBySome a c) (both first second)
        (GrewBySome-then a b c (capture_of first) (capture_of second) p.wrote q.wrote);
    rose = omega (arith, p.later, q.rose);
  }

pub wrote_part_before : (a b : Option (List ℕ)) (i j : ℕ) (first second : List (List ℕ))
    (fault : OutletFault) → WrotePartOfEntries (held_between a b i j) first fault
    → WrotePartOfEntries (held_between a b i j) (first ++ second) fault
wrote_part_before a b i j first second fault p = record {
  fault_is = p.fault_is;
  wrote = subst (GrewBySome a b) (both first second)
      (GrewBySome-front a b (capture_of first) (capture_of second) p.wrote);
  rose = p.rose;
}

-- ---- entries that are kept

pub none_kept : (held : Option (List ℕ)) (faults len : ℕ) (bytes : List ℕ) → len ≡ 0
    → KeptEntries (held_between held held faults faults) (take len bytes) []
none_kept held faults len bytes none = record {
  gone = [];
  wrote = Grew-none held;
  all = ap (λ (n : ℕ). take n bytes) (sym none);
  later = omega arith;
}

module _ (a b c : Option (List ℕ)) (i j k : ℕ) (old : List ℕ) (before : List (List ℕ))
    (took : KeptEntries (held_between a b i j) old before) where
  -- one more
  pub one_kept : (new datagram : List ℕ) → Buffers b c old new (entry datagram) → j ≤ k
      → KeptEntries (held_between a c i k) new (before ++ datagram ∷ [])
  one_kept new datagram buffers later = record {
    gone = took.gone ++ buffers.gone;
    wrote = Grew-then a b c took.gone buffers.gone took.wrote buffers.grew;
    all =
        capture-append before (datagram ∷ [])
        ∙ ap (λ (l : List ℕ). capture_of before ++ l) (capture-one datagram)
        ∙ ap (λ (l : List ℕ). l ++ entry datagram) took.all
        ∙ append_assoc took.gone old (entry datagram)
        ∙ ap (λ (l : List ℕ). took.gone ++ l) buffers.kept
        ∙ sym (append_assoc took.gone buffers.gone new);
    later = omega (arith, took.later, later);
  }

  -- all went out
  pub all_flushed : Grew b c old → j ≤ k → WroteEntries (held_between a c i k) before
  all_flushed grew later = record {
    wrote = subst (Grew a c) (sym took.all) (Grew-then a b c took.gone old took.wrote grew);
    later = omega (arith, took.later, later);
  }

  -- a part went out
  pub part_flushed : GrewBySome b c old → counted j ≤ k
      → WrotePartOfEntries (held_between a c i k) before Output
  part_flushed some rose = record {
    fault_is = refl;
    wrote = subst (GrewBySome a c) (sym took.all) (GrewBySome-then a b c took.gone old took.wrote some);
    rose = omega (arith, took.later, rose);
  }
