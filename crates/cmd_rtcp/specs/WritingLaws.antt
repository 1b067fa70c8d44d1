-- Datagrams that a scribe hears one after another. The laws of a listener cite these.
use Rattle.std.proofs.Common.{ℕ, ◌≤◌, List, [], ◌∷◌, ◌++◌, length, Option, sym, subst, arith}
use Rattle.std.proofs.Common.{append-nil, append_assoc}
use Rattle.link_hearing.specs.declared.listener.ListenerFault.{ListenerFault}
use Rattle.link_hearing.specs.declared.listener.ListenerFault.TheVariants.{NoMemory, Output}
use Rattle.link_model.specs.Output.{IsPrefixOf}
use Rattle.vc_ports.proofs.Growing.{GrewBySome-all, GrewBySome-front}
use Rattle.vc_ports.specs.Writing.{GrewBySome}
use Rattle.cmd_rtcp.specs.Due.{Due}
use Rattle.cmd_rtcp.specs.Writings.{WritingState, BreaksOff, Hears, Stumbles}

module _ {S : Type 0} (knows : S → S → List (List ℕ) → Type 0) (due : S → Due) where
  pub none_heard : (x : WritingState S) → Hears knows due x x []
  none_heard x = record {
    later = omega arith;
    since = λ first held before was. rw append-nil was;
  }

  module _ (x y z : WritingState S) (one two : List (List ℕ)) where
    pub hears_then : Hears knows due x y one → Hears knows due y z two → Hears knows due x z (one ++ two)
    hears_then p q = record {
      later = omega (arith, p.later, q.later);
      since = λ first held before was. rw (← append_assoc before one two)
          (q.since first held (before ++ one) (p.since first held before was));
    }

    stumbles_then : Hears knows due x y one → Stumbles knows due y z two
        → Stumbles knows due x z (one ++ two)
    stumbles_then p q = record {
      later = omega (arith, p.later, q.later);
      since = λ first held before was. rw (← append_assoc before one two)
          (q.since first held (before ++ one) (p.since first held before was));
    }

    pub breaks_then : (fault : ListenerFault) → Hears knows due x y one → BreaksOff knows due y z two fault
        → BreaksOff knows due x z (one ++ two) fault
    breaks_then NoMemory p q = stumbles_then p q
    breaks_then Output p q = (stumbles_then p q.0, omega (arith, p.later, q.1))

-- ---- a part of what is due

-- a part of the front is a part of the whole
pub part_of : (before after : Option (List ℕ)) (bytes front : List ℕ) → IsPrefixOf front bytes
    → GrewBySome before after front → GrewBySome before after bytes
part_of before after bytes front begins grew =
    subst (λ (l : List ℕ). GrewBySome before after l) (sym begins.1)
    (GrewBySome-front before after front begins.0 grew)

module _ {S : Type 0} (knows : S → S → List (List ℕ) → Type 0) (due : S → Due)
    (more : (first : S) (heard : List (List ℕ)) (d : List ℕ)
    → IsPrefixOf ((due first).so_far heard) ((due first).so_far (heard ++ d ∷ [])))
    (all : (first : S) (heard : List (List ℕ))
    → IsPrefixOf ((due first).so_far heard) ((due first).in_all heard)) where
  -- what is due so far is a part of all that is due with a datagram more
  pub part_of_more : (first : S) (before after : Option (List ℕ)) (ds : List (List ℕ)) (d : List ℕ)
      → GrewBySome before after ((due first).so_far ds)
      → GrewBySome before after ((due first).in_all (ds ++ d ∷ []))
  part_of_more first before after ds d grew =
      part_of before after ((due first).in_all (ds ++ d ∷ [])) ((due first).so_far (ds ++ d ∷ []))
      (all first (ds ++ d ∷ []))
      (part_of before after ((due first).so_far (ds ++ d ∷ [])) ((due first).so_far ds)
      (more first ds d) grew)

  module _ (x y : WritingState S) (given : List (List ℕ)) where
    so_far : Hears knows due x y given → Stumbles knows due x y given
    so_far p = record {
      later = p.later;
      since = λ first held before was.
          part_of held y.held ((due first).in_all (before ++ given))
          ((due first).so_far (before ++ given)) (all first (before ++ given))
          (GrewBySome-all held y.held _ (p.since first held before was).wrote);
    }

    -- it heard all but a last one, for which there was no memory
    pub all_but : (lost : List (List ℕ)) → length lost ≤ 1 → Hears knows due x y given
        → Stumbles knows due x y (given ++ lost)
    all_but [] few p = rw (append-nil given) (so_far p)
    all_but (d ∷ []) few p = record {
      later = p.later;
      since = λ first held before was. rw (← append_assoc before given (d ∷ []))
          (part_of_more first held y.held (before ++ given) d
          (GrewBySome-all held y.held _ (p.since first held before was).wrote));
    }
    all_but (d ∷ e ∷ rest) few p = absurd (omega (arith, few))
