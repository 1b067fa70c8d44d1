-- What a loop that records knows after each datagram, and where it ends.
use Rattle.std.proofs.Common.{◌≡◌, ℕ, ◌+◌, ◌<◌, ◌≤◌, List, [], ◌∷◌, ◌++◌, length, take, Option, Some, Ok, Err, refl, sym, subst, ◌∙◌, arith, inl, inr, length-append}
use Rattle.std.specs.Prelude.{◌⊎◌}
use Rattle.std.proofs.Math.Seq.{take-append_seam}
use Rattle.std.proofs.lemmas.Bool.{cases_lt}
use Rattle.std.proofs.lemmas.List.{take-append-le}
use Rattle.link_capture.specs.Capture.{entry}
use Rattle.link_hearing.specs.Sessions.{ended_sessions}
use Rattle.link_outside.specs.Calls.{passes_end, passes_given, passes_kept, passes_none, passes_on, passes_then}
use Rattle.link_outside.specs.CaptureLaws.{capture-append, capture-one}
use Rattle.link_outside.specs.Outlets.{capture_of}
use Rattle.link_outside.specs.Passing.{Passes}
use Rattle.link_report.specs.declared.ending.Ending.TheVariants.{OutputFailed, PacketLimit, WireFailed}
use Rattle.vc_ports.proofs.Growing.{Grew-none, Grew-then, GrewBySome-then}
use Rattle.vc_ports.specs.Changes.{OutputChange, WireChange, Wrote}
use Rattle.vc_ports.specs.Faults.{Rose, counted}
use Rattle.vc_ports.specs.Wires.{WireTold, IsOver, Receives, ending, keeping}
use Rattle.vc_ports.specs.Writing.{Grew, GrewBySome}
use Rattle.cmd_record.specs.Recorders.{HasCounted, RecordsEach, WereKept}
use Rattle.cmd_record.specs.Watching.{Watches}
use Rattle.cmd_record.specs.declared.recorder.Recorder.{Recorder}

abbrev pub told_between : (before after : WireTold) → (first last : ℕ) → WireChange
told_between before after first last = record {
  told = record { before = before; after = after };
  faults = record { before = first; after = last };
}

abbrev pub held_between : (before after : Option (List ℕ)) → (first last : ℕ) → OutputChange
held_between before after first last = record {
  held = record { before = before; after = after };
  faults = record { before = first; after = last };
}

-- so many were recorded, each while sessions were still to end
pub record IsAt
    (sessions number : ℕ) (r : Recorder) (wire : WireChange) (output : OutputChange) (heard : List (List ℕ)) : Type 0 where
  pub number_is : length heard ≡ number
  pub counted : HasCounted r sessions heard
  pub wanted : (k : ℕ) → k < length heard → ended_sessions (take k heard) < sessions
  pub gave : Passes wire.told.before wire.told.after [] heard
  pub wire_later : wire.faults.before ≤ wire.faults.after
  pub kept : WereKept wire heard
  pub wrote : Wrote output (capture_of heard)
  pub output_later : output.faults.before ≤ output.faults.after

pub at_first : (r : Recorder) (told : WireTold) (i : ℕ) (held : Option (List ℕ)) (p : ℕ) → HasCounted r r.sessions []
    → IsAt r.sessions 0 r (told_between told told i i) (held_between held held p p) []
at_first r told i held p counted = record {
  number_is = refl;
  counted = counted;
  wanted = λ k less. absurd (omega (arith, less));
  gave = passes_none told;
  wire_later = omega arith;
  kept = record { least = omega arith; most = omega arith };
  wrote = Grew-none held;
  output_later = omega arith;
}

wanted_more : (sessions : ℕ) (heard : List (List ℕ)) (d : List ℕ) → ((k : ℕ) → k < length heard → ended_sessions (take k heard) < sessions)
    → ended_sessions heard < sessions → (k : ℕ) → k < length (heard ++ d ∷ []) → ended_sessions (take k (heard ++ d ∷ [])) < sessions
wanted_more sessions heard d was now k less = by_place (cases_lt k (length heard))
  where
    by_place : (k < length heard) ⊎ (length heard ≤ k) → ended_sessions (take k (heard ++ d ∷ [])) < sessions
    by_place (inl sooner) = rw (take-append-le k heard (d ∷ []) (omega (arith, sooner))) (was k sooner)
    by_place (inr later) =
        let is : length heard ≡ k = omega (arith, later, less, length-append heard (d ∷ [])) in
        subst (λ (n : ℕ). ended_sessions (take n (heard ++ d ∷ [])) < sessions) is (rw take-append_seam now)

-- fewer sessions have ended than are to end
still_open : (sessions : ℕ) (r : Recorder) (heard : List (List ℕ)) → HasCounted r sessions heard → 0 < r.watch.left
    → ended_sessions heard < sessions
still_open sessions r heard counted some = omega (arith, counted.watches.left_are, some)

module _ (sessions number : ℕ) (a b : WireTold) (i j : ℕ) (held mid : Option (List ℕ)) (p q : ℕ) (x : Recorder) (heard : List (List ℕ))
    (at : IsAt sessions number x (told_between a b i j) (held_between held mid p q) heard) where
  -- ---- one datagram more

  module _ (c : WireTold) (k : ℕ) (d : List ℕ) (received : Receives b c d) (later : j ≤ k) (now : Option (List ℕ)) (r : ℕ) where
    gave_one : Passes a c [] (heard ++ d ∷ [])
    gave_one = passes_then a b c [] heard [] (d ∷ []) at.gave (passes_given b c d received)

    -- and the wire is told that it was kept
    module _ (e : WireTold) (told : e ≡ keeping c) where
      kept_one : Passes a e [] (heard ++ d ∷ [])
      kept_one = passes_on a c e [] (heard ++ d ∷ []) gave_one (passes_kept c e told)

      kept_count : e.counts.kept ≡ counted b.counts.kept
      kept_count = rw (told, received.told) refl

    pub one_more : (e : WireTold) (told : e ≡ keeping c) (y : Recorder) → 0 < x.watch.left → y.sessions ≡ x.sessions → y.datagrams ≡ x.datagrams + 1
        → ((sessions : ℕ) (heard : List (List ℕ)) → Watches x.watch sessions heard → Watches y.watch sessions (heard ++ d ∷ []))
        → Grew mid now (entry d) → q ≤ r
        → IsAt sessions (number + 1) y (told_between a e i k) (held_between held now p r) (heard ++ d ∷ [])
    one_more e told y some same datagrams watched grew more = record {
      number_is = omega (arith, length-append heard (d ∷ []), at.number_is);
      counted = record {
        sessions_are = same ∙ at.counted.sessions_are;
        datagrams_are = omega (arith, datagrams, at.counted.datagrams_are, length-append heard (d ∷ []));
        watches = watched sessions heard at.counted.watches;
      };
      wanted = wanted_more sessions heard d at.wanted (still_open sessions x heard at.counted some);
      gave = kept_one e told;
      wire_later = omega (arith, at.wire_later, later);
      kept = record {
        least = omega (arith, at.kept.least, kept_count e told, length-append heard (d ∷ []));
        most = omega (arith, at.kept.most, kept_count e told, length-append heard (d ∷ []));
      };
      wrote = rw (capture-append heard (d ∷ []), capture-one d) (Grew-then held mid now (capture_of heard) (entry d) at.wrote grew);
      output_later = omega (arith, at.output_later, more);
    }

    -- a part of its entry was written
    pub output_fails : (packets : ℕ) (y : Recorder) → number < packets → GrewBySome mid now (entry d) → Rose q r
        → RecordsEach packets sessions y (Err OutputFailed) (told_between a c i k) (held_between held now p r)
    output_fails packets y room part rose = record {
      heard = heard ++ d ∷ [];
      few = omega (arith, room, at.number_is, length-append heard (d ∷ []));
      gave = gave_one;
      ended = (
        omega (arith, at.output_later, rose),
        rw (capture-append heard (d ∷ []), capture-one d) (GrewBySome-then held mid now (capture_of heard) (entry d) at.wrote part),
      );
    }

  -- ---- the end

  -- all sessions have ended
  pub all_ended : (packets : ℕ) → number ≤ packets → x.watch.left ≡ 0
      → RecordsEach packets sessions x (Ok tt) (told_between a b i j) (held_between held mid p q)
  all_ended packets few none = record {
    heard = heard;
    few = omega (arith, few, at.number_is);
    gave = at.gave;
    ended = (
      inl (record {
        reached = omega (arith, at.counted.watches.left_are, none);
        no_sooner = at.wanted;
      }),
      record { wrote = at.wrote; kept = at.kept; counted = at.counted },
    );
  }

  -- as many came as were asked for
  pub at_limit : 0 < x.watch.left
      → RecordsEach number sessions x (Err (PacketLimit number)) (told_between a b i j) (held_between held mid p q)
  at_limit some = record {
    heard = heard;
    few = omega (arith, at.number_is);
    gave = at.gave;
    ended = (
      record {
        limit_is = refl;
        count = at.number_is;
        goes_on = still_open sessions x heard at.counted some;
      },
      record { wrote = at.wrote; kept = at.kept; counted = at.counted },
    );
  }

  module _ (packets : ℕ) (room : number < packets) (c : WireTold) (k : ℕ) where
    -- nothing more will come
    pub none_left : c ≡ ending b → IsOver b.coming
        → RecordsEach packets sessions x (Ok tt) (told_between a c i k) (held_between held mid p q)
    none_left is none = record {
      heard = heard;
      few = omega (arith, room, at.number_is);
      gave = passes_on a b c [] heard at.gave (passes_end b c is);
      ended = (
        inr (record {
          fewer = omega (arith, room, at.number_is);
          ended = record {
            nothing_more = subst (λ (t : WireTold). IsOver t.coming) (sym is) none;
            said = rw is (omega (arith, at.gave.counted.ends_later));
          };
        }),
        record {
          wrote = at.wrote;
          kept = subst (λ (t : WireTold). WereKept (told_between a t i k) heard) (sym is) at.kept;
          counted = at.counted;
        },
      );
    }

    -- the wire failed
    pub wire_fails : c ≡ b → Rose j k
        → RecordsEach packets sessions x (Err WireFailed) (told_between a c i k) (held_between held mid p q)
    wire_fails same rose = record {
      heard = heard;
      few = omega (arith, room, at.number_is);
      gave = subst (λ (t : WireTold). Passes a t [] heard) (sym same) at.gave;
      ended = (
        omega (arith, at.wire_later, rose),
        record {
          wrote = at.wrote;
          kept = subst (λ (t : WireTold). WereKept (told_between a t i k) heard) (sym same) at.kept;
          counted = at.counted;
        },
      );
    }

  -- no more sessions are left than are to end
  pub left_within : x.watch.left ≤ x.sessions
  left_within = omega (arith, at.counted.sessions_are, at.counted.watches.left_are)
