-- What hearing a wire's datagrams came to, by what its inlet and a playout that waits for sessions did.
use Rattle.std.proofs.Common.{◌≡◌, true, ◌≤◌, ◌<◌, ℕ, List, [], ◌++◌, length, Some}
use Rattle.std.proofs.Common.{Ok, Err, refl, arith, inl, inr, append-nil, length-append}
use Rattle.std.specs.Prelude.{Result}
use Rattle.link_report.specs.declared.ending.Ending.{Ending}
use Rattle.link_report.specs.declared.ending.Ending.TheVariants.{NoMemory, OutputFailed}
use Rattle.link_report.specs.declared.ending.Ending.TheVariants.{PacketLimit, WireFailed}
use Rattle.vc_ports.specs.Changes.{WireChange}
use Rattle.cmd_receive.proofs.Listened.{begun}
use Rattle.cmd_receive.specs.Ends.{Counts}
use Rattle.link_hearing.specs.Hearing.{CanGoOn, HearsUntil, fault_ending, has_broken}
use Rattle.cmd_receive.specs.HearingLaws.{all_but}
use Rattle.cmd_receive.specs.WireInlets.{StoppedWire, WasGiven}
use Rattle.cmd_receive.specs.Playouts.{PlayoutState, BreaksOff, Hears, IsNew, IsWell}
use Rattle.cmd_receive.specs.Sessions.{CountsOn, HearsWanted, HearsWire, WireHeard}
use Rattle.cmd_receive.specs.declared.count.SessionCount.{SessionCount}
use Rattle.link_hearing.specs.declared.listener.ListenerFault.{ListenerFault}
use Rattle.link_hearing.specs.declared.listener.ListenerFault.TheVariants as faults

module _ (packets : ℕ) (wire : WireChange) (x y : PlayoutState) (first last : SessionCount) where
  module _ (sessions : ℕ) where
    broke : (ds : List (List ℕ)) (fault : ListenerFault) → BreaksOff x y ds (fault_ending fault)
        → WireHeard packets sessions wire x y ds (Err (fault_ending fault))
    broke ds faults.NoMemory breaks = breaks
    broke ds faults.Output breaks = breaks

    whole : (ds : List (List ℕ)) (result : Result (Unit {0}) Ending) → WasGiven wire ds
        → length ds ≤ packets → WireHeard packets sessions wire x y ds result
        → HearsWire packets sessions wire x y result
    whole ds result given few heard =
        record { datagrams = ds; given = given; few = few; heard = heard }

    all_given : (ds lost : List (List ℕ)) → lost ≡ [] → WasGiven wire (ds ++ lost) → WasGiven wire ds
    all_given ds lost none given = rw append-nil at (rw none at given)

    by_end : (ds : List (List ℕ)) (end : Ending) → length ds < packets
        → StoppedWire wire ds (Some end) → Hears x y ds
        → HearsWire packets sessions wire x y (Err end)
    by_end ds NoMemory fewer s hears =
        whole (ds ++ s.lost) (Err NoMemory) s.given
        (omega (arith, fewer, s.few, length-append ds s.lost)) (all_but s.lost s.few hears)
    by_end ds WireFailed fewer s hears =
        whole ds (Err WireFailed) (all_given ds s.lost s.ended.0 s.given) (omega (arith, fewer))
        (hears, s.ended.1)
    by_end ds end fewer s hears = absurd s.ended

    module _ (new : IsNew x.receiver) (counts : Counts first sessions []) where
      counted : (ds : List (List ℕ)) → HearsWanted x first y last ds → CountsOn last sessions [] ds
      counted ds h =
          h.counts_on new.form new.window x.held x.asked [] sessions (begun x new.heard) counts

      pub wire_heard : (N B : Type 0) (result : Result (Unit {0}) Ending)
          → HearsUntil packets (λ ds. N × WasGiven wire ds) (λ ds end. N × StoppedWire wire ds end)
          (λ ds. B × HearsWanted x first y last ds)
          (λ ds fault. B × BreaksOff x y ds (fault_ending fault)) (0 < last.left) (last.left ≡ 0) result
          → HearsWire packets sessions wire x y result
      wire_heard N B (Ok done) (ds, inl r) =
          let s = r.stopped_so.1 in
          whole ds (Ok tt) (all_given ds s.lost s.ended.0 s.given) (omega (arith, r.fewer))
          (r.heard_so.1.hears, inr (record { fewer = r.fewer; ended = s.ended.1 }))
      wire_heard N B (Ok done) (ds, inr h) =
          let c = counted ds h.heard_so.1 in
          whole ds (Ok tt) h.came_so.1 h.few (
            h.heard_so.1.hears,
            inl (record {
              reached = omega (arith, c.counts.left_are, h.is_enough);
              no_sooner = λ k less. c.wanted k less;
            }),
          )
      wire_heard N B (Err end) (ds, inl r) =
          by_end ds end r.fewer r.stopped_so.1 r.heard_so.1.hears
      wire_heard N B (Err end) (ds, inr (inl m)) =
          let c = counted ds m.heard_so.1 in
          rw m.end_is (whole ds (Err (PacketLimit packets)) m.came_so.1 (omega (arith, m.count)) (
            m.heard_so.1.hears,
            record {
              limit_is = refl;
              count = m.count;
              goes_on = omega (arith, c.counts.left_are, m.wants_more);
            },
          ))
      wire_heard N B (Err end) (ds, inr (inr b)) =
          rw b.end_is
          (whole ds (Err (fault_ending b.fault)) b.came_so.1 b.few (broke ds b.fault b.broke_so.1))

  -- what is lent stays the same, and no slice is out at a place that isn't there
  breaks_well : (ds : List (List ℕ)) (fault : ListenerFault) → BreaksOff x y ds (fault_ending fault)
      → IsWell x → IsWell y
  breaks_well ds faults.NoMemory breaks = breaks.goes.well
  breaks_well ds faults.Output breaks = breaks.0.goes.well

  module _ (N B : Type 0) where
    pub wire_lent : (wants enough : Type 0) (result : Result (Unit {0}) Ending)
        → HearsUntil packets (λ ds. N × WasGiven wire ds) (λ ds end. N × StoppedWire wire ds end)
        (λ ds. B × HearsWanted x first y last ds)
        (λ ds fault. B × BreaksOff x y ds (fault_ending fault)) wants enough result
        → N × B × (IsWell x → IsWell y)
    wire_lent wants enough (Ok done) (ds, inl r) =
        (r.stopped_so.0, r.heard_so.0, r.heard_so.1.hears.goes.well)
    wire_lent wants enough (Ok done) (ds, inr h) =
        (h.came_so.0, h.heard_so.0, h.heard_so.1.hears.goes.well)
    wire_lent wants enough (Err end) (ds, inl r) =
        (r.stopped_so.0, r.heard_so.0, r.heard_so.1.hears.goes.well)
    wire_lent wants enough (Err end) (ds, inr (inl m)) =
        (m.came_so.0, m.heard_so.0, m.heard_so.1.hears.goes.well)
    wire_lent wants enough (Err end) (ds, inr (inr b)) =
        (b.came_so.0, b.broke_so.0, breaks_well ds b.fault b.broke_so.1)

-- ---- the receiver

module _ (packets sessions : ℕ) (wire : WireChange) (x y : PlayoutState) (ds : List (List ℕ)) where
  pub wire_hears : (result : Result (Unit {0}) Ending) → CanGoOn result
      → WireHeard packets sessions wire x y ds result → Hears x y ds
  wire_hears (Ok done) can heard = heard.0
  wire_hears (Err WireFailed) can heard = heard.0
  wire_hears (Err (PacketLimit limit)) can heard = heard.0
  wire_hears (Err NoMemory) can heard = absurd cc
  wire_hears (Err OutputFailed) can heard = absurd cc
  wire_hears (Err end) can heard = absurd heard

  pub wire_breaks : (end : Ending) → has_broken end ≡ true
      → WireHeard packets sessions wire x y ds (Err end) → BreaksOff x y ds end
  wire_breaks NoMemory is heard = heard
  wire_breaks OutputFailed is heard = heard
  wire_breaks end is heard = absurd cc
