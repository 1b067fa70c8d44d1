use Rattle.std.proofs.Common.{arith, ap, sym, ◌∙◌, ◌≡◌, ◌≢◌, ◌<◌, ◌∷◌, true, false, length, List, ℕ, None, get_or-set_other, get_or-set_same, set}
use mathlib.Core.Logic.{dite}
use native.Mathlib.Decide.{ℕ_discrete}
use Rattle.claim_board.specs.Counts.{idle_count}
use Rattle.claim_board.specs.Plays.{empty_slots}
use Rattle.claim_board.specs.Rule.{Slot}
use Rattle.claim_board.specs.Views.{SeatView, lane, lane_in, lanes_back}
use Rattle.claim_board.specs.declared.view.Lane.{Lane}
use Rattle.claim_board.proofs.Idle.{idle_after_return}
use Rattle.claim_board.proofs.board.Board.fetch_all.Goals as goal

-- the place that is fetched
fetched_here : (ls : List Lane) (place : ℕ) → place < length ls → lane_in ls place ≡ lane 0 false false → lane_in (lanes_back ls place) place ≡ lane 0 true false
fetched_here ls place h was = get_or-set_same ls place (lane (lane_in ls place).serial true false) (lane 0 false false) h ∙ ap (λ (l : Lane). lane l.serial true false) was

-- another one
fetched_elsewhere : (ls : List Lane) (place q : ℕ) → q ≢ place → lane_in (lanes_back ls place) q ≡ lane_in ls q
fetched_elsewhere ls place q ne = get_or-set_other ls place q (lane (lane_in ls place).serial true false) (lane 0 false false) ne

pub fetch-requires-clause-table : goal.fetch-requires-clause-table
fetch-requires-clause-table c = record { table = c.loop-place.invariant.table; within = omega arith }

pub fetch-requires-clause-feeder : goal.fetch-requires-clause-feeder
fetch-requires-clause-feeder c = (c.loop-place.invariant.feeds, c.loop-place.invariant.rest c.loop-place.place (omega arith))

pub loop-place-preserved : goal.loop-place-preserved
loop-place-preserved c =
    let old = c.loop-place.invariant in
    let place : ℕ = c.loop-place.place in
    let v : SeatView = c.loop-place.seat.me.0 in
    let w : SeatView = c.fetch.new.seat.me.0 in
    let view = c.fetch.ensures.view in
    let is : w.lanes ≡ lanes_back v.lanes place = ap (λ (x : SeatView). x.lanes) view.0.view in
    let was : lane_in v.lanes place ≡ lane 0 false false = old.rest place (omega arith) in
    let within : place < length v.lanes = omega (arith, ap length old.mirrors) in
    let at : (q : ℕ) → lane_in w.lanes q ≡ lane_in (lanes_back v.lanes place) q = λ q. ap (λ (ls : List Lane). lane_in ls q) is in record {
      table = c.fetch.ensures.id.table ∙ old.table;
      feeds = ap (λ (x : SeatView). x.number) view.0.view ∙ old.feeds;
      mirrors = is ∙ (ap (λ (ls : List Lane). set ls place (lane (lane_in v.lanes place).serial true false)) old.mirrors ∙ ap (λ (l : Lane). set c.loop-place.lanes.items place (lane l.serial true false)) was);
      wide = old.wide;
      slots = view.1 ∙ (ap (λ (r : List (ℕ × Slot)). (place, None) ∷ r) old.slots ∙ sym (ap empty_slots c.push_front_reserved.ensures.items));
      fetched = λ q below. at q ∙ dite (ℕ_discrete q place)
          (λ e. rw e (fetched_here v.lanes place within was))
          (λ ne. fetched_elsewhere v.lanes place q ne ∙ old.fetched q (omega arith));
      rest = λ q past. at q ∙ (fetched_elsewhere v.lanes place q (λ e. omega arith) ∙ old.rest q (omega arith));
      idle = idle_after_return v w place c.loop-place.order.items c.push_front_reserved.new.self.items is c.push_front_reserved.ensures.items within (ap idle_count was) old.idle;
      room = omega arith;
      count = omega arith;
    }

pub seated-requires-clause-slots : goal.seated-requires-clause-slots
seated-requires-clause-slots c = c.loop-place.invariant.slots

pub seated-requires-clause-idle : goal.seated-requires-clause-idle
seated-requires-clause-idle c = c.loop-place.invariant.idle

pub seated-requires-clause-fetched : goal.seated-requires-clause-fetched
seated-requires-clause-fetched c = λ place below. c.loop-place.invariant.fetched place (omega arith)

pub seated-requires-clause-others : goal.seated-requires-clause-others
seated-requires-clause-others c = λ place past. c.loop-place.invariant.rest place (omega arith)
