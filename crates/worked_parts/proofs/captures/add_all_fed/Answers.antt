use Rattle.std.proofs.Common.{ℕ, ◌+◌, ◌-◌, ◌≤◌, arith}
use Rattle.pcap_in.specs.Feeding.{IsReady}
use Rattle.pcap_in.specs.declared.feed.CarriedFeed.{CarriedFeed}
use Rattle.pcap_in.specs.declared.reader.PcapReader.{PcapReader}
use Rattle.worked_parts.proofs.captures.add_all_fed.Goals as goal

-- it can be asked less often, too
sooner : {S : Type 0} (n m : ℕ) (r : PcapReader S) (f : CarriedFeed) → m ≤ n → IsReady n r f → IsReady m r f
sooner n m r f less ready = record { sound = ready.sound; counts = ready.counts; few = ready.few; room = omega (arith, ready.room, less) }

pub add_fed-requires : goal.add_fed-requires
add_fed-requires g c = sooner (5 - c.loop-turn._turn) 1 _ _ (omega (arith, c.loop-turn-test.true)) c.loop-turn.invariant

pub loop-turn-preserved : goal.loop-turn-preserved
loop-turn-preserved g c =
    let more = 5 - (c.loop-turn._turn + 1) in
    c.in_ok-add_fed.ensures more (sooner (5 - c.loop-turn._turn) (more + 1) _ _ (omega (arith, c.loop-turn-test.true)) c.loop-turn.invariant) c.if-not-branch.false
