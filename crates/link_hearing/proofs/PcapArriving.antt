-- One datagram out of a pcap file, or why there is none.
use Rattle.std.proofs.Common.{◌≡◌, ◌≤◌, ℕ, [], ◌∷◌, None, Some, refl, sym, ◌∙◌, arith, inl, inr, slice_range}
use Rattle.link_report.specs.declared.ending.Ending.TheVariants.{NoMemory, PacketLimit}
use Rattle.pcap_in.specs.Feeding.{FeedValue, Brought, BroughtPayload, BroughtLast, BroughtNone, IsReady}
use Rattle.pcap_in.specs.declared.fault.PcapFault.{PcapFault}
use Rattle.pcap_in.specs.declared.fault.PcapFault.TheVariants as faults
use Rattle.pcap_in.specs.declared.feed.CarriedFeed.{CarriedFeed}
use Rattle.pcap_in.specs.declared.feed.Payload.{Payload}
use Rattle.pcap_in.specs.declared.reader.PcapReader.{PcapReader}
use Rattle.link_hearing.specs.PcapInlets.{StoppedFeed, record_ending}

-- it can be asked less often, too
pub sooner : {S : Type 0} (n m : ℕ) (r : PcapReader S) (f : CarriedFeed) → m ≤ n → IsReady n r f
    → IsReady m r f
sooner n m r f less ready = record {
  sound = ready.sound;
  counts = ready.counts;
  few = ready.few;
  room = omega (arith, ready.room, less);
}

module _ (x y : FeedValue) where
  -- there was no memory for it
  pub fed_lost : (p : Payload) → BroughtPayload x y p → StoppedFeed x y [] (Some NoMemory)
  fed_lost p b = record {
    mid = y;
    lost = slice_range p.kept.items p.from p.to ∷ [];
    few = omega arith;
    brought = b.brought;
    ended = inl refl;
  }

  pub fed_last : BroughtLast x y → StoppedFeed x y [] None
  fed_last b = record {
    mid = y;
    lost = [];
    few = omega arith;
    brought = b.brought;
    ended = (refl, refl, b.headed, b.ended);
  }

  pub fed_most : (limit : ℕ) → limit ≡ y.records → (y.records ≡ x.packets) × Brought x y []
      → StoppedFeed x y [] (Some (PacketLimit limit))
  fed_most limit is b = record {
    mid = y;
    lost = [];
    few = omega arith;
    brought = b.1;
    ended = (refl, refl, is, b.0 ∙ sym b.1.read.packets);
  }

  pub not_fed : (fault : PcapFault) → BroughtNone x y fault
      → StoppedFeed x y [] (Some (record_ending fault))
  not_fed (faults.Header place) b = record {
    mid = b.mid;
    lost = [];
    few = omega arith;
    brought = b.brought;
    ended = (refl, inl b.stopped);
  }
  not_fed (faults.Length place) b = record {
    mid = b.mid;
    lost = [];
    few = omega arith;
    brought = b.brought;
    ended = (refl, inr b.stopped);
  }
  not_fed (faults.Cut place) b = record {
    mid = b.mid;
    lost = [];
    few = omega arith;
    brought = b.brought;
    ended = (refl, b.stopped);
  }
  not_fed faults.ReadFault b = record {
    mid = b.mid;
    lost = [];
    few = omega arith;
    brought = b.brought;
    ended = (refl, b.stopped);
  }
  not_fed faults.NoMemory b = record {
    mid = b.mid;
    lost = [];
    few = omega arith;
    brought = b.brought;
    ended = inr b.stopped;
  }
