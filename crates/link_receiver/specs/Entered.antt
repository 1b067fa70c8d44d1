-- What a datagram and the end of the input do to a receiver, to places and to a sink.
use Rattle.std.specs.Prelude.{◌≡◌, ℕ, true, is_some, List, [], Option}
use Rattle.link_model.specs.declared.outcome.Outcome.{Outcome}
use Rattle.receiver_model.specs.Entering.{before_releases, datagram_jobs, takes_datagram}
use Rattle.receiver_model.specs.Entering.{takes_end}
use Rattle.receiver_model.specs.Exchanging.{all_exchanged, dones_in}
use Rattle.receiver_model.specs.Judging.{judged, keeps_datagram, ends_input}
use Rattle.receiver_model.specs.Receptions.{Reception}
use Rattle.receiver_model.specs.Releasing.{next_picture}
use Rattle.receiver_model.specs.Standing.{AreDecodings}
use Rattle.link_slices.specs.Calls.{PlaceCall, told_of, exchanges_of, freeing}
use Rattle.link_pictures.specs.Outputs.{datagram_output, written_behind_datagram, end_output}
use Rattle.link_pictures.specs.declared.written.Written.{Written}
use Rattle.vc_ports.specs.Writing.{Grew}
use Rattle.vc_slice.specs.Asked.{Told, told_more, Grows}
use Rattle.link_receiver.specs.Freeing.{all_freed_places}
use Rattle.link_receiver.specs.Offers.{AreOffersOf, DecodesLittle, proposed_in, are_asked}

-- what places told before and behind a call, what a sink held, and what is kept of what was written
pub record Outside : Type 0 where
  pub told_before : Option Told
  pub told_behind : Option Told
  pub held_before : Option (List ℕ)
  pub held_behind : Option (List ℕ)
  pub written_before : Written
  pub written_behind : Written

abbrev pub outside_of : {P O : Type 0} → (P → Option Told) → (O → Option (List ℕ)) → P → P → O → O
    → Written → Written → Outside
outside_of told held places places_behind sink sink_behind written written_behind = record {
  told_before = told places;
  told_behind = told places_behind;
  held_before = held sink;
  held_behind = held sink_behind;
  written_before = written;
  written_behind = written_behind;
}

-- A datagram was taken, with these calls of places. Each slice that it brings was offered, and a
-- second time only where it was handed back; where it lets a picture be released, the places of all
-- slices that were out were asked; where it doesn't, slices were decoded here only of a run that was
-- handed back, and none was taken back that waits; then the places of the released pictures were freed.
pub record IsEntered (outside : Outside) (old new : Reception) (datagram : List ℕ)
    (outcome : Outcome) (calls : List PlaceCall) : Type 0 where
  pub told : Grows outside.told_before outside.told_behind (told_more (told_of calls)
      (freeing (all_freed_places (before_releases old datagram (exchanges_of calls)))))
  pub value : new ≡ takes_datagram old datagram (exchanges_of calls)
  pub kept : outside.written_behind
      ≡ written_behind_datagram outside.written_before old datagram (exchanges_of calls)
  pub written : Grew outside.held_before outside.held_behind
      (datagram_output outside.written_before old datagram (exchanges_of calls))
  pub judgement : outcome ≡ judged old datagram
  pub decodings : AreDecodings (dones_in (exchanges_of calls))
  pub offered : AreOffersOf (datagram_jobs old datagram) (proposed_in (exchanges_of calls))
  pub asked : is_some (next_picture (keeps_datagram old datagram)) ≡ true
      → are_asked old.out (exchanges_of calls) ≡ true
  pub little : DecodesLittle (keeps_datagram old datagram) (exchanges_of calls)

-- The end of the input was taken. Nothing is offered then.
pub record IsDrained (outside : Outside) (old new : Reception) (calls : List PlaceCall)
    : Type 0 where
  pub told : Grows outside.told_before outside.told_behind (told_more (told_of calls)
      (freeing (all_freed_places (all_exchanged (ends_input old) (exchanges_of calls)))))
  pub value : new ≡ takes_end old (exchanges_of calls)
  pub written : Grew outside.held_before outside.held_behind
      (end_output outside.written_before old (exchanges_of calls))
  pub decodings : AreDecodings (dones_in (exchanges_of calls))
  pub offered : proposed_in (exchanges_of calls) ≡ []
  pub asked : is_some (next_picture (ends_input old)) ≡ true
      → are_asked old.out (exchanges_of calls) ≡ true
  pub little : DecodesLittle (ends_input old) (exchanges_of calls)
