-- Calls of places in which slices go out and come back.
use Rattle.std.specs.Prelude.{◌≡◌, ℕ, List, Option}
use Rattle.receiver_model.specs.Exchanging.{all_exchanged, dones_in}
use Rattle.receiver_model.specs.Receptions.{Reception, RunOut}
use Rattle.receiver_model.specs.Standing.{AreDecodings}
use Rattle.link_receiver.specs.HeardLists.{AskedPlaces}
use Rattle.link_receiver.specs.Offers.{DecodesLittle}
use Rattle.link_slices.specs.Calls.{PlaceCall, PlacesAreBelow, told_of, exchanges_of}
use Rattle.vc_slice.specs.Asked.{Told, Grows}

-- The places tell of these calls and no others, and the receiver is as they leave it. Whatever was
-- given back is its own job's decoding. Where no picture may be released, slices are decoded here only
-- of runs that were handed back.
pub record IsExchanged (before after : Option Told) (old new : Reception) (calls : List PlaceCall)
    : Type 0 where
  pub told : Grows before after (told_of calls)
  pub value : new ≡ all_exchanged old (exchanges_of calls)
  pub decodings : AreDecodings (dones_in (exchanges_of calls))
  pub little : DecodesLittle old (exchanges_of calls)

-- Places, by what they tell and their bound, after calls that start no workers: the bound is as it
-- was, and these slices are out, at places below it.
pub record KeepsPlaces {P : Type 0} (told : P → Option Told) (bound : P → ℕ) (before after : P)
    (out : List RunOut) : Type 0 where
  pub asked : AskedPlaces (told before) (told after)
  pub same_bound : bound after ≡ bound before
  pub below : PlacesAreBelow (bound after) out
