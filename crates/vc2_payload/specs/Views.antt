-- What code keeps of a payload.
use Rattle.std.specs.Prelude.{◌≡◌, ◌+◌, ◌<◌, ◌≤◌, ◌^◌, ◌⊎◌, ℕ, List, length, slice_range}
use Rattle.link_model.specs.Packets as packets
use Rattle.link_model.specs.Packets.{PayloadValue}
use Rattle.vc2_payload.specs.declared.payload.FragmentHead.{FragmentHead}
use Rattle.vc2_payload.specs.declared.payload.Payload.{Payload}
use Rattle.vc2_payload.specs.declared.payload.Payload.TheVariants.{Header, End, Skip, Params, Slices}

abbrev pub head_of : FragmentHead → packets.FragmentHead
head_of h = record {
  high = h.high;
  flags = h.flags;
  number = h.number;
  prefix = h.prefix;
  scaler = h.scaler;
}

abbrev pub payload_value : Payload → PayloadValue
payload_value (Header high from body) = packets.Header high from body.now
payload_value (End high) = packets.End high
payload_value (Skip high code) = packets.Skip high code
payload_value (Params head from body) = packets.Params (head_of head) from body.now
payload_value (Slices head count x y from body) =
    packets.Slices (head_of head) count x y from body.now

-- the body is what stands at a place of the bytes
abbrev pub StandsAt : List ℕ → ℕ → List ℕ → Type 0
StandsAt bytes from body =
    (from + length body ≤ length bytes) × (body ≡ slice_range bytes from (from + length body))

-- a payload's body, if it has one, stands at its place
abbrev pub HasBodyIn : List ℕ → Payload → Type 0
HasBodyIn bytes (Header high from body) = StandsAt bytes from body.now
HasBodyIn bytes (End high) = Unit {0}
HasBodyIn bytes (Skip high code) = Unit {0}
HasBodyIn bytes (Params head from body) = StandsAt bytes from body.now
HasBodyIn bytes (Slices head count x y from body) = StandsAt bytes from body.now

-- a fragment's length fits its field, there is a slice where slices are told, and what is skipped
-- has one of the two codes
abbrev pub CanBeWritten : Payload → Type 0
CanBeWritten (Header high from body) = Unit {0}
CanBeWritten (End high) = Unit {0}
CanBeWritten (Skip high code) = (code ≡ 0x20) ⊎ (code ≡ 0x30)
CanBeWritten (Params head from body) = length body.now < 2 ^ 16
CanBeWritten (Slices head count x y from body) = (1 ≤ count) × (length body.now < 2 ^ 16)
