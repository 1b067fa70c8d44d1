-- Datagrams: an RTP packet (RFC 3550, 5.1) whose payload is one of VC-2 (RFC 8450, 4). Each has its
-- fields at their places, or the first refusal.
use Rattle.std.specs.Prelude.{◌≡◌, ◌<◌, ◌≤◌, ◌⊎◌, ℕ, ◌+◌, ◌-◌, ◌*◌, ◌/◌, ◌%◌, ◌^◌, Bool, ◌&&◌, ◌||◌}
use Rattle.std.specs.Prelude.{not, List, [], ◌∷◌, ◌++◌, length, take, drop, slice_index, Result, Ok}
use Rattle.std.specs.Prelude.{Err, nat_lt, nat_le, ◌==◌, if◌then◌else◌}
use Rattle.byteorder.specs.Endian.{big_bytes, big_number}
use Rattle.vc_types.specs.ParseCodes.{header_code, end_code, auxiliary_code, padding_code, fragment_code}
use Rattle.link_model.specs.declared.refusal.RtpRefusal.{RtpRefusal}
use Rattle.link_model.specs.declared.refusal.RtpRefusal.TheVariants as rtp_refusals
use Rattle.link_model.specs.declared.refusal.PayloadRefusal.{PayloadRefusal}
use Rattle.link_model.specs.declared.refusal.PayloadRefusal.TheVariants as payload_refusals

-- ==== RTP packets (RFC 3550, 5.1)

-- what a packet's header says; its payload has the bytes from one place up to another
pub record RtpPacket : Type 0 where
  pub marker : Bool
  pub payload_type : ℕ
  pub sequence : ℕ
  pub timestamp : ℕ
  pub ssrc : ℕ
  pub from : ℕ
  pub to : ℕ

-- ---- the first byte: version (2 bits), padding (1), extension (1), CSRC count (4)

abbrev pub version : List ℕ → ℕ
version bytes = slice_index bytes 0 / 64

abbrev pub has_padding : List ℕ → Bool
has_padding bytes = slice_index bytes 0 / 32 % 2 == 1

abbrev pub has_extension : List ℕ → Bool
has_extension bytes = slice_index bytes 0 / 16 % 2 == 1

abbrev pub csrc_count : List ℕ → ℕ
csrc_count bytes = slice_index bytes 0 % 16

-- ---- the second byte: marker (1 bit), payload type (7)

abbrev pub marker : List ℕ → Bool
marker bytes = slice_index bytes 1 / 128 == 1

abbrev pub payload_type : List ℕ → ℕ
payload_type bytes = slice_index bytes 1 % 128

-- ---- the parts of variable length

-- where the CSRC list ends
abbrev pub csrc_end : List ℕ → ℕ
csrc_end bytes = 12 + 4 * csrc_count bytes

-- an extension has a 16-bit word, its length in 16 bits, and that many 32-bit words
abbrev pub extension_words : List ℕ → ℕ
extension_words bytes = big_number 2 (drop (csrc_end bytes + 2) bytes)

-- where the header ends
unfoldable pub header_end : List ℕ → ℕ
header_end bytes =
    if has_extension bytes then csrc_end bytes + 4 + 4 * extension_words bytes else csrc_end bytes

-- the last byte of a padded packet counts the padding, itself in it
abbrev pub padding_count : List ℕ → ℕ
padding_count bytes = slice_index bytes (length bytes - 1)

-- the padding has at least one byte, and no more than follow the header
abbrev pub padding_fits : List ℕ → Bool
padding_fits bytes =
    not (padding_count bytes == 0) && nat_le (header_end bytes + padding_count bytes) (length bytes)

-- the CSRC list and the extension end within the packet, and so does the padding
unfoldable pub is_shaped : List ℕ → Bool
is_shaped bytes =
    nat_le (header_end bytes) (length bytes) && (not (has_padding bytes) || padding_fits bytes)

-- where the payload ends
unfoldable pub payload_end : List ℕ → ℕ
payload_end bytes = if has_padding bytes then length bytes - padding_count bytes else length bytes

-- ---- reading and writing

-- the fields of a packet
unfoldable pub packet_fields : List ℕ → RtpPacket
packet_fields bytes = record {
  marker = marker bytes;
  payload_type = payload_type bytes;
  sequence = big_number 2 (drop 2 bytes);
  timestamp = big_number 4 (drop 4 bytes);
  ssrc = big_number 4 (drop 8 bytes);
  from = header_end bytes;
  to = payload_end bytes;
}

unfoldable pub rtp_packet : List ℕ → Result RtpPacket RtpRefusal
rtp_packet bytes =
    if nat_lt (length bytes) 12 then Err rtp_refusals.Short
    else (if not (version bytes == 2) then Err rtp_refusals.Version
    else (if not (is_shaped bytes) then Err rtp_refusals.Shape
    else Ok (packet_fields bytes)))

-- each field has its number of bits
pub record RtpFits (p : RtpPacket) : Type 0 where
  pub payload_type : p.payload_type < 2 ^ 7
  pub sequence : p.sequence < 2 ^ 16
  pub timestamp : p.timestamp < 2 ^ 32
  pub ssrc : p.ssrc < 2 ^ 32

-- a header of version 2 without CSRC list, extension or padding
unfoldable pub rtp_header : RtpPacket → List ℕ
rtp_header p =
    128 ∷ (if p.marker then 128 + p.payload_type else p.payload_type)
    ∷ (big_bytes 2 p.sequence ++ (big_bytes 4 p.timestamp ++ big_bytes 4 p.ssrc))

-- ==== payloads (RFC 8450, 4)

-- what each fragment begins with; high is the upper half of the extended sequence number
pub record FragmentHead : Type 0 where
  pub high : ℕ
  pub flags : ℕ
  pub number : ℕ
  pub prefix : ℕ
  pub scaler : ℕ

-- a payload by its parse code; from is the place of the body
pub data PayloadValue : Type 0 where
  Header : (high from : ℕ) (body : List ℕ) → PayloadValue
  End : (high : ℕ) → PayloadValue
  Skip : (high code : ℕ) → PayloadValue
  Params : (head : FragmentHead) (from : ℕ) (body : List ℕ) → PayloadValue
  Slices : (head : FragmentHead) (count x y from : ℕ) (body : List ℕ) → PayloadValue

-- ---- the fields of every payload

abbrev pub high_of : List ℕ → ℕ
high_of bytes = big_number 2 bytes

abbrev pub flags_of : List ℕ → ℕ
flags_of bytes = slice_index bytes 2

abbrev pub payload_code : List ℕ → ℕ
payload_code bytes = slice_index bytes 3

-- ---- the fields of a fragment

abbrev pub fragment_head : List ℕ → FragmentHead
fragment_head bytes = record {
  high = high_of bytes;
  flags = flags_of bytes;
  number = big_number 4 (drop 4 bytes);
  prefix = big_number 2 (drop 8 bytes);
  scaler = big_number 2 (drop 10 bytes);
}

abbrev pub fragment_length : List ℕ → ℕ
fragment_length bytes = big_number 2 (drop 12 bytes)

abbrev pub fragment_slices : List ℕ → ℕ
fragment_slices bytes = big_number 2 (drop 14 bytes)

-- the column and the row of the first slice
abbrev pub fragment_x : List ℕ → ℕ
fragment_x bytes = big_number 2 (drop 16 bytes)

abbrev pub fragment_y : List ℕ → ℕ
fragment_y bytes = big_number 2 (drop 18 bytes)

-- where the parameters or the slices begin
abbrev pub body_place : List ℕ → ℕ
body_place bytes = if fragment_slices bytes == 0 then 16 else 20

abbrev pub fragment_body : List ℕ → List ℕ
fragment_body bytes = take (fragment_length bytes) (drop (body_place bytes) bytes)

-- the head and the body end within the payload
unfoldable pub fragment_fits : List ℕ → Bool
fragment_fits bytes =
    nat_le 16 (length bytes) && nat_le (body_place bytes + fragment_length bytes) (length bytes)

abbrev pub slices_value : List ℕ → PayloadValue
slices_value bytes =
    Slices (fragment_head bytes) (fragment_slices bytes) (fragment_x bytes) (fragment_y bytes) 20
    (fragment_body bytes)

-- transform parameters where no slices are told, else slices
unfoldable pub fragment_value : List ℕ → PayloadValue
fragment_value bytes =
    if fragment_slices bytes == 0 then Params (fragment_head bytes) 16 (fragment_body bytes)
    else slices_value bytes

-- ---- reading and writing

-- the codes of a payload in this project's profile
abbrev pub is_known_code : ℕ → Bool
is_known_code code =
    code == header_code || code == end_code || code == auxiliary_code || code == padding_code
    || code == fragment_code

abbrev pub fragment_payload : List ℕ → Result PayloadValue PayloadRefusal
fragment_payload bytes =
    if fragment_fits bytes then Ok (fragment_value bytes) else Err payload_refusals.Fragment

abbrev pub coded_payload : ℕ → List ℕ → Result PayloadValue PayloadRefusal
coded_payload code bytes =
    if code == header_code then Ok (Header (high_of bytes) 4 (drop 4 bytes))
    else (if code == end_code then Ok (End (high_of bytes))
    else (if code == auxiliary_code || code == padding_code then Ok (Skip (high_of bytes) code)
    else (if code == fragment_code then fragment_payload bytes
    else Err payload_refusals.Code)))

unfoldable pub payload : List ℕ → Result PayloadValue PayloadRefusal
payload bytes =
    if nat_lt (length bytes) 4 then Err payload_refusals.Short
    else coded_payload (payload_code bytes) bytes

-- each field has its number of bits
pub record HeadFits (head : FragmentHead) : Type 0 where
  pub high : head.high < 2 ^ 16
  pub number : head.number < 2 ^ 32
  pub prefix : head.prefix < 2 ^ 16
  pub scaler : head.scaler < 2 ^ 16

-- how many slices, at least one, and where they begin
pub record RunFits (count x y : ℕ) : Type 0 where
  pub some : 1 ≤ count
  pub counted : count < 2 ^ 16
  pub column : x < 2 ^ 16
  pub row : y < 2 ^ 16

-- each field has its number of bits, and what is skipped has one of the two codes
abbrev pub IsWritable : PayloadValue → Type 0
IsWritable (Header high from body) = high < 2 ^ 16
IsWritable (End high) = high < 2 ^ 16
IsWritable (Skip high code) = (high < 2 ^ 16) × ((code ≡ auxiliary_code) ⊎ (code ≡ padding_code))
IsWritable (Params head from body) = HeadFits head × (length body < 2 ^ 16)
IsWritable (Slices head count x y from body) =
    HeadFits head × RunFits count x y × (length body < 2 ^ 16)

-- what is read where a payload is written and other bytes follow: its body stands after its head,
-- and a sequence header, whose length isn't told, goes on to the end
abbrev pub read_back : PayloadValue → List ℕ → PayloadValue
read_back (Header high from body) behind = Header high 4 (body ++ behind)
read_back (End high) behind = End high
read_back (Skip high code) behind = Skip high code
read_back (Params head from body) behind = Params head 16 body
read_back (Slices head count x y from body) behind = Slices head count x y 20 body

-- the first four bytes
unfoldable pub payload_head : ℕ → ℕ → ℕ → List ℕ
payload_head high flags code = big_bytes 2 high ++ (flags ∷ code ∷ [])

-- the first sixteen bytes of a fragment
unfoldable pub fragment_bytes : FragmentHead → ℕ → ℕ → List ℕ
fragment_bytes head bytes slices =
    payload_head head.high head.flags fragment_code
    ++ (big_bytes 4 head.number ++ (big_bytes 2 head.prefix
    ++ (big_bytes 2 head.scaler ++ (big_bytes 2 bytes ++ big_bytes 2 slices))))

-- what a payload is written as
unfoldable pub payload_bytes : PayloadValue → List ℕ
payload_bytes (Header high from body) = payload_head high 0 header_code ++ body
payload_bytes (End high) = payload_head high 0 end_code
payload_bytes (Skip high code) = payload_head high 0 code
payload_bytes (Params head from body) = fragment_bytes head (length body) 0 ++ body
payload_bytes (Slices head count x y from body) =
    fragment_bytes head (length body) count ++ (big_bytes 2 x ++ (big_bytes 2 y ++ body))
