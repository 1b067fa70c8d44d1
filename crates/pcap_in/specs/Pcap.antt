-- A pcap file, the classic format of libpcap: 24 bytes, and records one after another.
use Rattle.std.specs.Prelude.{ℕ, zero, suc, ◌%◌, Bool, ◌||◌, List, [], ◌∷◌, ◌++◌, length, take}
use Rattle.std.specs.Prelude.{drop, Option, Some, None, Result, Ok, Err, option_map, option_and_then}
use Rattle.std.specs.Prelude.{nat_lt, ◌==◌, if◌then◌else◌}
use Rattle.byteorder.specs.Endian.{big_number, little_number, big_bytes, little_bytes}
use Rattle.vc_types.specs.Fields.{Field, ◌>>=◌, refuse, next_items}
use Rattle.pcap_in.specs.declared.head.FileHead.{FileHead}
use Rattle.pcap_in.specs.declared.head.Order.{Order}
use Rattle.pcap_in.specs.declared.head.Order.TheVariants.{Big, Little}
use Rattle.pcap_in.specs.declared.network.Network.{Network}
use Rattle.pcap_in.specs.declared.network.Network.TheVariants.{Ethernet, LinuxCooked, LinuxCooked2}

-- the number in the first four bytes, in a file's order
abbrev pub file_number : Order → List ℕ → ℕ
file_number Big bytes = big_number 4 bytes
file_number Little bytes = little_number 4 bytes

-- ---- the 24 bytes before the records: a magic number, 16 bytes that aren't used, the network

-- the magic number of a file with microseconds, or with nanoseconds
abbrev pub is_magic : ℕ → Bool
is_magic number = number == 0xa1b2c3d4 || number == 0xa1b23c4d

-- the order of a file's numbers is the one in which its first four bytes are a magic number
unfoldable pub order_of : List ℕ → Option Order
order_of head =
    if is_magic (big_number 4 head) then Some Big
    else (if is_magic (little_number 4 head) then Some Little else None)

-- the low 16 bits tell the network
unfoldable pub network_of : ℕ → Option Network
network_of number =
    if number % 65536 == 1 then Some Ethernet
    else (if number % 65536 == 113 then Some LinuxCooked
    else (if number % 65536 == 276 then Some LinuxCooked2
    else None))

abbrev pub head_of : Order → Network → FileHead
head_of order network = record { order = order; network = network }

-- a head whose numbers have this order
abbrev pub head_in : List ℕ → Order → Option FileHead
head_in head order = option_map (head_of order) (network_of (file_number order (drop 20 head)))

-- what the 24 bytes tell, where they are a head
unfoldable pub file_head : List ℕ → Option FileHead
file_head head = option_and_then (head_in head) (order_of head)

-- the head that begins a file, where one does
unfoldable pub pcap_head : List ℕ → Option FileHead
pcap_head bytes = if nat_lt (length bytes) 24 then None else file_head (take 24 bytes)

-- ---- records: 8 bytes of time, the kept length, the length before it was cut, the kept bytes

-- why no record begins some bytes: they end within it, or it keeps more than 262,144 bytes
pub data RecordRefusal : Type 0 where
  Short : RecordRefusal
  TooLong : RecordRefusal

-- how many bytes a record keeps, by the 16 bytes before them
abbrev pub kept_length : Order → List ℕ → ℕ
kept_length order head = file_number order (drop 8 head)

abbrev pub kept_bytes : ℕ → Field ℕ RecordRefusal (List ℕ)
kept_bytes count = if nat_lt 262144 count then refuse TooLong else next_items Short count

-- the bytes that the first record keeps and what is behind it, or the first refusal
unfoldable pub pcap_record : Order → Field ℕ RecordRefusal (List ℕ)
pcap_record order = do
  head ← next_items Short 16
  kept_bytes (kept_length order head)

-- what a record is written as: its time, the number of bytes that it keeps, as many as the frame had
-- before it was cut, and those bytes
abbrev pub number_bytes : Order → ℕ → List ℕ
number_bytes Big number = big_bytes 4 number
number_bytes Little number = little_bytes 4 number

unfoldable pub record_bytes : Order → List ℕ → List ℕ → List ℕ → List ℕ
record_bytes order time original kept =
    (time ++ (number_bytes order (length kept) ++ original)) ++ kept

-- a record before other records
abbrev pub with_record_first : List ℕ → List (List ℕ) × List ℕ → List (List ℕ) × List ℕ
with_record_first kept behind = (kept ∷ behind.0, behind.1)

-- the first record, and those behind it; none where it is refused
abbrev pub records_from : List ℕ → (List ℕ → List (List ℕ) × List ℕ)
    → Result (List ℕ × List ℕ) RecordRefusal → List (List ℕ) × List ℕ
records_from bytes behind (Err refusal) = ([], bytes)
records_from bytes behind (Ok read) = with_record_first read.0 (behind read.1)

-- what the whole records that begin the bytes keep, at most so many records, and the rest
unfoldable pub records_within : ℕ → Order → List ℕ → List (List ℕ) × List ℕ
records_within zero order bytes = ([], bytes)
records_within (suc most) order bytes =
    records_from bytes (λ rest. records_within most order rest) (pcap_record order bytes)

-- ---- a whole file

-- its head, where it has one; what its records keep; and the bytes behind them
pub record FileSplit : Type 0 where
  pub head : Option FileHead
  pub records : List (List ℕ)
  pub rest : List ℕ

abbrev pub with_records : FileHead → List (List ℕ) × List ℕ → FileSplit
with_records head split = record { head = Some head; records = split.0; rest = split.1 }

abbrev pub split_behind : ℕ → List ℕ → Option FileHead → FileSplit
split_behind most bytes None = record { head = None; records = []; rest = bytes }
split_behind most bytes (Some head) =
    with_records head (records_within most head.order (drop 24 bytes))

-- the bytes of a file, as far as its first records, at most so many
unfoldable pub file_split : ℕ → List ℕ → FileSplit
file_split most bytes = split_behind most bytes (pcap_head bytes)
