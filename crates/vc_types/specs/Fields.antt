-- Fields that are read one after another from the front of a list of bits or bytes. A field gives
-- its value and what is left, or the first refusal.
use Rattle.std.specs.Prelude.{◌≡◌, ℕ, Bool, true, false, List, [], ◌∷◌, ◌++◌, length, take}
use Rattle.std.specs.Prelude.{drop, Option, Some, None, Result, Ok, Err, nat_lt}
use Rattle.std.specs.Prelude.{if◌then◌else◌, ◌+◌, ◌-◌, ◌/◌, ◌%◌, replicate}
use Rattle.vc_types.specs.Bits.{bits_of}
use Rattle.vc_types.specs.Codes.{uint_bits, uint_at}

-- bits or bytes T, refusals E, values X
abbrev pub Field : Type 0 → Type 0 → Type 0 → Type 0
Field T E X = List T → Result (X × List T) E

abbrev pub and_then : {A B E : Type 0} → Result A E → (A → Result B E) → Result B E
and_then (Ok x) f = f x
and_then (Err refusal) f = Err refusal

-- one field after another, which may depend on it
infixl 10 ◌>>=◌
abbrev pub ◌>>=◌ : {T E X Y : Type 0} → Field T E X → (X → Field T E Y) → Field T E Y
(first >>= second) all = and_then (first all) (λ read. second read.0 read.1)

-- nothing is read
abbrev pub give : {T E X : Type 0} → X → Field T E X
give x all = Ok (x, all)

abbrev pub skip : {T E : Type 0} → Field T E (Unit {0})
skip all = Ok (tt, all)

abbrev pub refuse : {T E X : Type 0} → E → Field T E X
refuse refusal all = Err refusal

-- a field that passes a test
abbrev pub tested : {T E X : Type 0} → (X → Bool) → E → Field T E X → Field T E X
tested test refusal field all =
    and_then (field all) (λ read. if test read.0 then Ok read else Err refusal)

-- the next bit or byte
abbrev pub next : {T E : Type 0} → E → Field T E T
next short [] = Err short
next short (item ∷ rest) = Ok (item, rest)

-- the next n bits or bytes
abbrev pub next_items : {T E : Type 0} → E → ℕ → Field T E (List T)
next_items short n all = if nat_lt (length all) n then Err short else Ok (take n all, drop n all)

-- a bit that says whether something follows
abbrev pub flag : {E : Type 0} → E → Field Bool E Bool
flag short = next short

-- the next unsigned code
abbrev pub number_from : {E : Type 0} → E → E → ℕ → Option (ℕ × List Bool)
    → Result (ℕ × List Bool) E
number_from short too_large max None = Err short
number_from short too_large max (Some read) = if nat_lt max read.0 then Err too_large else Ok read

-- an unsigned code of a number up to max
unfoldable pub number_up_to : {E : Type 0} → E → E → ℕ → Field Bool E ℕ
number_up_to short too_large max bits = number_from short too_large max (uint_at bits)

-- a field behind a flag that is 1, and what stands in its place where the flag is 0
abbrev pub behind_flag : {E X : Type 0} → E → X → Field Bool E X → Field Bool E X
behind_flag short default field all =
    and_then (flag short all)
    (λ custom. if custom.0 then field custom.1 else Ok (default, custom.1))

-- ---- what the code answers

-- What was answered, seen by view, and what is left then, are what the field gives.
abbrev pub Gives : {T E X Y : Type 0} → (X → Y) → Result X E → List T → Result (Y × List T) E
    → Type 0
Gives view (Ok x) left read = read ≡ Ok (view x, left)
Gives view (Err refusal) left read = read ≡ Err refusal

-- What was answered, seen by view, is what was read.
abbrev pub IsReadAs : {E X Y : Type 0} → (X → Y) → Result X E → Result Y E → Type 0
IsReadAs view (Ok x) read = read ≡ Ok (view x)
IsReadAs view (Err refusal) read = read ≡ Err refusal

-- ---- what fields are written as

-- parts one after another
abbrev pub joined : {T : Type 0} → List (List T) → List T
joined [] = []
joined (part ∷ parts) = part ++ joined parts

-- two numbers
abbrev pub pair_bits : ℕ × ℕ → List Bool
pair_bits p = joined (uint_bits p.0 ∷ uint_bits p.1 ∷ [])

-- a flag and, where it is 1, the field's own bits
abbrev pub flagged_bits : {A : Type 0} → (A → List Bool) → Option A → List Bool
flagged_bits field None = false ∷ []
flagged_bits field (Some a) = true ∷ field a

-- what such a part stands for: something else where it isn't coded
abbrev pub flagged_value : {A X : Type 0} → X → (A → X) → Option A → X
flagged_value default value None = default
flagged_value default value (Some a) = value a

-- Reading and writing belong together: what is read is what was written of some accepted spelling,
-- and each accepted spelling is read again, whatever follows it.
pub record IsCodec {T E A X : Type 0} (field : Field T E X) (written : A → List T)
    (value : A → X) (Accepted : A → Type 0) : Type 0 where
  pub takes : (all : List T) (x : X) (rest : List T) → field all ≡ Ok (x, rest)
      → (a : A) × Accepted a × (value a ≡ x) × (all ≡ written a ++ rest)
  pub again : (a : A) (rest : List T) → Accepted a → field (written a ++ rest) ≡ Ok (value a, rest)

-- ---- fields at the front of bytes

-- how many bytes so many bits take
abbrev pub bytes_for : ℕ → ℕ
bytes_for bits = (bits + 7) / 8

-- bits, and zeros up to the edge of a byte
abbrev pub filled_up : List Bool → List Bool
filled_up bits = bits ++ replicate ((8 - length bits % 8) % 8) false

-- Bytes begin with the bits of an accepted spelling, which stands for a value and takes so many
-- bytes.
pub record Begins {A X : Type 0} (written : A → List Bool) (value : A → X)
    (Accepted : A → Type 0) (bytes : List ℕ) (x : X) (used : ℕ) : Type 0 where
  pub spelling : A
  pub rest : List Bool
  pub accepted : Accepted spelling
  pub stands_for : value spelling ≡ x
  pub bits : bits_of bytes ≡ written spelling ++ rest
  pub takes : used ≡ bytes_for (length (written spelling))
