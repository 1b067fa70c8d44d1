-- The numbers of pictures (this project's profile): 32 bits on the wire, which wrap, and without
-- bound here. A number is late where the window has passed it.
use Rattle.std.specs.Prelude.{ℕ, ◌+◌, ◌-◌, ◌*◌, ◌/◌, ◌%◌, ◌^◌, max, min, Bool, true, false, ◌||◌}
use Rattle.std.specs.Prelude.{◌==◌, nat_lt, nat_le, if◌then◌else◌, List, [], ◌∷◌, ◌++◌, map, fold}
use Rattle.std.specs.Prelude.{filter}
use Rattle.std.specs.List.{range_with_len}
use Rattle.link_model.specs.Session.{Part, Fragment}

-- a part of a picture, with the picture's number
pub record Numbered : Type 0 where
  pub number : ℕ
  pub part : Part

-- the greatest number that was entered, 0 where none was
unfoldable pub greatest : List Numbered → ℕ
greatest [] = 0
greatest (e ∷ es) = max e.number (greatest es)

-- the least
abbrev pub least_up_to : ℕ → List Numbered → ℕ
least_up_to bound [] = bound
least_up_to bound (e ∷ es) = min e.number (least_up_to bound es)

unfoldable pub least : List Numbered → ℕ
least es = least_up_to (greatest es) es

-- how far 32 bits are above a number, modulo 2 ^ 32
abbrev pub distance : ℕ → ℕ → ℕ
distance number bits = (bits + 2 ^ 32 - number % 2 ^ 32) % 2 ^ 32

-- the number plus the signed 32-bit distance
unfoldable pub nearest : ℕ → ℕ → ℕ
nearest number bits =
    if nat_lt (distance number bits) (2 ^ 31) then number + distance number bits
    else number + distance number bits - 2 ^ 32

-- where the numbers of a session begin: the least multiple of 2 ^ 32 that is more than 8 above the
-- greatest number of the earlier sessions, which is 0 where they have none
unfoldable pub base_above : ℕ → ℕ
base_above number = (number + 8) / 2 ^ 32 * 2 ^ 32 + 2 ^ 32

-- the number of a fragment after those of its session that were entered; the first one's is its 32
-- bits plus the base
unfoldable pub picture_number : ℕ → List Numbered → ℕ → ℕ
picture_number base [] bits = base + bits
picture_number base (e ∷ es) bits = nearest (greatest (e ∷ es)) bits

-- a picture is closed once the greatest number is at least the window above its own
unfoldable pub is_closed : ℕ → List Numbered → ℕ → Bool
is_closed window es number = nat_le (number + window) (greatest es)

-- a number that comes too late, or that is too large to be one
unfoldable pub is_late : ℕ → List Numbered → ℕ → Bool
is_late window es number = is_closed window es number || nat_le (2 ^ 64 - 16) number

-- a fragment more: it enters with its number, unless that is late
unfoldable pub enters : ℕ → ℕ → List Numbered → Fragment → List Numbered
enters base window es f =
    if is_late window es (picture_number base es f.number) then es
    else es ++ record { number = picture_number base es f.number; part = f.part } ∷ []

-- the parts of a session that aren't late, each with its picture's number
abbrev pub entered : ℕ → ℕ → List Fragment → List Numbered
entered base window fragments = fold (enters base window) [] fragments

-- the parts of one picture, in order
unfoldable pub parts_of : ℕ → List Numbered → List Part
parts_of number es = map (λ e. e.part) (filter (λ e. e.number == number) es)

abbrev pub has_parts : List Part → Bool
has_parts [] = false
has_parts (part ∷ parts) = true

-- a picture is opened by its first part
abbrev pub is_opened : List Numbered → ℕ → Bool
is_opened es number = has_parts (parts_of number es)

-- the numbers from one up to another
abbrev pub span : ℕ → ℕ → List ℕ
span first last = range_with_len first (last + 1 - first)

-- the pictures that are opened, in rising order
unfoldable pub opened_numbers : List Numbered → List ℕ
opened_numbers es = filter (is_opened es) (span (least es) (greatest es))
