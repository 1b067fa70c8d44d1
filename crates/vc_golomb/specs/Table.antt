-- What eight bits say of the code of an unsigned number.
use Rattle.std.specs.Prelude.{◌≡◌, ℕ, ◌+◌, ◌*◌, ◌/◌, ◌<◌, ◌≤◌, Bool, true, false, List, [], ◌∷◌, ◌++◌, length}
use Rattle.vc_types.specs.Bits.{byte_bits, number_of}
use Rattle.vc_types.specs.Bounded.{bounded}

-- digits, each preceded by 0
abbrev pub pairs_of : List Bool → List Bool
pairs_of [] = []
pairs_of (digit ∷ digits) = false ∷ digit ∷ pairs_of digits

-- of the byte's bits as many are taken: digits that make a number and, where not all bits are
-- taken, the 1 behind them
pub record IsLook (byte taken digits : ℕ) : Type 0 where
  pub list : List Bool
  pub rest : List Bool
  pub front : byte_bits byte ≡ pairs_of list ++ rest
  pub number : number_of list ≡ digits
  pub count : length list ≡ taken / 2
  pub small : taken ≤ 8
  pub whole : 8 ≤ taken → taken ≡ 2 * length list
  pub ends : taken < 8
      → (taken ≡ 2 * length list + 1) × (bounded (byte_bits byte) (2 * length list) ≡ true)
