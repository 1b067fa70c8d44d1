-- Parse codes (ST 2042-1, parse code values; RFC 8450, 4 for fragments): those of this project's
-- profile.
use Rattle.std.specs.Prelude.{ℕ}

-- of a sequence header
abbrev pub header_code : ℕ
header_code = 0x00

-- of an end of sequence
abbrev pub end_code : ℕ
end_code = 0x10

-- of auxiliary data
abbrev pub auxiliary_code : ℕ
auxiliary_code = 0x20

-- of padding data
abbrev pub padding_code : ℕ
padding_code = 0x30

-- of a low-delay picture
abbrev pub low_delay_code : ℕ
low_delay_code = 0xC8

-- of a high-quality picture
abbrev pub picture_code : ℕ
picture_code = 0xE8

-- of a fragment of a high-quality picture
abbrev pub fragment_code : ℕ
fragment_code = 0xEC
