-- The constants of the reference, each by the bits of its float, and what each is the rounding of. Definitions only.
use Rattle.std.specs.Prelude.{◌≡◌, ℕ, ◌^◌, false, Float}
use Rattle.std.specs.Float.{binary64}
use Rattle.std.specs.Float.Ieee.{round}
use Rattle.arith.specs.Notation.{bits, count, plus_zero, half, one, two}

-- the binary64 nearest to num / den
abbrev pub nearest_float : ℕ → ℕ → Float
nearest_float num den = round binary64 false num den

-- 4, 8, 10, 16, 35, 512, 1e6, 1e9, 1e12
abbrev pub four : Float
four = bits 0x4010000000000000

abbrev pub eight : Float
eight = bits 0x4020000000000000

abbrev pub ten : Float
ten = bits 0x4024000000000000

abbrev pub sixteen : Float
sixteen = bits 0x4030000000000000

abbrev pub thirty_five : Float
thirty_five = bits 0x4041800000000000

abbrev pub five_twelve : Float
five_twelve = bits 0x4080000000000000

abbrev pub million : Float
million = bits 0x412E848000000000

abbrev pub billion : Float
billion = bits 0x41CDCD6500000000

abbrev pub trillion : Float
trillion = bits 0x426D1A94A2000000

-- 0.01, 0.001, 0.0004, 0.0001, 1e-9, 1e-20, 1e-300
abbrev pub hundredth : Float
hundredth = bits 0x3F847AE147AE147B

abbrev pub thousandth : Float
thousandth = bits 0x3F50624DD2F1A9FC

abbrev pub four_ten_thousandths : Float
four_ten_thousandths = bits 0x3F3A36E2EB1C432D

abbrev pub ten_thousandth : Float
ten_thousandth = bits 0x3F1A36E2EB1C432D

abbrev pub billionth : Float
billionth = bits 0x3E112E0BE826D695

abbrev pub ten_to_minus20 : Float
ten_to_minus20 = bits 0x3BC79CA10C924223

abbrev pub ten_to_minus300 : Float
ten_to_minus300 = bits 0x01A56E1FC2F8F359

-- 2^-511, and 2^-1022, the least normal float
abbrev pub two_to_minus511 : Float
two_to_minus511 = bits 0x2000000000000000

abbrev pub least_normal : Float
least_normal = bits 0x0010000000000000

-- each is the float nearest to what its name says (`constants` in proofs/Constants.antt)
pub record Constants : Type 0 where
  pub is_zero : plus_zero ≡ count 0
  pub is_half : half ≡ nearest_float 1 2
  pub is_one : one ≡ count 1
  pub is_two : two ≡ count 2
  pub is_four : four ≡ count 4
  pub is_eight : eight ≡ count 8
  pub is_ten : ten ≡ count 10
  pub is_sixteen : sixteen ≡ count 16
  pub is_thirty_five : thirty_five ≡ count 35
  pub is_five_twelve : five_twelve ≡ count 512
  pub is_million : million ≡ count (10 ^ 6)
  pub is_billion : billion ≡ count (10 ^ 9)
  pub is_trillion : trillion ≡ count (10 ^ 12)
  pub is_hundredth : hundredth ≡ nearest_float 1 100
  pub is_thousandth : thousandth ≡ nearest_float 1 1000
  pub is_four_ten_thousandths : four_ten_thousandths ≡ nearest_float 4 10000
  pub is_ten_thousandth : ten_thousandth ≡ nearest_float 1 10000
  pub is_billionth : billionth ≡ nearest_float 1 (10 ^ 9)
  pub is_ten_to_minus20 : ten_to_minus20 ≡ nearest_float 1 (10 ^ 20)
  pub is_ten_to_minus300 : ten_to_minus300 ≡ nearest_float 1 (10 ^ 300)
  pub is_two_to_minus511 : two_to_minus511 ≡ nearest_float 1 (2 ^ 511)
  pub is_least_normal : least_normal ≡ nearest_float 1 (2 ^ 1022)
