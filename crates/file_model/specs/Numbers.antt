-- Numbers of a patch file as bytes, the lowest byte first.
use Rattle.std.specs.Prelude.{ℕ, List, ℤ}
use Rattle.std.specs.Int.{w32, cast_signed, cast_unsigned}
use Rattle.byteorder.specs.Endian.{little_bytes, little_number}

-- a number of so many bytes
unfoldable pub number_text : ℕ → ℕ → List ℕ
number_text width n = little_bytes width n

-- the number in the first so many bytes
unfoldable pub number_in : ℕ → List ℕ → ℕ
number_in width bytes = little_number width bytes

-- a signed number: four bytes in two's complement
unfoldable pub signed_text : ℤ → List ℕ
signed_text z = number_text 4 (cast_unsigned w32 z)

-- the signed number in the first four bytes
unfoldable pub signed_in : List ℕ → ℤ
signed_in bytes = cast_signed w32 (number_in 4 bytes)
