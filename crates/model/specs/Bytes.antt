-- Bytes and the numbers that they hold, high byte first.
-- Assumes nothing.
use Rattle.std.specs.Prelude.{ℕ, suc, ◌+◌, ◌-◌, ◌*◌, ◌/◌, ◌%◌, ◌^◌, cond, List, [], ◌∷◌, get_or, take, drop, ltb, ℤ, pos, negsuc, ◌-ℤ◌}

-- z modulo m, at least 0
unfoldable pub mod_z : ℤ → ℕ → ℕ
mod_z (pos n) m = n % m
mod_z (negsuc n) m = m - suc (n % m)

-- a number of n bits in two's complement: the upper half less 2^n
unfoldable pub signed_of : ℕ → ℕ → ℤ
signed_of n x = cond (ltb x (2 ^ (n - 1))) (pos x) (pos x -ℤ pos (2 ^ n))

-- the two-byte and the four-byte number at an offset
unfoldable pub two_at : List ℕ → ℕ → ℕ
two_at s at = get_or s at 0 * 256 + get_or s (at + 1) 0

unfoldable pub four_at : List ℕ → ℕ → ℕ  -- the four-byte number at an offset
four_at s at = ((get_or s at 0 * 256 + get_or s (at + 1) 0) * 256 + get_or s (at + 2) 0) * 256 + get_or s (at + 3) 0

-- the four-byte two's complement value at an offset
unfoldable pub value_at : List ℕ → ℕ → ℤ
value_at s at = signed_of 32 (four_at s at)

-- the bytes of a number of two and of four bytes, and of a value
unfoldable pub two_bytes : ℕ → List ℕ
two_bytes n = n / 256 ∷ n % 256 ∷ []

unfoldable pub four_bytes : ℕ → List ℕ  -- the bytes of a four-byte number
four_bytes n = n / 16777216 ∷ n / 65536 % 256 ∷ n / 256 % 256 ∷ n % 256 ∷ []

unfoldable pub value_bytes : ℤ → List ℕ  -- a value's four bytes
value_bytes z = four_bytes (mod_z z (2 ^ 32))

-- the stretch of len bytes from start on
unfoldable pub stretch : List ℕ → ℕ → ℕ → List ℕ
stretch s start len = take len (drop start s)
