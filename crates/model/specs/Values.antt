-- Values: a kind and a precision p, wrapping, the operators.
-- Assumes nothing.
use Rattle.std.specs.Prelude.{ℕ, ◌-◌, ◌/◌, ◌^◌, Bool, true, false, not, cond, ◌&&◌, ◌||◌, leb, eqb, ℤ, pos, negsuc, neg_ℤ, ◌+ℤ◌, ◌-ℤ◌, ◌*ℤ◌, Result, Ok, Err}
use Rattle.std.specs.Int.Signed.{lt_z, le_z, quot_z, rem_z}
use Rattle.std.specs.Int.Bits.{bit_and, bit_or}
use Rattle.model.specs.declared.Ty.{Ty}
use Rattle.model.specs.declared.Value.{Value}
use Rattle.model.specs.declared.Fault.{Fault}
use Rattle.model.specs.declared.Fault.TheVariants.{ZeroDivisor}
use Rattle.model.specs.Bytes.{mod_z, signed_of}

-- ── types ────────────────────────────────────────────────────────────────────────────────────

unfoldable pub bool : Ty  -- kind 0, p = 1
bool = record { kind = 0; p = 1 }

-- no type: no kind has this code
unfoldable pub no_type : Ty
no_type = record { kind = 255; p = 0 }

unfoldable pub is_bool : Ty → Bool  -- kind 0
is_bool t = eqb t.kind 0

unfoldable pub is_number : Ty → Bool  -- signed or unsigned
is_number t = eqb t.kind 1 || eqb t.kind 2

-- a dc wire carries marks, and data of a number's type
unfoldable pub is_dc : Ty → Bool
is_dc t = eqb t.kind 3 || eqb t.kind 4

-- the type of the values that a wire of this type carries
unfoldable pub carried : Ty → Ty
carried t = cond (is_dc t) (record { kind = t.kind - 2; p = t.p }) t

-- one type: the same kind and the same precision
unfoldable pub same_type : Ty → Ty → Bool
same_type t u = eqb t.kind u.kind && eqb t.p u.p

-- precision 1 to 30
unfoldable pub in_precision : Ty → Bool
in_precision t = leb 1 t.p && leb t.p 30

-- a bool has p = 1
unfoldable pub well_sized : Ty → Bool
well_sized t = not (is_bool t) || eqb t.p 1

-- a type of its own kind, as an expression or a variable has one: bool, signed, unsigned
unfoldable pub is_plain : Ty → Bool
is_plain t = leb t.kind 2 && well_sized t

-- the least and the greatest value of a type
unfoldable pub least : Ty → ℤ
least t = cond (eqb t.kind 1) (neg_ℤ (pos (2 ^ (t.p - 1)))) (pos 0)

unfoldable pub greatest : Ty → ℤ  -- 2^(p-1) - 1, or 2^p - 1
greatest t = pos (cond (eqb t.kind 1) (2 ^ (t.p - 1)) (2 ^ t.p) - 1)

-- is the value of the type
unfoldable pub within : Ty → ℤ → Bool
within t z = le_z (least t) z && le_z z (greatest t)

-- ── wrapping ─────────────────────────────────────────────────────────────────────────────────

-- the p-bit pattern of a value
unfoldable pub pattern : Ty → ℤ → ℕ
pattern t z = mod_z z (2 ^ t.p)

-- a p-bit pattern read back in its type: for signed the upper half less 2^p
unfoldable pub read_back : Ty → ℕ → ℤ
read_back t n = cond (eqb t.kind 1) (signed_of t.p n) (pos n)

-- a result wraps modulo 2^p
unfoldable pub wrap : Ty → ℤ → ℤ
wrap t z = read_back t (pattern t z)

-- what working out an expression gives: a value with its type, or a fault
abbrev pub Outcome : Type 0
Outcome = Result Value Fault

abbrev pub gives : Ty → ℤ → Outcome  -- the value, of that type
gives t z = Ok (record { ty = t; value = z })

-- ── operators ────────────────────────────────────────────────────────────────────────────────

unfoldable pub truth : Bool → ℤ  -- 1 or 0
truth true = pos 1
truth false = pos 0

unfoldable pub eq_z : ℤ → ℤ → Bool  -- the same number
eq_z (pos a) (pos b) = eqb a b
eq_z (pos a) (negsuc b) = false
eq_z (negsuc a) (pos b) = false
eq_z (negsuc a) (negsuc b) = eqb a b

unfoldable pub is_true : ℤ → Bool  -- not 0
is_true z = not (eq_z z (pos 0))

-- 10 +; 11 -; 12 *; 13 /; 14 mod: quotients toward zero, mod with the dividend's sign, a zero divisor is fault 9
unfoldable pub arithmetic : ℕ → Ty → ℤ → ℤ → Outcome
arithmetic o t a b =
    cond (eqb o 10) (gives t (wrap t (a +ℤ b)))
    (cond (eqb o 11) (gives t (wrap t (a -ℤ b)))
    (cond (eqb o 12) (gives t (wrap t (a *ℤ b)))
    (cond (eq_z b (pos 0)) (Err ZeroDivisor)
    (cond (eqb o 13) (gives t (wrap t (quot_z a b)))
    (gives t (wrap t (rem_z a b)))))))

-- 15 land; 16 lor; 17 lnand; 18 <<; 19 >>: on the p-bit pattern; << multiplies by 2^n, >> moves the pattern right
unfoldable pub bitwise : ℕ → Ty → ℤ → ℤ → ℤ
bitwise o t a b =
    cond (eqb o 15) (read_back t (bit_and (pattern t a) (pattern t b)))
    (cond (eqb o 16) (read_back t (bit_or (pattern t a) (pattern t b)))
    (cond (eqb o 17) (read_back t (2 ^ t.p - 1 - bit_and (pattern t a) (pattern t b)))
    (cond (eqb o 18) (wrap t (a *ℤ pos (2 ^ mod_z b 32)))
    (read_back t (pattern t a / 2 ^ mod_z b 32)))))

-- 20 =; 21 !=; 22 <; 23 <=; 24 >; 25 >=
unfoldable pub compare : ℕ → ℤ → ℤ → Bool
compare o a b =
    cond (eqb o 20) (eq_z a b)
    (cond (eqb o 21) (not (eq_z a b))
    (cond (eqb o 22) (lt_z a b)
    (cond (eqb o 23) (le_z a b)
    (cond (eqb o 24) (lt_z b a)
    (le_z b a)))))

-- 26 &&; 27 ||
unfoldable pub logic : ℕ → ℤ → ℤ → Bool
logic o a b = cond (eqb o 26) (is_true a && is_true b) (is_true a || is_true b)

-- the two-operand operators, 10 to 27, on a left side of type t
unfoldable pub apply : ℕ → Ty → ℤ → ℤ → Outcome
apply o t a b =
    cond (leb o 14) (arithmetic o t a b)
    (cond (leb o 19) (gives t (bitwise o t a b))
    (cond (leb o 25) (gives bool (truth (compare o a b)))
    (gives bool (truth (logic o a b)))))

-- 4 not; 5 lnot, the complement of the p-bit pattern
unfoldable pub apply_one : ℕ → Ty → ℤ → Outcome
apply_one o t a =
    cond (eqb o 4) (gives bool (truth (not (is_true a))))
    (gives t (read_back t (2 ^ t.p - 1 - pattern t a)))
