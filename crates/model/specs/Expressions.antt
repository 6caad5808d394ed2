-- Expressions: their form in the file, size, depth, type and value.
-- Assumes nothing.
use Rattle.std.specs.Prelude.{ℕ, zero, suc, ◌+◌, max, Bool, true, false, not, cond, ◌&&◌, ◌||◌, List, [], ◌∷◌, leb, ltb, eqb, get_or, drop, length, ℤ, pos, Ok, Err}
use Rattle.model.specs.declared.Ty.{Ty}
use Rattle.model.specs.Bytes.{value_at}
use Rattle.model.specs.Values.{bool, no_type, is_bool, is_number, is_plain, same_type, in_precision, within, wrap, is_true, Outcome, gives, apply, apply_one}

-- an operator stands with its code
pub data Exp : Type 0 where
  literal : Ty → ℤ → Exp
  matched : ℕ → Exp
  variable : ℕ → Exp
  cast : Ty → Exp → Exp
  one : ℕ → Exp → Exp
  two : ℕ → Exp → Exp → Exp
  if : Exp → Exp → Exp → Exp

-- ── form ─────────────────────────────────────────────────────────────────────────────────────

-- what a reader finds at the start of a stretch: a fault of form, or a thing and the bytes it takes
pub data Read (A : Type 0) : Type 0 where
  bad : Read A
  got : A → ℕ → Read A

-- go on with what was read and the bytes it took
unfoldable pub after : {A B : Type 0} → Read A → (A → ℕ → Read B) → Read B
after bad f = bad
after (got a n) f = f a n

-- k things one after another
unfoldable pub read_many : {A : Type 0} → (List ℕ → Read A) → ℕ → List ℕ → Read (List A)
read_many f zero s = got [] 0
read_many f (suc k) s = after (f s) (λ a n. after (read_many f k (drop n s)) (λ rest m. got (a ∷ rest) (n + m)))

-- the bytes before the operands: code; of a literal kind, p and four bytes; of a reference its number; of a cast kind and p
unfoldable pub head_size : ℕ → ℕ
head_size c = cond (eqb c 0) 7 (cond (leb c 2) 2 (cond (eqb c 3) 3 1))

-- 0 literal, 1 matched value, 2 variable; 3 cast, 4 not, 5 lnot; 10 to 27 with two operands; 30 if
unfoldable pub operands : ℕ → ℕ
operands c = cond (leb c 2) 0 (cond (leb c 5) 1 (cond (leb c 27) 2 3))

unfoldable pub known_code : ℕ → Bool  -- a code of the list
known_code c = leb c 5 || (leb 10 c && leb c 27) || eqb c 30

-- a literal and a cast name a kind, 0 to 4
unfoldable pub known_kind : ℕ → ℕ → Bool
known_kind c kind = not (eqb c 0 || eqb c 3) || leb kind 4

-- the head at the start of a stretch is whole and known
unfoldable pub head_fits : List ℕ → Bool
head_fits s = let c = get_or s 0 0 in ltb 0 (length s) && known_code c && leb (head_size c) (length s) && known_kind c (get_or s 1 0)

unfoldable pub type_at : List ℕ → ℕ → Ty  -- kind and p at an offset
type_at s at = record { kind = get_or s at 0; p = get_or s (at + 1) 0 }

unfoldable pub nothing_read : Exp  -- where no operand was read
nothing_read = literal no_type (pos 0)

-- the expression with this head and these operands
unfoldable pub build : List ℕ → List Exp → Exp
build s es =
    let c = get_or s 0 0 in
    let e = get_or es 0 nothing_read in
    let f = get_or es 1 nothing_read in
    cond (eqb c 0) (literal (type_at s 1) (value_at s 3))
    (cond (eqb c 1) (matched (get_or s 1 0))
    (cond (eqb c 2) (variable (get_or s 1 0))
    (cond (eqb c 3) (cast (type_at s 1) e)
    (cond (leb c 5) (one c e)
    (cond (leb c 27) (two c e f)
    (if e f (get_or es 2 nothing_read)))))))

-- where the test holds, what follows
unfoldable pub provided : {A : Type 0} → Bool → Read A → Read A
provided true r = r
provided false r = bad

-- the expression at the start of a stretch, of depth d at most: operands follow their operator
unfoldable pub read_exp : ℕ → List ℕ → Read Exp
read_exp zero s = bad
read_exp (suc d) s =
    let c = get_or s 0 0 in
    let r = after (read_many (λ u. read_exp d u) (operands c) (drop (head_size c) s)) (λ es n. got (build s es) (head_size c + n)) in
    provided (head_fits s) r

-- of any depth: no expression is deeper than its bytes are many
unfoldable pub expression : List ℕ → Read Exp
expression s = read_exp (length s) s

-- ── size, depth, limits ──────────────────────────────────────────────────────────────────────

unfoldable pub size_of : Exp → ℕ  -- the bytes it takes
size_of (literal t z) = 7
size_of (matched i) = 2
size_of (variable j) = 2
size_of (cast t e) = 3 + size_of e
size_of (one o e) = 1 + size_of e
size_of (two o e f) = 1 + size_of e + size_of f
size_of (if c e f) = 1 + size_of c + size_of e + size_of f

-- a literal or reference has depth 1
unfoldable pub depth_of : Exp → ℕ
depth_of (literal t z) = 1
depth_of (matched i) = 1
depth_of (variable j) = 1
depth_of (cast t e) = suc (depth_of e)
depth_of (one o e) = suc (depth_of e)
depth_of (two o e f) = suc (max (depth_of e) (depth_of f))
depth_of (if c e f) = suc (max (depth_of c) (max (depth_of e) (depth_of f)))

-- each precision that it names is 1 to 30
unfoldable pub precise : Exp → Bool
precise (literal t z) = in_precision t
precise (matched i) = true
precise (variable j) = true
precise (cast t e) = in_precision t && precise e
precise (one o e) = precise e
precise (two o e f) = precise e && precise f
precise (if c e f) = precise c && precise e && precise f

unfoldable pub expression_limits : Exp → Bool  -- depth 16 at most
expression_limits e = leb (depth_of e) 16 && precise e

-- ── type ─────────────────────────────────────────────────────────────────────────────────────

-- what a rule's expressions may name: the type of each input's matched value, no type where its pattern matches none; of each variable
pub record Scope : Type 0 where
  pub ins : List Ty
  pub vars : List Ty

-- a type, or the offset of what fails, from the expression's start
pub data Typed : Type 0 where
  typed : Ty → Typed
  ill : ℕ → Typed

unfoldable pub judged : Bool → Ty → Typed  -- the type, if the rule holds
judged true t = typed t
judged false t = ill 0

-- the operand at an offset first, then the operator over it
unfoldable pub operand_at : ℕ → Typed → (Ty → Typed) → Typed
operand_at at (typed t) f = f t
operand_at at (ill k) f = ill (at + k)

unfoldable pub count_type : Ty  -- a shift's count: unsigned, p = 5
count_type = record { kind = 2; p = 5 }

-- not takes a bool, lnot a number
unfoldable pub one_type : ℕ → Ty → Typed
one_type o t = judged (cond (eqb o 4) (is_bool t) (is_number t)) t

-- arithmetic and bitwise: numbers of one type; shifts: a number and a count; = and !=: one type; the other comparisons: numbers of one
-- type; && and ||: bools
unfoldable pub two_type : ℕ → Ty → Ty → Typed
two_type o t u =
    cond (leb o 17) (judged (is_number t && same_type t u) t)
    (cond (leb o 19) (judged (is_number t && same_type u count_type) t)
    (cond (leb o 21) (judged (same_type t u) bool)
    (cond (leb o 25) (judged (is_number t && same_type t u) bool)
    (judged (is_bool t && is_bool u) bool))))

unfoldable pub type_of : Scope → Exp → Typed  -- worked out from its operands
type_of sc (literal t z) = judged (is_plain t && within t z) t
type_of sc (matched i) = let t = get_or sc.ins i no_type in judged (is_plain t) t
type_of sc (variable j) = let t = get_or sc.vars j no_type in judged (is_plain t) t
type_of sc (cast t e) = operand_at 3 (type_of sc e) (λ u. judged (is_number t && is_number u) t)
type_of sc (one o e) = operand_at 1 (type_of sc e) (λ t. one_type o t)
type_of sc (two o e f) = operand_at 1 (type_of sc e) (λ t. operand_at (1 + size_of e) (type_of sc f) (λ u. two_type o t u))
type_of sc (if c e f) =
    operand_at 1 (type_of sc c)
    (λ b. operand_at (1 + size_of c) (type_of sc e)
    (λ t. operand_at (1 + size_of c + size_of e) (type_of sc f)
    (λ u. judged (is_bool b && same_type t u) t)))

-- ── value ────────────────────────────────────────────────────────────────────────────────────

-- what an expression is worked out from: the types, the matched values, the variables before the firing
pub record Env : Type 0 where
  pub scope : Scope
  pub ins : List ℤ
  pub vars : List ℤ

unfoldable pub then : Outcome → (Ty → ℤ → Outcome) → Outcome  -- go on with a value; a fault ends it
then (Ok v) f = f v.ty v.value
then (Err x) f = Err x

-- both sides of && and || are worked out; an if works out one branch
unfoldable pub value_of : Env → Exp → Outcome
value_of en (literal t z) = gives t z
value_of en (matched i) = gives (get_or en.scope.ins i no_type) (get_or en.ins i (pos 0))
value_of en (variable j) = gives (get_or en.scope.vars j no_type) (get_or en.vars j (pos 0))
value_of en (cast t e) = then (value_of en e) (λ u a. gives t (wrap t a))
value_of en (one o e) = then (value_of en e) (λ t a. apply_one o t a)
value_of en (two o e f) = then (value_of en e) (λ t a. then (value_of en f) (λ u b. apply o t a b))
value_of en (if c e f) =
    let yes-value = value_of en e in
    let no_value = value_of en f in
    then (value_of en c) (λ t a. cond (is_true a) yes-value no_value)
