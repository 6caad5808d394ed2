-- The whole state: a wire's or a process's bytes in it, another queue or other contents in their place, and the state read back.
-- Assumes nothing.
use Prim.Native.Nat.{ℕ, zero, suc, ◌+◌, ◌-◌, ◌≤◌, ◌<◌}
use mathlib.Core.Path.{◌≡◌, refl, sym, ap, ap₂, ◌∙◌}
use mathlib.Core.Bool.{Bool, true}
use mathlib.Core.List.{List, [], ◌∷◌, ◌++◌, map, zip_with}
use native.Mathlib.Omega.{arith}
use native.Mathlib.Nat.{add-sub_cancel_left, not-suc-le-zero, le_of_suc-le-suc}
use lib.ListN.{length, get_or, take, drop, set, length-append, length-map, length-drop, get_or-append}
use lib.Seq.{length-take-le, take-add, get_or-append-add, set-append_left}
use Rattle.model.specs.declared.Token.{Token}
use Rattle.model.specs.Network.{Net, Own, State, vars, no_wire, nobody, wire, proc, queue, own}
use Rattle.model.specs.States.{wire_bytes, own_bytes, cat, segments, bytes_of, wire_size, own_size, sum, wires_size, state_size, wire_fits, own_fits, queue_in, own_in, split, all_true, wire_parts, own_parts, state_fits, state_in}
use Rattle.model.proofs.Tests.{and_left, and_right}
use Rattle.octets.proofs.Laws.{Octets}
use Rattle.queues.specs.Segments.{mid, put_mid, start_of, wire_start, own_start}
use Rattle.queues.specs.Sound.{Both, neither, pair, Held, Kept, Sound}
use Rattle.queues.proofs.Segments.{lengths, length-cat, read_at_lem, put_at, start_in, sum_append, start_first, start_second, set_second, cat-append}
use Rattle.queues.proofs.Queues.{length_wire, length-own}
use Rattle.queues.proofs.Reading.{octets-take, octets-drop, wire_whole, wire_held, own_whole, own_kept}

-- ── pairs of lists ───────────────────────────────────────────────────────────────────────────

pub both_length : {A B : Type 0} {R : A → B → Type 0} {xs : List A} {ys : List B} → Both R xs ys → length xs ≡ length ys
both_length neither = refl
both_length (pair r rs) = ap suc (both_length rs)

pub both_at : {A B : Type 0} {R : A → B → Type 0} {xs : List A} {ys : List B} → Both R xs ys → (i : ℕ) (d : A) (e : B) → i < length xs → R (get_or xs i d) (get_or ys i e)
both_at neither i d e h = absurd (not-suc-le-zero h)
both_at (pair r rs) zero d e h = r
both_at (pair r rs) (suc i) d e h = both_at rs i d e (le_of_suc-le-suc h)

pub both_set : {A B : Type 0} {R : A → B → Type 0} {xs : List A} {ys : List B} → Both R xs ys → (i : ℕ) (d : A) (y : B) → R (get_or xs i d) y → Both R xs (set ys i y)
both_set neither i d y r = neither
both_set (pair q rs) zero d y r = pair r rs
both_set (pair q rs) (suc i) d y r = pair q (both_set rs i d y r)

pub zip_at : {A B C : Type 0} {R : A → B → Type 0} (f : A → B → C) {xs : List A} {ys : List B} → Both R xs ys → (i : ℕ) (d : A) (e : B) (z : C) → i < length xs → get_or (zip_with f xs ys) i z ≡ f (get_or xs i d) (get_or ys i e)
unfolding zip_with
zip_at f neither i d e z h = absurd (not-suc-le-zero h)
zip_at f (pair r rs) zero d e z h = refl
zip_at f (pair r rs) (suc i) d e z h = zip_at f rs i d e z (le_of_suc-le-suc h)

pub zip-set : {A B C : Type 0} {R : A → B → Type 0} (f : A → B → C) {xs : List A} {ys : List B} → Both R xs ys → (i : ℕ) (d : A) (y : B) → set (zip_with f xs ys) i (f (get_or xs i d) y) ≡ zip_with f xs (set ys i y)
unfolding zip_with
zip-set f neither i d y = refl
zip-set f (pair r rs) zero d y = refl
zip-set f (pair {x = a} {y = b} r rs) (suc i) d y = ap (λ l. f a b ∷ l) (zip-set f rs i d y)

pub zip_length : {A B C : Type 0} {R : A → B → Type 0} (f : A → B → C) {xs : List A} {ys : List B} → Both R xs ys → length (zip_with f xs ys) ≡ length xs
unfolding zip_with
zip_length f neither = refl
zip_length f (pair r rs) = ap suc (zip_length f rs)

zip_lengths : {A B : Type 0} {R : A → B → Type 0} (f : A → B → List ℕ) (g : A → ℕ) → ((x : A) (y : B) → R x y → length (f x y) ≡ g x) → {xs : List A} {ys : List B} → Both R xs ys → lengths (zip_with f xs ys) ≡ map g xs
unfolding zip_with
zip_lengths f g e neither = refl
zip_lengths f g e (pair {x = a} {y = b} r rs) = ap₂ (λ (n : ℕ) (l : List ℕ). n ∷ l) (e a b r) (zip_lengths f g e rs)

-- ── parts end within the state ───────────────────────────────────────────────────────────────

size_at : {A : Type 0} (f : A → ℕ) (xs : List A) (i : ℕ) (d : A) → i < length xs → get_or (map f xs) i 0 ≡ f (get_or xs i d)
size_at f [] i d l = absurd (not-suc-le-zero l)
size_at f (x ∷ xs) zero d l = refl
size_at f (x ∷ xs) (suc i) d l = size_at f xs i d (le_of_suc-le-suc l)

pub wire_in : (n : Net) (i : ℕ) → i < length n.wires → wire_start n i + wire_size (wire n i) ≤ wires_size n
unfolding wire_start wires_size wire
wire_in n i l = omega (arith, start_in (map wire_size n.wires) i (omega (arith, length-map n.wires wire_size)), size_at wire_size n.wires i no_wire l)

pub own_in_lem : (n : Net) (k : ℕ) → k < length n.procs → own_start n k + own_size (proc n k) ≤ state_size n
unfolding own_start state_size proc
own_in_lem n k l = omega (arith, start_in (map own_size n.procs) k (omega (arith, length-map n.procs own_size)), size_at own_size n.procs k nobody l)

-- ── sizes ────────────────────────────────────────────────────────────────────────────────────

map-append : {A B : Type 0} (f : A → B) (a b : List A) → map f (a ++ b) ≡ map f a ++ map f b
map-append f [] b = refl
map-append f (x ∷ a) b = ap (λ l. f x ∷ l) (map-append f a b)

module _ (n : Net) (s : State) (h : Sound n s) where
  pub wire_lengths : lengths (zip_with wire_bytes n.wires s.queues) ≡ map wire_size n.wires
  wire_lengths = zip_lengths wire_bytes wire_size (λ w q r. length_wire w q r.fits) h.wires

  pub own_lengths : lengths (zip_with own_bytes n.procs s.owns) ≡ map own_size n.procs
  own_lengths = zip_lengths own_bytes own_size (λ p o r. length-own r) h.procs

  pub all_lengths : lengths (segments n s) ≡ map wire_size n.wires ++ map own_size n.procs
  unfolding segments
  all_lengths = map-append (λ (x : List ℕ). length x) (zip_with wire_bytes n.wires s.queues) (zip_with own_bytes n.procs s.owns) ∙ ap₂ (λ (a b : List ℕ). a ++ b) wire_lengths own_lengths

  pub length_bytes : length (bytes_of n s) ≡ state_size n
  unfolding bytes_of state_size wires_size
  length_bytes = length-cat (segments n s) ∙ ap sum all_lengths ∙ sum_append (map wire_size n.wires) (map own_size n.procs)

  -- ── the bytes of a wire ──

  at_wire : (i : ℕ) → i < length n.wires → get_or (segments n s) i [] ≡ wire_bytes (wire n i) (queue s i)
  unfolding segments wire queue
  at_wire i l =
      get_or-append (zip_with wire_bytes n.wires s.queues) (zip_with own_bytes n.procs s.owns) [] i (omega (arith, zip_length wire_bytes h.wires))
      ∙ zip_at wire_bytes h.wires i no_wire [] [] l

  wire_place : (i : ℕ) → i < length n.wires → start_of (lengths (segments n s)) i ≡ wire_start n i
  unfolding wire_start
  wire_place i l =
      ap (λ (k : List ℕ). start_of k i) all_lengths
      ∙ start_first (map wire_size n.wires) (map own_size n.procs) i (omega (arith, length-map n.wires wire_size))

  wire_long : (i : ℕ) → i < length n.wires → length (wire_bytes (wire n i) (queue s i)) ≡ wire_size (wire n i)
  unfolding wire queue
  wire_long i l = length_wire (get_or n.wires i no_wire) (get_or s.queues i []) (both_at h.wires i no_wire [] l).fits

  in_all : (i : ℕ) → i < length n.wires → i < length (segments n s)
  unfolding segments
  in_all i l = omega (arith, length-append (zip_with wire_bytes n.wires s.queues) (zip_with own_bytes n.procs s.owns), zip_length wire_bytes h.wires)

  pub wire_read : (rest : List ℕ) (i : ℕ) → i < length n.wires → mid (wire_start n i) (wire_size (wire n i)) (bytes_of n s ++ rest) ≡ wire_bytes (wire n i) (queue s i)
  unfolding bytes_of
  wire_read rest i l = read_at_lem (segments n s) rest (wire_bytes (wire n i) (queue s i)) i (wire_start n i) (wire_size (wire n i)) (in_all i l) (wire_place i l) (at_wire i l) (wire_long i l)

  pub wire_put : (rest : List ℕ) (i : ℕ) (q : List Token) → i < length n.wires →
      put_mid (wire_start n i) (wire_size (wire n i)) (bytes_of n s ++ rest) (wire_bytes (wire n i) q) ≡ bytes_of n (record { queues = set s.queues i q; owns = s.owns }) ++ rest
  unfolding bytes_of segments wire
  wire_put rest i q l =
      let a : List (List ℕ) = zip_with wire_bytes n.wires s.queues in
      let b : List (List ℕ) = zip_with own_bytes n.procs s.owns in
      put_at (a ++ b) (zip_with wire_bytes n.wires (set s.queues i q) ++ b) rest (wire_bytes (wire n i) (queue s i)) (wire_bytes (wire n i) q) i (wire_start n i) (wire_size (wire n i)) (in_all i l) (wire_place i l) (at_wire i l) (wire_long i l)
      (set-append_left a b i (wire_bytes (wire n i) q) (omega (arith, zip_length wire_bytes h.wires)) ∙ ap (λ (x : List (List ℕ)). x ++ b) (zip-set wire_bytes h.wires i no_wire q))

  -- ── the bytes of a process ──

  number : ℕ → ℕ
  number k = length (zip_with wire_bytes n.wires s.queues) + k

  at_own : (k : ℕ) → k < length n.procs → get_or (segments n s) (number k) [] ≡ own_bytes (proc n k) (own s k)
  unfolding segments proc own number
  at_own k l = get_or-append-add (zip_with wire_bytes n.wires s.queues) (zip_with own_bytes n.procs s.owns) k [] ∙ zip_at own_bytes h.procs k nobody (vars []) [] l

  own-place : (k : ℕ) → start_of (lengths (segments n s)) (number k) ≡ own_start n k
  unfolding own_start wires_size number
  own-place k =
      let w : length (zip_with wire_bytes n.wires s.queues) ≡ length (map wire_size n.wires) = zip_length wire_bytes h.wires ∙ sym (length-map n.wires wire_size) in
      ap₂ (λ (x : List ℕ) (m : ℕ). start_of x (m + k)) all_lengths w ∙ start_second (map wire_size n.wires) (map own_size n.procs) k

  own_long : (k : ℕ) → k < length n.procs → length (own_bytes (proc n k) (own s k)) ≡ own_size (proc n k)
  unfolding proc own
  own_long k l = length-own (both_at h.procs k nobody (vars []) l)

  in_both : (k : ℕ) → k < length n.procs → number k < length (segments n s)
  unfolding segments number
  in_both k l = omega (arith, length-append (zip_with wire_bytes n.wires s.queues) (zip_with own_bytes n.procs s.owns), zip_length own_bytes h.procs)

  pub own_read : (rest : List ℕ) (k : ℕ) → k < length n.procs → mid (own_start n k) (own_size (proc n k)) (bytes_of n s ++ rest) ≡ own_bytes (proc n k) (own s k)
  unfolding bytes_of
  own_read rest k l = read_at_lem (segments n s) rest (own_bytes (proc n k) (own s k)) (number k) (own_start n k) (own_size (proc n k)) (in_both k l) (own-place k) (at_own k l) (own_long k l)

  pub own_put : (rest : List ℕ) (k : ℕ) (o : Own) → k < length n.procs →
      put_mid (own_start n k) (own_size (proc n k)) (bytes_of n s ++ rest) (own_bytes (proc n k) o) ≡ bytes_of n (record { queues = s.queues; owns = set s.owns k o }) ++ rest
  unfolding bytes_of segments proc number
  own_put rest k o l =
      let a : List (List ℕ) = zip_with wire_bytes n.wires s.queues in
      let b : List (List ℕ) = zip_with own_bytes n.procs s.owns in
      put_at (a ++ b) (a ++ zip_with own_bytes n.procs (set s.owns k o)) rest (own_bytes (proc n k) (own s k)) (own_bytes (proc n k) o) (number k) (own_start n k) (own_size (proc n k)) (in_both k l) (own-place k) (at_own k l) (own_long k l)
      (set_second a b k (own_bytes (proc n k) o) ∙ ap (λ (x : List (List ℕ)). a ++ x) (zip-set own_bytes h.procs k nobody o))

  -- ── a lent part: what it is, and the state when another comes back in its place ──

  module _ (whole rest : List ℕ) (e : whole ≡ bytes_of n s ++ rest) where
    pub wire_part : (i a b : ℕ) → i < length n.wires → a ≡ wire_start n i → b ≡ a + wire_size (wire n i) → mid a (b - a) whole ≡ wire_bytes (wire n i) (queue s i)
    wire_part i a b l p q = rw (q, add-sub_cancel_left a (wire_size (wire n i)), p, e) (wire_read rest i l)

    pub wire_edit : (f : List ℕ → List ℕ) (last : List ℕ) (t : List Token) (i a b : ℕ) → i < length n.wires → a ≡ wire_start n i → b ≡ a + wire_size (wire n i) →
        last ≡ f (mid a (b - a) whole) → f (wire_bytes (wire n i) (queue s i)) ≡ wire_bytes (wire n i) t → put_mid a (b - a) whole last ≡ bytes_of n (record { queues = set s.queues i t; owns = s.owns }) ++ rest
    wire_edit f last t i a b l p q x y =
        let z : last ≡ wire_bytes (wire n i) t = x ∙ ap f (wire_part i a b l p q) ∙ y in
        rw (z, q, add-sub_cancel_left a (wire_size (wire n i)), p, e) (wire_put rest i t l)

    pub own_part : (k a b : ℕ) → k < length n.procs → a ≡ own_start n k → b ≡ a + own_size (proc n k) → mid a (b - a) whole ≡ own_bytes (proc n k) (own s k)
    own_part k a b l p q = rw (q, add-sub_cancel_left a (own_size (proc n k)), p, e) (own_read rest k l)

    pub own_edit : (f : List ℕ → List ℕ) (last : List ℕ) (o : Own) (k a b : ℕ) → k < length n.procs → a ≡ own_start n k → b ≡ a + own_size (proc n k) →
        last ≡ f (mid a (b - a) whole) → f (own_bytes (proc n k) (own s k)) ≡ own_bytes (proc n k) o → put_mid a (b - a) whole last ≡ bytes_of n (record { queues = s.queues; owns = set s.owns k o }) ++ rest
    own_edit f last o k a b l p q x y =
        let z : last ≡ own_bytes (proc n k) o = x ∙ ap f (own_part k a b l p q) ∙ y in
        rw (z, q, add-sub_cancel_left a (own_size (proc n k)), p, e) (own_put rest k o l)

-- ── bytes that fit ───────────────────────────────────────────────────────────────────────────

-- part by part: each part is the layout of what it holds
module _ {A B : Type 0} (f : A → B → List ℕ) (g : A → List ℕ → B) (size : A → ℕ) (fits : A → List ℕ → Bool) where
  zip_whole : ((x : A) (s : List ℕ) → Octets s → length s ≡ size x → fits x s ≡ true → f x (g x s) ≡ s) →
      (xs : List A) (s : List ℕ) → Octets s → sum (map size xs) ≤ length s → all_true (zip_with fits xs (split (map size xs) s)) ≡ true →
      cat (zip_with f xs (zip_with g xs (split (map size xs) s))) ≡ take (sum (map size xs)) s
  unfolding zip_with split all_true cat sum
  zip_whole e [] s b l t = refl
  zip_whole e (x ∷ xs) s b l t =
      let p : List ℕ = take (size x) s in
      let r : List ℕ = drop (size x) s in
      let m : length p ≡ size x = length-take-le (size x) s (omega arith) in
      let k : sum (map size xs) ≤ length r = simp length-drop (omega arith) in
      ap₂ (λ (y z : List ℕ). y ++ z) (e x p (octets-take (size x) s b) m (and_left (fits x p) (all_true (zip_with fits xs (split (map size xs) r))) t))
      (zip_whole e xs r (octets-drop (size x) s b) k (and_right (fits x p) (all_true (zip_with fits xs (split (map size xs) r))) t)) ∙ sym (take-add (size x) (sum (map size xs)) s)

  pub zip_sound : (R : A → B → Type 0) → ((x : A) (s : List ℕ) → Octets s → fits x s ≡ true → R x (g x s)) →
      (xs : List A) (s : List ℕ) → Octets s → all_true (zip_with fits xs (split (map size xs) s)) ≡ true → Both R xs (zip_with g xs (split (map size xs) s))
  unfolding zip_with split all_true
  zip_sound R e [] s b t = neither
  zip_sound R e (x ∷ xs) s b t =
      let p : List ℕ = take (size x) s in
      let r : List ℕ = drop (size x) s in
      pair (e x p (octets-take (size x) s b) (and_left (fits x p) (all_true (zip_with fits xs (split (map size xs) r))) t))
      (zip_sound R e xs r (octets-drop (size x) s b) (and_right (fits x p) (all_true (zip_with fits xs (split (map size xs) r))) t))

module _ (n : Net) (counted : Bool) (s : List ℕ) (b : Octets s) (t : state_fits n counted s ≡ true) where
  wires_fit_lem : all_true (zip_with wire_fits n.wires (split (map wire_size n.wires) s)) ≡ true
  unfolding state_fits wire_parts own_parts
  wires_fit_lem = and_left (all_true (zip_with wire_fits n.wires (wire_parts n s))) (all_true (zip_with (own_fits n counted) n.procs (own_parts n s))) t

  owns_fit_lem : all_true (zip_with (own_fits n counted) n.procs (split (map own_size n.procs) (drop (wires_size n) s))) ≡ true
  unfolding state_fits wire_parts own_parts
  owns_fit_lem = and_right (all_true (zip_with wire_fits n.wires (wire_parts n s))) (all_true (zip_with (own_fits n counted) n.procs (own_parts n s))) t

  -- bytes that fit are the bytes of the state that they hold
  pub state_whole : state_size n ≤ length s → bytes_of n (state_in n s) ≡ take (state_size n) s
  unfolding bytes_of segments state_in wire_parts own_parts state_size wires_size
  state_whole l =
      let ws : ℕ = sum (map wire_size n.wires) in
      let r : List ℕ = drop ws s in
      let k : sum (map own_size n.procs) ≤ length r = simp length-drop (omega arith) in
      cat-append (zip_with wire_bytes n.wires (zip_with queue_in n.wires (split (map wire_size n.wires) s))) (zip_with own_bytes n.procs (zip_with own_in n.procs (split (map own_size n.procs) r)))
      ∙ ap₂ (λ (x y : List ℕ). x ++ y) (zip_whole wire_bytes queue_in wire_size wire_fits wire_whole n.wires s b (omega arith) wires_fit_lem)
      (zip_whole own_bytes own_in own_size (own_fits n counted) (own_whole n counted) n.procs r (octets-drop ws s b) k owns_fit_lem)
      ∙ sym (take-add ws (sum (map own_size n.procs)) s)

  pub state_sound : Sound n (state_in n s)
  unfolding state_in wire_parts own_parts
  state_sound = record {
    wires = zip_sound wire_bytes queue_in wire_size wire_fits Held wire_held n.wires s b wires_fit_lem;
    procs = zip_sound own_bytes own_in own_size (own_fits n counted) Kept (own_kept n counted) n.procs (drop (wires_size n) s) (octets-drop (wires_size n) s b) owns_fit_lem;
  }
