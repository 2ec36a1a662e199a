-- What a cursor takes, by its place in the bytes.
use Rattle.std.proofs.Common.{◌≡◌, ◌≤◌, ◌<◌, ◌+◌, ◌*◌, ◌^◌, ℕ, zero, suc, List, length, take, drop, get_or, refl, ap, subst, ◌∙◌, arith, length-drop}
use Rattle.std.specs.Prelude.{slice_index}
use Rattle.std.proofs.lemmas.List.{get_or-take, get_or-drop}
use Rattle.byteorder.specs.Endian.{big_from}
use Rattle.dv_base.specs.Cursor.{Reading, rest, moved}
use Rattle.dv_base.specs.Numbers.{unsigned}

-- the reading of these bytes at this place
abbrev pub at_place : List ℕ → ℕ → Reading
at_place bytes place = record { bytes = bytes; place = place }

-- a number in the first bytes is a number in all of them
in_front : (i n m : ℕ) (xs : List ℕ) → i + n ≤ m → big_from i n (take m xs) ≡ big_from i n xs
in_front i zero m xs h = refl
in_front i (suc n) m xs h =
    let byte : slice_index (take m xs) i ≡ slice_index xs i = get_or-take m xs i 0 (omega (arith, h)) in
    ap (λ (b : ℕ). b * 256 ^ n + big_from (suc i) n (take m xs)) byte ∙ ap (λ (b : ℕ). slice_index xs i * 256 ^ n + b) (in_front (suc i) n m xs (omega (arith, h)))

number_is : (n place : ℕ) (bytes : List ℕ) → unsigned 0 n (take n (drop place bytes)) ≡ unsigned place n bytes
unfolding unsigned
number_is n place bytes = in_front 0 n n (drop place bytes) (omega arith)

pub byte_is : (place : ℕ) (bytes : List ℕ) → unsigned place 1 bytes ≡ slice_index bytes place
unfolding unsigned
byte_is place bytes =
    let first : get_or (drop place bytes) 0 0 ≡ get_or bytes (place + 0) 0 = get_or-drop place bytes 0 0 in
    let here : place + 0 ≡ place = omega arith in
    let byte : slice_index (drop place bytes) 0 ≡ slice_index bytes place = first ∙ ap (λ (n : ℕ). get_or bytes n 0) here in
    omega (arith, byte)

-- one number further
pub number_taken : (bytes : List ℕ) (place n : ℕ) (old new : Reading) (x : ℕ) → place ≤ length bytes → old ≡ at_place bytes place
    → (n ≤ length (rest old)) × (x ≡ unsigned 0 n (take n (rest old))) × (new ≡ moved old n)
    → (place + n ≤ length bytes) × (x ≡ unsigned place n bytes) × (new ≡ at_place bytes (place + n))
number_taken bytes place n old new x h e t =
    let u : (n ≤ length (drop place bytes)) × (x ≡ unsigned 0 n (take n (drop place bytes))) × (new ≡ at_place bytes (place + n)) =
    subst (λ (r : Reading). (n ≤ length (rest r)) × (x ≡ unsigned 0 n (take n (rest r))) × (new ≡ moved r n)) e t in
    (omega (arith, u.0, length-drop place bytes, h), u.1 ∙ number_is n place bytes, u.2)

-- some bytes further
pub bytes_taken : (bytes : List ℕ) (place n : ℕ) (old new : Reading) (xs : List ℕ) → place ≤ length bytes → old ≡ at_place bytes place
    → (n ≤ length (rest old)) × (xs ≡ take n (rest old)) × (new ≡ moved old n)
    → (place + n ≤ length bytes) × (new ≡ at_place bytes (place + n))
bytes_taken bytes place n old new xs h e t =
    let u : (n ≤ length (drop place bytes)) × (new ≡ at_place bytes (place + n)) =
    subst (λ (r : Reading). (n ≤ length (rest r)) × (new ≡ moved r n)) e (t.0, t.2) in
    (omega (arith, u.0, length-drop place bytes, h), u.1)

-- too few bytes are left
pub none_taken : (bytes : List ℕ) (place n : ℕ) (old : Reading) → old ≡ at_place bytes place → length (rest old) < n → length bytes < place + n
none_taken bytes place n old e l =
    let u : length (drop place bytes) < n = subst (λ (r : Reading). length (rest r) < n) e l in
    omega (arith, u, length-drop place bytes)

-- three bytes from the front
pub three_taken : (bytes : List ℕ) (r s t u : Reading) (x y z : ℕ) → r ≡ at_place bytes 0
    → (1 ≤ length (rest r)) × (x ≡ unsigned 0 1 (take 1 (rest r))) × (s ≡ moved r 1)
    → (1 ≤ length (rest s)) × (y ≡ unsigned 0 1 (take 1 (rest s))) × (t ≡ moved s 1)
    → (1 ≤ length (rest t)) × (z ≡ unsigned 0 1 (take 1 (rest t))) × (u ≡ moved t 1)
    → (3 ≤ length bytes) × (x ≡ slice_index bytes 0) × (y ≡ slice_index bytes 1) × (z ≡ slice_index bytes 2) × (u ≡ at_place bytes 3)
three_taken bytes r s t u x y z e a b c =
    let f = number_taken bytes 0 1 r s x (omega arith) e a in
    let g = number_taken bytes 1 1 s t y f.0 f.2 b in
    let h = number_taken bytes 2 1 t u z g.0 g.2 c in
    (h.0, f.1 ∙ byte_is 0 bytes, g.1 ∙ byte_is 1 bytes, h.1 ∙ byte_is 2 bytes, h.2)
