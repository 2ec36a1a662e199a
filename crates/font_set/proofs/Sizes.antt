-- Bounds of widths and resolutions.
use Rattle.std.proofs.Common.{◌≡◌, ◌⊎◌, inl, inr, ℕ, zero, suc, ◌+◌, ◌-◌, ◌*◌, ◌/◌, ◌^◌, ◌<◌, ◌≤◌, ℤ, pos, negsuc, ◌+ℤ◌, ◌-ℤ◌, ◌*ℤ◌, ◌<ℤ◌, ◌≤ℤ◌, ◌||◌, to_z, of_z, w8, w64, Fits, Bool, true, false, List, drop, arith, refl, ap, sym, subst, ◌∙◌, nat_lt, Option, Some, None, slice_index, if◌then◌else◌}
use Rattle.std.specs.Prelude.{unsigned_abs, ◌==◌, slice_index_or}
use Rattle.std.proofs.lemmas.Bool.Decides.{nat_tests}
use Rattle.std.proofs.lemmas.Int.{ints, unsigned_abs-mul, to_z-of_z, fits_signed_from_abs}
use Rattle.std.proofs.lemmas.Nat.{mul-le}
use Rattle.std.proofs.lemmas.List.{get_or-drop}
use Rattle.std.proofs.lemmas.List.FromFn.{get_or-map-range_with_len}
use Rattle.byteorder.specs.Endian.{big_number, twos_complement}
use Rattle.dv_base.specs.Numbers.{signed}
use Rattle.dv_base.specs.Scale.{halvings, first_byte, other_bytes, scaled}
use Rattle.dv_base.specs.ScaleLaws.{halvings-least}
use Rattle.tfm_widths.specs.Lengths.{bc, ec}
use Rattle.tfm_widths.specs.Widths.{Table, IsTfm, IsSound, width_of, width_in, widths_below, fix_word, index_of, widths_at}
use Rattle.std.proofs.Math.Nat.{div-lt_iff_lt-mul}
use Rattle.dv_base.specs.declared.units.Units.{Units}
use Rattle.font_set.specs.Key.{Key, IsUnits}
use Rattle.font_set.specs.FontOf.{resolution}
use Rattle.font_set.specs.Stored.{IsFine, AreFine, AreUnits}

-- ---- scaled widths

most_bits : (k m : ℕ) → k ≤ 4 → m < 2 ^ 47 → m / 2 ^ (20 - k) < 2 ^ 31
most_bits zero m few l = omega arith
most_bits (suc zero) m few l = omega arith
most_bits (suc (suc zero)) m few l = omega arith
most_bits (suc (suc (suc zero))) m few l = omega arith
most_bits (suc (suc (suc (suc zero)))) m few l = omega arith
most_bits (suc (suc (suc (suc (suc k))))) m few l = absurd (omega arith)

alpha : (k : ℕ) → k ≤ 4 → 2 ^ (4 + k) ≤ 256
alpha zero few = omega arith
alpha (suc zero) few = omega arith
alpha (suc (suc zero)) few = omega arith
alpha (suc (suc (suc zero))) few = omega arith
alpha (suc (suc (suc (suc zero)))) few = omega arith
alpha (suc (suc (suc (suc (suc k))))) few = absurd (omega arith)

few_halvings : (z : ℕ) → halvings z ≤ 4
unfolding halvings
few_halvings z = grind (arith, nat_tests)

first_byte-one : (f : ℤ) → unsigned_abs f ≤ 2 ^ 24 → unsigned_abs (first_byte f) ≤ 1
first_byte-one (pos n) l = omega (arith, ints)
first_byte-one (negsuc n) l = omega (arith, ints)

other_bytes-small : (f : ℤ) → other_bytes f < 2 ^ 24
other_bytes-small (pos n) = omega (arith, ints)
other_bytes-small (negsuc n) = omega (arith, ints)

abs_sum : (a : ℕ) (b : ℤ) → unsigned_abs (pos a +ℤ b) ≤ a + unsigned_abs b
abs_sum a (pos n) = omega (arith, ints)
abs_sum a (negsuc n) = omega (arith, ints)

pub scaled_bound : (z : ℕ) (f : ℤ) → z < 2 ^ 27 → unsigned_abs f ≤ 2 ^ 24 → unsigned_abs (scaled z f) < 2 ^ 32
unfolding scaled
scaled_bound z f l m =
    let k = halvings z in
    let s = z / 2 ^ k in
    let few : k ≤ 4 = few_halvings z in
    let small : s < 2 ^ 23 = (halvings-least z l).small in
    let others = other_bytes f in
    let most : others < 2 ^ 24 = other_bytes-small f in
    let product : s * others ≤ (2 ^ 23 - 1) * (2 ^ 24 - 1) = mul-le s others (2 ^ 23 - 1) (2 ^ 24 - 1) (omega arith) (omega arith) in
    let left : s * others / 2 ^ (20 - k) < 2 ^ 31 = most_bits k (s * others) few (omega arith) in
    let times : 2 ^ (4 + k) * s ≤ 256 * (2 ^ 23) = mul-le (2 ^ (4 + k)) s 256 (2 ^ 23) (alpha k few) (omega arith) in
    let byte : unsigned_abs (first_byte f) ≤ 1 = first_byte-one f m in
    let size : unsigned_abs (first_byte f *ℤ pos (2 ^ (4 + k) * s)) ≡ unsigned_abs (first_byte f) * (2 ^ (4 + k) * s) = unsigned_abs-mul (first_byte f) (pos (2 ^ (4 + k) * s)) in
    let right : unsigned_abs (first_byte f) * (2 ^ (4 + k) * s) ≤ 1 * (2 ^ 31) = mul-le (unsigned_abs (first_byte f)) (2 ^ (4 + k) * s) 1 (2 ^ 31) byte (omega arith) in
    let sum = abs_sum (s * others / 2 ^ (20 - k)) (first_byte f *ℤ pos (2 ^ (4 + k) * s)) in
    omega (arith, sum, size, right, left)

-- ---- widths of a TFM file

low_word : (c : Bool) (x : ℕ) → c ≡ true → unsigned_abs (if c then pos x else pos x -ℤ pos (2 ^ 32)) ≡ x
low_word true x e = refl
low_word false x e = absurd cc

high_word : (c : Bool) (x : ℕ) → c ≡ false → x < 2 ^ 32 → unsigned_abs (if c then pos x else pos x -ℤ pos (2 ^ 32)) ≡ 2 ^ 32 - x
high_word true x e l = absurd cc
high_word false x e l = omega (arith, ints)

word_small : (b r : ℕ) → r < 2 ^ 24 → (b ≡ 0) ⊎ (b ≡ 255) → unsigned_abs (twos_complement 4 (b * 2 ^ 24 + r)) ≤ 2 ^ 24
word_small b r l (inl e) = omega (arith, low_word (nat_lt (b * 2 ^ 24 + r) (2 ^ 31)) (b * 2 ^ 24 + r) (grind (arith, nat_tests, e)))
word_small b r l (inr e) = omega (arith, high_word (nat_lt (b * 2 ^ 24 + r) (2 ^ 31)) (b * 2 ^ 24 + r) (grind (arith, nat_tests, e)) (omega arith))

signed_small : (bytes : List ℕ) (at : ℕ) → ((i : ℕ) → slice_index bytes i < 256) → (slice_index bytes at ≡ 0) ⊎ (slice_index bytes at ≡ 255) → unsigned_abs (signed at 4 bytes) ≤ 2 ^ 24
unfolding signed
signed_small bytes at b w =
    let xs = drop at bytes in
    let rest = slice_index xs 1 * 65536 + (slice_index xs 2 * 256 + slice_index xs 3) in
    let first : slice_index xs 0 ≡ slice_index bytes at = get_or-drop at bytes 0 0 ∙ ap (λ (i : ℕ). slice_index bytes i) (omega arith) in
    let one : slice_index xs 1 < 256 = subst (λ (n : ℕ). n < 256) (sym (get_or-drop at bytes 1 0)) (b (at + 1)) in
    let two : slice_index xs 2 < 256 = subst (λ (n : ℕ). n < 256) (sym (get_or-drop at bytes 2 0)) (b (at + 2)) in
    let three : slice_index xs 3 < 256 = subst (λ (n : ℕ). n < 256) (sym (get_or-drop at bytes 3 0)) (b (at + 3)) in
    let whole : big_number 4 xs ≡ slice_index bytes at * 2 ^ 24 + rest = omega (arith, first) in
    subst (λ (n : ℕ). unsigned_abs (twos_complement 4 n) ≤ 2 ^ 24) (sym whole) (word_small (slice_index bytes at) rest (omega (arith, one, two, three)) w)

fix_or_none : (c : Bool) (fix : ℤ) → unsigned_abs fix ≤ 2 ^ 24 → IsFine (if c then None else Some fix)
fix_or_none true fix l = tt
fix_or_none false fix l = l

in_range : (c b e : ℕ) → (nat_lt c b || nat_lt e c) ≡ false → (b ≤ c) × (c < e + 1)
in_range c b e h = (grind (arith, nat_tests, h), grind (arith, nat_tests, h))

fine_width : (bytes : List ℕ) (code : ℕ) → ((i : ℕ) → slice_index bytes i < 256) → IsSound bytes → IsFine (width_of bytes code)
unfolding width_of
fine_width bytes code b s = by (nat_lt code (bc bytes) || nat_lt (ec bytes) code) refl
  where
    by : (o : Bool) → (nat_lt code (bc bytes) || nat_lt (ec bytes) code) ≡ o → IsFine (if o then None else (if index_of bytes code == 0 then None else Some (fix_word bytes (index_of bytes code))))
    by true e = tt
    by false e =
        let r = in_range code (bc bytes) (ec bytes) e in
        let w = s.widths (index_of bytes code) (s.indices code r.1 r.0) in
        fix_or_none (index_of bytes code == 0) (fix_word bytes (index_of bytes code)) (signed_small bytes (widths_at bytes + 4 * index_of bytes code) b w)

pub tfm_fine : (bytes : List ℕ) (tfm : Table) → ((i : ℕ) → slice_index bytes i < 256) → IsTfm bytes tfm → AreFine tfm
unfolding widths_below
tfm_fine bytes tfm b t code l =
    let same : width_in tfm code ≡ width_of bytes code =
    ap (λ (ws : List (Option ℤ)). (let o : Option ℤ = slice_index_or ws code None in o)) t.widths
    ∙ get_or-map-range_with_len (width_of bytes) 0 256 code code None l (omega arith) in
    subst IsFine (sym same) (fine_width bytes code b t.sound)

-- ---- resolutions

abs_most : (z : ℤ) (n : ℕ) → pos 0 <ℤ z → z ≤ℤ pos n → unsigned_abs z ≤ n
abs_most (pos k) n p l = omega (arith, ints)
abs_most (negsuc k) n p l = omega (arith, ints)

abs_below : (z : ℤ) (n : ℕ) → pos 0 <ℤ z → z <ℤ pos n → unsigned_abs z < n
abs_below (pos k) n p l = omega (arith, ints)
abs_below (negsuc k) n p l = omega (arith, ints)

pub dpi_is : (units : Units) → AreUnits units → to_z w64 (of_z w64 units.dpi) ≡ units.dpi
dpi_is units u = to_z-of_z w64 units.dpi (fits_signed_from_abs w64 units.dpi (omega (arith, abs_most units.dpi 10000 u.usable.dpi u.dpi)))

pub mag_is : (units : Units) → AreUnits units → to_z w64 (of_z w64 units.mag) ≡ units.mag
mag_is units u = to_z-of_z w64 units.mag (fits_signed_from_abs w64 units.mag (omega (arith, abs_below units.mag (2 ^ 31) u.usable.mag u.mag)))

pub resolution_fits : (units : Units) (d m s g : ℕ) → AreUnits units → d ≡ unsigned_abs units.dpi → m ≡ unsigned_abs units.mag → IsUnits s → IsUnits g
    → (2 * (d * m * s) < 2 ^ 80) × (2 * (d * m * s) + 1000 * g < 2 ^ 90) × ((2 * (d * m * s) + 1000 * g) / (2 * (1000 * g)) < 2 ^ 63)
resolution_fits units d m s g u a b i j =
    let dots : d ≤ 10000 = omega (arith, a, abs_most units.dpi 10000 u.usable.dpi u.dpi) in
    let magnified : m ≤ 2 ^ 31 = omega (arith, b, abs_below units.mag (2 ^ 31) u.usable.mag u.mag) in
    let two : d * m ≤ 10000 * 2 ^ 31 = mul-le d m 10000 (2 ^ 31) dots magnified in
    let three : d * m * s ≤ 10000 * 2 ^ 31 * 2 ^ 27 = mul-le (d * m) s (10000 * 2 ^ 31) (2 ^ 27) two (omega (arith, i.1)) in
    let less : 2 * (d * m * s) + 1000 * g < 2 ^ 63 * (2 * (1000 * g)) = omega (arith, three, j.0) in
    (omega (arith, three), omega (arith, three, j.1), (div-lt_iff_lt-mul (omega (arith, j.0))).1 less)

pub resolution_is : (units : Units) (key : Key) (d m s g : ℕ) → d ≡ unsigned_abs units.dpi → m ≡ unsigned_abs units.mag → s ≡ key.size → g ≡ key.design
    → (2 * (d * m * s) + 1000 * g) / (2 * (1000 * g)) ≡ resolution units key
unfolding resolution
resolution_is units key d m s g a b e f = rw (a, b, e, f) refl

-- what is known of a slice of bytes
pub byte_below : (bytes : List ℕ) → ((i : ℕ) → Fits w8 (slice_index bytes i)) → (i : ℕ) → slice_index bytes i < 256
byte_below bytes f i = omega (arith, f i)
