-- What a font tells of packets: one packet more, and the sum of its bitmaps.
use Rattle.std.proofs.Common.{◌≡◌, ◌≢◌, ℕ, zero, suc, ◌+◌, ◌-◌, ◌*◌, ◌<◌, ◌≤◌, ⊎_elim, refl, sym, ◌∙◌, ap, subst, arith, List, [], ◌∷◌, ◌++◌, length, set, length-set, get_or, nat_eq, nat_lt, cond, length-append}
use Rattle.std.specs.Prelude.{replicate}
use Rattle.std.specs.List.{AllByRecursion, sum_by, flat_map}
use Rattle.std.proofs.lemmas.Bool.{cond-true, cond-false, cases_eq, cases_lt}
use Rattle.std.proofs.lemmas.Bool.Decides.{nat_tests}
use Rattle.std.proofs.lemmas.List.{get_or-set_same, get_or-set_other, get_or_past, length-replicate}
use Rattle.std.proofs.lemmas.List.Sums.{sum_by-cons, sum_by-set}
use Rattle.pk_raster.specs.Bits.{padded}
use Rattle.pk_raster.specs.Runs.{repeated, repeats}
use Rattle.pk_raster.specs.Font.{Font, Known, glyph_at, known_bytes, size}
use Rattle.pk_raster.specs.Font.Known.{Nothing, Large, Bits}
use Rattle.pk_raster.specs.Parts.{Packet, Part}
use Rattle.pk_raster.specs.Parts.Part.{Other, Character}
use Rattle.pk_raster.specs.Glyph.{IsGlyph, Draws, Pads, width, height, bitmap_bytes, stride, dyn_f}
use Rattle.pk_raster.specs.File.{characters, times, Tells}
use Rattle.bit_lanes.specs.BitLaws.{length_bits}

-- a font with one entry changed
abbrev pub with_glyph : Font → ℕ → Known → Font
with_glyph font code k = record { checksum = font.checksum; glyphs = set font.glyphs code k }

-- counts of codes

pub times_here : (code : ℕ) (p : Packet) (ps : List Packet) → p.code ≡ code → times code (p ∷ ps) ≡ 1 + times code ps
unfolding times
times_here code p ps e = cond-true (nat_eq p.code code) _ _ (grind (arith, nat_tests))

pub times_other : (code : ℕ) (p : Packet) (ps : List Packet) → p.code ≢ code → times code (p ∷ ps) ≡ times code ps
unfolding times
times_other code p ps e = cond-false (nat_eq p.code code) _ _ (grind (arith, nat_tests))

pub times_nil : (code : ℕ) → times code [] ≡ 0
unfolding times
times_nil code = refl

times_more : (code : ℕ) (p : Packet) (ps : List Packet) → times code ps ≤ times code (p ∷ ps)
times_more code p ps = ⊎_elim (λ e. omega (arith, times_here code p ps e)) (λ e. omega (arith, times_other code p ps e)) (cases_eq p.code code)

pub times-append : (code : ℕ) (ps qs : List Packet) → times code (ps ++ qs) ≡ times code ps + times code qs
times-append code [] qs = omega (arith, times_nil code)
times-append code (p ∷ ps) qs =
    let e = times-append code ps qs in
    ⊎_elim (λ h. omega (arith, times_here code p (ps ++ qs) h, times_here code p ps h, e)) (λ h. omega (arith, times_other code p (ps ++ qs) h, times_other code p ps h, e)) (cases_eq p.code code)

pub characters-append : (ps qs : List Part) → characters (ps ++ qs) ≡ characters ps ++ characters qs
unfolding characters
characters-append [] qs = refl
characters-append (Other ∷ ps) qs = characters-append ps qs
characters-append (Character p ∷ ps) qs =
    ⊎_elim
    (λ h. cond-true (nat_lt 255 p.code) _ _ (grind (arith, nat_tests)) ∙ characters-append ps qs ∙ sym (ap (λ xs. xs ++ characters qs) (cond-true (nat_lt 255 p.code) (characters ps) (p ∷ characters ps) (grind (arith, nat_tests)))))
    (λ h. cond-false (nat_lt 255 p.code) _ _ (grind (arith, nat_tests)) ∙ ap (λ xs. p ∷ xs) (characters-append ps qs) ∙ sym (ap (λ xs. xs ++ characters qs) (cond-false (nat_lt 255 p.code) (characters ps) (p ∷ characters ps) (grind (arith, nat_tests)))))
    (cases_lt 255 p.code)

pub no_character : characters (Other ∷ []) ≡ []
unfolding characters
no_character = refl

pub passed_over : (p : Packet) → 255 < p.code → characters (Character p ∷ []) ≡ []
unfolding characters
passed_over p h = cond-true (nat_lt 255 p.code) _ _ (grind (arith, nat_tests))

pub one_character : (p : Packet) (ps : List Part) → p.code ≤ 255 → characters (Character p ∷ ps) ≡ p ∷ characters ps
unfolding characters
one_character p ps h = cond-false (nat_lt 255 p.code) _ _ (grind (arith, nat_tests))

-- a glyph is told

kind : Known → ℕ
kind Nothing = 0
kind (Large b) = 1
kind (Bits b) = 2

pub is_told : (p : Packet) (k : Known) → IsGlyph p k → k ≢ Nothing
unfolding kind
is_told p k g e =
    ⊎_elim
    (λ h. absurd (omega (arith, ap kind (sym (g.large h) ∙ e))))
    (λ h. absurd (omega (arith, ap kind (sym (g.kept h).1 ∙ e))))
    (cases_lt 65535 (bitmap_bytes (width p.flag p.content) (height p.flag p.content)))

-- a font whose entry for a code is nothing tells no packet of the code
pub untold : (font : Font) (ps : List Packet) (code : ℕ) → AllByRecursion (λ p. IsGlyph p (glyph_at font p.code)) ps → glyph_at font code ≡ Nothing → times code ps ≡ 0
untold font [] code a n = times_nil code
untold font (p ∷ ps) code a n =
    ⊎_elim
    (λ e. absurd (is_told p (glyph_at font p.code) a.0 (ap (glyph_at font) e ∙ n)))
    (λ e. times_other code p ps e ∙ untold font ps code a.1 n)
    (cases_eq p.code code)

others_same : (font : Font) (ps : List Packet) (code : ℕ) (k : Known) → times code ps ≡ 0 → AllByRecursion (λ p. IsGlyph p (glyph_at font p.code)) ps → AllByRecursion (λ p. IsGlyph p (glyph_at (with_glyph font code k) p.code)) ps
others_same font [] code k z a = tt
others_same font (p ∷ ps) code k z a =
    let ne : p.code ≢ code = λ e. absurd (omega (arith, times_here code p ps e, z)) in
    (subst (IsGlyph p) (sym (get_or-set_other font.glyphs code p.code k Nothing ne)) a.0, others_same font ps code k (omega (arith, times_other code p ps ne, z)) a.1)

all_push : (P : Packet → Type 0) (ps : List Packet) (p : Packet) → AllByRecursion P ps → P p → AllByRecursion P (ps ++ p ∷ [])
all_push P [] p a h = (h, tt)
all_push P (q ∷ ps) p a h = (a.0, all_push P ps p a.1 h)

-- the sum of the bitmaps

copied : (w : ℕ) (row : List ℕ) (rest : List (List ℕ)) (n : ℕ) → length row ≡ w → AllByRecursion (λ r. length r ≡ w) rest → AllByRecursion (λ r. length r ≡ w) (replicate n row ++ rest)
copied w row rest zero e a = a
copied w row rest (suc n) e a = (e, copied w row rest n e a)

rows_repeated : (w : ℕ) (counts : ℕ → ℕ) (base : List (List ℕ)) → AllByRecursion (λ row. length row ≡ w) base → AllByRecursion (λ row. length row ≡ w) (repeated counts base)
unfolding repeated
rows_repeated w counts [] a = tt
rows_repeated w counts (row ∷ base) a = copied w row (repeated (λ i. counts (suc i)) base) (1 + counts 0) a.0 (rows_repeated w (λ i. counts (suc i)) base a.1)

empty_wide : (w h n : ℕ) → h * w ≡ 0 → n ≤ h → AllByRecursion (λ (row : List ℕ). length row ≡ w) (replicate n [])
empty_wide w h zero z l = tt
empty_wide w zero (suc n) z l = absurd (omega arith)
empty_wide zero (suc h) (suc n) z l = (refl, empty_wide zero (suc h) n z (omega arith))
empty_wide (suc w) (suc h) (suc n) z l = absurd (omega (arith, z))

-- h rows of w pixels are drawn
pub drawn_rows : (flag w h : ℕ) (given : List ℕ) (rows : List (List ℕ)) → Draws flag w h given rows → AllByRecursion (λ row. length row ≡ w) rows × (length rows ≡ h)
drawn_rows flag w h given rows d =
    ⊎_elim
    (λ z. (let e = (d.blank z).1 in
    let W : List (List ℕ) → Type 0 = λ rs. AllByRecursion (λ row. length row ≡ w) rs × (length rs ≡ h) in
    subst W (sym e) (empty_wide w h h z (omega arith), length-replicate h [])))
    (λ nz. ⊎_elim
    (λ e. (let p = d.plain (omega (arith, nz)) e in (p.wide, p.height)))
    (λ ne. (let r = d.runs (omega (arith, nz)) ne in
    let W : List (List ℕ) → Type 0 = λ rs. AllByRecursion (λ row. length row ≡ w) rs in
    (subst W (sym r.makes.all) (rows_repeated w (repeats w 0 r.items) r.makes.base r.makes.wide), r.height)))
    (cases_eq (dyn_f flag) 14))
    (cases_eq (h * w) 0)

padded_rows : (w n : ℕ) (rows : List (List ℕ)) → w ≤ n → AllByRecursion (λ row. length row ≡ w) rows → length (flat_map (padded n) rows) ≡ length rows * n
padded_rows w n [] l a = omega arith
padded_rows w n (row ∷ rows) l a =
    let e = padded_rows w n rows l a.1 in
    omega (arith, e, a.0, l, length-append (padded n row) (flat_map (padded n) rows), length-append row (replicate {A = ℕ} (n - length row) 0), length-replicate {A = ℕ} (n - length row) 0)

-- a bitmap has the bytes that its sizes say
pub drawn_bytes : (flag w h : ℕ) (given bytes : List ℕ) (rows : List (List ℕ)) → Draws flag w h given rows → Pads w rows bytes → length bytes ≡ bitmap_bytes w h
drawn_bytes flag w h given bytes rows d s =
    let r = drawn_rows flag w h given rows d in
    let q = padded_rows w (8 * stride w) rows (omega arith) r.0 in
    let t : length rows * (8 * stride w) ≡ h * (8 * stride w) = ap (λ k. k * (8 * stride w)) r.1 in
    omega (arith, ap length s, length_bits bytes, q, t)

-- the bytes that are kept for a packet
pub kept : Packet → ℕ
kept p = cond (nat_lt 65535 (bitmap_bytes (width p.flag p.content) (height p.flag p.content))) 0 (bitmap_bytes (width p.flag p.content) (height p.flag p.content))

pub kept_sum : List Packet → ℕ
kept_sum [] = 0
kept_sum (p ∷ ps) = kept p + kept_sum ps

pub kept_sum-append : (ps qs : List Packet) → kept_sum (ps ++ qs) ≡ kept_sum ps + kept_sum qs
unfolding kept_sum
kept_sum-append [] qs = omega arith
kept_sum-append (p ∷ ps) qs = let e = kept_sum-append ps qs in omega (arith, e)

-- a glyph has the bytes that are kept for its packet
pub glyph_bytes : (p : Packet) (k : Known) → IsGlyph p k → known_bytes k ≡ kept p
unfolding kept
glyph_bytes p k g =
    let n = bitmap_bytes (width p.flag p.content) (height p.flag p.content) in
    ⊎_elim
    (λ h. ap known_bytes (g.large h) ∙ sym (cond-true (nat_lt 65535 n) 0 n (grind (arith, nat_tests))))
    (λ h. (let b = g.kept h in
    ap known_bytes b.1 ∙ drawn_bytes p.flag (width p.flag p.content) (height p.flag p.content) _ b.0.rows b.2.rows b.2.drawn b.2.pads ∙ sym (cond-false (nat_lt 65535 n) 0 n (grind (arith, nat_tests)))))
    (cases_lt 65535 n)

nothing_sum : (gs : List Known) → ((i : ℕ) → get_or gs i Nothing ≡ Nothing) → sum_by known_bytes gs ≡ 0
nothing_sum [] n = refl
nothing_sum (g ∷ gs) n =
    let e = nothing_sum gs (λ i. n (suc i)) in
    let z : known_bytes g ≡ 0 = ap known_bytes (n 0) in
    omega (arith, sum_by-cons known_bytes g gs, e, z)

told_inside : (font : Font) (p : Packet) → IsGlyph p (glyph_at font p.code) → p.code < length font.glyphs
told_inside font p g = ⊎_elim (λ h. h) (λ h. absurd (is_told p (glyph_at font p.code) g (get_or_past font.glyphs p.code Nothing h))) (cases_lt p.code (length font.glyphs))

-- a font without the first packet's glyph
told_less : (font : Font) (p : Packet) (ps : List Packet) → Tells font (p ∷ ps) → Tells (with_glyph font p.code Nothing) ps
told_less font p ps t =
    let inside = told_inside font p t.each.0 in
    let z : times p.code ps ≡ 0 = omega (arith, t.once p.code, times_here p.code p ps refl) in
    record {
      long = length-set font.glyphs p.code Nothing ∙ t.long;
      each = others_same font ps p.code Nothing z t.each.1;
      once = λ code. (let a = t.once code in let b = times_more code p ps in omega (arith, a, b));
      others = λ code w. ⊎_elim
          (λ e. (let P : ℕ → Type 0 = λ x. glyph_at (with_glyph font p.code Nothing) x ≡ Nothing in subst P e (get_or-set_same font.glyphs p.code Nothing Nothing inside)))
          (λ e. get_or-set_other font.glyphs p.code code Nothing Nothing (λ q. e (sym q)) ∙ t.others code (omega (arith, times_other code p ps e, w)))
          (cases_eq p.code code);
    }

-- the bytes of a font's bitmaps are those kept for its packets
pub told_size : (font : Font) (ps : List Packet) → Tells font ps → size font ≡ kept_sum ps
unfolding kept_sum
told_size font [] t = nothing_sum font.glyphs (λ i. t.others i (times_nil i))
told_size font (p ∷ ps) t =
    let e = told_size (with_glyph font p.code Nothing) ps (told_less font p ps t) in
    let s = sum_by-set known_bytes font.glyphs p.code Nothing Nothing (told_inside font p t.each.0) in
    let g = glyph_bytes p (glyph_at font p.code) t.each.0 in
    omega (arith, e, s, g)

-- one packet more
pub told_more : (font : Font) (ps : List Packet) (p : Packet) (k : Known) → Tells font ps → p.code ≤ 255 → glyph_at font p.code ≡ Nothing → IsGlyph p k → Tells (with_glyph font p.code k) (ps ++ p ∷ [])
told_more font ps p k t small n g =
    let z = untold font ps p.code t.each n in
    let here : glyph_at (with_glyph font p.code k) p.code ≡ k = get_or-set_same font.glyphs p.code k Nothing (omega (arith, t.long, small)) in
    record {
      long = length-set font.glyphs p.code k ∙ t.long;
      each = all_push (λ q. IsGlyph q (glyph_at (with_glyph font p.code k) q.code)) ps p (others_same font ps p.code k z t.each) (subst (IsGlyph p) (sym here) g);
      once = λ code. ⊎_elim
          (λ e. (let a = times-append code ps (p ∷ []) in let b = times_here code p [] e in let c = times_nil code in let d = subst (λ x. times x ps ≡ 0) e z in omega (arith, a, b, c, d)))
          (λ e. (let a = times-append code ps (p ∷ []) in let b = times_other code p [] e in let c = times_nil code in let d = t.once code in omega (arith, a, b, c, d)))
          (cases_eq p.code code);
      others = λ code w. (let a = times-append code ps (p ∷ []) in
          let ne : p.code ≢ code = λ e. absurd (omega (arith, a, times_here code p [] e, w)) in
          let b = times_other code p [] ne in
          get_or-set_other font.glyphs p.code code k Nothing (λ e. ne (sym e)) ∙ t.others code (omega (arith, a, b, w)));
    }

-- single facts for the packets of a file

pub times_first : (p : Packet) (ps : List Packet) → times p.code (p ∷ ps) ≡ 1 + times p.code ps
times_first p ps = times_here p.code p ps refl

pub times_one : (p : Packet) → times p.code (p ∷ []) ≡ 1
times_one p = omega (arith, times_here p.code p [] refl, times_nil p.code)

pub kept_first : (p : Packet) (ps : List Packet) → kept_sum (p ∷ ps) ≡ kept p + kept_sum ps
unfolding kept_sum
kept_first p ps = refl

pub kept_one : (p : Packet) → kept_sum (p ∷ []) ≡ kept p
unfolding kept_sum
kept_one p = omega arith

-- an entry that isn't nothing belongs to a packet
pub some_told : (font : Font) (ps : List Packet) (code : ℕ) → Tells font ps → glyph_at font code ≢ Nothing → 0 < times code ps
some_told font ps code t n = ⊎_elim (λ h. h) (λ h. absurd (n (t.others code (omega (arith, h))))) (cases_lt 0 (times code ps))

-- a font tells each of its packets
pub packet_told : (font : Font) (ps : List Packet) (p : Packet) (qs : List Packet) → Tells font (ps ++ p ∷ qs) → IsGlyph p (glyph_at font p.code)
packet_told font ps p qs t = go ps t.each where
  go : (ps : List Packet) → AllByRecursion (λ q. IsGlyph q (glyph_at font q.code)) (ps ++ p ∷ qs) → IsGlyph p (glyph_at font p.code)
  go [] a = a.0
  go (q ∷ ps) a = go ps a.1

pub no_characters : characters [] ≡ []
unfolding characters
no_characters = refl

pub times_none : (code : ℕ) → times code [] ≡ 0
times_none code = times_nil code
