-- Bytes are a PK file of one font at most, and its bitmaps have the rows that their sizes say.
use Rattle.std.proofs.Common.{◌≡◌, ℕ, suc, ◌*◌, ◌<◌, ◌≤◌, ⊎_elim, refl, sym, ◌∙◌, ap, subst, arith, List, [], ◌∷◌, ◌++◌, length, drop, get_or, slice_index}
use Rattle.std.specs.Prelude.{replicate}
use Rattle.std.specs.List.{AllByRecursion, flat_map}
use Rattle.std.specs.Int.{bit_at}
use Rattle.std.proofs.lemmas.Bool.{cases_eq, cases_lt}
use Rattle.std.proofs.lemmas.List.{same_lists, append-nil, get_or_default}
use Rattle.bit_lanes.specs.Bits.{bits, byte_bits}
use Rattle.pk_raster.specs.Bits.{padded}
use Rattle.pk_raster.specs.Font.{Font, Known, Bitmap, glyph_at}
use Rattle.pk_raster.specs.Font.Known.{Nothing, Large, Bits}
use Rattle.pk_raster.specs.Parts.{Packet, Part, Parts}
use Rattle.pk_raster.specs.Glyph.{IsGlyph, IsBitmap, Pads, width, height, raster, stride, bitmap_bytes}
use Rattle.pk_raster.specs.File.{IsPk, Tells, characters, times, body_at}
use Rattle.pk_raster.specs.Laws.{AreRows}
use Rattle.pk_raster.proofs.Rows.{cut}
use Rattle.pk_raster.proofs.Parted.{end_is_none}
use Rattle.pk_raster.proofs.Filed.{next}
use Rattle.pk_raster.proofs.OneRaster.{draws_one}
use Rattle.pk_raster.proofs.Telling.{times_other, times_nil, drawn_rows, drawn_bytes, some_told}

-- bytes are told by their bits
byte_one : (a b : ℕ) → a < 256 → b < 256 → byte_bits a ≡ byte_bits b → a ≡ b
byte_one a b p q e =
    let b7 : bit_at a 7 ≡ bit_at b 7 = ap (λ xs. get_or xs 0 0) e in
    let b6 : bit_at a 6 ≡ bit_at b 6 = ap (λ xs. get_or xs 1 0) e in
    let b5 : bit_at a 5 ≡ bit_at b 5 = ap (λ xs. get_or xs 2 0) e in
    let b4 : bit_at a 4 ≡ bit_at b 4 = ap (λ xs. get_or xs 3 0) e in
    let b3 : bit_at a 3 ≡ bit_at b 3 = ap (λ xs. get_or xs 4 0) e in
    let b2 : bit_at a 2 ≡ bit_at b 2 = ap (λ xs. get_or xs 5 0) e in
    let b1 : bit_at a 1 ≡ bit_at b 1 = ap (λ xs. get_or xs 6 0) e in
    let b0 : bit_at a 0 ≡ bit_at b 0 = ap (λ xs. get_or xs 7 0) e in
    omega (arith, b7, b6, b5, b4, b3, b2, b1, b0)

bits_one : (xs ys : List ℕ) → ((i : ℕ) → slice_index xs i < 256) → ((i : ℕ) → slice_index ys i < 256) → bits xs ≡ bits ys → xs ≡ ys
unfolding bits
bits_one [] [] p q e = refl
bits_one [] (y ∷ ys) p q e = cc
bits_one (x ∷ xs) [] p q e = cc
bits_one (x ∷ xs) (y ∷ ys) p q e =
    let both = cut (byte_bits x) (bits xs) (byte_bits y) (bits ys) refl e in
    ap (λ b. b ∷ xs) (byte_one x y (p 0) (q 0) both.0) ∙ ap (λ bs. y ∷ bs) (bits_one xs ys (λ i. p (suc i)) (λ i. q (suc i)) both.1)

-- a packet draws one bitmap
bitmap_one : (p : Packet) (a b : Bitmap) → IsBitmap p a → IsBitmap p b → a ≡ b
bitmap_one p a b x y =
    let rows = draws_one p.flag (width p.flag p.content) (height p.flag p.content) (raster p.flag p.content) x.rows y.rows x.drawn y.drawn in
    let w : a.w ≡ b.w = x.w ∙ sym y.w in
    let h : a.h ≡ b.h = x.h ∙ sym y.h in
    let hoff : a.hoff ≡ b.hoff = x.hoff ∙ sym y.hoff in
    let voff : a.voff ≡ b.voff = x.voff ∙ sym y.voff in
    let bytes : a.rows ≡ b.rows = bits_one a.rows b.rows x.bytes y.bytes (x.pads ∙ ap (flat_map (padded (8 * stride (width p.flag p.content)))) rows ∙ sym y.pads) in
    λ i. record { w = w i; h = h i; hoff = hoff i; voff = voff i; rows = bytes i }

glyph_one : (p : Packet) (a b : Known) → IsGlyph p a → IsGlyph p b → a ≡ b
glyph_one p a b x y =
    ⊎_elim
    (λ large. x.large large ∙ sym (y.large large))
    (λ small. (let k = x.kept small in let l = y.kept small in k.1 ∙ ap Bits (bitmap_one p k.0 l.0 k.2 l.2) ∙ sym l.1))
    (cases_lt 65535 (bitmap_bytes (width p.flag p.content) (height p.flag p.content)))

-- what is told of a code that has a packet
told_one : (f g : Font) (code : ℕ) (ps : List Packet) → AllByRecursion (λ p. IsGlyph p (glyph_at f p.code)) ps → AllByRecursion (λ p. IsGlyph p (glyph_at g p.code)) ps → 0 < times code ps → glyph_at f code ≡ glyph_at g code
told_one f g code [] a b some = absurd (omega (arith, some, times_nil code))
told_one f g code (p ∷ ps) a b some =
    ⊎_elim
    (λ e. subst (λ c. glyph_at f c ≡ glyph_at g c) e (glyph_one p (glyph_at f p.code) (glyph_at g p.code) a.0 b.0))
    (λ ne. told_one f g code ps a.1 b.1 (omega (arith, some, times_other code p ps ne)))
    (cases_eq p.code code)

code_one : (f g : Font) (ps : List Packet) → Tells f ps → Tells g ps → (code : ℕ) → glyph_at f code ≡ glyph_at g code
code_one f g ps a b code =
    ⊎_elim
    (λ some. told_one f g code ps a.each b.each some)
    (λ none. (let z : times code ps ≡ 0 = omega (arith, none) in a.others code z ∙ sym (b.others code z)))
    (cases_lt 0 (times code ps))

tells_one : (f g : Font) (ps : List Packet) → Tells f ps → Tells g ps → f.glyphs ≡ g.glyphs
tells_one f g ps a b =
    same_lists f.glyphs g.glyphs (a.long ∙ sym b.long) (λ k d h.
    get_or_default f.glyphs k d Nothing h ∙ code_one f g ps a b k ∙ sym (get_or_default g.glyphs k d Nothing (omega (arith, h, a.long, b.long))))

no_more : (n m : ℕ) (ps : List Part) → Parts (245 ∷ replicate n 246) ps (245 ∷ replicate m 246) → ps ≡ []
unfolding Parts
no_more n m [] s = refl
no_more n m (p ∷ ps) s = (let none = end_is_none (replicate n 246) in let some = s.1 in cc)

parts_one : (xs : List ℕ) (ps qs : List Part) (n m : ℕ) → Parts xs ps (245 ∷ replicate n 246) → Parts xs qs (245 ∷ replicate m 246) → ps ≡ qs
parts_one xs ps qs n m a b =
    let r = next xs ps (245 ∷ replicate n 246) qs (245 ∷ replicate m 246) (end_is_none (replicate m 246)) a b in
    sym (r.joined ∙ ap (λ more. ps ++ more) (no_more n m r.more r.read) ∙ append-nil ps)

pub one_font : (bytes : List ℕ) (font other : Font) → IsPk bytes font → IsPk bytes other → font ≡ other
one_font bytes f g a b =
    let parts = parts_one (drop (body_at bytes) bytes) a.parts b.parts a.nops b.nops a.body b.body in
    let glyphs = tells_one f g (characters b.parts) (subst (λ (ps : List Part). Tells f (characters ps)) parts a.glyphs) b.glyphs in
    let checksum = a.checksum ∙ sym b.checksum in
    λ i. record { checksum = checksum i; glyphs = glyphs i }

-- a code's packet
packet_of : (font : Font) (code : ℕ) (ps : List Packet) → AllByRecursion (λ p. IsGlyph p (glyph_at font p.code)) ps → 0 < times code ps → (p : Packet) × IsGlyph p (glyph_at font code)
packet_of font code [] a some = absurd (omega (arith, some, times_nil code))
packet_of font code (p ∷ ps) a some =
    ⊎_elim
    (λ e. (p, subst (λ c. IsGlyph p (glyph_at font c)) e a.0))
    (λ ne. packet_of font code ps a.1 (omega (arith, some, times_other code p ps ne)))
    (cases_eq p.code code)

bits_apart : (b : Bitmap) (n : ℕ) → Bits b ≡ Large n → ⊥
bits_apart b n e = cc

same_bits : (a b : Bitmap) → Bits a ≡ Bits b → a ≡ b
same_bits a b e = ap (λ (k : Known). elim k [ Nothing ↦ a | Large n ↦ a | Bits c ↦ c ]) e

rows_of : (p : Packet) (b : Bitmap) → bitmap_bytes (width p.flag p.content) (height p.flag p.content) ≤ 65535 → IsBitmap p b → AreRows b
rows_of p b small x =
    let drawn = drawn_rows p.flag (width p.flag p.content) (height p.flag p.content) (raster p.flag p.content) x.rows x.drawn in
    let count = drawn_bytes p.flag (width p.flag p.content) (height p.flag p.content) (raster p.flag p.content) b.rows x.rows x.drawn x.pads in
    record {
      rows = x.rows;
      height = drawn.1 ∙ sym x.h;
      wide = subst (λ w. AllByRecursion (λ row. length row ≡ w) x.rows) (sym x.w) drawn.0;
      padded = subst (λ w. Pads w x.rows b.rows) (sym x.w) x.pads;
      count = rw (x.w, x.h) count;
      bytes = x.bytes;
      short = omega (arith, count, small);
      right = x.right;
      down = x.down;
    }

glyph_rows : (p : Packet) (k : Known) (b : Bitmap) → IsGlyph p k → k ≡ Bits b → AreRows b
glyph_rows p k b g e =
    ⊎_elim
    (λ large. absurd (bits_apart b _ (sym e ∙ g.large large)))
    (λ small. (let x = g.kept small in subst AreRows (same_bits x.0 b (sym x.1 ∙ e)) (rows_of p x.0 small x.2)))
    (cases_lt 65535 (bitmap_bytes (width p.flag p.content) (height p.flag p.content)))

bits_some : (b : Bitmap) → Bits b ≡ Nothing → ⊥
bits_some b e = cc

pub whole_rows : (bytes : List ℕ) (font : Font) (code : ℕ) (bitmap : Bitmap) → IsPk bytes font → glyph_at font code ≡ Bits bitmap → AreRows bitmap
whole_rows bytes font code b x e =
    let some = some_told font (characters x.parts) code x.glyphs (λ none. bits_some b (sym e ∙ none)) in
    let p = packet_of font code (characters x.parts) x.glyphs.each some in
    glyph_rows p.0 (glyph_at font code) b p.1 e
