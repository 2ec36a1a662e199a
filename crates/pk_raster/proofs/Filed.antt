-- The parts of a file, one after another: what each adds, and why none is left where the file is refused.
use Rattle.std.proofs.Common.{◌≡◌, ◌≢◌, ℕ, zero, suc, ◌+◌, ◌-◌, ◌<◌, ◌≤◌, ◌*◌, inl, inr, ⊎_elim, refl, sym, ◌∙◌, ap, subst, arith, List, [], ◌∷◌, ◌++◌, length, drop, get_or, length-drop}
use Rattle.std.proofs.lemmas.List.{append-nil, same_lists, drop_all, length-replicate, get_or-drop, get_or-replicate, get_or_default}
use Rattle.std.proofs.lemmas.List.Folds.{sum_by-replicate}
use Rattle.std.proofs.lemmas.Bool.{cases_lt}
use Rattle.std.specs.List.{sum_by}
use Rattle.std.specs.Prelude.{Option, None, Some, slice_index, replicate}
use Rattle.pk_raster.specs.Font.{Font, Known, glyph_at, known_bytes, size}
use Rattle.pk_raster.specs.Font.Known.{Nothing}
use Rattle.pk_raster.specs.Parts.{Packet, Part, Parts, part_at}
use Rattle.pk_raster.specs.Parts.Part.{Character}
use Rattle.pk_raster.specs.Glyph.{IsGlyph}
use Rattle.pk_raster.specs.File.{IsPk, HasPreamble, body_at, characters, times, Tells, checksum_of}
use Rattle.pk_raster.specs.PartFaults.{NoPartAt, IsShortAt, IsUndefinedAt}
use Rattle.pk_raster.specs.GlyphFaults.{RefusesPacket}
use Rattle.pk_raster.specs.Faults.{ReadTo, ReadSo, RefusesFile, NoFont, IsNotAdded, HasBadPacket, IsBadTail, OnlyNops}
use Rattle.pk_raster.specs.declared.fault.PkFault.{PkFault}
use Rattle.pk_raster.specs.declared.fault.PkFault.TheVariants as fault
use Rattle.pk_raster.proofs.Nybbles.{ahead}
use Rattle.pk_raster.proofs.Parted.{undefined_at, short_at, end_is_none, nil_is_none}
use Rattle.pk_raster.proofs.Telling.{with_glyph, characters-append, times-append, one_character, told_more, told_size, glyph_bytes, kept_sum, kept_sum-append, kept_one, kept_first, times_one, times_first, some_told, packet_told, no_characters, times_none}

-- parts of one list of bytes

pub no_parts : (xs : List ℕ) → Parts xs [] xs
unfolding Parts
no_parts xs = refl

pub parts_push : (xs : List ℕ) (ps : List Part) (ys : List ℕ) (p : Part) (zs : List ℕ) → Parts xs ps ys → part_at ys ≡ Some (p, zs) → Parts xs (ps ++ p ∷ []) zs
unfolding Parts
parts_push xs [] ys p zs s e = (zs, ap part_at s ∙ e, refl)
parts_push xs (q ∷ ps) ys p zs s e = (s.0, s.1, parts_push s.0 ps ys p zs s.2 e)

part_of_some : Option (Part × List ℕ) → Part → Part
part_of_some None d = d
part_of_some (Some r) d = r.0

rest_of_some : Option (Part × List ℕ) → List ℕ
rest_of_some None = []
rest_of_some (Some r) = r.1

is_found : Option (Part × List ℕ) → ℕ
is_found None = 0
is_found (Some r) = 1

none_found : (p : Part) (zs : List ℕ) → ◌≡◌ {A = Option (Part × List ℕ)} None (Some (p, zs)) → ⊥
unfolding is_found
none_found p zs e = absurd (omega (arith, ap is_found e))

same_part : (p q : Part) (ys zs : List ℕ) → ◌≡◌ {A = Option (Part × List ℕ)} (Some (p, ys)) (Some (q, zs)) → p ≡ q
unfolding part_of_some
same_part p q ys zs e = ap (λ o. part_of_some o p) e

same_rest : (p q : Part) (ys zs : List ℕ) → ◌≡◌ {A = Option (Part × List ℕ)} (Some (p, ys)) (Some (q, zs)) → ys ≡ zs
unfolding rest_of_some
same_rest p q ys zs e = ap rest_of_some e

-- the parts that come next
pub record Next (ys : List ℕ) (ps qs : List Part) (end : List ℕ) : Type 0 where
  pub more : List Part
  pub joined : qs ≡ ps ++ more
  pub read : Parts ys more end

-- Parts of the same bytes agree, as far as both go.
pub next : (xs : List ℕ) (ps : List Part) (ys : List ℕ) (qs : List Part) (end : List ℕ) → part_at end ≡ None → Parts xs ps ys → Parts xs qs end → Next ys ps qs end
unfolding Parts
next xs [] ys qs end n s t = let P : List ℕ → Type 0 = λ v. Parts v qs end in record { more = qs; joined = refl; read = subst P s t }
next xs (p ∷ ps) ys [] end n s t = absurd (none_found p s.0 (sym n ∙ ap part_at (sym t) ∙ s.1))
next xs (p ∷ ps) ys (q ∷ qs) end n s t =
    let e = sym s.1 ∙ t.1 in
    let P : List ℕ → Type 0 = λ v. Parts v qs end in
    let r = next s.0 ps ys qs end n s.2 (subst P (sym (same_rest p q s.0 t.0 e)) t.2) in
    record { more = r.more; joined = ap (λ x. x ∷ qs) (sym (same_part p q s.0 t.0 e)) ∙ ap (λ xs. p ∷ xs) r.joined; read = r.read }

none_next : (ys : List ℕ) (ps : List Part) (end : List ℕ) → part_at ys ≡ None → Parts ys ps end → ys ≡ end
unfolding Parts
none_next ys [] end n s = s
none_next ys (p ∷ ps) end n s = absurd (none_found p s.0 (sym n ∙ s.1))

-- the part that comes next
pub part_next : (ys : List ℕ) (p : Part) (zs : List ℕ) (ps : List Part) (end : List ℕ) → part_at end ≡ None → part_at ys ≡ Some (p, zs) → Parts ys ps end → (qs : List Part) × (ps ≡ p ∷ qs)
unfolding Parts
part_next ys p zs [] end n e s = absurd (none_found p zs (sym n ∙ ap part_at (sym s) ∙ e))
part_next ys p zs (q ∷ ps) end n e s = (ps, ap (λ x. x ∷ ps) (sym (same_part p q zs s.0 (sym e ∙ s.1))))

-- the byte at a place, where the rest begins with it
first_byte : (bytes : List ℕ) (at b : ℕ) (xs : List ℕ) → at < length bytes → drop at bytes ≡ b ∷ xs → slice_index bytes at ≡ b
first_byte bytes at b xs h e = ap (λ ys. get_or ys 0 0) (sym (ahead bytes at h) ∙ e)

-- a file's parts behind those that are read
module _ (bytes : List ℕ) (parts : List Part) (at : ℕ) (r : ReadTo bytes parts at) (font : Font) (x : IsPk bytes font) where
  tail_of : List ℕ
  tail_of = 245 ∷ replicate x.nops 246

  pub behind : Next (drop at bytes) parts x.parts (245 ∷ replicate x.nops 246)
  behind = next (drop (body_at bytes) bytes) parts (drop at bytes) x.parts (245 ∷ replicate x.nops 246) (end_is_none (replicate x.nops 246)) r.read x.body

  -- where no part begins, the body ends
  pub ended : part_at (drop at bytes) ≡ None → drop at bytes ≡ 245 ∷ replicate x.nops 246
  ended n = none_next (drop at bytes) behind.more (245 ∷ replicate x.nops 246) n behind.read

  -- the packet that comes next is one of the file's
  pub taken : (p : Packet) (zs : List ℕ) → p.code ≤ 255 → part_at (drop at bytes) ≡ Some (Character p, zs) → (qs : List Packet) × (characters x.parts ≡ characters parts ++ p ∷ qs)
  taken p zs small e =
      let n = part_next (drop at bytes) (Character p) zs behind.more (245 ∷ replicate x.nops 246) (end_is_none (replicate x.nops 246)) e behind.read in
      (characters n.0, ap characters behind.joined ∙ characters-append parts behind.more ∙ ap (λ ps. characters parts ++ characters ps) n.1 ∙ ap (λ ps. characters parts ++ ps) (one_character p n.0 small))

-- one part more is read
pub read_more : (bytes : List ℕ) (parts : List Part) (at : ℕ) (p : Part) (to : ℕ) → ReadTo bytes parts at → to ≤ length bytes → part_at (drop at bytes) ≡ Some (p, drop to bytes) → ReadTo bytes (parts ++ p ∷ []) to
read_more bytes parts at p to r w e = record { preamble = r.preamble; within = w; read = parts_push (drop (body_at bytes) bytes) parts (drop at bytes) p (drop to bytes) r.read e }

-- a part that is no character of the font
pub read_on : (bytes : List ℕ) (most : ℕ) (font : Font) (at : ℕ) (p : Part) (to : ℕ) → ReadSo bytes most font at → to ≤ length bytes → part_at (drop at bytes) ≡ Some (p, drop to bytes) → characters (p ∷ []) ≡ [] → ReadSo bytes most font to
read_on bytes most font at p to r w e c = record {
  parts = r.parts ++ p ∷ [];
  read = read_more bytes r.parts at p to r.read w e;
  checksum = r.checksum;
  glyphs = subst (Tells font) (sym (characters-append r.parts (p ∷ []) ∙ ap (λ ps. characters r.parts ++ ps) c ∙ append-nil (characters r.parts))) r.glyphs;
  fits = r.fits;
}

characters_push : (ps : List Part) (p : Packet) → p.code ≤ 255 → characters (ps ++ Character p ∷ []) ≡ characters ps ++ p ∷ []
unfolding characters
characters_push ps p small = characters-append ps (Character p ∷ []) ∙ ap (λ qs. characters ps ++ qs) (one_character p [] small)

-- a packet that is taken into the font
pub read_glyph : (bytes : List ℕ) (most : ℕ) (font : Font) (at : ℕ) (p : Packet) (to : ℕ) (k : Known) (new : Font) → ReadSo bytes most font at → to ≤ length bytes → part_at (drop at bytes) ≡ Some (Character p, drop to bytes) →
    p.code ≤ 255 → glyph_at font p.code ≡ Nothing → IsGlyph p k → new ≡ with_glyph font p.code k → size new ≤ most → ReadSo bytes most new to
read_glyph bytes most font at p to k new r w e small n g is fits = record {
  parts = r.parts ++ Character p ∷ [];
  read = read_more bytes r.parts at (Character p) to r.read w e;
  checksum = ap (λ (f : Font). f.checksum) is ∙ r.checksum;
  glyphs = (let T : Font → Type 0 = λ f. Tells f (characters (r.parts ++ Character p ∷ [])) in
      subst T (sym is) (subst (Tells (with_glyph font p.code k)) (sym (characters_push r.parts p small)) (told_more font (characters r.parts) p k r.glyphs small n g)));
  fits = fits;
}

-- no part begins here
pub no_part : (bytes : List ℕ) (most : ℕ) (font : Font) (at : ℕ) (e : PkFault) → ReadSo bytes most font at → slice_index bytes at ≢ 245 → NoPartAt bytes at e → RefusesFile bytes most e
no_part bytes most font at fault.BadPreamble r b n = absurd n
no_part bytes most font at (fault.Undefined place) r b n = record {
  says = inl (r.parts, (let R : ℕ → Type 0 = λ v. ReadTo bytes r.parts v in subst R (sym n.0) r.read), (let U : ℕ → Type 0 = IsUndefinedAt bytes in subst U (sym n.0) n.1));
  none = λ _ f x _. b (first_byte bytes at 245 (replicate x.nops 246) n.1.0 (ended bytes r.parts at r.read f x (undefined_at bytes at n.1.0 n.1.1)));
}
no_part bytes most font at (fault.Short place) r b n = record {
  says = (r.parts, (let R : ℕ → Type 0 = λ v. ReadTo bytes r.parts v in subst R (sym n.0) r.read), (let S : ℕ → Type 0 = IsShortAt bytes in subst S (sym n.0) n.1));
  none = λ _ f x _. b (first_byte bytes at 245 (replicate x.nops 246) n.1.here (ended bytes r.parts at r.read f x (short_at bytes at n.1.here b n.1.flag n.1.past)));
}
no_part bytes most font at fault.NoPost r b n = absurd n
no_part bytes most font at (fault.Twice c) r b n = absurd n
no_part bytes most font at (fault.BadLength c) r b n = absurd n
no_part bytes most font at (fault.RunsShort c) r b n = absurd n
no_part bytes most font at (fault.RunsPast c) r b n = absurd n
no_part bytes most font at (fault.RepeatTwice c) r b n = absurd n
no_part bytes most font at fault.Space r b n = absurd n
no_part bytes most font at fault.OutOfMemory r b n = absurd n

-- a packet that is refused
packet_refused : (bytes : List ℕ) (most : ℕ) (font : Font) (at : ℕ) (p : Packet) (to : ℕ) (e : PkFault) → ReadSo bytes most font at → to ≤ length bytes → part_at (drop at bytes) ≡ Some (Character p, drop to bytes) → p.code ≤ 255 →
    RefusesPacket p e → HasBadPacket bytes e × (e ≢ fault.OutOfMemory → NoFont bytes most)
packet_refused bytes most font at p to e r w s small n = (
  record { parts = r.parts; packet = p; at = to; read = read_more bytes r.parts at (Character p) to r.read w s; fails = n.says },
  λ ne f x _. (let t = taken bytes r.parts at r.read f x p (drop to bytes) small s in n.none ne (glyph_at f p.code) (packet_told f (characters r.parts) p t.0 (subst (Tells f) t.1 x.glyphs))),
)

-- a packet that isn't taken into the font
pub not_taken : (bytes : List ℕ) (most : ℕ) (font : Font) (at : ℕ) (p : Packet) (to : ℕ) (e : PkFault) → ReadSo bytes most font at → to ≤ length bytes → part_at (drop at bytes) ≡ Some (Character p, drop to bytes) → p.code ≤ 255 →
    IsNotAdded font most p e → RefusesFile bytes most e
not_taken bytes most font at p to (fault.Twice c) r w s small n =
    let code_is = n.0 in
    let some : 0 < times p.code (characters r.parts) = some_told font (characters r.parts) p.code r.glyphs n.1 in
    record {
      says = (
        r.parts ++ Character p ∷ [],
        to,
        read_more bytes r.parts at (Character p) to r.read w s,
        (let T : ℕ → Type 0 = λ v. 1 < times v (characters (r.parts ++ Character p ∷ [])) in
            subst T (sym code_is) (omega (arith, ap (times p.code) (characters_push r.parts p small), times-append p.code (characters r.parts) (p ∷ []), times_one p, some))),
      );
      none = λ _ f x _. (let t = taken bytes r.parts at r.read f x p (drop to bytes) small s in
          let o = x.glyphs.once p.code in
          omega (arith, o, some, ap (times p.code) t.1, times-append p.code (characters r.parts) (p ∷ t.0), times_first p t.0));
    }
not_taken bytes most font at p to fault.Space r w s small n =
    let new = with_glyph font p.code n.0 in
    let told = told_more font (characters r.parts) p n.0 r.glyphs small n.2 n.1 in
    let sum : size new ≡ size font + known_bytes n.0 = (let a = told_size new (characters r.parts ++ p ∷ []) told in let b = told_size font (characters r.parts) r.glyphs in let d = glyph_bytes p n.0 n.1 in omega (arith, a, b, d, kept_sum-append (characters r.parts) (p ∷ []), kept_one p)) in
    record {
      says = (r.parts ++ Character p ∷ [], to, new, read_more bytes r.parts at (Character p) to r.read w s, subst (Tells new) (sym (characters_push r.parts p small)) told, (let q = n.3 in omega (arith, sum, q)));
      none = λ _ f x fits. (let t = taken bytes r.parts at r.read f x p (drop to bytes) small s in
          let a = told_size f (characters x.parts) x.glyphs in
          let b = told_size font (characters r.parts) r.glyphs in
          let d = glyph_bytes p n.0 n.1 in
          let q = n.3 in
          omega (arith, a, b, d, q, fits, ap kept_sum t.1, kept_sum-append (characters r.parts) (p ∷ t.0), kept_first p t.0));
    }
not_taken bytes most font at p to (fault.BadLength c) r w s small n = (let b = packet_refused bytes most font at p to (fault.BadLength c) r w s small n in record { says = b.0; none = b.1 })
not_taken bytes most font at p to (fault.RunsShort c) r w s small n = (let b = packet_refused bytes most font at p to (fault.RunsShort c) r w s small n in record { says = b.0; none = b.1 })
not_taken bytes most font at p to (fault.RunsPast c) r w s small n = (let b = packet_refused bytes most font at p to (fault.RunsPast c) r w s small n in record { says = b.0; none = b.1 })
not_taken bytes most font at p to (fault.RepeatTwice c) r w s small n = (let b = packet_refused bytes most font at p to (fault.RepeatTwice c) r w s small n in record { says = b.0; none = b.1 })
not_taken bytes most font at p to fault.OutOfMemory r w s small n = record { says = tt; none = λ ne. absurd (ne refl) }
not_taken bytes most font at p to fault.BadPreamble r w s small n = absurd n
not_taken bytes most font at p to (fault.Undefined place) r w s small n = absurd n
not_taken bytes most font at p to (fault.Short place) r w s small n = absurd n
not_taken bytes most font at p to fault.NoPost r w s small n = absurd n

-- a font without glyphs
nothing_at : (n code : ℕ) → get_or (replicate n Nothing) code Nothing ≡ Nothing
nothing_at zero code = refl
nothing_at (suc n) zero = refl
nothing_at (suc n) (suc code) = nothing_at n code

nothing_summed : (n : ℕ) → sum_by known_bytes (replicate n Nothing) ≡ 0
nothing_summed n = sum_by-replicate known_bytes n Nothing ∙ (let e : n * 0 ≡ 0 = omega arith in e)

pub read_start : (bytes : List ℕ) (most checksum at : ℕ) (font : Font) → font ≡ record { checksum = checksum; glyphs = replicate 256 Nothing } → HasPreamble bytes → checksum ≡ checksum_of bytes → at ≡ body_at bytes → ReadSo bytes most font at
read_start bytes most checksum at font is pre c a =
    let new : Font = record { checksum = checksum; glyphs = replicate 256 Nothing } in
    let R : Font → Type 0 = λ f. ReadSo bytes most f at in
    let P : ℕ → Type 0 = λ v. Parts (drop (body_at bytes) bytes) [] (drop v bytes) in
    subst R (sym is) (record {
      parts = [];
      read = record { preamble = pre; within = (let w = pre.whole in omega (arith, a, w)); read = subst P (sym a) (no_parts (drop (body_at bytes) bytes)) };
      checksum = c;
      glyphs = subst (Tells new) (sym no_characters) (record {
        long = length-replicate 256 Nothing;
        each = tt;
        once = λ code. omega (arith, times_none code);
        others = λ code _. nothing_at 256 code;
      });
      fits = omega (arith, nothing_summed 256);
    })

-- the tail of a file

tail_is : (bytes : List ℕ) (post : ℕ) → post < length bytes → slice_index bytes post ≡ 245 → OnlyNops bytes post → drop post bytes ≡ 245 ∷ replicate (length bytes - (post + 1)) 246
tail_is bytes post h e n =
    let xs = drop (post + 1) bytes in
    let same : xs ≡ replicate (length bytes - (post + 1)) 246 = same_lists xs (replicate (length bytes - (post + 1)) 246)
    (length-drop (post + 1) bytes ∙ sym (length-replicate {A = ℕ} (length bytes - (post + 1)) 246))
    (λ k d q. (let l : post + 1 + k < length bytes = omega (arith, q, length-drop (post + 1) bytes) in
    get_or-drop (post + 1) bytes k d ∙ get_or_default bytes (post + 1 + k) d 0 l ∙ n (post + 1 + k) (omega arith) l ∙ sym (get_or-replicate (length bytes - (post + 1)) k 246 d (omega (arith, l))))) in
    ahead bytes post h ∙ ap (λ b. b ∷ xs) e ∙ ap (λ ys. 245 ∷ ys) same

pub whole_file : (bytes : List ℕ) (most : ℕ) (font : Font) (post : ℕ) → ReadSo bytes most font post → post < length bytes → slice_index bytes post ≡ 245 → OnlyNops bytes post → IsPk bytes font × (size font ≤ most)
whole_file bytes most font post r h e n = (
  record {
    preamble = r.read.preamble;
    checksum = r.checksum;
    parts = r.parts;
    nops = length bytes - (post + 1);
    body = subst (Parts (drop (body_at bytes) bytes) r.parts) (tail_is bytes post h e n) r.read.read;
    glyphs = r.glyphs;
  },
  r.fits,
)

end_none : (bytes : List ℕ) (post : ℕ) → (post < length bytes → slice_index bytes post ≡ 245) → part_at (drop post bytes) ≡ None
end_none bytes post e =
    ⊎_elim
    (λ h. ap part_at (ahead bytes post h ∙ ap (λ b. b ∷ drop (post + 1) bytes) (e h)) ∙ end_is_none (drop (post + 1) bytes))
    (λ h. ap part_at (drop_all post bytes h) ∙ nil_is_none)
    (cases_lt post (length bytes))

-- a byte of the tail
tail_byte : (bytes : List ℕ) (post nops at : ℕ) → drop post bytes ≡ 245 ∷ replicate nops 246 → post < at → at < length bytes → slice_index bytes at ≡ 246
tail_byte bytes post nops at e h l =
    let k : post + (at - post) ≡ at = omega (arith, h) in
    let s : at - post ≡ suc (at - post - 1) = omega (arith, h) in
    let n : suc nops ≡ length bytes - post = sym (ap suc (length-replicate {A = ℕ} nops 246)) ∙ sym (ap length e) ∙ length-drop post bytes in
    ap (λ i. get_or bytes i 0) (sym k) ∙ sym (get_or-drop post bytes (at - post) 0) ∙ ap (λ xs. get_or xs (at - post) 0) e ∙ ap (λ i. get_or (245 ∷ replicate nops 246) i 0) s
    ∙ get_or-replicate nops (at - post - 1) 246 0 (omega (arith, n, h, l))

pub bad_tail : (bytes : List ℕ) (most : ℕ) (font : Font) (post : ℕ) (e : PkFault) → ReadSo bytes most font post → (post < length bytes → slice_index bytes post ≡ 245) → IsBadTail bytes post e → RefusesFile bytes most e
bad_tail bytes most font post (fault.Undefined at) r b n = record {
  says = inr (record { parts = r.parts; post = post; read = r.read; ends = b (omega (arith, n.0, n.1)); behind = n.0; here = n.1; other = n.2 });
  none = λ _ f x _. n.2 (tail_byte bytes post x.nops at (ended bytes r.parts post r.read f x (end_none bytes post b)) n.0 n.1);
}
bad_tail bytes most font post fault.NoPost r b n = record {
  says = (r.parts, (let R : ℕ → Type 0 = λ v. ReadTo bytes r.parts v in let w = r.read.within in subst R (omega (arith, n, w)) r.read));
  none = λ _ f x _. (let e = ended bytes r.parts post r.read f x (end_none bytes post b) in
      let q : length (drop post bytes) ≡ suc (length (replicate {A = ℕ} x.nops 246)) = ap length e in omega (arith, q, length-drop post bytes, n));
}
bad_tail bytes most font post fault.BadPreamble r b n = absurd n
bad_tail bytes most font post (fault.Short place) r b n = absurd n
bad_tail bytes most font post (fault.Twice c) r b n = absurd n
bad_tail bytes most font post (fault.BadLength c) r b n = absurd n
bad_tail bytes most font post (fault.RunsShort c) r b n = absurd n
bad_tail bytes most font post (fault.RunsPast c) r b n = absurd n
bad_tail bytes most font post (fault.RepeatTwice c) r b n = absurd n
bad_tail bytes most font post fault.Space r b n = absurd n
bad_tail bytes most font post fault.OutOfMemory r b n = absurd n
