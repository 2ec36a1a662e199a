-- That the commands of a copy have room for their operands.
use Rattle.std.proofs.Common.{◌≡◌, ◌<◌, ◌≤◌, ◌+◌, ◌-◌, ◌%◌, ◌^◌, ◌+ℤ◌, ◌-ℤ◌, ℕ, ℤ, pos, negsuc, zero, suc, Bool, true, false, List, [], ◌∷◌, ◌++◌, length, take, refl, arith, length-append, w32, ltb-true}
use Rattle.std.specs.Prelude.{if◌then◌else◌, unsigned_abs, nat_lt}
use Rattle.std.specs.List.{AllByRecursion}
use Rattle.std.specs.Ordering.{int_eq}
use Rattle.std.proofs.lemmas.Int.{ints, fits_signed_from_abs}
use Rattle.positions.specs.Mark.{Mark, Small}
use Rattle.positions.specs.Mark.Mark.{OfGlyph, OfRule, OfSpecial}
use Rattle.dvi_ops.specs.Command.{Command}
use Rattle.dvi_ops.specs.Command.Command.{PutRule, Right, Down, Fnt, Xxx, Eop, PostPost, FntDef}
use Rattle.dvi_ops.specs.Shortest.{HasRoom, IsWord}
use Rattle.font_set.specs.Key.{IsKey}
use Rattle.font_set.specs.Fonts.{Entry, FontSet}
use Rattle.dvicopy_out.specs.AsDocument.{IsSpellable, pages_commands, pages_place, post_place}
use Rattle.dvicopy_out.specs.Writable.{IsPut, IsPutPage, IsPutFont, IsPutCopy}
use Rattle.dvicopy_out.specs.Copies.{Page, Work, back_commands, filling, front_commands, last_bop, page_commands, pages_bytes}
use Rattle.dvicopy_out.specs.Marked.{Pen, char_command, fits, is_selected, mark_commands, mark_pen, marks_commands, page_pen, selecting, way}
use Rattle.dvicopy_out.specs.Moves.{first_part, moves, part}
use Rattle.dvicopy_out.specs.Numbered.{definition, definitions, definitions_from, is_real, number_of, one_where, put_definition, reals_in}
use Rattle.dvicopy_out.specs.Spelled.{spelled}
use Rattle.dvicopy_out.proofs.Documented.{each_both}
use Rattle.dvicopy_out.proofs.Rows.{last_within}

one_most : (b : Bool) → one_where b ≤ 1
one_most true = omega arith
one_most false = omega arith

-- a number below 2^31 from zero has 32 bits
word : (z : ℤ) → unsigned_abs z < 2 ^ 31 → IsWord z
word z h = fits_signed_from_abs w32 z h

small_first : (q : ℤ) → unsigned_abs (first_part q) < 2 ^ 31
small_first q = grind (arith, ints)

small_rest : (q : ℤ) → unsigned_abs q < 2 ^ 32 - 1 → unsigned_abs (q -ℤ first_part q) < 2 ^ 31
small_rest q h = grind (arith, ints)

part_room : (move : ℤ → Command) → ((q : ℤ) → IsWord q → HasRoom (move q)) → (q : ℤ) → IsWord q → AllByRecursion HasRoom (part move q)
part_room move all q h = by (int_eq q (pos 0)) where
  by : (b : Bool) → AllByRecursion HasRoom (if b then [] else move q ∷ [])
  by true = tt
  by false = (all q h, tt)

moves_room : (move : ℤ → Command) → ((q : ℤ) → IsWord q → HasRoom (move q)) → (q : ℤ) → unsigned_abs q < 2 ^ 32 - 1 → AllByRecursion HasRoom (moves move q)
moves_room move all q h =
    each_both HasRoom (part move (first_part q)) (part move (q -ℤ first_part q)) (part_room move all (first_part q) (word (first_part q) (small_first q))) (part_room move all (q -ℤ first_part q) (word (q -ℤ first_part q) (small_rest q h)))

far : (a b : ℤ) → Small a → Small b → unsigned_abs (a -ℤ b) < 2 ^ 32 - 1
far a b f g = omega (arith, ints, f, g)

record IsNear (p : Pen) : Type 0 where
  h : Small p.h
  v : Small p.v

way_room : (p : Pen) (h v : ℤ) → IsNear p → Small h → Small v → AllByRecursion HasRoom (way p h v)
way_room p h v near f g =
    each_both HasRoom (moves Right (h -ℤ p.h)) (moves Down (v -ℤ p.v)) (moves_room Right (λ q w. w) (h -ℤ p.h) (far h p.h f near.h)) (moves_room Down (λ q w. w) (v -ℤ p.v) (far v p.v g near.v))

-- ---- marks

reals_most : (es : List Entry) (k : ℕ) → reals_in (take k es) ≤ length es
reals_most [] zero = omega arith
reals_most [] (suc k) = omega arith
reals_most (e ∷ es) zero = omega arith
reals_most (e ∷ es) (suc k) = let rest = reals_most es k in let one = one_most (is_real e.state) in omega (arith, rest, one)

near_h : (z h : ℤ) (b : Bool) → nat_lt (unsigned_abs z) (2 ^ 31) ≡ b → Small h → Small (if b then z else h)
near_h z h true e f = ltb-true (unsigned_abs z) (2 ^ 31) e
near_h z h false e f = f

select_room : (b : Bool) (n : ℕ) → n ≤ 1000 → AllByRecursion HasRoom (if b then [] else Fnt (pos n) ∷ [])
select_room true n h = tt
select_room false n h = (word (pos n) (omega (arith, h)), tt)

char_room : (b : Bool) (code : ℕ) → code < 256 → HasRoom (char_command b code)
char_room true code h = word (pos code) (omega (arith, h))
char_room false code h = word (pos code) (omega (arith, h))

mark_room : (set : FontSet) (p : Pen) (m : Mark) → length set.fonts ≤ 1000 → IsNear p → IsPut m → AllByRecursion HasRoom (mark_commands set p m) × IsNear (mark_pen set p m)
mark_room set p (OfGlyph g) few near put =
    let n : ℕ = number_of set g.font in
    let small : n ≤ 1000 = omega (arith, few, reals_most set.fonts g.font) in
    let z : ℤ = g.h +ℤ g.width in (
      each_both HasRoom (way p g.h g.v) (selecting p.font n ++ char_command (fits z) g.code ∷ []) (way_room p g.h g.v near put.0.2 put.0.3)
          (each_both HasRoom (selecting p.font n) (char_command (fits z) g.code ∷ []) (select_room (is_selected p.font n) n small) (char_room (fits z) g.code put.1, tt)),
      record { h = near_h z g.h (fits z) refl put.0.2; v = put.0.3 },
    )
mark_room set p (OfRule r) few near put = (
  each_both HasRoom (way p r.h r.v) (PutRule r.a r.b ∷ []) (way_room p r.h r.v near put.4 put.5) ((word r.a put.6, word r.b put.7), tt),
  record { h = put.4; v = put.5 },
)
mark_room set p (OfSpecial s) few near put = (
  each_both HasRoom (way p s.h s.v) (Xxx s.bytes ∷ []) (way_room p s.h s.v near put.3 put.4) (omega (arith, put.0), tt),
  record { h = put.3; v = put.4 },
)

marks_room : (set : FontSet) (p : Pen) (ms : List Mark) → length set.fonts ≤ 1000 → IsNear p → AllByRecursion IsPut ms → AllByRecursion HasRoom (marks_commands set p ms)
marks_room set p [] few near h = tt
marks_room set p (m ∷ ms) few near h =
    let here = mark_room set p m few near h.0 in
    each_both HasRoom (mark_commands set p m) (marks_commands set (mark_pen set p m) ms) here.0 (marks_room set (mark_pen set p m) ms few here.1 h.1)

-- ---- pages

page_room : (set : FontSet) (last : ℤ) (p : Page) → length set.fonts ≤ 1000 → IsWord last → IsPutPage p → AllByRecursion HasRoom (page_commands set last p)
page_room set last p few back put =
    ((put.ten, put.words, back), each_both HasRoom (marks_commands set page_pen p.marks) (Eop ∷ []) (marks_room set page_pen p.marks few (record { h = omega arith; v = omega arith }) put.marks) (tt, tt))

all_pages_room : (set : FontSet) (last : ℤ) (at : ℕ) (ps : List Page) → length set.fonts ≤ 1000 → IsWord last → AllByRecursion IsPutPage ps → at + length (pages_bytes set last at ps) < 2 ^ 31 → AllByRecursion HasRoom (pages_commands set last at ps)
all_pages_room set last at [] few back put short = tt
all_pages_room set last at (p ∷ ps) few back put short =
    let here : List ℕ = spelled (page_commands set last p) in
    let next : ℕ = at + length here in
    let long = length-append here (pages_bytes set (pos at) next ps) in
    each_both HasRoom (page_commands set last p) (pages_commands set (pos at) next ps) (page_room set last p few back put.0)
    (all_pages_room set (pos at) next ps few (word (pos at) (omega (arith, short))) put.1 (omega (arith, short, long)))

-- ---- definitions

definition_room : (n : ℕ) (e : Entry) → n ≤ 1000 → IsPutFont e → HasRoom (FntDef (definition n e.key))
definition_room n e h put =
    let key = put.key in
    (word (pos n) (omega (arith, h)), put.checksum, word (pos e.key.size) (omega (arith, key.size.1)), word (pos e.key.design) (omega (arith, key.design.1)), omega arith, omega arith, omega (arith, key.name.1))

put_room : (n : ℕ) (e : Entry) (b : Bool) (cs : List Command) → n ≤ 1000 → IsPutFont e → AllByRecursion HasRoom cs → AllByRecursion HasRoom (put_definition n e.key b cs)
put_room n e true cs h put rest = (definition_room n e h put, rest)
put_room n e false cs h put rest = rest

definitions_room : (es : List Entry) (n : ℕ) → n + length es ≤ 1000 → AllByRecursion IsPutFont es → AllByRecursion HasRoom (definitions_from n es)
definitions_room [] n h put = tt
definitions_room (e ∷ es) n h put =
    let m : ℕ = n + one_where (is_real e.state) in
    let one = one_most (is_real e.state) in
    put_room n e (is_real e.state) (definitions_from m es) (omega (arith, h)) put.0 (definitions_room es m (omega (arith, h, one)) put.1)

keys_of : (es : List Entry) → AllByRecursion IsPutFont es → AllByRecursion (λ (e : Entry). IsKey e.key) es
keys_of [] h = tt
keys_of (e ∷ es) h = (h.0.key, keys_of es h.1)

-- ---- all of them

pub spellable : (w : Work) (ps : List Page) → IsPutCopy w ps → IsSpellable w ps
spellable w ps put =
    let set : FontSet = w.set in
    let start : ℕ = pages_place w in
    let last : ℤ = last_bop set (negsuc 0) start ps in
    let post : ℕ = post_place w ps in
    let front : List ℕ = spelled (front_commands w) in
    let pages : List ℕ = pages_bytes set (negsuc 0) start ps in
    let back : List ℕ = spelled (back_commands w last post (length ps)) in
    let long1 = length-append front pages in
    let long2 = length-append (front ++ pages) back in
    let long3 = length-append (front ++ pages ++ back) (filling (length (front ++ pages ++ back))) in
    let short = put.short in
    let some : unsigned_abs (negsuc 0) < 2 ^ 31 = omega arith in
    let within : start + length pages < 2 ^ 31 = omega (arith, short, long1, long2, long3) in
    let last_small : unsigned_abs last < 2 ^ 31 = last_within set (negsuc 0) start (2 ^ 31) ps some within in
    let defs : AllByRecursion HasRoom (definitions set) = definitions_room set.fonts 0 (omega (arith, put.few)) put.fonts in
    let fronts : AllByRecursion HasRoom (front_commands w) = ((omega arith, put.num, put.den, put.mag, put.comment), defs) in
    let counted : length ps % 65536 < 2 ^ 16 = omega arith in
    let backs : AllByRecursion HasRoom (back_commands w last post (length ps)) = (
      (word last last_small, put.num, put.den, put.mag, put.tall, put.wide, omega arith, counted),
      each_both HasRoom (definitions set) (PostPost post 2 ∷ []) defs ((omega (arith, within), omega arith), tt),
    ) in
    record {
      room = each_both HasRoom (front_commands w) (pages_commands set (negsuc 0) start ps ++ back_commands w last post (length ps)) fronts
          (each_both HasRoom (pages_commands set (negsuc 0) start ps) (back_commands w last post (length ps)) (all_pages_room set (negsuc 0) start ps put.few (word (negsuc 0) some) put.pages within) backs);
      keys = keys_of set.fonts put.fonts;
    }
