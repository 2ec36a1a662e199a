-- Pages one after another, and how long they are.
use Rattle.std.proofs.Common.{◌≡◌, ◌+◌, ◌*◌, ℕ, ℤ, pos, negsuc, List, [], ◌∷◌, ◌++◌, length, refl, sym, ap, ◌∙◌, arith, append_assoc, length-append}
use Rattle.std.specs.List.{AllByRecursion}
use Rattle.std.specs.Int.{cast_unsigned, w32}
use Rattle.std.proofs.lemmas.List.{append-nil}
use Rattle.byteorder.specs.Endian.{big_bytes}
use Rattle.byteorder.specs.Numbers.{length-bytes_high_first}
use Rattle.dvi_ops.specs.Command.{Command, Postamble}
use Rattle.dvi_ops.specs.Command.Command.{Bop, Eop, Post, PostPost}
use Rattle.font_set.specs.Fonts.{FontSet}
use Rattle.dvi_ops.specs.Shortest.{bytes_of, shortest, words_of}
use Rattle.dvicopy_out.specs.Spelled.{spelled}
use Rattle.dvicopy_out.specs.Marked.{marks_commands, page_pen}
use Rattle.dvicopy_out.specs.Numbered.{definitions}
use Rattle.dvicopy_out.specs.Copies.{Page, Work, back_commands, body, front_commands, last_bop, page_commands, page_length, pages_bytes, pages_length, postamble}
use Rattle.dvicopy_out.proofs.Spelling.{spelled_both, spelled_one}

-- ---- one page more

pub pages_more : (set : FontSet) (last : ℤ) (at : ℕ) (ps : List Page) (p : Page) → pages_bytes set last at (ps ++ p ∷ []) ≡ pages_bytes set last at ps ++ spelled (page_commands set (last_bop set last at ps) p)
pages_more set last at [] p = append-nil (spelled (page_commands set last p))
pages_more set last at (q ∷ ps) p =
    let here : List ℕ = spelled (page_commands set last q) in
    let next : ℕ = at + length here in
    ap (λ bs. here ++ bs) (pages_more set (pos at) next ps p)
    ∙ sym (append_assoc here (pages_bytes set (pos at) next ps) (spelled (page_commands set (last_bop set (pos at) next ps) p)))

pub last_more : (set : FontSet) (last : ℤ) (at : ℕ) (ps : List Page) (p : Page) → last_bop set last at (ps ++ p ∷ []) ≡ pos (at + length (pages_bytes set last at ps))
last_more set last at [] p = let e : at ≡ at + 0 = omega arith in ap (λ (n : ℕ). pos n) e
last_more set last at (q ∷ ps) p =
    let here : List ℕ = spelled (page_commands set last q) in
    let rest : List ℕ = pages_bytes set (pos at) (at + length here) ps in
    let e : (at + length here) + length rest ≡ at + length (here ++ rest) = omega (arith, length-append here rest) in
    last_more set (pos at) (at + length here) ps p ∙ ap (λ (n : ℕ). pos n) e

-- ---- lengths

length_word : (z : ℤ) → length (bytes_of 4 z) ≡ 4
length_word z = length-bytes_high_first 4 (cast_unsigned w32 z)

length_words : (zs : List ℤ) → length (words_of zs) ≡ 4 * length zs
length_words [] = refl
length_words (z ∷ zs) = let rest = length_words zs in omega (arith, length-append (bytes_of 4 z) (words_of zs), length_word z, rest)

-- how long a bop is
pub length_bop : (counts : List ℤ) (back : ℤ) → length counts ≡ 10 → length (spelled (Bop counts back ∷ [])) ≡ 45
unfolding shortest
length_bop counts back ten =
    let one = ap (λ (bs : List ℕ). length bs) (spelled_one (Bop counts back) refl) in
    omega (arith, one, length-append (words_of counts) (bytes_of 4 back), length_words counts, length_word back, ten)

pub length_eop : length (spelled (Eop ∷ [])) ≡ 1
unfolding shortest
length_eop = refl

pub length_post : (t : Postamble) → length (shortest (Post t)) ≡ 29
unfolding shortest
length_post t =
    let f0 : List ℕ = 248 ∷ [] in
    let f1 : List ℕ = f0 ++ bytes_of 4 t.back in
    let f2 : List ℕ = f1 ++ bytes_of 4 t.num in
    let f3 : List ℕ = f2 ++ bytes_of 4 t.den in
    let f4 : List ℕ = f3 ++ bytes_of 4 t.mag in
    let f5 : List ℕ = f4 ++ bytes_of 4 t.tall in
    let f6 : List ℕ = f5 ++ bytes_of 4 t.wide in
    let f7 : List ℕ = f6 ++ big_bytes 2 t.depth in
    omega (
      arith,
      length-append f0 (bytes_of 4 t.back),
      length-append f1 (bytes_of 4 t.num),
      length-append f2 (bytes_of 4 t.den),
      length-append f3 (bytes_of 4 t.mag),
      length-append f4 (bytes_of 4 t.tall),
      length-append f5 (bytes_of 4 t.wide),
      length-append f6 (big_bytes 2 t.depth),
      length-append f7 (big_bytes 2 t.pages),
      length_word t.back,
      length_word t.num,
      length_word t.den,
      length_word t.mag,
      length_word t.tall,
      length_word t.wide,
      length-bytes_high_first 2 t.depth,
      length-bytes_high_first 2 t.pages,
    )

pub length_post_post : (back id : ℕ) → length (shortest (PostPost back id)) ≡ 6
unfolding shortest
length_post_post back id = omega (arith, length-append (big_bytes 4 back) (id ∷ []), length-bytes_high_first 4 back)

-- a page has ten counts
abbrev pub HasTen : Page → Type 0
HasTen p = length p.counts ≡ 10

pub length_page : (set : FontSet) (last : ℤ) (p : Page) → HasTen p → length (spelled (page_commands set last p)) ≡ page_length set p
length_page set last p ten =
    let marks : List Command = marks_commands set page_pen p.marks in
    let all = ap (λ (bs : List ℕ). length bs) (spelled_both (Bop p.counts last ∷ []) (marks ++ Eop ∷ [])) in
    let rest = ap (λ (bs : List ℕ). length bs) (spelled_both marks (Eop ∷ [])) in
    omega (arith, all, rest, length-append (spelled (Bop p.counts last ∷ [])) (spelled (marks ++ Eop ∷ [])), length-append (spelled marks) (spelled (Eop ∷ [])), length_bop p.counts last ten, length_eop)

pub length_pages : (set : FontSet) (last : ℤ) (at : ℕ) (ps : List Page) → AllByRecursion HasTen ps → length (pages_bytes set last at ps) ≡ pages_length set ps
length_pages set last at [] h = refl
length_pages set last at (p ∷ ps) h =
    let here : List ℕ = spelled (page_commands set last p) in
    let rest : List ℕ = pages_bytes set (pos at) (at + length here) ps in
    omega (arith, length-append here rest, length_page set last p h.0, length_pages set (pos at) (at + length here) ps h.1)

pub length_more : (set : FontSet) (ps : List Page) (p : Page) → pages_length set (ps ++ p ∷ []) ≡ pages_length set ps + page_length set p
length_more set [] p = omega arith
length_more set (q ∷ ps) p = let rest = length_more set ps p in omega (arith, rest)

-- what stands behind the pages
pub back_is : (w : Work) (last : ℤ) (at pages : ℕ) → spelled (back_commands w last at pages) ≡ shortest (Post (postamble w last pages)) ++ (spelled (definitions w.set) ++ shortest (PostPost at 2))
back_is w last at pages =
    let post : Command = Post (postamble w last pages) in
    let ends : Command = PostPost at 2 in
    spelled_both (post ∷ []) (definitions w.set ++ ends ∷ [])
    ∙ (λ i. spelled_one post refl i ++ (spelled_both (definitions w.set) (ends ∷ []) ∙ ap (λ bs. spelled (definitions w.set) ++ bs) (spelled_one ends refl)) i)

pub length_back : (w : Work) (last : ℤ) (at pages : ℕ) → length (spelled (back_commands w last at pages)) ≡ length (spelled (definitions w.set)) + 35
length_back w last at pages =
    let post : List ℕ = shortest (Post (postamble w last pages)) in
    let middle : List ℕ = spelled (definitions w.set) in
    let ends : List ℕ = shortest (PostPost at 2) in
    omega (arith, ap (λ (bs : List ℕ). length bs) (back_is w last at pages), length-append post (middle ++ ends), length-append middle ends, length_post (postamble w last pages), length_post_post at 2)

-- how long a copy is, but for what fills it up
pub length_body : (w : Work) (ps : List Page) → AllByRecursion HasTen ps → length (body w ps) ≡ (length (spelled (front_commands w)) + length (spelled (definitions w.set))) + pages_length w.set ps + 35
length_body w ps ten =
    let front : List ℕ = spelled (front_commands w) in
    let pages : List ℕ = pages_bytes w.set (negsuc 0) (length front) ps in
    let last : ℤ = last_bop w.set (negsuc 0) (length front) ps in
    let back : List ℕ = spelled (back_commands w last (length front + length pages) (length ps)) in
    omega (arith, length-append (front ++ pages) back, length-append front pages, length_pages w.set (negsuc 0) (length front) ps ten, length_back w last (length front + length pages) (length ps))
