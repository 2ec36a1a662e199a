-- A document has no more pages than bytes.
use Rattle.std.proofs.Common.{◌≤◌, ◌+◌, ℕ, ℤ, pos, negsuc, List, [], ◌∷◌, ◌++◌, length, arith, ap, length-append}
use Rattle.std.proofs.lemmas.List.{length-map}
use Rattle.dvi_ops.specs.Command.{Command}
use Rattle.dvi_ops.specs.Command.Command.{Eop, Post, PostPost}
use Rattle.dvi_ops.specs.Spelling.{Spell}
use Rattle.dvi_ops.specs.Placed.{Placed, Lexes}
use Rattle.dvi_doc.specs.Document.{Document, Item, between, commands_of, pages_of, placed}
use Rattle.dvi_doc.specs.Document.Item.{Filler, Paged}
use Rattle.dvi_doc.specs.Grammar.{IsDoc}
use Rattle.dvi_doc.specs.View.{IsRead, ReadDoc, outline}

-- a spelling has a byte
spelled : (c : Command) (bytes : List ℕ) → Spell c bytes → 1 ≤ length bytes
spelled c [] h = absurd h
spelled c (b ∷ bs) h = omega arith

lexes_few : (at : ℕ) (bytes : List ℕ) (cs : List Placed) → Lexes at bytes cs → length cs ≤ length bytes
lexes_few at bytes [] h = omega arith
lexes_few at bytes (c ∷ cs) (place, front, rest, cut, spell, more) =
    omega (arith, spelled c.command front spell, lexes_few (at + length front) rest cs more, ap length cut, length-append front rest)

between_many : (last : ℤ) (is : List Item) → length (pages_of is) ≤ length (between last is)
between_many last [] = omega arith
between_many last (Filler c ∷ is) = omega (arith, between_many last is)
between_many last (Paged p ∷ is) =
    omega (arith, between_many (pos p.at) is, length-append p.commands (placed p.eop Eop ∷ between (pos p.at) is))

pub document_few : (bytes : List ℕ) (d : Document) → IsDoc bytes d → length d.pages ≤ length bytes
document_few bytes d (f, (id, items, behind, back, whole, filling, cut, four, fill, lexes), same, agrees) =
    omega (
      arith,
      ap (λ (x : Document). length x.pages) same,
      between_many (negsuc 0) f.items,
      lexes_few 0 whole (commands_of f) lexes,
      ap length cut,
      length-append whole filling,
      length-append (between (negsuc 0) f.items) (placed f.post (Post f.tail) ∷ (f.behind ++ placed f.ends (PostPost f.post 2) ∷ [])),
    )

pub read_few : (r : ReadDoc) → IsRead r → length r.pages ≤ length r.bytes
read_few r (d, is, shows) = omega (arith, document_few r.bytes d is, ap length shows.1, length-map d.pages outline)
