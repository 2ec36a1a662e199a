-- The line of a command in pieces.
use Rattle.std.proofs.Common.{◌≡◌, ◌++◌, ℕ, ℤ, List, [], length, map, Bor, codes, decimal, refl, sym, ap, ◌∙◌, append_assoc}
use Rattle.positions.specs.Place.{Place}
use Rattle.std.proofs.Math.ListN.{length-map}
use Rattle.dvi_doc.specs.View.{Outline, page_view}
use Rattle.dvi_doc.specs.declared.page.Page.{Page}
use Rattle.dvi_ops.specs.Command.{Command, Preamble}
use Rattle.dvi_ops.specs.View.{view}
use Rattle.dvi_ops.specs.declared.cmd.Cmd.{Cmd}
use Rattle.dvi_ops.specs.declared.cmd.Cmd.TheVariants as cmd
use Rattle.dvitype_list.specs.Texts.{command_line, escaped, name_text, head_text, own_text, place_text}

-- its place and its name
pub name_front : (at : ℕ) (c : Command) (k l m n : List ℕ) → k ≡ [] → l ≡ k ++ decimal at → m ≡ l ++ codes ": " → n ≡ m ++ name_text c → n ≡ decimal at ++ (codes ": " ++ name_text c)
name_front at c k l m n e f g h = rw (h, g, f, e) (append_assoc (decimal at) (codes ": ") (name_text c))

-- what stands behind the name, and then the place of the page
own_whole : (text line : List ℕ) (at : ℕ) (c : Command) (own : List ℕ) (p : Place) → own ≡ own_text c → line ≡ decimal at ++ (codes ": " ++ name_text c) → text ++ (line ++ (own ++ place_text p)) ≡ text ++ command_line at c p
own_whole text line at c own p e l =
    ap (λ (x : List ℕ). text ++ (x ++ (own ++ place_text p))) l
    ∙ ap (λ (x : List ℕ). text ++ ((decimal at ++ (codes ": " ++ name_text c)) ++ (x ++ place_text p))) e

pub special_whole : (text line : List ℕ) (at : ℕ) (c : Cmd) (t : Bor (List ℕ)) (p : Place) → c ≡ cmd.Xxx t → line ≡ decimal at ++ (codes ": " ++ name_text (view c)) → text ++ (line ++ (escaped t.now ++ place_text p)) ≡ text ++ command_line at (view c) p
special_whole text line at c t p e l = own_whole text line at (view c) (escaped t.now) p (ap (λ (x : Cmd). own_text (view x)) (sym e)) l

own_none : (c : Cmd) → ((t : Bor (List ℕ)) → c ≡ cmd.Xxx t → ⊥) → own_text (view c) ≡ []
own_none (cmd.Xxx t) h = absurd (h t refl)
own_none _ h = refl

pub plain_whole : (text line : List ℕ) (at : ℕ) (c : Cmd) (p : Place) → ((t : Bor (List ℕ)) → c ≡ cmd.Xxx t → ⊥) → line ≡ decimal at ++ (codes ": " ++ name_text (view c)) → text ++ (line ++ place_text p) ≡ text ++ command_line at (view c) p
plain_whole text line at c p h l = own_whole text line at (view c) [] p (sym (own_none c h)) l

-- ---- the head

-- what was read is told by the document
pub head_whole : (d e : Preamble) (mag : ℤ) (ps : List Page) (os : List Outline) → d ≡ e → map page_view ps ≡ os → head_text d mag (length ps) ≡ head_text e mag (length os)
head_whole d e mag ps os same views =
    ap (λ (x : Preamble). head_text x mag (length ps)) same ∙ ap (λ (n : ℕ). head_text e mag n) (sym (length-map ps page_view) ∙ ap length views)
