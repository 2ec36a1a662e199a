-- Font definitions by their places.
use Rattle.std.proofs.Common.{Option, Some, None, MatchOption, IfSome, Bor, ◌≡◌, ◌≤◌, ◌<◌, ◌-◌, ℕ, zero, suc, ℤ, List, [], ◌∷◌, ◌++◌, length, take, drop, refl, sym, ap, subst, ◌∙◌, arith, slice_range, slice_index, get_or, slice_index_or}
use Rattle.std.specs.List.{All, Contains}
use Rattle.std.specs.List.Sorted.{IsPermutation}
use Rattle.std.proofs.lemmas.List.{take_at, length-map, map-append, get_or-drop, get_or-map}
use Rattle.std.proofs.lemmas.List.Folds.{drop_split}
use Rattle.std.proofs.lemmas.List.Elements.{All-append, All-cons, All-nil}
use Rattle.std.proofs.Math.Seq.{drop-drop}
use Rattle.dvi_ops.specs.Command.{Command, Definition}
use Rattle.dvi_ops.specs.Command.Command.{FntDef}
use Rattle.dvi_ops.specs.Laws.{OneSpelling}
use Rattle.dvi_ops.specs.Numbered.{numbered}
use Rattle.dvi_ops.specs.Spelling.{Spell, definition, extent, byte_at, behind}
use Rattle.dvi_ops.proofs.Defining.{defined_is, bytes_of, is_definition}
use Rattle.dvi_ops.proofs.Numbering as index
use Rattle.dvi_ops.proofs.Texts.{extent-append, len_of_def}
use Rattle.dvi_doc.specs.Grammar.{number_of, numbers_of}
use Rattle.dvi_doc.specs.Order.{SpelledTo}
use Rattle.dvi_doc.specs.Standing.{HoldsEnding, Stands, definition_at, definitions_at}
use Rattle.dvi_doc.specs.declared.font_def.FontDef.{FontDef}
use Rattle.dvi_doc.proofs.Lexing.{range_len}

-- ---- one command at a place

pub spelled_once : OneSpelling → (bytes : List ℕ) (at e f : ℕ) (c d : Command) → SpelledTo bytes at e c → SpelledTo bytes at f d → (e ≡ f) × (c ≡ d)
spelled_once one bytes at e f c d s t =
    let front : at ≤ e = omega (arith, s.0) in
    let other : at ≤ f = omega (arith, t.0) in
    let both : slice_range bytes at e ++ drop e bytes ≡ slice_range bytes at f ++ drop f bytes = sym (drop_split bytes at e front) ∙ drop_split bytes at f other in
    let law = one (slice_range bytes at e) (slice_range bytes at f) c d (drop e bytes) (drop f bytes) s.2 t.2 both in
    let long : e - at ≡ f - at = sym (range_len bytes at e front s.1) ∙ ap length law.0 ∙ range_len bytes at f other t.1 in
    (omega (arith, long, front, other), law.1)

-- ---- the definition at a place

-- the definition that bytes begin with
leads : (bytes : List ℕ) (at : ℕ) (d : Definition) (xs rest : List ℕ) → drop at bytes ≡ xs ++ rest → Spell (FntDef d) xs → definition_at bytes at ≡ d
unfolding definition_at
leads bytes at d [] rest e s = absurd s
leads bytes at d (op ∷ args) rest e s =
    let first : byte_at bytes at ≡ op = sym (get_or-drop at bytes 0 0 ∙ ap (slice_index bytes) (omega arith)) ∙ ap (λ (l : List ℕ). slice_index l 0) e in
    let others : behind bytes at ≡ args ++ rest = sym (drop-drop 1 at bytes) ∙ ap (drop 1) e in
    let b = bytes_of (op ∷ args) (is_definition (op ∷ args) d s) in
    let fixed = len_of_def op b.1 b.2 in
    let long : extent op (args ++ rest) ≡ length args = extent-append op args rest (omega (arith, fixed, b.3)) ∙ sym s.1 in
    let all : take (extent (byte_at bytes at) (behind bytes at)) (behind bytes at) ≡ args =
    ap (λ (o : ℕ). take (extent o (behind bytes at)) (behind bytes at)) first ∙ ap (λ (l : List ℕ). take (extent op l) l) others ∙ ap (λ (n : ℕ). take n (args ++ rest)) long ∙ take_at args rest (length args) refl in
    ap (λ (o : ℕ). definition (o - 242) (take (extent (byte_at bytes at) (behind bytes at)) (behind bytes at))) first ∙ ap (λ (l : List ℕ). definition (op - 242) l) all ∙ defined_is (op ∷ args) d s

pub definition_there : (bytes : List ℕ) (at end : ℕ) (d : Definition) → SpelledTo bytes at end (FntDef d) → definition_at bytes at ≡ d
definition_there bytes at end d s = leads bytes at d (slice_range bytes at end) (drop end bytes) (drop_split bytes at end (omega (arith, s.0))) s.2

pub stands_there : (bytes : List ℕ) (font : FontDef) (end : ℕ) (d : Definition) → SpelledTo bytes font.at end (FntDef d) → Stands bytes font
stands_there bytes font end d s = (end, subst (λ (x : Definition). SpelledTo bytes font.at end (FntDef x)) (sym (definition_there bytes font.at end d s)) s)

-- ---- definitions and their places

-- one place more
pub more_at : (bytes : List ℕ) (fonts : List FontDef) (font : FontDef) → definitions_at bytes (fonts ++ font ∷ []) ≡ definitions_at bytes fonts ++ definition_at bytes font.at ∷ []
more_at bytes fonts font = map-append (λ (f : FontDef). definition_at bytes f.at) fonts (font ∷ [])

pub more_stand : (bytes : List ℕ) (fonts : List FontDef) (font : FontDef) → All (Stands bytes) fonts → Stands bytes font → All (Stands bytes) (fonts ++ font ∷ [])
more_stand bytes fonts font all one = All-append (Stands bytes) fonts (font ∷ []) all (All-cons (Stands bytes) font [] one (All-nil (Stands bytes)))

-- one of the places
pub one_stands : (bytes : List ℕ) (fonts : List FontDef) (font : FontDef) → All (Stands bytes) fonts → Contains fonts font → Stands bytes font
one_stands bytes fonts font all h = subst (Stands bytes) h.2 (all h.0 font h.1)

-- what stands at one of the places is one of the definitions
pub contained_at : (bytes : List ℕ) (fonts : List FontDef) (font : FontDef) → Contains fonts font → Contains (definitions_at bytes fonts) (definition_at bytes font.at)
contained_at bytes fonts font h = (
  h.0,
  omega (arith, h.1, length-map fonts (λ (f : FontDef). definition_at bytes f.at)),
  get_or-map (λ (f : FontDef). definition_at bytes f.at) fonts h.0 font (definition_at bytes font.at) h.1 ∙ ap (λ (f : FontDef). definition_at bytes f.at) h.2,
)

-- what is so at each of the places is so of what is found among them
pub found_among : (P Q : FontDef → Type 0) (N : Type 0) (fonts : List FontDef) (o : Option (Bor FontDef)) → MatchOption o N (λ font. Contains fonts font.now × Q font.now) → ((font : FontDef) → Contains fonts font → P font) → IfSome o (λ font. P font.now)
found_among P Q N fonts None h each = tt
found_among P Q N fonts (Some font) h each = each font.now h.0

-- what is so of all definitions is so of the one at a place
pub one_is : (P : Definition → Type 0) (bytes : List ℕ) (fonts : List FontDef) (font : FontDef) → All P (definitions_at bytes fonts) → Contains fonts font → P (definition_at bytes font.at)
one_is P bytes fonts font all h = let d = definition_at bytes font.at in let k = contained_at bytes fonts font h in subst P k.2 (all k.0 d k.1)

-- ---- the index of their numbers

pub numbered_more : (ds : List Definition) (d : Definition) (which : ℕ) → length ds ≡ which → numbered 0 (numbers_of ds) ++ (d.k, which) ∷ [] ≡ numbered 0 (numbers_of (ds ++ d ∷ []))
numbered_more ds d which long =
    index.numbered_more (numbers_of ds) d.k which (length-map ds number_of ∙ long) ∙ ap (λ (ns : List ℤ). numbered 0 ns) (sym (map-append number_of ds (d ∷ [])))

number_at : (bytes : List ℕ) (fonts : List FontDef) (which : ℕ) (font : FontDef) (n : ℤ) → which < length fonts → slice_index_or (numbers_of (definitions_at bytes fonts)) which n ≡ (definition_at bytes (get_or fonts which font).at).k
number_at bytes [] which font n h = absurd (omega (arith, h))
number_at bytes (x ∷ fonts) zero font n h = refl
number_at bytes (x ∷ fonts) (suc which) font n h = number_at bytes fonts which font n (omega (arith, h))

-- the place that a pair names
pub which_of : (bytes : List ℕ) (fonts : List FontDef) (pairs : List (ℤ × ℕ)) (k : ℤ) (which : ℕ) → IsPermutation (numbered 0 (numbers_of (definitions_at bytes fonts))) pairs → Contains pairs (k, which)
    → (which < length fonts) × ((font : FontDef) → (definition_at bytes (get_or fonts which font).at).k ≡ k)
which_of bytes fonts pairs k which same h =
    let p = index.place_of (numbers_of (definitions_at bytes fonts)) pairs k which same h in
    let inside : which < length fonts = omega (arith, p.0, length-map (definitions_at bytes fonts) number_of, length-map fonts (λ (f : FontDef). definition_at bytes f.at)) in
    (inside, λ font. sym (number_at bytes fonts which font k inside) ∙ p.1 k)

pub font_found : (bytes : List ℕ) (fonts : List FontDef) (pairs : List (ℤ × ℕ)) (k : ℤ) (which : ℕ) (font : FontDef) → IsPermutation (numbered 0 (numbers_of (definitions_at bytes fonts))) pairs → Contains pairs (k, which) → font ≡ get_or fonts which font
    → Contains fonts font × ((definition_at bytes font.at).k ≡ k)
font_found bytes fonts pairs k which font same h e =
    let s = which_of bytes fonts pairs k which same h in
    ((which, s.0, sym e), ap (λ (f : FontDef). (definition_at bytes f.at).k) e ∙ s.1 font)

-- ---- no definitions

pub none_held : (bytes : List ℕ) (start : ℕ) → HoldsEnding bytes start start []
none_held bytes start =
    let none : start - start ≡ 0 = omega arith in
    ([], tt, ap (λ (n : ℕ). take n (drop start bytes)) none, refl)
