-- The page of a document that was read.
use Rattle.std.proofs.Common.{◌≡◌, ◌≤◌, ◌<◌, ◌+◌, ◌-◌, ◌^◌, ℕ, List, length, map, drop, get_or, Some, None, arith, refl, sym, ap, subst, ◌∙◌}
use Rattle.std.specs.Prelude.{slice_get, slice_range}
use Rattle.std.specs.Option.{option_map}
use Rattle.std.proofs.lemmas.List.{length-take, length-drop}
use Rattle.std.proofs.lemmas.Option.{slice_get-map, get_or_from_slice_get}
use Rattle.std.proofs.Math.ListN.{get_or-map}
use Rattle.dvi_ops.specs.Command.{Definition}
use Rattle.dvi_ops.specs.Placed.{Placed, Lexes}
use Rattle.dvi_ops.specs.Laws.{OneReading}
use Rattle.dvi_doc.specs.Document.{Document, PageOf}
use Rattle.dvi_doc.specs.Grammar.{AllInner, IsDoc}
use Rattle.dvi_doc.specs.View.{IsRead, Outline, ReadDoc, outline, page_view}
use Rattle.dvi_doc.specs.declared.page.Page.{Page}
use Rattle.font_set.specs.Search.{or_none, page_in, page_of, program_in}
use Rattle.font_set.specs.Found.{IsPage}

same_some : {X : Type 0} (x y : X) → Some x ≡ Some y → x ≡ y
same_some x y e = cc

-- the page of the code has the outline that was found
seen : (ps : List Page) (os : List Outline) (k : ℕ) (o : Outline) (x : Page) → map page_view ps ≡ os → slice_get os k ≡ Some o → page_view (get_or ps k x) ≡ o
seen ps os k o x e at =
    sym (get_or-map page_view ps k x) ∙ ap (λ (xs : List Outline). get_or xs k (page_view x)) e ∙ get_or_from_slice_get os k o (page_view x) at

range_length : (xs : List ℕ) (i j : ℕ) → i ≤ j → j ≤ length xs → i + length (slice_range xs i j) ≡ j
range_length xs i j h k = omega (arith, length-take (j - i) (drop i xs), length-drop i xs)

abbrev pub BodyAt : ReadDoc → ℕ → List ℕ → Type 0
BodyAt r k bytes = (o : Outline) × (slice_get r.pages k ≡ Some o) × (o.first ≤ o.eop) × (o.eop ≤ length r.bytes) × (bytes ≡ slice_range r.bytes o.first o.eop)

pub page_is : (r : ReadDoc) (k : ℕ) (ps : List Page) (dummy : Page) (bytes : List ℕ) → map page_view ps ≡ r.pages → BodyAt r k bytes → page_of r k ≡ page_in r.fonts (get_or ps k dummy).first bytes
unfolding page_of
page_is r k ps dummy bytes views (o, at, low, high, cut) =
    let first : (get_or ps k dummy).first ≡ o.first = ap (λ (x : Outline). x.first) (seen ps r.pages k o dummy views at) in
    ap (program_in r) at
    ∙ ap (λ (n : ℕ). page_in r.fonts n (slice_range r.bytes o.first o.eop)) (sym first)
    ∙ ap (λ (bs : List ℕ). page_in r.fonts (get_or ps k dummy).first bs) (sym cut)

lexed_in : OneReading → (ds : List Definition) (first : ℕ) (bytes : List ℕ) (cs : List Placed) → Lexes first bytes cs → Lexes first bytes (page_in ds first bytes).commands
unfolding page_in
lexed_in one ds first bytes cs l = subst (Lexes first bytes) (sym (ap or_none ((one first bytes cs).0 l))) l

no_first : (ds : List Definition) (first : ℕ) (bytes : List ℕ) → (page_in ds first bytes).first ≡ None
unfolding page_in
no_first ds first bytes = refl

pub is_page : OneReading → (r : ReadDoc) (k : ℕ) (ps : List Page) (dummy : Page) (bytes : List ℕ) → IsRead r → length r.bytes < 2 ^ 31 → map page_view ps ≡ r.pages → BodyAt r k bytes
    → ((d : Document) → IsDoc r.bytes d → (p : PageOf) × (slice_get d.pages k ≡ Some p) × Lexes p.first bytes p.commands × AllInner p.commands)
    → IsPage (record { page = page_in r.fonts (get_or ps k dummy).first bytes; bytes = bytes; first = (get_or ps k dummy).first })
is_page one r k ps dummy bytes (d, is, shows) few views (o, at, low, high, cut) commands =
    let first : (get_or ps k dummy).first ≡ o.first = ap (λ (x : Outline). x.first) (seen ps r.pages k o dummy views at) in
    let p = commands d is in
    let found : slice_get (map outline d.pages) k ≡ Some o = ap (λ (xs : List Outline). slice_get xs k) (sym shows.1) ∙ at in
    let same : o ≡ outline p.0 = same_some o (outline p.0) (sym found ∙ slice_get-map outline d.pages k ∙ ap (option_map outline) p.1) in
    let start : p.0.first ≡ (get_or ps k dummy).first = sym (first ∙ ap (λ (x : Outline). x.first) same) in
    let short : o.first + length bytes ≤ length r.bytes = rw cut (omega (arith, range_length r.bytes o.first o.eop low high)) in
    record {
      short = rw first (omega (arith, short, few));
      lexed = lexed_in one r.fonts (get_or ps k dummy).first bytes p.0.commands (subst (λ (n : ℕ). Lexes n bytes p.0.commands) start p.2);
      none = no_first r.fonts (get_or ps k dummy).first bytes;
    }
