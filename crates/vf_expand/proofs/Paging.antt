-- What the grammar says of each page.
use Rattle.std.proofs.Common.{◌≡◌, ◌≤◌, ◌+◌, ◌-◌, ℕ, ℤ, List, Option, length, map, drop, get_or, Some, arith, sym, ap, subst, ◌∙◌}
use Rattle.std.specs.Prelude.{slice_get, slice_range}
use Rattle.std.specs.Option.{option_map}
use Rattle.std.proofs.lemmas.List.{length-take, length-drop}
use Rattle.std.proofs.lemmas.Option.{slice_get-map, get_or_from_slice_get}
use Rattle.std.proofs.Math.ListN.{get_or-map}
use Rattle.dvi_ops.specs.Placed.{Placed, Lexes}
use Rattle.dvi_ops.specs.Command.{Definition}
use Rattle.dvi_doc.specs.Document.{Document, PageOf}
use Rattle.dvi_doc.specs.Grammar.{AllInner, DefinesTwice, IsDoc}
use Rattle.dvi_doc.specs.Laws.{OneDocument}
use Rattle.dvi_doc.specs.View.{IsRead, Outline, ReadDoc, outline, page_view}
use Rattle.dvi_doc.specs.declared.page.Page.{Page}
use Rattle.dvi_ops.specs.Laws.{OneReading}
use Rattle.dvi_ops.specs.Reading.{commands_in}
use Rattle.dvi_doc.proofs.Judged.{page_lexes}
use Rattle.font_set.specs.Programs.{page_program}
use Rattle.font_set.specs.Search.{page_of, page_in, program_in, or_none}
use Rattle.vf_expand.specs.Page.{IsPage}

same_some : {X : Type 0} (x y : X) → Some x ≡ Some y → x ≡ y
same_some x y e = cc

page_outline : OneDocument → (r : ReadDoc) (d : Document) (k : ℕ) (o : Outline) (p : PageOf) → IsRead r → IsDoc r.bytes d → slice_get r.pages k ≡ Some o → slice_get d.pages k ≡ Some p → o ≡ outline p
page_outline one r d k o p (e, is, shows) h at there =
    let same : e ≡ d = one r.bytes e d is h in
    let found : slice_get (map outline d.pages) k ≡ Some o =
    ap (λ (x : Document). slice_get (map outline x.pages) k) (sym same) ∙ ap (λ (xs : List Outline). slice_get xs k) (sym shows.1) ∙ at in
    same_some o (outline p) (sym found ∙ slice_get-map outline d.pages k ∙ ap (option_map outline) there)

page_seen : (ps : List Page) (os : List Outline) (k : ℕ) (o : Outline) (x : Page) → map page_view ps ≡ os → slice_get os k ≡ Some o → page_view (get_or ps k x) ≡ o
page_seen ps os k o x e at =
    sym (get_or-map page_view ps k x) ∙ ap (λ (xs : List Outline). get_or xs k (page_view x)) e ∙ get_or_from_slice_get os k o (page_view x) at

range_length : (xs : List ℕ) (i j : ℕ) → i ≤ j → j ≤ length xs → i + length (slice_range xs i j) ≡ j
range_length xs i j h k = omega (arith, length-take (j - i) (drop i xs), length-drop i xs)

-- the bytes between a page's bop and its eop, the first of them at a place
pub record BodyOf (first : ℕ) (bytes : List ℕ) (p : PageOf) : Type 0 where
  pub lexed : Lexes first bytes p.commands
  pub inner : AllInner p.commands
  pub ends : first + length bytes ≡ p.eop

-- what `Doc::body` says
abbrev pub Cut : ReadDoc → ℕ → List ℕ → Type 0
Cut r k bytes = (o : Outline) × (slice_get r.pages k ≡ Some o) × (o.first ≤ o.eop) × (o.eop ≤ length r.bytes) × (bytes ≡ slice_range r.bytes o.first o.eop)

abbrev pub Holds : ReadDoc → ℕ → List ℕ → Type 0
Holds r k bytes = (d : Document) → IsDoc r.bytes d → (p : PageOf) × (slice_get d.pages k ≡ Some p) × Lexes p.first bytes p.commands × AllInner p.commands

pub body_of : OneDocument → (r : ReadDoc) (k : ℕ) (ps : List Page) (dummy : Page) (bytes : List ℕ) → IsRead r → map page_view ps ≡ r.pages → Cut r k bytes → Holds r k bytes → (p : PageOf) → IsPage r k p → BodyOf (get_or ps k dummy).first bytes p
body_of one r k ps dummy bytes read views (o, at, low, high, cut) holds p (d, is, there) =
    let q = holds d is in
    let this : q.0 ≡ p = same_some q.0 p (sym q.1 ∙ there) in
    let same : o ≡ outline p = page_outline one r d k o p read is at there in
    let seen : page_view (get_or ps k dummy) ≡ outline p = page_seen ps r.pages k o dummy views at ∙ same in
    let first : p.first ≡ (get_or ps k dummy).first = sym (ap (λ (x : Outline). x.first) seen) in
    record {
      lexed = subst (λ (n : ℕ). Lexes n bytes p.commands) first (subst (λ (x : PageOf). Lexes x.first bytes x.commands) this q.2);
      inner = subst (λ (x : PageOf). AllInner x.commands) this q.3;
      ends = rw cut (rw (sym first ∙ ap (λ (x : Outline). x.first) (sym same)) (range_length r.bytes o.first o.eop low high ∙ ap (λ (x : Outline). x.eop) same));
    }

pub page_there : (r : ReadDoc) (k : ℕ) (bytes : List ℕ) → IsRead r → Holds r k bytes → (p : PageOf) × IsPage r k p
page_there r k bytes (d, is, shows) holds = let q = holds d is in (q.0, (d, is, q.1))

pub short_of : (r : ReadDoc) (k : ℕ) (ps : List Page) (dummy : Page) (bytes : List ℕ) → map page_view ps ≡ r.pages → Cut r k bytes → (get_or ps k dummy).first + length bytes ≤ length r.bytes
short_of r k ps dummy bytes views (o, at, low, high, cut) =
    let first : (get_or ps k dummy).first ≡ o.first = ap (λ (x : Outline). x.first) (page_seen ps r.pages k o dummy views at) in
    rw (cut, first) (omega (arith, range_length r.bytes o.first o.eop low high))

-- a document that was read defines each font number once
pub once : (r : ReadDoc) → IsRead r → (k : ℤ) → DefinesTwice r.fonts k → ⊥
once r (d, is, shows) k twice = is.3.0.0 k (subst (λ (ds : List Definition). DefinesTwice ds k) shows.3 twice)

pub page_lexed : (r : ReadDoc) (k : ℕ) (bytes : List ℕ) → Holds r k bytes → (p : PageOf) → IsPage r k p → Lexes p.first bytes p.commands
page_lexed r k bytes holds p (d, is, there) =
    let q = holds d is in
    let this : q.0 ≡ p = same_some q.0 p (sym q.1 ∙ there) in
    subst (λ (x : PageOf). Lexes x.first bytes x.commands) this q.2

-- A page by its place among the pages is the one of the document.
pub page_at : OneDocument → OneReading → (r : ReadDoc) (k : ℕ) (p : PageOf) → IsRead r → IsPage r k p → page_of r k ≡ page_program r.fonts p.commands
unfolding page_of page_in
page_at one reads r k p (e, is, shows) (d, whole, there) =
    let same : e ≡ d = one r.bytes e d is whole in
    let found : slice_get r.pages k ≡ Some (outline p) =
    ap (λ (os : List Outline). slice_get os k) shows.1 ∙ ap (λ (x : Document). slice_get (map outline x.pages) k) same
    ∙ slice_get-map outline d.pages k ∙ ap (option_map outline) there in
    let lexed = page_lexes r.bytes whole.0 k p whole.1 (ap (λ (x : Document). slice_get x.pages k) whole.2 ∙ there) in
    let spelled : commands_in p.first (slice_range r.bytes p.first p.eop) ≡ Some p.commands = (reads p.first (slice_range r.bytes p.first p.eop) p.commands).0 lexed.2 in
    ap (program_in r) found ∙ ap (λ (o : Option (List Placed)). page_program r.fonts (or_none o)) spelled
