-- Commands of a page that were passed over: what is known at their start goes on to their end.
use Rattle.std.proofs.Common.{◌≡◌, ◌≤◌, ℕ, zero, suc, ℤ, List, [], ◌++◌, sym, ap, subst, ◌∙◌, arith}
use Rattle.std.proofs.lemmas.List.{append-nil}
use Rattle.dvi_ops.specs.Command.{Command, Definition}
use Rattle.dvi_doc.specs.Document.{put_definition}
use Rattle.dvi_doc.specs.Order.{Reaches, reading}
use Rattle.dvi_doc.specs.Order.Part.{Inside}
use Rattle.dvi_doc.specs.Steps.{PassedTo}
use Rattle.dvi_doc.proofs.Further.{HoldsPage, page_more, reach_inner}

pub passed_on : (n : ℕ) (bytes : List ℕ) (start at : ℕ) → PassedTo n bytes start at → start ≤ at
passed_on zero bytes start at p = omega (arith, p)
passed_on (suc n) bytes start at p = omega (arith, passed_on n bytes start p.0 p.1, p.3.0)

pub same_definitions : (c : Command) (defs : List Definition) → put_definition c [] ≡ [] → defs ≡ defs ++ put_definition c []
same_definitions c defs none = sym (append-nil defs) ∙ ap (λ (l : List Definition). defs ++ l) (sym none)

pub page_passed : (n : ℕ) (bytes : List ℕ) (start at end : ℕ) (old new : List Definition) → start ≤ at → PassedTo n bytes at end → HoldsPage bytes start at old new → HoldsPage bytes start end old new
page_passed zero bytes start at end old new le p h = subst (λ (k : ℕ). HoldsPage bytes start k old new) (sym p) h
page_passed (suc n) bytes start at end old new le p h =
    page_more bytes start p.0 end p.2 old new new (omega (arith, le, passed_on n bytes at p.0 p.1)) p.3 p.4 (same_definitions p.2 new p.5) (page_passed n bytes start at p.0 old new le p.1 h)

pub reach_passed : (n : ℕ) (bytes : List ℕ) (at end : ℕ) (last : ℤ) → PassedTo n bytes at end → Reaches bytes at (reading Inside last 0) → Reaches bytes end (reading Inside last 0)
reach_passed zero bytes at end last p h = subst (λ (k : ℕ). Reaches bytes k (reading Inside last 0)) (sym p) h
reach_passed (suc n) bytes at end last p h = reach_inner bytes p.0 end last p.2 p.3 p.4 (reach_passed n bytes at p.0 last p.1 h)
