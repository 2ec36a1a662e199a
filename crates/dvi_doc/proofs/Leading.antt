-- Commands that are right where they stand, and those of a file.
use Rattle.std.proofs.Common.{◌≡◌, ℕ, ℤ, pos, negsuc, List, [], ◌∷◌, ◌++◌, refl, sym, subst}
use Rattle.dvi_ops.specs.Command.{Command}
use Rattle.dvi_ops.specs.Command.Command.{Bop, Eop, Pre, Post, PostPost, Nop, FntDef}
use Rattle.dvi_ops.specs.Placed.{Placed}
use Rattle.dvi_doc.specs.Document.{placed, Item, File, between, last_bop, commands_of}
use Rattle.dvi_doc.specs.Document.Item.{Filler, Paged}
use Rattle.dvi_doc.specs.Grammar.{IsFiller, IsInner, AllFillers, AllInner, AllItems, IsFile}
use Rattle.dvi_doc.specs.Order.{Reading, reading, at_start, Fits, after, Leads}
use Rattle.dvi_doc.specs.Order.Part.{Between, Inside, Behind, Past}

pub leads_append : (cs ds : List Placed) (r s t : Reading) → Leads r cs s → Leads s ds t → Leads r (cs ++ ds) t
leads_append [] ds r s t h k = subst (λ (x : Reading). Leads x ds t) (sym h) k
leads_append (c ∷ cs) ds r s t h k = (h.0, leads_append cs ds (after r c.place c.command) s t h.1 k)

pub leads_split : (cs ds : List Placed) (r s t : Reading) → Leads r (cs ++ ds) t → Leads r cs s → Leads s ds t
leads_split [] ds r s t h k = subst (λ (x : Reading). Leads x ds t) k h
leads_split (c ∷ cs) ds r s t h k = leads_split cs ds (after r c.place c.command) s t h.1 k.1

-- fillers change nothing, between pages and behind post
pub filler_between : (last : ℤ) (at : ℕ) (c : Command) → IsFiller c → Fits (reading Between last 0) c × (after (reading Between last 0) at c ≡ reading Between last 0)
filler_between last at Nop h = ((tt, tt, tt, tt), refl)
filler_between last at (FntDef d) h = ((tt, tt, tt, tt), refl)
filler_between last at _ h = absurd h

pub filler_behind : (last : ℤ) (post at : ℕ) (c : Command) → IsFiller c → Fits (reading Behind last post) c × (after (reading Behind last post) at c ≡ reading Behind last post)
filler_behind last post at Nop h = ((tt, tt, tt, tt), refl)
filler_behind last post at (FntDef d) h = ((tt, tt, tt, tt), refl)
filler_behind last post at _ h = absurd h

-- nor does what a page holds, inside it
pub inner_inside : (last : ℤ) (at : ℕ) (c : Command) → IsInner c → Fits (reading Inside last 0) c × (after (reading Inside last 0) at c ≡ reading Inside last 0)
inner_inside last at (Bop counts back) h = absurd h
inner_inside last at Eop h = absurd h
inner_inside last at (Pre head) h = absurd h
inner_inside last at (Post tail) h = absurd h
inner_inside last at (PostPost back id) h = absurd h
inner_inside last at _ h = ((tt, tt, tt, tt), refl)

fillers_lead : (cs : List Placed) (last : ℤ) (post : ℕ) → AllFillers cs → Leads (reading Behind last post) cs (reading Behind last post)
fillers_lead [] last post h = refl
fillers_lead (c ∷ cs) last post h =
    let f = filler_behind last post c.place c.command h.0 in
    (f.0, subst (λ (x : Reading). Leads x cs (reading Behind last post)) (sym f.1) (fillers_lead cs last post h.1))

inner_lead : (cs : List Placed) (last : ℤ) → AllInner cs → Leads (reading Inside last 0) cs (reading Inside last 0)
inner_lead [] last h = refl
inner_lead (c ∷ cs) last h =
    let f = inner_inside last c.place c.command h.0 in
    (f.0, subst (λ (x : Reading). Leads x cs (reading Inside last 0)) (sym f.1) (inner_lead cs last h.1))

items_lead : (is : List Item) (last : ℤ) → AllItems is → Leads (reading Between last 0) (between last is) (reading Between (last_bop last is) 0)
items_lead [] last h = refl
items_lead (Filler c ∷ is) last h =
    let f = filler_between last c.place c.command h.0 in
    (f.0, subst (λ (x : Reading). Leads x (between last is) (reading Between (last_bop last is) 0)) (sym f.1) (items_lead is last h.1))
items_lead (Paged p ∷ is) last h =
    let inside = reading Inside (pos p.at) 0 in (
      (tt, refl, tt, tt),
      leads_append p.commands (placed p.eop Eop ∷ between (pos p.at) is) inside inside (reading Between (last_bop (pos p.at) is) 0) (inner_lead p.commands (pos p.at) h.0)
          ((tt, tt, tt, tt), items_lead is (pos p.at) h.2),
    )

-- All commands of a file are right where they stand, and lead past it.
abbrev pub past_file : File → Reading
past_file f = reading Past (last_bop (negsuc 0) f.items) f.post

pub file_leads : (bytes : List ℕ) (f : File) → IsFile bytes f → Leads at_start (commands_of f) (past_file f)
file_leads bytes f h =
    let last = last_bop (negsuc 0) f.items in
    let outside = reading Between last 0 in
    let behind = reading Behind last f.post in
    let ends : List Placed = placed f.ends (PostPost f.post 2) ∷ [] in (
      (tt, tt, tt, h.0),
      leads_append (between (negsuc 0) f.items) (placed f.post (Post f.tail) ∷ (f.behind ++ ends)) (reading Between (negsuc 0) 0) outside (past_file f) (items_lead f.items (negsuc 0) h.1)
          ((tt, h.3, tt, tt), leads_append f.behind ends behind behind (past_file f) (fillers_lead f.behind last f.post h.2) ((tt, tt, refl, refl), refl)),
    )
