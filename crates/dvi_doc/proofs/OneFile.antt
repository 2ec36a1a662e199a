-- Bytes are at most one file, and so at most one document.
use Rattle.std.proofs.Common.{◌≡◌, ℕ, ℤ, pos, negsuc, inl, inr, List, [], ◌∷◌, ◌++◌, refl, sym, ap, subst, ◌∙◌}
use Rattle.std.proofs.lemmas.List.{append-nil}
use Rattle.dvi_ops.specs.Command.{Command, Preamble, Postamble}
use Rattle.dvi_ops.specs.Command.Command.{Bop, Eop, Pre, Post, PostPost}
use Rattle.dvi_ops.specs.Laws.{OneSpelling}
use Rattle.dvi_ops.specs.Placed.{Placed}
use Rattle.dvi_doc.specs.Document.{placed, PageOf, Item, File, Document, between, commands_of, pages_of, definitions_of, definitions_before, document_of}
use Rattle.dvi_doc.specs.Document.Item.{Filler, Paged}
use Rattle.dvi_doc.specs.Grammar.{IsFiller, IsInner, AllFillers, AllInner, AllItems, first_place, IsFile}
use Rattle.dvi_doc.specs.Order.{at_start, Leads}
use Rattle.dvi_doc.specs.Laws.{OneDocument}
use Rattle.dvi_doc.proofs.Lexing.{follow}
use Rattle.dvi_doc.proofs.Leading.{file_leads, past_file, leads_split}

heads : (c d : Placed) (cs ds : List Placed) → c ∷ cs ≡ d ∷ ds → c ≡ d
heads c d cs ds e = cc

tails : (c d : Placed) (cs ds : List Placed) → c ∷ cs ≡ d ∷ ds → cs ≡ ds
tails c d cs ds e = cc

commands : (c d : Placed) → c ≡ d → c.command ≡ d.command
commands c d e = ap (λ (x : Placed). x.command) e

places : (c d : Placed) → c ≡ d → c.place ≡ d.place
places c d e = ap (λ (x : Placed). x.place) e

not_inner_eop : (c : Placed) (at : ℕ) → IsInner c.command → c ≡ placed at Eop → ⊥
not_inner_eop c at h e = subst (λ (x : Command). IsInner x) (commands c (placed at Eop) e) h

-- what a page holds ends at its eop
one_page : (cs ds xs ys : List Placed) (a b : ℕ) → AllInner cs → AllInner ds → cs ++ placed a Eop ∷ xs ≡ ds ++ placed b Eop ∷ ys → (cs ≡ ds) × (a ≡ b) × (xs ≡ ys)
one_page [] [] xs ys a b h k e =
    (refl, places (placed a Eop) (placed b Eop) (heads (placed a Eop) (placed b Eop) xs ys e), tails (placed a Eop) (placed b Eop) xs ys e)
one_page [] (d ∷ ds) xs ys a b h k e = absurd (not_inner_eop d a k.0 (sym (heads (placed a Eop) d xs (ds ++ placed b Eop ∷ ys) e)))
one_page (c ∷ cs) [] xs ys a b h k e = absurd (not_inner_eop c b h.0 (heads c (placed b Eop) (cs ++ placed a Eop ∷ xs) ys e))
one_page (c ∷ cs) (d ∷ ds) xs ys a b h k e =
    let r = one_page cs ds xs ys a b h.1 k.1 (tails c d (cs ++ placed a Eop ∷ xs) (ds ++ placed b Eop ∷ ys) e) in
    let same = heads c d (cs ++ placed a Eop ∷ xs) (ds ++ placed b Eop ∷ ys) e in
    (ap (λ (x : Placed). x ∷ cs) same ∙ ap (λ (l : List Placed). d ∷ l) r.0, r.1, r.2)

not_filler_post : (c : Placed) (at : ℕ) (t : Postamble) → IsFiller c.command → c ≡ placed at (Post t) → ⊥
not_filler_post c at t h e = subst (λ (x : Command). IsFiller x) (commands c (placed at (Post t)) e) h

not_filler_bop : (c : Placed) (at : ℕ) (counts : List ℤ) (back : ℤ) → IsFiller c.command → c ≡ placed at (Bop counts back) → ⊥
not_filler_bop c at counts back h e = subst (λ (x : Command). IsFiller x) (commands c (placed at (Bop counts back)) e) h

not_bop_post : (a b : ℕ) (counts : List ℤ) (back : ℤ) (t : Postamble) → placed a (Bop counts back) ≡ placed b (Post t) → ⊥
not_bop_post a b counts back t e = let f : Bop counts back ≡ Post t = commands (placed a (Bop counts back)) (placed b (Post t)) e in cc

same_page : (p q : PageOf) → p.at ≡ q.at → p.first ≡ q.first → p.eop ≡ q.eop → p.counts ≡ q.counts → p.commands ≡ q.commands → p ≡ q
same_page p q a b c d e =
    ap (λ (x : ℕ). record { at = x; first = p.first; eop = p.eop; counts = p.counts; commands = p.commands }) a
    ∙ ap (λ (x : ℕ). record { at = q.at; first = x; eop = p.eop; counts = p.counts; commands = p.commands }) b
    ∙ ap (λ (x : ℕ). record { at = q.at; first = q.first; eop = x; counts = p.counts; commands = p.commands }) c
    ∙ ap (λ (x : List ℤ). record { at = q.at; first = q.first; eop = q.eop; counts = x; commands = p.commands }) d
    ∙ ap (λ (x : List Placed). record { at = q.at; first = q.first; eop = q.eop; counts = q.counts; commands = x }) e

-- the items end at post
one_items : (is js : List Item) (last : ℤ) (a b : ℕ) (s t : Postamble) (xs ys : List Placed) → AllItems is → AllItems js → between last is ++ placed a (Post s) ∷ xs ≡ between last js ++ placed b (Post t) ∷ ys → (is ≡ js) × (placed a (Post s) ≡ placed b (Post t)) × (xs ≡ ys)
one_items [] [] last a b s t xs ys h k e = (refl, heads (placed a (Post s)) (placed b (Post t)) xs ys e, tails (placed a (Post s)) (placed b (Post t)) xs ys e)
one_items [] (Filler d ∷ js) last a b s t xs ys h k e =
    absurd (not_filler_post d a s k.0 (sym (heads (placed a (Post s)) d xs (between last js ++ placed b (Post t) ∷ ys) e)))
one_items [] (Paged q ∷ js) last a b s t xs ys h k e =
    absurd (not_bop_post q.at a q.counts last s (sym (heads (placed a (Post s)) (placed q.at (Bop q.counts last)) xs ((q.commands ++ placed q.eop Eop ∷ between (pos q.at) js) ++ placed b (Post t) ∷ ys) e)))
one_items (Filler c ∷ is) [] last a b s t xs ys h k e =
    absurd (not_filler_post c b t h.0 (heads c (placed b (Post t)) (between last is ++ placed a (Post s) ∷ xs) ys e))
one_items (Filler c ∷ is) (Filler d ∷ js) last a b s t xs ys h k e =
    let same = heads c d (between last is ++ placed a (Post s) ∷ xs) (between last js ++ placed b (Post t) ∷ ys) e in
    let r = one_items is js last a b s t xs ys h.1 k.1 (tails c d (between last is ++ placed a (Post s) ∷ xs) (between last js ++ placed b (Post t) ∷ ys) e) in
    (ap (λ (x : Placed). Filler x ∷ is) same ∙ ap (λ (l : List Item). Filler d ∷ l) r.0, r.1, r.2)
one_items (Filler c ∷ is) (Paged q ∷ js) last a b s t xs ys h k e =
    absurd (not_filler_bop c q.at q.counts last h.0 (heads c (placed q.at (Bop q.counts last)) (between last is ++ placed a (Post s) ∷ xs) ((q.commands ++ placed q.eop Eop ∷ between (pos q.at) js) ++ placed b (Post t) ∷ ys) e))
one_items (Paged p ∷ is) [] last a b s t xs ys h k e =
    absurd (not_bop_post p.at b p.counts last t (heads (placed p.at (Bop p.counts last)) (placed b (Post t)) ((p.commands ++ placed p.eop Eop ∷ between (pos p.at) is) ++ placed a (Post s) ∷ xs) ys e))
one_items (Paged p ∷ is) (Filler d ∷ js) last a b s t xs ys h k e =
    absurd (not_filler_bop d p.at p.counts last k.0 (sym (heads (placed p.at (Bop p.counts last)) d ((p.commands ++ placed p.eop Eop ∷ between (pos p.at) is) ++ placed a (Post s) ∷ xs) (between last js ++ placed b (Post t) ∷ ys) e)))
one_items (Paged p ∷ is) (Paged q ∷ js) last a b s t xs ys h k e =
    let front : List Placed = (p.commands ++ placed p.eop Eop ∷ between (pos p.at) is) ++ placed a (Post s) ∷ xs in
    let other : List Placed = (q.commands ++ placed q.eop Eop ∷ between (pos q.at) js) ++ placed b (Post t) ∷ ys in
    let bops = heads (placed p.at (Bop p.counts last)) (placed q.at (Bop q.counts last)) front other e in
    let at : p.at ≡ q.at = places (placed p.at (Bop p.counts last)) (placed q.at (Bop q.counts last)) bops in
    let kinds : Bop p.counts last ≡ Bop q.counts last = commands (placed p.at (Bop p.counts last)) (placed q.at (Bop q.counts last)) bops in
    let counts : p.counts ≡ q.counts = cc in
    let rest : front ≡ other = tails (placed p.at (Bop p.counts last)) (placed q.at (Bop q.counts last)) front other e in
    let unfolded : p.commands ++ placed p.eop Eop ∷ (between (pos p.at) is ++ placed a (Post s) ∷ xs) ≡ q.commands ++ placed q.eop Eop ∷ (between (pos q.at) js ++ placed b (Post t) ∷ ys) =
    sym (regroup p.commands (placed p.eop Eop) (between (pos p.at) is) (placed a (Post s) ∷ xs)) ∙ rest ∙ regroup q.commands (placed q.eop Eop) (between (pos q.at) js) (placed b (Post t) ∷ ys) in
    let page = one_page p.commands q.commands (between (pos p.at) is ++ placed a (Post s) ∷ xs) (between (pos q.at) js ++ placed b (Post t) ∷ ys) p.eop q.eop h.0 k.0 unfolded in
    let behind : between (pos q.at) is ++ placed a (Post s) ∷ xs ≡ between (pos q.at) js ++ placed b (Post t) ∷ ys =
    subst (λ (n : ℕ). between (pos n) is ++ placed a (Post s) ∷ xs ≡ between (pos q.at) js ++ placed b (Post t) ∷ ys) at page.2 in
    let r = one_items is js (pos q.at) a b s t xs ys h.2 k.2 behind in
    let first : p.first ≡ q.first = h.1 ∙ ap (λ (l : List Placed). first_place l p.eop) page.0 ∙ ap (λ (n : ℕ). first_place q.commands n) page.1 ∙ sym k.1 in
    let same = same_page p q at first page.1 counts page.0 in
    (ap (λ (x : PageOf). Paged x ∷ is) same ∙ ap (λ (l : List Item). Paged q ∷ l) r.0, r.1, r.2)
  where
    regroup : (ms : List Placed) (c : Placed) (bs cs : List Placed) → (ms ++ c ∷ bs) ++ cs ≡ ms ++ c ∷ (bs ++ cs)
    regroup [] c bs cs = refl
    regroup (x ∷ ms) c bs cs = ap (λ (l : List Placed). x ∷ l) (regroup ms c bs cs)

not_filler_end : (c : Placed) (at post : ℕ) → IsFiller c.command → c ≡ placed at (PostPost post 2) → ⊥
not_filler_end c at post h e = subst (λ (x : Command). IsFiller x) (commands c (placed at (PostPost post 2)) e) h

one_ending : (cs ds : List Placed) (a b p q : ℕ) → AllFillers cs → AllFillers ds → cs ++ placed a (PostPost p 2) ∷ [] ≡ ds ++ placed b (PostPost q 2) ∷ [] → cs ≡ ds
one_ending [] [] a b p q h k e = refl
one_ending [] (d ∷ ds) a b p q h k e = absurd (not_filler_end d a p k.0 (sym (heads (placed a (PostPost p 2)) d [] (ds ++ placed b (PostPost q 2) ∷ []) e)))
one_ending (c ∷ cs) [] a b p q h k e = absurd (not_filler_end c b q h.0 (heads c (placed b (PostPost q 2)) (cs ++ placed a (PostPost p 2) ∷ []) [] e))
one_ending (c ∷ cs) (d ∷ ds) a b p q h k e =
    ap (λ (x : Placed). x ∷ cs) (heads c d (cs ++ placed a (PostPost p 2) ∷ []) (ds ++ placed b (PostPost q 2) ∷ []) e)
    ∙ ap (λ (l : List Placed). d ∷ l) (one_ending cs ds a b p q h.1 k.1 (tails c d (cs ++ placed a (PostPost p 2) ∷ []) (ds ++ placed b (PostPost q 2) ∷ []) e))

-- two files of the same bytes have the same commands
same_commands : OneSpelling → (bytes : List ℕ) (f g : File) → IsFile bytes f → IsFile bytes g → commands_of f ≡ commands_of g
same_commands one bytes f g h k =
    elim (follow one (commands_of f) (commands_of g) 0 h.4 k.4 h.5 k.5 h.9 k.9 (sym h.6 ∙ k.6)) [
      | inl x ↦ nothing_more f g x.0 x.2 (file_leads bytes f h) (file_leads bytes g k)
      | inr x ↦ (let end = leads_split (commands_of g) (x.0 ∷ x.1) at_start (past_file g) (past_file f) (subst (λ (cs : List Placed). Leads at_start cs (past_file f)) x.3 (file_leads bytes f h)) (file_leads bytes g k) in absurd end.0.0)
    ]
  where
    nothing_more : (f g : File) (es : List Placed) → commands_of g ≡ commands_of f ++ es → Leads at_start (commands_of f) (past_file f) → Leads at_start (commands_of g) (past_file g) → commands_of f ≡ commands_of g
    nothing_more f g [] e l m = sym (e ∙ append-nil (commands_of f))
    nothing_more f g (d ∷ es) e l m =
        let end = leads_split (commands_of f) (d ∷ es) at_start (past_file f) (past_file g) (subst (λ (cs : List Placed). Leads at_start cs (past_file g)) e m) l in absurd end.0.0

abbrev document_from : Preamble → List Item → Postamble → List Placed → Document
document_from head items tail behind =
    record { head = head; pages = pages_of items; before = definitions_before items; tail = tail; fonts = definitions_of behind }

pub same_document : OneSpelling → (bytes : List ℕ) (f g : File) → IsFile bytes f → IsFile bytes g → document_of f ≡ document_of g
same_document one bytes f g h k =
    let e = same_commands one bytes f g h k in
    let fends : List Placed = placed f.ends (PostPost f.post 2) ∷ [] in
    let gends : List Placed = placed g.ends (PostPost g.post 2) ∷ [] in
    let fs : List Placed = between (negsuc 0) f.items ++ placed f.post (Post f.tail) ∷ (f.behind ++ fends) in
    let gs : List Placed = between (negsuc 0) g.items ++ placed g.post (Post g.tail) ∷ (g.behind ++ gends) in
    let pres : Pre f.head ≡ Pre g.head = commands (placed 0 (Pre f.head)) (placed 0 (Pre g.head)) (heads (placed 0 (Pre f.head)) (placed 0 (Pre g.head)) fs gs e) in
    let head : f.head ≡ g.head = cc in
    let r = one_items f.items g.items (negsuc 0) f.post g.post f.tail g.tail (f.behind ++ fends) (g.behind ++ gends) h.1 k.1 (tails (placed 0 (Pre f.head)) (placed 0 (Pre g.head)) fs gs e) in
    let posts : Post f.tail ≡ Post g.tail = commands (placed f.post (Post f.tail)) (placed g.post (Post g.tail)) r.1 in
    let tail : f.tail ≡ g.tail = cc in
    let behind = one_ending f.behind g.behind f.ends g.ends f.post g.post h.2 k.2 r.2 in
    ap (λ (x : Preamble). document_from x f.items f.tail f.behind) head
    ∙ ap (λ (x : List Item). document_from g.head x f.tail f.behind) r.0
    ∙ ap (λ (x : Postamble). document_from g.head g.items x f.behind) tail
    ∙ ap (λ (x : List Placed). document_from g.head g.items g.tail x) behind

pub one_document : OneSpelling → OneDocument
one_document one bytes c d h k = sym h.2 ∙ same_document one bytes h.0 k.0 h.1 k.1 ∙ k.2
