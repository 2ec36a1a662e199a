-- Pages that were walked over.
use Rattle.std.proofs.Common.{length-append, ◌≡◌, ◌<◌, ◌≤◌, ◌+◌, ℕ, ℤ, zero, suc, List, [], ◌∷◌, ◌++◌, length, map, get_or, Some, Result, arith, refl, sym, ap, subst, ◌∙◌}
use Rattle.std.specs.Prelude.{slice_get}
use Rattle.std.specs.Option.{option_map}
use Rattle.std.proofs.lemmas.List.{length-map}
use Rattle.std.proofs.lemmas.Option.{slice_get-map}
use Rattle.dv_base.specs.declared.tray.Tray.{Ghosts}
use Rattle.dv_base.specs.declared.tray.WriteFault.{WriteFault}
use Rattle.dv_base.specs.declared.font_id.Spot.TheVariants as spot
use Rattle.positions.specs.Mark.{Mark}
use Rattle.positions.specs.Mark.Mark.{OfGlyph, OfRule, OfSpecial}
use Rattle.positions.specs.Place.{origin}
use Rattle.dvi_ops.specs.Command.{Command}
use Rattle.dvi_ops.specs.Command.Command.{Bop, Eop}
use Rattle.dvi_doc.specs.Document.{Document, PageOf}
use Rattle.dvi_doc.specs.Laws.{OneDocument}
use Rattle.dvi_doc.specs.View.{IsRead, Outline, ReadDoc, outline, page_view}
use Rattle.dvi_doc.specs.declared.page.Page as doc_page
use Rattle.font_set.specs.Fonts.{FontSet}
use Rattle.font_set.specs.Frames.{FontAct}
use Rattle.font_set.specs.Programs.{Program, page_program}
use Rattle.font_set.specs.Search.{page_of}
use Rattle.font_set.specs.Count.{count}
use Rattle.vf_expand.specs.Grid.{Grid}
use Rattle.vf_expand.specs.Marks.{Outcome, marks_alone}
use Rattle.vf_expand.specs.Pages.{frame_marks, most_nested}
use Rattle.vf_expand.specs.Page.{IsPage, IsPageCause, IsShallowPage, page_count, page_marks}
use Rattle.vf_expand.specs.Painted.{IsPainted}
use Rattle.vf_expand.specs.Causes.{IsCause, IsMany}
use Rattle.vf_expand.specs.Shallow.{IsShallow}
use Rattle.vf_expand.specs.Takes.{MayCome, TookPage, Stops, RefusesNext}
use Rattle.vf_expand.specs.declared.fault.WalkFault.{WalkFault}
use Rattle.vf_expand.specs.declared.fault.WalkFault.TheVariants as fault
use Rattle.std.specs.Prelude.{Ok, Err, OnOk}
use Rattle.vf_expand.proofs.Later.{no_stop, took_defined}
use Rattle.dvicopy_out.specs.Counted.{counted}
use Rattle.dvicopy_out.specs.Spelled.{spelled}
use Rattle.dvicopy_out.specs.Marked.{Pen, marks_commands, page_pen}
use Rattle.dvicopy_out.specs.Copies.{Page, page_commands, page_length}
use Rattle.dvicopy_out.specs.Measured as measured
use Rattle.dvicopy_out.specs.Measured.{IsTakeable}
use Rattle.dvicopy_out.specs.declared.measure.Measure.{Measure}
use Rattle.dvicopy_out.specs.Pages.{IsCauseAt, IsReady, copy_page, counts_in, eop_in, marks_or_none, outcome_at}
use Rattle.dvicopy_out.specs.Sent.{Out, Sent, Cut, Sends, cut_later, cut_longer, then_sends}
use Rattle.dvicopy_out.specs.Shown.{fonts_of, out_of, pen_of, place_of}
use Rattle.dvicopy_out.specs.Taken.{Took, Refused, refused_cut}
use Rattle.dvicopy_out.specs.declared.writer.Writer.{Writer}
use Rattle.dvicopy_out.proofs.Spelling.{spelled_both}

-- what may come can be taken
pub takeable : (g : Grid) (set : FontSet) (acts : List FontAct) (m : Mark) → MayCome (IsPainted g set acts) m → IsTakeable set m
takeable g set acts (OfGlyph m) h = (h.0, h.1.1.given)
takeable g set acts (OfRule m) h = (h.0, tt)
takeable g set acts (OfSpecial m) h = (h, tt)

-- ---- the page at a place

abbrev pub ByPlace : Type 0
ByPlace = (r : ReadDoc) (k : ℕ) (p : PageOf) → IsRead r → IsPage r k p → page_of r k ≡ page_program r.fonts p.commands

there : {X : Type 0} (xs : List X) (k : ℕ) → k < length xs → (x : X) × (slice_get xs k ≡ Some x)
there [] k h = absurd (omega arith)
there (x ∷ xs) zero h = (x, refl)
there (x ∷ xs) (suc k) h = there xs k (omega arith)

-- a page that was found is one of the document's
pub page_here : (r : ReadDoc) (k : ℕ) → IsRead r → k < length r.pages → (p : PageOf) × IsPage r k p
page_here r k (d, is, shows) within =
    let many : length r.pages ≡ length d.pages = ap (λ (xs : List Outline). length xs) shows.1 ∙ length-map d.pages outline in
    let page = there d.pages k (omega (arith, within, many)) in
    (page.0, (d, is, page.1))

pub outline_here : OneDocument → (r : ReadDoc) (k : ℕ) (p : PageOf) → IsRead r → IsPage r k p → slice_get r.pages k ≡ Some (outline p)
outline_here one r k p (e, is', shows) (d, is, at) =
    ap (λ (os : List Outline). slice_get os k) (shows.1 ∙ ap (λ (x : Document). map outline x.pages) (one r.bytes e d is' is))
    ∙ slice_get-map outline d.pages k ∙ ap (option_map outline) at

seen_at : {X : Type 0} (xs : List X) (k : ℕ) (d : X) → k < length xs → slice_get xs k ≡ Some (get_or xs k d)
seen_at [] k d h = absurd (omega arith)
seen_at (x ∷ xs) zero d h = refl
seen_at (x ∷ xs) (suc k) d h = seen_at xs k d (omega arith)

-- the counts of the program's page at a place
pub counts_here : (ps : List doc_page.Page) (r : ReadDoc) (k : ℕ) (x : doc_page.Page) → map page_view ps ≡ r.pages → k < length r.pages → counts_in (slice_get r.pages k) ≡ (get_or ps k x).counts
counts_here ps r k x views within =
    let many : length ps ≡ length r.pages = sym (length-map ps page_view) ∙ ap (λ (xs : List Outline). length xs) views in
    ap (λ (os : List Outline). counts_in (slice_get os k)) (sym views)
    ∙ ap counts_in (slice_get-map page_view ps k ∙ ap (option_map page_view) (seen_at ps k x (omega (arith, within, many))))

pub outcome_here : ByPlace → (g : Grid) (set : FontSet) (r : ReadDoc) (k : ℕ) (p : PageOf) → IsRead r → IsPage r k p → outcome_at g set r k ≡ page_marks g set r.fonts p.commands
outcome_here law g set r k p read is = ap (λ (q : Program). frame_marks g set most_nested q origin) (law r k p read is)

pub count_here : ByPlace → (set : FontSet) (r : ReadDoc) (k : ℕ) (p : PageOf) → IsRead r → IsPage r k p → count set most_nested (page_of r k) ≡ page_count set r.fonts p.commands
count_here law set r k p read is = ap (λ (q : Program). count set most_nested q) (law r k p read is)

pub shallow_here : ByPlace → (g : Grid) (set : FontSet) (r : ReadDoc) (k : ℕ) (p : PageOf) → IsRead r → IsPage r k p → IsShallowPage g set r.fonts p.commands → IsShallow g set most_nested (page_of r k) origin 0
shallow_here law g set r k p read is h = subst (λ (q : Program). IsShallow g set most_nested q origin 0) (sym (law r k p read is)) h

pub shallow_page : ByPlace → (g : Grid) (set : FontSet) (r : ReadDoc) (k : ℕ) (p : PageOf) → IsRead r → IsPage r k p → IsShallow g set most_nested (page_of r k) origin 0 → IsShallowPage g set r.fonts p.commands
shallow_page law g set r k p read is h = subst (λ (q : Program). IsShallow g set most_nested q origin 0) (law r k p read is) h

pub cause_here : {F : Type 0} → OneDocument → ByPlace → (g : Grid) (set : FontSet) (r : ReadDoc) (k : ℕ) (p : PageOf) (e : WalkFault F) → IsRead r → IsPage r k p → IsPageCause g set r.fonts p e → IsCauseAt g set r k e
cause_here one law g set r k p e read is h =
    let end : p.eop ≡ eop_in (slice_get r.pages k) = ap eop_in (sym (outline_here one r k p read is)) in
    subst (λ (n : ℕ). IsCause g set most_nested (page_of r k) origin (λ at. spot.Page at) n 0 e) end
    (subst (λ (q : Program). IsCause g set most_nested q origin (λ at. spot.Page at) p.eop 0 e) (sym (law r k p read is)) h)

-- ---- a page that was measured

pub measured_page : (g : Grid) (set : FontSet) (r : ReadDoc) (k : ℕ) (p : PageOf) (a b : Measure) → outcome_at g set r k ≡ page_marks g set r.fonts p.commands → measured.fonts_of a ≡ set → measured.pen_of a ≡ page_pen → measured.bytes_of a ≡ 46
    → TookPage measured.Took a b (page_marks g set r.fonts p.commands) → measured.bytes_of b ≡ counted 0 (page_length set (copy_page g set r k))
measured_page g set r k p a b same fonts pen starts took =
    let o = took_defined measured.Took a b (page_marks g set r.fonts p.commands) took in
    let t : measured.Took a b o.0.0 = subst (TookPage measured.Took a b) o.1 took in
    let marks : o.0.0 ≡ marks_or_none (outcome_at g set r k) = ap marks_or_none (sym o.1 ∙ sym same) in
    let more : (n : ℕ) → counted 46 n ≡ counted 0 (46 + n) = λ n. omega arith in
    t.bytes ∙ (λ i. counted (starts i) (length (spelled (marks_commands (fonts i) (pen i) (marks i)))))
    ∙ more (length (spelled (marks_commands set page_pen (marks_or_none (outcome_at g set r k)))))

pub measured_fonts : (set : FontSet) (a b : Measure) (o : Outcome) → measured.fonts_of a ≡ set → TookPage measured.Took a b o → measured.fonts_of b ≡ set
measured_fonts set a b o fonts took =
    let d = took_defined measured.Took a b o took in
    let t : measured.Took a b d.0.0 = subst (TookPage measured.Took a b) d.1 took in
    t.fonts ∙ fonts

pub page_ready : {C : Type 0} (takes : C → C → List Mark → Type 0) (a b : C) (g : Grid) (set : FontSet) (r : ReadDoc) (k : ℕ) (p : PageOf) → outcome_at g set r k ≡ page_marks g set r.fonts p.commands → TookPage takes a b (page_marks g set r.fonts p.commands)
    → length (copy_page g set r k).counts ≡ 10 → IsShallow g set most_nested (page_of r k) origin 0 → IsReady g set r k
page_ready takes a b g set r k p same took ten shallow =
    let o = took_defined takes a b (page_marks g set r.fonts p.commands) took in
    record { ten = ten; marks = o.0.0; state = o.0.1; defined = same ∙ o.1; shallow = shallow }

-- ---- a page that was written

-- the commands of a page, in three pieces
pub page_text : (set : FontSet) (last : ℤ) (p : Page) → spelled (Bop p.counts last ∷ []) ++ (spelled (marks_commands set page_pen p.marks) ++ spelled (Eop ∷ [])) ≡ spelled (page_commands set last p)
page_text set last p =
    let marks : List Command = marks_commands set page_pen p.marks in
    ap (λ bs. spelled (Bop p.counts last ∷ []) ++ bs) (sym (spelled_both marks (Eop ∷ []))) ∙ sym (spelled_both (Bop p.counts last ∷ []) (marks ++ Eop ∷ []))

marks_sent : {T : Type 0} {G : Ghosts T} (set : FontSet) (marks : List Mark) (a b : Writer T G) → fonts_of a ≡ set → pen_of a ≡ page_pen → Took a b marks → Sent (spelled (marks_commands set page_pen marks)) (out_of a) (out_of b)
marks_sent set marks a b fonts pen took =
    let at : Sent (spelled (marks_commands (fonts_of a) page_pen marks)) (out_of a) (out_of b) = subst (λ (q : Pen). Sent (spelled (marks_commands (fonts_of a) q marks)) (out_of a) (out_of b)) pen took.sent in
    subst (λ (s : FontSet). Sent (spelled (marks_commands s page_pen marks)) (out_of a) (out_of b)) fonts at

pub page_sent : {T : Type 0} {G : Ghosts T} {X E : Type 0} (set : FontSet) (last : ℤ) (p : Page) (x : Out) (a b : Writer T G) (z : Out) (r : Result X E) → Sent (spelled (Bop p.counts last ∷ [])) x (out_of a)
    → fonts_of a ≡ set → pen_of a ≡ page_pen → Took a b p.marks → Sends (spelled (Eop ∷ [])) (out_of b) z r → Sends (spelled (page_commands set last p)) x z r
page_sent set last p x a b z r begins fonts pen took ends =
    let marks : List ℕ = spelled (marks_commands set page_pen p.marks) in
    subst (λ text. Sends text x z r) (page_text set last p)
    (then_sends (spelled (Bop p.counts last ∷ [])) (marks ++ spelled (Eop ∷ [])) x (out_of a) z r begins
    (then_sends marks (spelled (Eop ∷ [])) (out_of a) (out_of b) z r (marks_sent set p.marks a b fonts pen took) ends))

pub begin_cut : (set : FontSet) (last : ℤ) (p : Page) (x y : Out) → Cut (spelled (Bop p.counts last ∷ [])) x y → Cut (spelled (page_commands set last p)) x y
begin_cut set last p x y cut =
    subst (λ text. Cut text x y) (page_text set last p) (cut_longer (spelled (Bop p.counts last ∷ [])) (spelled (marks_commands set page_pen p.marks) ++ spelled (Eop ∷ [])) x y cut)

pub page_cut : {T : Type 0} {G : Ghosts T} (set : FontSet) (last : ℤ) (p : Page) (x : Out) (a b : Writer T G) (f : WriteFault) → Sent (spelled (Bop p.counts last ∷ [])) x (out_of a)
    → fonts_of a ≡ set → pen_of a ≡ page_pen → RefusesNext (λ v w ms m e. Refused {T = T} {G = G} v w ms m) a b f (Some p.marks) → Cut (spelled (page_commands set last p)) x (out_of b)
page_cut {T} {G} set last p x a b f begins fonts pen (ms, m, rest, refused, whole) =
    let marks : List ℕ = spelled (marks_commands set page_pen p.marks) in
    let cut : Cut (spelled (marks_commands (fonts_of a) (pen_of a) p.marks)) (out_of a) (out_of b) = refused_cut a b ms m rest p.marks refused whole in
    let at : Cut (spelled (marks_commands (fonts_of a) page_pen p.marks)) (out_of a) (out_of b) = subst (λ (q : Pen). Cut (spelled (marks_commands (fonts_of a) q p.marks)) (out_of a) (out_of b)) pen cut in
    let here : Cut marks (out_of a) (out_of b) = subst (λ (s : FontSet). Cut (spelled (marks_commands s page_pen p.marks)) (out_of a) (out_of b)) fonts at in
    subst (λ text. Cut text x (out_of b)) (page_text set last p)
    (cut_later (spelled (Bop p.counts last ∷ [])) (marks ++ spelled (Eop ∷ [])) x (out_of a) (out_of b) begins (cut_longer marks (spelled (Eop ∷ [])) (out_of a) (out_of b) here))

-- the page's marks were taken
pub took_here : {C : Type 0} (takes : C → C → List Mark → Type 0) (a b : C) (g : Grid) (set : FontSet) (r : ReadDoc) (k : ℕ) (p : PageOf) → outcome_at g set r k ≡ page_marks g set r.fonts p.commands → TookPage takes a b (page_marks g set r.fonts p.commands) → takes a b (copy_page g set r k).marks
took_here takes a b g set r k p same took =
    let o = took_defined takes a b (page_marks g set r.fonts p.commands) took in
    let t : takes a b o.0.0 = subst (TookPage takes a b) o.1 took in
    subst (takes a b) (ap marks_or_none (sym o.1 ∙ sym same)) t

-- the canvas refused the next mark of the page
pub refused_here : {C F : Type 0} (takes : C → C → List Mark → Type 0) (refuses : C → C → List Mark → Mark → F → Type 0) (a b : C) (g : Grid) (set : FontSet) (r : ReadDoc) (k : ℕ) (p : PageOf) (e : WalkFault F) → IsReady g set r k
    → outcome_at g set r k ≡ page_marks g set r.fonts p.commands → (f : F) × (e ≡ fault.Canvas f) → Stops takes refuses a b (marks_alone (page_marks g set r.fonts p.commands)) e → (f : F) × RefusesNext refuses a b f (Some (copy_page g set r k).marks)
refused_here takes refuses a b g set r k p e ready same (f, is) stops =
    let defined : page_marks g set r.fonts p.commands ≡ Some (ready.marks, ready.state) = sym same ∙ ready.defined in
    let marks : ready.marks ≡ marks_or_none (outcome_at g set r k) = ap marks_or_none (sym ready.defined) in
    let next : RefusesNext refuses a b f (Some ready.marks) = subst (λ x. Stops takes refuses a b (marks_alone x) (fault.Canvas f)) defined (subst (Stops takes refuses a b (marks_alone (page_marks g set r.fonts p.commands))) is stops) in
    (f, subst (λ (ms : List Mark). RefusesNext refuses a b f (Some ms)) marks next)

-- what was begun stays begun
pub begin_there : (text : List ℕ) (x y : Out) → 0 < x.seen.begun → Sent text x y → 0 < y.seen.begun
begin_there text x y h w = let same = w.keeps.begun_same in omega (arith, h, same)

pub took_is : {X E P : Type 0} (r : Result X E) → P → OnOk r P
took_is (Ok v) p = p
took_is (Err e) p = tt

-- where the page's bytes end
pub page_placed : {T : Type 0} {G : Ghosts T} {X E : Type 0} (set : FontSet) (last : ℤ) (p : Page) (x : ℕ) (a b : Writer T G) (z : ℕ) (r : Result X E) → place_of a ≡ counted x (length (spelled (Bop p.counts last ∷ [])))
    → fonts_of a ≡ set → pen_of a ≡ page_pen → Took a b p.marks → OnOk r (z ≡ counted (place_of b) (length (spelled (Eop ∷ [])))) → OnOk r (z ≡ counted x (length (spelled (page_commands set last p))))
page_placed set last p x a b z (Err e) begins fonts pen took ends = tt
page_placed set last p x a b z (Ok v) begins fonts pen took ends =
    let bop : List ℕ = spelled (Bop p.counts last ∷ []) in
    let marks : List ℕ = spelled (marks_commands set page_pen p.marks) in
    let eop : List ℕ = spelled (Eop ∷ []) in
    let here : place_of b ≡ counted (place_of a) (length marks) = took.place ∙ (λ i. counted (place_of a) (length (spelled (marks_commands (fonts i) (pen i) p.marks)))) in
    omega (arith, begins, here, ends, ap (λ (bs : List ℕ). length bs) (page_text set last p), length-append bop (marks ++ eop), length-append marks eop)

-- a walk over a page that is ready stops only where the canvas refuses a mark
pub stopped : {C F : Type 0} (takes : C → C → List Mark → Type 0) (refuses : C → C → List Mark → Mark → F → Type 0) → ByPlace → (g : Grid) (set : FontSet) (r : ReadDoc) (k : ℕ) (p : PageOf) (before : ℕ) (old new : C) (e : WalkFault F) → IsRead r → IsPage r k p → IsReady g set r k
    → before + count set most_nested (page_of r k) ≤ 50000000 → Stops takes refuses old new (marks_alone (page_marks g set r.fonts p.commands)) e → IsPageCause g set r.fonts p e → IsMany (before + page_count set r.fonts p.commands) e → (f : F) × (e ≡ fault.Canvas f)
stopped takes refuses law g set r k p before old new e read is ready few stops cause many =
    let same = count_here law set r k p read is in
    no_stop takes refuses g set r.fonts p before old new (ready.marks, ready.state) (sym (outcome_here law g set r k p read is) ∙ ready.defined) (shallow_page law g set r k p read is ready.shallow)
    (omega (arith, few, same)) e stops cause many
