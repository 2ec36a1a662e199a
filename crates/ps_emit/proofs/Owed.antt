-- The events of the text are those that the job owes.
use Rattle.std.proofs.Common.{◌≡◌, refl, ap, sym, ◌∙◌, ℕ, List, [], ◌∷◌, ◌++◌, ◌+◌, Bool, Option, Some, None, append_assoc, true}
use Rattle.std.specs.Prelude.{codes, decimal, map}
use Rattle.std.specs.List.{AllByRecursion}
use Rattle.std.specs.Fmt.{signed_decimal}
use Rattle.positions.specs.Mark as mark
use Rattle.positions.specs.Mark.Mark.{OfGlyph, OfRule, OfSpecial}
use Rattle.font_set.specs.Fonts.{FontSet}
use Rattle.sections.specs.Used.{used_in}
use Rattle.ps_subset.specs.State.{Shown, Character, PutArray, FontMade, in_order}
use Rattle.ps_subset.specs.Job.{Job, rule_mask}
use Rattle.ps_subset.specs.Fonts.{Letter, font_name}
use Rattle.ps_subset.specs.FontText.{letters_events, fonts_events, letters_held, fonts_held}
use Rattle.ps_subset.specs.Lines.{comment_events, head_events}
use Rattle.ps_subset.specs.Blocks.{headers_events}
use Rattle.ps_subset.specs.Printout.{page_comment}
use Rattle.ps_subset.specs.Marks.{Mark, mark_events, marks_events}
use Rattle.ps_subset.specs.Marked as marked
use Rattle.ps_subset.proofs.Economy.{economy_of_printout, economy_of_cut}
use Rattle.ps_subset.proofs.Marked.{events_of_marks, events_of_cut_marks, good_printed}
use Rattle.ps_emit.specs.declared.setup.Setup.{Setup}
use Rattle.ps_emit.specs.Setup.{head_of, job_of}
use Rattle.ps_emit.specs.Letters.{put_letter, letters_of, used_codes, some_fonts, used_fonts, fonts_used}
use Rattle.ps_emit.specs.Shapes.{passed_on, glyph_shape, special_shape, shapes_of}
use Rattle.ps_emit.specs.Taken.{AllTakeable}
use Rattle.ps_emit.specs.Pages.{PrintedPage, Work, marks_of, page_of, section_of, text_of_job}
use Rattle.ps_emit.specs.Expected.{glyph_ink, special_ink, inks, codes_put, fonts_put, codes_held, fonts_hold, page_title, pages_shown, sections_shown, expected}
use Rattle.ps_emit.specs.Laws.{AllGoodPages, IsGoodWork, TextShows, CutTextShows, TextSpares, CutTextSpares}
use Rattle.ps_emit.proofs.Those.{Rising, those_rising}
use Rattle.ps_emit.proofs.Uses.{IsShown, letter_is, shown_letter, used_shown}
use Rattle.ps_emit.proofs.Good.{text_is_good, pages_takeable}

-- ---- fonts

letters_owed : (set : FontSet) (id : ℕ) (used : ℕ → Bool) (least : ℕ) (cs : List ℕ) → ((code : ℕ) → used code ≡ true → IsShown set id code) → Rising used least 256 cs → letters_events (letters_of set id cs) ≡ codes_put cs
letters_owed set id used least [] shown r = refl
letters_owed set id used least (c ∷ cs) shown r =
    ap (λ (o : Option Letter). letters_events (put_letter o (letters_of set id cs))) (shown_letter set id c (shown c r.2))
    ∙ ap (λ es. PutArray c ∷ es) (letters_owed set id used (c + 1) cs shown r.3)

letters_hold : (set : FontSet) (id : ℕ) (used : ℕ → Bool) (least : ℕ) (cs : List ℕ) → ((code : ℕ) → used code ≡ true → IsShown set id code) → Rising used least 256 cs → letters_held (font_name id) (letters_of set id cs) ≡ codes_held id cs
letters_hold set id used least [] shown r = refl
letters_hold set id used least (c ∷ cs) shown r =
    ap (λ (o : Option Letter). letters_held (font_name id) (put_letter o (letters_of set id cs))) (shown_letter set id c (shown c r.2))
    ∙ ap (λ hs. record { key = font_name id; code = c } ∷ hs) (letters_hold set id used (c + 1) cs shown r.3)

fonts_owed : (set : FontSet) (used : ℕ → ℕ → Bool) (ids : List ℕ) → ((id code : ℕ) → used id code ≡ true → IsShown set id code) → fonts_events (some_fonts set used ids) ≡ fonts_put used ids
fonts_owed set used [] shown = refl
fonts_owed set used (id ∷ ids) shown =
    λ i. (letters_owed set id (used id) 0 (used_codes (used id)) (shown id) (those_rising (used id) 256) i ++ FontMade (font_name id) ∷ []) ++ fonts_owed set used ids shown i

fonts_holding : (set : FontSet) (used : ℕ → ℕ → Bool) (ids : List ℕ) → ((id code : ℕ) → used id code ≡ true → IsShown set id code) → fonts_held (some_fonts set used ids) ≡ fonts_hold used ids
fonts_holding set used [] shown = refl
fonts_holding set used (id ∷ ids) shown =
    λ i. letters_hold set id (used id) 0 (used_codes (used id)) (shown id) (those_rising (used id) 256) i ++ fonts_holding set used ids shown i

-- ---- marks

special_owed : (j : Job) (s : mark.Special) (o : Option (List ℕ)) → marks_events j (special_shape o s) ≡ special_ink o
special_owed j s None = refl
special_owed j s (Some text) = refl

shapes_events : (j : Job) (xs ys : List Mark) → marks_events j (xs ++ ys) ≡ marks_events j xs ++ marks_events j ys
shapes_events j [] ys = refl
shapes_events j (x ∷ xs) ys = ap (λ es. mark_events j x ++ es) (shapes_events j xs ys) ∙ sym (append_assoc (mark_events j x) (marks_events j xs) (marks_events j ys))

inks_owed : (j : Job) (set : FontSet) (pass : Bool) (ms : List mark.Mark) → AllTakeable set ms → marks_events j (shapes_of set pass ms) ≡ inks j set pass ms
inks_owed j set pass [] all = refl
inks_owed j set pass (OfGlyph g ∷ ms) all =
    let h = all.0 in
    let e = letter_is set g.font g.code (h.3).0 g.pixels (h.3).1 h.2 in
    ap (λ (o : Option Letter). marks_events j (glyph_shape o g ++ shapes_of set pass ms)) e
    ∙ (λ i. glyph_ink j g (sym (h.3).1 i) ++ inks_owed j set pass ms all.1 i)
inks_owed j set pass (OfRule r ∷ ms) all = ap (λ es. rule_mask j r.x r.y r.columns r.rows ∷ es) (inks_owed j set pass ms all.1)
inks_owed j set pass (OfSpecial s ∷ ms) all =
    shapes_events j (special_shape (passed_on pass s.bytes) s) (shapes_of set pass ms)
    ∙ (λ i. special_owed j s (passed_on pass s.bytes) i ++ inks_owed j set pass ms all.1 i)

-- ---- pages and sections

title_is : (set : FontSet) (pass : Bool) (p : PrintedPage) → page_comment (marked.page_of (page_of set pass p)) ≡ page_title p
title_is set pass p = ap (λ l. codes "%%Page: " ++ l) (append_assoc (signed_decimal p.label) (32 ∷ []) (decimal p.number))

pages_owed : (comments : Bool) (s : Setup) (set : FontSet) (pass : Bool) (used : ℕ → ℕ → Bool) (held : List Character) → fonts_held (fonts_used set used) ≡ held → (ps : List PrintedPage) → AllGoodPages set ps
    → marked.pages_owed comments s.copies (job_of s) (fonts_used set used) (map (page_of set pass) ps) ≡ pages_shown comments s set pass held ps
pages_owed comments s set pass used held e [] all = refl
pages_owed comments s set pass used held e (p ∷ ps) all =
    λ i. (comment_events comments (title_is set pass p i) ++ (inks_owed (job_of s) set pass p.marks (all.0).marks i ++ Shown s.copies (in_order (e i)) ∷ [])) ++ pages_owed comments s set pass used held e ps all.1 i

sections_owed : (comments : Bool) (s : Setup) (set : FontSet) (pass : Bool) (pss : List (List PrintedPage)) → AllByRecursion (AllGoodPages set) pss
    → marked.sections_owed comments s.copies (job_of s) (map (section_of set pass) pss) ≡ sections_shown comments s set pass pss
sections_owed comments s set pass [] all = refl
sections_owed comments s set pass (ps ∷ pss) all =
    let used = used_in (marks_of ps) in
    let shown = used_shown set (marks_of ps) (pages_takeable set ps all.0) in
    let ids = used_fonts set used in
    λ i. (fonts_owed set used ids shown i ++ pages_owed comments s set pass used (fonts_hold used ids) (fonts_holding set used ids shown) ps all.0 i) ++ sections_owed comments s set pass pss all.1 i

owed : (comments : Bool) (s : Setup) (w : Work) → IsGoodWork s w → marked.owed (text_of_job comments s w) ≡ expected comments s w
owed comments s w good =
    ap (λ l. head_events (head_of comments s) ++ (comment_events comments (codes "%%BeginProlog") ++ (headers_events w.headers ++ (comment_events comments (codes "%%EndProlog") ++ (comment_events comments (codes "%%BeginSetup") ++
    (comment_events comments (codes "%%EndSetup") ++ (l ++ (comment_events comments (codes "%%Trailer") ++ comment_events comments (codes "%%EOF"))))))))) (sections_owed comments s w.fonts w.pass w.sections good.pages)

pub text_shows : TextShows
text_shows comments s w good =
    let r = events_of_marks (text_of_job comments s w) (text_is_good comments s w good) in
    (r.0, r.1, r.2 ∙ owed comments s w good)

pub cut_text_shows : CutTextShows
cut_text_shows comments s w good xs ys cut =
    let r = events_of_cut_marks (text_of_job comments s w) (text_is_good comments s w good) xs ys cut in
    (r.0, r.1, r.2, sym (owed comments s w good) ∙ r.3)

pub text_spares : TextSpares
text_spares comments s w good es e =
    let t = text_of_job comments s w in
    economy_of_printout (marked.printout_of t) (good_printed t (text_is_good comments s w good)) es e

pub cut_text_spares : CutTextSpares
cut_text_spares comments s w good xs ys so_far cut e =
    let t = text_of_job comments s w in
    economy_of_cut (marked.printout_of t) (good_printed t (text_is_good comments s w good)) xs ys so_far cut e
