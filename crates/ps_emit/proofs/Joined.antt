-- What the calls write, put together.
use Rattle.std.proofs.Common.{◌≡◌, refl, ap, ◌∙◌, ℕ, List, [], ◌∷◌, ◌++◌, Bool, append_assoc}
use Rattle.std.specs.Prelude.{codes, map}
use Rattle.std.specs.List.{AllByRecursion}
use Rattle.font_set.specs.Fonts.{FontSet}
use Rattle.sections.specs.Used.{used_in}
use Rattle.ps_subset.specs.Prolog.{line, prolog}
use Rattle.ps_subset.specs.Blocks.{headers_lines}
use Rattle.ps_subset.specs.FontText.{fonts_lines}
use Rattle.ps_subset.specs.Lines.{comment_line, head_lines, setup_lines}
use Rattle.ps_subset.specs.Printout.{pages_lines, section_lines, sections_lines, page_comment}
use Rattle.ps_subset.specs.Marked as marked
use Rattle.ps_emit.specs.Setup.{head_of, job_of}
use Rattle.ps_emit.specs.Letters.{fonts_used}
use Rattle.ps_emit.specs.Pages.{PrintedPage, page_of, section_of, marks_of, pages_calls, section_calls, sections_calls}
use Rattle.ps_emit.specs.Laws.{AllGoodPages, CallsMakeText}
use Rattle.ps_emit.proofs.Sheets.{page_body}

pages_made : (comments : Bool) (set : FontSet) (pass : Bool) (ps : List PrintedPage) → AllGoodPages set ps → pages_calls comments pass ps ≡ pages_lines comments (marked.pages_of (map (page_of set pass) ps))
pages_made comments set pass [] all = refl
pages_made comments set pass (p ∷ ps) all =
    let note = comment_line comments (page_comment (record { label = p.label; number = p.number; items = [] })) in
    λ i. (append_assoc note (line (codes "bop")) (page_body set pass p.marks (all.0).marks i)) i ++ pages_made comments set pass ps all.1 i

section_made : (comments : Bool) (set : FontSet) (pass : Bool) (ps : List PrintedPage) → AllGoodPages set ps → section_calls comments set pass ps ≡ section_lines comments (marked.section_of (section_of set pass ps))
section_made comments set pass ps all =
    ap (λ bs. line (codes "bos") ++ (fonts_lines (fonts_used set (used_in (marks_of ps))) ++ (bs ++ line (codes "eos")))) (pages_made comments set pass ps all)

sections_made : (comments : Bool) (set : FontSet) (pass : Bool) (pss : List (List PrintedPage)) → AllByRecursion (AllGoodPages set) pss
    → sections_calls comments set pass pss ≡ sections_lines comments (marked.sections_of (map (section_of set pass) pss))
sections_made comments set pass [] all = refl
sections_made comments set pass (ps ∷ pss) all = λ i. section_made comments set pass ps all.0 i ++ sections_made comments set pass pss all.1 i

-- the parts of a text
joined : (a b c h d e f g rest : List ℕ) → ((a ++ b) ++ (c ++ (h ++ (d ++ (e ++ (f ++ g)))))) ++ rest ≡ a ++ (b ++ (c ++ (h ++ (d ++ (e ++ (f ++ (g ++ rest)))))))
joined a b c h d e f g rest = simp append_assoc refl

pub calls_make_text : CallsMakeText
calls_make_text comments s w good =
    joined (head_lines (head_of comments s)) (comment_line comments (codes "%%BeginProlog")) prolog (headers_lines w.headers) (comment_line comments (codes "%%EndProlog")) (comment_line comments (codes "%%BeginSetup"))
    (setup_lines s.copies (job_of s)) (comment_line comments (codes "%%EndSetup")) _
    ∙ ap (λ l. head_lines (head_of comments s) ++ (comment_line comments (codes "%%BeginProlog") ++ (prolog ++ (headers_lines w.headers ++ (comment_line comments (codes "%%EndProlog") ++ (comment_line comments (codes "%%BeginSetup") ++
    (setup_lines s.copies (job_of s) ++ (comment_line comments (codes "%%EndSetup") ++ (l ++ (comment_line comments (codes "%%Trailer") ++ (line (codes "end") ++ comment_line comments (codes "%%EOF"))))))))))))
    (sections_made comments w.fonts w.pass w.sections good)
