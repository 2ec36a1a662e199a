use Rattle.std.proofs.Common.{◌≡◌, ◌<◌, ◌≤◌, List, ℕ, Vec, Global, IfOk, length, arith, map, sym, subst, inl, inr, refl}
use Rattle.dv_base.specs.FileName.{text_of}
use Rattle.dv_top.specs.Headers.{HeadersFail, HeldEach, NotHeld, header_names}
use Rattle.dv_top.proofs.HeldFiles.{err_as, few_kept, many_kept, on_ok}
use Rattle.dv_top.proofs.headers.headers_of.Goals as goal

pub returns-then-names-gt-MOST_HEADERS-clause-cause : goal.returns-then-names-gt-MOST_HEADERS-clause-cause
returns-then-names-gt-MOST_HEADERS-clause-cause g c = λ job pages noted. inl (refl, many_kept (header_names job.headers pages) c.headers-names.result.now (c.headers-names.ensures job pages noted) (omega (arith, c.if-names-gt-MOST_HEADERS.true)))

pub returns-clause-few : goal.returns-clause-few
returns-clause-few g c = λ job pages noted.
    on_ok c.read_headers.result _ (few_kept (header_names job.headers pages) c.headers-names.result.now (c.headers-names.ensures job pages noted) (omega (arith, c.if-names-gt-MOST_HEADERS.false))).0

pub returns-clause-held : goal.returns-clause-held
returns-clause-held g c = λ job pages noted.
    let all = few_kept (header_names job.headers pages) c.headers-names.result.now (c.headers-names.ensures job pages noted) (omega (arith, c.if-names-gt-MOST_HEADERS.false)) in
    subst (λ (ns : List (List ℕ)). IfOk c.read_headers.result (λ (files : Vec (Vec ℕ Global) Global). HeldEach (g.S.Shelf.told c.args.shelf.now) ns (map (λ (f : Vec ℕ Global). f.items) files.items))) all.1 c.read_headers.ensures.held

pub returns-clause-cause : goal.returns-clause-cause
returns-clause-cause g c = λ job pages noted.
    let told = g.S.Shelf.told in
    let names = header_names job.headers pages in
    let all = few_kept names c.headers-names.result.now (c.headers-names.ensures job pages noted) (omega (arith, c.if-names-gt-MOST_HEADERS.false)) in
    err_as (NotHeld (map text_of c.headers-names.result.now) (told c.args.shelf.now) (told c.read_headers.new.shelf)) (HeadersFail names (told c.args.shelf.now) (told c.read_headers.new.shelf)) c.read_headers.result
    (λ o h. inr (subst (λ (ns : List (List ℕ)). NotHeld ns (told c.args.shelf.now) (told c.read_headers.new.shelf) o) all.1 h)) c.read_headers.ensures.cause
