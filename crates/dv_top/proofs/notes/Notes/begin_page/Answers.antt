use Rattle.std.proofs.Common.{refl, sym, subst}
use Rattle.dv_top.specs.Noted.{HasNoted}
use Rattle.dv_top.proofs.GoingOn.{page_begun}
use Rattle.dv_top.proofs.notes.Notes.begin_page.Goals as goal

pub returns-clause-pages : goal.returns-clause-pages
returns-clause-pages c = λ job pages noted.
    page_begun job _ _ pages
    (record { words = refl; quiet = refl; pass = refl; begun = refl; later = refl; used = c.clear.ensures.none; paper = refl; headers = refl; heads = refl })
    (subst (λ n. HasNoted job n pages) (sym c.self.view_is) noted)
