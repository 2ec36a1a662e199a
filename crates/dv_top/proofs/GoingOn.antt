-- Pages one after another, of which the last one goes on.
use Rattle.std.proofs.Common.{◌≡◌, ◌<◌, ◌||◌, ℕ, ℤ, Bool, true, false, List, [], ◌∷◌, ◌++◌, Option, Some, None, take, drop, refl, sym, ap, ◌∙◌, append_assoc, subst}
use Rattle.std.proofs.lemmas.List.{append-nil}
use Rattle.positions.specs.Mark.{Mark}
use Rattle.sections.specs.Used.{HasTaken, SameFonts, Used, is_used, used_in}
use Rattle.sections.specs.Used as uses
use Rattle.sections.specs.UsedLaws.{used_both}
use Rattle.dv_words.specs.Jobs.{PrintJob}
use Rattle.dv_top.specs.Headers.{header_names, names_in, with_names}
use Rattle.dv_top.specs.Noted.{HasNoted, Noted, PagesGoOn, Takes, has_some, heads_noted, names_noted, paper_noted}
use Rattle.dv_top.specs.NotedLaws.{heads_none, heads_noted_both, names_both, paper_both, specials_both}
use Rattle.dv_top.specs.Papers.{paper_after}
use Rattle.dv_top.specs.Specials.{first_page, last_page, specials_in, specials_of}
use Rattle.dv_top.proofs.Gathered.{first_noted, with_both}

-- what was taken after a page is taken with it
took_after : (old new : Used) (page marks : List Mark) → HasTaken old page → uses.Takes old new marks → HasTaken new (page ++ marks)
took_after old new page marks taken takes =
    record {
      exactly = λ id code given small.
          let before : id < old.fonts = subst (λ n. id < n) takes.same.fonts given in
          takes.exactly id code before small ∙ ap (λ b. b || used_in marks id code) (taken.exactly id code before small) ∙ sym (used_both page marks id code);
    }

-- what the last page adds to the specials
pub specials_on : (front : List (List Mark)) (page marks : List Mark) → specials_of (front ++ (page ++ marks) ∷ []) ≡ specials_of (front ++ page ∷ []) ++ specials_in marks
specials_on [] page marks =
    append-nil (specials_in (page ++ marks)) ∙ specials_both page marks ∙ ap (λ l. l ++ specials_in marks) (sym (append-nil (specials_in page)))
specials_on (f ∷ fs) page marks =
    ap (λ l. specials_in f ++ l) (specials_on fs page marks) ∙ sym (append_assoc (specials_in f) (specials_of (fs ++ page ∷ [])) (specials_in marks))

-- a page without marks adds none
pub specials_same : (pages : List (List Mark)) → specials_of (pages ++ [] ∷ []) ≡ specials_of pages
specials_same [] = refl
specials_same (p ∷ ps) = ap (λ l. specials_in p ++ l) (specials_same ps)

pub last_is : (front : List (List Mark)) (page : List Mark) → last_page (front ++ page ∷ []) ≡ page
last_is [] page = refl
last_is (f ∷ []) page = refl
last_is (f ∷ g ∷ fs) page = last_is (g ∷ fs) page

pub some_there : (front : List (List Mark)) (page : List Mark) → has_some (front ++ page ∷ []) ≡ true
some_there [] page = refl
some_there (f ∷ fs) page = refl

pub later_there : (front : List (List Mark)) (page : List Mark) → has_some (drop 1 (front ++ page ∷ [])) ≡ has_some front
later_there [] page = refl
later_there (f ∷ fs) page = some_there fs page

-- the paper, with the last page gone on
paper_on : (front : List (List Mark)) (page marks : List Mark)
    → paper_noted (has_some (drop 1 (front ++ page ∷ []))) (paper_after None (specials_in (first_page (front ++ page ∷ [])))) (specials_in marks)
    ≡ paper_after None (specials_in (first_page (front ++ (page ++ marks) ∷ [])))
paper_on [] page marks = sym (ap (paper_after None) (specials_both page marks) ∙ paper_both None (specials_in page) (specials_in marks))
paper_on (f ∷ fs) page marks = ap (λ b. paper_noted b (paper_after None (specials_in f)) (specials_in marks)) (some_there fs page)

-- the names of headers, with more specials
pub headers_on : (given more : List (List ℕ)) (old new : List (List Mark)) → specials_of new ≡ specials_of old ++ more
    → names_noted (take 65 (header_names given old)) (names_in more) ≡ take 65 (header_names given new)
headers_on given more old new e =
    let names : List (List ℕ) = names_in (specials_of old) in
    sym (first_noted (header_names given old) (names_in more))
    ∙ ap (take 65) (sym (with_both [] (given ++ names) (names_in more))
    ∙ ap (with_names []) (append_assoc given names (names_in more) ∙ ap (λ l. given ++ l) (sym (names_both (specials_of old) more) ∙ ap names_in (sym e))))

pub pages_on : PagesGoOn
pages_on job old new front page marks takes noted =
    let more : specials_of (front ++ (page ++ marks) ∷ []) ≡ specials_of (front ++ page ∷ []) ++ specials_in marks = specials_on front page marks in
    record {
      words = takes.same.words ∙ noted.words;
      quiet = takes.same.quiet ∙ noted.quiet;
      pass = takes.same.pass ∙ noted.pass;
      begun = takes.same.begun ∙ noted.begun ∙ some_there front page ∙ sym (some_there front (page ++ marks));
      later = takes.same.later ∙ noted.later ∙ later_there front page ∙ sym (later_there front (page ++ marks));
      used = subst (HasTaken new.used) (sym (last_is front (page ++ marks))) (took_after old.used new.used page marks (subst (HasTaken old.used) (last_is front page) noted.used) takes.used);
      paper = takes.paper ∙ (λ i. paper_noted (noted.later i) (noted.paper i) (specials_in marks)) ∙ paper_on front page marks;
      headers = takes.headers ∙ ap (λ ns. names_noted ns (names_in (specials_in marks))) noted.headers ∙ headers_on job.headers (specials_in marks) (front ++ page ∷ []) (front ++ (page ++ marks) ∷ []) more;
      heads =
          takes.heads ∙ (λ i. noted.heads i ++ heads_noted (noted.quiet i) (noted.pass i) (specials_in marks))
          ∙ sym (heads_noted_both job.quiet job.pass_ps (specials_of (front ++ page ∷ [])) (specials_in marks)) ∙ ap (heads_noted job.quiet job.pass_ps) (sym more);
    }

-- nothing is noted yet
pub nothing_noted : (job : PrintJob) (n : Noted) → n.words ≡ job.paper → n.quiet ≡ job.quiet → n.pass ≡ job.pass_ps → n.begun ≡ false → n.later ≡ false → HasTaken n.used [] → n.paper ≡ None
    → n.headers ≡ names_noted [] job.headers → n.heads ≡ [] → HasNoted job n []
nothing_noted job n words quiet pass begun later used paper headers heads =
    record {
      words = words;
      quiet = quiet;
      pass = pass;
      begun = begun;
      later = later;
      used = used;
      paper = paper;
      headers = headers ∙ sym (first_noted [] job.headers) ∙ ap (λ l. take 65 (with_names [] l)) (sym (append-nil job.headers));
      heads = heads ∙ sym (heads_none job.quiet job.pass_ps);
    }

-- a page begins
pub record Begins (old new : Noted) : Type 0 where
  pub words : new.words ≡ old.words
  pub quiet : new.quiet ≡ old.quiet
  pub pass : new.pass ≡ old.pass
  pub begun : new.begun ≡ true
  pub later : new.later ≡ old.begun
  pub used : HasTaken new.used []
  pub paper : new.paper ≡ old.paper
  pub headers : new.headers ≡ old.headers
  pub heads : new.heads ≡ old.heads

first_same : (pages : List (List Mark)) → specials_in (first_page (pages ++ [] ∷ [])) ≡ specials_in (first_page pages)
first_same [] = refl
first_same (p ∷ ps) = refl

pub page_begun : (job : PrintJob) (old new : Noted) (pages : List (List Mark)) → Begins old new → HasNoted job old pages → HasNoted job new (pages ++ [] ∷ [])
page_begun job old new pages b noted =
    record {
      words = b.words ∙ noted.words;
      quiet = b.quiet ∙ noted.quiet;
      pass = b.pass ∙ noted.pass;
      begun = b.begun ∙ sym (some_there pages []);
      later = b.later ∙ noted.begun ∙ sym (later_there pages []);
      used = subst (HasTaken new.used) (sym (last_is pages [])) b.used;
      paper = b.paper ∙ noted.paper ∙ ap (paper_after None) (sym (first_same pages));
      headers = b.headers ∙ noted.headers ∙ ap (λ ss. take 65 (with_names [] (job.headers ++ names_in ss))) (sym (specials_same pages));
      heads = b.heads ∙ noted.heads ∙ ap (heads_noted job.quiet job.pass_ps) (sym (specials_same pages));
    }
