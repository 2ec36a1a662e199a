-- Marks that are noted one after another. (These laws stand here and not in proofs/, since a canvas cites them.)
use Rattle.std.specs.Prelude.{◌≡◌, ℕ, ℤ, List, [], ◌∷◌, ◌++◌, Bool, true, false, Option, Some, None, if◌then◌else◌}
use Rattle.std.proofs.Common.{refl, sym, ap, ◌∙◌, append_assoc}
use Rattle.std.proofs.lemmas.List.{append-nil}
use Rattle.positions.specs.Mark.{Mark}
use Rattle.positions.specs.Mark.Mark.{OfGlyph, OfRule, OfSpecial}
use Rattle.specials.specs.Special.{Meaning, special_of}
use Rattle.sections.specs.UsedLaws as used
use Rattle.dv_top.specs.Headers.{name_in, names_in}
use Rattle.dv_top.specs.Noted.{Noted, SameCourse, Takes, heads_noted, name_noted, names_noted, paper_noted}
use Rattle.dv_top.specs.Papers.{paper_after, paper_by}
use Rattle.dv_top.specs.Specials.{specials_in}
use Rattle.dv_top.specs.Warnings.{head_of, heads_in, is_idle}

pub specials_both : (xs ys : List Mark) → specials_in (xs ++ ys) ≡ specials_in xs ++ specials_in ys
specials_both [] ys = refl
specials_both (OfGlyph g ∷ xs) ys = specials_both xs ys
specials_both (OfRule r ∷ xs) ys = specials_both xs ys
specials_both (OfSpecial s ∷ xs) ys = ap (λ l. s.bytes ∷ l) (specials_both xs ys)

pub paper_both : (paper : Option (ℤ × ℤ)) (xs ys : List (List ℕ)) → paper_after paper (xs ++ ys) ≡ paper_after (paper_after paper xs) ys
paper_both paper [] ys = refl
paper_both paper (x ∷ xs) ys = paper_both (paper_by paper (special_of x)) xs ys

pub names_both : (xs ys : List (List ℕ)) → names_in (xs ++ ys) ≡ names_in xs ++ names_in ys
names_both [] ys = refl
names_both (x ∷ xs) ys = ap (λ l. name_in (special_of x) ++ l) (names_both xs ys) ∙ sym (append_assoc (name_in (special_of x)) (names_in xs) (names_in ys))

pub noted_both : (names xs ys : List (List ℕ)) → names_noted names (xs ++ ys) ≡ names_noted (names_noted names xs) ys
noted_both names [] ys = refl
noted_both names (x ∷ xs) ys = noted_both (name_noted names x) xs ys

head_both : (b : Bool) (h : List ℕ) (xs ys all : List (List ℕ)) → all ≡ xs ++ ys → (if b then h ∷ all else all) ≡ (if b then h ∷ xs else xs) ++ ys
head_both true h xs ys all e = ap (λ l. h ∷ l) e
head_both false h xs ys all e = e

pub heads_both : (pass : Bool) (xs ys : List (List ℕ)) → heads_in pass (xs ++ ys) ≡ heads_in pass xs ++ heads_in pass ys
heads_both pass [] ys = refl
heads_both pass (x ∷ xs) ys = head_both (is_idle pass (special_of x)) (head_of x) (heads_in pass xs) (heads_in pass ys) (heads_in pass (xs ++ ys)) (heads_both pass xs ys)

pub paper_noted_both : (later : Bool) (paper : Option (ℤ × ℤ)) (xs ys : List (List ℕ)) → paper_noted later paper (xs ++ ys) ≡ paper_noted later (paper_noted later paper xs) ys
paper_noted_both true paper xs ys = refl
paper_noted_both false paper xs ys = paper_both paper xs ys

pub heads_noted_both : (quiet pass : Bool) (xs ys : List (List ℕ)) → heads_noted quiet pass (xs ++ ys) ≡ heads_noted quiet pass xs ++ heads_noted quiet pass ys
heads_noted_both true pass xs ys = refl
heads_noted_both false pass xs ys = heads_both pass xs ys

same_self : (n : Noted) → SameCourse n n
same_self n = record { words = refl; quiet = refl; pass = refl; begun = refl; later = refl }

pub heads_none : (quiet pass : Bool) → heads_noted quiet pass [] ≡ []
heads_none true pass = refl
heads_none false pass = refl

paper_none : (later : Bool) (paper : Option (ℤ × ℤ)) → paper ≡ paper_noted later paper []
paper_none true paper = refl
paper_none false paper = refl

pub noted_none : (n : Noted) → Takes n n []
noted_none n =
    record {
      same = same_self n;
      used = used.took_none n.used;
      paper = paper_none n.later n.paper;
      headers = refl;
      heads = sym (append-nil n.heads) ∙ ap (λ l. n.heads ++ l) (sym (heads_none n.quiet n.pass));
    }

pub same_course : (a b c : Noted) → SameCourse a b → SameCourse b c → SameCourse a c
same_course a b c f g =
    record { words = g.words ∙ f.words; quiet = g.quiet ∙ f.quiet; pass = g.pass ∙ f.pass; begun = g.begun ∙ f.begun; later = g.later ∙ f.later }

pub noted_more : (a b c : Noted) (xs ys : List Mark) → Takes a b xs → Takes b c ys → Takes a c (xs ++ ys)
noted_more a b c xs ys f g =
    let both = specials_both xs ys in
    record {
      same = same_course a b c f.same g.same;
      used = used.took_both a.used b.used c.used xs ys f.used g.used;
      paper =
          g.paper ∙ (λ i. paper_noted (f.same.later i) (f.paper i) (specials_in ys))
          ∙ sym (paper_noted_both a.later a.paper (specials_in xs) (specials_in ys)) ∙ ap (paper_noted a.later a.paper) (sym both);
      headers =
          g.headers ∙ ap (λ ns. names_noted ns (names_in (specials_in ys))) f.headers
          ∙ sym (noted_both a.headers (names_in (specials_in xs)) (names_in (specials_in ys)))
          ∙ ap (names_noted a.headers) (sym (names_both (specials_in xs) (specials_in ys)) ∙ ap names_in (sym both));
      heads =
          g.heads ∙ (λ i. f.heads i ++ heads_noted (f.same.quiet i) (f.same.pass i) (specials_in ys))
          ∙ append_assoc a.heads (heads_noted a.quiet a.pass (specials_in xs)) (heads_noted a.quiet a.pass (specials_in ys))
          ∙ ap (λ l. a.heads ++ l) (sym (heads_noted_both a.quiet a.pass (specials_in xs) (specials_in ys)) ∙ ap (heads_noted a.quiet a.pass) (sym both));
    }
