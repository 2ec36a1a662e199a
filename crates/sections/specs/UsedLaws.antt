-- Marks that are taken one after another.
use Rattle.std.specs.Prelude.{◌≡◌, ◌<◌, ℕ, Bool, true, false, ◌||◌, List, [], ◌∷◌, ◌++◌}
use Rattle.std.proofs.Common.{refl, sym, ap, ◌∙◌, subst}
use Rattle.positions.specs.Mark.{Mark}
use Rattle.sections.specs.Used.{Used, is_used, is_glyph, used_in, SameFonts, HasTaken, Takes}

pub or_false : (a : Bool) → (a || false) ≡ a
or_false true = refl
or_false false = refl

pub or_chain : (a b c : Bool) → (a || b || c) ≡ (a || (b || c))
or_chain true b c = refl
or_chain false b c = refl

-- the marks of two lists use what one of the lists uses
pub used_both : (xs ys : List Mark) (id code : ℕ) → used_in (xs ++ ys) id code ≡ (used_in xs id code || used_in ys id code)
used_both [] ys id code = refl
used_both (m ∷ xs) ys id code = ap (λ b. is_glyph m id code || b) (used_both xs ys id code) ∙ sym (or_chain (is_glyph m id code) (used_in xs id code) (used_in ys id code))

pub took_none : (u : Used) → Takes u u []
took_none u = record {
  same = record { fonts = refl; prices = refl };
  exactly = λ id code given small. sym (or_false (is_used u id code));
}

pub took_both : (a b c : Used) (xs ys : List Mark) → Takes a b xs → Takes b c ys → Takes a c (xs ++ ys)
took_both a b c xs ys first second = record {
  same = record { fonts = second.same.fonts ∙ first.same.fonts; prices = second.same.prices ∙ first.same.prices };
  exactly = λ id code given small.
      let old : Bool = is_used a id code in let x : Bool = used_in xs id code in let y : Bool = used_in ys id code in
      second.exactly id code (subst (λ n. id < n) (sym first.same.fonts) given) small
      ∙ (ap (λ w. w || y) (first.exactly id code given small)
      ∙ (or_chain old x y ∙ ap (λ w. old || w) (sym (used_both xs ys id code))));
}

-- What was taken since nothing was, is all.
pub took_all : (old new : Used) (marks : List Mark) → HasTaken old [] → Takes old new marks → HasTaken new marks
took_all old new marks none takes = record {
  exactly = λ id code given small.
      let before : id < old.fonts = subst (λ n. id < n) takes.same.fonts given in
      takes.exactly id code before small ∙ ap (λ w. w || used_in marks id code) (none.exactly id code before small);
}
