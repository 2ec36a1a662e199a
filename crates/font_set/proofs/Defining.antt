-- The keys of a document's fonts by their numbers.
use Rattle.std.proofs.Common.{◌≡◌, ◌<◌, inl, inr, ℕ, zero, suc, ℤ, pos, Bool, true, false, List, [], ◌∷◌, length, slice_index_or, Some, None, refl, sym, ap, subst, ◌∙◌, arith}
use Rattle.std.specs.Prelude.{unsigned_abs}
use Rattle.std.specs.Ordering.{int_eq}
use Rattle.std.specs.List.{Contains}
use Rattle.std.proofs.lemmas.Bool.Decides.{Decides-int_eq}
use Rattle.std.proofs.lemmas.Int.{ints}
use Rattle.dvi_ops.specs.Command.{Definition}
use Rattle.dvi_doc.specs.Grammar.{AreFonts, Defines, DefinesTwice, IsNamed, IsSized, IsSize}
use Rattle.dvi_doc.specs.View.{IsKeyOf}
use Rattle.dvi_doc.specs.declared.font.FontKey.{FontKey}
use Rattle.dv_base.specs.FileName.{text_of}
use Rattle.dv_base.specs.FontName.{IsFontName}
use Rattle.font_set.specs.Key.{IsKey, IsUnits}
use Rattle.font_set.specs.Programs.{HasNumber, key_in, key_by, named_by, page_fonts}
use Rattle.font_set.specs.Search.{page_in}
use Rattle.font_set.specs.Locals.{KeyAnswer}
use Rattle.font_set.specs.Views.{key_of}

defines : (ds : List Definition) (k : ℤ) (i : ℕ) (d : Definition) → i < length ds → slice_index_or ds i d ≡ d → d.k ≡ k → Defines ds k
defines [] k i d h e q = absurd (omega arith)
defines (x ∷ xs) k zero d h e q = inl (ap (λ (y : Definition). y.k) e ∙ q)
defines (x ∷ xs) k (suc i) d h e q = inr (defines xs k i d (omega arith) e q)

test_false : (x k : ℤ) → (x ≡ k → ⊥) → int_eq x k ≡ false
test_false x k other = by (int_eq x k) (Decides-int_eq x k).0
  where
    by : (b : Bool) → (b ≡ true → x ≡ k) → b ≡ false
    by true f = absurd (other (f refl))
    by false f = refl

key_found : (ds : List Definition) (k : ℤ) (i : ℕ) (d : Definition) → ((n : ℤ) → DefinesTwice ds n → ⊥) → i < length ds → slice_index_or ds i d ≡ d → d.k ≡ k → key_in (page_fonts ds) k ≡ (named_by d).key
unfolding key_in page_fonts
key_found [] k i d once h e q = absurd (omega arith)
key_found (x ∷ xs) k zero d once h e q = rw ((Decides-int_eq x.k k).1 (ap (λ (y : Definition). y.k) e ∙ q)) (ap (λ (y : Definition). (named_by y).key) e)
key_found (x ∷ xs) k (suc i) d once h e q =
    let inside : i < length xs = omega arith in
    rw (test_false x.k k (λ s. once k (inl (s, defines xs k i d inside e q)))) (key_found xs k i d (λ n t. once n (inr t)) inside e q)

none_numbered : (ds : List Definition) (k : ℤ) → (Defines ds k → ⊥) → HasNumber (page_fonts ds) k → ⊥
unfolding page_fonts
none_numbered [] k other h = h
none_numbered (x ∷ xs) k other (inl e) = other (inl e)
none_numbered (x ∷ xs) k other (inr h) = none_numbered xs k (λ d. other (inr d)) h

units_of : (n : ℕ) → IsSize (pos n) → IsUnits n
units_of n h = (omega (arith, ints, h.0), omega (arith, ints, h.1))

-- a definition of the document is what its number names
pub page_definition : (ds : List Definition) (first : ℕ) (bytes : List ℕ) (d : Definition) (k : ℤ) → AreFonts ds → Contains ds d → d.k ≡ k
    → key_in (page_in ds first bytes).scope.fonts k ≡ Some (key_by d)
unfolding page_in
page_definition ds first bytes d k a c e = key_found ds k c.0 d a.0 c.1 c.2 e

-- the key that is made of a definition
pub key_made : (d : Definition) (key : FontKey) → IsNamed d → IsSized d → IsKeyOf d key → (key_by d ≡ key_of key) × IsKey (key_of key)
key_made d key named sized h =
    let name : d.name ≡ text_of key.name = sym h.0 in
    let checksum : d.checksum ≡ key.checksum = sym h.1 in
    let size : unsigned_abs d.size ≡ key.size = sym (ap unsigned_abs h.2) in
    let design : unsigned_abs d.design ≡ key.design = sym (ap unsigned_abs h.3) in
    let same : key_by d ≡ key_of key = λ i. record { name = name i; checksum = checksum i; size = size i; design = design i } in (
      same,
      record {
        name = subst IsFontName name named;
        size = units_of key.size (subst IsSize (sym h.2) sized.0);
        design = units_of key.design (subst IsSize (sym h.3) sized.1);
      },
    )

pub page_no_key : (ds : List Definition) (first : ℕ) (bytes : List ℕ) (k : ℤ) → (Defines ds k → ⊥) → KeyAnswer (page_in ds first bytes).scope.fonts k None
unfolding page_in
page_no_key ds first bytes k other h = none_numbered ds k other h
