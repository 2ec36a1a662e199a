-- The font that a number names on a page. (As in the walk, whose own proofs of it other crates don't see.)
use Rattle.std.proofs.Common.{◌≡◌, ◌<◌, ℕ, zero, suc, ℤ, List, [], ◌∷◌, length, Bool, true, false, Option, Some, None, refl, sym, ap, subst, ◌∙◌, inl, inr, arith}
use Rattle.std.specs.Prelude.{if◌then◌else◌, slice_index_or, unsigned_abs}
use Rattle.std.specs.List.{Contains}
use Rattle.std.specs.Ordering.{int_eq}
use Rattle.std.proofs.lemmas.Bool.Decides.{Decides-int_eq}
use Rattle.dvi_ops.specs.Command.{Definition}
use Rattle.dvi_doc.specs.Grammar.{Defines, DefinesTwice}
use Rattle.dvi_doc.specs.View.{IsKeyOf}
use Rattle.dvi_doc.specs.declared.font.FontKey.{FontKey}
use Rattle.font_set.specs.Key.{Key}
use Rattle.font_set.specs.Views.{key_of}
use Rattle.font_set.specs.Programs.{key_in, page_fonts}

abbrev pub key_by : Definition → Key
key_by d = record { name = d.name; checksum = d.checksum; size = unsigned_abs d.size; design = unsigned_abs d.design }

differ : false ≡ true → ⊥
differ e = cc

not_true : true ≡ false → ⊥
not_true e = cc

passed : (b : Bool) (x y : Option Key) → (b ≡ true → ⊥) → (if b then x else y) ≡ y
passed true x y h = absurd (h refl)
passed false x y h = refl

taken : (b : Bool) (x y : Option Key) → b ≡ true → (if b then x else y) ≡ x
taken true x y h = refl
taken false x y h = absurd cc

key_on : (d : Definition) (ds : List Definition) (k : ℤ) → (d.k ≡ k → ⊥) → key_in (page_fonts (d ∷ ds)) k ≡ key_in (page_fonts ds) k
unfolding key_in page_fonts
key_on d ds k h = passed (int_eq d.k k) (Some (key_by d)) (key_in (page_fonts ds) k) (λ e. h ((Decides-int_eq d.k k).0 e))

key_here : (d : Definition) (ds : List Definition) (k : ℤ) → d.k ≡ k → key_in (page_fonts (d ∷ ds)) k ≡ Some (key_by d)
unfolding key_in page_fonts
key_here d ds k h = taken (int_eq d.k k) (Some (key_by d)) (key_in (page_fonts ds) k) ((Decides-int_eq d.k k).1 h)

no_fonts : (k : ℤ) → key_in (page_fonts []) k ≡ None
unfolding key_in page_fonts
no_fonts k = refl

pub key_none : (ds : List Definition) (k : ℤ) → (Defines ds k → ⊥) → key_in (page_fonts ds) k ≡ None
key_none [] k h = no_fonts k
key_none (d ∷ ds) k h = key_on d ds k (λ e. h (inl e)) ∙ key_none ds k (λ x. h (inr x))

defined_at : (ds : List Definition) (d : Definition) (i : ℕ) → i < length ds → slice_index_or ds i d ≡ d → Defines ds d.k
defined_at [] d i l e = absurd (omega arith)
defined_at (x ∷ ds) d zero l e = inl (ap (λ (y : Definition). y.k) e)
defined_at (x ∷ ds) d (suc i) l e = inr (defined_at ds d i (omega arith) e)

key_at : (ds : List Definition) (d : Definition) (i : ℕ) → i < length ds → slice_index_or ds i d ≡ d → (DefinesTwice ds d.k → ⊥) → key_in (page_fonts ds) d.k ≡ Some (key_by d)
key_at [] d i l e once = absurd (omega arith)
key_at (x ∷ ds) d zero l e once = key_here x ds d.k (ap (λ (y : Definition). y.k) e) ∙ ap (λ (y : Definition). Some (key_by y)) e
key_at (x ∷ ds) d (suc i) l e once =
    key_on x ds d.k (λ k. once (inl (k, defined_at ds d i (omega arith) e))) ∙ key_at ds d i (omega arith) e (λ t. once (inr t))

pub key_one : (ds : List Definition) (d : Definition) (k : ℤ) → Contains ds d → d.k ≡ k → (DefinesTwice ds k → ⊥) → key_in (page_fonts ds) k ≡ Some (key_by d)
key_one ds d k c e once = ap (key_in (page_fonts ds)) (sym e) ∙ key_at ds d c.0 c.1 c.2 (λ t. once (subst (DefinesTwice ds) e t))

-- the key that the code makes of a definition
pub key_is : (d : Definition) (key : FontKey) → IsKeyOf d key → key_of key ≡ key_by d
key_is d key h =
    let size : key.size ≡ unsigned_abs d.size = ap unsigned_abs h.2 in
    let design : key.design ≡ unsigned_abs d.design = ap unsigned_abs h.3 in
    ap (λ (n : List ℕ). record { name = n; checksum = key.checksum; size = key.size; design = key.design }) h.0
    ∙ ap (λ (n : ℕ). record { name = d.name; checksum = n; size = key.size; design = key.design }) h.1
    ∙ ap (λ (n : ℕ). record { name = d.name; checksum = d.checksum; size = n; design = key.design }) size
    ∙ ap (λ (n : ℕ). record { name = d.name; checksum = d.checksum; size = unsigned_abs d.size; design = n }) design
