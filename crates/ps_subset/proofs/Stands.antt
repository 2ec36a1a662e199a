-- The fonts of a section in the store: each stands for its name and holds its letters.
use Rattle.std.proofs.Common.{◌≡◌, refl, ap, ◌∙◌, subst, ℕ, suc, ◌<◌, ◌^◌, List, [], ◌∷◌, length, Option, Some, None, arith, Bool, true, false, ⊎_elim}
use Rattle.std.specs.Prelude.{nat_eq, slice_get, bytes_eq, if◌then◌else◌}
use Rattle.std.proofs.lemmas.Bool.Decides.{nat_tests}
use Rattle.ps_subset.specs.State.{Object, Dictionary, Entry, Cell, Entries, Elements, FontEntry, with_entry, glyphs_from, held_glyphs}
use Rattle.ps_subset.specs.Run.{Value, meaning_in}
use Rattle.ps_subset.specs.Conditions.{put_entry}
use Rattle.ps_subset.specs.Fonts.{printed, Letter, Font, font_name, IsGoodGlyph, AllBytes, letter_codes}
use Rattle.ps_subset.specs.FontConditions.{IsFont, HoldsLetter, AllHeld}
use Rattle.ps_subset.specs.FontText.{letters_held, fonts_held}
use Rattle.ps_subset.specs.Items.{IsIn, AllIn, font_in}
use Rattle.ps_subset.proofs.Dictionaries.{meaning_kept}
use Rattle.ps_subset.proofs.Stores.{Onward, Onward-set, AllHeld-onward, IsFont-onward, array_apart}

-- a font of a section, and where its dictionary is
pub record Placed : Type 0 where
  pub font : Font
  pub at : ℕ

abbrev pub fonts_of : List Placed → List Font
fonts_of [] = []
fonts_of (p ∷ ps) = p.font ∷ fonts_of ps

-- the font directory of these fonts
abbrev pub directory : List Placed → List FontEntry
directory [] = []
directory (p ∷ ps) = record { key = font_name p.font.id; dictionary = p.at } ∷ directory ps

-- the array holds exactly these letters
pub record HoldsAll (key : List ℕ) (glyphs : ℕ) (ls : List Letter) (store : List Cell) : Type 0 where
  pub table : List Object
  pub table_is : slice_get store glyphs ≡ Some (Elements table)
  pub held : glyphs_from key 0 table ≡ letters_held key ls

-- a font that stands for its name, away from the dictionary at d
pub record Stands (d : ℕ) (p : Placed) (store : List Cell) (ds : List ℕ) : Type 0 where
  pub name_is : meaning_in store ds (font_name p.font.id) ≡ Value (Dictionary p.at)
  pub apart : d ≡ p.at → ⊥
  pub font_is : IsFont (font_name p.font.id) p.at (suc p.at) store
  pub letters : AllHeld (suc p.at) p.font.letters store
  pub all : HoldsAll (font_name p.font.id) (suc p.at) p.font.letters store
  pub codes_fit : AllBytes (letter_codes p.font.letters)
  pub small : p.font.id < 2 ^ 63

abbrev pub AllStand : ℕ → List Placed → List Cell → List ℕ → Type 0
AllStand d [] store ds = Unit {0}
AllStand d (p ∷ ps) store ds = Stands d p store ds × AllStand d ps store ds

-- a key that is none of the fonts' names
abbrev pub NoFont : List ℕ → List Placed → Type 0
NoFont key [] = Unit {0}
NoFont key (p ∷ ps) = (bytes_eq key (font_name p.font.id) ≡ false) × NoFont key ps

pub AllStand-put : {room : ℕ} {es : List Entry} (d : ℕ) (store : List Cell) (ds : List ℕ) (ps : List Placed) (key : List ℕ) (v : Object) → slice_get store d ≡ Some (Entries room es) → NoFont key ps → AllStand d ps store ds → AllStand d ps (put_entry store d room es key v) ds
AllStand-put d store ds [] key v here off all = tt
AllStand-put {room} {es} d store ds (p ∷ ps) key v here off all =
    let s = all.0 in
    let on : Onward d store (put_entry store d room es key v) = Onward-set d store (Entries room (with_entry key v es)) in (
      record {
        name_is = meaning_kept store d room es key v here (font_name p.font.id) ds off.0 ∙ s.name_is;
        apart = s.apart;
        font_is = IsFont-onward on here s.apart s.font_is;
        letters = AllHeld-onward on here (suc p.at) p.font.letters s.letters;
        all = record { table = s.all.table; table_is = on.by (suc p.at) (Elements s.all.table) (array_apart store (suc p.at) here s.all.table_is) s.all.table_is; held = s.all.held };
        codes_fit = s.codes_fit;
        small = s.small;
      },
      AllStand-put d store ds ps key v here off.1 all.1,
    )

-- what the fonts hold
pub held_is : (d : ℕ) (store : List Cell) (ds : List ℕ) (ps : List Placed) → AllStand d ps store ds → held_glyphs (directory ps) store ≡ fonts_held (fonts_of ps)
held_is d store ds [] all = refl
held_is d store ds (p ∷ ps) all =
    let s = all.0 in
    rw (s.font_is.dictionary_is, s.font_is.glyphs_are, s.all.table_is, s.all.held, held_is d store ds ps all.1) refl

-- the font of a number
abbrev pub placed_in : List Placed → ℕ → Option Placed
placed_in [] id = None
placed_in (p ∷ ps) id = if nat_eq p.font.id id then Some p else placed_in ps id

pub found_in : (ps : List Placed) (id : ℕ) (f : Font) → font_in (fonts_of ps) id ≡ Some f → (p : Placed) × (placed_in ps id ≡ Some p) × (p.font ≡ f) × (p.font.id ≡ id)
found_in [] id f h = absurd (grind arith)
found_in (p ∷ ps) id f h = go (nat_eq p.font.id id) refl h (λ e. found_in ps id f e)
  where
    go : (b : Bool) → nat_eq p.font.id id ≡ b → (if b then Some p.font else font_in (fonts_of ps) id) ≡ Some f → (font_in (fonts_of ps) id ≡ Some f → (q : Placed) × (placed_in ps id ≡ Some q) × (q.font ≡ f) × (q.font.id ≡ id)) →
        (q : Placed) × ((if b then Some p else placed_in ps id) ≡ Some q) × (q.font ≡ f) × (q.font.id ≡ id)
    go true e k ih = (p, refl, grind (arith, k), grind (arith, nat_tests, e))
    go false e k ih = ih k

pub stands_of : {d : ℕ} {store : List Cell} {ds : List ℕ} (ps : List Placed) (id : ℕ) (p : Placed) → placed_in ps id ≡ Some p → AllStand d ps store ds → Stands d p store ds
stands_of [] id p h all = absurd (grind arith)
stands_of {d} {store} {ds} (q ∷ ps) id p h all = go (nat_eq q.font.id id) h (λ e. stands_of ps id p e all.1)
  where
    go : (b : Bool) → (if b then Some q else placed_in ps id) ≡ Some p → (placed_in ps id ≡ Some p → Stands d p store ds) → Stands d p store ds
    go true k ih = let e : q ≡ p = grind (arith, k) in subst (λ z. Stands d z store ds) e all.0
    go false k ih = ih k

-- letters of a font that is held
pub held_in : (glyphs : ℕ) (store : List Cell) (l : Letter) (xs : List Letter) → IsIn l xs → AllHeld glyphs xs store → HoldsLetter glyphs l store × IsGoodGlyph (printed l.glyph)
held_in glyphs store l [] i all = absurd i
held_in glyphs store l (x ∷ xs) i all =
    ⊎_elim (λ e. subst (λ z. HoldsLetter glyphs z store × IsGoodGlyph (printed z.glyph)) e (all.0, all.1)) (λ k. held_in glyphs store l xs k all.2) i

pub all_held_in : (glyphs : ℕ) (store : List Cell) (ls xs : List Letter) → AllIn ls xs → AllHeld glyphs xs store → AllHeld glyphs ls store
all_held_in glyphs store [] xs i all = tt
all_held_in glyphs store (l ∷ ls) xs i all = let one = held_in glyphs store l xs i.0 all in (one.0, one.1, all_held_in glyphs store ls xs i.1 all)

pub code_fits : (l : Letter) (xs : List Letter) → IsIn l xs → AllBytes (letter_codes xs) → l.code < 256
code_fits l [] i all = absurd i
code_fits l (x ∷ xs) i all = ⊎_elim (λ e. subst (λ (z : Letter). z.code < 256) e all.0) (λ k. code_fits l xs k all.1) i

pub codes_fit_in : (ls xs : List Letter) → AllIn ls xs → AllBytes (letter_codes xs) → AllBytes (letter_codes ls)
codes_fit_in [] xs i all = tt
codes_fit_in (l ∷ ls) xs i all = (code_fits l xs i.0 all, codes_fit_in ls xs i.1 all)

pub length_codes : (ls : List Letter) → length (letter_codes ls) ≡ length ls
length_codes [] = refl
length_codes (l ∷ ls) = ap suc (length_codes ls)
