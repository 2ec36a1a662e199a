-- What a text spends: each string that a page shows is one of the page's stretches, and each glyph of a section is put once in it. Both can be told
-- from the events alone, so they hold for a text that is cut anywhere as far as it goes.
use Rattle.std.specs.Prelude.{ℕ, ◌≡◌, List, [], ◌∷◌, ◌++◌, Some}
use Rattle.ps_subset.specs.State.{Event, PutArray, FontMade, TextShown, Shown, Character}
use Rattle.ps_subset.specs.Run.{events}
use Rattle.ps_subset.specs.Job.{Job}
use Rattle.ps_subset.specs.FontText.{fonts_held}
use Rattle.ps_subset.specs.Printout.{Page, Section, Printout, IsGoodText, text_of}
use Rattle.ps_subset.specs.Marks.{stretch_texts}

-- the strings of each page that was shown, after those that the open page has so far
abbrev pub page_texts : List Event → List Event → List (List Event)
page_texts so_far [] = []
page_texts so_far (Shown copies glyphs ∷ es) = so_far ∷ page_texts [] es
page_texts so_far (TextShown key text place ∷ es) = page_texts (so_far ++ TextShown key text place ∷ []) es
page_texts so_far (_ ∷ es) = page_texts so_far es

abbrev pub characters_of : List ℕ → List ℕ → List Character
characters_of key [] = []
characters_of key (c ∷ cs) = record { key = key; code = c } ∷ characters_of key cs

-- the glyphs that were put, each for the font that is made next, after the codes that wait for it
abbrev pub put_glyphs : List ℕ → List Event → List Character
put_glyphs waiting [] = []
put_glyphs waiting (PutArray code ∷ es) = put_glyphs (waiting ++ code ∷ []) es
put_glyphs waiting (FontMade key ∷ es) = characters_of key waiting ++ put_glyphs [] es
put_glyphs waiting (_ ∷ es) = put_glyphs waiting es

-- the stretches of each page of a printout, and the glyphs of each section's fonts
abbrev pub pages_stretches : Job → List Page → List (List Event)
pages_stretches j [] = []
pages_stretches j (p ∷ ps) = stretch_texts j p.items ∷ pages_stretches j ps

abbrev pub sections_stretches : Job → List Section → List (List Event)
sections_stretches j [] = []
sections_stretches j (s ∷ ss) = pages_stretches j s.pages ++ sections_stretches j ss

abbrev pub sections_glyphs : List Section → List Character
sections_glyphs [] = []
sections_glyphs (s ∷ ss) = fonts_held s.fonts ++ sections_glyphs ss

-- none of them twice
abbrev pub IsApart : Character → List Character → Type 0
IsApart c [] = Unit {0}
IsApart c (d ∷ ds) = (c ≡ d → ⊥) × IsApart c ds

abbrev pub AllApart : List Character → Type 0
AllApart [] = Unit {0}
AllApart (c ∷ cs) = IsApart c cs × AllApart cs

abbrev pub AllOnce : List Section → Type 0
AllOnce [] = Unit {0}
AllOnce (s ∷ ss) = AllApart (fonts_held s.fonts) × AllOnce ss

-- The strings of the pages are the stretches, and the glyphs that are put are those of each section's fonts, none of them twice in a section.
pub record IsEconomical (t : Printout) (es : List Event) : Type 0 where
  pub texts : page_texts [] es ≡ sections_stretches t.job t.sections
  pub glyphs : put_glyphs [] es ≡ sections_glyphs t.sections
  pub once : AllOnce t.sections

abbrev pub EconomyOfPrintout : Type 0
EconomyOfPrintout = (t : Printout) → IsGoodText t → (es : List Event) → events (text_of t) ≡ Some es → IsEconomical t es

-- Cut anywhere, it shows the strings of the first pages, and puts the first glyphs.
abbrev pub EconomyOfCut : Type 0
EconomyOfCut =
    (t : Printout) → IsGoodText t → (xs ys : List ℕ) (so_far : List Event) → text_of t ≡ xs ++ ys → events xs ≡ Some so_far →
    ((later : List (List Event)) × (sections_stretches t.job t.sections ≡ page_texts [] so_far ++ later)) ×
    ((later : List Character) × (sections_glyphs t.sections ≡ put_glyphs [] so_far ++ later))
