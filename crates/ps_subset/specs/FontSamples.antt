-- Short texts with fonts: what show asks of a font, of the place and of BuildChar, and which glyphs a page is shown with. Where a text has no events,
-- it still tells those that came before it failed.
use Rattle.std.specs.Prelude.{ℕ, ◌≡◌, List, [], ◌∷◌, ◌++◌, Some, None, codes}
use Rattle.ps_subset.specs.State.{Place, PutArray, FontMade, TextShown, Shown}
use Rattle.ps_subset.specs.Run.{events, told}
use Rattle.ps_subset.specs.Samples.{fraction, repeated}

-- a font whose dictionary has these entries beside its BuildChar, and is set
abbrev pub font_with : List ℕ → List ℕ → List ℕ
font_with entries build = codes "/F 6 dict dup begin " ++ (entries ++ (codes "/BuildChar{" ++ (build ++ codes "}def end definefont setfont ")))

abbrev pub usual : List ℕ
usual = codes "/FontType 3 def/FontMatrix[1 0 0 1 0 0]def"

abbrev pub builds : List ℕ
builds = codes "pop pop 5 0 0 0 0 0 setcachedevice"

abbrev pub at : ℕ → Place
at x = record { x = fraction x 0; y = fraction 0 0 }

-- what a string asks of the place
abbrev pub PlacesOfStrings : Type 0
PlacesOfStrings =
    (events (font_with usual builds ++ codes "3 0 moveto(A)show(B)show ") ≡ Some (FontMade (codes "F") ∷ TextShown (codes "F") (codes "A") (at 3) ∷ TextShown (codes "F") (codes "B") (at 8) ∷ [])) ×
    (events (font_with usual builds ++ codes "(A)show ") ≡ None) ×
    (told (font_with usual builds ++ codes "(A)show ") ≡ FontMade (codes "F") ∷ []) ×
    (events (font_with usual builds ++ codes "0 0 moveto()show ") ≡ Some (FontMade (codes "F") ∷ TextShown (codes "F") [] (at 0) ∷ [])) ×
    (events (font_with usual builds ++ codes "()show ") ≡ None)

-- What it asks of the font: the type and the matrix. The Encoding may be too short for a code, since no rule looks there.
abbrev pub FontsShown : Type 0
FontsShown =
    (events (font_with (codes "/FontType 1 def/FontMatrix[1 0 0 1 0 0]def") builds ++ codes "0 0 moveto(A)show ") ≡ None) ×
    (told (font_with (codes "/FontType 1 def/FontMatrix[1 0 0 1 0 0]def") builds ++ codes "0 0 moveto(A)show ") ≡ FontMade (codes "F") ∷ []) ×
    (events (font_with (codes "/FontType 3 def/FontMatrix[1 0 0 1 0 1]def") builds ++ codes "0 0 moveto(A)show ") ≡ None) ×
    (events (font_with (codes "/FontType 3 def") builds ++ codes "0 0 moveto(A)show ") ≡ None) ×
    (events (font_with (usual ++ codes "/Encoding[/c0]def") builds ++ codes "0 0 moveto(A)show ") ≡ Some (FontMade (codes "F") ∷ TextShown (codes "F") (codes "A") (at 0) ∷ [])) ×
    (events (font_with (usual ++ codes "/GA 65 array def") (codes "exch/GA get exch get pop 5 0 0 0 0 0 setcachedevice") ++ codes "0 0 moveto(A)show ") ≡ None) ×
    (events (codes "0 0 moveto(A)show ") ≡ None)

-- what it asks of BuildChar: it leaves the operands as they were, and calls setcachedevice once
abbrev pub Building : Type 0
Building =
    (events (font_with usual (builds ++ codes " 7") ++ codes "0 0 moveto(A)show ") ≡ None) ×
    (told (font_with usual (builds ++ codes " 7") ++ codes "0 0 moveto(A)show ") ≡ FontMade (codes "F") ∷ TextShown (codes "F") (codes "A") (at 0) ∷ []) ×
    (events (font_with usual (codes "pop 5 0 0 0 0 0 setcachedevice") ++ codes "0 0 moveto(A)show ") ≡ None) ×
    (events (font_with usual (codes "pop pop") ++ codes "0 0 moveto(A)show ") ≡ None) ×
    (events (font_with usual (builds ++ codes " 5 0 0 0 0 0 setcachedevice") ++ codes "0 0 moveto(A)show ") ≡ None) ×
    (events (font_with usual (codes "pop pop 5 1 0 0 0 0 setcachedevice") ++ codes "0 0 moveto(A)show ") ≡ None) ×
    (events (codes "5 0 0 0 0 0 setcachedevice ") ≡ None)

-- a character's graphics state is one of the 31, and its BuildChar is run one level deeper
abbrev pub StatesOfCharacters : Type 0
StatesOfCharacters =
    (events (font_with usual builds ++ (codes "0 0 moveto " ++ (repeated 30 (codes "gsave ") ++ codes "(A)show "))) ≡ Some (FontMade (codes "F") ∷ TextShown (codes "F") (codes "A") (at 0) ∷ [])) ×
    (events (font_with usual builds ++ (codes "0 0 moveto " ++ (repeated 31 (codes "gsave ") ++ codes "(A)show "))) ≡ None) ×
    (events (font_with usual (codes "(A)show ") ++ codes "0 0 moveto(A)show ") ≡ None)

-- definefont asks for FID or room for it, and its key is a literal name.
abbrev pub Defining : Type 0
Defining =
    (events (codes "/F 1 dict definefont ") ≡ Some (FontMade (codes "F") ∷ [])) ×
    (events (codes "/F 0 dict definefont ") ≡ None) ×
    (events (codes "/F 1 dict dup begin/a 1 def end definefont ") ≡ None) ×
    (events (codes "/F 1 dict dup begin/FID 1 def end definefont ") ≡ Some (FontMade (codes "F") ∷ [])) ×
    (events (codes "1 1 dict definefont ") ≡ None) ×
    (events (codes "1 dict setfont ") ≡ None)

-- A page is shown with the glyphs that the fonts hold: by name, byte by byte, and by code. A font without an array under GA holds none, and
-- entries from 256 on are no codes. A later font of the same name takes the place of an earlier one; restore takes away those that were made since.
abbrev pub GlyphsShown : Type 0
GlyphsShown =
    (events (codes "/F2 2 dict dup begin/GA 8 array def GA 5[]put end definefont/F10 2 dict dup begin/GA 8 array def GA 7[]put GA 3 1 put end definefont showpage ") ≡
    Some (PutArray 5 ∷ FontMade (codes "F2") ∷ PutArray 7 ∷ FontMade (codes "F10") ∷
    Shown 1 (record { key = codes "F10"; code = 3 } ∷ record { key = codes "F10"; code = 7 } ∷ record { key = codes "F2"; code = 5 } ∷ []) ∷ [])) ×
    (events (codes "/F 1 dict definefont showpage ") ≡ Some (FontMade (codes "F") ∷ Shown 1 [] ∷ [])) ×
    (events (codes "/F 2 dict dup begin/GA 7 def end definefont showpage ") ≡ Some (FontMade (codes "F") ∷ Shown 1 [] ∷ [])) ×
    (events (codes "/F 2 dict dup begin/GA 257 array def GA 256 1 put GA 255 1 put end definefont showpage ") ≡ Some (FontMade (codes "F") ∷ Shown 1 (record { key = codes "F"; code = 255 } ∷ []) ∷ [])) ×
    (events (codes "/F 2 dict dup begin/GA 1 array def GA 0 1 put end definefont/F 1 dict definefont showpage ") ≡ Some (FontMade (codes "F") ∷ FontMade (codes "F") ∷ Shown 1 [] ∷ [])) ×
    (events (codes "save/F 2 dict dup begin/GA 1 array def GA 0 1 put end definefont pop restore showpage ") ≡ Some (FontMade (codes "F") ∷ Shown 1 [] ∷ []))
