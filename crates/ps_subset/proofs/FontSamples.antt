-- Texts with fonts, by computation.
use Rattle.std.proofs.Common.{refl}
use Rattle.ps_subset.specs.FontSamples.{PlacesOfStrings, FontsShown, Building, StatesOfCharacters, Defining, GlyphsShown}
use Rattle.ps_subset.proofs.Open.{all_open}

pub places_of_strings : PlacesOfStrings
unfolding all_open
places_of_strings = (refl, refl, refl, refl, refl)

pub fonts_shown : FontsShown
unfolding all_open
fonts_shown = (refl, refl, refl, refl, refl, refl, refl)

pub building : Building
unfolding all_open
building = (refl, refl, refl, refl, refl, refl, refl)

pub states_of_characters : StatesOfCharacters
unfolding all_open
states_of_characters = (refl, refl, refl)

pub defining : Defining
unfolding all_open
defining = (refl, refl, refl, refl, refl, refl)

pub glyphs_shown : GlyphsShown
unfolding all_open
glyphs_shown = (refl, refl, refl, refl, refl, refl)
