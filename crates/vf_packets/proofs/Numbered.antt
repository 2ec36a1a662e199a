-- Local fonts by their numbers.
use Rattle.std.proofs.Common.{◌≡◌, ℕ, ℤ, zero, suc, ◌<◌, ◌+◌, refl, sym, ◌∙◌, ap, arith, List, [], ◌∷◌, ◌++◌, length, take, get_or}
use Rattle.std.specs.Prelude.{map}
use Rattle.std.specs.List.{Contains}
use Rattle.std.specs.List.Sorted.{IsPermutation}
use Rattle.std.proofs.lemmas.List.{length-map, map-append, take_more}
use Rattle.dvi_ops.specs.Numbered.{numbered}
use Rattle.dvi_ops.proofs.Numbering as index
use Rattle.vf_packets.specs.Font.{LocalFont, number_of, numbers_of}
use Rattle.vf_packets.specs.LocalViews.{local_view}
use Rattle.vf_packets.specs.declared.local.Local.{Local}

-- the index of the numbers of fonts
abbrev pub IsIndex : List Local → List (ℤ × ℕ) → Type 0
IsIndex fonts pairs = IsPermutation (numbered 0 (numbers_of (map local_view fonts))) pairs

number_at : (fonts : List Local) (place : ℕ) (f : Local) (d : ℤ) → place < length fonts → get_or (numbers_of (map local_view fonts)) place d ≡ (get_or fonts place f).k
number_at [] place f d h = absurd (omega (arith, h))
number_at (x ∷ fonts) zero f d h = refl
number_at (x ∷ fonts) (suc place) f d h = number_at fonts place f d (omega (arith, h))

-- the font that a pair names
pub place_of : (fonts : List Local) (pairs : List (ℤ × ℕ)) (k : ℤ) (place : ℕ) → IsIndex fonts pairs → Contains pairs (k, place)
    → (place < length fonts) × ((f : Local) → (get_or fonts place f).k ≡ k)
place_of fonts pairs k place same h =
    let p = index.place_of (numbers_of (map local_view fonts)) pairs k place same h in
    let inside : place < length fonts = omega (arith, p.0, length-map (map local_view fonts) number_of, length-map fonts local_view) in
    (inside, λ f. sym (number_at fonts place f k inside) ∙ p.1 k)

-- the view of a font that stands at a place
viewed : (fonts : List Local) (i : ℕ) (f : Local) → i < length fonts → f ≡ get_or fonts i f → get_or (map local_view fonts) i (local_view f) ≡ local_view f
viewed [] i f l e = absurd (omega (arith, l))
viewed (g ∷ fonts) zero f l e = ap local_view (sym e)
viewed (g ∷ fonts) (suc i) f l e = viewed fonts i f (omega (arith, l)) e

pub font_found : (fonts : List Local) (pairs : List (ℤ × ℕ)) (k : ℤ) (place : ℕ) (f : Local) → IsIndex fonts pairs → Contains pairs (k, place) → f ≡ get_or fonts place f
    → Contains (map local_view fonts) (local_view f) × (f.k ≡ k)
font_found fonts pairs k place f same h e =
    let s = place_of fonts pairs k place same h in
    ((place, omega (arith, s.0, length-map fonts local_view), viewed fonts place f s.0 e), ap (λ (l : Local). l.k) e ∙ s.1 f)

-- one font more
pub numbered_more : (fonts : List Local) (i : ℕ) (f : Local) → i < length fonts → length (take i fonts) ≡ i
    → numbered 0 (numbers_of (map local_view (take i fonts))) ++ ((get_or fonts i f).k, i) ∷ [] ≡ numbered 0 (numbers_of (map local_view (take (i + 1) fonts)))
numbered_more fonts i f h long =
    let so_far = map local_view (take i fonts) in
    let font = get_or fonts i f in
    index.numbered_more (numbers_of so_far) font.k i (length-map so_far number_of ∙ length-map (take i fonts) local_view ∙ long)
    ∙ ap (λ (ns : List ℤ). numbered 0 ns)
    (sym (map-append number_of so_far (local_view font ∷ [])) ∙ ap numbers_of (sym (map-append local_view (take i fonts) (font ∷ [])) ∙ ap (map local_view) (sym (take_more fonts i f h))))

pub locals_more : (fonts old : List Local) (font : Local) (l : LocalFont) → fonts ≡ old ++ font ∷ [] → local_view font ≡ l → map local_view fonts ≡ map local_view old ++ l ∷ []
locals_more fonts old font l e s = ap (map local_view) e ∙ map-append local_view old (font ∷ []) ∙ ap (λ (x : LocalFont). map local_view old ++ x ∷ []) s

-- a font by its fields
pub built : (k k' : ℤ) (checksum : ℕ) (s s' d d' : ℤ) (n n' : List ℕ) → k ≡ k' → s ≡ s' → d ≡ d' → n ≡ n' →
    ◌≡◌ {A = LocalFont} (record { k = k; checksum = checksum; scale = s; design = d; name = n }) (record { k = k'; checksum = checksum; scale = s'; design = d'; name = n' })
built k k' checksum s s' d d' n n' ek es ed en =
    ap (λ (x : ℤ). record { k = x; checksum = checksum; scale = s; design = d; name = n }) ek
    ∙ ap (λ (x : ℤ). record { k = k'; checksum = checksum; scale = x; design = d; name = n }) es
    ∙ ap (λ (x : ℤ). record { k = k'; checksum = checksum; scale = s'; design = x; name = n }) ed
    ∙ ap (λ (x : List ℕ). record { k = k'; checksum = checksum; scale = s'; design = d'; name = x }) en
