-- The store of a font with one more glyph.
use Rattle.std.proofs.Common.{◌≡◌, ℕ, zero, suc, ◌+◌, ◌<◌, ◌≤◌, refl, sym, ◌∙◌, ap, subst, arith, List, [], ◌∷◌, ◌++◌, length, set, length-append, length-set, get_or, rules}
use Rattle.std.proofs.lemmas.List.{same_lists, places}
use Rattle.std.proofs.lemmas.List.Sums.{sum_by-set}
use Rattle.std.specs.Prelude.{map, slice_range, slice_index_or, replicate}
use Rattle.std.specs.List.{All, AllByRecursion, sum_by}
use Rattle.std.proofs.lemmas.List.Elements.{recursion_from_All, All-from_recursion}
use Rattle.pk_raster.specs.Font.{Known, known_bytes}
use Rattle.pk_raster.specs.Font.Known.{Nothing, Bits}
use Rattle.pk_raster.specs.Entries.{known, IsEntry, IsStore}
use Rattle.pk_raster.specs.declared.pk.Place.{Place}
use Rattle.pk_raster.specs.declared.pk.Entry.{Entry}
use Rattle.pk_raster.specs.declared.pk.Entry.TheVariants as entry

-- the bitmap that stands at a place in these bytes
bitmap_at : Place → List ℕ → Known
bitmap_at p xs = Bits (record { w = p.sizes.w; h = p.sizes.h; hoff = p.sizes.hoff; voff = p.sizes.voff; rows = xs })

range_more : (xs ys : List ℕ) (i j : ℕ) → i ≤ j → j ≤ length xs → slice_range (xs ++ ys) i j ≡ slice_range xs i j
range_more xs ys i j h l = same_lists _ _ (search (rules, places)) (λ k d q. grind (arith, places))

pub range_new : (xs ys all : List ℕ) (i j : ℕ) → all ≡ xs ++ ys → i ≡ length xs → j ≡ length xs + length ys → slice_range all i j ≡ ys
range_new xs ys all i j e f g = let P : List ℕ → Type 0 = λ v. slice_range v i j ≡ ys in subst P (sym e) (same_lists _ _ (search (rules, places)) (λ k d q. grind (arith, places)))

known_more : (rows more : List ℕ) (e : Entry) → IsEntry (length rows) e → known (rows ++ more) e ≡ known rows e
unfolding bitmap_at
known_more rows more entry.None h = refl
known_more rows more (entry.TooBig n) h = refl
known_more rows more (entry.Here p) h = ap (bitmap_at p) (range_more rows more p.start p.end h.0 h.1)

all_more : (rows more : List ℕ) (es : List Entry) → AllByRecursion (IsEntry (length rows)) es → map (known (rows ++ more)) es ≡ map (known rows) es
all_more rows more [] a = refl
all_more rows more (e ∷ es) a = ap (λ k. k ∷ map (known (rows ++ more)) es) (known_more rows more e a.0) ∙ ap (λ ks. known rows e ∷ ks) (all_more rows more es a.1)

map_set : (f : Entry → Known) (es : List Entry) (i : ℕ) (e : Entry) → map f (set es i e) ≡ set (map f es) i (f e)
map_set f [] i e = refl
map_set f (x ∷ es) zero e = refl
map_set f (x ∷ es) (suc i) e = ap (λ ks. f x ∷ ks) (map_set f es i e)

-- an entry written, after the store has grown
pub written : (rows more all : List ℕ) (es : List Entry) (i : ℕ) (e : Entry) → all ≡ rows ++ more → All (IsEntry (length rows)) es → map (known all) (set es i e) ≡ set (map (known rows) es) i (known all e)
written rows more all es i e q a =
    map_set (known all) es i e ∙ ap (λ ks. set ks i (known all e)) (ap (λ xs. map (known xs) es) q ∙ all_more rows more es (recursion_from_All (IsEntry (length rows)) es a))

pub written_here : (rows more all : List ℕ) (es : List Entry) (i : ℕ) (p : Place) → all ≡ rows ++ more → All (IsEntry (length rows)) es → p.start ≡ length rows → p.end ≡ length rows + length more →
    map (known all) (set es i (entry.Here p)) ≡ set (map (known rows) es) i (Bits (record { w = p.sizes.w; h = p.sizes.h; hoff = p.sizes.hoff; voff = p.sizes.voff; rows = more }))
unfolding bitmap_at
written_here rows more all es i p q a s t =
    written rows more all es i (entry.Here p) q a ∙ ap (λ xs. set (map (known rows) es) i (bitmap_at p xs)) (range_new rows more all p.start p.end q s t)

-- the bytes of all bitmaps, where a code has a new glyph
pub sum_set : (glyphs : List Known) (code : ℕ) (k : Known) → code < length glyphs → slice_index_or glyphs code Nothing ≡ Nothing → sum_by known_bytes (set glyphs code k) ≡ sum_by known_bytes glyphs + known_bytes k
sum_set glyphs code k l n =
    let s = sum_by-set known_bytes glyphs code k Nothing l in
    let z : known_bytes (get_or glyphs code Nothing) ≡ 0 = ap known_bytes n in
    omega (arith, s, z)

length_map : (f : Entry → Known) (es : List Entry) → length (map f es) ≡ length es
length_map f [] = refl
length_map f (e ∷ es) = ap suc (length_map f es)

entry_wider : (n m : ℕ) (e : Entry) → n ≤ m → IsEntry n e → IsEntry m e
entry_wider n m entry.None l h = tt
entry_wider n m (entry.TooBig b) l h = tt
entry_wider n m (entry.Here p) l h = (h.0, omega (arith, h.1, l))

all_wider : (n m : ℕ) (es : List Entry) → n ≤ m → AllByRecursion (IsEntry n) es → AllByRecursion (IsEntry m) es
all_wider n m [] l a = tt
all_wider n m (x ∷ es) l a = (entry_wider n m x l a.0, all_wider n m es l a.1)

wider : (n m : ℕ) (es : List Entry) (i : ℕ) (e : Entry) → n ≤ m → IsEntry m e → AllByRecursion (IsEntry n) es → AllByRecursion (IsEntry m) (set es i e)
wider n m [] i e l k a = tt
wider n m (x ∷ es) zero e l k a = (k, all_wider n m es l a.1)
wider n m (x ∷ es) (suc i) e l k a = (entry_wider n m x l a.0, wider n m es i e l k a.1)

module _ (rows more all : List ℕ) (es : List Entry) (code : ℕ) (e : Entry) (grown : all ≡ rows ++ more) (store : IsStore es rows) (inside : code < 256)
    (new : slice_index_or (map (known rows) es) code Nothing ≡ Nothing) (placed : IsEntry (length all) e) (full : known_bytes (known all e) ≡ length more) where
  longer : length all ≡ length rows + length more
  longer = ap length grown ∙ length-append rows more

  -- the store with a new entry
  pub kept : IsStore (set es code e) all
  kept = record {
    long = length-set es code e ∙ store.long;
    placed = All-from_recursion (IsEntry (length all)) (set es code e) (wider (length rows) (length all) es code e (omega (arith, longer)) placed (recursion_from_All (IsEntry (length rows)) es store.placed));
    full = (let s = sum_set (map (known rows) es) code (known all e) (omega (arith, length_map (known rows) es, store.long, inside)) new in
        let w = ap (sum_by known_bytes) (written rows more all es code e grown store.placed) in
        let f = store.full in omega (arith, s, w, f, full, longer));
  }

none_known : (rows : List ℕ) (n : ℕ) → map (known rows) (replicate n entry.None) ≡ replicate n Nothing
none_known rows zero = refl
none_known rows (suc n) = ap (λ ks. Nothing ∷ ks) (none_known rows n)

-- a store without glyphs
pub none_kept : (rows : List ℕ) (es : List Entry) → es ≡ replicate 256 entry.None → map (known rows) es ≡ replicate 256 Nothing
none_kept rows es e = ap (map (known rows)) e ∙ none_known rows 256
