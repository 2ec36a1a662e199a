-- Texts of lists, item by item.
use Rattle.std.proofs.Common.{◌≡◌, ◌≤◌, ◌<◌, ◌+◌, ◌++◌, ℕ, ℤ, List, [], ◌∷◌, length, map, take, drop, get_or, refl, sym, ap, ◌∙◌, arith, append_assoc}
use Rattle.std.specs.Fmt.{signed_decimal}
use Rattle.std.proofs.lemmas.List.{append-nil, get_or-map, length-map, take-append-drop, take_all, take_more}
use Rattle.dvi_ops.specs.Command.{Definition}
use Rattle.dvitype_list.specs.Texts.{escaped, escape_byte, font_line, font_lines, more_counts}

pub escaped_join : (xs ys : List ℕ) → escaped (xs ++ ys) ≡ escaped xs ++ escaped ys
escaped_join [] ys = refl
escaped_join (x ∷ xs) ys = ap (λ t. escape_byte x ++ t) (escaped_join xs ys) ∙ sym (append_assoc (escape_byte x) (escaped xs) (escaped ys))

pub fonts_join : (xs ys : List Definition) → font_lines (xs ++ ys) ≡ font_lines xs ++ font_lines ys
fonts_join [] ys = refl
fonts_join (x ∷ xs) ys = ap (λ t. font_line x ++ t) (fonts_join xs ys) ∙ sym (append_assoc (font_line x) (font_lines xs) (font_lines ys))

-- one byte more
pub escaped_more : (bs : List ℕ) (i b : ℕ) (next : List ℕ) → next ≡ take i bs ++ b ∷ [] → escaped next ≡ escaped (take i bs) ++ escape_byte b
escaped_more bs i b next e =
    ap escaped e ∙ escaped_join (take i bs) (b ∷ []) ∙ ap (λ t. escaped (take i bs) ++ t) (append-nil (escape_byte b))

-- a front of the bytes has a front of the text
pub escaped_front : (bs : List ℕ) (i : ℕ) → escaped (take i bs) ++ escaped (drop i bs) ≡ escaped bs
escaped_front bs i = sym (escaped_join (take i bs) (drop i bs)) ∙ ap escaped (take-append-drop i bs)

pub counts_join : (xs ys : List ℤ) → more_counts (xs ++ ys) ≡ more_counts xs ++ more_counts ys
counts_join [] ys = refl
counts_join (x ∷ xs) ys = ap (λ (t : List ℕ). (46 ∷ signed_decimal x) ++ t) (counts_join xs ys) ∙ sym (append_assoc (46 ∷ signed_decimal x) (more_counts xs) (more_counts ys))

-- ---- one text behind another

pub five : (a b c d e f l m n o p : List ℕ) → l ≡ a ++ b → m ≡ l ++ c → n ≡ m ++ d → o ≡ n ++ e → p ≡ o ++ f → p ≡ a ++ (b ++ (c ++ (d ++ (e ++ f))))
five a b c d e f l m n o p g h i j k = rw (k, j, i, h, g) (simp append_assoc)

pub six : (a b c d e f g l m n o p q : List ℕ) → l ≡ a ++ b → m ≡ l ++ c → n ≡ m ++ d → o ≡ n ++ e → p ≡ o ++ f → q ≡ p ++ g → q ≡ a ++ (b ++ (c ++ (d ++ (e ++ (f ++ g)))))
six a b c d e f g l m n o p q h i j k u v = rw (v, u, k, j, i, h) (simp append_assoc)

pub more_is : (text a b c : List ℕ) → a ++ b ≡ c → (text ++ a) ++ b ≡ text ++ c
more_is text a b c e = append_assoc text a b ∙ ap (λ (x : List ℕ). text ++ x) e

-- ---- loops

pub escaped_step : (bs : List ℕ) (i : ℕ) → i < length bs → escaped (take i bs) ++ escape_byte (get_or bs i 0) ≡ escaped (take (i + 1) bs)
escaped_step bs i l = sym (escaped_more bs i (get_or bs i 0) (take (i + 1) bs) (take_more bs i 0 l))

pub escaped_rest : (bs : List ℕ) (i : ℕ) → i < length bs → (escaped (take i bs) ++ escape_byte (get_or bs i 0)) ++ escaped (drop (i + 1) bs) ≡ escaped bs
escaped_rest bs i l = ap (λ (x : List ℕ). x ++ escaped (drop (i + 1) bs)) (escaped_step bs i l) ∙ escaped_front bs (i + 1)

-- one font more: what its place among the places of the fonts says
pub fonts_step : {X : Type 0} (says : X → Definition) (xs : List X) (ds : List Definition) (i : ℕ) (e : X) (d : Definition) → map says xs ≡ ds → i < length xs → d ≡ says (get_or xs i e) → font_lines (take i ds) ++ font_line d ≡ font_lines (take (i + 1) ds)
fonts_step says xs ds i e d same l said =
    let inside : i < length ds = omega (arith, l, length-map xs says, ap length same) in
    let there : d ≡ get_or ds i d = said ∙ sym (get_or-map says xs i e d l) ∙ ap (λ (y : List Definition). get_or y i d) same in
    ap (λ (y : List ℕ). font_lines (take i ds) ++ y) (sym (append-nil (font_line d)))
    ∙ sym (fonts_join (take i ds) (d ∷ []))
    ∙ ap font_lines (ap (λ (y : Definition). take i ds ++ y ∷ []) there ∙ sym (take_more ds i d inside))

pub fonts_rest : {X : Type 0} (says : X → Definition) (xs : List X) (ds : List Definition) (i : ℕ) (e : X) (d : Definition) → map says xs ≡ ds → i < length xs → d ≡ says (get_or xs i e) → (font_lines (take i ds) ++ font_line d) ++ font_lines (drop (i + 1) ds) ≡ font_lines ds
fonts_rest says xs ds i e d same l said =
    ap (λ (y : List ℕ). y ++ font_lines (drop (i + 1) ds)) (fonts_step says xs ds i e d same l said)
    ∙ sym (fonts_join (take (i + 1) ds) (drop (i + 1) ds))
    ∙ ap font_lines (take-append-drop (i + 1) ds)

-- behind the last place all fonts are written
pub fonts_last : {X : Type 0} (says : X → Definition) (xs : List X) (ds : List Definition) (i : ℕ) → map says xs ≡ ds → length xs ≤ i → take i ds ≡ ds
fonts_last says xs ds i same far = take_all i ds (omega (arith, far, length-map xs says, ap length same))

pub more_whole : (text a b r w : List ℕ) → (a ++ b) ++ r ≡ w → ((text ++ a) ++ b) ++ r ≡ text ++ w
more_whole text a b r w e = ap (λ (x : List ℕ). x ++ r) (append_assoc text a b) ∙ append_assoc text (a ++ b) r ∙ ap (λ (x : List ℕ). text ++ x) e

pub counts_step : (front l m n : List ℕ) (cs : List ℤ) (i : ℕ) (d : ℤ) → i < length cs → l ≡ front ++ more_counts (take i cs) → m ≡ l ++ 46 ∷ [] → n ≡ m ++ signed_decimal (get_or cs i d) → n ≡ front ++ more_counts (take (i + 1) cs)
counts_step front l m n cs i d lt e f g =
    let c = get_or cs i d in
    let next : more_counts (take (i + 1) cs) ≡ more_counts (take i cs) ++ (46 ∷ signed_decimal c) =
    ap more_counts (take_more cs i d lt) ∙ counts_join (take i cs) (c ∷ []) ∙ ap (λ (x : List ℕ). more_counts (take i cs) ++ x) (append-nil (46 ∷ signed_decimal c)) in
    g ∙ ap (λ (x : List ℕ). x ++ signed_decimal c) (f ∙ ap (λ (x : List ℕ). x ++ 46 ∷ []) e)
    ∙ append_assoc (front ++ more_counts (take i cs)) (46 ∷ []) (signed_decimal c)
    ∙ append_assoc front (more_counts (take i cs)) (46 ∷ signed_decimal c)
    ∙ ap (λ (x : List ℕ). front ++ x) (sym next)

pub three : (a b c k l m n : List ℕ) → k ≡ [] → l ≡ k ++ a → m ≡ l ++ b → n ≡ m ++ c → n ≡ a ++ (b ++ c)
three a b c k l m n e f g h = rw (h, g, f, e) (append_assoc a b c)

-- ---- a line in pieces, behind a text

pub piece_is : (text s l : List ℕ) → s ≡ l → text ++ s ≡ text ++ l
piece_is text s l e = ap (λ (x : List ℕ). text ++ x) e

pub piece_more : (text s l more : List ℕ) → s ≡ l → (text ++ s) ++ more ≡ text ++ (l ++ more)
piece_more text s l more e = append_assoc text s more ∙ ap (λ (x : List ℕ). text ++ (x ++ more)) e

pub piece_two : (text s l e p q : List ℕ) → s ≡ l → p ≡ q → ((text ++ s) ++ e) ++ p ≡ text ++ (l ++ (e ++ q))
piece_two text s l e p q f g =
    append_assoc (text ++ s) e p ∙ append_assoc text s (e ++ p) ∙ ap (λ (x : List ℕ). text ++ (x ++ (e ++ p))) f ∙ ap (λ (x : List ℕ). text ++ (l ++ (e ++ x))) g
