-- Places of keys.
use Rattle.std.proofs.Common.{◌≡◌, ◌≤◌, ℕ, ◌+◌, arith, List, [], ◌∷◌, ◌++◌, length, Option, Some, None, Bool, true, false, refl, sym, ap, ◌∙◌, cond, nat_lt, not, eqb}
use Rattle.std.proofs.lemmas.List.{length-map, length_push}
use Rattle.std.proofs.lemmas.List.Folds.{position_or_len_push}
use Rattle.std.proofs.lemmas.List.Sums.{prefix_len-le-length}
use Rattle.std.specs.Cmp.Lexicographic.{pointwise, bytes_decides}
use Rattle.std.proofs.lemmas.Bool.Decides.{nat_tests}
use Rattle.std.specs.Prelude.{position, nat_eq}
use Rattle.std.specs.List.{position_or_len}
use Rattle.std.specs.Map.{keys_of}
use Rattle.std.specs.Option.{is_some}
use Rattle.indexmap.specs.IndexMap.{IndexMap, get, insert_entry}
use Rattle.indexmap.proofs.CallerLemmas.{insert_entry-new}
use Rattle.dvi_doc.specs.declared.font.FontKey.{FontKey}
use Rattle.dvi_doc.specs.contracts.font.FontKeyPartialEq.TheImpl.{eq-value}
use Rattle.font_set.specs.Key.{Key, same_key}
use Rattle.font_set.specs.Fonts.{State, Entry, place_of, learn}
use Rattle.font_set.specs.Views.{key_of}
use Rattle.font_set.specs.Stored.{entry_of, entries_of}
use Rattle.font_set.specs.declared.font.Font.{Font}
use Rattle.font_set.specs.declared.font.Font.TheVariants as font

abbrev pub eq : FontKey → FontKey → Bool
eq a b = eq-value.it a b

eq_is : (a b : FontKey) → eq a b ≡ same_key (key_of a) (key_of b)
eq_is a b = refl

or_len : (k : FontKey) (ps : List (FontKey × Font)) → position_or_len (λ e. same_key (key_of k) e.key) (entries_of ps) ≡ position_or_len (eq k) (keys_of ps)
or_len k [] = refl
or_len k (p ∷ ps) = ap (λ (n : ℕ). cond (not (eq k p.0)) (1 + n) 0) (or_len k ps)

pub place_is : (k : FontKey) (ps : List (FontKey × Font)) → place_of (entries_of ps) (key_of k) ≡ position (eq k) (keys_of ps)
unfolding place_of
place_is k ps =
    ap (λ (n : ℕ). cond (nat_lt n (length (entries_of ps))) (Some n) None) (or_len k ps)
    ∙ ap (λ (l : ℕ). cond (nat_lt (position_or_len (eq k) (keys_of ps)) l) (Some (position_or_len (eq k) (keys_of ps))) None) (length-map ps entry_of ∙ sym (length-map ps (λ (p : FontKey × Font). p.0)))

same_self : (k : Key) → same_key k k ≡ true
same_self k =
    let a : pointwise nat_eq k.name k.name ≡ true = (bytes_decides k.name k.name).1 refl in
    grind (arith, a)

-- what stands nowhere has its place at the end
past_end : (n l : ℕ) → cond (nat_lt n l) (Some n) None ≡ None → l ≤ n
past_end n l e = grind (arith, nat_tests)

-- a new key stands last
pub place_new : (es : List Entry) (k : Key) → place_of es k ≡ None → place_of (es ++ record { key = k; state = State.Known } ∷ []) k ≡ Some (length es)
unfolding place_of
place_new es k e =
    let test = λ (x : Entry). same_key k x.key in
    let n = position_or_len test es in
    let last : Entry = record { key = k; state = State.Known } in
    let far : length es ≤ n = past_end n (length es) e in
    let near : n ≤ length es = prefix_len-le-length (λ (x : Entry). not (test x)) es in
    let push : position_or_len test (es ++ last ∷ []) ≡ cond (eqb n (length es)) (length es + cond (test last) 0 1) n = position_or_len_push test es last in
    let self : test last ≡ true = same_self k in
    let is : position_or_len test (es ++ last ∷ []) ≡ length es = grind (arith, push, self) in
    let long : length (es ++ last ∷ []) ≡ length es + 1 = length_push es last in
    rw (is, long) (grind arith)

pub learn_old : (es : List Entry) (k : Key) (i : ℕ) → place_of es k ≡ Some i → es ≡ learn es k
unfolding learn
learn_old es k i e = rw e refl

pub learn_new : (es : List Entry) (k : Key) → place_of es k ≡ None → es ++ record { key = k; state = State.Known } ∷ [] ≡ learn es k
unfolding learn
learn_new es k e = rw e refl

pub entries_push : (ps : List (FontKey × Font)) (p : FontKey × Font) → entries_of (ps ++ p ∷ []) ≡ entries_of ps ++ entry_of p ∷ []
entries_push [] p = refl
entries_push (q ∷ ps) p = ap (λ (es : List Entry). entry_of q ∷ es) (entries_push ps p)

none_of : {X : Type 0} (o : Option X) → false ≡ is_some o → o ≡ None
none_of None e = refl
none_of (Some x) e = cc

-- The entries where a new key was put last.
pub put_last : {S : Type 0} (m : IndexMap FontKey Font S) (es : List (FontKey × Font)) (copy key : FontKey) → copy ≡ key
    → None ≡ position (eq key) (keys_of m.entries) → false ≡ is_some (get eq m key) → es ≡ insert_entry eq m.entries copy font.Known
    → (entries_of es ≡ learn (entries_of m.entries) (key_of key)) × (place_of (entries_of es) (key_of key) ≡ Some (length m.entries))
put_last m es copy key same p g e =
    let n : get eq m key ≡ None = none_of (get eq m key) g in
    let a : insert_entry eq m.entries key font.Known ≡ m.entries ++ (key, font.Known) ∷ [] = insert_entry-new eq m key font.Known n in
    let b : es ≡ m.entries ++ (key, font.Known) ∷ [] = e ∙ ap (λ (k : FontKey). insert_entry eq m.entries k font.Known) same ∙ a in
    let d : entries_of es ≡ entries_of m.entries ++ record { key = key_of key; state = State.Known } ∷ [] = ap entries_of b ∙ entries_push m.entries (key, font.Known) in
    let none : place_of (entries_of m.entries) (key_of key) ≡ None = place_is key m.entries ∙ sym p in
    let last = place_new (entries_of m.entries) (key_of key) none in (
      d ∙ learn_new (entries_of m.entries) (key_of key) none,
      ap (λ (xs : List Entry). place_of xs (key_of key)) d ∙ last ∙ ap (λ (l : ℕ). Some l) (length-map m.entries entry_of),
    )

pub or_end : (n l : ℕ) → None ≡ cond (nat_lt n l) (Some n) None → n ≤ l → n ≡ l
or_end n l e h = grind (arith, nat_tests)

-- a new key's place is the length
pub index_new : (key : FontKey) (ps : List (FontKey × Font)) → None ≡ position (eq key) (keys_of ps) → position_or_len (eq key) (keys_of ps) ≡ length ps
index_new key ps e = or_end _ _ e (prefix_len-le-length (λ (x : FontKey). not (eq key x)) (keys_of ps)) ∙ length-map ps (λ (p : FontKey × Font). p.0)
