-- One more character is marked.
use Rattle.std.proofs.Common.{◌≡◌, ◌≢◌, ◌<◌, ◌≤◌, ◌+◌, ◌*◌, ◌/◌, ◌%◌, ℕ, zero, suc, Bool, true, false, List, [], ◌∷◌, ◌++◌, length, get_or, set, arith, refl, sym, ap, ◌∙◌, subst, ⊎_elim}
use Rattle.std.specs.Prelude.{◌||◌, ◌&&◌, nat_eq, vec_len, vec_capacity, replicate}
use Rattle.std.specs.List.{sum_by, list_any}
use Rattle.std.proofs.lemmas.List.Folds.{list_any_at, list_any_none}
use Rattle.std.proofs.lemmas.Bool.{eq-eqb, ne_eqb}
use Rattle.std.specs.Global.{Vec}
use Rattle.std.specs.Vec.{with_item, with_items}
use Rattle.std.proofs.lemmas.Bool.{cases_eq, cases_lt}
use Rattle.std.proofs.lemmas.List.{length-set, length-append, get_or-set_same, get_or-set_other, get_or_append_left, get_or_past, get_or_default, get_or-replicate, length-replicate, with_items_is}
use Rattle.std.proofs.lemmas.List.Sums.{sum_by-set, sum_by-cons, sum_by-le}
use Rattle.std.proofs.Math.Seq.{get_or-append_seam}
use Rattle.std.proofs.Math.Nat.{mod-add-div'}
use Rattle.font_set.specs.Fonts.{FontSet}
use Rattle.sections.specs.Below.{any_below}
use Rattle.sections.specs.Places.{StandsAt}
use Rattle.sections.specs.Used.{Used, is_used, price_of, SameFonts, Joined}
use Rattle.sections.specs.Cost.{font_step, total, cost, glyph_price, IsPriced}
use Rattle.sections.specs.Kept.{one_if, seen, IsKept}
use Rattle.sections.specs.declared.usage.Usage.TheInside.{Inside}
use Rattle.sections.proofs.Belows.{any_below_same, any_below_at, any_below_none, any_below_some}
use Rattle.sections.proofs.Costs.{total_same, total_more, total_none, total_most}

-- a place is that of one font and code
pub one_place : (i c j k : ℕ) → c < 256 → k < 256 → i * 256 + c ≡ j * 256 + k → i ≡ j
one_place i c j k p q e = omega arith

pub one_code : (i c k : ℕ) → i * 256 + c ≡ i * 256 + k → c ≡ k
one_code i c k e = omega arith

pub place_parts : (p : ℕ) → p / 256 * 256 + p % 256 ≡ p
place_parts p = let e = mod-add-div' p 256 in omega arith

one_most : (b : Bool) → one_if b ≤ 1
one_most true = omega arith
one_most false = omega arith

pub ones_most : (bs : List Bool) → sum_by one_if bs ≤ length bs
ones_most [] = omega arith
ones_most (b ∷ bs) = let h = ones_most bs in let o = one_most b in omega (arith, sum_by-cons one_if b bs)

pub no_ones : (bs : List Bool) → ((p : ℕ) → get_or bs p false ≡ false) → sum_by one_if bs ≡ 0
no_ones [] h = refl
no_ones (b ∷ bs) h =
    let rest = no_ones bs (λ p. h (suc p)) in
    let here : one_if b ≡ 0 = ap one_if (h 0) in
    omega (arith, sum_by-cons one_if b bs, rest, here)

-- one is marked that wasn't
pub one_more_one : (bs : List Bool) (p : ℕ) → p < length bs → get_or bs p false ≡ false → sum_by one_if (set bs p true) ≡ sum_by one_if bs + 1
one_more_one bs p l e =
    let both = sum_by-set one_if bs p true false l in
    let before : one_if (get_or bs p false) ≡ 0 = ap one_if e in
    omega (arith, both, before)

-- so there was room
pub room_for_one : (bs : List Bool) (p : ℕ) → p < length bs → get_or bs p false ≡ false → sum_by one_if bs < length bs
room_for_one bs p l e =
    let more = one_more_one bs p l e in
    let most = ones_most (set bs p true) in
    omega (arith, more, most, length-set bs p true)

set_true : (bs : List Bool) (p q : ℕ) → get_or bs q false ≡ true → get_or (set bs p true) q false ≡ true
set_true bs p q e = ⊎_elim (λ (is : q ≡ p). by is) (λ (ne : q ≡ p → ⊥). get_or-set_other bs p q true false ne ∙ e) (cases_eq q p)
  where
    by : q ≡ p → get_or (set bs p true) q false ≡ true
    by is = ⊎_elim
        (λ (l : q < length bs). subst (λ j. get_or (set bs p true) j false ≡ true) (sym is) (get_or-set_same bs p true false (subst (λ j. j < length bs) is l)))
        (λ (m : length bs ≤ q). absurd (let past = get_or_past bs q false m in cc))
        (cases_lt q (length bs))

from_set_true : (bs : List Bool) (p q : ℕ) → q ≢ p → get_or (set bs p true) q false ≡ true → get_or bs q false ≡ true
from_set_true bs p q ne e = sym (get_or-set_other bs p q true false ne) ∙ e

-- ---- a usage with one mark more

module _ (u : Inside) (p : ℕ) (places : Vec ℕ) (added : ℕ) where
  abbrev marked : Inside
  marked = record { prices = u.prices; taken = with_item u.taken p true; fonts = with_item u.fonts (p / 256) true; places = places; cost = u.cost + added }

  inside_font : (n : ℕ) → p < n * 256 → p / 256 < n
  inside_font n l = let e = place_parts p in omega arith

  small_code : p % 256 < 256
  small_code = omega arith

  -- another character is marked as it was
  other_code : (id c : ℕ) → id * 256 + c ≢ p → is_used (seen marked) id c ≡ is_used (seen u) id c
  other_code id c ne = get_or-set_other u.taken.items p (id * 256 + c) true false ne

  this_code : p < length u.taken.items → is_used (seen marked) (p / 256) (p % 256) ≡ true
  this_code l = subst (λ q. get_or (set u.taken.items p true) q false ≡ true) (sym (place_parts p)) (get_or-set_same u.taken.items p true false l)

  not_here : (id c : ℕ) → c < 256 → id ≢ p / 256 → id * 256 + c ≢ p
  not_here id c l ne e = ne (one_place id c (p / 256) (p % 256) l small_code (e ∙ sym (place_parts p)))

  not_code : (c : ℕ) → c ≢ p % 256 → p / 256 * 256 + c ≢ p
  not_code c ne e = ne (one_code (p / 256) c (p % 256) (e ∙ sym (place_parts p)))

  marked_font : IsKept u → p < length u.taken.items → (id : ℕ) → id < length (set u.fonts.items (p / 256) true) → get_or (set u.fonts.items (p / 256) true) id false ≡ any_below (is_used (seen marked) id) 256
  marked_font k l id less =
      let inside : p / 256 < length u.fonts.items = inside_font (length u.fonts.items) (subst (λ n. p < n) k.taken l) in
      let known : id < length u.fonts.items = subst (λ n. id < n) (length-set u.fonts.items (p / 256) true) less in
      ⊎_elim
      (λ (is : id ≡ p / 256).
      subst (λ i. get_or (set u.fonts.items (p / 256) true) i false ≡ any_below (is_used (seen marked) i) 256) (sym is)
      (get_or-set_same u.fonts.items (p / 256) true false inside ∙ sym (any_below_at (is_used (seen marked) (p / 256)) (p % 256) 256 small_code (this_code l))))
      (λ (ne : id ≡ p / 256 → ⊥).
      get_or-set_other u.fonts.items (p / 256) id true false ne
      ∙ (k.fonts id known ∙ any_below_same (is_used (seen u) id) (is_used (seen marked) id) 256 (λ c m. sym (other_code id c (not_here id c m ne)))))
      (cases_eq id (p / 256))

  placed_more : IsKept u → places.items ≡ u.places.items ++ p ∷ [] → (q : ℕ) → get_or (set u.taken.items p true) q false ≡ true → StandsAt places.items q
  placed_more k e q m =
      subst (λ qs. StandsAt qs q) (sym e)
      (⊎_elim
      (λ (is : q ≡ p). record {
        at = length u.places.items;
        within = omega (arith, length-append u.places.items (p ∷ []));
        here = get_or-append_seam u.places.items p [] 0 ∙ sym is;
      })
      (λ (ne : q ≡ p → ⊥).
      let s = k.placed q (from_set_true u.taken.items p q ne m) in
      record {
        at = s.at;
        within = let w = s.within in omega (arith, length-append u.places.items (p ∷ []));
        here = get_or_append_left u.places.items (p ∷ []) 0 s.at s.within ∙ s.here;
      })
      (cases_eq q p))

  marked_more : IsKept u → p < length u.taken.items → places.items ≡ u.places.items ++ p ∷ [] → (i : ℕ) → i < length places.items → get_or (set u.taken.items p true) (get_or places.items i 0) false ≡ true
  marked_more k l e i less =
      subst (λ qs. get_or (set u.taken.items p true) (get_or qs i 0) false ≡ true) (sym e)
      (⊎_elim
      (λ (old : i < length u.places.items).
      subst (λ q. get_or (set u.taken.items p true) q false ≡ true) (sym (get_or_append_left u.places.items (p ∷ []) 0 i old))
      (set_true u.taken.items p (get_or u.places.items i 0) (k.marked i old)))
      (λ (new : length u.places.items ≤ i).
      let long : length places.items ≡ length u.places.items + 1 = ap length e ∙ length-append u.places.items (p ∷ []) in
      let last : i ≡ length u.places.items = omega arith in
      subst (λ j. get_or (set u.taken.items p true) (get_or (u.places.items ++ p ∷ []) j 0) false ≡ true) (sym last)
      (subst (λ q. get_or (set u.taken.items p true) q false ≡ true) (sym (get_or-append_seam u.places.items p [] 0)) (get_or-set_same u.taken.items p true false l)))
      (cases_lt i (length u.places.items)))

  cost_more : IsKept u → p < length u.taken.items → get_or u.taken.items p false ≡ false → added ≡ font_step (get_or u.fonts.items (p / 256) false) + get_or u.prices.items p 0
      → u.cost + added ≡ total (price_of (seen u)) (is_used (seen marked)) (length u.fonts.items)
  cost_more k l before adds =
      let i = p / 256 in
      let c = p % 256 in
      let inside : i < length u.fonts.items = inside_font (length u.fonts.items) (subst (λ n. p < n) k.taken l) in
      let price : price_of (seen u) i c ≡ get_or u.prices.items p 0 = ap (λ q. get_or u.prices.items q 0) (place_parts p) in
      let old : is_used (seen u) i c ≡ false = ap (λ q. get_or u.taken.items q false) (place_parts p) ∙ before in
      let more = total_more (price_of (seen u)) (is_used (seen u)) (is_used (seen marked)) i c (length u.fonts.items) inside small_code old (this_code l)
      (λ d m ne. other_code i d (not_code d ne)) (λ j d m n ne. other_code j d (not_here j d n ne)) in
      let step : font_step (get_or u.fonts.items i false) ≡ font_step (any_below (is_used (seen u) i) 256) = ap font_step (k.fonts i inside) in
      let was = k.cost in
      omega (arith, more, was, adds, step, price)

  pub kept_more : IsKept u → p < length u.taken.items → get_or u.taken.items p false ≡ false → places.items ≡ u.places.items ++ p ∷ [] → vec_len places ≡ vec_len u.places + 1
      → vec_capacity places ≡ vec_capacity u.places → added ≡ font_step (get_or u.fonts.items (p / 256) false) + get_or u.prices.items p 0 → IsKept marked
  kept_more k l before items len capacity adds =
      let same = length-set u.fonts.items (p / 256) true in
      let as_many = length-set u.taken.items p true in
      record {
        few = let few = k.few in omega (arith, same, few);
        prices = let h = k.prices in omega (arith, same, h);
        taken = let h = k.taken in omega (arith, same, as_many, h);
        cheap = k.cheap;
        fonts = marked_font k l;
        placed = placed_more k items;
        marked = marked_more k l items;
        count = let h = k.count in omega (arith, h, len, one_more_one u.taken.items p l before);
        room = let h = k.room in omega (arith, h, capacity, as_many);
        cost = subst (λ n. u.cost + added ≡ total (price_of (seen u)) (is_used (seen marked)) n) (sym same) (cost_more k l before adds);
      }

step_most : (b : Bool) → font_step b ≤ 2560
step_most true = omega arith
step_most false = omega arith

-- costs are small numbers
pub cost_fits : (u : Inside) (added i p : ℕ) → IsKept u → added ≡ font_step (get_or u.fonts.items i false) + get_or u.prices.items p 0 → u.cost + added < 18446744073709551616
cost_fits u added i p k adds =
    let most = total_most (price_of (seen u)) (is_used (seen u)) 65695 (length u.fonts.items) (λ j c l m. k.cheap (j * 256 + c)) in
    let was = k.cost in
    let few = k.few in
    let cheap = k.cheap p in
    omega (arith, most, was, few, cheap, adds, step_most (get_or u.fonts.items i false))

-- the places tell what is marked
pub places_tell : (u : Inside) (p : ℕ) → IsKept u → list_any (λ q. nat_eq p q) u.places.items ≡ get_or u.taken.items p false
places_tell u p k = by (get_or u.taken.items p false) refl
  where
    by : (b : Bool) → get_or u.taken.items p false ≡ b → list_any (λ q. nat_eq p q) u.places.items ≡ get_or u.taken.items p false
    by true e =
        let s = k.placed p e in
        list_any_at (λ q. nat_eq p q) u.places.items s.at 0 s.within (eq-eqb p (get_or u.places.items s.at 0) (sym s.here)) ∙ sym e
    by false e =
        list_any_none (λ q. nat_eq p q) u.places.items (λ i d less.
        let there = k.marked i less in
        let zero_read = get_or_default u.places.items i d 0 less in
        ne_eqb p (get_or u.places.items i d) (λ same. (let marks : get_or u.taken.items p false ≡ true = ap (λ q. get_or u.taken.items q false) (same ∙ zero_read) ∙ there in cc)))
        ∙ sym e

pub inside_taken : (u : Inside) (p : ℕ) → IsKept u → p < length u.fonts.items * 256 → p < length u.taken.items
inside_taken u p k l = subst (λ n. p < n) (sym k.taken) l

pub inside_fonts : (u : Inside) (p : ℕ) → IsKept u → p < length u.fonts.items * 256 → p / 256 < length u.fonts.items
inside_fonts u p k l = let e = place_parts p in omega arith

pub font_of_place : (i c : ℕ) → c < 256 → (i * 256 + c) / 256 ≡ i
font_of_place i c l = let e = place_parts (i * 256 + c) in let m : (i * 256 + c) % 256 < 256 = omega arith in omega arith

-- a font that is marked has a place
pub font_placed : (u : Inside) (id : ℕ) → IsKept u → get_or u.fonts.items id false ≡ true → (p : ℕ) × StandsAt u.places.items p × (p / 256 ≡ id)
font_placed u id k e =
    ⊎_elim
    (λ (less : id < length u.fonts.items).
    let some = any_below_some (is_used (seen u) id) 256 (sym (k.fonts id less) ∙ e) in
    (id * 256 + some.0, k.placed (id * 256 + some.0) some.2, font_of_place id some.0 some.1))
    (λ (past : length u.fonts.items ≤ id). absurd (let none = get_or_past u.fonts.items id false past in cc))
    (cases_lt id (length u.fonts.items))

pub place_within : (u : Inside) (k : ℕ) → IsKept u → k < length u.places.items → get_or u.places.items k 0 < length u.taken.items
place_within u i k l =
    ⊎_elim
    (λ (less : get_or u.places.items i 0 < length u.taken.items). less)
    (λ (past : length u.taken.items ≤ get_or u.places.items i 0). absurd (let none = get_or_past u.taken.items (get_or u.places.items i 0) false past in let marks = k.marked i l in cc))
    (cases_lt (get_or u.places.items i 0) (length u.taken.items))

-- nothing is marked
pub kept_none : (u : Inside) → length u.fonts.items ≤ 1000 → length u.prices.items ≡ length u.fonts.items * 256 → length u.taken.items ≡ length u.fonts.items * 256
    → ((p : ℕ) → get_or u.prices.items p 0 ≤ 65695) → ((p : ℕ) → get_or u.taken.items p false ≡ false) → ((id : ℕ) → get_or u.fonts.items id false ≡ false)
    → u.places.items ≡ [] → vec_len u.places ≡ 0 → length u.taken.items ≤ vec_capacity u.places → u.cost ≡ 0 → IsKept u
kept_none u few prices taken cheap none no_font places len room cost =
    record {
      few = few;
      prices = prices;
      taken = taken;
      cheap = cheap;
      fonts = λ id l. no_font id ∙ sym (any_below_none (is_used (seen u) id) 256 (λ c m. none (id * 256 + c)));
      placed = λ p e. absurd (let h = none p in cc);
      marked = λ i l. absurd (let e : length u.places.items ≡ 0 = ap length places in omega arith);
      count = len ∙ sym (no_ones u.taken.items none);
      room = room;
      cost = cost ∙ sym (total_none (price_of (seen u)) (is_used (seen u)) (length u.fonts.items) (λ i c l m. none (i * 256 + c)));
    }

-- what is kept is the cost
pub cost_is : (u : Inside) (set : FontSet) → IsKept u → IsPriced set (seen u) → u.cost ≡ cost set (is_used (seen u))
cost_is u set k priced =
    k.cost
    ∙ (total_same (price_of (seen u)) (glyph_price set) (is_used (seen u)) (is_used (seen u)) (length u.fonts.items) (λ i c l m. priced.prices i c l m) (λ i c l m. refl)
    ∙ ap (λ n. total (glyph_price set) (is_used (seen u)) n) priced.fonts)

pub none_marked : (marks : List Bool) (n : ℕ) → marks ≡ replicate n false → (p : ℕ) → get_or marks p false ≡ false
none_marked marks n e p =
    ap (λ ms. get_or ms p false) e
    ∙ ⊎_elim
    (λ (less : p < n). get_or-replicate n p false false less)
    (λ (past : n ≤ p). get_or_past (replicate n false) p false (omega (arith, length-replicate n false)))
    (cases_lt p n)

-- what another has taken is taken too
pub joined_is : (u : Inside) (old new : Used) (ps : List ℕ) → IsKept u → (seen u).fonts ≡ old.fonts → ps ≡ u.places.items → SameFonts old new
    → ((p : ℕ) → p < old.fonts * 256 → get_or new.taken p false ≡ (get_or old.taken p false || list_any (λ q. nat_eq p q) ps)) → Joined old (seen u) new
joined_is u old new ps k fonts is same taken =
    record {
      same = same;
      exactly = λ id code given small.
          let p = id * 256 + code in
          taken p (omega arith)
          ∙ ap (λ b. get_or old.taken p false || b) (ap (λ qs. list_any (λ q. nat_eq p q) qs) is ∙ places_tell u p k);
    }

-- all marks are taken away
pub kept_cleared : (u : Inside) (taken fonts : List Bool) (places : Vec ℕ) → IsKept u → length taken ≡ length u.taken.items → length fonts ≡ length u.fonts.items
    → ((p : ℕ) → get_or taken p false ≡ false) → ((id : ℕ) → get_or fonts id false ≡ false) → places.items ≡ [] → vec_len places ≡ 0 → vec_capacity places ≡ vec_capacity u.places
    → IsKept (record { prices = u.prices; taken = with_items u.taken taken; fonts = with_items u.fonts fonts; places = places; cost = 0 })
kept_cleared u taken fonts places k many many_fonts none no_font items len capacity =
    let marks = with_items_is u.taken taken (many ∙ sym u.taken.ok.0) in
    let font_marks = with_items_is u.fonts fonts (many_fonts ∙ sym u.fonts.ok.0) in
    let v : Inside = record { prices = u.prices; taken = with_items u.taken taken; fonts = with_items u.fonts fonts; places = places; cost = 0 } in
    let n : length v.fonts.items ≡ length u.fonts.items = ap length font_marks ∙ many_fonts in
    let m : length v.taken.items ≡ length u.taken.items = ap length marks ∙ many in
    let few = k.few in
    let prices = k.prices in
    let as_many = k.taken in
    let room = k.room in
    kept_none v (omega (arith, n, few)) (prices ∙ ap (λ i. i * 256) (sym n)) (m ∙ (as_many ∙ ap (λ i. i * 256) (sym n))) k.cheap
    (λ p. ap (λ (bs : List Bool). get_or bs p false) marks ∙ none p) (λ id. ap (λ (bs : List Bool). get_or bs id false) font_marks ∙ no_font id) items len (omega (arith, m, room, capacity)) refl
