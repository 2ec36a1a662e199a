-- The pages of a copy in a row: those so far, the next one, and the rest.
use Rattle.std.proofs.Common.{◌≡◌, ◌<◌, ◌≤◌, ◌+◌, ℕ, ℤ, pos, negsuc, zero, suc, unsigned_abs, List, [], ◌∷◌, ◌++◌, length, get_or, take, drop, refl, sym, ap, subst, ◌∙◌, arith, append_assoc, length-append}
use Rattle.std.specs.List.{AllByRecursion}
use Rattle.std.proofs.lemmas.List.{map-append}
use Rattle.dvi_doc.specs.View.{ReadDoc}
use Rattle.font_set.specs.Fonts.{FontSet}
use Rattle.font_set.specs.Search.{page_of}
use Rattle.font_set.specs.Count.{count}
use Rattle.vf_expand.specs.Grid.{Grid}
use Rattle.vf_expand.specs.Pages.{most_nested}
use Rattle.vf_expand.specs.Causes.{IsMany}
use Rattle.vf_expand.specs.declared.fault.WalkFault.{WalkFault}
use Rattle.vf_expand.specs.declared.fault.WalkFault.TheVariants as fault
use Rattle.dvicopy_out.specs.Spelled.{spelled}
use Rattle.dvicopy_out.specs.Copies.{Page, last_bop, page_commands, page_length, pages_bytes, pages_length}
use Rattle.dvicopy_out.specs.Pages.{IsReady, commands_at, copy_page, copy_pages}
use Rattle.dvicopy_out.proofs.Paging.{HasTen, last_more, length_more, pages_more}

take_step : (xs : List ℕ) (i : ℕ) → i < length xs → take (suc i) xs ≡ take i xs ++ get_or xs i 0 ∷ []
take_step [] i h = absurd (omega arith)
take_step (x ∷ xs) zero h = refl
take_step (x ∷ xs) (suc i) h = ap (λ (l : List ℕ). x ∷ l) (take_step xs i (omega arith))

pub take_more : (xs : List ℕ) (i : ℕ) → i < length xs → take (i + 1) xs ≡ take i xs ++ get_or xs i 0 ∷ []
take_more xs i h = let e : i + 1 ≡ suc i = omega arith in ap (λ (n : ℕ). take n xs) e ∙ take_step xs i h

pub take_rest : (xs : List ℕ) (i : ℕ) → take i xs ++ drop i xs ≡ xs
take_rest [] zero = refl
take_rest [] (suc i) = refl
take_rest (x ∷ xs) zero = refl
take_rest (x ∷ xs) (suc i) = ap (λ (l : List ℕ). x ∷ l) (take_rest xs i)

pub each_at : (P : ℕ → Type 0) (xs : List ℕ) (i : ℕ) → i < length xs → AllByRecursion P xs → P (get_or xs i 0)
each_at P [] i h all = absurd (omega arith)
each_at P (x ∷ xs) zero h all = all.0
each_at P (x ∷ xs) (suc i) h all = each_at P xs i (omega arith) all.1

each_one : (P : ℕ → Type 0) (xs : List ℕ) (x : ℕ) → AllByRecursion P xs → P x → AllByRecursion P (xs ++ x ∷ [])
each_one P [] x all p = (p, tt)
each_one P (y ∷ xs) x all p = (all.0, each_one P xs x all.1 p)

pub each_more : (P : ℕ → Type 0) (xs : List ℕ) (i : ℕ) → i < length xs → AllByRecursion P (take i xs) → P (get_or xs i 0) → AllByRecursion P (take (i + 1) xs)
each_more P xs i h all p = subst (λ (l : List ℕ). AllByRecursion P l) (sym (take_more xs i h)) (each_one P (take i xs) (get_or xs i 0) all p)

commands_both : (set : FontSet) (r : ReadDoc) (xs ys : List ℕ) → commands_at set r (xs ++ ys) ≡ commands_at set r xs + commands_at set r ys
commands_both set r [] ys = omega arith
commands_both set r (x ∷ xs) ys = let rest = commands_both set r xs ys in omega (arith, rest)

pub commands_more : (set : FontSet) (r : ReadDoc) (ks : List ℕ) (i : ℕ) → i < length ks → commands_at set r (take (i + 1) ks) ≡ commands_at set r (take i ks) + count set most_nested (page_of r (get_or ks i 0))
commands_more set r ks i h =
    let both = commands_both set r (take i ks) (get_or ks i 0 ∷ []) in
    ap (commands_at set r) (take_more ks i h) ∙ omega (arith, both)

pub commands_room : (set : FontSet) (r : ReadDoc) (ks : List ℕ) (i : ℕ) → i < length ks → commands_at set r (take i ks) + count set most_nested (page_of r (get_or ks i 0)) ≤ commands_at set r ks
commands_room set r ks i h =
    let more = commands_more set r ks i h in
    let both = commands_both set r (take (i + 1) ks) (drop (i + 1) ks) in
    let whole = ap (commands_at set r) (take_rest ks (i + 1)) in
    omega (arith, more, both, whole)

pub copies_more : (g : Grid) (set : FontSet) (r : ReadDoc) (ks : List ℕ) (i : ℕ) → i < length ks → copy_pages g set r (take (i + 1) ks) ≡ copy_pages g set r (take i ks) ++ copy_page g set r (get_or ks i 0) ∷ []
copies_more g set r ks i h = ap (copy_pages g set r) (take_more ks i h) ∙ map-append (copy_page g set r) (take i ks) (get_or ks i 0 ∷ [])

pub pages_split : (set : FontSet) (last : ℤ) (at : ℕ) (ps qs : List Page) → pages_bytes set last at (ps ++ qs) ≡ pages_bytes set last at ps ++ pages_bytes set (last_bop set last at ps) (at + length (pages_bytes set last at ps)) qs
pages_split set last at [] qs = let e : at ≡ at + 0 = omega arith in ap (λ (n : ℕ). pages_bytes set last n qs) e
pages_split set last at (p ∷ ps) qs =
    let here : List ℕ = spelled (page_commands set last p) in
    let next : ℕ = at + length here in
    let mid : List ℕ = pages_bytes set (pos at) next ps in
    let e : next + length mid ≡ at + length (here ++ mid) = omega (arith, length-append here mid) in
    ap (λ bs. here ++ bs) (pages_split set (pos at) next ps qs)
    ∙ sym (append_assoc here mid (pages_bytes set (last_bop set (pos at) next ps) (next + length mid) qs))
    ∙ ap (λ (n : ℕ). (here ++ mid) ++ pages_bytes set (last_bop set (pos at) next ps) n qs) e

-- those so far are no longer than all
pub pages_room : (g : Grid) (set : FontSet) (r : ReadDoc) (ks : List ℕ) (i at : ℕ) → length (pages_bytes set (negsuc 0) at (copy_pages g set r (take i ks))) ≤ length (pages_bytes set (negsuc 0) at (copy_pages g set r ks))
pages_room g set r ks i at =
    let first : List Page = copy_pages g set r (take i ks) in
    let rest : List Page = copy_pages g set r (drop i ks) in
    let whole : copy_pages g set r ks ≡ first ++ rest = ap (copy_pages g set r) (sym (take_rest ks i)) ∙ map-append (copy_page g set r) (take i ks) (drop i ks) in
    let text = ap (λ (ps : List Page). length (pages_bytes set (negsuc 0) at ps)) whole in
    let split = ap (λ (bs : List ℕ). length bs) (pages_split set (negsuc 0) at first rest) in
    let front : List ℕ = pages_bytes set (negsuc 0) at first in
    let back : List ℕ = pages_bytes set (last_bop set (negsuc 0) at first) (at + length front) rest in
    omega (arith, text, split, length-append front back)

-- the text of one page more
pub next_text : (g h : Grid) (set : FontSet) (r : ReadDoc) (ks : List ℕ) (i at : ℕ) (last : ℤ) → i < length ks → h ≡ g → last ≡ last_bop set (negsuc 0) at (copy_pages g set r (take i ks))
    → pages_bytes set (negsuc 0) at (copy_pages g set r (take i ks)) ++ spelled (page_commands set last (copy_page h set r (get_or ks i 0))) ≡ pages_bytes set (negsuc 0) at (copy_pages g set r (take (i + 1) ks))
next_text g h set r ks i at last within same is =
    let first : List Page = copy_pages g set r (take i ks) in
    (λ j. pages_bytes set (negsuc 0) at first ++ spelled (page_commands set (is j) (copy_page (same j) set r (get_or ks i 0))))
    ∙ sym (pages_more set (negsuc 0) at first (copy_page g set r (get_or ks i 0))) ∙ ap (pages_bytes set (negsuc 0) at) (sym (copies_more g set r ks i within))

pub next_last : (g : Grid) (set : FontSet) (r : ReadDoc) (ks : List ℕ) (i at : ℕ) → i < length ks → last_bop set (negsuc 0) at (copy_pages g set r (take (i + 1) ks)) ≡ pos (at + length (pages_bytes set (negsuc 0) at (copy_pages g set r (take i ks))))
next_last g set r ks i at within = ap (last_bop set (negsuc 0) at) (copies_more g set r ks i within) ∙ last_more set (negsuc 0) at (copy_pages g set r (take i ks)) (copy_page g set r (get_or ks i 0))

-- the place of a bop is below the end
pub last_within : (set : FontSet) (last : ℤ) (at m : ℕ) (ps : List Page) → unsigned_abs last < m → at + length (pages_bytes set last at ps) < m → unsigned_abs (last_bop set last at ps) < m
last_within set last at m [] few h = few
last_within set last at m (p ∷ ps) few h =
    let here : List ℕ = spelled (page_commands set last p) in
    let rest : List ℕ = pages_bytes set (pos at) (at + length here) ps in
    let long = length-append here rest in
    last_within set (pos at) (at + length here) m ps (omega (arith, h)) (omega (arith, h, long))

-- each page has ten counts
pub all_ten : (g : Grid) (set : FontSet) (r : ReadDoc) (ks : List ℕ) → AllByRecursion (IsReady g set r) ks → AllByRecursion HasTen (copy_pages g set r ks)
all_ten g set r [] h = tt
all_ten g set r (k ∷ ks) h = (h.0.ten, all_ten g set r ks h.1)

-- how long one page more is
pub lengths_more : (g : Grid) (set : FontSet) (r : ReadDoc) (ks : List ℕ) (i : ℕ) → i < length ks → pages_length set (copy_pages g set r (take (i + 1) ks)) ≡ pages_length set (copy_pages g set r (take i ks)) + page_length set (copy_page g set r (get_or ks i 0))
lengths_more g set r ks i h = ap (pages_length set) (copies_more g set r ks i h) ∙ length_more set (copy_pages g set r (take i ks)) (copy_page g set r (get_or ks i 0))

-- too many commands so far are too many
pub many_of : {F : Type 0} (m n : ℕ) (e : WalkFault F) → m ≤ n → IsMany m e → IsMany n e
many_of m n (fault.StackUnder x) h many = tt
many_of m n (fault.StackLeft x) h many = tt
many_of m n (fault.StackDeep x) h many = tt
many_of m n (fault.NestDeep id code) h many = tt
many_of m n fault.TooManySteps h many = omega (arith, h, many)
many_of m n (fault.Overflow x) h many = tt
many_of m n (fault.Canvas f) h many = tt

-- the text of the pages behind those so far
pub pages_rest : (g : Grid) (set : FontSet) (r : ReadDoc) (ks : List ℕ) (i at : ℕ) → (rest : List ℕ) × (pages_bytes set (negsuc 0) at (copy_pages g set r (take i ks)) ++ rest ≡ pages_bytes set (negsuc 0) at (copy_pages g set r ks))
pages_rest g set r ks i at =
    let first : List Page = copy_pages g set r (take i ks) in
    let rest : List Page = copy_pages g set r (drop i ks) in
    let whole : copy_pages g set r ks ≡ first ++ rest = ap (copy_pages g set r) (sym (take_rest ks i)) ∙ map-append (copy_page g set r) (take i ks) (drop i ks) in (
      pages_bytes set (last_bop set (negsuc 0) at first) (at + length (pages_bytes set (negsuc 0) at first)) rest,
      sym (ap (pages_bytes set (negsuc 0) at) whole ∙ pages_split set (negsuc 0) at first rest),
    )
