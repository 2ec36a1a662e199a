-- Lists of windows, from the front.
use Rattle.std.proofs.Common.{◌≡◌, ◌<◌, ◌≤◌, ◌+◌, ℕ, zero, suc, List, [], ◌∷◌, ◌++◌, Option, Some, None, true, false, length, take, drop, append_assoc, arith, refl, sym, ap, ◌∙◌, add-one, All, lt-ltb, le-ltb}
use Rattle.std.specs.List.{position_or_len}
use Rattle.std.proofs.lemmas.List.{take_all, length-drop, append-nil}
use Rattle.std.proofs.lemmas.List.Sums.{fails_before_first}
use Rattle.std.proofs.lemmas.List.Splits.{slice_split_first, slice_split_none}
use Rattle.dv_words.specs.Numbers.{page_number}
use Rattle.specials.specs.Commas.{is_comma}
use Rattle.dv_words.specs.Windows.{Adds, both, is_dash, join, window_of, windows_of}
use Rattle.dv_words.specs.declared.pages.Window.{Window}

drop_one : {X : Type 0} (xs : List X) (n : ℕ) → drop 1 (drop n xs) ≡ drop (n + 1) xs
drop_one xs zero = refl
drop_one [] (suc n) = rw add-one refl
drop_one (x ∷ xs) (suc n) = rw add-one (drop_one xs n ∙ ap (λ m. drop m xs) (add-one n))

pub window_whole : (item : List ℕ) → 0 < length item → length (drop (position_or_len is_dash (drop 1 item) + 1) item) ≡ 0
    → window_of item ≡ both (page_number item) (page_number item)
window_whole [] some h = absurd (omega arith)
window_whole (c ∷ cs) some h =
    let e : length (drop (position_or_len is_dash cs) cs) ≡ 0 = rw add-one at h in
    let long : length cs ≤ position_or_len is_dash cs = omega (arith, e, length-drop (position_or_len is_dash cs) cs) in
    rw (le-ltb (position_or_len is_dash cs) (length cs) long) refl

pub window_parts : (item : List ℕ) → 0 < length item → 0 < length (drop (position_or_len is_dash (drop 1 item) + 1) item)
    → window_of item ≡ both (page_number (take (position_or_len is_dash (drop 1 item) + 1) item)) (page_number (drop 1 (drop (position_or_len is_dash (drop 1 item) + 1) item)))
window_parts [] some h = absurd (omega arith)
window_parts (c ∷ cs) some h =
    let e : 0 < length (drop (position_or_len is_dash cs) cs) = rw add-one at h in
    let short : position_or_len is_dash cs < length cs = omega (arith, e, length-drop (position_or_len is_dash cs) cs) in
    let front : take (position_or_len is_dash cs + 1) (c ∷ cs) ≡ c ∷ take (position_or_len is_dash cs) cs = ap (λ n. take n (c ∷ cs)) (add-one (position_or_len is_dash cs)) in
    let tail : drop 1 (drop (position_or_len is_dash cs + 1) (c ∷ cs)) ≡ drop (position_or_len is_dash cs + 1) cs =
    ap (λ n. drop 1 (drop n (c ∷ cs))) (add-one (position_or_len is_dash cs)) ∙ drop_one cs (position_or_len is_dash cs) in
    rw (lt-ltb (position_or_len is_dash cs) (length cs) short, front, tail) refl

-- the windows that were added, and those of the rest
abbrev pub behind : List Window → Option (List Window) → Option (List Window)
behind done None = None
behind done (Some ws) = Some (done ++ ws)

-- The windows before, those that were added, and what is left to read make the whole.
pub record Reading (list : List ℕ) (before now : List Window) (rest : List ℕ) : Type 0 where
  pub done : List Window
  pub is_now : now ≡ before ++ done
  pub whole : windows_of list ≡ behind done (windows_of rest)

pub unread : (list : List ℕ) (before : List Window) → Reading list before before list
unread list before = record { done = []; is_now = sym (append-nil before); whole = by (windows_of list) } where
  by : (r : Option (List Window)) → r ≡ behind [] r
  by None = refl
  by (Some ws) = refl

all_fail : (xs : List ℕ) → length (drop (position_or_len is_comma xs) xs) ≡ 0 → All (λ x. is_comma x ≡ false) xs
all_fail xs h = λ k d below. fails_before_first is_comma xs k d (omega (arith, h, length-drop (position_or_len is_comma xs) xs))

-- the last item, and one before a comma
last_item : (rest : List ℕ) → length (drop (position_or_len is_comma rest) rest) ≡ 0 → windows_of rest ≡ join (window_of (take (position_or_len is_comma rest) rest)) (Some [])
last_item rest h = rw (slice_split_none is_comma rest (all_fail rest h), take_all (position_or_len is_comma rest) rest (omega (arith, h, length-drop (position_or_len is_comma rest) rest))) refl

next_item : (rest : List ℕ) → 0 < length (drop (position_or_len is_comma rest) rest)
    → windows_of rest ≡ join (window_of (take (position_or_len is_comma rest) rest)) (windows_of (drop 1 (drop (position_or_len is_comma rest) rest)))
next_item rest h =
    let short : position_or_len is_comma rest < length rest = omega (arith, h, length-drop (position_or_len is_comma rest) rest) in
    rw (slice_split_first is_comma rest 0 short, drop_one rest (position_or_len is_comma rest)) refl

-- an item that is none
pub wrong_item : (list : List ℕ) (before now : List Window) (rest : List ℕ) → Reading list before now rest → window_of (take (position_or_len is_comma rest) rest) ≡ None
    → Adds (windows_of list) before false now
wrong_item list before now rest r h = rw r.whole (by (length (drop (position_or_len is_comma rest) rest)) refl) where
  fails : (tail : Option (List Window)) → windows_of rest ≡ join (window_of (take (position_or_len is_comma rest) rest)) tail → Adds (behind r.done (windows_of rest)) before false now
  fails tail e = rw (e, h) refl

  by : (n : ℕ) → length (drop (position_or_len is_comma rest) rest) ≡ n → Adds (behind r.done (windows_of rest)) before false now
  by zero e = fails (Some []) (last_item rest e)
  by (suc n) e = fails (windows_of (drop 1 (drop (position_or_len is_comma rest) rest))) (next_item rest (omega (arith, e)))

-- the last item
pub ended : (list : List ℕ) (before now : List Window) (rest : List ℕ) (w : Window) → Reading list before now rest → window_of (take (position_or_len is_comma rest) rest) ≡ Some w
    → length (drop (position_or_len is_comma rest) rest) ≡ 0 → Adds (windows_of list) before true (now ++ (w ∷ []))
ended list before now rest w r h e =
    rw (r.whole, last_item rest e, h) (refl, rw r.is_now (append_assoc before r.done (w ∷ [])))

-- one item more
pub one_more : (list : List ℕ) (before now : List Window) (rest : List ℕ) (w : Window) → Reading list before now rest → window_of (take (position_or_len is_comma rest) rest) ≡ Some w
    → 0 < length (drop (position_or_len is_comma rest) rest) → Reading list before (now ++ (w ∷ [])) (drop 1 (drop (position_or_len is_comma rest) rest))
one_more list before now rest w r h e =
    record {
      done = r.done ++ (w ∷ []);
      is_now = rw r.is_now (append_assoc before r.done (w ∷ []));
      whole = r.whole ∙ ap (behind r.done) (next_item rest e) ∙ rw h (shift (windows_of (drop 1 (drop (position_or_len is_comma rest) rest))));
    }
  where
    shift : (t : Option (List Window)) → behind r.done (join (Some w) t) ≡ behind (r.done ++ (w ∷ [])) t
    shift None = refl
    shift (Some ws) = ap Some (sym (append_assoc r.done (w ∷ []) ws))

-- the parts of an item as the program cuts them
pub window_cut : (item rest front after last : List ℕ) (dash : ℕ) → rest ≡ drop 1 item → dash ≡ position_or_len is_dash rest → front ≡ take (dash + 1) item
    → after ≡ drop (dash + 1) item → 0 < length item → 0 < length after → last ≡ drop 1 after → both (page_number front) (page_number last) ≡ window_of item
window_cut item rest front after last dash r d f a some more l =
    let place : dash ≡ position_or_len is_dash (drop 1 item) = d ∙ ap (position_or_len is_dash) r in
    let tail : after ≡ drop (position_or_len is_dash (drop 1 item) + 1) item = a ∙ ap (λ n. drop (n + 1) item) place in
    let parts = window_parts item some (rw tail at more) in
    rw (l, f, tail, place) (sym parts)
