-- The end of a file: where its post_post stands is told by its last bytes.
use Rattle.std.proofs.Common.{◌≡◌, ◌≤◌, ◌<◌, ◌+◌, ◌-◌, ℕ, suc, inl, inr, List, [], ◌∷◌, ◌++◌, length, take, drop, refl, sym, ap, subst, ◌∙◌, arith, slice_range, slice_index, get_or, length-append, lit<, negsuc}
use Rattle.std.specs.List.{All}
use Rattle.std.proofs.lemmas.Bool.{cases_lt}
use Rattle.std.proofs.lemmas.Bool.Decides.{nat_tests}
use Rattle.std.proofs.lemmas.List.{append_assoc, append-nil, get_or-append_right, get_or_append_left, length-drop, drop_more, take_rest, length-take-le, take-append-drop, get_or-drop}
use Rattle.std.proofs.lemmas.List.Folds.{drop_split}
use Rattle.dvi_ops.specs.Command.{Command}
use Rattle.dvi_ops.specs.Command.Command.{Pre, Post, PostPost}
use Rattle.dv_base.specs.Numbers.{unsigned}
use Rattle.dvi_ops.specs.Spelling.{Spell, meaning, low, motion, high, byte_at, fixed_len, text_len}
use Rattle.byteorder.specs.Endian.{big_number}
use Rattle.byteorder.specs.Numbers.{big_from-append}
use Rattle.dvi_ops.specs.Laws.{OneSpelling}
use Rattle.dvi_ops.specs.Placed.{Placed, Lexes}
use Rattle.dvi_doc.specs.Document.{placed, File, between, commands_of}
use Rattle.dvi_doc.specs.Grammar.{IsFill, IsFile}
use Rattle.dvi_doc.specs.Order.{Reading, Part, reading, at_start, after, Leads, IsOpen, MayStand, Reaches, SpelledTo}
use Rattle.dvi_doc.specs.Order.Part.{Past}
use Rattle.dvi_doc.proofs.Leading.{file_leads, past_file, leads_split}
use Rattle.dvi_doc.specs.Faults.{TrailerAt}
use Rattle.dvi_doc.specs.PartFaults.{FillsFrom}
use Rattle.dvi_doc.proofs.Lexing.{lex_split, follow, range_len}
use Rattle.dvi_doc.proofs.Reached.{split_at}

low_no_end : (op : ℕ) (args : List ℕ) (b i : ℕ) → low op args ≡ PostPost b i → ⊥
unfolding low
low_no_end op args b i e = grind (arith, nat_tests)

motion_no_end : (op : ℕ) (args : List ℕ) (b i : ℕ) → motion op args ≡ PostPost b i → ⊥
unfolding motion
motion_no_end op args b i e = grind (arith, nat_tests)

high_no_end : (op : ℕ) (args : List ℕ) (b i : ℕ) → op < 249 → high op args ≡ PostPost b i → ⊥
unfolding high
high_no_end op args b i h e = grind (arith, nat_tests)

no_end : (op : ℕ) (args : List ℕ) (b i : ℕ) → op < 249 → meaning op args ≡ PostPost b i → ⊥
unfolding meaning
no_end op args b i h e =
    elim (cases_lt op 143) [
      | inl x ↦ low_no_end op args b i (let f : low op args ≡ meaning op args = grind (arith, nat_tests) in f ∙ e)
      | inr x ↦ elim (cases_lt op 171) [
        | inl y ↦ motion_no_end op args b i (let f : motion op args ≡ meaning op args = grind (arith, nat_tests) in f ∙ e)
        | inr y ↦ high_no_end op args b i h (let f : high op args ≡ meaning op args = grind (arith, nat_tests) in f ∙ e)
      ]
    ]

the_end : (args : List ℕ) → meaning 249 args ≡ PostPost (unsigned 0 4 args) (slice_index args 4)
unfolding meaning high
the_end args = refl

end_len : (args : List ℕ) → fixed_len 249 + text_len 249 args ≡ 5
unfolding fixed_len text_len
end_len args = refl

-- post_post has one spelling
pub end_spelled : (op : ℕ) (args : List ℕ) (b i : ℕ) → Spell (PostPost b i) (op ∷ args) → (op ≡ 249) × (length args ≡ 5) × (slice_index args 4 ≡ i)
end_spelled op args b i s =
    let is : op ≡ 249 = elim (cases_lt op 249) [ inl x ↦ absurd (no_end op args b i x s.2) | inr x ↦ omega (arith, s.0) ] in
    let kinds : PostPost (unsigned 0 4 args) (slice_index args 4) ≡ PostPost b i = sym (the_end args) ∙ ap (λ (n : ℕ). meaning n args) (sym is) ∙ s.2 in
    let id : slice_index args 4 ≡ i = cc in
    let len : fixed_len op + text_len op args ≡ 5 = ap (λ (n : ℕ). fixed_len n + text_len n args) is ∙ end_len args in
    (is, s.1 ∙ len, id)

-- 249 and five bytes spell it
pub spell_end : (args : List ℕ) → length args ≡ 5 → Spell (PostPost (unsigned 0 4 args) (slice_index args 4)) (249 ∷ args)
spell_end args h = (lit< tt, h ∙ sym (end_len args), the_end args)

-- ---- the end of a file

regroup : (ms : List Placed) (c : Placed) (bs cs : List Placed) → (ms ++ c ∷ bs) ++ cs ≡ ms ++ c ∷ (bs ++ cs)
regroup [] c bs cs = refl
regroup (x ∷ ms) c bs cs = ap (λ (l : List Placed). x ∷ l) (regroup ms c bs cs)

-- all commands but post_post
abbrev pub before_end : File → List Placed
before_end f = placed 0 (Pre f.head) ∷ (between (negsuc 0) f.items ++ placed f.post (Post f.tail) ∷ f.behind)

abbrev pub end_of : File → List Placed
end_of f = placed f.ends (PostPost f.post 2) ∷ []

commands_end : (f : File) → commands_of f ≡ before_end f ++ end_of f
commands_end f = ap (λ (l : List Placed). placed 0 (Pre f.head) ∷ l) (sym (regroup (between (negsuc 0) f.items) (placed f.post (Post f.tail)) f.behind (end_of f)))

-- what stands before post_post, and the five bytes in it
abbrev pub EndIn : List ℕ → File → Type 0
EndIn bytes f =
    (front : List ℕ) × (args : List ℕ) × (filling : List ℕ) × Lexes 0 front (before_end f) × (f.ends ≡ length front) × (bytes ≡ front ++ (249 ∷ args ++ filling))
    × (length args ≡ 5) × (slice_index args 4 ≡ 2) × (4 ≤ length filling) × All IsFill filling

end_in_by : (bytes front whole filling : List ℕ) (f : File) (spelling : List ℕ) → Lexes 0 front (before_end f) → f.ends ≡ length front → Spell (PostPost f.post 2) spelling → bytes ≡ whole ++ filling → whole ≡ front ++ spelling → 4 ≤ length filling → All IsFill filling → EndIn bytes f
end_in_by bytes front whole filling f [] l p s e w n all = absurd s
end_in_by bytes front whole filling f (op ∷ args) l p s e w n all =
    let x = end_spelled op args f.post 2 s in
    let joined : bytes ≡ front ++ (op ∷ args ++ filling) = e ∙ ap (λ (ys : List ℕ). ys ++ filling) w ∙ append_assoc front (op ∷ args) filling in
    (front, args, filling, l, p, joined ∙ ap (λ (o : ℕ). front ++ (o ∷ args ++ filling)) x.0, x.1, x.2, n, all)

pub end_in : (bytes : List ℕ) (f : File) → IsFile bytes f → EndIn bytes f
end_in bytes f h =
    let r = lex_split (before_end f) (end_of f) 0 h.4 (subst (λ (cs : List Placed). Lexes 0 h.4 cs) (commands_end f) h.9) in
    let whole : h.4 ≡ r.0 ++ r.4.1 = r.2 ∙ ap (λ (ys : List ℕ). r.0 ++ ys) (r.4.3 ∙ ap (λ (ys : List ℕ). r.4.1 ++ ys) r.4.5 ∙ append-nil r.4.1) in
    end_in_by bytes r.0 h.4 h.5 f r.4.1 r.3 (omega (arith, r.4.0)) r.4.4 h.6 whole h.7 h.8

byte_behind : (front rest : List ℕ) (n k : ℕ) → n ≡ length front → slice_index (front ++ rest) (n + k) ≡ slice_index rest k
byte_behind front rest n k h =
    let less : n + k - n ≡ k = omega arith in
    get_or-append_right front rest n (n + k) 0 (sym h) (omega arith) ∙ ap (λ (j : ℕ). get_or rest j 0) less

-- The trailer of a file stands at its post_post, and its id is 2.
pub file_trailer : (bytes : List ℕ) (f : File) → IsFile bytes f → TrailerAt bytes f.ends × (byte_at bytes (f.ends + 5) ≡ 2)
file_trailer bytes f h =
    let e = end_in bytes f h in
    let front = e.0 in
    let args = e.1 in
    let filling = e.2 in
    let rest : List ℕ = 249 ∷ args ++ filling in
    let long : length bytes ≡ f.ends + 6 + length filling = omega (arith, ap length e.5, length-append front rest, length-append (249 ∷ args) filling, e.4, e.6) in
    let here : (k : ℕ) → byte_at bytes (f.ends + k) ≡ slice_index rest k = λ k. ap (λ (bs : List ℕ). slice_index bs (f.ends + k)) e.5 ∙ byte_behind front rest f.ends k e.4 in
    let first : byte_at bytes f.ends ≡ 249 = (let none : f.ends ≡ f.ends + 0 = omega arith in ap (λ (n : ℕ). byte_at bytes n) none ∙ here 0) in
    let id : byte_at bytes (f.ends + 5) ≡ 2 = here 5 ∙ get_or_append_left args filling 0 4 (omega (arith, e.6)) ∙ e.7 in
    let fills : (place : ℕ) → f.ends + 6 ≤ place → place < length bytes → byte_at bytes place ≡ 223 = λ place a b.
    let k = place - (f.ends + 6) in
    let at : place ≡ f.ends + (6 + k) = omega arith in
    ap (λ (n : ℕ). byte_at bytes n) at ∙ here (6 + k) ∙ byte_behind (249 ∷ args) filling 6 k (omega (arith, e.6)) ∙ e.9 k 0 (omega arith) in
    ((omega (arith, e.8), first, (λ x. omega (arith, id, x)), fills), id)

-- bytes have at most one trailer
pub one_trailer : (bytes : List ℕ) (a b : ℕ) → TrailerAt bytes a → TrailerAt bytes b → a ≡ b
one_trailer bytes a b h k =
    elim (cases_lt a b) [
      | inl x ↦ absurd (k.2 (h.3 (b + 5) (omega arith) (omega (arith, k.0))))
      | inr x ↦ elim (cases_lt b a) [ inl y ↦ absurd (h.2 (k.3 (a + 5) (omega arith) (omega (arith, h.0)))) | inr y ↦ omega arith ]
    ]

-- no command of a file passes its post_post
pub not_passed : OneSpelling → (bytes : List ℕ) (f : File) (place end : ℕ) (r : Reading) (c : Command) → IsFile bytes f → Reaches bytes place r → SpelledTo bytes place end c → place < f.ends → f.ends < end → ⊥
not_passed one bytes f place end r c h k s a b =
    let e = end_in bytes f h in
    let rest : List ℕ = 249 ∷ e.1 ++ e.2 in
    let width = range_len bytes 0 place (omega arith) (omega (arith, s.0, s.1)) in
    elim (follow one k.1 (before_end f) 0 (slice_range bytes 0 place) e.0 (drop place bytes) rest k.2 e.3 (sym (split_at bytes place) ∙ e.5)) [
      | inl x ↦ too_long one bytes place end c x.0 x.1 rest (0 + length (slice_range bytes 0 place)) s x.5 x.4 (omega (arith, width, ap length x.3, length-append (slice_range bytes 0 place) x.1, e.4))
      | inr x ↦ omega (arith, width, ap length x.4, length-append e.0 x.2, e.4)
    ]
  where
    too_long : OneSpelling → (bytes : List ℕ) (place end : ℕ) (c : Command) (es : List Placed) (zs v : List ℕ) (n : ℕ) → SpelledTo bytes place end c → Lexes n zs es → drop place bytes ≡ zs ++ v → (0 < length zs) × (length zs < end - place) → ⊥
    too_long one bytes place end c [] zs v n s x e m = omega (arith, m.0, ap length x)
    too_long one bytes place end c (d ∷ es) zs v n s x e m =
        let front = slice_range bytes place end in
        let both : x.1 ++ (x.2 ++ v) ≡ front ++ drop end bytes = sym (append_assoc x.1 x.2 v) ∙ ap (λ (ys : List ℕ). ys ++ v) (sym x.3) ∙ sym e ∙ drop_split bytes place end (omega (arith, s.0)) in
        let law = one x.1 front d.command c (x.2 ++ v) (drop end bytes) x.4 s.2 both in
        omega (arith, ap length law.0, range_len bytes place end (omega (arith, s.0)) s.1, ap length x.3, length-append x.1 x.2, m.1)

-- the last of two equal lists
last_same : (xs ys : List Placed) (a b : Placed) → xs ++ a ∷ [] ≡ ys ++ b ∷ [] → a ≡ b
last_same [] [] a b e = cc
last_same [] (y ∷ ys) a b e = absurd (let none : [] ≡ ys ++ b ∷ [] = cc in omega (arith, ap length none, length-append ys (b ∷ [])))
last_same (x ∷ xs) [] a b e = absurd (let none : xs ++ a ∷ [] ≡ [] = cc in omega (arith, ap length none, length-append xs (a ∷ [])))
last_same (x ∷ xs) (y ∷ ys) a b e = last_same xs ys a b (let rest : xs ++ a ∷ [] ≡ ys ++ b ∷ [] = cc in rest)

-- in a file post_post stands only at its end
ends_there : OneSpelling → (bytes : List ℕ) (f : File) (at end back id : ℕ) (r : Reading) (cs es : List Placed) (n : ℕ) (zs v : List ℕ) → n ≡ at → commands_of f ≡ cs ++ es → Leads r es (past_file f) → IsOpen r.part → Lexes n zs es → drop at bytes ≡ zs ++ v → SpelledTo bytes at end (PostPost back id) → at ≡ f.ends
ends_there one bytes f at end back id r cs [] n zs v p w l o x e s =
    let closed : r.part ≡ Past = ap (λ (q : Reading). q.part) l in absurd (subst (λ (q : Part). IsOpen q) closed o)
ends_there one bytes f at end back id r cs (d ∷ es) n zs v p w l o x e s =
    let front = slice_range bytes at end in
    let both : x.1 ++ (x.2 ++ v) ≡ front ++ drop end bytes = sym (append_assoc x.1 x.2 v) ∙ ap (λ (ys : List ℕ). ys ++ v) (sym x.3) ∙ sym e ∙ drop_split bytes at end (omega (arith, s.0)) in
    let law = one x.1 front d.command (PostPost back id) (x.2 ++ v) (drop end bytes) x.4 s.2 both in
    let past : Leads (after r d.place (PostPost back id)) es (past_file f) = subst (λ (k : Command). Leads (after r d.place k) es (past_file f)) law.1 l.1 in
    let none : es ≡ [] = nothing_past es (reading Past r.last r.post) (past_file f) refl past in
    let same = last_same cs (before_end f) d (placed f.ends (PostPost f.post 2)) (ap (λ (l : List Placed). cs ++ d ∷ l) (sym none) ∙ sym w ∙ commands_end f) in
    sym p ∙ sym x.0 ∙ ap (λ (k : Placed). k.place) same
  where
    nothing_past : (es : List Placed) (r t : Reading) → r.part ≡ Past → Leads r es t → es ≡ []
    nothing_past [] r t p l = refl
    nothing_past (d ∷ es) r t p l = absurd (subst (λ (q : Part). MayStand q d.command) p l.0.0)

pub end_there : OneSpelling → (bytes : List ℕ) (f : File) (at end back id : ℕ) (r : Reading) → IsFile bytes f → Reaches bytes at r → SpelledTo bytes at end (PostPost back id) → at ≡ f.ends
end_there one bytes f at end back id r h k s =
    let all = file_leads bytes f h in
    elim (follow one k.1 (commands_of f) 0 (slice_range bytes 0 at) h.4 (drop at bytes) h.5 k.2 h.9 (sym (split_at bytes at) ∙ h.6)) [
      | inl x ↦
          let more : Leads at_start (k.1 ++ x.0) (past_file f) = subst (λ (cs : List Placed). Leads at_start cs (past_file f)) x.2 all in
          ends_there one bytes f at end back id r k.1 x.0 (0 + length (slice_range bytes 0 at)) x.1 h.5 (omega (arith, range_len bytes 0 at (omega arith) (omega (arith, s.0, s.1)))) x.2 (leads_split k.1 x.0 at_start r (past_file f) more k.3) k.0 x.5 x.4 s
      | inr x ↦
          let more : Leads at_start (commands_of f ++ x.0 ∷ x.1) r = subst (λ (cs : List Placed). Leads at_start cs r) x.3 k.3 in
          let end = leads_split (commands_of f) (x.0 ∷ x.1) at_start (past_file f) r more all in
          absurd end.0.0
    ]

-- ---- what the code finds at the end

-- of a list that is long enough
longer : (xs ys : List ℕ) (n : ℕ) → n ≤ length xs → big_number n (xs ++ ys) ≡ big_number n xs
longer xs ys n h = big_from-append n xs ys h

pub trailer_found : (bytes : List ℕ) (whole back : ℕ) → 6 ≤ whole → 4 ≤ length bytes - whole → byte_at bytes (whole - 6) ≡ 249 → byte_at bytes (whole - 6 + 5) ≡ 2 → FillsFrom bytes whole → back ≡ big_number 4 (take (length bytes - (whole - 6 + 1)) (drop (whole - 6 + 1) bytes)) → TrailerAt bytes (whole - 6) × SpelledTo bytes (whole - 6) (whole - 6 + 6) (PostPost back 2)
unfolding unsigned
trailer_found bytes whole back a b first id fills reads =
    let at = whole - 6 in
    let args = take 5 (drop (at + 1) bytes) in
    let rest = drop (at + 1) bytes in
    let width : at + 6 - at ≡ suc 5 = omega arith in
    let few : 5 ≤ length rest = omega (arith, length-drop (at + 1) bytes) in
    let bytes_are : slice_range bytes at (at + 6) ≡ 249 ∷ args =
    ap (λ (n : ℕ). take n (drop at bytes)) width ∙ ap (λ (xs : List ℕ). take (suc 5) xs) (drop_more bytes at 0 (omega arith)) ∙ ap (λ (x : ℕ). x ∷ args) first in
    let len : length args ≡ 5 = length-take-le 5 rest few in
    let number : back ≡ unsigned 0 4 args =
    reads ∙ ap (big_number 4) (take_rest bytes (at + 1) ∙ sym (take-append-drop 5 rest)) ∙ longer args (drop 5 rest) 4 (omega (arith, len)) in
    let is_two : slice_index args 4 ≡ 2 = sym (get_or_append_left args (drop 5 rest) 0 4 (omega (arith, len))) ∙ ap (λ (xs : List ℕ). get_or xs 4 0) (take-append-drop 5 rest)
    ∙ get_or-drop (at + 1) bytes 4 0 ∙ ap (λ (n : ℕ). get_or bytes n 0) (let e : at + 1 + 4 ≡ at + 5 = omega arith in e) ∙ id in
    let end : at + 6 ≡ whole = omega arith in (
      (omega arith, first, (λ x. omega (arith, id, x)), λ place h k. fills.1 place (omega arith) k),
      (
        omega arith,
        omega arith,
        subst (λ (bs : List ℕ). Spell (PostPost back 2) bs) (sym bytes_are)
            (subst (λ (n : ℕ). Spell (PostPost n 2) (249 ∷ args)) (sym number) (subst (λ (n : ℕ). Spell (PostPost (unsigned 0 4 args) n) (249 ∷ args)) is_two (spell_end args len))),
      ),
    )
