-- Commands one after another: joined, split, and read in two ways.
use Rattle.std.proofs.Common.{◌≡◌, ◌≤◌, ◌+◌, ◌-◌, ℕ, ◌⊎◌, inl, inr, List, [], ◌∷◌, ◌++◌, length, take, drop, refl, sym, ap, subst, ◌∙◌, arith, slice_range, length-append}
use Rattle.std.proofs.lemmas.List.{append_assoc, append-nil, drop_at, length-take-le, length-drop}
use Rattle.std.proofs.lemmas.List.Folds.{drop_split}
use Rattle.std.proofs.Math.Seq.{take-append-add}
use Rattle.dvi_ops.specs.Command.{Command}
use Rattle.dvi_ops.specs.Spelling.{Spell}
use Rattle.dvi_ops.specs.Laws.{OneSpelling}
use Rattle.dvi_ops.specs.Placed.{Placed, Lexes}
use Rattle.dvi_doc.specs.Document.{placed}
use Rattle.dvi_doc.specs.Order.{SpelledTo}

pub range_len : (xs : List ℕ) (a b : ℕ) → a ≤ b → b ≤ length xs → length (slice_range xs a b) ≡ b - a
range_len xs a b h k = length-take-le (b - a) (drop a xs) (omega (arith, length-drop a xs))

pub range_join : (xs : List ℕ) (a b c : ℕ) → a ≤ b → b ≤ c → c ≤ length xs → slice_range xs a c ≡ slice_range xs a b ++ slice_range xs b c
range_join xs a b c h k l =
    let front = slice_range xs a b in
    let width : c - a ≡ length front + (c - b) = omega (arith, range_len xs a b h (omega arith)) in
    ap (λ (n : ℕ). take n (drop a xs)) width ∙ ap (take (length front + (c - b))) (drop_split xs a b h) ∙ take-append-add front (drop b xs) (c - b)

-- two runs of commands, one behind the other
pub lex_append : (cs ds : List Placed) (at : ℕ) (xs ys : List ℕ) → Lexes at xs cs → Lexes (at + length xs) ys ds → Lexes at (xs ++ ys) (cs ++ ds)
lex_append [] ds at xs ys h k =
    let start : at + length xs ≡ at = omega (arith, ap length h) in
    let whole : xs ++ ys ≡ ys = ap (λ (zs : List ℕ). zs ++ ys) h in
    subst (λ (zs : List ℕ). Lexes at zs ds) (sym whole) (subst (λ (n : ℕ). Lexes n ys ds) start k)
lex_append (c ∷ cs) ds at xs ys h k =
    let start : at + length xs ≡ at + length h.1 + length h.2 = omega (arith, ap length h.3, length-append h.1 h.2) in
    (h.0, h.1, h.2 ++ ys, ap (λ (zs : List ℕ). zs ++ ys) h.3 ∙ append_assoc h.1 h.2 ys, h.4, lex_append cs ds (at + length h.1) h.2 ys h.5 (subst (λ (n : ℕ). Lexes n ys ds) start k))

pub lex_one : (at : ℕ) (c : Command) (front : List ℕ) → Spell c front → Lexes at front (placed at c ∷ [])
lex_one at c front s = (refl, front, [], sym (append-nil front), s, refl)

pub lex_join : (bytes : List ℕ) (a b c : ℕ) (cs ds : List Placed) → a ≤ b → b ≤ c → c ≤ length bytes → Lexes a (slice_range bytes a b) cs → Lexes b (slice_range bytes b c) ds → Lexes a (slice_range bytes a c) (cs ++ ds)
lex_join bytes a b c cs ds h k l x y =
    let start : b ≡ a + length (slice_range bytes a b) = omega (arith, range_len bytes a b h (omega arith)) in
    subst (λ (zs : List ℕ). Lexes a zs (cs ++ ds)) (sym (range_join bytes a b c h k l))
    (lex_append cs ds a (slice_range bytes a b) (slice_range bytes b c) x (subst (λ (n : ℕ). Lexes n (slice_range bytes b c) ds) start y))

-- one command more
pub lex_more : (bytes : List ℕ) (start at end : ℕ) (c : Command) (cs : List Placed) → start ≤ at → SpelledTo bytes at end c → Lexes start (slice_range bytes start at) cs → Lexes start (slice_range bytes start end) (cs ++ placed at c ∷ [])
lex_more bytes start at end c cs h s x = lex_join bytes start at end cs (placed at c ∷ []) h (omega (arith, s.0)) s.1 x (lex_one at c (slice_range bytes at end) s.2)

-- a run of commands falls into two where its list does
pub lex_split : (cs ds : List Placed) (at : ℕ) (xs : List ℕ) → Lexes at xs (cs ++ ds) → (ys : List ℕ) × (zs : List ℕ) × (xs ≡ ys ++ zs) × Lexes at ys cs × Lexes (at + length ys) zs ds
lex_split [] ds at xs h =
    let start : at ≡ at + length (let none : List ℕ = [] in none) = omega arith in
    ([], xs, refl, refl, subst (λ (n : ℕ). Lexes n xs ds) start h)
lex_split (c ∷ cs) ds at xs h =
    let r = lex_split cs ds (at + length h.1) h.2 h.5 in
    let start : at + length h.1 + length r.0 ≡ at + length (h.1 ++ r.0) = omega (arith, length-append h.1 r.0) in
    (h.1 ++ r.0, r.1, h.3 ∙ ap (λ (zs : List ℕ). h.1 ++ zs) r.2 ∙ sym (append_assoc h.1 r.0 r.1), (h.0, h.1, r.0, refl, h.4, r.3), subst (λ (n : ℕ). Lexes n r.1 ds) start r.4)

pub same_placed : (c d : Placed) (at : ℕ) → c.place ≡ at → d.place ≡ at → c.command ≡ d.command → c ≡ d
same_placed c d at a b e = ap (λ (k : ℕ). placed k c.command) (a ∙ sym b) ∙ ap (λ (x : Command). placed d.place x) e

-- What two runs of commands at the front of the same bytes have to do with one another: the longer goes on where the shorter ends.
abbrev pub GoesOn : List Placed → List Placed → ℕ → List ℕ → List ℕ → List ℕ → List ℕ → Type 0
GoesOn cs ds at xs ys u v =
    (es : List Placed) × (zs : List ℕ) × (ds ≡ cs ++ es) × (ys ≡ xs ++ zs) × (u ≡ zs ++ v) × Lexes (at + length xs) zs es

abbrev pub GoesPast : List Placed → List Placed → List ℕ → List ℕ → Type 0
GoesPast cs ds xs ys = (e : Placed) × (es : List Placed) × (zs : List ℕ) × (cs ≡ ds ++ e ∷ es) × (xs ≡ ys ++ zs)

pub follow : OneSpelling → (cs ds : List Placed) (at : ℕ) (xs ys u v : List ℕ) → Lexes at xs cs → Lexes at ys ds → xs ++ u ≡ ys ++ v → GoesOn cs ds at xs ys u v ⊎ GoesPast cs ds xs ys
follow one [] ds at xs ys u v h k e =
    let start : at ≡ at + length xs = omega (arith, ap length h) in
    inl (ds, ys, refl, sym (ap (λ (zs : List ℕ). zs ++ ys) h), sym (ap (λ (zs : List ℕ). zs ++ u) h) ∙ e, subst (λ (n : ℕ). Lexes n ys ds) start k)
follow one (c ∷ cs) [] at xs ys u v h k e = inr (c, cs, xs, refl, sym (ap (λ (zs : List ℕ). zs ++ xs) k))
follow one (c ∷ cs) (d ∷ ds) at xs ys u v h k e =
    let both : h.1 ++ (h.2 ++ u) ≡ k.1 ++ (k.2 ++ v) = sym (append_assoc h.1 h.2 u) ∙ ap (λ (zs : List ℕ). zs ++ u) (sym h.3) ∙ e ∙ ap (λ (zs : List ℕ). zs ++ v) k.3 ∙ append_assoc k.1 k.2 v in
    let law = one h.1 k.1 c.command d.command (h.2 ++ u) (k.2 ++ v) h.4 k.4 both in
    let rest : h.2 ++ u ≡ k.2 ++ v = sym (drop_at h.1 (h.2 ++ u) (length h.1) refl) ∙ ap (drop (length h.1)) both ∙ drop_at k.1 (k.2 ++ v) (length h.1) (ap length (sym law.0)) in
    let same : c ≡ d = same_placed c d at h.0 k.0 law.1 in
    let start : at + length k.1 ≡ at + length h.1 = omega (arith, ap length law.0) in
    elim (follow one cs ds (at + length h.1) h.2 k.2 u v h.5 (subst (λ (n : ℕ). Lexes n k.2 ds) start k.5) rest) [
      | inl r ↦
          let next : at + length h.1 + length h.2 ≡ at + length xs = omega (arith, ap length h.3, length-append h.1 h.2) in
          inl (
            r.0,
            r.1,
            ap (λ (x : Placed). x ∷ ds) (sym same) ∙ ap (λ (l : List Placed). c ∷ l) r.2,
            k.3 ∙ ap (λ (f : List ℕ). f ++ k.2) (sym law.0) ∙ ap (λ (l : List ℕ). h.1 ++ l) r.3 ∙ sym (append_assoc h.1 h.2 r.1) ∙ ap (λ (l : List ℕ). l ++ r.1) (sym h.3),
            r.4,
            subst (λ (n : ℕ). Lexes n r.1 r.0) next r.5,
          )
      | inr r ↦
          inr (
            r.0,
            r.1,
            r.2,
            ap (λ (x : Placed). x ∷ cs) same ∙ ap (λ (l : List Placed). d ∷ l) r.3,
            h.3 ∙ ap (λ (f : List ℕ). f ++ h.2) law.0 ∙ ap (λ (l : List ℕ). k.1 ++ l) r.4 ∙ sym (append_assoc k.1 k.2 r.2) ∙ ap (λ (l : List ℕ). l ++ r.2) (sym k.3),
          )
    ]
