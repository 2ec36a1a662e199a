-- Reading from the start, one command further; and how a file goes on from there.
use Rattle.std.proofs.Common.{◌≡◌, ◌+◌, ℕ, inl, inr, List, [], ◌∷◌, ◌++◌, length, drop, refl, sym, ap, subst, ◌∙◌, arith, slice_range}
use Rattle.std.proofs.lemmas.List.{append_assoc}
use Rattle.std.proofs.lemmas.List.Folds.{drop_split}
use Rattle.dvi_ops.specs.Command.{Command}
use Rattle.dvi_ops.specs.Spelling.{Spell}
use Rattle.dvi_ops.specs.Laws.{OneSpelling}
use Rattle.dvi_ops.specs.View.{NoSpelling}
use Rattle.dvi_ops.specs.Placed.{Placed, Lexes}
use Rattle.dvi_doc.specs.Document.{placed, File, commands_of}
use Rattle.dvi_doc.specs.Grammar.{IsFile}
use Rattle.dvi_doc.specs.Order.{Reading, Part, at_start, Fits, after, Leads, IsOpen, Reaches, SpelledTo, Meets}
use Rattle.dvi_doc.specs.Order.Part.{Past}
use Rattle.dvi_doc.proofs.Lexing.{lex_more, follow}
use Rattle.dvi_doc.proofs.Leading.{leads_append, leads_split, file_leads, past_file}

-- nothing was read before the start
pub reach_start : (bytes : List ℕ) → Reaches bytes 0 at_start
reach_start bytes = (tt, [], refl, refl)

pub reach_more : (bytes : List ℕ) (at end : ℕ) (r : Reading) (c : Command) → Reaches bytes at r → SpelledTo bytes at end c → Fits r c → IsOpen (after r at c).part → Reaches bytes end (after r at c)
reach_more bytes at end r c h s f unclosed =
    (unclosed, h.1 ++ placed at c ∷ [], lex_more bytes 0 at end c h.1 (omega arith) s h.2, leads_append h.1 (placed at c ∷ []) at_start r (after r at c) h.3 (f, refl))

pub split_at : (bytes : List ℕ) (at : ℕ) → bytes ≡ slice_range bytes 0 at ++ drop at bytes
split_at bytes at = drop_split bytes 0 at (omega arith)

-- a file has a right command wherever reading comes to
abbrev pub NextIn : List ℕ → ℕ → Reading → Type 0
NextIn bytes at r = (c : Command) × (front : List ℕ) × (rest : List ℕ) × (drop at bytes ≡ front ++ rest) × Spell c front × Fits r c

next_of : (es : List Placed) (r t : Reading) (n at : ℕ) (bytes zs v : List ℕ) → Leads r es t → t.part ≡ Past → IsOpen r.part → Lexes n zs es → drop at bytes ≡ zs ++ v → NextIn bytes at r
next_of [] r t n at bytes zs v l p o x e =
    let closed : r.part ≡ Past = ap (λ (q : Reading). q.part) l ∙ p in absurd (subst (λ (q : Part). IsOpen q) closed o)
next_of (d ∷ es) r t n at bytes zs v l p o x e =
    (d.command, x.1, x.2 ++ v, e ∙ ap (λ (ys : List ℕ). ys ++ v) x.3 ∙ append_assoc x.1 x.2 v, x.4, l.0)

pub goes_on : OneSpelling → (bytes : List ℕ) (f : File) (at : ℕ) (r : Reading) → IsFile bytes f → Reaches bytes at r → NextIn bytes at r
goes_on one bytes f at r h k =
    let all = file_leads bytes f h in
    elim (follow one k.1 (commands_of f) 0 (slice_range bytes 0 at) h.4 (drop at bytes) h.5 k.2 h.9 (sym (split_at bytes at) ∙ h.6)) [
      | inl x ↦
          let more : Leads at_start (k.1 ++ x.0) (past_file f) = subst (λ (cs : List Placed). Leads at_start cs (past_file f)) x.2 all in
          next_of x.0 r (past_file f) (0 + length (slice_range bytes 0 at)) at bytes x.1 h.5 (leads_split k.1 x.0 at_start r (past_file f) more k.3) refl k.0 x.5 x.4
      | inr x ↦
          let more : Leads at_start (commands_of f ++ x.0 ∷ x.1) r = subst (λ (cs : List Placed). Leads at_start cs r) x.3 k.3 in
          let end = leads_split (commands_of f) (x.0 ∷ x.1) at_start (past_file f) r more all in
          absurd end.0.0
    ]

-- so something is spelled there
pub spells_on : OneSpelling → (bytes : List ℕ) (f : File) (at : ℕ) (r : Reading) → IsFile bytes f → Reaches bytes at r → NoSpelling bytes at → ⊥
spells_on one bytes f at r h k n = let x = goes_on one bytes f at r h k in n x.0 x.1 x.2 x.3 x.4

-- and what is spelled there is right
pub fits_on : OneSpelling → (bytes : List ℕ) (f : File) (at : ℕ) (r : Reading) (c : Command) → IsFile bytes f → Meets bytes at r c → Fits r c
fits_on one bytes f at r c h m =
    let reached : Reaches bytes at r = m.0 in
    let end = m.1 in
    let s = m.2 in
    let x = goes_on one bytes f at r h reached in
    let both : x.1 ++ x.2 ≡ slice_range bytes at end ++ drop end bytes = sym x.3 ∙ drop_split bytes at end (omega (arith, s.0)) in
    let law = one x.1 (slice_range bytes at end) x.0 c x.2 (drop end bytes) x.4 s.2 both in
    subst (λ (d : Command). Fits r d) law.1 x.5
