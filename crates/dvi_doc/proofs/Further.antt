-- One command further in each part of a file, and what is wrong where it doesn't go on.
use Rattle.std.proofs.Common.{◌⊎◌, inr, ◌≡◌, ◌≤◌, ◌<◌, ◌+◌, ◌-◌, ℕ, ℤ, pos, inl, List, [], ◌∷◌, ◌++◌, take, drop, refl, sym, ap, subst, ◌∙◌, arith, slice_range}
use Rattle.std.proofs.lemmas.List.{append_assoc, append-nil}
use Rattle.dvi_ops.specs.Command.{Command, Definition, Preamble, Postamble}
use Rattle.dvi_ops.specs.Command.Command.{Bop, Eop, Pre, Post, PostPost, FntDef}
use Rattle.dvi_ops.specs.View.{view}
use Rattle.dvi_ops.specs.declared.cmd.Cmd.{Cmd}
use Rattle.dvi_ops.specs.declared.cmd.Cmd.TheVariants as cmd
use Rattle.dvi_ops.specs.declared.cmd.Def.{Def}
use Rattle.dvi_ops.specs.declared.cmd.Head.{Head}
use Rattle.dvi_ops.specs.declared.cmd.Tail.{Tail}
use Rattle.dvi_ops.specs.Placed.{Placed, Lexes}
use Rattle.dvi_doc.specs.Document.{placed, put_definition, definitions_of}
use Rattle.dvi_doc.specs.Grammar.{IsFiller, IsInner, AllFillers, AllInner}
use Rattle.dvi_doc.specs.Order.{Meets, NamesLast, Reading, reading, Reaches, SpelledTo, MayStand, IsOutside, IsPaged, IsEnding, IsOpen}
use Rattle.dvi_doc.specs.Order.Part.{Between, Inside, Behind}
use Rattle.dvi_doc.specs.declared.fault.DocFault.{DocFault}
use Rattle.dvi_doc.specs.declared.fault.DocFault.TheVariants as fault
use Rattle.dvi_doc.specs.PartFaults.{BackFault}
use Rattle.dvi_doc.specs.Faults.{FaultIn, TrailerAt, IsBadOrder}
use Rattle.dvi_doc.specs.Standing.{HoldsEnding}
use Rattle.dvi_doc.specs.Steps.{EndsAt}
use Rattle.dvi_doc.proofs.Lexing.{lex_more}
use Rattle.dvi_doc.proofs.Leading.{filler_between, filler_behind, inner_inside}
use Rattle.dvi_doc.proofs.Reached.{reach_more}

-- ---- reading goes on

pub reach_inner : (bytes : List ℕ) (at end : ℕ) (last : ℤ) (c : Command) → SpelledTo bytes at end c → IsInner c → Reaches bytes at (reading Inside last 0) → Reaches bytes end (reading Inside last 0)
reach_inner bytes at end last c s i h =
    let f = inner_inside last at c i in
    subst (λ (r : Reading). Reaches bytes end r) f.1 (reach_more bytes at end (reading Inside last 0) c h s f.0 (subst (λ (r : Reading). IsOpen r.part) (sym f.1) tt))

pub reach_between : (bytes : List ℕ) (at end : ℕ) (last : ℤ) (c : Command) → SpelledTo bytes at end c → IsFiller c → Reaches bytes at (reading Between last 0) → Reaches bytes end (reading Between last 0)
reach_between bytes at end last c s i h =
    let f = filler_between last at c i in
    subst (λ (r : Reading). Reaches bytes end r) f.1 (reach_more bytes at end (reading Between last 0) c h s f.0 (subst (λ (r : Reading). IsOpen r.part) (sym f.1) tt))

pub reach_behind : (bytes : List ℕ) (at end : ℕ) (last : ℤ) (post : ℕ) (c : Command) → SpelledTo bytes at end c → IsFiller c → Reaches bytes at (reading Behind last post) → Reaches bytes end (reading Behind last post)
reach_behind bytes at end last post c s i h =
    let f = filler_behind last post at c i in
    subst (λ (r : Reading). Reaches bytes end r) f.1 (reach_more bytes at end (reading Behind last post) c h s f.0 (subst (λ (r : Reading). IsOpen r.part) (sym f.1) tt))

pub reach_eop : (bytes : List ℕ) (at end : ℕ) (last : ℤ) → SpelledTo bytes at end Eop → Reaches bytes at (reading Inside last 0) → Reaches bytes end (reading Between last 0)
reach_eop bytes at end last s h = reach_more bytes at end (reading Inside last 0) Eop h s (tt, tt, tt, tt) tt

pub reach_bop : (bytes : List ℕ) (at end : ℕ) (last back : ℤ) (counts : List ℤ) → SpelledTo bytes at end (Bop counts back) → back ≡ last → Reaches bytes at (reading Between last 0) → Reaches bytes end (reading Inside (pos at) 0)
reach_bop bytes at end last back counts s e h = reach_more bytes at end (reading Between last 0) (Bop counts back) h s (tt, e, tt, tt) tt

pub reach_post : (bytes : List ℕ) (at end : ℕ) (last : ℤ) (tail : Postamble) → SpelledTo bytes at end (Post tail) → tail.back ≡ last → Reaches bytes at (reading Between last 0) → Reaches bytes end (reading Behind last at)
reach_post bytes at end last tail s e h = reach_more bytes at end (reading Between last 0) (Post tail) h s (tt, e, tt, tt) tt

-- ---- what may not stand somewhere

pub not_paged : (c : Cmd) → (c ≡ cmd.Eop → ⊥) → (IsInner (view c) → ⊥) → IsPaged (view c) → ⊥
not_paged cmd.Eop n i h = n refl
not_paged _ n i h = i h

pub not_outside : (c : Cmd) → (c ≡ cmd.Nop → ⊥) → ((counts : List ℤ) (back : ℤ) → c ≡ cmd.Bop counts back → ⊥) → ((d : Def) → c ≡ cmd.FntDef d → ⊥) → ((t : Tail) → c ≡ cmd.Post t → ⊥) → IsOutside (view c) → ⊥
not_outside cmd.Nop n b d p h = n refl
not_outside (cmd.Bop counts back) n b d p h = b counts back refl
not_outside (cmd.FntDef f) n b d p h = d f refl
not_outside (cmd.Post t) n b d p h = p t refl
not_outside _ n b d p h = h

pub not_filler : (c : Cmd) → (c ≡ cmd.Nop → ⊥) → ((d : Def) → c ≡ cmd.FntDef d → ⊥) → IsFiller (view c) → ⊥
not_filler cmd.Nop n d h = n refl
not_filler (cmd.FntDef f) n d h = d f refl
not_filler _ n d h = h

-- no filler: post_post, or what may not stand behind post
ends_or : (c : Cmd) → (IsFiller (view c) → ⊥) → ((back : ℕ) × (id : ℕ) × (view c ≡ PostPost back id)) ⊎ (IsEnding (view c) → ⊥)
ends_or (cmd.PostPost back id) n = inl (back, id, refl)
ends_or _ n = inr n

pub not_ending : (bytes : List ℕ) (at end ends : ℕ) (last : ℤ) (post : ℕ) (c : Cmd) → (IsFiller (view c) → ⊥) → at < ends → TrailerAt bytes ends → Reaches bytes at (reading Behind last post) → SpelledTo bytes at end (view c) → IsBadOrder bytes at
not_ending bytes at end ends last post c n b t h s =
    elim (ends_or c n) [
      | inl x ↦ inr (inl (reading Behind last post, x.0, x.1, (h, end, subst (λ (k : Command). SpelledTo bytes at end k) x.2 s), ends, t, b))
      | inr x ↦ inl (reading Behind last post, view c, (h, end, s), x)
    ]

-- bop or post names another bop than the last one
pub back_fault : (bytes : List ℕ) (at end : ℕ) (last back : ℤ) (c : Command) (e : DocFault) → IsOutside c → (NamesLast last c → back ≡ last) → Reaches bytes at (reading Between last 0) → SpelledTo bytes at end c → BackFault at back last e → FaultIn bytes e
back_fault bytes at end last back c (fault.BadBackPointer place) o n h s f =
    (reading Between last 0, c, subst (λ (k : ℕ). Meets bytes k (reading Between last 0) c) (sym f.0) (h, end, s), o, λ x. f.1 (n x))
back_fault bytes at end last back c _ o n h s f = absurd f

-- the trailer's post_post stands where it may not
pub bad_end : (bytes : List ℕ) (at ends : ℕ) (r : Reading) → EndsAt bytes ends → at ≡ ends → Reaches bytes at r → ((back : ℕ) → MayStand r.part (PostPost back 2) → ⊥) → IsBadOrder bytes ends
bad_end bytes at ends r e is h n = inl (r, PostPost e.1 2, (subst (λ (k : ℕ). Reaches bytes k r) is h, ends + 6, e.2), λ x. n e.1 x)

-- ---- definitions

pub put_append : (c : Command) (ds es : List Definition) → put_definition c (ds ++ es) ≡ put_definition c ds ++ es
put_append (FntDef d) ds es = refl
put_append _ ds es = refl

pub definitions_append : (cs ds : List Placed) → definitions_of (cs ++ ds) ≡ definitions_of cs ++ definitions_of ds
definitions_append [] ds = refl
definitions_append (c ∷ cs) ds = ap (put_definition c.command) (definitions_append cs ds) ∙ put_append c.command (definitions_of cs) (definitions_of ds)

pub no_definition : (c : Cmd) → ((d : Def) → c ≡ cmd.FntDef d → ⊥) → put_definition (view c) [] ≡ []
no_definition (cmd.FntDef d) n = absurd (n d refl)
no_definition _ n = refl

pub inner_append : (cs : List Placed) (d : Placed) → AllInner cs → IsInner d.command → AllInner (cs ++ d ∷ [])
inner_append [] d h i = (i, tt)
inner_append (c ∷ cs) d h i = (h.0, inner_append cs d h.1 i)

pub fillers_append : (cs : List Placed) (d : Placed) → AllFillers cs → IsFiller d.command → AllFillers (cs ++ d ∷ [])
fillers_append [] d h i = (i, tt)
fillers_append (c ∷ cs) d h i = (h.0, fillers_append cs d h.1 i)

-- ---- the commands of a page so far

abbrev pub HoldsPage : List ℕ → ℕ → ℕ → List Definition → List Definition → Type 0
HoldsPage bytes start at old new =
    (cs : List Placed) × AllInner cs × Lexes start (slice_range bytes start at) cs × (new ≡ old ++ definitions_of cs)

pub page_more : (bytes : List ℕ) (start at end : ℕ) (c : Command) (old new newer : List Definition) → start ≤ at → SpelledTo bytes at end c → IsInner c → newer ≡ new ++ put_definition c [] → HoldsPage bytes start at old new → HoldsPage bytes start end old newer
page_more bytes start at end c old new newer le s i e h = (
  h.0 ++ placed at c ∷ [],
  inner_append h.0 (placed at c) h.1 i,
  lex_more bytes start at end c h.0 le s h.2,
  e ∙ ap (λ (l : List Definition). l ++ put_definition c []) h.3 ∙ append_assoc old (definitions_of h.0) (put_definition c [])
      ∙ ap (λ (l : List Definition). old ++ l) (sym (definitions_append h.0 (placed at c ∷ []))),
)

pub page_none : (bytes : List ℕ) (start : ℕ) (old : List Definition) → HoldsPage bytes start start old old
page_none bytes start old =
    let none : start - start ≡ 0 = omega arith in
    ([], tt, ap (λ (n : ℕ). take n (drop start bytes)) none, sym (append-nil old))

-- ---- the commands behind post so far

pub ending_more : (bytes : List ℕ) (start at end : ℕ) (c : Command) (old new : List Definition) → start ≤ at → SpelledTo bytes at end c → IsFiller c → new ≡ old ++ put_definition c [] → HoldsEnding bytes start at old → HoldsEnding bytes start end new
ending_more bytes start at end c old new le s i e h = (
  h.0 ++ placed at c ∷ [],
  fillers_append h.0 (placed at c) h.1 i,
  lex_more bytes start at end c h.0 le s h.2,
  definitions_append h.0 (placed at c ∷ []) ∙ ap (λ (l : List Definition). l ++ put_definition c []) h.3 ∙ sym e,
)

pub not_pre : (c : Cmd) → ((h : Head) → c ≡ cmd.Pre h → ⊥) → (head : Preamble) → view c ≡ Pre head → ⊥
not_pre (cmd.Pre h) n head e = n h refl
not_pre _ n head e = cc
