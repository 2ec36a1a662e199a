-- Marks that were taken, each of which may come.
use Rattle.std.proofs.Common.{ℤ, List, [], ◌∷◌, ◌++◌, Option, Some, None}
use Rattle.positions.specs.Mark.{Glyph, Mark}
use Rattle.font_set.specs.Fonts.{FontSet}
use Rattle.vf_expand.specs.Grid as grid
use Rattle.vf_expand.specs.Grid.{Grid}
use Rattle.vf_expand.specs.Marks.{Outcome}
use Rattle.vf_expand.specs.Takes.{Nothing, AllCome, Took, Follows, TookPage, TookChar}
use Rattle.vf_expand.specs.Painted.{HasGlyph, AreComing}
use Rattle.vf_expand.proofs.Stopping.{may_more}

all_both : (paints : Glyph → Type 0) (xs ys : List Mark) → AllCome paints xs → AllCome paints ys → AllCome paints (xs ++ ys)
all_both paints [] ys h k = k
all_both paints (x ∷ xs) ys h k = (h.0, all_both paints xs ys h.1 k)

all_more : (few many : Glyph → Type 0) → ((glyph : Glyph) → few glyph → many glyph) → (ms : List Mark) → AllCome few ms → AllCome many ms
all_more few many w [] h = tt
all_more few many w (m ∷ ms) h = (may_more few many w m h.0, all_more few many w ms h.1)

pub took_both : {C : Type 0} (paints : Glyph → Type 0) (takes : C → C → List Mark → Type 0) → ((a b c : C) (xs ys : List Mark) → takes a b xs → takes b c ys → takes a c (xs ++ ys)) → (a b c : C) (xs ys : List Mark) → Took paints takes a b xs → Took paints takes b c ys → Took paints takes a c (xs ++ ys)
took_both paints takes chains a b c xs ys h k = (chains a b c xs ys h.0 k.0, all_both paints xs ys h.1 k.1)

pub char_alone : {C : Type 0} (paints : Glyph → Type 0) (takes : C → C → List Mark → Type 0) (a b : C) (w : ℤ) (o : Option (List Mark × ℤ)) → TookChar (Took paints takes) a b w o → TookChar takes a b w o
char_alone paints takes a b w None h = absurd h
char_alone paints takes a b w (Some r) h = (h.0.0, h.1)

pub page_alone : {C : Type 0} (g : Grid) (set : FontSet) (takes : C → C → List Mark → Type 0) (a b : C) (o : Outcome) → TookPage (Took (HasGlyph g set) takes) a b o → TookPage takes a b o
page_alone g set takes a b None h = absurd h
page_alone g set takes a b (Some r) h = h.0

pub page_comes : {C : Type 0} (g : Grid) (set : FontSet) (takes : C → C → List Mark → Type 0) (a b : C) (o : Outcome) → TookPage (Took (HasGlyph g set) takes) a b o → AreComing g set o
page_comes g set takes a b None h = absurd h
page_comes g set takes a b (Some r) h = h.1

-- a command that paints no character
pub follows_more : {C : Type 0} (paints : Glyph → Type 0) (takes : C → C → List Mark → Type 0) (a b : C) (s : grid.State) (o : Outcome) → Follows (Took Nothing takes) a b s o → Follows (Took paints takes) a b s o
follows_more paints takes a b s None h = absurd h
follows_more paints takes a b s (Some r) h = ((h.0.0, all_more Nothing paints (λ glyph n. absurd n) r.0 h.0.1), h.1)
