-- Pages that are walked over and noted, one after another.
use Rattle.std.proofs.Common.{◌≡◌, ◌+◌, ℕ, List, [], ◌∷◌, ◌++◌, take, Option, Some, None, sym, ap, subst, ◌∙◌, inl, inr}
use Rattle.std.specs.Prelude.{◌⊎◌, slice_get}
use Rattle.positions.specs.Mark.{Mark}
use Rattle.positions.specs.declared.canvas.NoFault.{NoFault}
use Rattle.dvi_ops.specs.Command.{Definition}
use Rattle.dvi_doc.specs.Document.{PageOf}
use Rattle.font_set.specs.Fonts.{FontSet}
use Rattle.vf_expand.specs.Grid.{Grid}
use Rattle.vf_expand.specs.Causes.{IsMany}
use Rattle.vf_expand.specs.Marks.{Outcome, marks_alone}
use Rattle.vf_expand.specs.Page.{IsPageCause, page_count, page_marks, pages_count}
use Rattle.vf_expand.specs.Takes.{TookPage}
use Rattle.vf_expand.specs.declared.fault.WalkFault.{WalkFault}
use Rattle.vf_expand.specs.declared.fault.WalkFault.TheVariants as walk
use Rattle.vf_expand.proofs.Later.{took_defined}
use Rattle.sections.specs.Used as used
use Rattle.dv_words.specs.Jobs.{PrintJob}
use Rattle.dv_top.specs.Checking.{CheckFails, IsWalkReason, StopTells, alone}
use Rattle.dv_top.specs.Noted.{HasNoted, Noted, PagesGoOn, Takes}
use Rattle.dv_top.specs.Printing.{marks_of_each, marks_or_none}
use Rattle.dv_top.specs.declared.outcome.Outcome.{Outcome as Ending}
use Rattle.dv_top.proofs.CausesAlone.{alone_cause, alone_many}
use Rattle.dv_top.proofs.Checked.{each_append, walk_reason}
use Rattle.dv_top.proofs.Lists.{take_more}

-- what a page uses was taken with its marks
pub took_used : (a b : Noted) (o : Outcome) → TookPage Takes a b o → TookPage used.Takes a.used b.used o
took_used a b None h = absurd h
took_used a b (Some r) h = h.used

module _ (g : Grid) (set : FontSet) (ds : List Definition) where
  pub stop_reason : {F : Type 0} (pages : List PageOf) (k : ℕ) (p : PageOf) (steps : ℕ) (fault : WalkFault F) (o : Ending) → slice_get pages k ≡ Some p → steps ≡ pages_count set ds (take k pages)
      → StopTells set fault o → IsPageCause g set ds p fault → IsMany (steps + page_count set ds p.commands) fault → CheckFails g set ds pages o
  stop_reason pages k p steps fault o at same (inl e) cause many = inl e
  stop_reason pages k p steps fault o at same (inr (f, is, tells)) cause many =
      inr (walk_reason g set ds pages k p steps f o at same tells (alone_cause fault f is g set ds p cause) (alone_many fault f is (steps + page_count set ds p.commands) many))

-- one page further
pub noted_next : PagesGoOn → (job : PrintJob) (begun new : Noted) (g : Grid) (set : FontSet) (ds : List Definition) (pages : List PageOf) (k : ℕ) (p : PageOf) → slice_get pages k ≡ Some p
    → HasNoted job begun (marks_of_each g set ds (take k pages) ++ [] ∷ []) → TookPage Takes begun new (page_marks g set ds p.commands) → HasNoted job new (marks_of_each g set ds (take (k + 1) pages))
noted_next law job begun new g set ds pages k p at noted took =
    let r = took_defined Takes begun new (page_marks g set ds p.commands) took in
    let here : Takes begun new r.0.0 = subst (TookPage Takes begun new) r.1 took in
    let all : marks_of_each g set ds (take (k + 1) pages) ≡ marks_of_each g set ds (take k pages) ++ r.0.0 ∷ [] =
    ap (marks_of_each g set ds) (take_more pages k p at) ∙ each_append g set ds (take k pages) (p ∷ [])
    ∙ ap (λ (o : Outcome). marks_of_each g set ds (take k pages) ++ marks_or_none (marks_alone o) ∷ []) r.1 in
    subst (HasNoted job new) (sym all) (law job begun new (marks_of_each g set ds (take k pages)) [] r.0.0 here noted)

-- the same by other names
pub noted_here : (job : PrintJob) (n : Noted) (set : FontSet) (g h : Grid) (ds es : List Definition) (pages : List PageOf) → g ≡ h → ds ≡ es → HasNoted job n (marks_of_each g set ds pages) → HasNoted job n (marks_of_each h set es pages)
noted_here job n set g h ds es pages e f noted = subst (λ (x : Grid). HasNoted job n (marks_of_each x set es pages)) e (subst (λ (x : List Definition). HasNoted job n (marks_of_each g set x pages)) f noted)
