-- What a sample that isn't finished leaves.
use Rattle.std.proofs.Common.{◌≡◌, ℕ, List, [], Option, Some, None, refl, sym, subst, inl, inr}
use Rattle.std.specs.Prelude.{codes}
use Rattle.dv_base.specs.Shelf.{Told}
use Rattle.dv_base.specs.Tray.{Seen}
use Rattle.dv_words.specs.Jobs.{PrintJob}
use Rattle.dv_top.specs.Outputs.{LeavesLines, LeavesOutput}
use Rattle.dv_top.specs.Printed.{End, IsUndone, Leaves, LeavesUndone, Means, Tells}
use Rattle.dv_top.specs.Sampled.{Wanting, sample_print}
use Rattle.dv_top.specs.declared.outcome.Outcome.{Outcome}
use Rattle.dv_top.specs.declared.outcome.Outcome.TheVariants as outcome

-- by its end: nothing was begun, and nothing said, since the job is quiet
by_end :
    (told later : Told) (old new : Seen) (o : Outcome) (end : End sample_print told) (written : Option (List ℕ)) (said : List (List ℕ))
    → (o ≡ outcome.WriteFault → ⊥) → IsUndone end → Tells sample_print told end o → Means sample_print told later end written said
    → LeavesOutput (codes "sample.ps") written old new → LeavesLines said old new → Wanting old new
by_end told later old new o End.Finished written said other undone tells means left lines = absurd undone
by_end told later old new o End.Unwritten written said other undone tells means left lines = absurd (other tells)
by_end told later old new o End.Wanting written said other undone tells (none, inl silent) left lines =
    record {
      left = subst (λ (w : Option (List ℕ)). LeavesOutput (codes "sample.ps") w old new) none left;
      silent = subst (λ (l : List (List ℕ)). LeavesLines l old new) silent lines;
    }
by_end told later old new o End.Wanting written said other undone tells (none, inr (p, warned)) left lines =
    record {
      left = subst (λ (w : Option (List ℕ)). LeavesOutput (codes "sample.ps") w old new) none left;
      silent = subst (λ (l : List (List ℕ)). LeavesLines l old new) warned lines;
    }
by_end told later old new o (End.Refused reason) written said other undone tells (none, silent, holds) left lines =
    record {
      left = subst (λ (w : Option (List ℕ)). LeavesOutput (codes "sample.ps") w old new) none left;
      silent = subst (λ (l : List (List ℕ)). LeavesLines l old new) silent lines;
    }

pub sample_wanting :
    (job : PrintJob) (told later : Told) (old new : Seen) (o : Outcome) → job ≡ sample_print → (o ≡ outcome.WriteFault → ⊥)
    → LeavesUndone job told later old new o → Wanting old new
sample_wanting job told later old new o is other h = of (subst (λ (j : PrintJob). LeavesUndone j told later old new o) is h)
  where
    of : LeavesUndone sample_print told later old new o → Wanting old new
    of l = by_end told later old new o l.leaves.end l.leaves.written l.leaves.said other l.undone l.leaves.tells l.leaves.means l.leaves.left l.leaves.lines
