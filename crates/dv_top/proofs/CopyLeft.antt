-- What a run of dvicopy leaves once its copy was written, or couldn't be.
use Rattle.std.proofs.Common.{◌≡◌, ◌<◌, ◌+◌, ◌-◌, ◌^◌, ℕ, List, [], ◌++◌, length, take, drop, Option, Some, None, inl, inr, arith, refl, sym, ap, subst, ◌∙◌, ◌⊎◌}
use Rattle.std.specs.Prelude.{min}
use Rattle.std.proofs.lemmas.List.{append-nil, take-append-drop}
use Rattle.dv_base.specs.Causes.{Rose}
use Rattle.dv_base.specs.Shelf.{Told}
use Rattle.dv_base.specs.Tray.{Output, Seen, WhereTold}
use Rattle.dv_words.specs.Jobs.{CopyJob}
use Rattle.dvicopy_out.specs.Leaves.{Copied, CopiedFront, OneCut, Untouched}
use Rattle.dv_top.specs.Copied.{End, Leaves}
use Rattle.dv_top.specs.Copyable.{IsCopy, IsFront, Walkable, copy_for, longest_copy, warnings_for}
use Rattle.dv_top.specs.Outputs.{AddsLines, AddsOutput, LeavesLines, LeavesOutput}
use Rattle.dv_top.specs.Spoken.{SaysAll}
use Rattle.dv_top.specs.declared.outcome.Outcome.TheVariants as outcome

-- messages that were said before, where no more are said
said_before : (lines : List (List ℕ)) (a b c : Seen) → SaysAll lines a b → c.messages ≡ b.messages → LeavesLines lines a c
said_before lines a b c said same = subst (λ (m : Option (List (List ℕ))). WhereTold (AddsLines lines) a.messages m) (sym same) said.messages_more

-- an output that was begun behind the messages
output_behind : (name written : List ℕ) (lines : List (List ℕ)) (a b c : Seen) → SaysAll lines a b → WhereTold (AddsOutput name written) b.outputs c.outputs → c.begun ≡ min (b.begun + 1) (2 ^ 64 - 1) → c.last ≡ Some name → LeavesOutput name (Some written) a c
output_behind name written lines a b c said more begun last = (
  subst (λ (o : Option (List Output)). WhereTold (AddsOutput name written) o c.outputs) said.outputs_same more,
  begun ∙ ap (λ (n : ℕ). min (n + 1) (2 ^ 64 - 1)) said.begun_same,
  last,
)

-- the front of a copy that was written
cut_of : (name text : List ℕ) (o q : Option (List Output)) → WhereTold (OneCut name text) o q → (written : List ℕ) × (missing : List ℕ) × (text ≡ written ++ missing) × WhereTold (AddsOutput name written) o q
cut_of name text o None h = (text, [], sym (append-nil text), tt)
cut_of name text None (Some q) h = absurd h
cut_of name text (Some o) (Some q) h = (take h.0 text, drop h.0 text, sym (take-append-drop h.0 text), h.2)

module _ {job : CopyJob} {told : Told} (w : Walkable job told) (later : Told) (a b c : Seen) (said : SaysAll (warnings_for w) a b) where
  -- the whole copy was written
  pub whole : Copied job.output (copy_for w) b c → length (copy_for w) < 2 ^ 31 → IsCopy w (copy_for w) → Leaves job told later a c outcome.Done
  whole done short copy =
      record {
        end = End.Finished;
        tells = refl;
        written = Some (copy_for w);
        said = warnings_for w;
        means = (record { walkable = w; short = omega (arith, short) }, refl, refl, copy);
        left = output_behind job.output (copy_for w) (warnings_for w) a b c said done.whole (done.began).begun (done.began).last;
        lines = said_before (warnings_for w) a b c said (done.began).messages;
        rose = tt;
      }

  -- nothing was begun
  nothing_left : Untouched b c → LeavesOutput job.output None a c
  nothing_left same = (same.outputs ∙ said.outputs_same, same.begun ∙ said.begun_same, same.last ∙ said.last_same)

  -- the copy would be too long
  pub long : longest_copy < length (copy_for w) → Untouched b c → Leaves job told later a c outcome.CopyTooLong
  long many same =
      record {
        end = End.TooLong;
        tells = refl;
        written = None;
        said = warnings_for w;
        means = (w, many, refl, refl);
        left = nothing_left same;
        lines = said_before (warnings_for w) a b c said same.messages;
        rose = tt;
      }

  -- there was no memory
  pub wanting : Untouched b c → Leaves job told later a c outcome.OutOfMemory
  wanting same =
      record {
        end = End.Wanting;
        tells = refl;
        written = None;
        said = warnings_for w;
        means = (refl, inr (w, refl));
        left = nothing_left same;
        lines = said_before (warnings_for w) a b c said same.messages;
        rose = tt;
      }

  -- the tray failed
  pub unwritten : Rose b.faults c.faults → Untouched b c ⊎ CopiedFront job.output (copy_for w) b c → length (copy_for w) < 2 ^ 31 → IsCopy w (copy_for w)
      → ((written missing : List ℕ) → copy_for w ≡ written ++ missing → IsFront w written) → Leaves job told later a c outcome.WriteFault
  unwritten rose (inl same) short copy fronts =
      record {
        end = End.Unwritten;
        tells = refl;
        written = None;
        said = warnings_for w;
        means = (record { walkable = w; short = omega (arith, short) }, tt, refl, copy);
        left = nothing_left same;
        lines = said_before (warnings_for w) a b c said same.messages;
        rose = let faults = said.faults_same in omega (arith, rose, faults);
      }
  unwritten rose (inr front) short copy fronts =
      let cut = cut_of job.output (copy_for w) b.outputs c.outputs front.front in
      record {
        end = End.Unwritten;
        tells = refl;
        written = Some cut.0;
        said = warnings_for w;
        means = (record { walkable = w; short = omega (arith, short) }, fronts cut.0 cut.1 cut.2, refl, copy);
        left = output_behind job.output cut.0 (warnings_for w) a b c said cut.3 (front.began).begun (front.began).last;
        lines = said_before (warnings_for w) a b c said (front.began).messages;
        rose = let faults = said.faults_same in omega (arith, rose, faults);
      }
