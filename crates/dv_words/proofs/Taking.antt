-- What taking a word does to a reading.
use Rattle.std.proofs.Common.{◌≡◌, ◌<◌, ◌≤◌, ◌+◌, ℕ, List, length, take, map, get_or, Option, Some, None, true, false, arith, refl, sym, ap, ◌∙◌, subst}
use Rattle.std.specs.Option.{is_some}
use Rattle.std.proofs.Math.ListN.{get_or-map}
use Rattle.std.proofs.lemmas.List.{length-map, take_all}
use Rattle.dv_words.specs.Grammar.{is_option, Accepts}
use Rattle.dv_words.specs.Stepping.{named, step, run, is_end}
use Rattle.dv_words.specs.Stepping.State.{Ready}
use Rattle.dv_words.specs.Draft.{Draft, no_draft}
use Rattle.dv_words.specs.Tools.{grammar, takes_name}
use Rattle.dv_words.specs.Steps.{NameGives, StepGives}
use Rattle.dv_words.specs.Views.{state_of}
use Rattle.dv_words.specs.Outcome.{IsJobOf}
use Rattle.dv_words.specs.Jobs.{Job, HasJob}
use Rattle.dv_words.specs.Language.{IsWrongAt}
use Rattle.dv_words.specs.declared.setting.Setting.{Setting}
use Rattle.dv_words.specs.declared.tool.Tool.{Tool}
use Rattle.dv_words.specs.declared.step.Taken.TheVariants as taken
use Rattle.dv_words.proofs.Machine.{run_more, wrong_word, wrong_end, sound}
use Rattle.dv_words.proofs.Clear.{clear, live}

pub name_whole : (tool : Tool) (d new : Draft) (word : List ℕ) → is_option word ≡ false → NameGives (takes_name tool word d) true new
    → StepGives (step (grammar tool) (Ready d) word) (taken.Right None) new
name_whole tool d new word is h = rw is (by (takes_name tool word d) h) where
  by : (r : Option Draft) → NameGives r true new → StepGives (named (grammar tool) r) (taken.Right None) new
  by None h = absurd (cc)
  by (Some e) h = cc

pub name_wrong : (tool : Tool) (d new : Draft) (word : List ℕ) → is_option word ≡ false → NameGives (takes_name tool word d) false new
    → StepGives (step (grammar tool) (Ready d) word) taken.Wrong new
name_wrong tool d new word is h = rw is (by (takes_name tool word d) h) where
  by : (r : Option Draft) → NameGives r false new → StepGives (named (grammar tool) r) taken.Wrong new
  by None h = refl
  by (Some e) h = absurd (cc)

-- the words so far lead to this draft, and maybe to an option that wants its parameter
abbrev pub IsRead : Tool → List (List ℕ) → ℕ → Option Setting → Draft → Type 0
IsRead tool words i waits d = run (grammar tool) (take i words) (Ready no_draft) ≡ Some (state_of waits d)

module _ {X : Type 0} (tool : Tool) (f : X → List ℕ) (xs : List X) (i : ℕ) (x : X) (waits : Option Setting) (d : Draft)
    (inside : i < length xs) (is : x ≡ get_or xs i x) (so_far : IsRead tool (map f xs) i waits d) where
  stepped : run (grammar tool) (take (i + 1) (map f xs)) (Ready no_draft) ≡ step (grammar tool) (state_of waits d) (f x)
  stepped = run_more (grammar tool) (map f xs) i (f x) (Ready no_draft) (state_of waits d) (omega (arith, length-map xs f)) (ap f is ∙ sym (get_or-map f xs i x)) so_far

  pub read_right : (new : Draft) (next : Option Setting) → StepGives (step (grammar tool) (state_of waits d) (f x)) (taken.Right next) new → IsRead tool (map f xs) (i + 1) next new
  read_right new next h = stepped ∙ sym h

  pub read_wrong : (new : Draft) → StepGives (step (grammar tool) (state_of waits d) (f x)) taken.Wrong new → IsWrongAt (Accepts (grammar tool) no_draft) (map f xs) i
  read_wrong new h =
      wrong_word (grammar tool) (clear tool) (live tool) no_draft (map f xs) i (f x) (state_of waits d) (omega (arith, length-map xs f)) (ap f is ∙ sym (get_or-map f xs i x)) so_far (sym h)

module _ {X : Type 0} (tool : Tool) (f : X → List ℕ) (xs : List X) (i : ℕ) (d : Draft) (all : length xs ≤ i) where
  whole_list : (waits : Option Setting) → IsRead tool (map f xs) i waits d → run (grammar tool) (map f xs) (Ready no_draft) ≡ Some (state_of waits d)
  whole_list waits h = rw (take_all i (map f xs) (omega (arith, length-map xs f))) at h

  pub read_all : (waits : Option Setting) (job : Job) → IsRead tool (map f xs) i waits d → is_some waits ≡ false → HasJob tool d job → IsJobOf tool (map f xs) job
  read_all None job h e has = record { draft = d; reads = sound (grammar tool) (map f xs) no_draft d (whole_list None h); has = has }
  read_all (Some o) job h e has = absurd (cc)

  pub read_short : (waits : Option Setting) → IsRead tool (map f xs) i waits d → is_end (grammar tool) (state_of waits d) ≡ false
      → IsWrongAt (Accepts (grammar tool) no_draft) (map f xs) (length xs)
  read_short waits h lacks =
      let wrong = wrong_end (grammar tool) (clear tool) (live tool) no_draft (map f xs) (state_of waits d) (whole_list waits h) lacks in
      subst (λ (n : ℕ). IsWrongAt (Accepts (grammar tool) no_draft) (map f xs) n) (length-map xs f) wrong

  pub read_waiting : (waits : Option Setting) → IsRead tool (map f xs) i waits d → is_some waits ≡ true → IsWrongAt (Accepts (grammar tool) no_draft) (map f xs) (length xs)
  read_waiting (Some o) h e = read_short (Some o) h refl
  read_waiting None h e = absurd (cc)

  pub read_lacking : (waits : Option Setting) → IsRead tool (map f xs) i waits d → is_some waits ≡ false → d.input ≡ None → IsWrongAt (Accepts (grammar tool) no_draft) (map f xs) (length xs)
  read_lacking None h e lacks = read_short None h (rw lacks refl)
  read_lacking (Some o) h e lacks = absurd (cc)
