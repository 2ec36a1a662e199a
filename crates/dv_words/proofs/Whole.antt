-- The words of a run, by their first word.
use Rattle.std.proofs.Common.{◌≡◌, ◌<◌, ◌≤◌, ◌+◌, ℕ, List, [], ◌∷◌, ◌++◌, length, drop, map, get_or, true, Option, Some, None, arith, refl, sym, ap, ◌∙◌, subst, inl, inr}
use Rattle.std.specs.Prelude.{codes}
use Rattle.std.proofs.Common.{nat_eq, false}
use Rattle.std.specs.Cmp.Lexicographic.{pointwise}
use Rattle.dv_words.specs.Outcome.{IsCause, IsJobOf}
use Rattle.dv_words.specs.declared.fault.WordFault.{WordFault}
use Rattle.dv_words.specs.declared.fault.WordFault.TheVariants.{Bad, OutOfMemory}
use Rattle.std.specs.Option.{is_some}
use Rattle.dv_words.proofs.Machine.{complete, true_false}
use Rattle.dv_words.proofs.Clear.{clear, some_of}
use Rattle.dv_words.specs.Stepping.{State}
use Rattle.dv_words.specs.Stepping.State.{Ready}
use Rattle.dv_words.specs.declared.setting.Setting.{Setting}
use Rattle.dv_words.specs.Grammar.{Reads, Accepts}
use Rattle.dv_words.specs.Draft.{Draft, no_draft}
use Rattle.dv_words.specs.Language.{Begins, IsWrongAt}
use Rattle.dv_words.specs.Numbers.{number_from}
use Rattle.dv_words.specs.Tools.{grammar}
use Rattle.dv_words.specs.Jobs.{Job, HasJob, job_of}
use Rattle.dv_words.specs.Jobs.Job.{Sampling}
use Rattle.dv_words.specs.Words.{Asks, Accepted, name_of_tool}
use Rattle.dv_words.specs.Words.Asks.{tool, sample}
use Rattle.dv_words.specs.Answers.{HasSample, IsFault, IsNoTool, SampleWords, behind}
use Rattle.dv_words.specs.declared.tool.Tool.{Tool}
use Rattle.dv_words.specs.declared.tool.Tool.TheVariants.{Dvips, Dvitype, Dvicopy}
use Rattle.dv_words.proofs.Under.{IsUnder, under, wrong_first, wrong_nothing}

unequal : (a b : List ℕ) → pointwise nat_eq a a ≡ true → pointwise nat_eq a b ≡ false → a ≡ b → ⊥
unequal a b t f e = true_false (sym t ∙ ap (pointwise nat_eq a) e ∙ f)

-- tools have different names, and none is `sample`
same_tool : (t u : Tool) → name_of_tool t ≡ name_of_tool u → t ≡ u
same_tool Dvips Dvips e = refl
same_tool Dvips Dvitype e = absurd (unequal (codes "dvips") (codes "dvitype") refl refl e)
same_tool Dvips Dvicopy e = absurd (unequal (codes "dvips") (codes "dvicopy") refl refl e)
same_tool Dvitype Dvips e = absurd (unequal (codes "dvitype") (codes "dvips") refl refl e)
same_tool Dvitype Dvitype e = refl
same_tool Dvitype Dvicopy e = absurd (unequal (codes "dvitype") (codes "dvicopy") refl refl e)
same_tool Dvicopy Dvips e = absurd (unequal (codes "dvicopy") (codes "dvips") refl refl e)
same_tool Dvicopy Dvitype e = absurd (unequal (codes "dvicopy") (codes "dvitype") refl refl e)
same_tool Dvicopy Dvicopy e = refl

no_sample : (t : Tool) → name_of_tool t ≡ codes "sample" → ⊥
no_sample Dvips e = unequal (codes "dvips") (codes "sample") refl refl e
no_sample Dvitype e = unequal (codes "dvitype") (codes "sample") refl refl e
no_sample Dvicopy e = unequal (codes "dvicopy") (codes "sample") refl refl e

some_list : Begins Accepted []
some_list = (codes "sample" ∷ (codes "1" ∷ []), (Sampling 1, sample refl refl))

whole_of : (t : Tool) (d : Draft) (job : Job) → HasJob t d job → is_some d.input ≡ true
whole_of t d job has = rw has.1 refl

behind_tool : (t : Tool) (word : List ℕ) → word ≡ name_of_tool t → (words : List (List ℕ)) (r : Job) → Asks (word ∷ words) r → Accepts (grammar t) no_draft words
behind_tool t word is words r (tool {draft = d} u named reads has) =
    let same : u ≡ t = same_tool u t (sym named ∙ is) in
    let P : Tool → Type 0 = λ x. Accepts (grammar x) no_draft words in
    subst P same (d, reads, whole_of u d r has)
behind_tool t word is words r (sample named number) = absurd (no_sample t (sym is ∙ named))

pub tool_words : (t : Tool) (word : List ℕ) → word ≡ name_of_tool t → IsUnder Accepted word (Accepts (grammar t) no_draft)
tool_words t word is =
    record {
      puts = λ words a. let input = some_of a.0.input a.2 in (job_of t input.0 a.0, tool t is a.1 (input.0, input.1, refl));
      gets = λ words a. behind_tool t word is words a.0 a.1;
    }

behind_sample : (word : List ℕ) → word ≡ codes "sample" → (words : List (List ℕ)) (r : Job) → Asks (word ∷ words) r → HasSample words
behind_sample word is words r (tool u named reads whole) = absurd (no_sample u (sym named ∙ is))
behind_sample word is words r (sample {number = n} {pages = p} named number) = (p, (n, refl, number))

pub sample_words : (word : List ℕ) → word ≡ codes "sample" → IsUnder Accepted word HasSample
sample_words word is = record { puts = λ words a. put words a; gets = λ words a. behind_sample word is words a.0 a.1 } where
  put : (words : List (List ℕ)) → HasSample words → Accepted (word ∷ words)
  put words a = let A : List (List ℕ) → Type 0 = λ ws. Accepted (word ∷ ws) in subst A (sym a.1.1) (Sampling a.0, sample is a.1.2)

no_tool : (word : List ℕ) → IsNoTool word → (words : List (List ℕ)) (r : Job) → Asks (word ∷ words) r → ⊥
no_tool word h words r (tool Dvips named reads whole) = h.0 named
no_tool word h words r (tool Dvitype named reads whole) = h.1 named
no_tool word h words r (tool Dvicopy named reads whole) = h.2 named
no_tool word h words r (sample named number) = h.3 named

pub unknown_tool : (word : List ℕ) (words : List (List ℕ)) → IsNoTool word → IsWrongAt Accepted (word ∷ words) 0
unknown_tool word words h = wrong_first Accepted word words some_list (λ rest a. no_tool word h rest a.0 a.1)

pub no_words : IsWrongAt Accepted [] 0
no_words = wrong_nothing Accepted some_list (λ a. none a.0 a.1) where
  none : (r : Job) → Asks [] r → ⊥
  none r a = elim a [ ]

-- the words behind `sample`
begins_sample : (words : List (List ℕ)) → HasSample words → Begins HasSample []
begins_sample words a = (words, a)

pub sample_short : IsWrongAt HasSample [] 0
sample_short = record { inside = omega arith; before = (codes "1" ∷ [], (1, (codes "1", refl, refl))); here = inr (refl, (λ a. none a.1.0 a.1.1)) } where
  none : (n : List ℕ) → [] ≡ n ∷ [] → ⊥
  none n e = cc

first_is : (word n : List ℕ) (words rest : List (List ℕ)) → (word ∷ words) ++ rest ≡ n ∷ [] → word ≡ n
first_is word n words rest e = cc

pub sample_wrong : (word : List ℕ) (words : List (List ℕ)) → number_from 1 1000 word ≡ None → IsWrongAt HasSample (word ∷ words) 0
sample_wrong word words h =
    record { inside = omega arith; before = (codes "1" ∷ [], (1, (codes "1", refl, refl))); here = inl (omega arith, (λ b. no_number b.0 b.1.0 b.1.1.0 b.1.1.1 b.1.1.2)) }
  where
    no_number : (rest : List (List ℕ)) (p : ℕ) (n : List ℕ) → word ∷ rest ≡ n ∷ [] → number_from 1 1000 n ≡ Some p → ⊥
    no_number rest p n e s = let same : word ≡ n = cc in absurd (cc (ap (number_from 1 1000) same))

pub sample_long : (word next : List ℕ) (words : List (List ℕ)) (pages : ℕ) → number_from 1 1000 word ≡ Some pages → IsWrongAt HasSample (word ∷ (next ∷ words)) 1
sample_long word next words pages h =
    record { inside = omega arith; before = ([], (pages, (word, refl, h))); here = inl (omega arith, (λ b. too_many b.0 b.1.1.0 b.1.1.1)) }
  where
    too_many : (rest : List (List ℕ)) (n : List ℕ) → word ∷ (next ∷ rest) ≡ n ∷ [] → ⊥
    too_many rest n e = cc

-- the same of the words as the program holds them
module _ {X : Type 0} (f : X → List ℕ) where
  pub fault_empty : (xs : List X) → length xs ≡ 0 → IsWrongAt Accepted (map f xs) 0
  fault_empty [] h = no_words
  fault_empty (x ∷ xs) h = absurd (omega arith)

  pub fault_tool : (xs : List X) (x : X) → 0 < length xs → x ≡ get_or xs 0 x → IsNoTool (f x) → IsWrongAt Accepted (map f xs) 0
  fault_tool [] x h is n = absurd (omega arith)
  fault_tool (y ∷ ys) x h is n = let P : X → Type 0 = λ z. IsNoTool (f z) in unknown_tool (f y) (map f ys) (subst P is n)

  pub fault_behind : (t : Tool) (xs : List X) (x : X) (i : ℕ) → 0 < length xs → x ≡ get_or xs 0 x → f x ≡ name_of_tool t
      → IsWrongAt (Accepts (grammar t) no_draft) (map f (drop 1 xs)) i → IsWrongAt Accepted (map f xs) (i + 1)
  fault_behind t [] x i h is n w = absurd (omega arith)
  fault_behind t (y ∷ ys) x i h is n w = under Accepted (f y) (Accepts (grammar t) no_draft) (tool_words t (f y) (ap f (sym is) ∙ n)) (map f ys) i w

  pub fault_shift : (t : Tool) (xs : List X) (x : X) (fault : WordFault) → 0 < length xs → x ≡ get_or xs 0 x → f x ≡ name_of_tool t
      → IsCause t (map f (drop 1 xs)) fault → IsFault (map f xs) (behind fault)
  fault_shift t xs x (Bad i) h is n w = fault_behind t xs x i h is n w
  fault_shift t xs x OutOfMemory h is n w = tt

  pub asks_tool : (t : Tool) (job : Job) (xs : List X) (x : X) → 0 < length xs → x ≡ get_or xs 0 x → f x ≡ name_of_tool t
      → IsJobOf t (map f (drop 1 xs)) job → Asks (map f xs) job
  asks_tool t job [] x h is n r = absurd (omega arith)
  asks_tool t job (y ∷ ys) x h is n r = tool t (ap f (sym is) ∙ n) r.reads r.has

  pub fault_sample : (xs : List X) (x : X) (i : ℕ) → 0 < length xs → x ≡ get_or xs 0 x → f x ≡ codes "sample"
      → IsWrongAt HasSample (map f (drop 1 xs)) i → IsWrongAt Accepted (map f xs) (i + 1)
  fault_sample [] x i h is n w = absurd (omega arith)
  fault_sample (y ∷ ys) x i h is n w = under Accepted (f y) HasSample (sample_words (f y) (ap f (sym is) ∙ n)) (map f ys) i w

  pub asks_sample : (p : ℕ) (xs : List X) (x : X) → 0 < length xs → x ≡ get_or xs 0 x → f x ≡ codes "sample" → SampleWords (map f (drop 1 xs)) p → Asks (map f xs) (Sampling p)
  asks_sample p [] x h is n r = absurd (omega arith)
  asks_sample p (y ∷ ys) x h is n r = let A : List (List ℕ) → Type 0 = λ ws. Asks (f y ∷ ws) (Sampling p) in subst A (sym r.1) (sample (ap f (sym is) ∙ n) r.2)

  pub sample_empty : (xs : List X) → length xs ≡ 0 → IsWrongAt HasSample (map f xs) 0
  sample_empty [] h = sample_short
  sample_empty (x ∷ xs) h = absurd (omega arith)

  pub sample_number : (xs : List X) (x : X) → 0 < length xs → x ≡ get_or xs 0 x → number_from 1 1000 (f x) ≡ None → IsWrongAt HasSample (map f xs) 0
  sample_number [] x h is n = absurd (omega arith)
  sample_number (y ∷ ys) x h is n = sample_wrong (f y) (map f ys) (ap (λ z. number_from 1 1000 (f z)) (sym is) ∙ n)

  pub sample_more : (p : ℕ) (xs : List X) (x : X) → 1 < length xs → x ≡ get_or xs 0 x → number_from 1 1000 (f x) ≡ Some p → IsWrongAt HasSample (map f xs) 1
  sample_more p [] x h is n = absurd (omega arith)
  sample_more p (y ∷ []) x h is n = absurd (omega arith)
  sample_more p (y ∷ (z ∷ ys)) x h is n = sample_long (f y) (f z) (map f ys) p (ap (λ z. number_from 1 1000 (f z)) (sym is) ∙ n)

  pub sample_one : (p : ℕ) (xs : List X) (x : X) → 0 < length xs → length xs ≤ 1 → x ≡ get_or xs 0 x → number_from 1 1000 (f x) ≡ Some p → SampleWords (map f xs) p
  sample_one p [] x h k is n = absurd (omega arith)
  sample_one p (y ∷ []) x h k is n = (f y, refl, ap (λ z. number_from 1 1000 (f z)) (sym is) ∙ n)
  sample_one p (y ∷ (z ∷ ys)) x h k is n = absurd (omega arith)

-- words are read in one way, and so they ask for one job
same_draft : (t : Tool) (words : List (List ℕ)) (d e : Draft) → Reads (grammar t) words no_draft d → Reads (grammar t) words no_draft e → d ≡ e
same_draft t words d e x y = ready d e (sym (complete (grammar t) (clear t) x) ∙ complete (grammar t) (clear t) y) where
  ready : (d e : Draft) → ◌≡◌ {A = Option (State Setting Draft)} (Some (Ready d)) (Some (Ready e)) → d ≡ e
  ready d e h = cc

same_has : (t : Tool) (d e : Draft) (a b : Job) → d ≡ e → HasJob t d a → HasJob t e b → a ≡ b
same_has t d e a b same x y =
    let input : ◌≡◌ {A = Option (List ℕ)} (Some x.0) (Some y.0) = sym x.1 ∙ ap (λ (k : Draft). k.input) same ∙ y.1 in
    let names : x.0 ≡ y.0 = cc in
    x.2 ∙ ap (λ (n : List ℕ). job_of t n d) names ∙ ap (λ (k : Draft). job_of t y.0 k) same ∙ sym y.2

behind_same_tool : (t : Tool) (d : Draft) (word : List ℕ) (words : List (List ℕ)) (a b : Job) → word ≡ name_of_tool t → Reads (grammar t) words no_draft d
    → HasJob t d a → Asks (word ∷ words) b → a ≡ b
behind_same_tool t d word words a b named reads has (tool {draft = e} u named_too reads_too has_too) =
    let same : u ≡ t = same_tool u t (sym named_too ∙ named) in
    let R : Tool → Type 0 = λ x. Reads (grammar x) words no_draft e in
    let H : Tool → Type 0 = λ x. HasJob x e b in
    same_has t d e a b (same_draft t words d e reads (subst R same reads_too)) has (subst H same has_too)
behind_same_tool t d word words a b named reads has (sample named_too number) = absurd (no_sample t (sym named ∙ named_too))

same_sample : (word number : List ℕ) (pages : ℕ) (b : Job) → word ≡ codes "sample" → number_from 1 1000 number ≡ Some pages → Asks (word ∷ (number ∷ [])) b → Sampling pages ≡ b
same_sample word number pages b named read (tool u named_too reads has) = absurd (no_sample u (sym named_too ∙ named))
same_sample word number pages b named read (sample {pages = more} named_too read_too) =
    let both : ◌≡◌ {A = Option ℕ} (Some pages) (Some more) = sym read ∙ read_too in
    let same : pages ≡ more = cc in
    ap Sampling same

pub same_job : (words : List (List ℕ)) (a b : Job) → Asks words a → Asks words b → a ≡ b
same_job words a b (tool {word = w} {words = ws} {draft = d} t named reads has) y = behind_same_tool t d w ws a b named reads has y
same_job words a b (sample {word = w} {number = n} {pages = p} named read) y = same_sample w n p b named read y
