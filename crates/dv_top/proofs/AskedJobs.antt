-- What every job is that accepted words ask for, by what each option sets.
use Rattle.std.proofs.Common.{◌≡◌, ◌<◌, ◌≤◌, ◌^◌, ℕ, ℤ, pos, negsuc, List, [], ◌∷◌, ◌++◌, length, Bool, true, false, ◌&&◌, ◌||◌, Option, Some, None, arith, refl, sym, ap, subst}
use Rattle.std.specs.Prelude.{codes, if◌then◌else◌, nat_le, nat_lt, int_lt, nat_eq, unsigned_abs, neg_ℤ, IsTrue, IfSome}
use Rattle.std.specs.List.{list_all, before_first, after_first}
use Rattle.std.specs.Option.{option_map, option_zip, unwrap_or}
use Rattle.std.proofs.lemmas.Bool.{le-leb, leb-true, ltb-true}
use Rattle.std.proofs.lemmas.Int.{ints}
use Rattle.specials.specs.Commas.{is_comma}
use Rattle.specials.specs.Decimals.{digits_of, behind_digits}
use Rattle.specials.specs.Dimension.{are_few, dimension_of, if_small, part_of, scaled_points, size_of, sized, unit_of}
use Rattle.specials.specs.FileNames.{is_file_name, is_visible}
use Rattle.specials.specs.Units.{ratio_of}
use Rattle.sections.specs.Sections.{is_few}
use Rattle.sections.proofs.Plans.{and_both, from_and}
use Rattle.dv_words.specs.Draft.{Draft, no_draft}
use Rattle.dv_words.specs.Grammar.{Reads}
use Rattle.dv_words.specs.Grammar.Reads.{nothing, together, apart}
use Rattle.dv_words.specs.Jobs.{Job, PrintJob, HasJob, print_job}
use Rattle.dv_words.specs.Jobs.Job.{Printing}
use Rattle.dv_words.specs.Names.{is_dvi, is_word, name_of, with_dvi}
use Rattle.dv_words.specs.Numbers.{between, number_from, number_of, page_number}
use Rattle.dv_words.specs.Settings.{bound_of, if_above_zero, only, pair_of, paper_of, reads}
use Rattle.dv_words.specs.Tools.{grammar, next_name, second_name, takes_name, with_input, with_output}
use Rattle.dv_words.specs.Windows.{windows_of}
use Rattle.dv_words.specs.Words.{Asks}
use Rattle.dv_words.specs.declared.setting.Setting.{Setting}
use Rattle.dv_words.specs.declared.setting.Setting.TheVariants as setting
use Rattle.dv_words.specs.declared.tool.Tool.{Tool}
use Rattle.dv_words.specs.declared.tool.Tool.TheVariants.{Dvips, Dvitype, Dvicopy}
use Rattle.dv_top.specs.Asked.{IsGoodJob}

-- ---- answers that are there

mapped : {A B : Type 0} (f : A → B) (o : Option A) (c : B) → option_map f o ≡ Some c → (a : A) × (o ≡ Some a) × (f a ≡ c)
mapped f None c h = absurd (cc)
mapped f (Some a) c h = (a, refl, some_in (f a) c h)
  where
    some_in : {X : Type 0} (x y : X) → Some x ≡ Some y → x ≡ y
    some_in x y e = cc

chosen : {A : Type 0} (b : Bool) (x y : A) → (if b then Some x else None) ≡ Some y → (b ≡ true) × (x ≡ y)
chosen true x y h = (refl, cc)
chosen false x y h = absurd (cc)

pub from_between : (low high : ℕ) (o : Option ℤ) (n : ℕ) → between low high o ≡ Some n → (low ≤ n) × (n ≤ high)
from_between low high None n h = absurd (cc)
from_between low high (Some (negsuc m)) n h = absurd (cc)
from_between low high (Some (pos m)) n h =
    let c = chosen (nat_le low m && nat_le m high) m n h in
    let b = from_and (nat_le low m) (nat_le m high) c.0 in
    let same = c.1 in (omega (arith, leb-true low m b.0, same), omega (arith, leb-true m high b.1, same))

-- ---- dimensions

small_size : (size n : ℕ) → if_small size ≡ Some n → n < 2 ^ 31
small_size size n h =
    let c = chosen (nat_lt size (2 ^ 31)) size n h in
    let same = c.1 in
    let less : size < 2 ^ 31 = ltb-true size (2 ^ 31) c.0 in
    omega (arith, less, same)

small_sized : (whole part : List ℕ) (ratio : Option (ℕ × ℕ)) (n : ℕ) → sized whole part ratio ≡ Some n → n < 2 ^ 31
small_sized whole part None n h = absurd (cc)
small_sized whole part (Some ratio) n h = by (are_few (length whole) (length part)) h
  where
    by : (b : Bool) → (if b then if_small (scaled_points whole part ratio) else None) ≡ Some n → n < 2 ^ 31
    by true k = small_size (scaled_points whole part ratio) n k
    by false k = absurd (cc)

small_of : (text : List ℕ) (n : ℕ) → size_of text ≡ Some n → n < 2 ^ 31
small_of text n h = small_sized (digits_of text) (part_of (behind_digits text)) (ratio_of (unit_of (behind_digits text))) n h

small_dimension : (text : List ℕ) (x : ℤ) → dimension_of text ≡ Some x → unsigned_abs x < 2 ^ 31
small_dimension [] x h = absurd (cc)
small_dimension (c ∷ cs) x h = by (nat_eq c 45) h
  where
    by : (b : Bool) → (if b then option_map (λ n. neg_ℤ (pos n)) (size_of cs) else option_map pos (size_of (c ∷ cs))) ≡ Some x → unsigned_abs x < 2 ^ 31
    by true k =
        let m = mapped (λ n. neg_ℤ (pos n)) (size_of cs) x k in
        let small = small_of cs m.0 m.1 in
        subst (λ (z : ℤ). unsigned_abs z < 2 ^ 31) m.2 (omega (arith, ints, small))
    by false k =
        let m = mapped pos (size_of (c ∷ cs)) x k in
        subst (λ (z : ℤ). unsigned_abs z < 2 ^ 31) m.2 (small_of (c ∷ cs) m.0 m.1)

zipped : (a b : Option ℤ) (o : ℤ × ℤ) → option_zip a b ≡ Some o → (a ≡ Some o.0) × (b ≡ Some o.1)
zipped None b o h = absurd (cc)
zipped (Some x) None o h = absurd (cc)
zipped (Some x) (Some y) o h = let e : (x, y) ≡ o = cc in (ap (λ (z : ℤ × ℤ). Some z.0) e, ap (λ (z : ℤ × ℤ). Some z.1) e)

-- ---- names

all_append : (p : ℕ → Bool) (xs ys : List ℕ) → list_all p xs ≡ true → list_all p ys ≡ true → list_all p (xs ++ ys) ≡ true
all_append p [] ys f g = g
all_append p (x ∷ xs) ys f g = let b = from_and (p x) (list_all p xs) f in and_both (p x) (list_all p (xs ++ ys)) b.0 (all_append p xs ys b.1 g)

with_ending : (b : Bool) (word : List ℕ) → list_all is_visible word ≡ true → list_all is_visible (if b then word else word ++ codes ".dvi") ≡ true
with_ending true word h = h
with_ending false word h = all_append is_visible word (codes ".dvi") h refl

visible_name : (word name : List ℕ) → name_of word ≡ Some name → list_all is_visible name ≡ true
visible_name word name h =
    let c = chosen (is_file_name word) word name h in
    subst (λ (w : List ℕ). list_all is_visible w ≡ true) c.1 (from_and (list_all is_visible word) (nat_le 1 (length word) && nat_le (length word) 500) c.0).0

-- ---- drafts

abbrev pub IsVisible : Option (List ℕ) → Type 0
IsVisible None = Unit {0}
IsVisible (Some name) = list_all is_visible name ≡ true

abbrev pub IsIn : ℕ → ℕ → Option ℕ → Type 0
IsIn low high None = Unit {0}
IsIn low high (Some n) = (low ≤ n) × (n ≤ high)

abbrev pub IsSmall : Option (ℤ × ℤ) → Type 0
IsSmall None = Unit {0}
IsSmall (Some size) = (unsigned_abs size.0 < 2 ^ 31) × (unsigned_abs size.1 < 2 ^ 31)

abbrev pub GoodDraft : Draft → Type 0
GoodDraft d =
    IsVisible d.input × IsIn 10 10000 d.across × IsIn 10 10000 d.down × IsIn 10 100000 d.magnification × (d.drift ≤ 1000) × (1 ≤ d.copies) × (d.copies ≤ 999) × (1 ≤ d.collated) × IsIn 1 1000000 d.per_section
    × (unsigned_abs d.offset.0 < 2 ^ 31) × (unsigned_abs d.offset.1 < 2 ^ 31) × IsSmall d.paper

pub first_draft : GoodDraft no_draft
first_draft = (tt, tt, tt, tt, omega arith, omega arith, omega arith, omega arith, tt, omega arith, omega arith, tt)

small_if : (b : Bool) (x y : Option (ℤ × ℤ)) → IsSmall x → IsSmall y → IsSmall (if b then x else y)
small_if true x y h k = h
small_if false x y h k = k

small_paper : (name : List ℕ) → IsSmall (paper_of name)
small_paper name =
    small_if (is_word name (codes "letter")) (Some (pos 40258437, pos 52099153)) _ (omega arith, omega arith)
    (small_if (is_word name (codes "legal")) (Some (pos 40258437, pos 66308014)) _ (omega arith, omega arith)
    (small_if (is_word name (codes "tabloid")) (Some (pos 52099153, pos 80516874)) _ (omega arith, omega arith)
    (small_if (is_word name (codes "ledger")) (Some (pos 80516874, pos 52099153)) _ (omega arith, omega arith)
    (small_if (is_word name (codes "a3")) (Some (pos 55380990, pos 78316552)) _ (omega arith, omega arith)
    (small_if (is_word name (codes "a4")) (Some (pos 39158276, pos 55380990)) _ (omega arith, omega arith)
    (small_if (is_word name (codes "a5")) (Some (pos 27597261, pos 39158276)) None (omega arith, omega arith) tt))))))

above : (o : Option (ℤ × ℤ)) (size : ℤ × ℤ) → if_above_zero o ≡ Some size → o ≡ Some size
above None size h = absurd (cc)
above (Some x) size h = by (int_lt (pos 0) x.0 && int_lt (pos 0) x.1) h
  where
    by : (b : Bool) → (if b then Some x else None) ≡ Some size → Some x ≡ Some size
    by true k = k
    by false k = absurd (cc)

module _ (d : Draft) (g : GoodDraft d) (p : List ℕ) (change : Draft → Draft) where
  -- an option that sets none of these
  other : {A : Type 0} (f : A → Draft → Draft) (o : Option A) → ((a : A) → GoodDraft (f a d)) → option_map f o ≡ Some change → GoodDraft (change d)
  other f o good h = let m = mapped f o change h in subst (λ (k : Draft → Draft). GoodDraft (k d)) m.2 (good m.0)

  flag : (text : List ℕ) (f : Draft → Draft) → GoodDraft (f d) → only text p f ≡ Some change → GoodDraft (change d)
  flag text f good h = let c = chosen (is_word p text) f change h in subst (λ (k : Draft → Draft). GoodDraft (k d)) c.1 good

  number : (low high : ℕ) (f : ℕ → Draft → Draft) → ((n : ℕ) → low ≤ n → n ≤ high → GoodDraft (f n d)) → option_map f (number_from low high p) ≡ Some change → GoodDraft (change d)
  number low high f good h =
      let m = mapped f (number_from low high p) change h in
      let b = from_between low high (number_of p) m.0 m.1 in
      subst (λ (k : Draft → Draft). GoodDraft (k d)) m.2 (good m.0 b.0 b.1)

  good_change : (o : Setting) → reads o p ≡ Some change → GoodDraft (change d)
  good_change setting.First h = other (λ b e. record e { first = Some b }) (bound_of p) (λ b. g) h
  good_change setting.Last h = other (λ b e. record e { last = Some b }) (bound_of p) (λ b. g) h
  good_change setting.Ranges h = other (λ ws e. record e { ranges = e.ranges ++ ws }) (windows_of p) (λ ws. g) h
  good_change setting.Limit h = other (λ k e. record e { limit = Some k }) (number_from 1 1000000 p) (λ k. g) h
  good_change setting.Reverse h = flag [] (λ e. record e { reverse = true }) g h
  good_change setting.Odd h = flag [] _ g h
  good_change setting.Even h = flag [] _ g h
  good_change setting.Copies h = number 1 999 (λ k e. record e { copies = k }) (λ n a b. (g.0, g.1, g.2, g.3, g.4, a, b, g.7, g.8, g.9, g.10, g.11)) h
  good_change setting.Collated h = number 1 999 (λ k e. record e { collated = k }) (λ n a b. (g.0, g.1, g.2, g.3, g.4, g.5, g.6, a, g.8, g.9, g.10, g.11)) h
  good_change setting.Magnification h = number 10 100000 (λ k e. record e { magnification = Some k }) (λ n a b. (g.0, g.1, g.2, (a, b), g.4, g.5, g.6, g.7, g.8, g.9, g.10, g.11)) h
  good_change setting.Resolution h = number 10 10000 (λ k e. record e { across = Some k; down = Some k }) (λ n a b. (g.0, (a, b), (a, b), g.3, g.4, g.5, g.6, g.7, g.8, g.9, g.10, g.11)) h
  good_change setting.Across h = number 10 10000 (λ k e. record e { across = Some k }) (λ n a b. (g.0, (a, b), g.2, g.3, g.4, g.5, g.6, g.7, g.8, g.9, g.10, g.11)) h
  good_change setting.Down h = number 10 10000 (λ k e. record e { down = Some k }) (λ n a b. (g.0, g.1, (a, b), g.3, g.4, g.5, g.6, g.7, g.8, g.9, g.10, g.11)) h
  good_change setting.PerSection h = number 1 1000000 (λ k e. record e { per_section = Some k }) (λ n a b. (g.0, g.1, g.2, g.3, g.4, g.5, g.6, g.7, (a, b), g.9, g.10, g.11)) h
  good_change setting.Header h = other (λ name e. record e { headers = e.headers ++ name ∷ [] }) (name_of p) (λ name. g) h
  good_change setting.Quiet h = flag [] (λ e. record e { quiet = true }) g h
  good_change setting.Bare h = flag [] (λ e. record e { comments = false }) g h
  good_change setting.Output h = other (λ name e. record e { output = Some name }) (name_of p) (λ name. g) h
  good_change setting.Paper h =
      let m = mapped {A = ℤ × ℤ} {B = Draft → Draft} (λ (size : ℤ × ℤ) (e : Draft). record e { paper = Some size }) (paper_of p) change h in
      subst (λ (k : Draft → Draft). GoodDraft (k d)) m.2 (g.0, g.1, g.2, g.3, g.4, g.5, g.6, g.7, g.8, g.9, g.10, subst IsSmall m.1 (small_paper p))
  good_change setting.PaperSize h =
      let m = mapped {A = ℤ × ℤ} {B = Draft → Draft} (λ (size : ℤ × ℤ) (e : Draft). record e { paper = Some size }) (if_above_zero (pair_of p)) change h in
      let z = zipped (dimension_of (before_first is_comma p)) (dimension_of (after_first is_comma p)) m.0 (above (pair_of p) m.0 m.1) in
      subst (λ (k : Draft → Draft). GoodDraft (k d)) m.2
      (g.0, g.1, g.2, g.3, g.4, g.5, g.6, g.7, g.8, g.9, g.10, (small_dimension (before_first is_comma p) m.0.0 z.0, small_dimension (after_first is_comma p) m.0.1 z.1))
  good_change setting.Offset h =
      let m = mapped {A = ℤ × ℤ} {B = Draft → Draft} (λ (offset : ℤ × ℤ) (e : Draft). record e { offset = offset }) (pair_of p) change h in
      let z = zipped (dimension_of (before_first is_comma p)) (dimension_of (after_first is_comma p)) m.0 m.1 in
      subst (λ (k : Draft → Draft). GoodDraft (k d)) m.2
      (g.0, g.1, g.2, g.3, g.4, g.5, g.6, g.7, g.8, small_dimension (before_first is_comma p) m.0.0 z.0, small_dimension (after_first is_comma p) m.0.1 z.1, g.11)
  good_change setting.Drift h = number 0 1000 (λ k e. record e { drift = k }) (λ n a b. (g.0, g.1, g.2, g.3, b, g.5, g.6, g.7, g.8, g.9, g.10, g.11)) h
  good_change setting.Memory h = other (λ k e. record e { memory = k }) (number_from 1 2147483647 p) (λ k. g) h
  good_change setting.PassPs h = flag (codes "ps") (λ e. record e { pass_ps = true }) g h
  good_change setting.Start h = other (λ n e. record e { first = Some (record { physical = false; number = n }) }) (page_number p) (λ n. g) h
  good_change setting.Detail h = other (λ k e. record e { detail = k }) (number_from 0 1 p) (λ k. g) h

good_input : (d e : Draft) (word : List ℕ) (o : Option (List ℕ)) → GoodDraft d → name_of word ≡ o → with_input o d ≡ Some e → GoodDraft e
good_input d e word None g n h = absurd (cc)
good_input d e word (Some name) g n h =
    let same : record d { input = Some (with_dvi name) } ≡ e = cc in
    subst GoodDraft same (with_ending (is_word name (codes "-") || is_dvi name) name (visible_name word name n), g.1, g.2, g.3, g.4, g.5, g.6, g.7, g.8, g.9, g.10, g.11)

good_output : (d e : Draft) (o : Option (List ℕ)) → GoodDraft d → with_output o d ≡ Some e → GoodDraft e
good_output d e None g h = absurd (cc)
good_output d e (Some name) g h = let same : record d { output = Some (with_dvi name) } ≡ e = cc in subst GoodDraft same g

good_second : (tool : Tool) (output : Option (List ℕ)) (d e : Draft) (o : Option (List ℕ)) → GoodDraft d → second_name tool output o d ≡ Some e → GoodDraft e
good_second Dvicopy None d e o g h = good_output d e o g h
good_second Dvicopy (Some x) d e o g h = absurd (cc)
good_second Dvips output d e o g h = absurd (cc)
good_second Dvitype output d e o g h = absurd (cc)

good_name : (tool : Tool) (input : Option (List ℕ)) (d e : Draft) (word : List ℕ) → GoodDraft d → next_name tool input (name_of word) d ≡ Some e → GoodDraft e
good_name tool None d e word g h = good_input d e word (name_of word) g refl h
good_name tool (Some x) d e word g h = good_second tool d.output d e (name_of word) g h

named : (tool : Tool) (word : List ℕ) (d e : Draft) → GoodDraft d → takes_name tool word d ≡ Some e → GoodDraft e
named tool word d e g h = good_name tool d.input d e word g h

pub good_reads : (tool : Tool) {words : List (List ℕ)} {d e : Draft} → Reads (grammar tool) words d e → GoodDraft d → GoodDraft e
good_reads tool nothing g = g
good_reads tool (Reads.name {word = word} {d = d} {e = e} plain takes more) g = good_reads tool more (named tool word d e g takes)
good_reads tool (together {d = d} front parameter change among joined same stands read more) g = good_reads tool more (good_change d g parameter change front.option read)
good_reads tool (apart {parameter = parameter} {d = d} front change among alone same stands read more) g = good_reads tool more (good_change d g parameter change front.option read)

-- ---- the job

resolution : (o : Option ℕ) → IsIn 10 10000 o → (10 ≤ unwrap_or o 600) × (unwrap_or o 600 ≤ 10000)
resolution None h = (omega arith, omega arith)
resolution (Some n) h = h

few_pages : (o : Option ℕ) → IsIn 1 1000000 o → IsTrue (is_few o 1)
few_pages None h = refl
few_pages (Some n) h = le-leb 1 n h.0

good_of : (input : List ℕ) (d : Draft) → d.input ≡ Some input → GoodDraft d → IsGoodJob (print_job input d)
good_of input d is g =
    record {
      visible = subst IsVisible is g.0;
      across_low = (resolution d.across g.1).0;
      across_high = (resolution d.across g.1).1;
      down_low = (resolution d.down g.2).0;
      down_high = (resolution d.down g.2).1;
      mag = magnified d.magnification g.3;
      drift = g.4;
      copies_some = g.5;
      copies_few = g.6;
      collated = g.7;
      per_section = few_pages d.per_section g.8;
      paper = sized_paper d.paper g.11;
      offset_x = g.9;
      offset_y = g.10;
    }
  where
    magnified : (o : Option ℕ) → IsIn 10 100000 o → IfSome o (λ m. m ≤ 100000)
    magnified None h = tt
    magnified (Some m) h = h.1

    sized_paper : (o : Option (ℤ × ℤ)) → IsSmall o → IfSome o (λ size. (unsigned_abs size.0 < 2 ^ 31) × (unsigned_abs size.1 < 2 ^ 31))
    sized_paper None h = tt
    sized_paper (Some size) h = h

printing : (tool : Tool) (d : Draft) (job : PrintJob) → GoodDraft d → HasJob tool d (Printing job) → IsGoodJob job
printing Dvips d job g (input, is, same) = subst IsGoodJob (sym (printing_in job (print_job input d) same)) (good_of input d is g)
  where
    printing_in : (a b : PrintJob) → Printing a ≡ Printing b → a ≡ b
    printing_in a b e = cc
printing Dvitype d job g (input, is, same) = absurd (cc)
printing Dvicopy d job g (input, is, same) = absurd (cc)

pub good_job : (words : List (List ℕ)) (job : PrintJob) → Asks words (Printing job) → IsGoodJob job
good_job words job h = by job h refl
  where
    by : {all : List (List ℕ)} {j : Job} (job : PrintJob) → Asks all j → j ≡ Printing job → IsGoodJob job
    by job (Asks.tool {draft = draft} {job = j} tool is reading has) same = printing tool draft job (good_reads tool reading first_draft) (subst (HasJob tool draft) same has)
    by job (Asks.sample is asked) same = absurd (cc)
