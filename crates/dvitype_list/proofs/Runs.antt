-- Runs one after another, and as more widths are told.
use Rattle.std.proofs.Common.{◌≡◌, ◌+◌, ◌++◌, ℕ, ℤ, Bool, List, [], ◌∷◌, Option, Some, None, refl, sym, ap, subst, ◌∙◌, append_assoc}
use Rattle.std.proofs.lemmas.List.{append-nil}
use Rattle.dv_base.specs.Rounding.{Fraction}
use Rattle.dv_base.specs.Shelf.{Told}
use Rattle.dv_base.specs.Tray.{Seen}
use Rattle.dvi_ops.specs.Command.{Command}
use Rattle.dvi_ops.specs.Command.Command.{Set, Put}
use Rattle.dvi_ops.specs.Placed.{Placed}
use Rattle.dvi_doc.specs.Document.{PageOf}
use Rattle.font_set.specs.Key.{Key}
use Rattle.font_set.specs.Fonts.{FontSet}
use Rattle.font_set.specs.Programs.{Named}
use Rattle.std.specs.Prelude.{slice_get}
use Rattle.dvitype_list.specs.Standing.{Standing, Setting, page_start}
use Rattle.dvitype_list.specs.Turns.{turned, set_by, put_by, width_in}
use Rattle.dvitype_list.specs.Listing.{Run, Course, then_text, go_on, then_run, one_run, line_of, commands_run, page_run, page_commands, pages_run}
use Rattle.dvitype_list.specs.Listing.Course.{Ends, Stops}
use Rattle.dvitype_list.specs.Texts.{page_line}
use Rattle.dvitype_list.specs.Kept.{Failed, GatheredFront, Stopped, Ran}
use Rattle.dvitype_list.specs.declared.fault.ListFault.{ListFault}
use Rattle.dvitype_list.specs.declared.fault.ListFault.TheVariants as fault
use Rattle.dvitype_list.specs.declared.state.State.{State}
use Rattle.dvitype_list.proofs.Gathering.{cut_longer, cut_is, gathered_is}

-- ---- runs one after another

then_assoc_by : (l t : List ℕ) (k : Course) (f : Standing → Run) → go_on (record { text = l ++ t; course = k }) k f ≡ then_text l (go_on (record { text = t; course = k }) k f)
then_assoc_by l t (Ends st) f = ap (λ (x : List ℕ). let r : Run = record { text = x; course = (f st).course } in r) (append_assoc l t (f st).text)
then_assoc_by l t (Stops c st) f = refl

pub then_assoc : (l : List ℕ) (r : Run) (f : Standing → Run) → then_run (then_text l r) f ≡ then_text l (then_run r f)
then_assoc l r f = then_assoc_by l r.text r.course f

ends_by : (r : Run) (k : Course) (b : Standing) (f : Standing → Run) → k ≡ Ends b → go_on r k f ≡ then_text r.text (f b)
ends_by r (Ends st) b f e = let s : st ≡ b = cc in ap (λ (x : Standing). then_text r.text (f x)) s
ends_by r (Stops c st) b f e = absurd cc

-- behind a run that ends, another
pub then_ends : (r : Run) (b : Standing) (f : Standing → Run) → r.course ≡ Ends b → then_run r f ≡ then_text r.text (f b)
then_ends r b f e = ends_by r r.course b f e

stops_by : (r : Run) (k : Course) (c : Placed) (st : Standing) (f : Standing → Run) → k ≡ Stops c st → go_on r k f ≡ r
stops_by r (Ends x) c st f e = absurd cc
stops_by r (Stops x y) c st f e = refl

pub then_stops : (r : Run) (c : Placed) (st : Standing) (f : Standing → Run) → r.course ≡ Stops c st → then_run r f ≡ r
then_stops r c st f e = stops_by r r.course c st f e

more_by : (r : Run) (k : Course) (f : Standing → Run) → (more : List ℕ) × (r.text ++ more ≡ (go_on r k f).text)
more_by r (Ends st) f = ((f st).text, refl)
more_by r (Stops c st) f = ([], append-nil r.text)

pub then_more : (r : Run) (f : Standing → Run) → (more : List ℕ) × (r.text ++ more ≡ (then_run r f).text)
then_more r f = more_by r r.course f

one_assoc : (d : Bool) (c : Placed) (st : Standing) (o : Option Standing) (f g : Standing → Run) → then_run (then_run (one_run d c st o) f) g ≡ then_run (one_run d c st o) (λ b. then_run (f b) g)
one_assoc d c st None f g = refl
one_assoc d c st (Some b) f g = then_assoc (line_of d c b.place) (f b) g

same_after : (d : Bool) (c : Placed) (st : Standing) (o : Option Standing) (f g : Standing → Run) → ((b : Standing) → f b ≡ g b) → then_run (one_run d c st o) f ≡ then_run (one_run d c st o) g
same_after d c st None f g h = refl
same_after d c st (Some b) f g h = ap (then_text (line_of d c b.place)) (h b)

-- commands and then others
pub run_append : (s : Setting) (d : Bool) (xs ys : List Placed) (st : Standing) → commands_run s d (xs ++ ys) st ≡ then_run (commands_run s d xs st) (commands_run s d ys)
unfolding commands_run
run_append s d [] ys st = refl
run_append s d (x ∷ xs) ys st =
    same_after d x st (turned s x.command st) (commands_run s d (xs ++ ys)) (λ b. then_run (commands_run s d xs b) (commands_run s d ys)) (run_append s d xs ys)
    ∙ sym (one_assoc d x st (turned s x.command st) (commands_run s d xs) (commands_run s d ys))

nil_then_by : (r : Run) (k : Course) → k ≡ r.course → go_on r k (λ b. record { text = []; course = Ends b }) ≡ r
nil_then_by r (Ends b) e = ap (λ (t : List ℕ). let q : Run = record { text = t; course = Ends b } in q) (append-nil r.text) ∙ ap (λ (x : Course). let q : Run = record { text = r.text; course = x } in q) e
nil_then_by r (Stops c st) e = refl

-- one command
pub run_one : (s : Setting) (d : Bool) (c : Placed) (st : Standing) → commands_run s d (c ∷ []) st ≡ one_run d c st (turned s c.command st)
unfolding commands_run
run_one s d c st = let r = one_run d c st (turned s c.command st) in nil_then_by r r.course refl

pub run_first : (s : Setting) (d : Bool) (c : Placed) (cs : List Placed) (st : Standing) → commands_run s d (c ∷ cs) st ≡ then_run (one_run d c st (turned s c.command st)) (commands_run s d cs)
unfolding commands_run
run_first s d c cs st = refl

pub run_none : (s : Setting) (d : Bool) (st : Standing) → commands_run s d [] st ≡ record { text = []; course = Ends st }
unfolding commands_run
run_none s d st = refl

-- ---- what is told later

-- each width that is told stays
abbrev pub AreKept : (Key → ℤ → Option ℤ) → (Key → ℤ → Option ℤ) → Type 0
AreKept w v = (key : Key) (z x : ℤ) → w key z ≡ Some x → v key z ≡ Some x

set_case : (f : Fraction) (st : Standing) (a b : Option ℤ) → ((x : ℤ) → a ≡ Some x → b ≡ Some x) → (r : Standing) → set_by f st a ≡ Some r → set_by f st b ≡ Some r
set_case f st None b h r e = absurd cc
set_case f st (Some x) b h r e = ap (set_by f st) (h x refl) ∙ e

put_case : (st : Standing) (a b : Option ℤ) → ((x : ℤ) → a ≡ Some x → b ≡ Some x) → (r : Standing) → put_by st a ≡ Some r → put_by st b ≡ Some r
put_case st None b h r e = absurd cc
put_case st (Some x) b h r e = ap (put_by st) (h x refl) ∙ e

module _ (f : Fraction) (ns : List Named) (w v : Key → ℤ → Option ℤ) (keeps : AreKept w v) where
  abbrev sooner : Setting
  sooner = record { pixels = f; fonts = ns; width = w }

  abbrev later : Setting
  later = record { pixels = f; fonts = ns; width = v }

  width_case : (font : Option Key) (z x : ℤ) → width_in sooner font z ≡ Some x → width_in later font z ≡ Some x
  width_case None z x e = absurd cc
  width_case (Some key) z x e = keeps key z x e

  pub turned_later : (c : Command) (st b : Standing) → turned sooner c st ≡ Some b → turned later c st ≡ Some b
  unfolding turned
  turned_later (Set z) st b e = set_case f st (width_in sooner st.font z) (width_in later st.font z) (width_case st.font z) b e
  turned_later (Put z) st b e = put_case st (width_in sooner st.font z) (width_in later st.font z) (width_case st.font z) b e
  turned_later _ st b e = e

  step_later : (d : Bool) (c : Placed) (st : Standing) (o p : Option Standing) → ((x : Standing) → o ≡ Some x → p ≡ Some x) → (m n : Standing → Run) → ((x y : Standing) → (m x).course ≡ Ends y → n x ≡ m x)
      → (b : Standing) → (then_run (one_run d c st o) m).course ≡ Ends b → then_run (one_run d c st p) n ≡ then_run (one_run d c st o) m
  step_later d c st None p h m n k b e = absurd cc
  step_later d c st (Some x) p h m n k b e = ap (λ (q : Option Standing). then_run (one_run d c st q) n) (h x refl) ∙ ap (then_text (line_of d c x.place)) (k x b e)

  -- a run that ends is the same later
  pub run_later : (d : Bool) (cs : List Placed) (st b : Standing) → (commands_run sooner d cs st).course ≡ Ends b → commands_run later d cs st ≡ commands_run sooner d cs st
  unfolding commands_run
  run_later d [] st b e = refl
  run_later d (c ∷ cs) st b e =
      step_later d c st (turned sooner c.command st) (turned later c.command st) (turned_later c.command st) (commands_run sooner d cs) (commands_run later d cs) (run_later d cs) b e

-- ---- faults

module _ (s : Setting) (set : FontSet) (told_old told_new : Told) (first now : Seen) (kept : List ℕ) where
  stopped_text : (l : List ℕ) (r : Run) (text : List ℕ) (e : ListFault) → Stopped r s set told_old told_new first now kept (text ++ l) e → Stopped (then_text l r) s set told_old told_new first now kept text e
  stopped_text l r text e h =
      record { command = h.command; standing = h.standing; stops = h.stops; why = h.why; gathered = gathered_is first now kept ((text ++ l) ++ r.text) (text ++ (l ++ r.text)) (append_assoc text l r.text) h.gathered }

  front_text : (l : List ℕ) (r : Run) (text : List ℕ) → GatheredFront first now kept (text ++ l) r.text → GatheredFront first now kept text (l ++ r.text)
  front_text l r text h =
      (l ++ h.0, h.1, append_assoc l h.0 h.1 ∙ ap (λ (x : List ℕ). l ++ x) h.2, gathered_is first now kept ((text ++ l) ++ h.0) (text ++ (l ++ h.0)) (append_assoc text l h.0) h.3)

  -- a fault behind a text is one of the text and what follows
  pub failed_text : (l : List ℕ) (r : Run) (text : List ℕ) (e : ListFault) → Failed r s set told_old told_new first now kept (text ++ l) e → Failed (then_text l r) s set told_old told_new first now kept text e
  failed_text l r text fault.WriteFault h = cut_is first now ((text ++ l) ++ r.text) (text ++ (l ++ r.text)) (append_assoc text l r.text) h
  failed_text l r text fault.OutOfMemory h = front_text l r text h
  failed_text l r text (fault.Load x) h = stopped_text l r text (fault.Load x) h
  failed_text l r text (fault.StackUnder x) h = stopped_text l r text (fault.StackUnder x) h
  failed_text l r text (fault.StackLeft x) h = stopped_text l r text (fault.StackLeft x) h
  failed_text l r text (fault.StackDeep x) h = stopped_text l r text (fault.StackDeep x) h
  failed_text l r text (fault.Overflow x) h = stopped_text l r text (fault.Overflow x) h

  -- a fault behind a run that ends
  pub failed_after : (r : Run) (f : Standing → Run) (b : Standing) (text : List ℕ) (e : ListFault) → r.course ≡ Ends b → Failed (f b) s set told_old told_new first now kept (text ++ r.text) e → Failed (then_run r f) s set told_old told_new first now kept text e
  failed_after r f b text e ends h = subst (λ (q : Run). Failed q s set told_old told_new first now kept text e) (sym (then_ends r b f ends)) (failed_text r.text (f b) text e h)

  stopped_first : (r : Run) (f : Standing → Run) (text : List ℕ) (e : ListFault) → Stopped r s set told_old told_new first now kept text e → Stopped (then_run r f) s set told_old told_new first now kept text e
  stopped_first r f text e h = subst (λ (q : Run). Stopped q s set told_old told_new first now kept text e) (sym (then_stops r h.command h.standing f h.stops)) h

  front_first : (r : Run) (f : Standing → Run) (text : List ℕ) → GatheredFront first now kept text r.text → GatheredFront first now kept text (then_run r f).text
  front_first r f text h =
      let m = then_more r f in
      (h.0, h.1 ++ m.0, sym (append_assoc h.0 h.1 m.0) ∙ ap (λ (x : List ℕ). x ++ m.0) h.2 ∙ m.1, h.3)

  -- a fault of a run is one of it and what follows
  pub failed_first : (r : Run) (f : Standing → Run) (text : List ℕ) (e : ListFault) → Failed r s set told_old told_new first now kept text e → Failed (then_run r f) s set told_old told_new first now kept text e
  failed_first r f text fault.WriteFault h =
      let m = then_more r f in cut_longer first now (text ++ r.text) m.0 (text ++ (then_run r f).text) (append_assoc text r.text m.0 ∙ ap (λ (x : List ℕ). text ++ x) m.1) h
  failed_first r f text fault.OutOfMemory h = front_first r f text h
  failed_first r f text (fault.Load x) h = stopped_first r f text (fault.Load x) h
  failed_first r f text (fault.StackUnder x) h = stopped_first r f text (fault.StackUnder x) h
  failed_first r f text (fault.StackLeft x) h = stopped_first r f text (fault.StackLeft x) h
  failed_first r f text (fault.StackDeep x) h = stopped_first r f text (fault.StackDeep x) h
  failed_first r f text (fault.Overflow x) h = stopped_first r f text (fault.Overflow x) h

  pub failed_is : (r q : Run) (text : List ℕ) (e : ListFault) → r ≡ q → Failed r s set told_old told_new first now kept text e → Failed q s set told_old told_new first now kept text e
  failed_is r q text e same h = subst (λ (x : Run). Failed x s set told_old told_new first now kept text e) same h

-- ---- runs that end

-- one run and then another
pub ran_after : (r : Run) (f : Standing → Run) (b : Standing) (set : FontSet) (state : State) (first now : Seen) (kept text : List ℕ) → r.course ≡ Ends b → Ran (f b) set state first now kept (text ++ r.text) → Ran (then_run r f) set state first now kept text
ran_after r f b set state first now kept text e h =
    subst (λ (q : Run). Ran q set state first now kept text) (sym (then_ends r b f e))
    (record { behind = h.behind; ends = h.ends; stands = h.stands; gathered = gathered_is first now kept ((text ++ r.text) ++ (f b).text) (text ++ (r.text ++ (f b).text)) (append_assoc text r.text (f b).text) h.gathered })

pub ran_is : (r q : Run) (set : FontSet) (state : State) (first now : Seen) (kept text : List ℕ) → r ≡ q → Ran r set state first now kept text → Ran q set state first now kept text
ran_is r q set state first now kept text e h = subst (λ (x : Run). Ran x set state first now kept text) e h

pub ran_text : (l : List ℕ) (r : Run) (set : FontSet) (state : State) (first now : Seen) (kept text : List ℕ) → Ran r set state first now kept (text ++ l) → Ran (then_text l r) set state first now kept text
ran_text l r set state first now kept text h =
    record { behind = h.behind; ends = h.ends; stands = h.stands; gathered = gathered_is first now kept ((text ++ l) ++ r.text) (text ++ (l ++ r.text)) (append_assoc text l r.text) h.gathered }

-- ---- pages

assoc_by : (r : Run) (k : Course) → k ≡ r.course → (f g : Standing → Run) → then_run (go_on r k f) g ≡ go_on r k (λ b. then_run (f b) g)
assoc_by r (Ends st) e f g = then_assoc r.text (f st) g
assoc_by r (Stops c st) e f g = ap (λ (x : Course). go_on r x g) (sym e)

pub run_assoc : (r : Run) (f g : Standing → Run) → then_run (then_run r f) g ≡ then_run r (λ b. then_run (f b) g)
run_assoc r f g = assoc_by r r.course refl f g

same_by : (r : Run) (k : Course) (f g : Standing → Run) → ((b : Standing) → f b ≡ g b) → go_on r k f ≡ go_on r k g
same_by r (Ends st) f g h = ap (then_text r.text) (h st)
same_by r (Stops c st) f g h = refl

pub pages_append : (s : Setting) (d : Bool) (ps : List PageOf) (xs ys : List ℕ) (st : Standing) → pages_run s d ps (xs ++ ys) st ≡ then_run (pages_run s d ps xs st) (pages_run s d ps ys)
unfolding pages_run
pages_append s d ps [] ys st = refl
pages_append s d ps (x ∷ xs) ys st =
    let r = page_run s d x (slice_get ps x) st.known in
    same_by r r.course (pages_run s d ps (xs ++ ys)) (λ b. then_run (pages_run s d ps xs b) (pages_run s d ps ys)) (pages_append s d ps xs ys)
    ∙ sym (run_assoc r (pages_run s d ps xs) (pages_run s d ps ys))

pub pages_none : (s : Setting) (d : Bool) (ps : List PageOf) (st : Standing) → pages_run s d ps [] st ≡ record { text = []; course = Ends st }
unfolding pages_run
pages_none s d ps st = refl

pub pages_one : (s : Setting) (d : Bool) (ps : List PageOf) (i : ℕ) (st : Standing) → pages_run s d ps (i ∷ []) st ≡ page_run s d i (slice_get ps i) st.known
unfolding pages_run
pages_one s d ps i st = let r = page_run s d i (slice_get ps i) st.known in nil_then_by r r.course refl

pub pages_first : (s : Setting) (d : Bool) (ps : List PageOf) (i : ℕ) (is : List ℕ) (st : Standing) → pages_run s d ps (i ∷ is) st ≡ then_run (page_run s d i (slice_get ps i) st.known) (pages_run s d ps is)
unfolding pages_run
pages_first s d ps i is st = refl

then_later : (r q : Run) (k : Course) → k ≡ r.course → (f g : Standing → Run) → ((x : Standing) → k ≡ Ends x → q ≡ r) → ((x y : Standing) → (f x).course ≡ Ends y → g x ≡ f x) → (b : Standing) → (go_on r k f).course ≡ Ends b → then_run q g ≡ go_on r k f
then_later r q (Ends x) e f g h k b ends = ap (λ (p : Run). then_run p g) (h x refl) ∙ ap (λ (y : Course). go_on r y g) (sym e) ∙ ap (then_text r.text) (k x b ends)
then_later r q (Stops c st) e f g h k b ends = absurd cc

module _ (f : Fraction) (ns : List Named) (w v : Key → ℤ → Option ℤ) (keeps : AreKept w v) where
  abbrev before : Setting
  before = record { pixels = f; fonts = ns; width = w }

  abbrev behind : Setting
  behind = record { pixels = f; fonts = ns; width = v }

  pub page_later : (d : Bool) (i : ℕ) (o : Option PageOf) (known : List Key) (b : Standing) → (page_run before d i o known).course ≡ Ends b → page_run behind d i o known ≡ page_run before d i o known
  page_later d i None known b e = refl
  page_later d i (Some p) known b e = ap (then_text (page_line (i + 1) p.at p.counts)) (run_later f ns w v keeps d (page_commands p) (page_start known) b e)

  pub pages_later : (d : Bool) (ps : List PageOf) (is : List ℕ) (st b : Standing) → (pages_run before d ps is st).course ≡ Ends b → pages_run behind d ps is st ≡ pages_run before d ps is st
  unfolding pages_run
  pages_later d ps [] st b e = refl
  pages_later d ps (i ∷ is) st b e =
      let r = page_run before d i (slice_get ps i) st.known in
      then_later r (page_run behind d i (slice_get ps i) st.known) r.course refl (pages_run before d ps is) (pages_run behind d ps is) (λ x ends. page_later d i (slice_get ps i) st.known x ends) (λ x y ends. pages_later d ps is x y ends) b e
