-- The commands of a listing with two sets of fonts: where all can be run with the one, they can with the other, up to a first one that
-- can't. No lemma here knows a job.
use Rattle.std.proofs.Common.{◌≡◌, ℕ, ℤ, Bool, List, [], ◌∷◌, length, Option, Some, None, refl, sym, ap, subst, ◌∙◌}
use Rattle.std.specs.Prelude.{slice_get}
use Rattle.dv_base.specs.Rounding.{Fraction}
use Rattle.dvi_ops.specs.Command.{Command, Definition}
use Rattle.dvi_ops.specs.Command.Command.{Bop, Down, Eop, Fnt, FntDef, Nop, Pop, Post, PostPost, Pre, Push, Put, PutRule, Right, Set, SetRule, W, W0, X, X0, Xxx, Y, Y0, Z, Z0}
use Rattle.dvi_ops.specs.Placed.{Placed}
use Rattle.dvi_doc.specs.Document.{Document, PageOf}
use Rattle.font_set.specs.Fonts.{FontSet}
use Rattle.font_set.specs.Key.{Key}
use Rattle.dvitype_list.specs.Listing.{Course, Run, commands_run, done_run, go_on, listing, one_run, page_commands, page_run, pages_run, then_run}
use Rattle.dvitype_list.specs.Listing.Course.{Ends, Stops}
use Rattle.dvitype_list.specs.Standing.{Standing, page_start}
use Rattle.dvitype_list.specs.Turns.{put_by, set_by, turned, width_in}
use Rattle.dvitype_list.specs.Widths.{setting, widths_of}

-- a command that sets no character
abbrev pub SetsNothing : Command → Type 0
SetsNothing (Set z) = ⊥
SetsNothing (Put z) = ⊥
SetsNothing _ = Unit {0}

some_same : {A : Type 0} (x y : A) → Some x ≡ Some y → x ≡ y
some_same x y e = cc

ends_same : (x y : Standing) → Ends x ≡ Ends y → x ≡ y
ends_same x y e = cc

stops_ends : (c : Placed) (st t : Standing) → Stops c st ≡ Ends t → ⊥
stops_ends c st t e = cc

module _ (f : Fraction) (ds : List Definition) (set fonts : FontSet) where
  -- it leaves the same with both
  pub same_turn : (c : Command) (st : Standing) → SetsNothing c → turned (setting f ds set) c st ≡ turned (setting f ds fonts) c st
  unfolding turned
  same_turn (Set z) st h = absurd h
  same_turn (Put z) st h = absurd h
  same_turn (Fnt k) st h = refl
  same_turn Push st h = refl
  same_turn Pop st h = refl
  same_turn Eop st h = refl
  same_turn (SetRule a b) st h = refl
  same_turn (PutRule a b) st h = refl
  same_turn Nop st h = refl
  same_turn (FntDef d) st h = refl
  same_turn (Right q) st h = refl
  same_turn W0 st h = refl
  same_turn (W q) st h = refl
  same_turn X0 st h = refl
  same_turn (X q) st h = refl
  same_turn (Down q) st h = refl
  same_turn Y0 st h = refl
  same_turn (Y q) st h = refl
  same_turn Z0 st h = refl
  same_turn (Z q) st h = refl
  same_turn (Xxx text) st h = refl
  same_turn (Bop counts back) st h = refl
  same_turn (Pre head) st h = refl
  same_turn (Post tail) st h = refl
  same_turn (PostPost back id) st h = refl

  -- the first set stops before the command, the other one doesn't
  pub record Parts (c : Placed) (st : Standing) : Type 0 where
    pub none : turned (setting f ds set) c.command st ≡ None
    pub behind : Standing
    pub goes : turned (setting f ds fonts) c.command st ≡ Some behind

  -- how commands end with the first set that end so with the other
  abbrev pub Beside : Course → Standing → Type 0
  Beside (Ends u) t = u ≡ t
  Beside (Stops c st) t = Parts c st

  abbrev pub AreBeside : Run → Run → Type 0
  AreBeside r q = (t : Standing) → q.course ≡ Ends t → Beside r.course t

  then_beside : (r q : Run) (g h : Standing → Run) → AreBeside r q → ((v : Standing) → AreBeside (g v) (h v)) → AreBeside (then_run r g) (then_run q h)
  then_beside r q g h first next t = by r.course q.course refl refl
    where
      by : (x y : Course) → r.course ≡ x → q.course ≡ y → (go_on q y h).course ≡ Ends t → Beside (go_on r x g).course t
      by x (Stops c st) e d k = absurd (stops_ends c st t (sym d ∙ k))
      by (Ends u) (Ends v) e d k =
          let same : u ≡ v = subst (λ (z : Course). Beside z v) e (first v d) in
          subst (λ (z : Standing). Beside (g z).course t) (sym same) (next v t k)
      by (Stops c st) (Ends v) e d k =
          let parts : Parts c st = subst (λ (z : Course). Beside z v) e (first v d) in
          subst (λ (z : Course). Beside z t) (sym e) parts

  module _ (agree : (key : Key) (z x y : ℤ) → widths_of set key z ≡ Some x → widths_of fonts key z ≡ Some y → x ≡ y) where
    set_same : (st u t : Standing) (z : ℤ) (key : Option Key) (a b : Option ℤ) → ((x y : ℤ) → a ≡ Some x → b ≡ Some y → x ≡ y) → set_by f st a ≡ Some u → set_by f st b ≡ Some t → u ≡ t
    set_same st u t z key None b h d e = absurd cc
    set_same st u t z key (Some x) None h d e = absurd cc
    set_same st u t z key (Some x) (Some y) h d e = some_same u t (sym d ∙ ap (λ (w : ℤ). set_by f st (Some w)) (h x y refl refl) ∙ e)

    put_same : (st u t : Standing) (a b : Option ℤ) → put_by st a ≡ Some u → put_by st b ≡ Some t → u ≡ t
    put_same st u t None b d e = absurd cc
    put_same st u t (Some x) None d e = absurd cc
    put_same st u t (Some x) (Some y) d e = some_same u t (sym d ∙ e)

    set_turns : (z : ℤ) (st u t : Standing) → turned (setting f ds set) (Set z) st ≡ Some u → turned (setting f ds fonts) (Set z) st ≡ Some t → u ≡ t
    unfolding turned
    set_turns z st u t d e = by st.font d e
      where
        by : (k : Option Key) → set_by f st (width_in (setting f ds set) k z) ≡ Some u → set_by f st (width_in (setting f ds fonts) k z) ≡ Some t → u ≡ t
        by None d e = absurd cc
        by (Some key) d e = set_same st u t z (Some key) (widths_of set key z) (widths_of fonts key z) (agree key z) d e

    put_turns : (z : ℤ) (st u t : Standing) → turned (setting f ds set) (Put z) st ≡ Some u → turned (setting f ds fonts) (Put z) st ≡ Some t → u ≡ t
    unfolding turned
    put_turns z st u t d e = put_same st u t (width_in (setting f ds set) st.font z) (width_in (setting f ds fonts) st.font z) d e

    other_turns : (c : Command) (st u t : Standing) → SetsNothing c → turned (setting f ds set) c st ≡ Some u → turned (setting f ds fonts) c st ≡ Some t → u ≡ t
    other_turns c st u t h d e = some_same u t (sym d ∙ same_turn c st h ∙ e)

    turns : (c : Command) (st u t : Standing) → turned (setting f ds set) c st ≡ Some u → turned (setting f ds fonts) c st ≡ Some t → u ≡ t
    turns (Set z) st u t d e = set_turns z st u t d e
    turns (Put z) st u t d e = put_turns z st u t d e
    turns (Fnt k) st u t d e = other_turns (Fnt k) st u t tt d e
    turns Push st u t d e = other_turns Push st u t tt d e
    turns Pop st u t d e = other_turns Pop st u t tt d e
    turns Eop st u t d e = other_turns Eop st u t tt d e
    turns (SetRule a b) st u t d e = other_turns (SetRule a b) st u t tt d e
    turns (PutRule a b) st u t d e = other_turns (PutRule a b) st u t tt d e
    turns Nop st u t d e = other_turns Nop st u t tt d e
    turns (FntDef x) st u t d e = other_turns (FntDef x) st u t tt d e
    turns (Right q) st u t d e = other_turns (Right q) st u t tt d e
    turns W0 st u t d e = other_turns W0 st u t tt d e
    turns (W q) st u t d e = other_turns (W q) st u t tt d e
    turns X0 st u t d e = other_turns X0 st u t tt d e
    turns (X q) st u t d e = other_turns (X q) st u t tt d e
    turns (Down q) st u t d e = other_turns (Down q) st u t tt d e
    turns Y0 st u t d e = other_turns Y0 st u t tt d e
    turns (Y q) st u t d e = other_turns (Y q) st u t tt d e
    turns Z0 st u t d e = other_turns Z0 st u t tt d e
    turns (Z q) st u t d e = other_turns (Z q) st u t tt d e
    turns (Xxx text) st u t d e = other_turns (Xxx text) st u t tt d e
    turns (Bop counts back) st u t d e = other_turns (Bop counts back) st u t tt d e
    turns (Pre head) st u t d e = other_turns (Pre head) st u t tt d e
    turns (Post tail) st u t d e = other_turns (Post tail) st u t tt d e
    turns (PostPost back id) st u t d e = other_turns (PostPost back id) st u t tt d e

    -- one command
    one_beside : (detail : Bool) (c : Placed) (st : Standing) → AreBeside (one_run detail c st (turned (setting f ds set) c.command st)) (one_run detail c st (turned (setting f ds fonts) c.command st))
    one_beside detail c st t = by (turned (setting f ds set) c.command st) (turned (setting f ds fonts) c.command st) refl refl
      where
        by : (a b : Option Standing) → turned (setting f ds set) c.command st ≡ a → turned (setting f ds fonts) c.command st ≡ b → (one_run detail c st b).course ≡ Ends t → Beside (one_run detail c st a).course t
        by a None d e k = absurd (stops_ends c st t k)
        by None (Some v) d e k = record { none = d; behind = v; goes = e }
        by (Some u) (Some v) d e k = turns c.command st u v d e ∙ ends_same v t k

    -- commands one after another
    commands_beside : (detail : Bool) (cs : List Placed) (st : Standing) → AreBeside (commands_run (setting f ds set) detail cs st) (commands_run (setting f ds fonts) detail cs st)
    unfolding commands_run
    commands_beside detail [] st = λ t k. ends_same st t k
    commands_beside detail (c ∷ cs) st =
        then_beside (one_run detail c st (turned (setting f ds set) c.command st)) (one_run detail c st (turned (setting f ds fonts) c.command st)) (commands_run (setting f ds set) detail cs) (commands_run (setting f ds fonts) detail cs) (one_beside detail c st)
        (commands_beside detail cs)

    page_beside : (detail : Bool) (i : ℕ) (o : Option PageOf) (known : List Key) → AreBeside (page_run (setting f ds set) detail i o known) (page_run (setting f ds fonts) detail i o known)
    page_beside detail i None known = λ t k. ends_same (page_start known) t k
    page_beside detail i (Some p) known = commands_beside detail (page_commands p) (page_start known)

    pages_beside : (detail : Bool) (pages : List PageOf) (places : List ℕ) (st : Standing) → AreBeside (pages_run (setting f ds set) detail pages places st) (pages_run (setting f ds fonts) detail pages places st)
    unfolding pages_run
    pages_beside detail pages [] st = λ t k. ends_same st t k
    pages_beside detail pages (i ∷ is) st =
        then_beside (page_run (setting f ds set) detail i (slice_get pages i) st.known) (page_run (setting f ds fonts) detail i (slice_get pages i) st.known) (pages_run (setting f ds set) detail pages is) (pages_run (setting f ds fonts) detail pages is)
        (page_beside detail i (slice_get pages i) st.known) (pages_beside detail pages is)

    -- a whole listing
    pub listings_beside : (detail : Bool) (d : Document) (mag : ℤ) (places : List ℕ) → AreBeside (listing (setting f ds set) detail d mag places) (listing (setting f ds fonts) detail d mag places)
    unfolding listing
    listings_beside detail d mag places =
        then_beside (pages_run (setting f ds set) detail d.pages places (page_start [])) (pages_run (setting f ds fonts) detail d.pages places (page_start [])) (done_run (length places)) (done_run (length places))
        (pages_beside detail d.pages places (page_start [])) (λ v t k. ends_same v t k)
