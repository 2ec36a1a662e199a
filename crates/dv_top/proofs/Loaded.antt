-- Fonts that are loaded page by page.
use Rattle.std.proofs.Common.{◌≡◌, ◌+◌, append_assoc, ℕ, ℤ, pos, List, [], ◌∷◌, ◌++◌, take, Option, Some, None, refl, sym, ap, subst, ◌∙◌, inl, inr}
use Rattle.std.specs.Prelude.{slice_get, fold}
use Rattle.std.proofs.lemmas.List.{append-nil}
use Rattle.std.proofs.lemmas.List.Sums.{fold-append}
use Rattle.indexmap.specs.IndexSet.{insert_key}
use Rattle.dv_base.specs.Shelf.{Contents, Keeps, Told}
use Rattle.dv_base.specs.declared.font_id.Spot.{Spot}
use Rattle.dv_base.specs.declared.font_id.Spot.TheVariants as spot
use Rattle.dvi_ops.specs.Command.{Definition}
use Rattle.dvi_doc.specs.Document.{PageOf}
use Rattle.font_set.specs.Covers.{Covers}
use Rattle.font_set.specs.Expand.{Expanded, expand, keys_of}
use Rattle.font_set.specs.Fonts.{FontSet}
use Rattle.font_set.specs.Frames.{acts_of}
use Rattle.font_set.specs.Gains.{GainsFor}
use Rattle.font_set.specs.Growth.{Extends, keys_now}
use Rattle.font_set.specs.Key.{Key, same_key}
use Rattle.font_set.specs.Laws.{CoversLater, InOrderOfTree}
use Rattle.font_set.specs.LoadFaults.{InFrame, InSome, LoadFaultIs, MustKnow, MustLoad, SetsIn}
use Rattle.font_set.specs.Programs.{Program, id_of}
use Rattle.font_set.specs.Search.{InOrder}
use Rattle.font_set.specs.Shapes.{shapes_of}
use Rattle.font_set.specs.declared.fault.LoadFault.{LoadFault}
use Rattle.font_set.specs.declared.fault.LoadFault.TheVariants as load
use Rattle.font_set.proofs.Gaining.{gains_on, gains_self, gains_wider}
use Rattle.font_set.proofs.Growing.{extends_on}
use Rattle.font_set.proofs.Ids.{id_below}
use Rattle.font_set.proofs.Later.{must_know_later, must_load_later}
use Rattle.font_set.proofs.Telling.{fault_before}
use Rattle.vf_expand.specs.Given.{IsSpotGiven}
use Rattle.vf_expand.specs.Page.{page_acts}
use Rattle.vf_expand.specs.Pages.{most_nested}
use Rattle.dv_top.specs.Covered.{CoversPages, Expands, keys_or_none, selected_keys}
use Rattle.dv_top.specs.Each.{Any, Each}
use Rattle.dv_top.specs.Given.{IsGiven, LoadNamesGiven}
use Rattle.dv_top.specs.Loading.{GainsPages, IsLoadReason, Orders}
use Rattle.dv_top.specs.Sources.{frame_of}
use Rattle.dv_top.specs.Tells.{LoadTells}
use Rattle.dv_top.specs.declared.outcome.Outcome.{Outcome}
use Rattle.dv_top.proofs.Lists.{any_all, any_as, any_at, any_behind, any_front, each_as, each_behind, each_front, each_more, take_more}

-- ---- fonts cover pages

pub covers_more : CoversLater → (ds : List Definition) (pages : List PageOf) (k : ℕ) (p : PageOf) (old new : FontSet) → slice_get pages k ≡ Some p → Extends old new
    → CoversPages old ds (take k pages) → Covers new (page_acts ds p.commands) → CoversPages new ds (take (k + 1) pages)
covers_more law ds pages k p old new at more h here =
    each_more (λ (q : PageOf). Covers new (page_acts ds q.commands)) pages k p at
    (each_as (λ (q : PageOf). Covers old (page_acts ds q.commands)) (λ (q : PageOf). Covers new (page_acts ds q.commands)) (λ q. law old new (page_acts ds q.commands) more) (take k pages) h) here

-- ---- what is gained

pub gains_none : (told : Told) (ds : List Definition) (pages : List PageOf) (set : FontSet) → GainsPages told ds pages set set
gains_none told ds pages set = gains_self told.held set _ _

-- a page more
pub gains_more : (told : Told) (ds : List Definition) (pages : List PageOf) (k : ℕ) (p : PageOf) (a b c : FontSet) → slice_get pages k ≡ Some p
    → GainsPages told ds (take k pages) a b → GainsFor told.held b c (frame_of ds p) → GainsPages told ds (take (k + 1) pages) a c
gains_more told ds pages k p a b c at x y =
    let L : ℕ → Type 0 = λ id. Any (λ (q : PageOf). MustLoad c (frame_of ds q) id) (take (k + 1) pages) in
    let K : Key → Type 0 = λ key. Any (λ (q : PageOf). MustKnow c (frame_of ds q) key) (take (k + 1) pages) in
    gains_on told.held a b c _ L _ K
    (λ id h.
    subst (Any (λ (q : PageOf). MustLoad c (frame_of ds q) id)) (sym (take_more pages k p at))
    (any_front (λ (q : PageOf). MustLoad c (frame_of ds q) id) (take k pages) (p ∷ []) (any_as _ _ (λ q. must_load_later b c (frame_of ds q) id y.extends) (take k pages) h)))
    (λ key h.
    subst (Any (λ (q : PageOf). MustKnow c (frame_of ds q) key)) (sym (take_more pages k p at))
    (any_front (λ (q : PageOf). MustKnow c (frame_of ds q) key) (take k pages) (p ∷ []) (any_as _ _ (λ q. must_know_later b c (frame_of ds q) key y.extends) (take k pages) h)))
    x
    (gains_wider told.held b c _ L _ K
    (λ id h. subst (Any (λ (q : PageOf). MustLoad c (frame_of ds q) id)) (sym (take_more pages k p at)) (any_behind (λ (q : PageOf). MustLoad c (frame_of ds q) id) (take k pages) (p ∷ []) (inl h)))
    (λ key h. subst (Any (λ (q : PageOf). MustKnow c (frame_of ds q) key)) (sym (take_more pages k p at)) (any_behind (λ (q : PageOf). MustKnow c (frame_of ds q) key) (take k pages) (p ∷ []) (inl h)))
    y)

-- what is gained for the first pages is gained for all
pub gains_all : (told : Told) (ds : List Definition) (pages : List PageOf) (n : ℕ) (a b : FontSet) → GainsPages told ds (take n pages) a b → GainsPages told ds pages a b
gains_all told ds pages n a b x =
    gains_wider told.held a b _ _ _ _ (λ id. any_all (λ (q : PageOf). MustLoad b (frame_of ds q) id) pages n) (λ key. any_all (λ (q : PageOf). MustKnow b (frame_of ds q) key) pages n) x

-- a shelf that tells the same
pub gains_for_told : (a b : Told) (page : Program) (old new : FontSet) → Keeps a b → GainsFor b.held old new page → GainsFor a.held old new page
gains_for_told a b page old new k x = subst (λ (h : Option Contents). GainsFor h old new page) k.held_same x

-- ---- the order

selected_append : (set : FontSet) (ds : List Definition) (xs ys : List PageOf) → selected_keys set ds (xs ++ ys) ≡ selected_keys set ds xs ++ selected_keys set ds ys
selected_append set ds [] ys = refl
selected_append set ds (x ∷ xs) ys =
    ap (λ (ks : List Key). keys_or_none (expand (shapes_of set) most_nested (frame_of ds x)) ++ ks) (selected_append set ds xs ys)
    ∙ sym (append_assoc (keys_or_none (expand (shapes_of set) most_nested (frame_of ds x))) (selected_keys set ds xs) (selected_keys set ds ys))

pub orders_none : (ds : List Definition) (pages : List PageOf) (set : FontSet) → Orders ds (take 0 pages) set set
orders_none ds [] set = λ later x each. refl
orders_none ds (p ∷ ps) set = λ later x each. refl

pub orders_more : InOrderOfTree → (ds : List Definition) (pages : List PageOf) (k : ℕ) (p : PageOf) (a b c : FontSet) → slice_get pages k ≡ Some p → Extends b c
    → Orders ds (take k pages) a b → InOrder b c (frame_of ds p) → Covers c (page_acts ds p.commands) → Orders ds (take (k + 1) pages) a c
orders_more law ds pages k p a b c at more h order covers later grown each =
    let both : Each (Expands later ds) (take k pages ++ p ∷ []) = subst (Each (Expands later ds)) (take_more pages k p at) each in
    let here : Expands later ds p = (each_behind (Expands later ds) (take k pages) (p ∷ []) both).0 in
    let before : keys_now b ≡ fold (insert_key same_key) (keys_now a) (selected_keys later ds (take k pages)) =
    h later (extends_on b c later more grown) (each_front (Expands later ds) (take k pages) (p ∷ []) both) in
    let now : keys_now c ≡ fold (insert_key same_key) (keys_now b) (keys_of here.0) = law b c later (frame_of ds p) order covers grown most_nested here.0 here.1 in
    let one : selected_keys later ds (p ∷ []) ≡ keys_of here.0 = ap (λ (o : Option Expanded). keys_or_none o ++ []) here.1 ∙ append-nil (keys_of here.0) in
    let all : selected_keys later ds (take (k + 1) pages) ≡ selected_keys later ds (take k pages) ++ keys_of here.0 =
    ap (selected_keys later ds) (take_more pages k p at) ∙ selected_append later ds (take k pages) (p ∷ []) ∙ ap (λ (ks : List Key). selected_keys later ds (take k pages) ++ ks) one in
    now
    ∙ ap (λ (ks : List Key). fold (insert_key same_key) ks (keys_of here.0)) before
    ∙ sym (fold-append (insert_key same_key) (keys_now a) (selected_keys later ds (take k pages)) (keys_of here.0))
    ∙ ap (fold (insert_key same_key) (keys_now a)) (sym all)

-- ---- faults

pub load_reason : (set : FontSet) (ds : List Definition) (pages : List PageOf) (k : ℕ) (p : PageOf) (a b c : Told) (fault : LoadFault) (o : Outcome) → slice_get pages k ≡ Some p → Keeps a b
    → LoadTells set fault o → LoadFaultIs set (frame_of ds p) b c fault → IsLoadReason set ds pages a c o
load_reason set ds pages k p a b c fault o at kept tells is =
    (fault, tells, any_at (λ (q : PageOf). LoadFaultIs set (frame_of ds q) a c fault) pages k p at (fault_before set (frame_of ds p) a b c kept fault is))

sel_given : (set : FontSet) (sel : Option Key) (id : ℕ) → id_of set sel ≡ Some id → IsGiven set id
sel_given set None id e = absurd (cc)
sel_given set (Some key) id e = id_below set.fonts key id e

some_given : (set : FontSet) (page : Program) (id : ℕ) (z : ℤ) → InSome set page (SetsIn set id z) → IsGiven set id
some_given set page id z (inl h) = sel_given set h.1.sel id h.3
some_given set page id z (inr h) = sel_given set h.4.1.sel id h.4.3

spot_given : (set : FontSet) (page : Program) (s : Spot) (P : Program → ℕ → Type 0) → InFrame set page s P → IsSpotGiven set s
spot_given set page (spot.Page at) P h = tt
spot_given set page (spot.Packet id code at) P h = id_below set.fonts h.1.char.key id h.1.font

-- the fonts that a fault names are known
pub load_given : (set : FontSet) (page : Program) (a b : Told) (fault : LoadFault) → LoadFaultIs set page a b fault → LoadNamesGiven set fault
load_given set page a b (load.UndefinedFont s) h = spot_given set page s _ h
load_given set page a b (load.NoFont s) h = spot_given set page s _ h
load_given set page a b (load.NoChar id z) h = some_given set page id z h.0
load_given set page a b (load.NoPacket id code) h = some_given set page id (pos code) h.0
load_given set page a b (load.NoGlyph id code) h = some_given set page id (pos code) h.0
load_given set page a b (load.GlyphTooBig id code bytes) h = some_given set page id (pos code) h.0
load_given set page a b (load.Font f) h = tt

-- ---- one page, by its place in the document that was read

module _ (ta tb tc : Told) (ds : List Definition) (pages : List PageOf) (k : ℕ) (p : PageOf) (a b c : FontSet) (page : Program) (at : slice_get pages k ≡ Some p) (same : page ≡ frame_of ds p) (kept : Keeps ta tb) where
  pub page_gains : GainsPages ta ds (take k pages) a b → GainsFor tb.held b c page → GainsPages ta ds (take (k + 1) pages) a c
  page_gains x y = gains_more ta ds pages k p a b c at x (gains_for_told ta tb (frame_of ds p) b c kept (subst (GainsFor tb.held b c) same y))

  pub page_covers : CoversLater → Extends b c → CoversPages b ds (take k pages) → Covers c (acts_of page) → CoversPages c ds (take (k + 1) pages)
  page_covers law more x y = covers_more law ds pages k p b c at more x (subst (λ (q : Program). Covers c (acts_of q)) same y)

  pub page_orders : InOrderOfTree → Extends b c → Orders ds (take k pages) a b → InOrder b c page → Covers c (acts_of page) → Orders ds (take (k + 1) pages) a c
  page_orders law more x y z = orders_more law ds pages k p a b c at more x (subst (InOrder b c) same y) (subst (λ (q : Program). Covers c (acts_of q)) same z)

  pub page_reason : (fault : LoadFault) (o : Outcome) → LoadTells c fault o → LoadFaultIs c page tb tc fault → IsLoadReason c ds pages ta tc o
  page_reason fault o tells is = load_reason c ds pages k p ta tb tc fault o at kept tells (subst (λ (q : Program). LoadFaultIs c q tb tc fault) same is)
