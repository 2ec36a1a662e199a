-- What stays when a set grows.
use Rattle.std.proofs.Common.{◌≡◌, ◌<◌, ◌+◌, ◌⊎◌, inl, inr, ℕ, zero, suc, arith, List, [], ◌∷◌, Bool, true, false, length, Option, Some, None, slice_index_or, slice_set, refl, sym, ap, subst, ◌∙◌, nat_eq}
use Rattle.dv_base.specs.declared.units.Units.{Units}
use Rattle.font_set.specs.Key.{Key}
use Rattle.std.proofs.lemmas.Bool.Decides.{nat_tests}
use Rattle.font_set.specs.Fonts.{State, FontSet, place_of, state_at, size_at, packet_at, packet_in, size_in, state_in, IsLoaded}
use Rattle.font_set.specs.Programs.{Program, program_at, program_in}
use Rattle.font_set.specs.Frames.{Char, acts_of, acts_of_packet, acts_from, body, body_at}
use Rattle.font_set.specs.Acts.Act.{Runs}
use Rattle.font_set.specs.Covers.{IsGood, IsShown, IsShownAt}
use Rattle.font_set.specs.Found.{unmarked}
use Rattle.font_set.specs.Growth.{Extends}
use Rattle.font_set.specs.Search.{program_of, program_or, or_empty, bytes_of, bytes_or, IsHome, IsSel, rooted, root}
use Rattle.font_set.specs.declared.agenda.Home.{Home}
use Rattle.font_set.specs.declared.agenda.Home.TheVariants as home

pub extends_self : (F : FontSet) → Extends F F
extends_self F = record { units = refl; want = refl; more = omega arith; keys = λ k i e. e; same = λ i l. refl }

pub state_later : (F G : FontSet) (i : ℕ) → Extends F G → IsLoaded (state_at F i) → state_at G i ≡ state_at F i
unfolding state_at
state_later F G i x l = ap state_in (x.same i l)

pub size_later : (F G : FontSet) (i : ℕ) → Extends F G → IsLoaded (state_at F i) → size_at G i ≡ size_at F i
unfolding size_at
size_later F G i x l = ap size_in (x.same i l)

pub loaded_later : (F G : FontSet) (i : ℕ) → Extends F G → IsLoaded (state_at F i) → IsLoaded (state_at G i)
loaded_later F G i x l = subst IsLoaded (sym (state_later F G i x l)) l

pub extends_on : (F G H : FontSet) → Extends F G → Extends G H → Extends F H
extends_on F G H x y =
    record {
      units = y.units ∙ x.units;
      want = y.want ∙ x.want;
      more = omega (arith, x.more, y.more);
      keys = λ k i e. y.keys k i (x.keys k i e);
      same = λ i l. y.same i (loaded_later F G i x l) ∙ x.same i l;
    }

pub program_later : (F G : FontSet) (i code : ℕ) → Extends F G → IsLoaded (state_at F i) → program_at G i code ≡ program_at F i code
unfolding program_at
program_later F G i code x l =
    ap (λ (u : Units). program_in u (size_at G i) (state_at G i) code) x.units
    ∙ ap (λ (n : ℕ). program_in F.units n (state_at G i) code) (size_later F G i x l)
    ∙ ap (λ (s : State). program_in F.units (size_at F i) s code) (state_later F G i x l)

pub packet_later : (F G : FontSet) (i code : ℕ) → Extends F G → IsLoaded (state_at F i) → packet_at G i code ≡ packet_at F i code
unfolding packet_at
packet_later F G i code x l = ap (λ (s : State). packet_in s code) (state_later F G i x l)

-- frames of loaded fonts
pub program_same : (F G : FontSet) (page : Program) (h : Home) → Extends F G → IsHome F h → program_of G page h ≡ program_of F page h
program_same F G page home.Page x l = refl
program_same F G page (home.Packet id code) x l = ap or_empty (program_later F G id code x l.1)

pub bytes_same : (F G : FontSet) (bytes : List ℕ) (h : Home) → Extends F G → IsHome F h → bytes_of G bytes h ≡ bytes_of F bytes h
bytes_same F G bytes home.Page x l = refl
bytes_same F G bytes (home.Packet id code) x l = ap bytes_or (packet_later F G id code x l.1)

pub home_later : (F G : FontSet) (h : Home) → Extends F G → IsHome F h → IsHome G h
home_later F G home.Page x l = tt
home_later F G (home.Packet id code) x l = (omega (arith, x.more, l.0), loaded_later F G id x l.1)

pub sel_later : (F G : FontSet) (sel : Option Key) (font : Option ℕ) → Extends F G → IsSel F sel font → IsSel G sel font
sel_later F G None None x s = tt
sel_later F G None (Some i) x s = s
sel_later F G (Some k) None x s = s
sel_later F G (Some k) (Some i) x s = x.keys k i s

-- a character that can be shown
pub shown_loaded : (s : State) (code : ℕ) → IsShown s code → IsLoaded s
shown_loaded State.Known code h = h
shown_loaded (State.Real tfm pk) code h = tt
shown_loaded (State.Virtual tfm vf) code h = tt

pub good_place : (F : FontSet) (ch : Char) → IsGood F (Runs ch) → (id : ℕ) × (place_of F.fonts ch.key ≡ Some id) × IsShown (state_at F id) ch.code
good_place F ch g = by (place_of F.fonts ch.key) refl g.1
  where
    by : (o : Option ℕ) → place_of F.fonts ch.key ≡ o → IsShownAt F o ch.code → (id : ℕ) × (place_of F.fonts ch.key ≡ Some id) × IsShown (state_at F id) ch.code
    by None e h = absurd h
    by (Some id) e h = (id, e, h)

pub good_of : (F : FontSet) (ch : Char) (id : ℕ) → ch.code < 256 → place_of F.fonts ch.key ≡ Some id → IsShown (state_at F id) ch.code → IsGood F (Runs ch)
good_of F ch id l e h = (l, subst (λ (o : Option ℕ). IsShownAt F o ch.code) (sym e) h)

pub good_later : (F G : FontSet) (ch : Char) → Extends F G → IsGood F (Runs ch) → IsGood G (Runs ch)
good_later F G ch x g =
    let p = good_place F ch g in
    let l = shown_loaded (state_at F p.0) ch.code p.2 in
    good_of G ch p.0 g.0 (x.keys ch.key p.0 p.1) (subst (λ (s : State). IsShown s ch.code) (sym (state_later F G p.0 x l)) p.2)

pub body_is : (F : FontSet) (ch : Char) (id : ℕ) → place_of F.fonts ch.key ≡ Some id → body F ch ≡ acts_of (program_or F id ch.code)
unfolding body acts_from
body_is F ch id e = ap (λ (o : Option ℕ). body_at F o ch.code) e ∙ by (program_at F id ch.code)
  where
    by : (o : Option Program) → acts_of_packet o ≡ acts_of (or_empty o)
    by None = refl
    by (Some p) = refl

no_root : (c : ℕ) → c < 256 → nat_eq c 256 ≡ false
no_root c l = grind (arith, nat_tests)

pub rooted_char : (page : Program) (F : FontSet) (ch : Char) → ch.code < 256 → rooted page F ch ≡ body F ch
unfolding rooted
rooted_char page F ch l = rw (no_root ch.code l) refl

pub rooted_root : (page : Program) (F : FontSet) → rooted page F root ≡ acts_of page
unfolding rooted
rooted_root page F = refl

-- the frame of a character that can be shown is the same later
pub rooted_is : (page : Program) (F G : FontSet) (ch : Char) (id : ℕ) → Extends F G → ch.code < 256 → place_of F.fonts ch.key ≡ Some id → IsLoaded (state_at F id) → rooted page G ch ≡ acts_of (program_or F id ch.code)
rooted_is page F G ch id x l e d =
    rooted_char page G ch l ∙ body_is G ch id (x.keys ch.key id e) ∙ ap (λ (o : Option Program). acts_of (or_empty o)) (program_later F G id ch.code x d)

pub marked_split : (vs : List Bool) (q r : ℕ) → slice_index_or (slice_set vs q true) r false ≡ true → (slice_index_or vs r false ≡ true) ⊎ (r ≡ q)
marked_split [] q r h = inl h
marked_split (v ∷ vs) zero zero h = inr refl
marked_split (v ∷ vs) zero (suc r) h = inl h
marked_split (v ∷ vs) (suc q) zero h = inl h
marked_split (v ∷ vs) (suc q) (suc r) h = elim (marked_split vs q r h) [ inl k ↦ inl k | inr e ↦ inr (ap suc e) ]

pub mark_read : (vs : List Bool) (p : ℕ) (r : Bool) → p < length vs → r ≡ slice_index_or vs p r → slice_index_or vs p false ≡ r
mark_read [] p r h e = absurd (omega arith)
mark_read (v ∷ vs) zero r h e = sym e
mark_read (v ∷ vs) (suc p) r h e = mark_read vs p r (omega arith) e

-- ---- the measure

pub unmarked_less : (vs : List Bool) (q : ℕ) → q < length vs → slice_index_or vs q false ≡ false → unmarked vs ≡ unmarked (slice_set vs q true) + 1
unmarked_less [] q h e = absurd (omega arith)
unmarked_less (v ∷ vs) zero h e = rw e (omega arith)
unmarked_less (v ∷ vs) (suc q) h e = omega (arith, unmarked_less vs q (omega arith) e)
