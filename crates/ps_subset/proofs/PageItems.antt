-- The lines of a page's items give its events.
use Rattle.std.proofs.Common.{◌≡◌, refl, ap, sym, ◌∙◌, subst, ℕ, suc, ◌+◌, ◌<◌, ◌≤◌, ◌^◌, List, [], ◌∷◌, ◌++◌, length, Option, Some, None, arith, Bool, true, false}
use Rattle.std.specs.Prelude.{codes, ℤ, pos, negsuc, ◌+ℤ◌, ◌-ℤ◌, nat_eq, slice_set, bytes_eq, if◌then◌else◌}
use Rattle.std.proofs.lemmas.Bool.Decides.{nat_tests}
use Rattle.std.proofs.lemmas.Int.{ints}
use Rattle.std.proofs.lemmas.List.{append-nil}
use Rattle.ps_subset.specs.Fraction.{whole, same_ℤ}
use Rattle.ps_subset.specs.State.{Object, Number, Text, Dictionary, Entry, Entries, Machine, Event, TextShown, with_entry}
use Rattle.ps_subset.specs.Run.{Value, meaning_in, meet}
use Rattle.ps_subset.specs.Prolog.{line}
use Rattle.ps_subset.specs.Job.{Job, IsGoodJob, IsInRange, pixel_place, rule_mask}
use Rattle.ps_subset.specs.Lines.{signed_field}
use Rattle.ps_subset.specs.Conditions.{HasProlog, OnTop, TakesKey, put_entry, job_frame}
use Rattle.ps_subset.specs.Fonts.{Letter, Font, font_name, string_masks, string_end, letter_codes}
use Rattle.ps_subset.specs.FontConditions.{IsFont, AllHeld}
use Rattle.ps_subset.specs.FontNameLaws.{gone}
use Rattle.ps_subset.specs.Ways.{short_name, near_name}
use Rattle.ps_subset.specs.Items.{Item, Stretch, Rule, Block, x_of, y_of, Pen, first_pen, is_set, font_line, to_line, move_line, way_end, delta_behind, row_end, row_delta, stretch_end, pen_behind_stretch, item_lines, pen_behind, next_place, lines_from, item_events, items_events, AllIn, IsSmall, IsGoodItem, AllGoodItems}
use Rattle.ps_subset.specs.Strings.{string_text}
use Rattle.ps_subset.specs.Blocks.{block_lines}
use Rattle.ps_subset.proofs.Dictionaries.{bytes_refl, HasProlog-put, OnTop-put, put_stands, entry-with_same, slice_set-set}
use Rattle.ps_subset.proofs.Steps.{◌▸◌, done, ending, number_goes, value_goes}
use Rattle.ps_subset.proofs.FontSteps.{text_goes}
use Rattle.ps_subset.proofs.FontLaws.{F_goes}
use Rattle.ps_subset.proofs.Pixels.{a_pixel, w_pixel, x_pixel, v_pixel}
use Rattle.ps_subset.proofs.Show.{p_pixel}
use Rattle.ps_subset.proofs.Ways.{delta_free, short_pixel, y_pixel, b_pixel, near_pixel, short_stands, near_stands, short_reads, near_reads}
use Rattle.ps_subset.proofs.Reading.{Reads, Reads-append, w_reads, x_reads, a_reads, v_reads, b_reads, p_reads, y_reads, F_reads}
use Rattle.ps_subset.proofs.Numbers.{signed_reads}
use Rattle.ps_subset.proofs.Strings.{string_reads}
use Rattle.ps_subset.proofs.FontWords.{font_name_reads, block_reads}
use Rattle.ps_subset.proofs.Runs.{Runs, Runs-append, nothing_runs}
use Rattle.ps_subset.proofs.Stands.{Placed, fonts_of, Stands, AllStand, NoFont, AllStand-put, placed_in, found_in, stands_of, all_held_in, codes_fit_in, length_codes}
use Rattle.ps_subset.specs.Token as token
use Rattle.ps_subset.specs.State as state

-- delta, put again
with_entry-with : (key : List ℕ) (v w : Object) (es : List Entry) → with_entry key w (with_entry key v es) ≡ with_entry key w es
unfolding with_entry
with_entry-with key v w [] = rw (bytes_refl key) refl
with_entry-with key v w (e ∷ es) = go (bytes_eq e.key key) refl (with_entry-with key v w es)
  where
    go : (b : Bool) → bytes_eq e.key key ≡ b → with_entry key w (with_entry key v es) ≡ with_entry key w es →
        with_entry key w (if b then (record { key = key; value = v } ∷ es) else (e ∷ with_entry key v es)) ≡ (if b then (record { key = key; value = w } ∷ es) else (e ∷ with_entry key w es))
    go true h ih = rw (bytes_refl key) refl
    go false h ih = rw h (ap (λ l. e ∷ l) ih)

pub same_is : (a b : ℤ) → same_ℤ a b ≡ true → a ≡ b
same_is (pos a) (pos b) h = ap pos (grind (arith, nat_tests))
same_is (negsuc a) (negsuc b) h = ap negsuc (grind (arith, nat_tests))
same_is (pos a) (negsuc b) h = absurd (grind arith)
same_is (negsuc a) (pos b) h = absurd (grind arith)

there_again : (a b : ℤ) → a +ℤ (b -ℤ a) ≡ b
there_again a b = omega (arith, ints)

small_way : (a b : ℤ) → IsSmall a → IsSmall b → IsInRange (b -ℤ a)
small_way a b ha hb = omega (arith, ints)

small_range : (a : ℤ) → IsSmall a → IsInRange a
small_range a h = omega (arith, h)

-- the next place, if there is one
abbrev pub IsSmallNext : Option (ℤ × ℤ) → Type 0
IsSmallNext None = Unit {0}
IsSmallNext (Some (x', y')) = IsSmall x' × IsSmall y'

-- what the state has on a page, between its items
pub record OnSheet (j : Job) (matrix d : ℕ) (below : List ℕ) (room : ℕ) (es : List Entry) (ps : List Placed) (m : Machine) : Type 0 where
  pub knows : HasProlog matrix m.store m.dictionaries
  pub top : OnTop d below room es m.store m.dictionaries
  pub delta_fits : TakesKey (codes "delta") room es
  pub stand : AllStand d ps m.store m.dictionaries
  pub no_delta : NoFont (codes "delta") ps
  pub frame : m.graphics.frame ≡ job_frame j
  pub pushable : length m.pushed < 31
  pub nobody : m.showing ≡ None
  pub operands_room : length m.operands + 40 ≤ 500

-- the font that the lines have set, as the machine has it
abbrev pub placed_at : Option Placed → Option ℕ
placed_at (Some p) = Some p.at
placed_at None = None

abbrev pub font_set : List Placed → Option ℕ → Option ℕ → Option ℕ
font_set ps before (Some id) = placed_at (placed_in ps id)
font_set ps before None = before

-- the state between items, as the pen says it
abbrev pub at_pen : Job → ℕ → ℕ → List Entry → List Placed → Machine → Pen → Machine
at_pen j d room es ps m pen = record m {
  store = put_entry m.store d room es (codes "delta") (Number (whole pen.delta));
  graphics = record m.graphics { place = Some (pixel_place j pen.x pen.y); font = font_set ps m.graphics.font pen.font };
}

recast : {xs : List ℕ} {es fs : List Event} {m m' : Machine} → es ≡ fs → Runs xs m m' es → Runs xs m m' fs
recast {xs} {m = m} {m' = m'} k r = subst (λ owed. Runs xs m m' owed) k r

to_state : {xs : List ℕ} {es : List Event} {m m1 m2 : Machine} → m1 ≡ m2 → Runs xs m m1 es → Runs xs m m2 es
to_state {xs} {es} {m} k r = subst (λ n. Runs xs m n es) k r

pub block_runs : (bytes : List ℕ) (n : Machine) → length bytes < 2 ^ 63 → Runs (block_lines bytes) n n (state.Block bytes ∷ [])
unfolding meet
block_runs bytes n short = record { tokens = token.Block bytes ∷ []; reads = block_reads bytes short; goes = record { by = refl } ▸ done }

module _ (j : Job) (good : IsGoodJob j) (matrix d : ℕ) (below : List ℕ) (room : ℕ) (es : List Entry) (ps : List Placed) (m : Machine) (on : OnSheet j matrix d below room es ps m) where
  abbrev at : Pen → Machine
  at pen = at_pen j d room es ps m pen

  abbrev value : Pen → Object
  value pen = Number (whole pen.delta)

  knows : (pen : Pen) → HasProlog matrix (at pen).store m.dictionaries
  knows pen = HasProlog-put m.store d room es (codes "delta") (value pen) on.top.stands m.dictionaries delta_free on.knows

  top : (pen : Pen) → OnTop d below room (with_entry (codes "delta") (value pen) es) (at pen).store m.dictionaries
  top pen = OnTop-put (codes "delta") (value pen) on.top

  fits : (pen : Pen) → TakesKey (codes "delta") room (with_entry (codes "delta") (value pen) es)
  fits pen = rw (entry-with_same (codes "delta") (value pen) es) refl

  stands : (pen : Pen) → AllStand d ps (at pen).store m.dictionaries
  stands pen = AllStand-put d m.store m.dictionaries ps (codes "delta") (value pen) on.top.stands on.no_delta on.stand

  delta_stands : (pen : Pen) → meaning_in (at pen).store m.dictionaries (codes "delta") ≡ Value (value pen)
  delta_stands pen = put_stands (codes "delta") (value pen) on.top

  -- moves in lines of their own
  to_runs : (pen : Pen) (x y : ℤ) → IsSmall x → IsSmall y → Runs (to_line x y) (at pen) (at (record pen { x = x; y = y })) []
  to_runs pen x y hx hy = record {
    tokens = token.Number x ∷ token.Number y ∷ token.Name (codes "a") ∷ [];
    reads = Reads-append (signed_reads x (small_range x hx)) (Reads-append (signed_reads y (small_range y hy)) a_reads);
    goes = number_goes (omega (arith, on.operands_room)) ▸ number_goes (omega (arith, on.operands_room)) ▸ a_pixel j good (knows pen) on.frame x y refl ▸ done;
  }

  across_runs : (pen : Pen) (x : ℤ) → IsSmall pen.x → IsSmall x → Runs (signed_field (x -ℤ pen.x) ++ line (codes "w")) (at pen) (at (record pen { x = x })) []
  across_runs pen x hp hx =
      let n = x -ℤ pen.x in
      to_state (λ i. at (record pen { x = there_again pen.x x i })) (record {
        tokens = token.Number n ∷ token.Name (codes "w") ∷ [];
        reads = Reads-append (signed_reads n (small_way pen.x x hp hx)) w_reads;
        goes = number_goes (omega (arith, on.operands_room)) ▸ w_pixel j good (knows pen) on.frame pen.x pen.y n refl refl (omega (arith, on.operands_room)) ▸ done;
      })

  down_runs : (pen : Pen) (y : ℤ) → IsSmall pen.y → IsSmall y → Runs (signed_field (y -ℤ pen.y) ++ line (codes "x")) (at pen) (at (record pen { y = y })) []
  down_runs pen y hp hy =
      let n = y -ℤ pen.y in
      to_state (λ i. at (record pen { y = there_again pen.y y i })) (record {
        tokens = token.Number n ∷ token.Name (codes "x") ∷ [];
        reads = Reads-append (signed_reads n (small_way pen.y y hp hy)) x_reads;
        goes = number_goes (omega (arith, on.operands_room)) ▸ x_pixel j good (knows pen) on.frame pen.x pen.y n refl refl (omega (arith, on.operands_room)) ▸ done;
      })

  move_runs : (pen : Pen) (x y : ℤ) → IsSmall pen.x → IsSmall pen.y → IsSmall x → IsSmall y → Runs (move_line pen x y) (at pen) (at (record pen { x = x; y = y })) []
  move_runs pen x y px py hx hy = go pen.lost (same_ℤ pen.y y) (same_ℤ pen.x x) refl refl
    where
      go : (l a b : Bool) → same_ℤ pen.y y ≡ a → same_ℤ pen.x x ≡ b →
          Runs (if l then to_line x y else if a then (if b then [] else (signed_field (x -ℤ pen.x) ++ line (codes "w"))) else if b then (signed_field (y -ℤ pen.y) ++ line (codes "x")) else to_line x y) (at pen) (at (record pen { x = x; y = y })) []
      go true a b e f = to_runs pen x y hx hy
      go false true true e f = to_state (λ i. at (record pen { x = same_is pen.x x f i; y = same_is pen.y y e i })) (nothing_runs (at pen))
      go false true false e f = to_state (λ i. at (record pen { x = x; y = same_is pen.y y e i })) (across_runs pen x px hx)
      go false false true e f = to_state (λ i. at (record pen { x = same_is pen.x x f i; y = y })) (down_runs pen y py hy)
      go false false false e f = to_runs pen x y hx hy

  -- the font of a stretch is set
  module _ (id : ℕ) (p : Placed) (is : placed_in ps id ≡ Some p) (same : p.font.id ≡ id) where
    set_is : (pen : Pen) → pen.font ≡ Some id → (at pen).graphics.font ≡ Some p.at
    set_is pen e = ap (font_set ps m.graphics.font) e ∙ ap placed_at is

    font_runs : (pen : Pen) → (ss : (q : Pen) → Stands d p (at q).store m.dictionaries) → Runs (font_line pen id) (at pen) (at (record pen { font = Some id })) []
    font_runs pen ss = go pen.font refl
      where
        set_now : Runs ((font_name id ++ codes " ") ++ line (codes "F")) (at pen) (at (record pen { font = Some id })) []
        set_now =
            let s = ss pen in
            let name_is : meaning_in (at pen).store m.dictionaries (font_name id) ≡ Value (Dictionary p.at) = ap (λ n. meaning_in (at pen).store m.dictionaries (font_name n)) (sym same) ∙ s.name_is in
            let small : id < 2 ^ 64 = omega (arith, s.small, same) in
            to_state (λ i. record (at pen) { graphics = record (at pen).graphics { font = placed_at (sym is i) } }) (record {
              tokens = token.Name (font_name id) ∷ token.Name (codes "F") ∷ [];
              reads = Reads-append (font_name_reads id small) F_reads;
              goes = value_goes name_is (λ q n. refl) (omega (arith, on.operands_room)) ▸ F_goes (knows pen) refl (rw (s.font_is.dictionary_is, s.font_is.key_is) refl) ▸ done;
            })

        go : (o : Option ℕ) → pen.font ≡ o → Runs (if is_set o id then [] else ((font_name id ++ codes " ") ++ line (codes "F"))) (at pen) (at (record pen { font = Some id })) []
        go None e = set_now
        go (Some k) e = second (nat_eq k id) refl
          where
            second : (b : Bool) → nat_eq k id ≡ b → Runs (if b then [] else ((font_name id ++ codes " ") ++ line (codes "F"))) (at pen) (at (record pen { font = Some id })) []
            second true f = let q : k ≡ id = grind (arith, nat_tests, f) in to_state (λ i. at (record pen { font = (e ∙ ap Some q) i })) (nothing_runs (at pen))
            second false f = set_now

    -- a string, and how its line ends
    module _ (ls : List Letter) (all : (q : Pen) → Stands d p (at q).store m.dictionaries) (inside : AllIn ls p.font.letters) (few : length ls ≤ 50) where
      abbrev shown : Pen → List Event
      shown pen = TextShown (font_name id) (letter_codes ls) (pixel_place j pen.x pen.y) ∷ string_masks j (font_name id) pen.x pen.y ls

      abbrev behind : Pen → ℤ
      behind pen = string_end pen.x ls

      font_here : (pen : Pen) → IsFont (font_name id) p.at (suc p.at) (at pen).store
      font_here pen = subst (λ n. IsFont (font_name n) p.at (suc p.at) (at pen).store) same (all pen).font_is

      held_here : (pen : Pen) → AllHeld (suc p.at) ls (at pen).store
      held_here pen = all_held_in (suc p.at) (at pen).store ls p.font.letters inside (all pen).letters

      text_reads : Reads (string_text (letter_codes ls)) (token.Text (letter_codes ls) ∷ [])
      text_reads = string_reads (letter_codes ls) (codes_fit_in ls p.font.letters inside (all first_pen).codes_fit) (omega (arith, few, length_codes ls))

      p_runs : (pen : Pen) → pen.font ≡ Some id → Runs (string_text (letter_codes ls) ++ line (codes "p")) (at pen) (at (record pen { x = behind pen })) (shown pen)
      p_runs pen f = record {
        tokens = token.Text (letter_codes ls) ∷ token.Name (codes "p") ∷ [];
        reads = Reads-append text_reads p_reads;
        goes = text_goes (omega (arith, on.operands_room)) ▸ ending (p_pixel j good (font_name id) pen.x pen.y ls (knows pen) (font_here pen) (held_here pen) on.frame (set_is pen f) refl refl (omega (arith, on.operands_room)) on.pushable);
      }

      short_runs : (pen : Pen) → pen.font ≡ Some id → (n : ℤ) (short : List ℕ) → short_name n ≡ Some short → Runs (string_text (letter_codes ls) ++ line short) (at pen) (at (record pen { x = behind pen +ℤ n })) (shown pen)
      short_runs pen f n short is_short = recast (append-nil (shown pen)) (record {
        tokens = token.Text (letter_codes ls) ∷ token.Name short ∷ [];
        reads = Reads-append text_reads (short_reads n short is_short);
        goes = text_goes (omega (arith, on.operands_room)) ▸ ending (short_pixel j good {rest = m.operands} (knows pen) (font_here pen) ls (held_here pen) on.frame (set_is pen f) pen.x pen.y refl (omega (arith, on.operands_room)) on.pushable n short (short_stands n short is_short) refl);
      })

      row_runs : (pen : Pen) → pen.font ≡ Some id → (x' y' : ℤ) → IsSmall x' → IsSmall y' → Runs (string_text (letter_codes ls) ++ (signed_field x' ++ (signed_field y' ++ line (codes "y")))) (at pen) (at (record pen { x = x'; y = y' })) (shown pen)
      row_runs pen f x' y' hx hy = recast (append-nil (shown pen)) (record {
        tokens = token.Text (letter_codes ls) ∷ token.Number x' ∷ token.Number y' ∷ token.Name (codes "y") ∷ [];
        reads = Reads-append text_reads (Reads-append (signed_reads x' (small_range x' hx)) (Reads-append (signed_reads y' (small_range y' hy)) y_reads));
        goes =
            text_goes (omega (arith, on.operands_room)) ▸ number_goes (omega (arith, on.operands_room)) ▸ number_goes (omega (arith, on.operands_room)) ▸
            ending (y_pixel j good {rest = m.operands} (knows pen) (font_here pen) ls (held_here pen) on.frame (set_is pen f) pen.x pen.y refl (omega (arith, on.operands_room)) on.pushable x' y' refl);
      })

      -- the state that a change of delta leaves
      put_twice : (pen : Pen) (n : ℤ) → put_entry (at pen).store d room (with_entry (codes "delta") (value pen) es) (codes "delta") (Number (whole n)) ≡ put_entry m.store d room es (codes "delta") (Number (whole n))
      put_twice pen n =
          slice_set-set m.store d (Entries room (with_entry (codes "delta") (value pen) es)) (Entries room (with_entry (codes "delta") (Number (whole n)) (with_entry (codes "delta") (value pen) es))) ∙
          ap (λ l. slice_set m.store d (Entries room l)) (with_entry-with (codes "delta") (value pen) (Number (whole n)) es)

      gone_is : (pen : Pen) (n x y : ℤ) → gone j (at pen) d room (with_entry (codes "delta") (value pen) es) m.operands n x y ≡ at (record pen { x = x; y = y; delta = n })
      gone_is pen n x y = λ i. record (at pen) { store = put_twice pen n i; graphics = record (at pen).graphics { place = Some (pixel_place j x y) } }

      b_runs : (pen : Pen) → pen.font ≡ Some id → (n : ℤ) → IsInRange n → Runs (string_text (letter_codes ls) ++ (signed_field n ++ line (codes "b"))) (at pen) (at (record pen { x = behind pen +ℤ n; delta = n })) (shown pen)
      b_runs pen f n small = to_state (gone_is pen n (behind pen +ℤ n) pen.y) (recast (append-nil (shown pen)) (record {
        tokens = token.Text (letter_codes ls) ∷ token.Number n ∷ token.Name (codes "b") ∷ [];
        reads = Reads-append text_reads (Reads-append (signed_reads n small) b_reads);
        goes =
            text_goes (omega (arith, on.operands_room)) ▸ number_goes (omega (arith, on.operands_room)) ▸
            ending (b_pixel j good {rest = m.operands} (knows pen) (font_here pen) ls (held_here pen) on.frame (set_is pen f) pen.x pen.y refl (omega (arith, on.operands_room)) on.pushable (top pen) (fits pen) n refl);
      }))

      near_runs : (pen : Pen) → pen.font ≡ Some id → (n : ℤ) (near : List ℕ) → near_name n ≡ Some near → Runs (string_text (letter_codes ls) ++ line near) (at pen) (at (record pen { x = behind pen +ℤ (n +ℤ pen.delta); delta = n +ℤ pen.delta })) (shown pen)
      near_runs pen f n near is_near = to_state (gone_is pen (n +ℤ pen.delta) (behind pen +ℤ (n +ℤ pen.delta)) pen.y) (recast (append-nil (shown pen)) (record {
        tokens = token.Text (letter_codes ls) ∷ token.Name near ∷ [];
        reads = Reads-append text_reads (near_reads n near is_near);
        goes =
            text_goes (omega (arith, on.operands_room)) ▸
            ending (near_pixel j good {rest = m.operands} (knows pen) (font_here pen) ls (held_here pen) on.frame (set_is pen f) pen.x pen.y refl (omega (arith, on.operands_room)) on.pushable (top pen) (fits pen) n pen.delta near (near_stands n near is_near) refl (delta_stands pen));
      }))

      -- along a row
      way_runs : (pen : Pen) → pen.font ≡ Some id → (x' : ℤ) → IsSmall (behind pen) → IsSmall x' →
          Runs (string_text (letter_codes ls) ++ row_end pen.delta (x' -ℤ behind pen)) (at pen) (at (record pen { x = x'; delta = row_delta pen.delta (x' -ℤ behind pen) })) (shown pen)
      way_runs pen f x' hb hx = go (same_ℤ (x' -ℤ behind pen) (pos 0)) (short_name (x' -ℤ behind pen)) (near_name ((x' -ℤ behind pen) -ℤ pen.delta)) refl refl refl
        where
          go : (z : Bool) (short near : Option (List ℕ)) → same_ℤ (x' -ℤ behind pen) (pos 0) ≡ z → short_name (x' -ℤ behind pen) ≡ short → near_name ((x' -ℤ behind pen) -ℤ pen.delta) ≡ near →
              Runs (string_text (letter_codes ls) ++ (if z then line (codes "p") else way_end short near (x' -ℤ behind pen))) (at pen) (at (record pen { x = x'; delta = if z then pen.delta else delta_behind short pen.delta (x' -ℤ behind pen) })) (shown pen)
          go true short near e s n =
              let none = same_is (x' -ℤ behind pen) (pos 0) e in
              let same_x : behind pen ≡ x' = omega (arith, ints, none) in
              to_state (λ i. at (record pen { x = same_x i })) (p_runs pen f)
          go false (Some short) near e s n = to_state (λ i. at (record pen { x = there_again (behind pen) x' i })) (short_runs pen f (x' -ℤ behind pen) short s)
          go false None (Some near) e s n =
              let back : ((x' -ℤ behind pen) -ℤ pen.delta) +ℤ pen.delta ≡ (x' -ℤ behind pen) = omega (arith, ints) in
              to_state (λ i. at (record pen { x = (ap (λ z. behind pen +ℤ z) back ∙ there_again (behind pen) x') i; delta = back i })) (near_runs pen f ((x' -ℤ behind pen) -ℤ pen.delta) near n)
          go false None None e s n = to_state (λ i. at (record pen { x = there_again (behind pen) x' i; delta = (x' -ℤ behind pen) })) (b_runs pen f (x' -ℤ behind pen) (small_way (behind pen) x' hb hx))

      end_runs : (pen : Pen) → pen.font ≡ Some id → (next : Option (ℤ × ℤ)) → IsSmall (behind pen) → IsSmallNext next →
          Runs (string_text (letter_codes ls) ++ stretch_end pen.delta (behind pen) pen.y next) (at pen) (at (pen_behind_stretch id pen.delta (behind pen) pen.y next)) (shown pen)
      end_runs pen f None hb small = to_state (λ i. at (record { x = behind pen; y = pen.y; font = f i; delta = pen.delta; lost = false })) (p_runs pen f)
      end_runs pen f (Some (x', y')) hb small = go (same_ℤ pen.y y') refl
        where
          go : (b : Bool) → same_ℤ pen.y y' ≡ b → Runs (string_text (letter_codes ls) ++ (if b then row_end pen.delta (x' -ℤ behind pen) else (signed_field x' ++ (signed_field y' ++ line (codes "y"))))) (at pen)
              (at (record { x = x'; y = y'; font = Some id; delta = if b then row_delta pen.delta (x' -ℤ behind pen) else pen.delta; lost = false })) (shown pen)
          go true e = to_state (λ i. at (record { x = x'; y = same_is pen.y y' e i; font = f i; delta = row_delta pen.delta (x' -ℤ behind pen); lost = false })) (way_runs pen f x' hb small.0)
          go false e = to_state (λ i. at (record { x = x'; y = y'; font = f i; delta = pen.delta; lost = false })) (row_runs pen f x' y' small.0 small.1)

  stretch_runs : (pen : Pen) (id : ℕ) (ls : List Letter) (x y : ℤ) (next : Option (ℤ × ℤ)) → IsSmall pen.x → IsSmall pen.y → IsGoodItem (fonts_of ps) (Stretch id ls x y) → IsSmallNext next →
      Runs (item_lines pen (Stretch id ls x y) next) (at pen) (at (pen_behind pen (Stretch id ls x y) next)) (item_events j (Stretch id ls x y))
  stretch_runs pen id ls x y next px py fine small =
      let f = (fine.4).0 in
      let found = found_in ps id f (fine.4).1 in
      let p = found.0 in
      let every : (q : Pen) → Stands d p (at q).store m.dictionaries = λ q. stands_of ps id p found.1 (stands q) in
      let inside : AllIn ls p.font.letters = subst (λ (z : Font). AllIn ls z.letters) (sym found.2) (fine.4).2 in
      let set = font_runs id p found.1 found.3 pen every in
      let moved = move_runs (record pen { font = Some id }) x y px py fine.0 fine.1 in
      let end = end_runs id p found.1 found.3 ls every inside fine.3 (record pen { x = x; y = y; font = Some id }) refl next fine.2 small in
      Runs-append set (Runs-append moved end)

  rule_runs : (pen : Pen) (columns rows x y : ℤ) (next : Option (ℤ × ℤ)) → IsSmall pen.x → IsSmall pen.y → IsGoodItem (fonts_of ps) (Rule columns rows x y) →
      Runs (item_lines pen (Rule columns rows x y) next) (at pen) (at (pen_behind pen (Rule columns rows x y) next)) (item_events j (Rule columns rows x y))
  rule_runs pen columns rows x y next px py fine =
      let moved = move_runs pen x y px py fine.0 fine.1 in
      let here = record pen { x = x; y = y } in
      let painted : Runs (signed_field columns ++ (signed_field rows ++ line (codes "v"))) (at here) (at here) (rule_mask j x y columns rows ∷ []) = record {
        tokens = token.Number columns ∷ token.Number rows ∷ token.Name (codes "v") ∷ [];
        reads = Reads-append (signed_reads columns fine.3) (Reads-append (signed_reads rows fine.5) v_reads);
        goes = number_goes (omega (arith, on.operands_room)) ▸ number_goes (omega (arith, on.operands_room)) ▸ v_pixel j good (knows pen) on.frame x y columns rows refl refl fine.2 fine.4 on.nobody (omega (arith, on.operands_room)) on.pushable ▸ done;
      } in
      Runs-append moved painted

  passed_runs : (pen : Pen) (bytes : List ℕ) (x y : ℤ) (next : Option (ℤ × ℤ)) → IsSmall pen.x → IsSmall pen.y → IsGoodItem (fonts_of ps) (Block bytes x y) →
      Runs (item_lines pen (Block bytes x y) next) (at pen) (at (pen_behind pen (Block bytes x y) next)) (item_events j (Block bytes x y))
  passed_runs pen bytes x y next px py fine = Runs-append (move_runs pen x y px py fine.0 fine.1) (block_runs bytes (at (record pen { x = x; y = y })) fine.2)

  item_runs : (pen : Pen) (i : Item) (next : Option (ℤ × ℤ)) → IsSmall pen.x → IsSmall pen.y → IsGoodItem (fonts_of ps) i → IsSmallNext next → Runs (item_lines pen i next) (at pen) (at (pen_behind pen i next)) (item_events j i)
  item_runs pen (Stretch id ls x y) next px py fine small = stretch_runs pen id ls x y next px py fine small
  item_runs pen (Rule columns rows x y) next px py fine small = rule_runs pen columns rows x y next px py fine
  item_runs pen (Block bytes x y) next px py fine small = passed_runs pen bytes x y next px py fine

  place_small : (i : Item) → IsGoodItem (fonts_of ps) i → IsSmall (x_of i) × IsSmall (y_of i)
  place_small (Stretch id ls x y) fine = (fine.0, fine.1)
  place_small (Rule columns rows x y) fine = (fine.0, fine.1)
  place_small (Block bytes x y) fine = (fine.0, fine.1)

  next_small : (is : List Item) → AllGoodItems (fonts_of ps) is → IsSmallNext (next_place is)
  next_small [] all = tt
  next_small (i ∷ is) all = place_small i all.0

  behind_small : (pen : Pen) (i : Item) (next : Option (ℤ × ℤ)) → IsGoodItem (fonts_of ps) i → IsSmallNext next → IsSmall (pen_behind pen i next).x × IsSmall (pen_behind pen i next).y
  behind_small pen (Stretch id ls x y) None fine small = (fine.2, fine.1)
  behind_small pen (Stretch id ls x y) (Some (x', y')) fine small = small
  behind_small pen (Rule columns rows x y) next fine small = (fine.0, fine.1)
  behind_small pen (Block bytes x y) next fine small = (fine.0, fine.1)

  -- the items of a page, one after another
  pub items_run : (pen : Pen) (is : List Item) → IsSmall pen.x → IsSmall pen.y → AllGoodItems (fonts_of ps) is → (last : Pen) × Runs (lines_from pen is) (at pen) (at last) (items_events j is)
  items_run pen [] px py all = (pen, nothing_runs (at pen))
  items_run pen (i ∷ is) px py all =
      let next = next_place is in
      let small = next_small is all.1 in
      let behind = pen_behind pen i next in
      let fine = behind_small pen i next all.0 small in
      let rest = items_run behind is fine.0 fine.1 all.1 in
      (rest.0, Runs-append (item_runs pen i next px py all.0 small) rest.1)
