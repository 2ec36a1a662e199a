-- Strings are shown: what CB does for one letter, and what show and p do for all of them.
use Rattle.std.proofs.Common.{◌≡◌, refl, ap, sym, ◌∙◌, ℕ, suc, ◌+◌, ◌<◌, ◌≤◌, List, [], ◌∷◌, length, Some, None, Option, arith, true, false, Bool}
use Rattle.std.specs.Prelude.{codes, ℤ, pos, ◌+ℤ◌, ◌-ℤ◌, neg_ℤ, slice_get, if◌then◌else◌}
use Rattle.std.proofs.lemmas.List.{append-nil}
use Rattle.ps_subset.specs.Token as token
use Rattle.ps_subset.specs.Token.{Token, Body, Then, End}
use Rattle.ps_subset.specs.Fraction.{Fraction, whole, plus, minus, times, negative, size, is_zero, natural_of}
use Rattle.ps_subset.specs.State.{Object, Text, Array, Dictionary, Cell, Place, Machine, Mask, TextShown, Character, go_on, more, entry, entries_of}
use Rattle.ps_subset.specs.Operators.{Show}
use Rattle.ps_subset.specs.FontEffects.{characters, character, show_effect, show_at, show_by, font_key, in_character}
use Rattle.ps_subset.specs.MaskEffects.{mask_events, mask_at, rows_mark}
use Rattle.ps_subset.specs.GraphicsEffects.{at_place}
use Rattle.ps_subset.specs.Run.{run_deeper, nests}
use Rattle.ps_subset.specs.Job.{Job, IsGoodJob, per_pixel, pixel_place}
use Rattle.ps_subset.specs.Leads.{Meets}
use Rattle.ps_subset.specs.Conditions.{HasProlog, number, job_frame}
use Rattle.ps_subset.specs.Fonts.{printed, has_black, Letter, IsGoodGlyph, letter_masks, string_masks, string_end, letter_codes}
use Rattle.ps_subset.specs.FontConditions.{IsFont, HoldsLetter, AllHeld}
use Rattle.ps_subset.proofs.Equality.{objects_themselves}
use Rattle.ps_subset.proofs.Fractions.{negative-times, times-one_left, IsReduced-lowest, IsReduced-negative}
use Rattle.ps_subset.proofs.Pixels.{pixel_moves, size-lowest, size-negative}
use Rattle.ps_subset.proofs.Steps.{◌▸◌, ending, nat_lt_yes, literal_goes, name_goes, operator_goes}
use Rattle.ps_subset.proofs.FontSteps.{nat_le_yes, pop_goes, get_entry_goes, get_element_goes, aload_goes, setcachedevice_goes, mask_goes}
use Rattle.ps_subset.proofs.Rules.{S_goes}

zero_is : is_zero (whole (pos 0)) ≡ true
unfolding is_zero whole
zero_is = refl

-- CB paints a letter of the font whose dictionary and code are on top, and notes its width
pub CB_goes : {levels nest matrix : ℕ} {m : Machine} {d glyphs : ℕ} {rest : List Object} {who : Character} (l : Letter) (k : HasProlog matrix m.store m.dictionaries) → IsGoodGlyph (printed l.glyph) → m.operands ≡ number l.code ∷ Dictionary d ∷ rest → entry (codes "GA") (entries_of (slice_get m.store d)) ≡ Some (Array glyphs) → HoldsLetter glyphs l m.store → m.showing ≡ Some who → m.width ≡ None → length rest + 12 ≤ 500 →
    Meets (suc (suc levels)) nest (token.Name (codes "CB")) m (record m { operands = rest; width = Some (whole l.glyph.width) })
    (mask_events (rows_mark (printed l.glyph).columns (printed l.glyph).rows (printed l.glyph).bytes) (mask_at m.showing m.graphics.frame (whole (printed l.glyph).hoff) (whole (printed l.glyph).voff) (printed l.glyph).columns (printed l.glyph).rows (printed l.glyph).bytes))
unfolding entry
CB_goes l k good h table held now fresh room =
    let g = printed l.glyph in
    name_goes (k.names_stand (codes "CB") _ refl) (
    S_goes k h
    ▸ literal_goes (omega arith)
    ▸ get_entry_goes k refl table
    ▸ S_goes k refl
    ▸ get_element_goes k l.code refl (rw held.table_is held.at)
    ▸ aload_goes k refl held.is (omega arith)
    ▸ pop_goes k refl
    ▸ setcachedevice_goes k refl zero_is now fresh
    ▸ ending (mask_goes g.columns g.rows k refl held.matrix_is good.columns_some good.rows_some good.exact (omega (arith, good.short)) (omega arith)))

-- one letter, from the place p on
character_is : (levels : ℕ) {matrix d glyphs : ℕ} {m : Machine} (key : List ℕ) (p : Place) (l : Letter) (k : HasProlog matrix m.store m.dictionaries) → IsFont key d glyphs m.store → HoldsLetter glyphs l m.store → IsGoodGlyph (printed l.glyph) → m.graphics.font ≡ Some d → m.graphics.place ≡ Some p → length m.operands + 12 ≤ 500 → length m.pushed < 31 →
    character (run_deeper (suc (suc (suc levels)))) key l.code m.graphics.font m.graphics.place m ≡ (
      Some (record m { graphics = record m.graphics { place = Some (record p { x = plus p.x (times m.graphics.frame.scale_x (whole l.glyph.width)) }) } }),
      mask_events (rows_mark (printed l.glyph).columns (printed l.glyph).rows (printed l.glyph).bytes) (mask_at (Some (record { key = key; code = l.code })) (record m.graphics.frame { offset_x = p.x; offset_y = p.y }) (whole (printed l.glyph).hoff) (whole (printed l.glyph).voff) (printed l.glyph).columns (printed l.glyph).rows (printed l.glyph).bytes),
    )
unfolding run_deeper
character_is levels {matrix} {d} {glyphs} {m} key p l k font held good set here room pushable =
    let deeper = run_deeper (suc (suc (suc levels))) in
    let inside = in_character key d l.code p m in
    let table : entry (codes "GA") (entries_of (slice_get m.store d)) ≡ Some (Array glyphs) = rw font.dictionary_is font.glyphs_are in
    let ran = ending (CB_goes {levels = levels} {nest = nests} {m = inside} l k good refl table held refl refl (omega arith)) in
    let after = record m { graphics = record m.graphics { place = Some (record p { x = plus p.x (times m.graphics.frame.scale_x (whole l.glyph.width)) }) } } in
    let masks = mask_events (rows_mark (printed l.glyph).columns (printed l.glyph).rows (printed l.glyph).bytes) (mask_at (Some (record { key = key; code = l.code })) (record m.graphics.frame { offset_x = p.x; offset_y = p.y }) (whole (printed l.glyph).hoff) (whole (printed l.glyph).voff) (printed l.glyph).columns (printed l.glyph).rows (printed l.glyph).bytes) in
    (λ i. character deeper key l.code (set i) (here i) m) ∙
    rw (font.dictionary_is, font.build_is, nat_lt_yes (length m.pushed) 31 pushable, nat_le_yes (length m.operands + 2) 500 (omega arith), ran.by, objects_themselves m.operands, here) (ap (λ es. (Some after, es)) (append-nil masks))

-- a shift by a glyph's offset is a move
turned : (a s : Fraction) (z : ℤ) → minus a (times s (whole z)) ≡ plus a (times s (whole (neg_ℤ z)))
unfolding minus negative whole
turned a s z = ap (plus a) (negative-times s (whole z))

module _ (j : Job) (good : IsGoodJob j) where
  cell_x : size (job_frame j).scale_x ≡ per_pixel j.across
  cell_x = ap size (times-one_left (per_pixel j.across) (IsReduced-lowest (pos 72) j.across good.across_some)) ∙ size-lowest 72 j.across

  cell_y : size (job_frame j).scale_y ≡ per_pixel j.down
  cell_y =
      ap size (times-one_left (negative (per_pixel j.down)) (IsReduced-negative (per_pixel j.down) (IsReduced-lowest (pos 72) j.down good.down_some))) ∙ size-negative (per_pixel j.down) ∙ size-lowest 72 j.down

  -- a blank glyph gives no mask, and any other is printed as it is
  blank_or_not : (key : List ℕ) (x y : ℤ) (l : Letter) →
      (let g = printed l.glyph in mask_events (rows_mark g.columns g.rows g.bytes) (Mask (Some (record { key = key; code = l.code })) (pixel_place j (x -ℤ g.hoff) (y -ℤ g.voff)) (record { x = per_pixel j.across; y = per_pixel j.down }) g.columns g.rows g.bytes)) ≡
      letter_masks j key x y l
  blank_or_not key x y l = go (has_black l.glyph) refl
    where
      cell : Place
      cell = record { x = per_pixel j.across; y = per_pixel j.down }

      by : Option Character
      by = Some (record { key = key; code = l.code })

      go : (black : Bool) → has_black l.glyph ≡ black → (let g = l.glyph in
          mask_events (rows_mark (if black then g.columns else 1) (if black then g.rows else 1) (if black then g.bytes else (0 ∷ [])))
          (Mask by (pixel_place j (x -ℤ (if black then g.hoff else pos 0)) (y -ℤ (if black then g.voff else pos 0))) cell (if black then g.columns else 1) (if black then g.rows else 1) (if black then g.bytes else (0 ∷ []))) ≡
          mask_events (has_black g) (Mask by (pixel_place j (x -ℤ g.hoff) (y -ℤ g.voff)) cell g.columns g.rows g.bytes))
      go true e = refl
      go false e = ap (λ b. mask_events b (Mask by (pixel_place j (x -ℤ l.glyph.hoff) (y -ℤ l.glyph.voff)) cell l.glyph.columns l.glyph.rows l.glyph.bytes)) (sym e)

  letter_mask_is : (key : List ℕ) (x y : ℤ) (l : Letter) →
      mask_events (rows_mark (printed l.glyph).columns (printed l.glyph).rows (printed l.glyph).bytes) (mask_at (Some (record { key = key; code = l.code })) (record (job_frame j) { offset_x = (pixel_place j x y).x; offset_y = (pixel_place j x y).y }) (whole (printed l.glyph).hoff) (whole (printed l.glyph).voff) (printed l.glyph).columns (printed l.glyph).rows (printed l.glyph).bytes) ≡
      letter_masks j key x y l
  letter_mask_is key x y l =
      let g = printed l.glyph in
      let p = pixel_place j x y in
      let there : (let q : Place = record { x = minus p.x (times (job_frame j).scale_x (whole g.hoff)); y = minus p.y (times (job_frame j).scale_y (whole g.voff)) } in q) ≡ pixel_place j (x -ℤ g.hoff) (y -ℤ g.voff) =
      (λ i. record { x = turned p.x (job_frame j).scale_x g.hoff i; y = turned p.y (job_frame j).scale_y g.voff i }) ∙ pixel_moves j good x y (neg_ℤ g.hoff) (neg_ℤ g.voff) in
      (λ i. mask_events (rows_mark g.columns g.rows g.bytes) (Mask (Some (record { key = key; code = l.code })) (there i) (record { x = cell_x i; y = cell_y i }) g.columns g.rows g.bytes)) ∙ blank_or_not key x y l

  moves_on : (x y w : ℤ) → (let p = pixel_place j x y in let q : Place = record p { x = plus p.x (times (job_frame j).scale_x (whole w)) } in q) ≡ pixel_place j (x +ℤ w) y
  moves_on x y w =
      let across = ap (λ (p : Place). p.x) (pixel_moves j good x y w (pos 0)) in
      λ i. record { x = across i; y = (pixel_place j x y).y }

  character_pixel : (levels : ℕ) {matrix d glyphs : ℕ} {m : Machine} (key : List ℕ) (x y : ℤ) (l : Letter) (k : HasProlog matrix m.store m.dictionaries) → IsFont key d glyphs m.store → HoldsLetter glyphs l m.store → IsGoodGlyph (printed l.glyph) → m.graphics.frame ≡ job_frame j → m.graphics.font ≡ Some d → m.graphics.place ≡ Some (pixel_place j x y) → length m.operands + 12 ≤ 500 → length m.pushed < 31 →
      character (run_deeper (suc (suc (suc levels)))) key l.code m.graphics.font m.graphics.place m ≡ (Some (record m { graphics = record m.graphics { place = Some (pixel_place j (x +ℤ l.glyph.width) y) } }), letter_masks j key x y l)
  character_pixel levels {m = m} key x y l k font held fine frame set here room pushable =
      let g = printed l.glyph in
      let p = pixel_place j x y in
      character_is levels key p l k font held fine set here room pushable ∙
      (λ i. (
        Some (record m { graphics = record m.graphics { place = Some (record p { x = plus p.x (times (frame i).scale_x (whole g.width)) }) } }),
        mask_events (rows_mark g.columns g.rows g.bytes) (mask_at (Some (record { key = key; code = l.code })) (record (frame i) { offset_x = p.x; offset_y = p.y }) (whole g.hoff) (whole g.voff) g.columns g.rows g.bytes),
      )) ∙
      (λ i. (Some (record m { graphics = record m.graphics { place = Some (moves_on x y g.width i) } }), letter_mask_is key x y l i))

  characters_pixel : (levels : ℕ) {matrix d glyphs : ℕ} (key : List ℕ) (x y : ℤ) (ls : List Letter) (m : Machine) → HasProlog matrix m.store m.dictionaries → IsFont key d glyphs m.store → AllHeld glyphs ls m.store → m.graphics.frame ≡ job_frame j → m.graphics.font ≡ Some d → m.graphics.place ≡ Some (pixel_place j x y) → length m.operands + 12 ≤ 500 → length m.pushed < 31 →
      characters (run_deeper (suc (suc (suc levels)))) key (letter_codes ls) m ≡ (Some (record m { graphics = record m.graphics { place = Some (pixel_place j (string_end x ls) y) } }), string_masks j key x y ls)
  unfolding characters
  characters_pixel levels key x y [] m k font all frame set here room pushable = ap (λ o. (Some (record m { graphics = record m.graphics { place = o } }), [])) here
  characters_pixel levels key x y (l ∷ ls) m k font all frame set here room pushable =
      let deeper = run_deeper (suc (suc (suc levels))) in
      let next = record m { graphics = record m.graphics { place = Some (pixel_place j (x +ℤ l.glyph.width) y) } } in
      ap (λ o. go_on o (characters deeper key (letter_codes ls))) (character_pixel levels key x y l k font all.0 all.1 frame set here room pushable) ∙
      ap (more (letter_masks j key x y l)) (characters_pixel levels key (x +ℤ l.glyph.width) y ls next k font all.2 frame set refl room pushable)

  key_is : {key : List ℕ} {d glyphs : ℕ} {store : List Cell} → IsFont key d glyphs store → font_key (entries_of (slice_get store d)) store ≡ Some key
  unfolding natural_of whole is_zero
  key_is font = rw (font.dictionary_is, font.type_is, font.key_is, font.matrix_stands, font.matrix_is) refl

  show_pixel : {levels nest matrix d glyphs : ℕ} {m : Machine} (key : List ℕ) (x y : ℤ) (ls : List Letter) {rest : List Object} (k : HasProlog matrix m.store m.dictionaries) → IsFont key d glyphs m.store → AllHeld glyphs ls m.store → m.graphics.frame ≡ job_frame j → m.graphics.font ≡ Some d → m.graphics.place ≡ Some (pixel_place j x y) → m.operands ≡ Text (letter_codes ls) ∷ rest → length rest + 12 ≤ 500 → length m.pushed < 31 →
      Meets (suc (suc (suc levels))) nest (token.Name (codes "show")) m (at_place (pixel_place j (string_end x ls) y) rest m) (TextShown key (letter_codes ls) (pixel_place j x y) ∷ string_masks j key x y ls)
  show_pixel {levels} {m = m} key x y ls {rest} k font all frame set here h room pushable =
      let deeper = run_deeper (suc (suc (suc levels))) in
      let begun = record m { operands = rest } in
      operator_goes Show (k.operators_stand (codes "show") Show refl)
      (ap (λ o. show_effect deeper o m) h ∙ (λ i. show_at deeper (set i) (here i) (letter_codes ls) begun) ∙
      ap (λ o. show_by deeper o (letter_codes ls) (pixel_place j x y) begun) (key_is font) ∙
      ap (more (TextShown key (letter_codes ls) (pixel_place j x y) ∷ [])) (characters_pixel levels key x y ls begun k font all frame set here room pushable))

  pub p_pixel : {levels nest matrix d glyphs : ℕ} {m : Machine} (key : List ℕ) (x y : ℤ) (ls : List Letter) {rest : List Object} (k : HasProlog matrix m.store m.dictionaries) → IsFont key d glyphs m.store → AllHeld glyphs ls m.store → m.graphics.frame ≡ job_frame j → m.graphics.font ≡ Some d → m.graphics.place ≡ Some (pixel_place j x y) → m.operands ≡ Text (letter_codes ls) ∷ rest → length rest + 12 ≤ 500 → length m.pushed < 31 →
      Meets (suc (suc (suc (suc levels)))) nest (token.Name (codes "p")) m (at_place (pixel_place j (string_end x ls) y) rest m) (TextShown key (letter_codes ls) (pixel_place j x y) ∷ string_masks j key x y ls)
  unfolding entry
  p_pixel key x y ls k font all frame set here h room pushable =
      name_goes (k.names_stand (codes "p") _ refl) (ending (show_pixel key x y ls k font all frame set here h room pushable))
