-- Characters that need no look-up and that nothing stops.
use Rattle.std.proofs.Common.{◌≡◌, ℕ, pos, true, List, [], ◌∷◌, Option, Some, None, sym, subst}
use Rattle.dvi_ops.specs.Command.Command.{Set}
use Rattle.positions.specs.Place.{Place}
use Rattle.positions.specs.Mark.{Mark, IsModerate}
use Rattle.font_set.specs.Count.{runs}
use Rattle.font_set.specs.Covers.{Covers}
use Rattle.font_set.specs.Frames.{char_act}
use Rattle.font_set.specs.Key.{Key}
use Rattle.font_set.specs.Programs.{id_of, program_at}
use Rattle.vf_expand.specs.Homes.{meaning_in, IsTurnReady}
use Rattle.vf_expand.specs.Painted.{HasGlyph, IsPainted}
use Rattle.vf_expand.specs.Pages.{chars, glyph_at, glyph_record}
use Rattle.vf_expand.specs.Quick.{Sets}
use Rattle.vf_expand.specs.Turn.{turned, turn_marks}
use Rattle.vf_expand.specs.Wide.{IsChar}
use Rattle.vf_expand.specs.declared.grid.Wide.{Wide}
use Rattle.vf_expand.specs.declared.home.Frame.{Frame}
use Rattle.vf_expand.proofs.Chars.{program_none, covered_char, chars_real, can_glyph, is_set, has_glyph, runs_real}
use Rattle.vf_expand.proofs.Turns.{set_ready}

-- What is known of such a character: its mark and width, that the font has its glyph, and that it runs no packet.
pub record Known (f : Frame) (id op : ℕ) (p : Place) (w : Wide) : Type 0 where
  pub marks : chars f.grid f.fonts.now f.nest (Some id) (pos op) p ≡ Some (glyph_at f.grid id op p w.width ∷ [], w.width)
  pub glyph : HasGlyph f.grid f.fonts.now (glyph_record f.grid id op p w.width)
  pub runs_none : runs f.fonts.now f.nest (Some id) (pos op) ≡ 0
  pub program : program_at f.fonts.now id op ≡ None

pub known : (f : Frame) (sel : Option Key) (id op : ℕ) (p : Place) (w : Wide) → id_of f.fonts.now sel ≡ Some id → Covers f.fonts.now (char_act sel (pos op) ∷ []) → IsChar f.grid f.fonts.now id op true w → Known f id op p w
known f sel id op p w same covers char =
    let set = f.fonts.now in
    let k = covered_char set sel id op same covers in
    record {
      marks = chars_real f.grid set f.nest id op p w.width k.shown char.kind char.width;
      glyph = has_glyph f.grid set sel id op p w.width k char.kind char.width;
      runs_none = runs_real set f.nest id op k.shown char.kind;
      program = program_none set id op k.shown char.kind;
    }

-- the canvas can take it
pub can_take : {C : Type 0} (can : C → Mark → Type 0) (f : Frame) (c : C) (id op : ℕ) (p q : Place) (m : Mark) (os : List Place) → Sets f id op p q m → IsTurnReady can f c (Set (pos op)) (Some id) (turn_marks (turned (meaning_in f) (Set (pos op)) os (record { place = p; font = Some id }))) → can c m
can_take can f c id op p q m os s r =
    let set = f.fonts.now in
    let w = s.wide in
    let rc = set_ready can f c (pos op) os (record { place = p; font = Some id }) r in
    let k = covered_char set rc.sel id op rc.same rc.covers in
    let n = known f rc.sel id op p w rc.same rc.covers s.quick.char in
    let fit = subst IsModerate s.shown s.moderate in
    subst (λ (x : Mark). can c x) (sym s.shown)
    (can_glyph can c (IsPainted f.grid set (char_act rc.sel (pos op) ∷ [])) (chars f.grid set f.nest (Some id) (pos op) p) (glyph_at f.grid id op p w.width) w.width n.marks rc.can_take (fit, (is_set set rc.sel id op k, n.glyph)))
