-- Where the commands of a frame stand.
use Rattle.std.specs.Prelude.{◌≡◌, ◌<◌, ℕ, ℤ, List, [], ◌∷◌, length, Option, None, Some}
use Rattle.dv_base.specs.declared.font_id.Spot.{Spot}
use Rattle.dv_base.specs.declared.font_id.Spot.TheVariants as spot
use Rattle.positions.specs.Place.{Place}
use Rattle.positions.specs.Mark.{Mark}
use Rattle.dvi_ops.specs.Placed.{Placed}
use Rattle.dvi_doc.specs.Grammar.{DefinesTwice}
use Rattle.font_set.specs.Fonts.{FontSet, size_at}
use Rattle.font_set.specs.Programs.{Named, Scope, Program, page_scope, locals_at, head_of}
use Rattle.vf_expand.specs.Meaning.{Meaning, Showing, no_char}
use Rattle.dvi_ops.specs.Command.{Command}
use Rattle.font_set.specs.Key.{Key}
use Rattle.font_set.specs.Programs.{id_of}
use Rattle.font_set.specs.Frames.{FontAct, acts_of, acts_of_command, char_act}
use Rattle.font_set.specs.Covers.{Covers}
use Rattle.font_set.specs.Count.{count}
use Rattle.vf_expand.specs.Marks.{Outcome, marks_alone}
use Rattle.vf_expand.specs.Takes.{CanTake}
use Rattle.vf_expand.specs.Painted.{IsPainted}
use Rattle.vf_expand.specs.Pages.{sense, meaning, frame_marks}
use Rattle.vf_expand.specs.declared.home.Home.{Home}
use Rattle.vf_expand.specs.declared.home.Home.TheVariants as home
use Rattle.vf_expand.specs.declared.home.Frame.{Frame}

-- the place of the first byte
abbrev pub first_of : Home → ℕ
first_of (home.Page doc first) = first
first_of (home.Packet font code) = 0

-- the spot of a place
abbrev pub spot_of : Home → ℕ → Spot
spot_of (home.Page doc first) at = spot.Page at
spot_of (home.Packet font code) at = spot.Packet font code at

abbrev pub scope_of : FontSet → Home → Scope
scope_of set (home.Page doc first) = page_scope doc.now.fonts
scope_of set (home.Packet font code) = record { size = Some (size_at set font); fonts = locals_at set font }

abbrev pub first_named : FontSet → Home → Option Named
first_named set (home.Page doc first) = None
first_named set (home.Packet font code) = head_of (locals_at set font)

-- the frame, where these are its commands
abbrev pub program_of : FontSet → Home → List Placed → Program
program_of set h cs = record { scope = scope_of set h; first = first_named set h; commands = cs }

-- a page's document defines each font number once; a packet's font is one of the set
abbrev pub IsGiven : FontSet → Home → Type 0
IsGiven set (home.Page doc first) = (k : ℤ) → DefinesTwice doc.now.fonts k → ⊥
IsGiven set (home.Packet font code) = font < length set.fonts

abbrev pub scope_in : Frame → Scope
scope_in f = scope_of f.fonts.now f.home

abbrev pub program_in : Frame → List Placed → Program
program_in f cs = program_of f.fonts.now f.home cs

abbrev pub sense_in : Frame → Showing → Meaning
sense_in f char = sense f.grid f.fonts.now (scope_in f) char

-- what commands mean that set no character
abbrev pub bare_in : Frame → Meaning
bare_in f = sense_in f no_char

abbrev pub meaning_in : Frame → Meaning
meaning_in f = meaning f.grid f.fonts.now f.nest (scope_in f)

-- the selected font is one of the set
abbrev pub IsFont : FontSet → Option ℕ → Type 0
IsFont set None = Unit {0}
IsFont set (Some id) = id < length set.fonts

-- ---- a frame of the code, whose commands these are

abbrev pub marks_in : Frame → List Placed → Place → Outcome
marks_in f cs p = frame_marks f.grid f.fonts.now f.nest (program_in f cs) p

abbrev pub acts_in : Frame → List Placed → List FontAct
acts_in f cs = acts_of (program_in f cs)

abbrev pub count_in : Frame → List Placed → ℕ
count_in f cs = count f.fonts.now f.nest (program_in f cs)

-- the fonts cover the frame, and the canvas can take its marks
abbrev pub IsReady : {C : Type 0} → (C → Mark → Type 0) → Frame → C → List Placed → Place → Type 0
IsReady can f c cs p = Covers f.fonts.now (acts_in f cs) × CanTake can (IsPainted f.grid f.fonts.now (acts_in f cs)) c (marks_alone (marks_in f cs p))

-- The same of one command in its state, where a font is selected.
pub record IsTurnReady {C : Type 0} (can : C → Mark → Type 0) (f : Frame) (c : C) (cmd : Command) (font : Option ℕ) (marks : Option (List Mark)) : Type 0 where
  pub sel : Option Key
  pub same : id_of f.fonts.now sel ≡ font
  pub covers : Covers f.fonts.now (acts_of_command (scope_in f) sel cmd)
  pub can_take : CanTake can (IsPainted f.grid f.fonts.now (acts_of_command (scope_in f) sel cmd)) c marks

-- The same of a character.
pub record IsCharReady {C : Type 0} (can : C → Mark → Type 0) (f : Frame) (c : C) (font : Option ℕ) (code : ℤ) (marks : Option (List Mark)) : Type 0 where
  pub sel : Option Key
  pub same : id_of f.fonts.now sel ≡ font
  pub covers : Covers f.fonts.now (char_act sel code ∷ [])
  pub can_take : CanTake can (IsPainted f.grid f.fonts.now (char_act sel code ∷ [])) c marks
