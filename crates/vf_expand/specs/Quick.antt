-- Characters that need no look-up and that nothing stops.
use Rattle.std.specs.Prelude.{true, ◌≡◌, ◌+◌, ◌<◌, ℕ, zero, suc, ◌+ℤ◌, List, [], ◌∷◌, ◌++◌, length, Some}
use Rattle.dvi_ops.specs.Spelling.{byte_at}
use Rattle.positions.specs.Place.{Place}
use Rattle.positions.specs.Mark.{Mark, IsModerate}
use Rattle.vf_expand.specs.Causes.{IsLarge}
use Rattle.vf_expand.specs.Marks.{past_char}
use Rattle.vf_expand.specs.Pages.{glyph_at}
use Rattle.vf_expand.specs.Wide.{IsChar}
use Rattle.vf_expand.specs.declared.grid.Wide.{Wide}
use Rattle.vf_expand.specs.declared.home.Frame.{Frame}

-- The byte is a character of the font with this id, and a glyph, so wide; the place behind it is within the limit.
pub record IsQuick (f : Frame) (id op : ℕ) (p : Place) (w : Wide) : Type 0 where
  pub small : op < 128
  pub char : IsChar f.grid f.fonts.now id op true w
  pub fits : IsLarge (p.h +ℤ w.width) → ⊥

-- Such a character leads from the place p to q, and this is its mark.
pub record Sets (f : Frame) (id op : ℕ) (p q : Place) (m : Mark) : Type 0 where
  pub wide : Wide
  pub quick : IsQuick f id op p wide
  pub past : past_char f.grid wide.width p ≡ Some q
  pub shown : m ≡ glyph_at f.grid id op p wide.width
  pub moderate : IsModerate m

-- Each of n bytes from a place of the bytes on is such a character; one after another they lead from p to q, and these are their marks.
abbrev pub AreSet : Frame → ℕ → List ℕ → ℕ → ℕ → Place → Place → List Mark → Type 0
AreSet f id bytes start zero p q ms = (p ≡ q) × (ms ≡ [])
AreSet f id bytes start (suc n) p q ms =
    (r : Place) × (ns : List Mark) × (m : Mark) × AreSet f id bytes start n p r ns × Sets f id (byte_at bytes (start + n)) r q m × (ms ≡ ns ++ m ∷ [])

-- The canvas can take the mark of each character that comes behind such ones.
abbrev pub CanSet : {C : Type 0} → (C → Mark → Type 0) → Frame → C → ℕ → List ℕ → ℕ → Place → Type 0
CanSet can f c id bytes start p =
    (n : ℕ) (q r : Place) (ms : List Mark) (m : Mark) → start + n < length bytes → AreSet f id bytes start n p q ms → Sets f id (byte_at bytes (start + n)) q r m → can c m

-- n such characters were set, and the canvas took their marks.
pub record TookSet {C : Type 0} (takes : C → C → List Mark → Type 0) (f : Frame) (id : ℕ) (bytes : List ℕ) (start n : ℕ) (p q : Place) (old new : C) : Type 0 where
  pub marks : List Mark
  pub set : AreSet f id bytes start n p q marks
  pub took : takes old new marks

-- Some such characters were set, and the canvas refused the mark of the next.
pub record RefusedSet {C F : Type 0} (refuses : C → C → List Mark → Mark → F → Type 0) (f : Frame) (id : ℕ) (bytes : List ℕ) (start : ℕ) (p : Place) (old new : C) (x : F) : Type 0 where
  pub count : ℕ
  pub marks : List Mark
  pub mark : Mark
  pub here : Place
  pub behind : Place
  pub inside : start + count < length bytes
  pub set : AreSet f id bytes start count p here marks
  pub next : Sets f id (byte_at bytes (start + count)) here behind mark
  pub refused : refuses old new marks mark x
