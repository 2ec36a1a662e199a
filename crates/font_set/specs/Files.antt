-- What is read of the files of a font, in the words of the shelf before and after.
use Rattle.std.specs.Prelude.{◌≡◌, ◌≤◌, ◌<◌, ◌+◌, ◌^◌, ℕ, zero, suc, List, [], ◌∷◌, length, Option, Some, None}
use Rattle.std.specs.List.{Contains}
use Rattle.std.specs.Global.{Vec}
use Rattle.dv_base.specs.Causes.{Rose}
use Rattle.dv_base.specs.FileName.{text_of}
use Rattle.dv_base.specs.Shelf.{Contents, Told, WhereHeld, IsLong}
use Rattle.dv_base.specs.declared.units.Units.{Units}
use Rattle.vf_packets.specs.Font.{VirtualFont}
use Rattle.font_set.specs.declared.want.Want.{Want}
use Rattle.dv_base.specs.declared.name.FileName.{FileName}
use Rattle.font_set.specs.Key.{Key}
use Rattle.font_set.specs.Fonts.{State, Entry, FontSet, IsLoaded, raster_bytes, raster_bytes_in}
use Rattle.font_set.specs.Stored.{HasWanted, IsSound, IsFit}
use Rattle.font_set.specs.FontOf.{FontOf, HasTfm, HasVf, HasRasters, vf_name, pk_name, pk_names, above_zero, first_of, most_file}
use Rattle.font_set.specs.declared.fault.FontFault.{FontFault}
use Rattle.font_set.specs.declared.fault.FontFault.TheVariants as fault

-- a file's bytes, or that it isn't there
abbrev pub ReadGives : List ℕ → ℕ → Told → Told → Option (Vec ℕ) → Type 0
ReadGives name limit old new None = Rose old.absents new.absents × WhereHeld old.held (λ held. held name ≡ None)
ReadGives name limit old new (Some bytes) = (length bytes.items ≤ limit) × WhereHeld old.held (λ held. held name ≡ Some bytes.items)

-- why a file isn't read
abbrev pub NotRead : FileName → ℕ → Told → Told → FontFault → Type 0
NotRead name limit old new (fault.FileTooLong n) = (n ≡ name) × Rose old.overs new.overs × WhereHeld old.held (λ held. IsLong limit (held (text_of name)))
NotRead name limit old new (fault.ReadFault n) = (n ≡ name) × Rose old.faults new.faults
NotRead name limit old new fault.OutOfMemory = Unit {0}
NotRead name limit old new _ = ⊥

-- one candidate for the bitmaps, or that it isn't there; a candidate below 1 never is
abbrev pub CandidateGives : Key → ℕ → Told → Told → Option (FileName × Vec ℕ) → Type 0
CandidateGives key r old new None = (0 < r → Rose old.absents new.absents) × WhereHeld old.held (λ held. first_of held (above_zero key r) ≡ None)
CandidateGives key r old new (Some found) =
    (text_of found.0 ≡ pk_name key r) × (0 < r) × (length found.1.items ≤ most_file) × WhereHeld old.held (λ held. held (text_of found.0) ≡ Some found.1.items)

-- a VF file, or that it isn't there
abbrev pub VfGives : Key → Told → Option VirtualFont → Type 0
VfGives key old None = WhereHeld old.held (λ held. held (vf_name key) ≡ None)
VfGives key old (Some vf) = WhereHeld old.held (λ held. HasVf held key vf) × IsFit vf

-- The first file of bitmaps that is there.
pub record IsPkFound (set : FontSet) (key : Key) (old : Told) (found : FileName × Vec ℕ) : Type 0 where
  pub candidate : Contains (pk_names set.units key) (text_of found.0)
  pub within : length found.1.items ≤ most_file
  pub held : WhereHeld old.held (λ held. held (text_of found.0) ≡ Some found.1.items)
  pub first : WhereHeld old.held (λ held. first_of held (pk_names set.units key) ≡ Some found.1.items)

-- A real font that was read: its TFM file, and its PK file where bitmaps are wanted.
abbrev pub RealOf : Contents → Units → Want → Key → State → Type 0
RealOf held units want key State.Known = ⊥
RealOf held units want key (State.Real tfm pk) = HasTfm held key tfm × HasRasters held units want key pk
RealOf held units want key (State.Virtual tfm vf) = ⊥

abbrev pub IsReal : State → Type 0
IsReal State.Known = ⊥
IsReal (State.Real tfm pk) = Unit {0}
IsReal (State.Virtual tfm vf) = ⊥

pub record IsRealRead (set : FontSet) (key : Key) (old : Told) (state : State) : Type 0 where
  pub real : IsReal state
  pub tells : WhereHeld old.held (λ held. RealOf held set.units set.want key state)
  pub sound : IsSound state
  pub room : raster_bytes set.fonts + raster_bytes_in state ≤ 2 ^ 30
  pub wanted : HasWanted set.want state

-- A font that was read for a key of the set: it is what the files tell, and there is room for its bitmaps.
pub record IsRead (set : FontSet) (key : Key) (old : Told) (state : State) : Type 0 where
  pub loaded : IsLoaded state
  pub tells : WhereHeld old.held (λ held. FontOf held set.units set.want key state)
  pub sound : IsSound state
  pub room : raster_bytes set.fonts + raster_bytes_in state ≤ 2 ^ 30
  pub wanted : HasWanted set.want state

-- the state of one font is put in its place
abbrev pub with_state : List Entry → ℕ → State → List Entry
with_state [] id state = []
with_state (e ∷ es) zero state = record { key = e.key; state = state } ∷ es
with_state (e ∷ es) (suc id) state = e ∷ with_state es id state
