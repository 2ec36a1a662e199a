-- Why a font is not known, or not loaded.
use Rattle.std.specs.Prelude.{◌≡◌, ◌≢◌, ◌⊎◌, ◌+◌, ◌-◌, ◌^◌, ℕ, List, ◌∷◌, ◌++◌, length, Some, None}
use Rattle.std.specs.List.{Contains}
use Rattle.dv_base.specs.Causes.{Rose}
use Rattle.dv_base.specs.FileName.{text_of}
use Rattle.dv_base.specs.Shelf.{Contents, Told, WhereHeld, IsLong}
use Rattle.tfm_widths.specs.Faults.{FaultIn, IsOfBytes}
use Rattle.tfm_widths.specs.Widths.{Table, IsTfm}
use Rattle.tfm_widths.specs.declared.fault.TfmFault.{TfmFault}
use Rattle.vf_packets.specs.Faults.{VfFaultIs, NoFont}
use Rattle.vf_packets.specs.declared.fault.VfFault.{VfFault}
use Rattle.vf_packets.specs.declared.fault.VfFault.TheVariants as vf
use Rattle.pk_raster.specs.Faults.{PkFaultIs, NoFont as NoPk}
use Rattle.pk_raster.specs.declared.fault.PkFault.{PkFault}
use Rattle.pk_raster.specs.declared.fault.PkFault.TheVariants as pk
use Rattle.font_set.specs.Key.{Key}
use Rattle.font_set.specs.Fonts.{Entry, FontSet, place_of, raster_bytes}
use Rattle.font_set.specs.FontOf.{tfm_name, vf_name, pk_name, pk_names, resolution, first_of, most_tfm, most_file, IsReal, WantsPackets, WantsRasters}
use Rattle.font_set.specs.declared.fault.FontFault.{FontFault}
use Rattle.font_set.specs.declared.fault.FontFault.TheVariants as fault

-- ---- making a key known

-- 1,000 keys are known, and this one isn't.
abbrev pub IsFull : List Entry → Key → Type 0
IsFull es key = (length es ≡ 1000) × (place_of es key ≡ None)

abbrev pub NotKnown : List Entry → Key → FontFault → Type 0
NotKnown es key fault.TooManyFonts = IsFull es key
NotKnown es key fault.OutOfMemory = Unit {0}
NotKnown es key _ = ⊥

-- ---- loading a font

-- The font is real by what the shelf tells: a virtual font needs no bitmaps.
abbrev pub IsRealBy : FontSet → Key → Told → Type 0
IsRealBy set key told = WhereHeld told.held (λ held. IsReal held set.want key)

-- Of these files, tried one after another, the one of this name is tried: those before it aren't there.
pub record IsTried (names : List (List ℕ)) (name : List ℕ) (held : Contents) : Type 0 where
  pub before : List (List ℕ)
  pub behind : List (List ℕ)
  pub among : before ++ name ∷ behind ≡ names
  pub absent : first_of held before ≡ None

-- A file that may have the bitmaps of the font.
pub record IsPkFile (set : FontSet) (key : Key) (name : List ℕ) (old : Told) : Type 0 where
  pub wanted : WantsRasters set.want
  pub real : IsRealBy set key old
  pub candidate : Contains (pk_names set.units key) name
  pub tried : WhereHeld old.held (IsTried (pk_names set.units key) name)

-- A file that is read of a font, by its name, and its limit.
abbrev pub IsFontFile : FontSet → Key → List ℕ → ℕ → Told → Type 0
IsFontFile set key name limit old =
    ((name ≡ tfm_name key) × (limit ≡ most_tfm))
    ⊎ ((WantsPackets set.want × (name ≡ vf_name key) × (limit ≡ most_file))
    ⊎ (IsPkFile set key name old × (limit ≡ most_file)))

-- The font is real, no candidate for its bitmaps is there, and this is the last of them.
pub record HasNoPk (set : FontSet) (key : Key) (name : List ℕ) (old : Told) : Type 0 where
  pub wanted : WantsRasters set.want
  pub real : IsRealBy set key old
  pub last : name ≡ pk_name key (resolution set.units key + 1)
  pub absent : WhereHeld old.held (λ held. first_of held (pk_names set.units key) ≡ None)

-- The TFM file isn't there; or the bitmaps of a real font aren't.
abbrev pub IsMissing : FontSet → Key → List ℕ → Told → Type 0
IsMissing set key name old = ((name ≡ tfm_name key) × WhereHeld old.held (λ held. held name ≡ None)) ⊎ HasNoPk set key name old

-- how many bytes of bitmaps there is room for
abbrev pub raster_room : FontSet → ℕ
raster_room set = 2 ^ 30 - raster_bytes set.fonts

-- The bytes of the TFM file are at fault.
pub record BadTfm (set : FontSet) (key : Key) (name : List ℕ) (old : Told) (e : TfmFault) : Type 0 where
  pub names : name ≡ tfm_name key
  pub bytes : List ℕ
  pub held : WhereHeld old.held (λ held. held name ≡ Some bytes)
  pub fault : FaultIn bytes e
  pub ours : IsOfBytes e
  pub none : (table : Table) → IsTfm bytes table → ⊥

-- The bytes of the VF file are at fault.
pub record BadVf (set : FontSet) (key : Key) (name : List ℕ) (old : Told) (e : VfFault) : Type 0 where
  pub wanted : WantsPackets set.want
  pub names : name ≡ vf_name key
  pub bytes : List ℕ
  pub held : WhereHeld old.held (λ held. held name ≡ Some bytes)
  pub fault : VfFaultIs bytes e
  pub ours : e ≢ vf.OutOfMemory
  pub none : NoFont bytes

-- The font is real, and the bytes of a PK file are the first that a candidate has.
pub record IsFirstPk (set : FontSet) (key : Key) (old : Told) (bytes : List ℕ) : Type 0 where
  pub wanted : WantsRasters set.want
  pub real : IsRealBy set key old
  pub held : WhereHeld old.held (λ held. first_of held (pk_names set.units key) ≡ Some bytes)

-- They are at fault.
pub record BadPk (set : FontSet) (key : Key) (name : List ℕ) (old : Told) (e : PkFault) : Type 0 where
  pub names : Contains (pk_names set.units key) name
  pub bytes : List ℕ
  pub held : WhereHeld old.held (λ held. held name ≡ Some bytes)
  pub first : IsFirstPk set key old bytes
  pub fault : PkFaultIs bytes (raster_room set) e
  pub ours : e ≢ pk.OutOfMemory
  pub bad : e ≢ pk.Space
  pub none : NoPk bytes (raster_room set)

-- Their bitmaps are too many bytes, beside those of the fonts that are loaded.
pub record NoRoom (set : FontSet) (key : Key) (old : Told) : Type 0 where
  pub bytes : List ℕ
  pub first : IsFirstPk set key old bytes
  pub more : PkFaultIs bytes (raster_room set) pk.Space
  pub none : NoPk bytes (raster_room set)

-- Why the font of a key isn't loaded into the set; the shelf told this before the call, and this after it.
abbrev pub NotLoaded : FontSet → Key → Told → Told → FontFault → Type 0
NotLoaded set key old new (fault.Missing name) = Rose old.absents new.absents × IsMissing set key (text_of name) old
NotLoaded set key old new (fault.FileTooLong name) =
    Rose old.overs new.overs × (limit : ℕ) × IsFontFile set key (text_of name) limit old × WhereHeld old.held (λ held. IsLong limit (held (text_of name)))
NotLoaded set key old new (fault.ReadFault name) = Rose old.faults new.faults × (limit : ℕ) × IsFontFile set key (text_of name) limit old
NotLoaded set key old new (fault.Tfm name e) = BadTfm set key (text_of name) old e
NotLoaded set key old new (fault.Vf name e) = BadVf set key (text_of name) old e
NotLoaded set key old new (fault.Pk name e) = BadPk set key (text_of name) old e
NotLoaded set key old new fault.RasterSpace = NoRoom set key old
NotLoaded set key old new fault.OutOfMemory = Unit {0}
NotLoaded set key old new fault.TooManyFonts = ⊥
NotLoaded set key old new (fault.BadSize parts) = ⊥
