-- What the files of a shelf tell of a font.
use Rattle.std.specs.Prelude.{◌≡◌, ◌≤◌, ℕ, zero, suc, ◌+◌, ◌-◌, ◌*◌, ◌/◌, List, [], ◌∷◌, ◌++◌, length, Option, Some, None, codes, decimal, unsigned_abs, nat_lt, if◌then◌else◌}
use Rattle.dv_base.specs.Shelf.{Contents, WhereHeld}
use Rattle.dv_base.specs.declared.units.Units.{Units}
use Rattle.tfm_widths.specs.Widths.{Table, IsTfm}
use Rattle.vf_packets.specs.Font.{VirtualFont}
use Rattle.vf_packets.specs.File.{IsVf}
use Rattle.pk_raster.specs.Font.{Font}
use Rattle.pk_raster.specs.File.{IsPk}
use Rattle.font_set.specs.Key.{Key}
use Rattle.font_set.specs.Fonts.{State, Entry, IsLoaded}
use Rattle.font_set.specs.declared.want.Want.{Want}
use Rattle.font_set.specs.declared.want.Want.TheVariants as wants

-- ---- names of files

abbrev pub tfm_name : Key → List ℕ
tfm_name key = key.name ++ codes ".tfm"

abbrev pub vf_name : Key → List ℕ
vf_name key = key.name ++ codes ".vf"

abbrev pub pk_name : Key → ℕ → List ℕ
pk_name key r = key.name ++ (46 ∷ (decimal r ++ codes "pk"))

-- the resolution of a font: dpi · mag · size / (1000 · design), rounded, a half up
unfoldable pub resolution : Units → Key → ℕ
resolution units key = (2 * (unsigned_abs units.dpi * unsigned_abs units.mag * key.size) + 1000 * key.design) / (2 * (1000 * key.design))

abbrev pub above_zero : Key → ℕ → List (List ℕ)
above_zero key r = if nat_lt r 1 then [] else pk_name key r ∷ []

-- the candidates for its bitmaps, the first one first
abbrev pub pk_names : Units → Key → List (List ℕ)
pk_names units key = above_zero key (resolution units key) ++ (above_zero key (resolution units key - 1) ++ above_zero key (resolution units key + 1))

-- ---- files

-- the limits
abbrev pub most_tfm : ℕ
most_tfm = 131068

abbrev pub most_file : ℕ
most_file = 4194304

abbrev pub or_else : Option (List ℕ) → Option (List ℕ) → Option (List ℕ)
or_else None o = o
or_else (Some bytes) o = Some bytes

-- the first of these files that is there
abbrev pub first_of : Contents → List (List ℕ) → Option (List ℕ)
first_of held [] = None
first_of held (n ∷ ns) = or_else (held n) (first_of held ns)

pub record HasTfm (held : Contents) (key : Key) (tfm : Table) : Type 0 where
  pub bytes : List ℕ
  pub held_so : held (tfm_name key) ≡ Some bytes
  pub within : length bytes ≤ most_tfm
  pub tells : IsTfm bytes tfm

pub record HasVf (held : Contents) (key : Key) (vf : VirtualFont) : Type 0 where
  pub bytes : List ℕ
  pub held_so : held (vf_name key) ≡ Some bytes
  pub within : length bytes ≤ most_file
  pub tells : IsVf bytes vf

pub record HasPk (held : Contents) (units : Units) (key : Key) (pk : Font) : Type 0 where
  pub bytes : List ℕ
  pub held_so : first_of held (pk_names units key) ≡ Some bytes
  pub within : length bytes ≤ most_file
  pub tells : IsPk bytes pk

-- where packets are wanted, a font without a VF file is real
abbrev pub IsReal : Contents → Want → Key → Type 0
IsReal held wants.Widths key = Unit {0}
IsReal held wants.Packets key = held (vf_name key) ≡ None
IsReal held wants.Rasters key = held (vf_name key) ≡ None

abbrev pub WantsPackets : Want → Type 0
WantsPackets wants.Widths = ⊥
WantsPackets wants.Packets = Unit {0}
WantsPackets wants.Rasters = Unit {0}

abbrev pub WantsRasters : Want → Type 0
WantsRasters wants.Widths = ⊥
WantsRasters wants.Packets = ⊥
WantsRasters wants.Rasters = Unit {0}

abbrev pub HasRasters : Contents → Units → Want → Key → Option Font → Type 0
HasRasters held units wants.Rasters key (Some pk) = HasPk held units key pk
HasRasters held units wants.Rasters key None = ⊥
HasRasters held units wants.Widths key o = o ≡ None
HasRasters held units wants.Packets key o = o ≡ None

-- The font of a key by the files that are held: the VF file is asked for first, the TFM file always.
abbrev pub FontOf : Contents → Units → Want → Key → State → Type 0
FontOf held units want key State.Known = ⊥
FontOf held units want key (State.Real tfm pk) = IsReal held want key × HasTfm held key tfm × HasRasters held units want key pk
FontOf held units want key (State.Virtual tfm vf) = WantsPackets want × HasVf held key vf × HasTfm held key tfm

-- ---- loading

-- A font that is loaded, from the files where these are told, unless it was loaded before.
abbrev pub LoadsAs : Option Contents → Units → Want → Key → State → State → Type 0
LoadsAs held units want key State.Known new = IsLoaded new × WhereHeld held (λ h. FontOf h units want key new)
LoadsAs held units want key (State.Real tfm pk) new = new ≡ State.Real tfm pk
LoadsAs held units want key (State.Virtual tfm vf) new = new ≡ State.Virtual tfm vf

-- One font is loaded, and everything else stays.
abbrev pub Loads : Option Contents → Units → Want → List Entry → List Entry → ℕ → Type 0
Loads held units want [] new id = ⊥
Loads held units want (e ∷ es) [] id = ⊥
Loads held units want (e ∷ es) (f ∷ fs) zero = (f.key ≡ e.key) × LoadsAs held units want e.key e.state f.state × (fs ≡ es)
Loads held units want (e ∷ es) (f ∷ fs) (suc id) = (f ≡ e) × Loads held units want es fs id
