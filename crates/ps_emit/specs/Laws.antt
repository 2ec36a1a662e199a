-- The laws of the whole text, which the functions of src/laws.rt promise, and what they ask of a job.
use Rattle.std.specs.Prelude.{ℕ, ◌≡◌, ◌<◌, ◌≤◌, ◌^◌, List, [], ◌++◌, length, unsigned_abs, Bool, true, ◌&&◌, nat_le, Some}
use Rattle.std.specs.List.{list_all, AllByRecursion, Contains}
use Rattle.dv_base.specs.FileName as name
use Rattle.positions.specs.Mark.{Mark}
use Rattle.pk_raster.specs.Font.{Bitmap}
use Rattle.pk_raster.specs.Laws.{AreRows}
use Rattle.font_set.specs.Fonts.{FontSet, bitmap_at}
use Rattle.sections.specs.Used.{Used, HasTaken, is_used, used_in}
use Rattle.ps_subset.specs.State.{Event, Character}
use Rattle.ps_subset.specs.Run.{events}
use Rattle.ps_subset.specs.Blocks.{AllShort}
use Rattle.ps_subset.specs.Marks.{without_texts}
use Rattle.ps_subset.specs.Marked.{IsGoodMarked, printout_of}
use Rattle.ps_subset.specs.Economy.{IsEconomical, page_texts, put_glyphs, sections_stretches, sections_glyphs}
use Rattle.ps_emit.specs.Letters.{fonts_used}
use Rattle.ps_emit.specs.Taken.{IsTakeable, AllTakeable}
use Rattle.ps_emit.specs.Pages.{PrintedPage, Work, bytes_of_job, job_calls, text_of_job}
use Rattle.ps_emit.specs.Expected.{expected}
use Rattle.ps_emit.specs.declared.setup.Setup.{Setup}

-- a visible character of ASCII
abbrev pub is_visible : ℕ → Bool
is_visible byte = nat_le 33 byte && nat_le byte 126

-- A setup with a name of visible characters, 10 to 10,000 pixels an inch, and 1 to 999 copies; the rest is in the range of its type.
pub record IsGoodSetup (s : Setup) : Type 0 where
  pub title : list_all is_visible (name.text_of s.title) ≡ true
  pub pages : s.pages < 2 ^ 32
  pub width : unsigned_abs s.paper.0 < 2 ^ 63
  pub height : unsigned_abs s.paper.1 < 2 ^ 63
  pub across_low : 10 ≤ s.dpi.0
  pub across_high : s.dpi.0 ≤ 10000
  pub down_low : 10 ≤ s.dpi.1
  pub down_high : s.dpi.1 ≤ 10000
  pub origin_x : unsigned_abs s.origin.0 < 2 ^ 63
  pub origin_y : unsigned_abs s.origin.1 < 2 ^ 63
  pub copies_some : 1 ≤ s.copies
  pub copies_few : s.copies ≤ 999

-- a set of at most 1,000 fonts, whose bitmaps have whole rows of at most 65,535 bytes
pub record IsGoodSet (set : FontSet) : Type 0 where
  pub few : length set.fonts ≤ 1000
  pub rows : (id code : ℕ) (b : Bitmap) → bitmap_at set id code ≡ Some b → AreRows b

-- a page whose marks an emitter can take
pub record IsGoodPage (set : FontSet) (p : PrintedPage) : Type 0 where
  pub label : unsigned_abs p.label ≤ 2 ^ 31
  pub number : p.number < 2 ^ 32
  pub marks : AllTakeable set p.marks

abbrev pub AllGoodPages : FontSet → List PrintedPage → Type 0
AllGoodPages set ps = AllByRecursion (IsGoodPage set) ps

-- all that is asked of a job
pub record IsGoodWork (s : Setup) (w : Work) : Type 0 where
  pub setup : IsGoodSetup s
  pub headers : AllShort w.headers
  pub fonts : IsGoodSet w.fonts
  pub pages : AllByRecursion (AllGoodPages w.fonts) w.sections

-- The text is one that the machine's laws speak of.
abbrev pub TextIsGood : Type 0
TextIsGood = (comments : Bool) (s : Setup) (w : Work) → IsGoodWork s w → IsGoodMarked (text_of_job comments s w)

-- It has a run, whose events, but for the strings that are shown, are exactly those that the job owes.
abbrev pub TextShows : Type 0
TextShows = (comments : Bool) (s : Setup) (w : Work) → IsGoodWork s w → (es : List Event) × (events (bytes_of_job comments s w) ≡ Some es) × (without_texts es ≡ expected comments s w)

-- What stands of it up to any byte has a run, whose events without the strings are the first of those.
abbrev pub CutTextShows : Type 0
CutTextShows =
    (comments : Bool) (s : Setup) (w : Work) → IsGoodWork s w → (xs ys : List ℕ) → bytes_of_job comments s w ≡ xs ++ ys →
    (so_far : List Event) × (later : List Event) × (events xs ≡ Some so_far) × (expected comments s w ≡ without_texts so_far ++ later)

-- The strings of each page are its stretches, each glyph that a section uses is put once in it, and no other glyph is.
abbrev pub TextSpares : Type 0
TextSpares = (comments : Bool) (s : Setup) (w : Work) → IsGoodWork s w → (es : List Event) → events (bytes_of_job comments s w) ≡ Some es → IsEconomical (printout_of (text_of_job comments s w)) es

-- Cut anywhere, it shows the first of these strings, and puts the first of these glyphs.
abbrev pub CutTextSpares : Type 0
CutTextSpares =
    (comments : Bool) (s : Setup) (w : Work) → IsGoodWork s w → (xs ys : List ℕ) (so_far : List Event) → bytes_of_job comments s w ≡ xs ++ ys → events xs ≡ Some so_far →
    let t = printout_of (text_of_job comments s w) in
    ((later : List (List Event)) × (sections_stretches t.job t.sections ≡ page_texts [] so_far ++ later)) ×
    ((later : List Character) × (sections_glyphs t.sections ≡ put_glyphs [] so_far ++ later))

-- What the calls write one after another is the text.
abbrev pub CallsMakeText : Type 0
CallsMakeText = (comments : Bool) (s : Setup) (w : Work) → AllByRecursion (AllGoodPages w.fonts) w.sections → job_calls comments s w ≡ bytes_of_job comments s w

-- Marks of which each can be taken can all be taken.
abbrev pub EachIsTakeable : Type 0
EachIsTakeable = (set : FontSet) (marks : List Mark) → ((mark : Mark) → Contains marks mark → IsTakeable set mark) → AllTakeable set marks

-- Where exactly the glyphs of these marks were taken, the fonts by what was taken are those by the marks.
abbrev pub UsageGivesFonts : Type 0
UsageGivesFonts = (set : FontSet) (u : Used) (marks : List Mark) → HasTaken u marks → u.fonts ≡ length set.fonts → fonts_used set (is_used u) ≡ fonts_used set (used_in marks)
