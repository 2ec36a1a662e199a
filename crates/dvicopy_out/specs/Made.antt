-- What is known of a copy that was measured, and from the moment at which it is begun.
use Rattle.std.specs.Prelude.{◌≡◌, ◌≤◌, ℕ, ℤ, List, Result, Ok, Err}
use Rattle.std.specs.List.{AllByRecursion}
use Rattle.dvi_doc.specs.View.{ReadDoc}
use Rattle.font_set.specs.Fonts.{FontSet}
use Rattle.vf_expand.specs.Grid.{Grid}
use Rattle.dvicopy_out.specs.Copies.{pages_length}
use Rattle.dvicopy_out.specs.Counted.{counted}
use Rattle.dvicopy_out.specs.Leaves.{work_of}
use Rattle.dvicopy_out.specs.Pages.{IsReady, commands_at, copy_page, copy_pages}
use Rattle.dvicopy_out.specs.Units.{AreOf, IsOf}
use Rattle.dvicopy_out.specs.Writable.{IsPutCopy, IsPutPage}
use Rattle.dvicopy_out.specs.declared.fault.CopyFault.{CopyFault}
use Rattle.dvicopy_out.specs.declared.fault.CopyFault.TheVariants as fault

-- the numbers of the page at a place are not too large, and its marks are of the set
pub record IsPutAt (g : Grid) (set : FontSet) (r : ReadDoc) (k : ℕ) : Type 0 where
  pub page : IsPutPage (copy_page g set r k)
  pub of_set : AllByRecursion (IsOf set) (copy_page g set r k).marks

-- The pages were measured and have so many bytes together, at most the greatest of 64 bits: each can be copied and put, and the commands
-- are not too many.
pub record IsMeasured (g : Grid) (set : FontSet) (r : ReadDoc) (ks : List ℕ) (bytes : ℕ) : Type 0 where
  pub bytes_are : bytes ≡ counted 0 (pages_length set (copy_pages g set r ks))
  pub ready : AllByRecursion (IsReady g set r) ks
  pub put : AllByRecursion (IsPutAt g set r) ks
  pub few : commands_at set r ks ≤ 50000000

-- The marks of the pages are defined, no push is too deep, and the commands are not too many; the numbers of the copy are not too large,
-- it has fewer than 2^31 bytes, and its marks are of the set.
pub record IsMade (g : Grid) (set : FontSet) (r : ReadDoc) (ks : List ℕ) (mag : ℤ) : Type 0 where
  pub ready : AllByRecursion (IsReady g set r) ks
  pub few : commands_at set r ks ≤ 50000000
  pub put : IsPutCopy (work_of r set mag) (copy_pages g set r ks)
  pub of_set : AreOf set (copy_pages g set r ks)

-- where the copy was written, and where the tray failed
abbrev pub WhereBegun : {X : Type 0} → Type 0 → Result X CopyFault → Type 0
WhereBegun P (Ok x) = P
WhereBegun P (Err fault.WriteFault) = P
WhereBegun P (Err e) = Unit {0}
