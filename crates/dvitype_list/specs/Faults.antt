-- A fault of a font as one of the listing: want of memory is a variant of its own.
use Rattle.font_set.specs.declared.fault.FontFault.{FontFault}
use Rattle.font_set.specs.declared.fault.FontFault.TheVariants as font
use Rattle.font_set.specs.declared.fault.LoadFault.TheVariants as load
use Rattle.dvitype_list.specs.declared.fault.ListFault.{ListFault}
use Rattle.dvitype_list.specs.declared.fault.ListFault.TheVariants as fault

abbrev pub of_font : FontFault → ListFault
of_font font.OutOfMemory = fault.OutOfMemory
of_font f = fault.Load (load.Font f)
