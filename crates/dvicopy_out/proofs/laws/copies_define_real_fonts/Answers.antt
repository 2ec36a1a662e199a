use Rattle.dvicopy_out.proofs.RealFonts.{copy_defines_real}
use Rattle.dvicopy_out.proofs.laws.copies_define_real_fonts.Goals as goal

pub returns : goal.returns
returns c = copy_defines_real
