-- What contracts see of a local font of the code.
use Rattle.dv_base.specs.FileName.{text_of}
use Rattle.vf_packets.specs.Font.{LocalFont}
use Rattle.vf_packets.specs.declared.local.Local.{Local}

abbrev pub local_view : Local → LocalFont
local_view l = record { k = l.k; checksum = l.checksum; scale = l.scale; design = l.design; name = text_of l.name }
