-- What the reader notes of a file's lengths.
use Rattle.std.specs.Prelude.{◌≡◌, ℕ, ◌+◌, ◌-◌, ◌*◌, ◌≤◌, List, length}
use Rattle.tfm_widths.specs.Lengths.{bc, ec, nw}
use Rattle.tfm_widths.specs.Widths.{infos_at, widths_at}
use Rattle.tfm_widths.specs.declared.layout.Layout.{Layout}

pub record IsLayout (bytes : List ℕ) (layout : Layout) : Type 0 where
  pub first : layout.first ≡ bc bytes
  pub past : layout.past ≡ ec bytes + 1
  pub order : layout.first ≤ layout.past
  pub codes : layout.past ≤ 256
  pub infos : layout.infos ≡ infos_at bytes
  pub header : 32 ≤ layout.infos
  pub widths : layout.widths ≡ widths_at bytes
  pub behind : layout.widths ≡ layout.infos + 4 * (layout.past - layout.first)
  pub count : layout.count ≡ nw bytes
  pub inside : layout.widths + 4 * layout.count ≤ length bytes
