-- What the reader's own contracts see of the option that a word begins with. No public clause cites it.
use Rattle.std.specs.Option.{option_map}
use Rattle.dv_words.specs.Stepping.{Opened}
use Rattle.dv_words.specs.declared.opened.Opened.{Opened as TheOpened}
use Rattle.dv_words.specs.declared.setting.Setting.{Setting}

abbrev pub opened_view : TheOpened → Opened Setting
opened_view op = record { option = op.option; rest = option_map (λ r. r.now) op.rest }
