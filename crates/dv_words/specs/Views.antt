-- What the reader's own contracts see of its values. No public clause cites it.
use Rattle.std.specs.Prelude.{◌≡◌, map, Bool, true, false, Option, Some, None}
use Rattle.std.specs.Option.{option_map}
use Rattle.dv_base.specs.FileName.{text_of}
use Rattle.dv_words.specs.Draft.{Draft}
use Rattle.dv_words.specs.Grammar.{Front}
use Rattle.dv_words.specs.Stepping.{State}
use Rattle.dv_words.specs.Stepping.State.{Ready, Waits}
use Rattle.dv_words.specs.declared.draft.Draft.{Draft as TheDraft}
use Rattle.dv_words.specs.declared.tool.Front.{Front as TheFront}
use Rattle.dv_words.specs.declared.setting.Setting.{Setting}

abbrev pub draft_view : TheDraft → Draft
draft_view d =
    record {
      input = option_map text_of d.input;
      output = option_map text_of d.output;
      first = d.first;
      last = d.last;
      ranges = d.ranges.items;
      limit = d.limit;
      reverse = d.reverse;
      parity = d.parity;
      copies = d.copies;
      collated = d.collated;
      magnification = d.magnification;
      across = d.across;
      down = d.down;
      per_section = d.per_section;
      headers = map text_of d.headers.items;
      quiet = d.quiet;
      comments = d.comments;
      paper = d.paper;
      offset = d.offset;
      drift = d.drift;
      memory = d.memory;
      pass_ps = d.pass_ps;
      detail = d.detail;
    }

abbrev pub front_view : TheFront → Front Setting
front_view f = record { text = f.text.now; apart = f.apart; option = f.option }

-- what a parameter did: the draft changed as it says, or it was none
abbrev pub Sets : Option (Draft → Draft) → Draft → Bool → Draft → Type 0
Sets None old done new = done ≡ false
Sets (Some change) old done new = (done ≡ true) × (new ≡ change old)

abbrev pub state_of : Option Setting → Draft → State Setting Draft
state_of None d = Ready d
state_of (Some o) d = Waits o d
