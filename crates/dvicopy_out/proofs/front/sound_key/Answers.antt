use Rattle.std.proofs.Common.{rules, ◌<◌, ◌^◌, subst}
use Rattle.font_set.specs.Views.{key_of}
use Rattle.dvicopy_out.specs.Writable.{IsPutKey}
use Rattle.dvicopy_out.proofs.front.sound_key.Goals as goal

pub returns-clause-sound : goal.returns-clause-sound
returns-clause-sound c =
    let small : (key_of c.key-key.result.now).checksum < 2 ^ 32 = search rules in
    subst IsPutKey c.key-key.ensures.value (record { key = c.key-key.ensures.key; checksum = small })
