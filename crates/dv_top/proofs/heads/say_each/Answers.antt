use Rattle.std.proofs.Common.{◌≡◌, ◌+◌, ℕ, List, [], ◌∷◌, ◌++◌, arith, ap, sym, ◌∙◌, append_assoc, drop, length, map, get_or, subst, refl}
use Rattle.std.proofs.lemmas.List.{append-nil, map-append}
use Rattle.dv_top.specs.Spoken.{SaysAll, says_more, says_none, says_one}
use Rattle.dv_top.specs.Texts.{texts_in, total}
use Rattle.dv_top.specs.Warnings.{special_line}
use Rattle.dv_top.proofs.Gathered.{texts_ahead, texts_behind, total_ahead}
use Rattle.dv_top.proofs.heads.say_each.Goals as goal

pub loop-length-init : goal.loop-length-init
loop-length-init g c = record { room = c.requires; said = ([], says_none _, refl) }

pub split_at-requires : goal.split_at-requires
split_at-requires g c =
    let room = c.loop-length.invariant.room in
    omega (arith, room, total_ahead c.args.lengths.now c.loop-length.length-index c.loop-length-test.true)

pub loop-length-preserved : goal.loop-length-preserved
loop-length-preserved g c =
    let seen = g.T.Tray.seen in
    let ns = c.args.lengths.now in
    let i = c.loop-length.length-index in
    let rest = c.loop-length.rest.now in
    let head = c.split_at.result.0.now in
    let behind = c.split_at.result.1.now in
    let room = c.loop-length.invariant.room in
    let said = c.loop-length.invariant.said in
    let ahead : texts_in (drop i ns) rest ≡ head ∷ texts_in (drop (i + 1) ns) behind = texts_ahead ns rest head behind i c.loop-length-test.true c.split_at.ensures.front c.split_at.ensures.back in
    record {
      room = omega (arith, room, total_ahead ns i c.loop-length-test.true, c.split_at.ensures.back_len);
      said = (
        said.0 ++ head ∷ [],
        subst (λ (ls : List (List ℕ)). SaysAll ls (seen c.args.tray.now) (seen c.say_special.new.tray)) (sym (map-append special_line said.0 (head ∷ [])))
            (says_more (map special_line said.0) (special_line head ∷ []) (seen c.args.tray.now) (seen c.loop-length.tray) (seen c.say_special.new.tray) said.1 (says_one (special_line head) _ _ c.say_special.ensures)),
        append_assoc said.0 (head ∷ []) (texts_in (drop (i + 1) ns) behind) ∙ ap (λ (l : List (List ℕ)). said.0 ++ l) (sym ahead) ∙ said.2,
      );
    }

pub returns : goal.returns
returns g c =
    let seen = g.T.Tray.seen in
    let ns = c.args.lengths.now in
    let i = c.loop-length.length-index in
    let said = c.loop-length.invariant.said in
    let all : said.0 ≡ texts_in ns c.args.bytes.now =
    sym (append-nil said.0) ∙ ap (λ (l : List (List ℕ)). said.0 ++ l) (sym (texts_behind ns c.loop-length.rest.now i c.loop-length-test.false)) ∙ said.2 in
    subst (λ (ls : List (List ℕ)). SaysAll (map special_line ls) (seen c.args.tray.now) (seen c.loop-length.tray)) all said.1
