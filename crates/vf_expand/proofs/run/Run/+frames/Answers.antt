use Rattle.std.proofs.Common.{◌≡◌, ◌<◌, ◌≤◌, ◌+◌, ◌-◌, ◌∙◌, pos, List, [], ◌∷◌, ◌++◌, length, take, drop, Option, Some, None, refl, sym, ap, subst, ℕ, arith, rules, inl, inr, FitsSigned, w64}
use Rattle.std.specs.Prelude.{vec_len}
use Rattle.std.proofs.lemmas.Int.{to_z-of_z}
use Rattle.vf_expand.specs.Marks.{Outcome, step}
use Rattle.vf_expand.specs.Takes.{Took, Follows, CanTake, Nothing, Stops, RefusesNext, Halts}
use Rattle.dvi_ops.specs.Command.Command.{Set, Put}
use Rattle.std.proofs.Math.Seq.{take-length}
use Rattle.std.proofs.Math.ListN.{drop_of_length-le}
use Rattle.std.proofs.lemmas.Result.{err_from_is_err_and}
use Rattle.dvi_ops.specs.View.{view}
use Rattle.dvi_ops.specs.Placed.{Lexes}
use Rattle.positions.specs.Mark.{Mark}
use Rattle.font_set.specs.Programs.{select}
use Rattle.font_set.specs.Frames.{acts_of_command}
use Rattle.vf_expand.specs.Painted.{HasGlyph, IsPainted}
use Rattle.font_set.specs.Count.{runs, count_from}
use Rattle.vf_expand.specs.Grid.{State}
use Rattle.vf_expand.specs.Turn.{open_at, turned, turn_marks}
use Rattle.vf_expand.specs.Marks.{marks_alone}
use Rattle.vf_expand.specs.Pages.{start_in}
use Rattle.vf_expand.specs.Homes.{first_of, spot_of, scope_in, program_in, meaning_in, bare_in, marks_in, acts_in, count_in}
use Rattle.vf_expand.specs.Causes.{inside, IsCause, IsHaltCause}
use Rattle.dv_base.specs.declared.font_id.Spot.TheVariants as spot
use Rattle.vf_expand.specs.declared.fault.Halt.{Halt}
use Rattle.vf_expand.proofs.Bytes.{start_room, more_room, room_all, finish, lexed_next, none_open, pushed, as_many, no_fault, at_end, left_all, rest_nil}
use Rattle.vf_expand.proofs.Sizes.{special_in_range}
use Rattle.vf_expand.proofs.Covering.{Ahead}
use Rattle.vf_expand.proofs.Sets.{TookListed, ahead_set, at_font, going_at, can_set, counted_set, covers_set, going_with, goes_listed, goes_set, listed_of, refused_set}
use Rattle.vf_expand.proofs.Nops.{ahead_behind, counted_behind, goes_behind}
use Rattle.vf_expand.proofs.Covering.{ahead_start, ahead_next, painted_more}
use Rattle.vf_expand.proofs.Coming.{took_both, char_alone, follows_more}
use Rattle.font_set.specs.Fonts.{width_at, packet_at}
use Rattle.font_set.specs.Frames.{char_act}
use Rattle.vf_expand.specs.Pages.{chars, glyph_at, inner, frame_marks}
use Rattle.vf_expand.specs.Takes.{char_marks}
use Rattle.vf_expand.proofs.Chars.{program_none, font_given, covered_char, width_there, chars_real, can_glyph, is_set, has_glyph, took_real, refused_real, runs_real, packet_home, packet_ready, all_inner, over_packet, took_packet}
use Rattle.vf_expand.proofs.Packets.{packet, nested, nested_cause, refused_inside, packet_cause}
use Rattle.vf_expand.proofs.Turns.{plain_view, plain_bracket, plain_turn, plain_passed, plain_refused, set_turn, put_turn, covers_set_turn, covers_put_turn, overflowed, fnt_turn, selects, same_step, set_ready, put_ready, ready_at, took_back, back, same_passes}
use Rattle.vf_expand.proofs.Counting.{count_on, count_part, many_on, one_step, same_font}
use Rattle.vf_expand.proofs.Stopping.{can_on, covers_next, stop_on, cause_next, none_left, same_start, same_chain, can_later, can_nothing, plain_marks}
use Rattle.vf_expand.specs.Shallow.{PacketFinds}
use Rattle.vf_expand.proofs.Rooms.{room_real, room_packet, push_room, pop_room, font_room, set_room, put_room, plain_room}
use Rattle.dvi_ops.specs.Spelling.{byte_at}
use Rattle.dvi_ops.proofs.Texts.{set_single}
use Rattle.vf_expand.specs.declared.fault.WalkFault.TheVariants as fault
use Rattle.vf_expand.proofs.run.Run.+frames.Goals as goal

pub frame-loop-at-init : goal.frame-loop-at-init
frame-loop-at-init g t c =
    let f = c.args.frame.now in
    let from = first_of f.home in
    let set = f.fonts.now in
    let items = c.args.self.now.saved.items in
    let r = c.requires.ready in
    let at : from ≡ from + 0 = omega arith in
    let is : f.base ≡ length items = omega (arith, c.requires.base) in
    record {
      inside = omega arith;
      higher = omega (arith, c.requires.base);
      below = ap (λ n. take n items) is ∙ take-length items;
      same = same_start g.C.Canvas.can c.args.canvas.now;
      met = c.first-font.ensures.met;
      ahead = (r.0, r.1, r.3, ahead_start set (program_in f r.0) c.args.bytes.now (from + 0) c.first-font.result (subst (λ (k : ℕ). Lexes k c.args.bytes.now r.0) at r.1) r.2 r.3.0 (c.first-font.ensures.value r.0));
      counted = λ cs l. (cs, subst (λ (k : ℕ). Lexes k c.args.bytes.now cs) at l, ap (λ (o : Option ℕ). c.args.self.now.steps + count_from set f.nest (scope_in f) o cs) (c.first-font.ensures.value cs));
      goes = λ cs l.
          start_room (Took (HasGlyph c.args.frame.now.grid c.args.frame.now.fonts.now) g.C.Canvas.takes) (meaning_in f) (start_in set (program_in f cs) c.args.start) cs c.args.bytes.now (from + 0) c.args.canvas.now (open_at f.base items) (record { place = c.args.start; font = c.first-font.result })
          (g.met.C.Canvas.starts c.args.canvas.now, tt) (subst (λ (k : ℕ). Lexes k c.args.bytes.now cs) at l) (none_open f.base items is)
          (ap (λ (o : Option ℕ). record { place = c.args.start; font = o }) (c.first-font.ensures.value cs)) (PacketFinds f.grid set f.nest) f.base;
    }

pub frame-spot-requires : goal.frame-spot-requires
frame-spot-requires g t c = omega (arith, c.requires.short)

pub frame-loop-at-preserved-then-is_nop : goal.frame-loop-at-preserved-then-is_nop
frame-loop-at-preserved-then-is_nop g t c =
    let f = c.args.frame.now in
    let set = f.fonts.now in
    let bytes = c.args.bytes.now in
    let from = first_of f.home in
    let at = c.loop-at.at in
    let inv = c.loop-at.invariant in
    let a = inv.ahead in
    let e = c.pass_nops-at.ensures in
    let end = c.pass_nops-at.result in
    record {
      inside = e.inside;
      higher = rw e.stack inv.higher;
      below = ap (take f.base) e.stack ∙ inv.below;
      same = inv.same;
      met = rw e.met inv.met;
      ahead = (a.0, a.1, a.2, ahead_behind c.one_spelling.ensures set (scope_in f) (acts_in f a.0) c.loop-at.font bytes from at end e.further e.inside e.nops a.3);
      counted = λ cs l.
          let q = inv.counted cs l in
          let n = counted_behind c.one_spelling.ensures (runs set f.nest) (select set (scope_in f)) c.loop-at.font bytes from at end e.further e.inside e.nops q.0 q.1 in
          (n.0, n.1, omega (arith, q.2, n.2, e.steps));
      goes = λ cs l.
          rw e.stack
          (goes_behind (Took (HasGlyph f.grid set) g.C.Canvas.takes) (took_both (HasGlyph f.grid set) g.C.Canvas.takes g.met.C.Canvas.chains) c.one_spelling.ensures (meaning_in f) (start_in set (program_in f cs) c.args.start) cs bytes from at end c.args.canvas.now c.loop-at.canvas (open_at f.base c.loop-at.self.saved.items) (record { place = c.loop-at.pos; font = c.loop-at.font })
          (g.met.C.Canvas.starts c.loop-at.canvas, tt) e.further e.inside e.nops (PacketFinds f.grid set f.nest) f.base (inv.goes cs l));
    }

pub frame-loop-at-preserved : goal.frame-loop-at-preserved
frame-loop-at-preserved g t c =
    let f = c.args.frame.now in
    let inv = c.loop-at.invariant in
    let a = inv.ahead in
    let k = c.in-Ok-next_cmd.ensures.found in
    let e = c.in_ok-turn-in-Ok-next_cmd.ensures in
    let x = ahead_next c.one_spelling.ensures f.fonts.now (scope_in f) (acts_in f a.0) c.loop-at.font c.args.bytes.now (first_of f.home) c.loop-at.at c.in-Ok-next_cmd.end (view c.in-Ok-next_cmd.cmd) k.0 k.1 k.2 a.3 in
    record {
      inside = k.1;
      higher = omega (arith, e.base);
      below = e.below ∙ inv.below;
      same = same_chain g.C.Canvas.can c.args.canvas.now c.loop-at.canvas c.turn.new.canvas inv.same e.same;
      met = e.met;
      ahead = (a.0, a.1, a.2, rw e.behind x.left);
      counted = λ cs l.
          let q = inv.counted cs l in
          let n = lexed_next c.one_spelling.ensures c.args.bytes.now (first_of f.home) c.loop-at.at c.in-Ok-next_cmd.end (view c.in-Ok-next_cmd.cmd) q.0 k.0 k.1 k.2 q.1 in
          (n.1, n.5, rw e.behind (count_on (runs f.fonts.now f.nest) (select f.fonts.now (scope_in f)) c.loop-at.font q.0 n.1 n.0 (view c.in-Ok-next_cmd.cmd) c.loop-at.self.steps c.turn.new.self.steps (c.args.self.now.steps + count_in f cs) n.2 n.3 q.2 e.steps));
      goes = λ cs l.
          more_room (Took (HasGlyph c.args.frame.now.grid c.args.frame.now.fonts.now) g.C.Canvas.takes) (took_both (HasGlyph c.args.frame.now.grid c.args.frame.now.fonts.now) g.C.Canvas.takes g.met.C.Canvas.chains) c.one_spelling.ensures (meaning_in f) (start_in f.fonts.now (program_in f cs) c.args.start) cs c.args.bytes.now (first_of f.home) c.loop-at.at c.in-Ok-next_cmd.end (view c.in-Ok-next_cmd.cmd)
          c.args.canvas.now c.loop-at.canvas c.turn.new.canvas (open_at f.base c.loop-at.self.saved.items) (open_at f.base c.turn.new.self.saved.items)
          (record { place = c.loop-at.pos; font = c.loop-at.font }) (record { place = c.turn.new.pos; font = c.turn.new.font })
          k.0 k.1 k.2 (inv.goes cs l).0 e.ok (PacketFinds f.grid f.fonts.now f.nest) f.base (inv.goes cs l).1 e.room;
    }

pub frame-unreachable-requires : goal.frame-unreachable-requires
frame-unreachable-requires g t c =
    let a = c.loop-at.invariant.ahead in
    no_fault c.args.bytes.now (first_of c.args.frame.now.home) c.loop-at.at a.3.rest c.loop-at-test.true c.in-Err-next_cmd.ensures.none a.3.lexed

pub frame-returns-in_err-turn-in-Ok-next_cmd-clause-stops : goal.frame-returns-in_err-turn-in-Ok-next_cmd-clause-stops
frame-returns-in_err-turn-in-Ok-next_cmd-clause-stops g t c = λ cs l.
    let f = c.args.frame.now in
    let k = c.in-Ok-next_cmd.ensures.found in
    let go = (c.loop-at.invariant.goes cs l).0 in
    let n = lexed_next c.one_spelling.ensures c.args.bytes.now (first_of f.home) c.loop-at.at c.in-Ok-next_cmd.end (view c.in-Ok-next_cmd.cmd) go.rest k.0 k.1 k.2 go.lexed in
    let here : State = record { place = c.loop-at.pos; font = c.loop-at.font } in
    let p = err_from_is_err_and c.from_residual.result c.from_residual.ensures.1 in
    rw (p.1, p.2)
    (stop_on g.C.Canvas.takes g.C.Canvas.refuses g.met.C.Canvas.chains g.met.C.Canvas.refused_later c.args.canvas.now c.loop-at.canvas c.turn.new.canvas go.taken go.took.0 _ _
    (covers_next (Took (HasGlyph c.args.frame.now.grid c.args.frame.now.fonts.now) g.C.Canvas.takes) (meaning_in f) (start_in f.fonts.now (program_in f cs) c.args.start) cs (drop c.loop-at.at c.args.bytes.now) (first_of f.home + c.loop-at.at) c.args.canvas.now c.loop-at.canvas (open_at f.base c.loop-at.self.saved.items) here go n.0 n.1 (view c.in-Ok-next_cmd.cmd) n.2 n.3)
    _ c.in_err-turn-in-Ok-next_cmd.ensures.stops)

pub frame-returns-in_err-turn-in-Ok-next_cmd-clause-cause : goal.frame-returns-in_err-turn-in-Ok-next_cmd-clause-cause
frame-returns-in_err-turn-in-Ok-next_cmd-clause-cause g t c = λ cs l.
    let f = c.args.frame.now in
    let k = c.in-Ok-next_cmd.ensures.found in
    let go = (c.loop-at.invariant.goes cs l).0 in
    let n = lexed_next c.one_spelling.ensures c.args.bytes.now (first_of f.home) c.loop-at.at c.in-Ok-next_cmd.end (view c.in-Ok-next_cmd.cmd) go.rest k.0 k.1 k.2 go.lexed in
    let here : State = record { place = c.loop-at.pos; font = c.loop-at.font } in
    let p = err_from_is_err_and c.from_residual.result c.from_residual.ensures.1 in
    rw (p.1, p.2)
    (cause_next (Took (HasGlyph c.args.frame.now.grid c.args.frame.now.fonts.now) g.C.Canvas.takes) (meaning_in f) (start_in f.fonts.now (program_in f cs) c.args.start) cs (drop c.loop-at.at c.args.bytes.now) (first_of f.home + c.loop-at.at) c.args.canvas.now c.loop-at.canvas (open_at f.base c.loop-at.self.saved.items) here go n.0 n.1 (view c.in-Ok-next_cmd.cmd) n.2 n.3 n.4
    (inside f.grid f.fonts.now f.nest) (λ at. spot_of f.home at) (first_of f.home + length c.args.bytes.now) f.base _
    (rw (sym c.spot-spot.ensures) c.in_err-turn-in-Ok-next_cmd.ensures.cause))

pub frame-returns-in_err-turn-in-Ok-next_cmd-clause-many : goal.frame-returns-in_err-turn-in-Ok-next_cmd-clause-many
frame-returns-in_err-turn-in-Ok-next_cmd-clause-many g t c = λ cs l.
    let f = c.args.frame.now in
    let k = c.in-Ok-next_cmd.ensures.found in
    let q = c.loop-at.invariant.counted cs l in
    let n = lexed_next c.one_spelling.ensures c.args.bytes.now (first_of f.home) c.loop-at.at c.in-Ok-next_cmd.end (view c.in-Ok-next_cmd.cmd) q.0 k.0 k.1 k.2 q.1 in
    let p = err_from_is_err_and c.from_residual.result c.from_residual.ensures.1 in
    let part = count_part (runs f.fonts.now f.nest) (select f.fonts.now (scope_in f)) c.loop-at.font q.0 n.1 n.0 (view c.in-Ok-next_cmd.cmd) c.loop-at.self.steps (c.args.self.now.steps + count_in f cs) n.2 n.3 q.2 in
    rw (p.1, p.2) (many_on _ _ _ part c.in_err-turn-in-Ok-next_cmd.ensures.many)

pub frame-returns-then-len-frame-clause-ok : goal.frame-returns-then-len-frame-clause-ok
frame-returns-then-len-frame-clause-ok g t c = λ cs l.
    let f = c.args.frame.now in
    let items = c.loop-at.self.saved.items in
    let is : f.base ≡ length items = omega arith in
    finish (Took (HasGlyph c.args.frame.now.grid c.args.frame.now.fonts.now) g.C.Canvas.takes) (meaning_in f) (start_in f.fonts.now (program_in f cs) c.args.start) cs (drop c.loop-at.at c.args.bytes.now) (first_of f.home + c.loop-at.at) c.args.canvas.now c.loop-at.canvas (open_at f.base items) (record { place = c.loop-at.pos; font = c.loop-at.font })
    (drop_of_length-le c.args.bytes.now c.loop-at-test.false) (none_open f.base items is) (c.loop-at.invariant.goes cs l).0

pub frame-returns-then-len-frame-clause-steps : goal.frame-returns-then-len-frame-clause-steps
frame-returns-then-len-frame-clause-steps g t c = λ cs l.
    let f = c.args.frame.now in
    let q = c.loop-at.invariant.counted cs l in
    let nil = rest_nil _ _ q.0 (drop_of_length-le c.args.bytes.now c.loop-at-test.false) q.1 in
    let none : count_from f.fonts.now f.nest (scope_in f) c.loop-at.font q.0 ≡ 0 = ap (count_from f.fonts.now f.nest (scope_in f) c.loop-at.font) nil in
    omega (arith, q.2)

pub frame-returns-else-len-frame-clause-stops : goal.frame-returns-else-len-frame-clause-stops
frame-returns-else-len-frame-clause-stops g t c = λ cs l.
    let f = c.args.frame.now in
    let go = (c.loop-at.invariant.goes cs l).0 in
    let items = c.loop-at.self.saved.items in
    let more : f.base < length items = omega (arith, c.loop-at.invariant.higher) in (
      none_left (meaning_in f) go.taken (record { place = c.loop-at.pos; font = c.loop-at.font }) (open_at f.base items) (marks_in f cs c.args.start)
          (at_end (Took (HasGlyph c.args.frame.now.grid c.args.frame.now.fonts.now) g.C.Canvas.takes) (meaning_in f) (start_in f.fonts.now (program_in f cs) c.args.start) cs (drop c.loop-at.at c.args.bytes.now) (first_of f.home + c.loop-at.at) c.args.canvas.now c.loop-at.canvas (open_at f.base items) (record { place = c.loop-at.pos; font = c.loop-at.font })
          (drop_of_length-le c.args.bytes.now c.loop-at-test.false) go)
          (omega (arith, as_many f.base items c.loop-at.invariant.higher)),
      (go.taken, go.took.0),
    )

pub frame-returns-else-len-frame-clause-cause : goal.frame-returns-else-len-frame-clause-cause
frame-returns-else-len-frame-clause-cause g t c = λ cs l.
    let f = c.args.frame.now in
    let items = c.loop-at.self.saved.items in
    let more : f.base < length items = omega (arith, c.loop-at.invariant.higher) in
    let here : State = record { place = c.loop-at.pos; font = c.loop-at.font } in
    inr (
      c.spot.ensures,
      record { pushes = open_at f.base items; state = here },
      left_all (Took (HasGlyph c.args.frame.now.grid c.args.frame.now.fonts.now) g.C.Canvas.takes) (meaning_in f) (start_in f.fonts.now (program_in f cs) c.args.start) cs (drop c.loop-at.at c.args.bytes.now) (first_of f.home + c.loop-at.at) c.args.canvas.now c.loop-at.canvas (open_at f.base items) here
          (drop_of_length-le c.args.bytes.now c.loop-at-test.false) (c.loop-at.invariant.goes cs l).0,
      omega (arith, as_many f.base items c.loop-at.invariant.higher),
    )

-- ---- characters that are set without a command

pub frame-characters-requires-clause-can : goal.frame-characters-requires-clause-can
frame-characters-requires-clause-can g t c = λ n q r ms m inside set sets.
    let f = c.args.frame.now in
    let bytes = c.args.bytes.now in
    let from = first_of f.home in
    let inv = c.loop-at.invariant in
    let at = c.loop-at.at in
    let id = c.in-Some.found.font in
    let os = open_at f.base c.loop-at.self.saved.items in
    let a = inv.ahead in
    let acts = acts_in f a.0 in
    let ahead = subst (λ (o : Option ℕ). Ahead f.fonts.now (scope_in f) acts o (drop at bytes) (from + at)) c.in-Some.ensures.font a.3 in
    let s0 = start_in f.fonts.now (program_in f a.0) c.args.start in
    let go = going_with f id bytes from at os a.0 s0 g.C.Canvas.takes c.args.canvas.now c.loop-at.canvas c.loop-at.pos c.loop-at.font c.in-Some.ensures.font (inv.goes a.0 a.1) in
    let b : at + n ≤ length bytes = omega (arith, inside) in
    let one = c.one_spelling.ensures in
    let listed = goes_listed one f acts id bytes from s0 a.0 os at n c.loop-at.pos q ms go.0.taken b set ahead (listed_of g.C.Canvas.takes f s0 a.0 id bytes from at os c.args.canvas.now c.loop-at.canvas c.loop-at.pos go) in
    can_set one f acts id bytes from s0 a.0 os g.C.Canvas.can c.loop-at.canvas (at + n) q r m (go.0.taken ++ ms) inside sets (ahead_set one f acts id bytes from at n c.loop-at.pos q ms b set ahead) listed
    (can_later g.C.Canvas.can (IsPainted f.grid f.fonts.now acts) c.args.canvas.now c.loop-at.canvas (marks_alone (marks_in f a.0 c.args.start)) inv.same a.2.1)

pub frame-returns-in-Err-clause-stops : goal.frame-returns-in-Err-clause-stops
frame-returns-in-Err-clause-stops g t c = λ cs l.
    let f = c.args.frame.now in
    let bytes = c.args.bytes.now in
    let from = first_of f.home in
    let inv = c.loop-at.invariant in
    let at = c.loop-at.at in
    let id = c.in-Some.found.font in
    let os = open_at f.base c.loop-at.self.saved.items in
    let a = inv.ahead in
    let acts = acts_in f a.0 in
    let ahead = subst (λ (o : Option ℕ). Ahead f.fonts.now (scope_in f) acts o (drop at bytes) (from + at)) c.in-Some.ensures.font a.3 in
    let one = c.one_spelling.ensures in
    let r = c.in-Err.ensures.refused in
    let s0 = start_in f.fonts.now (program_in f cs) c.args.start in
    let go = going_with f id bytes from at os cs s0 g.C.Canvas.takes c.args.canvas.now c.loop-at.canvas c.loop-at.pos c.loop-at.font c.in-Some.ensures.font (inv.goes cs l) in
    let b : at + r.count ≤ length bytes = omega (arith, r.inside) in
    let listed = goes_listed one f acts id bytes from s0 cs os at r.count c.loop-at.pos r.here r.marks go.0.taken b r.set ahead (listed_of g.C.Canvas.takes f s0 cs id bytes from at os c.args.canvas.now c.loop-at.canvas c.loop-at.pos go) in
    let next = ahead_set one f acts id bytes from at r.count c.loop-at.pos r.here r.marks b r.set ahead in
    let covered = covers_set one f acts id bytes from s0 cs os (at + r.count) r.here r.behind r.mark (go.0.taken ++ r.marks) r.inside r.next next listed in
    refused_set g.C.Canvas.refuses c.args.canvas.now c.characters.new.canvas c.in-Err.f (go.0.taken ++ r.marks) r.mark (marks_alone (marks_in f cs c.args.start)) covered
    (g.met.C.Canvas.refused_later c.args.canvas.now c.loop-at.canvas c.characters.new.canvas go.0.taken r.marks r.mark c.in-Err.f go.0.took.0 r.refused)

pub frame-returns-in-Err-clause-cause : goal.frame-returns-in-Err-clause-cause
frame-returns-in-Err-clause-cause g t c = λ cs l.
    let f = c.args.frame.now in
    let bytes = c.args.bytes.now in
    let from = first_of f.home in
    let inv = c.loop-at.invariant in
    let at = c.loop-at.at in
    let id = c.in-Some.found.font in
    let os = open_at f.base c.loop-at.self.saved.items in
    let a = inv.ahead in
    let acts = acts_in f a.0 in
    let ahead = subst (λ (o : Option ℕ). Ahead f.fonts.now (scope_in f) acts o (drop at bytes) (from + at)) c.in-Some.ensures.font a.3 in
    let one = c.one_spelling.ensures in
    let r = c.in-Err.ensures.refused in
    let s0 = start_in f.fonts.now (program_in f cs) c.args.start in
    let go = going_with f id bytes from at os cs s0 g.C.Canvas.takes c.args.canvas.now c.loop-at.canvas c.loop-at.pos c.loop-at.font c.in-Some.ensures.font (inv.goes cs l) in
    let b : at + r.count ≤ length bytes = omega (arith, r.inside) in
    let listed = goes_listed one f acts id bytes from s0 cs os at r.count c.loop-at.pos r.here r.marks go.0.taken b r.set ahead (listed_of g.C.Canvas.takes f s0 cs id bytes from at os c.args.canvas.now c.loop-at.canvas c.loop-at.pos go) in
    let there = at + r.count in
    let k = set_single bytes there r.inside r.next.quick.small in
    let cmd = Set (pos (byte_at bytes there)) in
    let n = lexed_next one bytes from there (there + 1) cmd listed.0.rest k.0 k.1 k.2 listed.0.lexed in
    cause_next (TookListed f) (meaning_in f) s0 cs (drop there bytes) (from + there) [] (go.0.taken ++ r.marks) os (at_font id r.here) listed.0 n.0 n.1 cmd n.2 n.3 n.4
    (inside f.grid f.fonts.now f.nest) (λ at. spot_of f.home at) (from + length bytes) f.base (fault.Canvas c.in-Err.f) (inl tt)

pub frame-loop-at-preserved-in-Some : goal.frame-loop-at-preserved-in-Some
frame-loop-at-preserved-in-Some g t c =
    let f = c.args.frame.now in
    let bytes = c.args.bytes.now in
    let from = first_of f.home in
    let inv = c.loop-at.invariant in
    let at = c.loop-at.at in
    let id = c.in-Some.found.font in
    let os = open_at f.base c.loop-at.self.saved.items in
    let a = inv.ahead in
    let acts = acts_in f a.0 in
    let ahead = subst (λ (o : Option ℕ). Ahead f.fonts.now (scope_in f) acts o (drop at bytes) (from + at)) c.in-Some.ensures.font a.3 in
    let one = c.one_spelling.ensures in
    let e = c.in-Ok.ensures in
    let end = c.in-Ok.end in
    let n = end - at in
    let there : at + n ≡ end = omega (arith, e.further.0) in
    let b : at + n ≤ length bytes = omega (arith, there, e.further.1) in
    let ms = e.ok.marks in
    let behind = c.characters.new.pos in
    record {
      inside = e.further.1;
      higher = rw e.stack inv.higher;
      below = ap (take f.base) e.stack ∙ inv.below;
      same = same_chain g.C.Canvas.can c.args.canvas.now c.loop-at.canvas c.characters.new.canvas inv.same e.same;
      met = rw e.met inv.met;
      ahead = (
        a.0,
        a.1,
        a.2,
        subst (λ (o : Option ℕ). Ahead f.fonts.now (scope_in f) acts o (drop end bytes) (from + end)) (sym c.in-Some.ensures.font)
            (subst (λ (k : ℕ). Ahead f.fonts.now (scope_in f) acts (Some id) (drop k bytes) (from + k)) there (ahead_set one f acts id bytes from at n c.loop-at.pos behind ms b e.ok.set ahead)),
      );
      counted = λ cs l.
          let q = inv.counted cs l in
          let r = counted_set one f acts id bytes from at n c.loop-at.pos behind ms b e.ok.set ahead (select f.fonts.now (scope_in f)) q.0 q.1 in
          let old = subst (λ (o : Option ℕ). c.loop-at.self.steps + count_from f.fonts.now f.nest (scope_in f) o q.0 ≡ c.args.self.now.steps + count_in f cs) c.in-Some.ensures.font q.2 in (
            r.0,
            subst (λ (k : ℕ). Lexes (from + k) (drop k bytes) r.0) there r.1,
            subst (λ (o : Option ℕ). c.characters.new.self.steps + count_from f.fonts.now f.nest (scope_in f) o r.0 ≡ c.args.self.now.steps + count_in f cs) (sym c.in-Some.ensures.font) (omega (arith, old, r.2, e.steps, there)),
          );
      goes = λ cs l.
          let s0 = start_in f.fonts.now (program_in f cs) c.args.start in
          let go = going_with f id bytes from at os cs s0 g.C.Canvas.takes c.args.canvas.now c.loop-at.canvas c.loop-at.pos c.loop-at.font c.in-Some.ensures.font (inv.goes cs l) in
          rw e.stack
          (going_at f id bytes from (at + n) end os cs s0 g.C.Canvas.takes c.args.canvas.now c.characters.new.canvas behind c.loop-at.font c.in-Some.ensures.font there
          (goes_set g.C.Canvas.takes g.met.C.Canvas.chains one f acts s0 cs id bytes from at n os c.args.canvas.now c.loop-at.canvas c.characters.new.canvas c.loop-at.pos behind ms b e.ok.set e.ok.took ahead go));
    }

-- ---- characters

pub show-find-glyph-requires-clause-given : goal.show-find-glyph-requires-clause-given
show-find-glyph-requires-clause-given g t c = font_given c.args.frame.now.fonts.now c.requires.ready.sel (Some c.args.id) c.requires.ready.same

pub show-find-glyph-requires-clause-there : goal.show-find-glyph-requires-clause-there
show-find-glyph-requires-clause-there g t c =
    let r = c.requires.ready in
    let k = covered_char c.args.frame.now.fonts.now r.sel c.args.id c.args.code r.same r.covers in
    width_there c.args.frame.now.fonts.now c.args.id c.args.code k.shown

pub show-packet-requires : goal.show-packet-requires
show-packet-requires g t c =
    let r = c.requires.ready in
    record { given = font_given c.args.frame.now.fonts.now r.sel (Some c.args.id) r.same }

pub show-unreachable-requires : goal.show-unreachable-requires
show-unreachable-requires g t c =
    let kind : packet_at c.args.frame.now.fonts.now c.args.id c.args.code ≡ None → ⊥ = rw c.if-glyph.false at c.find-glyph.ensures.value.kind in
    kind c.in_default.ensures.value

pub show-put_glyph-requires-clause-can : goal.show-put_glyph-requires-clause-can
show-put_glyph-requires-clause-can g t c =
    let f = c.args.frame.now in
    let set = f.fonts.now in
    let r = c.requires.ready in
    let k = covered_char set r.sel c.args.id c.args.code r.same r.covers in
    let w : width_at set c.args.id c.args.code ≡ Some c.find-glyph.result.1.width = c.find-glyph.ensures.value.width in
    let none : packet_at set c.args.id c.args.code ≡ None = rw c.if-glyph.true at c.find-glyph.ensures.value.kind in
    (λ m. can_glyph g.C.Canvas.can c.args.canvas.now (IsPainted f.grid set (char_act r.sel (pos c.args.code) ∷ [])) (chars f.grid set f.nest (Some c.args.id) (pos c.args.code) c.args.here.now) (glyph_at f.grid c.args.id c.args.code c.args.here.now c.find-glyph.result.1.width) c.find-glyph.result.1.width
    (chars_real f.grid set f.nest c.args.id c.args.code c.args.here.now c.find-glyph.result.1.width k.shown none w) r.can_take (m, (is_set set r.sel c.args.id c.args.code k, has_glyph f.grid set r.sel c.args.id c.args.code c.args.here.now c.find-glyph.result.1.width k none w)))

pub show-returns-in-Ok-clause-ok : goal.show-returns-in-Ok-clause-ok
show-returns-in-Ok-clause-ok g t c =
    let f = c.args.frame.now in
    let set = f.fonts.now in
    let r = c.requires.ready in
    let k = covered_char set r.sel c.args.id c.args.code r.same r.covers in
    let w : width_at set c.args.id c.args.code ≡ Some c.find-glyph.result.1.width = c.find-glyph.ensures.value.width in
    let none : packet_at set c.args.id c.args.code ≡ None = rw c.if-glyph.true at c.find-glyph.ensures.value.kind in
    (took_real (Took (HasGlyph c.args.frame.now.grid c.args.frame.now.fonts.now) g.C.Canvas.takes) c.args.canvas.now c.put_glyph.new.canvas (chars f.grid set f.nest (Some c.args.id) (pos c.args.code) c.args.here.now) (glyph_at f.grid c.args.id c.args.code c.args.here.now c.find-glyph.result.1.width) c.find-glyph.result.1.width
    (chars_real f.grid set f.nest c.args.id c.args.code c.args.here.now c.find-glyph.result.1.width k.shown none w) (c.in-Ok.ensures.ok, ((c.in-Ok.ensures.fit, has_glyph f.grid set r.sel c.args.id c.args.code c.args.here.now c.find-glyph.result.1.width k none w), tt)))

pub show-returns-in-Ok-clause-steps : goal.show-returns-in-Ok-clause-steps
show-returns-in-Ok-clause-steps g t c =
    let set = c.args.frame.now.fonts.now in
    let r = c.requires.ready in
    let k = covered_char set r.sel c.args.id c.args.code r.same r.covers in
    let none : packet_at set c.args.id c.args.code ≡ None = rw c.if-glyph.true at c.find-glyph.ensures.value.kind in
    let zero = runs_real set c.args.frame.now.nest c.args.id c.args.code k.shown none in
    omega (arith, zero)

pub show-returns-in-Err-clause-stops : goal.show-returns-in-Err-clause-stops
show-returns-in-Err-clause-stops g t c =
    let f = c.args.frame.now in
    let set = f.fonts.now in
    let r = c.requires.ready in
    let k = covered_char set r.sel c.args.id c.args.code r.same r.covers in
    let w : width_at set c.args.id c.args.code ≡ Some c.find-glyph.result.1.width = c.find-glyph.ensures.value.width in
    let none : packet_at set c.args.id c.args.code ≡ None = rw c.if-glyph.true at c.find-glyph.ensures.value.kind in
    refused_real g.C.Canvas.takes g.C.Canvas.refuses c.args.canvas.now c.put_glyph.new.canvas (chars f.grid set f.nest (Some c.args.id) (pos c.args.code) c.args.here.now) (glyph_at f.grid c.args.id c.args.code c.args.here.now c.find-glyph.result.1.width) c.find-glyph.result.1.width c.in-Err.f
    (chars_real f.grid set f.nest c.args.id c.args.code c.args.here.now c.find-glyph.result.1.width k.shown none w) c.in-Err.ensures.stops

pub show-returns-in-Err-clause-cause : goal.show-returns-in-Err-clause-cause
show-returns-in-Err-clause-cause g t c =
    let f = c.args.frame.now in
    refused_inside f.grid f.fonts.now c.args.id c.args.code c.args.here.now f.nest (vec_len c.args.self.now.saved) c.in-Err.f

pub show-returns-then-frame-eq0-clause-stops : goal.show-returns-then-frame-eq0-clause-stops
show-returns-then-frame-eq0-clause-stops g t c =
    let f = c.args.frame.now in
    let b = c.in-Some.ensures in
    let w : width_at f.fonts.now c.args.id c.args.code ≡ Some c.find-glyph.result.1.width = c.find-glyph.ensures.value.width in (
      ap char_marks (nested c.one_reading.ensures f.grid f.fonts.now c.args.id c.args.code c.args.here.now f.nest c.find-glyph.result.1.width c.in-Some.packet.now b.commands.commands b.value b.commands.spelled w c.if-frame-eq0.true),
      ([], g.met.C.Canvas.starts c.args.canvas.now),
    )

pub show-returns-then-frame-eq0-clause-cause : goal.show-returns-then-frame-eq0-clause-cause
show-returns-then-frame-eq0-clause-cause g t c =
    let f = c.args.frame.now in
    nested_cause _ f.grid f.fonts.now c.args.id c.args.code c.args.here.now f.nest (vec_len c.args.self.now.saved) c.in-Some.packet.now c.in-Some.ensures.value c.if-frame-eq0.true

pub turn-returns-then-len-ge-MOST_OPEN-clause-cause : goal.turn-returns-then-len-ge-MOST_OPEN-clause-cause
turn-returns-then-len-ge-MOST_OPEN-clause-cause g t c =
    inl (refl, (ap view c.in-Push.is, omega (arith, as_many c.args.frame.now.base c.args.self.now.saved.items (omega (arith, c.requires.base)))))

pub turn-returns-then-len-frame-clause-stops : goal.turn-returns-then-len-frame-clause-stops
turn-returns-then-len-frame-clause-stops g t c =
    let e : open_at c.args.frame.now.base c.args.self.now.saved.items ≡ [] = none_open c.args.frame.now.base c.args.self.now.saved.items (omega arith) in
    rw (c.in-Pop.is, e) (refl, ([], g.met.C.Canvas.starts c.args.canvas.now))

pub turn-returns-then-len-frame-clause-cause : goal.turn-returns-then-len-frame-clause-cause
turn-returns-then-len-frame-clause-cause g t c =
    inl (refl, (ap view c.in-Pop.is, none_open c.args.frame.now.base c.args.self.now.saved.items (omega arith)))

pub turn-returns-in-Ok-clause-ok : goal.turn-returns-in-Ok-clause-ok
turn-returns-in-Ok-clause-ok g t c =
    rw c.in-Push.is ((g.met.C.Canvas.starts c.args.canvas.now, tt), sym (ap (open_at c.args.frame.now.base) c.in-Ok.ensures.items ∙ pushed c.args.frame.now.base c.args.self.now.saved.items c.args.pos.now (omega (arith, c.requires.base))), refl)

pub turn-returns-in-Some-clause-ok : goal.turn-returns-in-Some-clause-ok
turn-returns-in-Some-clause-ok g t c =
    let base = c.args.frame.now.base in
    let e : open_at base c.args.self.now.saved.items ≡ c.in-Some.old ∷ open_at base c.pop.new.self.items = ap (open_at base) c.in-Some.ensures.items ∙ pushed base c.pop.new.self.items c.in-Some.old (omega (arith, c.in-Some.ensures.len, c.requires.base)) in
    rw (c.in-Pop.is, e) ((g.met.C.Canvas.starts c.args.canvas.now, tt), refl, refl)

pub frame-turn-requires : goal.frame-turn-requires
frame-turn-requires g t c κs within =
    let f = c.args.frame.now in
    let a = c.loop-at.invariant.ahead in
    let k = c.in-Ok-next_cmd.ensures.found in
    let x = ahead_next c.one_spelling.ensures f.fonts.now (scope_in f) (acts_in f a.0) c.loop-at.font c.args.bytes.now (first_of f.home) c.loop-at.at c.in-Ok-next_cmd.end (view c.in-Ok-next_cmd.cmd) k.0 k.1 k.2 a.3 in
    let go = (c.loop-at.invariant.goes a.0 a.1).0 in
    let n = lexed_next c.one_spelling.ensures c.args.bytes.now (first_of f.home) c.loop-at.at c.in-Ok-next_cmd.end (view c.in-Ok-next_cmd.cmd) go.rest k.0 k.1 k.2 go.lexed in
    let here : State = record { place = c.loop-at.pos; font = c.loop-at.font } in
    let os = open_at f.base c.loop-at.self.saved.items in
    let few = acts_of_command (scope_in f) x.sel (view c.in-Ok-next_cmd.cmd) in
    let size = special_in_range c.args.bytes.now c.loop-at.at c.in-Ok-next_cmd.end (view c.in-Ok-next_cmd.cmd) k.0 k.2 in (
      search rules,
      (
        within.0,
        (
          within.1,
          (
            c.requires.given,
            (
              omega (arith, c.loop-at.invariant.higher),
              (
                font_given f.fonts.now a.3.sel c.loop-at.font a.3.same,
                (
                  x.inner,
                  (
                    omega (arith, size, c.requires.short),
                    (
                      record {
                        sel = x.sel;
                        same = x.same;
                        covers = x.covers;
                        can_take =
                            can_on g.C.Canvas.can c.loop-at.canvas (IsPainted f.grid f.fonts.now few) (IsPainted f.grid f.fonts.now (acts_in f a.0)) (painted_more f.grid f.fonts.now few (acts_in f a.0) x.wider) go.taken
                            (turn_marks (turned (meaning_in f) (view c.in-Ok-next_cmd.cmd) os here)) (marks_alone (marks_in f a.0 c.args.start))
                            (covers_next (Took (HasGlyph c.args.frame.now.grid c.args.frame.now.fonts.now) g.C.Canvas.takes) (meaning_in f) (start_in f.fonts.now (program_in f a.0) c.args.start) a.0 (drop c.loop-at.at c.args.bytes.now) (first_of f.home + c.loop-at.at) c.args.canvas.now c.loop-at.canvas os here go n.0 n.1 (view c.in-Ok-next_cmd.cmd) n.2 n.3)
                            (can_later g.C.Canvas.can (IsPainted f.grid f.fonts.now (acts_in f a.0)) c.args.canvas.now c.loop-at.canvas (marks_alone (marks_in f a.0 c.args.start)) c.loop-at.invariant.same a.2.1);
                      },
                      c.loop-at.invariant.met,
                    ),
                  ),
                ),
              ),
            ),
          ),
        ),
      ),
    )

pub show-frame-requires : goal.show-frame-requires
show-frame-requires g t c κs within =
    let f = c.args.frame.now in
    let set = f.fonts.now in
    let r = c.requires.ready in
    let b = c.in-Some.ensures in
    let cs = b.commands.commands in
    let w : width_at set c.args.id c.args.code ≡ Some c.find-glyph.result.1.width = c.find-glyph.ensures.value.width in
    let k = covered_char set r.sel c.args.id c.args.code r.same r.covers in
    let p = packet c.one_reading.ensures f.grid set r.sel c.args.id c.args.code c.args.here.now f.nest c.find-glyph.result.1.width c.in-Some.packet.now cs k r.covers b.value b.commands.spelled w (omega arith) in
    let ready = packet_ready g.C.Canvas.can c.args.canvas.now f.grid set r.sel c.args.id c.args.code k (packet_home set c.args.id cs) p.there r.covers (chars f.grid set f.nest (Some c.args.id) (pos c.args.code) c.args.here.now) c.find-glyph.result.1.width (frame_marks f.grid set (f.nest - 1) (packet_home set c.args.id cs) (inner c.args.here.now)) p.same r.can_take in (
      search rules,
      (
        within.0,
        (
          within.1,
          (
            font_given set r.sel (Some c.args.id) r.same,
            (
              search rules,
              (
                omega (arith, b.short),
                ((cs, b.commands.spelled, all_inner cs b.commands.allowed, rw c.inner.ensures ready), c.find-glyph.ensures.met),
              ),
            ),
          ),
        ),
      ),
    )

pub show-returns-in_err-frame-clause-stops : goal.show-returns-in_err-frame-clause-stops
show-returns-in_err-frame-clause-stops g t c =
    let f = c.args.frame.now in
    let set = f.fonts.now in
    let r = c.requires.ready in
    let b = c.in-Some.ensures in
    let cs = b.commands.commands in
    let w : width_at set c.args.id c.args.code ≡ Some c.find-glyph.result.1.width = c.find-glyph.ensures.value.width in
    let k = covered_char set r.sel c.args.id c.args.code r.same r.covers in
    let p = packet c.one_reading.ensures f.grid set r.sel c.args.id c.args.code c.args.here.now f.nest c.find-glyph.result.1.width c.in-Some.packet.now cs k r.covers b.value b.commands.spelled w (omega arith) in
    let o = chars f.grid set f.nest (Some c.args.id) (pos c.args.code) c.args.here.now in
    let m = frame_marks f.grid set (f.nest - 1) (packet_home set c.args.id cs) (inner c.args.here.now) in
    let q = err_from_is_err_and c.from_residual.result c.from_residual.ensures.1 in
    let h = rw c.inner.ensures at (c.in_err-frame.ensures.stops cs b.commands.spelled) in
    rw (q.1, q.2) (stop_on g.C.Canvas.takes g.C.Canvas.refuses g.met.C.Canvas.chains g.met.C.Canvas.refused_later c.args.canvas.now c.args.canvas.now c.frame.new.canvas [] (g.met.C.Canvas.starts c.args.canvas.now) (marks_alone m) (char_marks o) (over_packet o c.find-glyph.result.1.width m p.same) _ h)

pub show-returns-in_err-frame-clause-cause : goal.show-returns-in_err-frame-clause-cause
show-returns-in_err-frame-clause-cause g t c =
    let f = c.args.frame.now in
    let set = f.fonts.now in
    let r = c.requires.ready in
    let b = c.in-Some.ensures in
    let cs = b.commands.commands in
    let w : width_at set c.args.id c.args.code ≡ Some c.find-glyph.result.1.width = c.find-glyph.ensures.value.width in
    let k = covered_char set r.sel c.args.id c.args.code r.same r.covers in
    let p = packet c.one_reading.ensures f.grid set r.sel c.args.id c.args.code c.args.here.now f.nest c.find-glyph.result.1.width c.in-Some.packet.now cs k r.covers b.value b.commands.spelled w (omega arith) in
    let o = chars f.grid set f.nest (Some c.args.id) (pos c.args.code) c.args.here.now in
    let m = frame_marks f.grid set (f.nest - 1) (packet_home set c.args.id cs) (inner c.args.here.now) in
    let q = err_from_is_err_and c.from_residual.result c.from_residual.ensures.1 in
    let h = rw c.inner.ensures at (c.in_err-frame.ensures.cause cs b.commands.spelled) in
    rw (q.1, q.2) (packet_cause f.grid set c.args.id c.args.code c.args.here.now f.nest (vec_len c.args.self.now.saved) c.in-Some.packet.now cs _ (omega arith) b.value p.there (let n : c.len.result ≡ vec_len c.args.self.now.saved = omega arith in let j = rw n at h in let z : 0 + length c.in-Some.packet.now ≡ length c.in-Some.packet.now = omega arith in subst (λ (x : ℕ). IsCause {F = g.row.C-Fault.Denot} f.grid set (f.nest - 1) (packet_home set c.args.id cs) (inner c.args.here.now) (λ at. spot.Packet c.args.id c.args.code at) x (vec_len c.args.self.now.saved) c.in_err-frame.field-0.0) z j))

pub show-returns-in_err-frame-clause-many : goal.show-returns-in_err-frame-clause-many
show-returns-in_err-frame-clause-many g t c =
    let f = c.args.frame.now in
    let set = f.fonts.now in
    let r = c.requires.ready in
    let b = c.in-Some.ensures in
    let cs = b.commands.commands in
    let w : width_at set c.args.id c.args.code ≡ Some c.find-glyph.result.1.width = c.find-glyph.ensures.value.width in
    let k = covered_char set r.sel c.args.id c.args.code r.same r.covers in
    let p = packet c.one_reading.ensures f.grid set r.sel c.args.id c.args.code c.args.here.now f.nest c.find-glyph.result.1.width c.in-Some.packet.now cs k r.covers b.value b.commands.spelled w (omega arith) in
    let o = chars f.grid set f.nest (Some c.args.id) (pos c.args.code) c.args.here.now in
    let m = frame_marks f.grid set (f.nest - 1) (packet_home set c.args.id cs) (inner c.args.here.now) in
    let q = err_from_is_err_and c.from_residual.result c.from_residual.ensures.1 in
    rw (q.1, q.2, p.counts) (c.in_err-frame.ensures.many cs b.commands.spelled)

pub show-returns-clause-ok : goal.show-returns-clause-ok
show-returns-clause-ok g t c =
    let f = c.args.frame.now in
    let set = f.fonts.now in
    let r = c.requires.ready in
    let b = c.in-Some.ensures in
    let cs = b.commands.commands in
    let w : width_at set c.args.id c.args.code ≡ Some c.find-glyph.result.1.width = c.find-glyph.ensures.value.width in
    let k = covered_char set r.sel c.args.id c.args.code r.same r.covers in
    let p = packet c.one_reading.ensures f.grid set r.sel c.args.id c.args.code c.args.here.now f.nest c.find-glyph.result.1.width c.in-Some.packet.now cs k r.covers b.value b.commands.spelled w (omega arith) in
    let o = chars f.grid set f.nest (Some c.args.id) (pos c.args.code) c.args.here.now in
    let m = frame_marks f.grid set (f.nest - 1) (packet_home set c.args.id cs) (inner c.args.here.now) in
    let h = rw c.inner.ensures at (c.in_ok-frame.ensures.ok cs b.commands.spelled) in
    (took_packet (Took (HasGlyph c.args.frame.now.grid c.args.frame.now.fonts.now) g.C.Canvas.takes) c.args.canvas.now c.frame.new.canvas o c.find-glyph.result.1.width m p.same h)

pub show-returns-clause-steps : goal.show-returns-clause-steps
show-returns-clause-steps g t c =
    let f = c.args.frame.now in
    let set = f.fonts.now in
    let r = c.requires.ready in
    let b = c.in-Some.ensures in
    let cs = b.commands.commands in
    let w : width_at set c.args.id c.args.code ≡ Some c.find-glyph.result.1.width = c.find-glyph.ensures.value.width in
    let k = covered_char set r.sel c.args.id c.args.code r.same r.covers in
    let p = packet c.one_reading.ensures f.grid set r.sel c.args.id c.args.code c.args.here.now f.nest c.find-glyph.result.1.width c.in-Some.packet.now cs k r.covers b.value b.commands.spelled w (omega arith) in
    let o = chars f.grid set f.nest (Some c.args.id) (pos c.args.code) c.args.here.now in
    let m = frame_marks f.grid set (f.nest - 1) (packet_home set c.args.id cs) (inner c.args.here.now) in
    rw p.counts (c.in_ok-frame.ensures.steps cs b.commands.spelled)

pub turn-unreachable-requires-in-None-select : goal.turn-unreachable-requires-in-None-select
turn-unreachable-requires-in-None-select g t c =
    let f = c.args.frame.now in
    let ks : FitsSigned w64 c.in-Fnt.k = search rules in
    let r = rw c.in-Fnt.is at c.requires.ready in
    let e : c.select.result ≡ select f.fonts.now (scope_in f) c.in-Fnt.k = (let h0 = c.select.ensures in search (rules, to_z-of_z, h0)) in
    selects f.fonts.now (scope_in f) c.in-Fnt.k r.covers (sym e ∙ c.in-None-select.is)

pub turn-show-requires : goal.turn-show-requires
turn-show-requires g t c κs within =
    let f = c.args.frame.now in
    let here : State = record { place = c.args.pos.now; font = c.args.font.now } in
    let zs : FitsSigned w64 c.in-Set.z = search rules in
    let r = rw c.in-Set.is at c.requires.ready in
    let e = c.character-id.ensures in
    let h0 = e.code in
    let code : c.in-Set.z ≡ pos c.character-id.result.1 = grind (arith, to_z-of_z, h0) in
    (search rules, (within.0, (within.1, (ready_at g.C.Canvas.can f c.args.canvas.now c.args.font.now c.in-Set.z c.args.pos.now c.character-id.result.0 c.character-id.result.1 e.font code (set_ready g.C.Canvas.can f c.args.canvas.now c.in-Set.z (open_at f.base c.args.self.now.saved.items) here r), c.requires.met))))

pub turn-returns-in_err-wide-in-Set-clause-stops : goal.turn-returns-in_err-wide-in-Set-clause-stops
turn-returns-in_err-wide-in-Set-clause-stops g t c =
    let f = c.args.frame.now in
    let set = f.fonts.now in
    let m = meaning_in f in
    let items = c.args.self.now.saved.items in
    let os = open_at f.base items in
    let here : State = record { place = c.args.pos.now; font = c.args.font.now } in
    let zs : FitsSigned w64 c.in-Set.z = search rules in
    let e = c.character-id.ensures in
    let h0 = e.code in
    let code : c.in-Set.z ≡ pos c.character-id.result.1 = grind (arith, to_z-of_z, h0) in
    let id = c.character-id.result.0 in
    let k = c.character-id.result.1 in
    let q = err_from_is_err_and c.from_residual.result c.from_residual.ensures.1 in
    let h = c.in_err-wide-in-Set.ensures.stops in
    rw (q.1, q.2, c.in-Set.is) (stop_on g.C.Canvas.takes g.C.Canvas.refuses g.met.C.Canvas.chains g.met.C.Canvas.refused_later c.args.canvas.now c.args.canvas.now c.show.new.canvas [] (g.met.C.Canvas.starts c.args.canvas.now) (char_marks (chars f.grid set f.nest c.args.font.now c.in-Set.z c.args.pos.now)) (turn_marks (turned m (Set c.in-Set.z) os here)) (covers_set_turn m os here c.in-Set.z) _
    (back (λ o y. Stops g.C.Canvas.takes g.C.Canvas.refuses c.args.canvas.now c.show.new.canvas (char_marks (chars f.grid set f.nest o y c.args.pos.now)) c.in_err-wide-in-Set.field-0.0) c.args.font.now c.in-Set.z id k e.font code h))

pub turn-returns-in_err-wide-in-Set-clause-cause : goal.turn-returns-in_err-wide-in-Set-clause-cause
turn-returns-in_err-wide-in-Set-clause-cause g t c =
    let f = c.args.frame.now in
    let set = f.fonts.now in
    let m = meaning_in f in
    let items = c.args.self.now.saved.items in
    let os = open_at f.base items in
    let here : State = record { place = c.args.pos.now; font = c.args.font.now } in
    let zs : FitsSigned w64 c.in-Set.z = search rules in
    let e = c.character-id.ensures in
    let h0 = e.code in
    let code : c.in-Set.z ≡ pos c.character-id.result.1 = grind (arith, to_z-of_z, h0) in
    let id = c.character-id.result.0 in
    let k = c.character-id.result.1 in
    let q = err_from_is_err_and c.from_residual.result c.from_residual.ensures.1 in
    let around : f.base + length os ≡ vec_len c.args.self.now.saved = omega (arith, as_many f.base items (omega (arith, c.requires.base))) in
    rw (q.1, q.2, c.in-Set.is, around) (inr (back (λ o y. inside f.grid set f.nest (vec_len c.args.self.now.saved) o y c.args.pos.now c.in_err-wide-in-Set.field-0.0) c.args.font.now c.in-Set.z id k e.font code c.in_err-wide-in-Set.ensures.cause))

pub turn-show-requires-in-Put : goal.turn-show-requires-in-Put
turn-show-requires-in-Put g t c κs within =
    let f = c.args.frame.now in
    let here : State = record { place = c.args.pos.now; font = c.args.font.now } in
    let zs : FitsSigned w64 c.in-Put.z = search rules in
    let r = rw c.in-Put.is at c.requires.ready in
    let e = c.character-id-in-Put.ensures in
    let h0 = e.code in
    let code : c.in-Put.z ≡ pos c.character-id-in-Put.result.1 = grind (arith, to_z-of_z, h0) in
    (search rules, (within.0, (within.1, (ready_at g.C.Canvas.can f c.args.canvas.now c.args.font.now c.in-Put.z c.args.pos.now c.character-id-in-Put.result.0 c.character-id-in-Put.result.1 e.font code (put_ready g.C.Canvas.can f c.args.canvas.now c.in-Put.z (open_at f.base c.args.self.now.saved.items) here r), c.requires.met))))

pub turn-returns-in_err-show-in-Put-clause-stops : goal.turn-returns-in_err-show-in-Put-clause-stops
turn-returns-in_err-show-in-Put-clause-stops g t c =
    let f = c.args.frame.now in
    let set = f.fonts.now in
    let m = meaning_in f in
    let items = c.args.self.now.saved.items in
    let os = open_at f.base items in
    let here : State = record { place = c.args.pos.now; font = c.args.font.now } in
    let zs : FitsSigned w64 c.in-Put.z = search rules in
    let e = c.character-id-in-Put.ensures in
    let h0 = e.code in
    let code : c.in-Put.z ≡ pos c.character-id-in-Put.result.1 = grind (arith, to_z-of_z, h0) in
    let id = c.character-id-in-Put.result.0 in
    let k = c.character-id-in-Put.result.1 in
    let q = err_from_is_err_and c.from_residual-in_err-show-in-Put.result c.from_residual-in_err-show-in-Put.ensures.1 in
    let h = c.in_err-show-in-Put.ensures.stops in
    rw (q.1, q.2, c.in-Put.is) (stop_on g.C.Canvas.takes g.C.Canvas.refuses g.met.C.Canvas.chains g.met.C.Canvas.refused_later c.args.canvas.now c.args.canvas.now c.show-in-Put.new.canvas [] (g.met.C.Canvas.starts c.args.canvas.now) (char_marks (chars f.grid set f.nest c.args.font.now c.in-Put.z c.args.pos.now)) (turn_marks (turned m (Put c.in-Put.z) os here)) (covers_put_turn m os here c.in-Put.z) _
    (back (λ o y. Stops g.C.Canvas.takes g.C.Canvas.refuses c.args.canvas.now c.show-in-Put.new.canvas (char_marks (chars f.grid set f.nest o y c.args.pos.now)) c.in_err-show-in-Put.field-0.0) c.args.font.now c.in-Put.z id k e.font code h))

pub turn-returns-in_err-show-in-Put-clause-cause : goal.turn-returns-in_err-show-in-Put-clause-cause
turn-returns-in_err-show-in-Put-clause-cause g t c =
    let f = c.args.frame.now in
    let set = f.fonts.now in
    let m = meaning_in f in
    let items = c.args.self.now.saved.items in
    let os = open_at f.base items in
    let here : State = record { place = c.args.pos.now; font = c.args.font.now } in
    let zs : FitsSigned w64 c.in-Put.z = search rules in
    let e = c.character-id-in-Put.ensures in
    let h0 = e.code in
    let code : c.in-Put.z ≡ pos c.character-id-in-Put.result.1 = grind (arith, to_z-of_z, h0) in
    let id = c.character-id-in-Put.result.0 in
    let k = c.character-id-in-Put.result.1 in
    let q = err_from_is_err_and c.from_residual-in_err-show-in-Put.result c.from_residual-in_err-show-in-Put.ensures.1 in
    let around : f.base + length os ≡ vec_len c.args.self.now.saved = omega (arith, as_many f.base items (omega (arith, c.requires.base))) in
    rw (q.1, q.2, c.in-Put.is, around) (inr (back (λ o y. inside f.grid set f.nest (vec_len c.args.self.now.saved) o y c.args.pos.now c.in_err-show-in-Put.field-0.0) c.args.font.now c.in-Put.z id k e.font code c.in_err-show-in-Put.ensures.cause))

pub turn-plain-requires : goal.turn-plain-requires
turn-plain-requires g t c =
    let f = c.args.frame.now in
    let p = plain_view c.args.cmd.now c.in_default.not-Push c.in_default.not-Pop c.in_default.not-Fnt c.in_default.not-Set c.in_default.not-Put c.requires.inner in
    let here : State = record { place = c.args.pos.now; font = c.args.font.now } in
    let r = c.requires.ready in
    let same : marks_alone (step (bare_in f) (view c.args.cmd.now) here) ≡ turn_marks (turned (meaning_in f) (view c.args.cmd.now) (open_at f.base c.args.self.now.saved.items) here) =
    ap marks_alone (same_step f.grid f.fonts.now (scope_in f) (chars f.grid f.fonts.now f.nest) (view c.args.cmd.now) here p) ∙ plain_marks (meaning_in f) (open_at f.base c.args.self.now.saved.items) here (view c.args.cmd.now) (plain_bracket (view c.args.cmd.now) p) in
    record {
      given = c.requires.given;
      font = c.requires.font;
      plain = p;
      short = c.requires.short;
      can = subst (λ (o : Option (List Mark)). CanTake g.C.Canvas.can Nothing c.args.canvas.now o) (sym same) (can_nothing g.C.Canvas.can c.args.canvas.now (IsPainted f.grid f.fonts.now (acts_of_command (scope_in f) r.sel (view c.args.cmd.now))) (turn_marks (turned (meaning_in f) (view c.args.cmd.now) (open_at f.base c.args.self.now.saved.items) here)) r.can_take);
    }

pub turn-returns-in-Some-select-clause-ok : goal.turn-returns-in-Some-select-clause-ok
turn-returns-in-Some-select-clause-ok g t c =
    let f = c.args.frame.now in
    rw c.in-Fnt.is (fnt_turn (Took (HasGlyph c.args.frame.now.grid c.args.frame.now.fonts.now) g.C.Canvas.takes) c.args.canvas.now (g.met.C.Canvas.starts c.args.canvas.now, tt) (meaning_in f) (open_at f.base c.args.self.now.saved.items) (record { place = c.args.pos.now; font = c.args.font.now }) c.in-Fnt.k c.in-Some-select.id (search rules))

pub turn-returns-in-Ok-past_char-clause-ok : goal.turn-returns-in-Ok-past_char-clause-ok
turn-returns-in-Ok-past_char-clause-ok g t c =
    let f = c.args.frame.now in
    let set = f.fonts.now in
    let m = meaning_in f in
    let items = c.args.self.now.saved.items in
    let os = open_at f.base items in
    let here : State = record { place = c.args.pos.now; font = c.args.font.now } in
    let zs : FitsSigned w64 c.in-Set.z = search rules in
    let e = c.character-id.ensures in
    let h0 = e.code in
    let code : c.in-Set.z ≡ pos c.character-id.result.1 = grind (arith, to_z-of_z, h0) in
    let id = c.character-id.result.0 in
    let k = c.character-id.result.1 in
    let w = c.in_ok-wide-in-Set.wide.width in
    let took = took_back (Took (HasGlyph c.args.frame.now.grid c.args.frame.now.fonts.now) g.C.Canvas.takes) c.args.canvas.now c.show.new.canvas w (chars f.grid set f.nest) c.args.font.now c.in-Set.z c.args.pos.now id k e.font code c.in_ok-wide-in-Set.ensures.ok in
    let past = c.in-Ok-past_char.ensures.ok in
    rw (c.in-Set.is, c.in_ok-wide-in-Set.ensures.stack) (set_turn (Took (HasGlyph c.args.frame.now.grid c.args.frame.now.fonts.now) g.C.Canvas.takes) c.args.canvas.now c.show.new.canvas m os here c.past_char.new.pos c.in-Set.z w took past)

pub turn-returns-in-Err-past_char-clause-stops : goal.turn-returns-in-Err-past_char-clause-stops
turn-returns-in-Err-past_char-clause-stops g t c =
    let f = c.args.frame.now in
    let set = f.fonts.now in
    let m = meaning_in f in
    let items = c.args.self.now.saved.items in
    let os = open_at f.base items in
    let here : State = record { place = c.args.pos.now; font = c.args.font.now } in
    let zs : FitsSigned w64 c.in-Set.z = search rules in
    let e = c.character-id.ensures in
    let h0 = e.code in
    let code : c.in-Set.z ≡ pos c.character-id.result.1 = grind (arith, to_z-of_z, h0) in
    let id = c.character-id.result.0 in
    let k = c.character-id.result.1 in
    let w = c.in_ok-wide-in-Set.wide.width in
    let took = char_alone (HasGlyph c.args.frame.now.grid c.args.frame.now.fonts.now) g.C.Canvas.takes c.args.canvas.now c.show.new.canvas w (chars f.grid set f.nest c.args.font.now c.in-Set.z c.args.pos.now) (took_back (Took (HasGlyph c.args.frame.now.grid c.args.frame.now.fonts.now) g.C.Canvas.takes) c.args.canvas.now c.show.new.canvas w (chars f.grid set f.nest) c.args.font.now c.in-Set.z c.args.pos.now id k e.font code c.in_ok-wide-in-Set.ensures.ok) in
    let past = c.in-Err-past_char.ensures.none in
    rw c.in-Set.is (overflowed g.C.Canvas.takes g.C.Canvas.refuses c.args.canvas.now c.show.new.canvas m os here c.in-Set.z w c.args.spot took past)

pub turn-returns-in_ok-show-in-Put-clause-ok : goal.turn-returns-in_ok-show-in-Put-clause-ok
turn-returns-in_ok-show-in-Put-clause-ok g t c =
    let f = c.args.frame.now in
    let set = f.fonts.now in
    let m = meaning_in f in
    let items = c.args.self.now.saved.items in
    let os = open_at f.base items in
    let here : State = record { place = c.args.pos.now; font = c.args.font.now } in
    let zs : FitsSigned w64 c.in-Put.z = search rules in
    let e = c.character-id-in-Put.ensures in
    let h0 = e.code in
    let code : c.in-Put.z ≡ pos c.character-id-in-Put.result.1 = grind (arith, to_z-of_z, h0) in
    let id = c.character-id-in-Put.result.0 in
    let k = c.character-id-in-Put.result.1 in
    let w = c.in_ok-show-in-Put.field-0.width in
    let took = took_back (Took (HasGlyph c.args.frame.now.grid c.args.frame.now.fonts.now) g.C.Canvas.takes) c.args.canvas.now c.show-in-Put.new.canvas w (chars f.grid set f.nest) c.args.font.now c.in-Put.z c.args.pos.now id k e.font code c.in_ok-show-in-Put.ensures.ok in
    rw (c.in-Put.is, c.in_ok-show-in-Put.ensures.stack) (put_turn (Took (HasGlyph c.args.frame.now.grid c.args.frame.now.fonts.now) g.C.Canvas.takes) c.args.canvas.now c.show-in-Put.new.canvas m os here c.in-Put.z w took)

pub turn-returns-in-Ok-plain : goal.turn-returns-in-Ok-plain
turn-returns-in-Ok-plain g t c =
    let f = c.args.frame.now in
    let p = plain_view c.args.cmd.now c.in_default.not-Push c.in_default.not-Pop c.in_default.not-Fnt c.in_default.not-Set c.in_default.not-Put c.requires.inner in
    let here : State = record { place = c.args.pos.now; font = c.args.font.now } in
    record {
      ok = plain_turn (Took (HasGlyph c.args.frame.now.grid c.args.frame.now.fonts.now) g.C.Canvas.takes) c.args.canvas.now c.plain.new.canvas (meaning_in f) (open_at f.base c.args.self.now.saved.items) here (record { place = c.plain.new.pos; font = c.args.font.now }) (view c.args.cmd.now) (plain_bracket (view c.args.cmd.now) p)
          (subst (λ (o : Outcome). Follows (Took (HasGlyph c.args.frame.now.grid c.args.frame.now.fonts.now) g.C.Canvas.takes) c.args.canvas.now c.plain.new.canvas (record { place = c.plain.new.pos; font = c.args.font.now }) o) (same_step f.grid f.fonts.now (scope_in f) (chars f.grid f.fonts.now f.nest) (view c.args.cmd.now) here p) (follows_more (HasGlyph f.grid f.fonts.now) g.C.Canvas.takes c.args.canvas.now c.plain.new.canvas (record { place = c.plain.new.pos; font = c.args.font.now }) (step (bare_in f) (view c.args.cmd.now) here) c.in-Ok-plain.ensures.ok));
      stops = tt;
      cause = tt;
      steps = let one = one_step (runs f.fonts.now f.nest) c.args.font.now (view c.args.cmd.now) p in omega (arith, one);
      many = tt;
      room = plain_room (PacketFinds f.grid f.fonts.now f.nest) f.base (view c.args.cmd.now) (open_at f.base c.args.self.now.saved.items) here p;
      below = refl;
      base = c.requires.base;
      behind = same_font (select f.fonts.now (scope_in f)) c.args.font.now (view c.args.cmd.now) p;
      met = c.requires.met;
      same = c.in-Ok-plain.ensures.same;
    }

pub turn-returns-in-Err-Passed : goal.turn-returns-in-Err-Passed
turn-returns-in-Err-Passed g t c =
    let f = c.args.frame.now in
    let p = plain_view c.args.cmd.now c.in_default.not-Push c.in_default.not-Pop c.in_default.not-Fnt c.in_default.not-Set c.in_default.not-Put c.requires.inner in
    let here : State = record { place = c.args.pos.now; font = c.args.font.now } in
    let m = meaning_in f in
    let os = open_at f.base c.args.self.now.saved.items in
    let same = ap marks_alone (same_step f.grid f.fonts.now (scope_in f) (chars f.grid f.fonts.now f.nest) (view c.args.cmd.now) here p) in
    let bare = step (bare_in f) (view c.args.cmd.now) here in
    let h = subst (λ (x : Halt g.row.C-Fault.Denot). Halts g.C.Canvas.refuses c.args.canvas.now c.plain.new.canvas (marks_alone bare) x) c.in-Err-Passed.field-0-is c.in-Err-Passed.ensures.stops in
    let i = subst (λ (x : Halt g.row.C-Fault.Denot). IsHaltCause (bare_in f) (view c.args.cmd.now) here x) c.in-Err-Passed.field-0-is c.in-Err-Passed.ensures.cause in
    record {
      ok = tt;
      stops = plain_passed g.C.Canvas.takes g.C.Canvas.refuses c.args.canvas.now c.plain.new.canvas (g.met.C.Canvas.starts c.args.canvas.now) m os here (view c.args.cmd.now) c.args.spot (plain_bracket (view c.args.cmd.now) p) (sym same ∙ h.0, h.1);
      cause = inl (refl, same_passes f.grid f.fonts.now (scope_in f) (chars f.grid f.fonts.now f.nest) (view c.args.cmd.now) here p i);
      steps = tt;
      many = tt;
      room = tt;
      below = tt;
      base = tt;
      behind = tt;
      met = tt;
      same = tt;
    }

pub turn-returns-in-Err-Canvas : goal.turn-returns-in-Err-Canvas
turn-returns-in-Err-Canvas g t c =
    let f = c.args.frame.now in
    let p = plain_view c.args.cmd.now c.in_default.not-Push c.in_default.not-Pop c.in_default.not-Fnt c.in_default.not-Set c.in_default.not-Put c.requires.inner in
    let here : State = record { place = c.args.pos.now; font = c.args.font.now } in
    let m = meaning_in f in
    let os = open_at f.base c.args.self.now.saved.items in
    let same = ap marks_alone (same_step f.grid f.fonts.now (scope_in f) (chars f.grid f.fonts.now f.nest) (view c.args.cmd.now) here p) in
    let bare = step (bare_in f) (view c.args.cmd.now) here in
    let h = subst (λ (x : Halt g.row.C-Fault.Denot). Halts g.C.Canvas.refuses c.args.canvas.now c.plain.new.canvas (marks_alone bare) x) c.in-Err-Canvas.field-0-is c.in-Err-Canvas.ensures.stops in
    record {
      ok = tt;
      stops = plain_refused g.C.Canvas.takes g.C.Canvas.refuses c.args.canvas.now c.plain.new.canvas m os here (view c.args.cmd.now) c.in-Err-Canvas.f (plain_bracket (view c.args.cmd.now) p) (subst (λ (o : Option (List Mark)). RefusesNext g.C.Canvas.refuses c.args.canvas.now c.plain.new.canvas c.in-Err-Canvas.f o) same h);
      cause = inl tt;
      steps = tt;
      many = tt;
      room = tt;
      below = tt;
      base = tt;
      behind = tt;
      met = tt;
      same = tt;
    }

-- ---- room for pushes

pub frame-returns-then-len-frame-clause-room : goal.frame-returns-then-len-frame-clause-room
frame-returns-then-len-frame-clause-room g t c = λ cs l.
    let f = c.args.frame.now in
    let items = c.loop-at.self.saved.items in
    let go = c.loop-at.invariant.goes cs l in
    room_all (Took (HasGlyph c.args.frame.now.grid c.args.frame.now.fonts.now) g.C.Canvas.takes) (meaning_in f) (start_in f.fonts.now (program_in f cs) c.args.start) cs (drop c.loop-at.at c.args.bytes.now) (first_of f.home + c.loop-at.at) c.args.canvas.now c.loop-at.canvas (open_at f.base items) (record { place = c.loop-at.pos; font = c.loop-at.font })
    (drop_of_length-le c.args.bytes.now c.loop-at-test.false) go.0 (PacketFinds f.grid f.fonts.now f.nest) f.base go.1

pub show-returns-in-Ok-clause-room : goal.show-returns-in-Ok-clause-room
show-returns-in-Ok-clause-room g t c =
    let f = c.args.frame.now in
    let set = f.fonts.now in
    let r = c.requires.ready in
    let k = covered_char set r.sel c.args.id c.args.code r.same r.covers in
    let none : packet_at set c.args.id c.args.code ≡ None = rw c.if-glyph.true at c.find-glyph.ensures.value.kind in
    room_real f.grid set f.nest (vec_len c.args.self.now.saved) c.args.id c.args.code c.args.here.now (program_none set c.args.id c.args.code k.shown none)

pub show-returns-clause-room : goal.show-returns-clause-room
show-returns-clause-room g t c =
    let f = c.args.frame.now in
    let set = f.fonts.now in
    let r = c.requires.ready in
    let b = c.in-Some.ensures in
    let cs = b.commands.commands in
    let w : width_at set c.args.id c.args.code ≡ Some c.find-glyph.result.1.width = c.find-glyph.ensures.value.width in
    let k = covered_char set r.sel c.args.id c.args.code r.same r.covers in
    let p = packet c.one_reading.ensures f.grid set r.sel c.args.id c.args.code c.args.here.now f.nest c.find-glyph.result.1.width c.in-Some.packet.now cs k r.covers b.value b.commands.spelled w (omega arith) in
    let h = rw c.inner.ensures at (c.in_ok-frame.ensures.room cs b.commands.spelled) in
    let n : c.len.result ≡ vec_len c.args.self.now.saved = omega arith in
    let j = rw n at h in
    room_packet f.grid set c.args.id c.args.code c.args.here.now f.nest (vec_len c.args.self.now.saved) (packet_home set c.args.id cs) (omega arith) p.there j

pub turn-returns-in-Ok-clause-room : goal.turn-returns-in-Ok-clause-room
turn-returns-in-Ok-clause-room g t c =
    let f = c.args.frame.now in
    let here : State = record { place = c.args.pos.now; font = c.args.font.now } in
    rw c.in-Push.is (push_room (PacketFinds f.grid f.fonts.now f.nest) f.base (open_at f.base c.args.self.now.saved.items) here (omega (arith, as_many f.base c.args.self.now.saved.items (omega (arith, c.requires.base)))))

pub turn-returns-in-Some-clause-room : goal.turn-returns-in-Some-clause-room
turn-returns-in-Some-clause-room g t c =
    let f = c.args.frame.now in
    let here : State = record { place = c.args.pos.now; font = c.args.font.now } in
    rw c.in-Pop.is (pop_room (PacketFinds f.grid f.fonts.now f.nest) f.base (open_at f.base c.args.self.now.saved.items) here)

pub turn-returns-in-Some-select-clause-room : goal.turn-returns-in-Some-select-clause-room
turn-returns-in-Some-select-clause-room g t c =
    let f = c.args.frame.now in
    let here : State = record { place = c.args.pos.now; font = c.args.font.now } in
    rw c.in-Fnt.is (font_room (PacketFinds f.grid f.fonts.now f.nest) f.base (open_at f.base c.args.self.now.saved.items) here c.in-Fnt.k)

pub turn-returns-in-Ok-past_char-clause-room : goal.turn-returns-in-Ok-past_char-clause-room
turn-returns-in-Ok-past_char-clause-room g t c =
    let f = c.args.frame.now in
    let set = f.fonts.now in
    let items = c.args.self.now.saved.items in
    let os = open_at f.base items in
    let here : State = record { place = c.args.pos.now; font = c.args.font.now } in
    let zs : FitsSigned w64 c.in-Set.z = search rules in
    let e = c.character-id.ensures in
    let h0 = e.code in
    let code : c.in-Set.z ≡ pos c.character-id.result.1 = grind (arith, to_z-of_z, h0) in
    let id = c.character-id.result.0 in
    let k = c.character-id.result.1 in
    let around : f.base + length os ≡ vec_len c.args.self.now.saved = omega (arith, as_many f.base items (omega (arith, c.requires.base))) in
    rw c.in-Set.is (set_room (PacketFinds f.grid set f.nest) f.base os here c.in-Set.z (rw around (back (λ o y. PacketFinds f.grid set f.nest (vec_len c.args.self.now.saved) o y c.args.pos.now) c.args.font.now c.in-Set.z id k e.font code c.in_ok-wide-in-Set.ensures.room)))

pub turn-returns-in_ok-show-in-Put-clause-room : goal.turn-returns-in_ok-show-in-Put-clause-room
turn-returns-in_ok-show-in-Put-clause-room g t c =
    let f = c.args.frame.now in
    let set = f.fonts.now in
    let items = c.args.self.now.saved.items in
    let os = open_at f.base items in
    let here : State = record { place = c.args.pos.now; font = c.args.font.now } in
    let zs : FitsSigned w64 c.in-Put.z = search rules in
    let e = c.character-id-in-Put.ensures in
    let h0 = e.code in
    let code : c.in-Put.z ≡ pos c.character-id-in-Put.result.1 = grind (arith, to_z-of_z, h0) in
    let id = c.character-id-in-Put.result.0 in
    let k = c.character-id-in-Put.result.1 in
    let around : f.base + length os ≡ vec_len c.args.self.now.saved = omega (arith, as_many f.base items (omega (arith, c.requires.base))) in
    rw c.in-Put.is (put_room (PacketFinds f.grid set f.nest) f.base os here c.in-Put.z (rw around (back (λ o y. PacketFinds f.grid set f.nest (vec_len c.args.self.now.saved) o y c.args.pos.now) c.args.font.now c.in-Put.z id k e.font code c.in_ok-show-in-Put.ensures.room)))
