use Rattle.std.proofs.Common.{refl, arith}
use Rattle.dv_base.proofs.MessageLaws.{appended, lines_more, messages_more, messages_fit, room_more}
use Rattle.dv_base.proofs.mem_tray.MemTrayTray.say.Goals as goal

pub invariant_of-self-2-clause-lines : goal.invariant_of-self-2-clause-lines
invariant_of-self-2-clause-lines c =
    lines_more _ _ _ _ _ (appended _ _ _ _ _ _ _ refl c.append_length.ensures.items c.append.ensures.items c.append-2.ensures.items) c.args.self.now.cut c.args.self.now.lines

pub invariant_of-self-2-clause-cut : goal.invariant_of-self-2-clause-cut
invariant_of-self-2-clause-cut c =
    room_more _ _ _ _ _ (appended _ _ _ _ _ _ _ refl c.append_length.ensures.items c.append.ensures.items c.append-2.ensures.items) c.args.self.now.cut

pub returns-clause-says : goal.returns-clause-says
returns-clause-says c =
    record {
      messages_more = messages_more _ _ _ _ _ _ (appended _ _ _ _ _ _ _ refl c.append_length.ensures.items c.append.ensures.items c.append-2.ensures.items) c.args.self.now.cut;
      outputs_same = refl;
      begun_same = refl;
      last_same = refl;
      faults_same = refl;
    }

pub returns-clause-messages : goal.returns-clause-messages
returns-clause-messages c =
    messages_fit _ _ _ _ _ _ _ (appended _ _ _ _ _ _ _ refl c.append_length.ensures.items c.append.ensures.items c.append-2.ensures.items) c.args.self.now.cut c.args.self.now.lines (omega arith)
