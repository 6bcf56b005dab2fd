use Rattle.ks_requests.proofs.Prelude.{◌<◌, arith, length, append-nil, drop_all, code_of, reply_status, rules}
use Rattle.ks_requests.proofs.Printing.{lines_more, no_lines, worst_more}
use Rattle.ks_requests.proofs.replies.report_replies.Goals as goal

pub loop-index-preserved : goal.loop-index-preserved
loop-index-preserved c =
    let within : c.loop-index.index < length c.args.replies.now = omega (arith, c.requires, c.loop-index-test.true) in
    let reply = c.index-replies-index.result in
    record {
      lines = lines_more c.args.commands.now c.args.replies.now c.loop-index.index _ reply c.loop-index.text.items c.write_reply.new.text.items _
          c.loop-index-test.true within c.loop-index.invariant.lines c.index-replies-index.is c.in_ok-write_reply.ensures;
      status = worst_more reply_status c.args.replies.now c.loop-index.index reply (code_of c.loop-index.status) _ _ within c.index-replies-index.is
          c.loop-index.invariant.status c.reply_status.ensures c.worse-status.ensures;
    }

pub returns-clause-lines : goal.returns-clause-lines
returns-clause-lines c = search (rules, append-nil, drop_all, no_lines)
