use Rattle.ks_requests.proofs.Prelude.{◌≡◌, ◌++◌, map, drop, take, action, reply_lines, code_of, reply_status, worst}
use Rattle.ks_requests.proofs.replies.report_replies.Given as goal

-- what is written, and the lines from here on, are all lines
abbrev pub invariant-loop-index : goal.invariant-loop-index
invariant-loop-index l = record {
  lines : l.text.items ++ reply_lines (map action (drop l.index l.commands)) (drop l.index l.replies) ≡ reply_lines (map action l.commands) l.replies;
  status : code_of l.status ≡ worst (map reply_status (take l.index l.replies));
}
