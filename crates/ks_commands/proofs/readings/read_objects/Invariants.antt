use Rattle.ks_commands.proofs.Prelude.{◌≡◌, ◌≤◌, CommandRecord, List, Option, Part, ReportsAll, code_of, map, reading, records_in, state, take}
use Rattle.ks_commands.proofs.readings.read_objects.Given as goal

abbrev pub invariant-loop-target : goal.invariant-loop-target
invariant-loop-target g l = record {
  unchanged : g.T.Tree.is_honest → g.T.Tree.files l.tree ≡ g.T.Tree.files l.fn.tree;
  kept : g.T.Tree.backdated l.tree ≡ g.T.Tree.backdated l.fn.tree;
  later : g.T.Tree.failures l.fn.tree ≤ g.T.Tree.failures l.tree;
  same : g.R.Reader.asked l.reader ≡ g.R.Reader.asked l.fn.reader;
  reported : (parts : List (Part (Option CommandRecord)))
      × ReportsAll (reading g.T.Tree.is_honest (g.T.Tree.files l.fn.tree) (g.R.Reader.line (g.R.Reader.asked l.fn.reader))) parts (state g.T.Tree l.fn.tree)
      (map (λ t. t.now) (take l.target-index l.objects)) l.text.items (code_of l.status) (state g.T.Tree l.tree)
      × g.R.Reader.has_read l.reader (records_in parts);
}
