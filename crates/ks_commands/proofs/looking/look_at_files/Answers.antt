use Rattle.ks_commands.proofs.Prelude.{◌⊎◌, err_from_is_err_and}
use Rattle.ks_engine.specs.Refusals.{IsAborted}
use Rattle.ks_engine.specs.Views.{old_of}
use Rattle.ks_commands.specs.Looking.{FirstRead, IsFound, AreFilesLooked, IsUnreadFile, IsUnreadListed, is_listed}
use Rattle.ks_commands.proofs.LookingLemmas.{auto_unread, file_unread, given_is, if_err, if_ok, same_listed}
use Rattle.ks_commands.proofs.looking.look_at_files.Goals as goal

pub returns-clause-looked : goal.returns-clause-looked
returns-clause-looked g c = λ honest.
    let files = g.T.Tree.files c.args.tree.now in
    let text = c.in_ok-text.text.items in
    let first = c.in_ok-text.ensures.reads.unchanged honest in
    let second = c.in_ok-config.ensures.reads.unchanged honest in
    let found = rw (second, first) at (c.look_for_cause.ensures.found honest) in
    let read : FirstRead c.args.options files c.args.depfile.now = record {
      was = text;
      was_there = given_is files c.args.depfile.now text (c.in_ok-text.ensures.bytes honest);
      listed = _;
      are_listed = rw (c.deref.ensures.value) at c.in_ok-prerequisites.ensures.listed;
      auto = old_of c.in_ok-config.config;
      auto_is = rw first at (c.in_ok-config.ensures.read honest);
    } in
    if_ok _ (AreFilesLooked c.args.dialect c.args.header c.args.options c.args.alias.now files c.args.depfile.now c.args.command.now) c.look_for_cause.result
    (λ h is. (read, same_listed (λ look. IsFound look files read.listed h) _ (is_listed read.listed) c.in_ok-listed.ensures is)) found

pub returns-in_err-config-clause-refused : goal.returns-in_err-config-clause-refused
returns-in_err-config-clause-refused g c = λ honest.
    let files = g.T.Tree.files c.args.tree.now in
    let text = c.in_ok-text.text.items in
    let first = c.in_ok-text.ensures.reads.unchanged honest in
    let there = given_is files c.args.depfile.now text (c.in_ok-text.ensures.bytes honest) in
    let are = rw (c.deref.ensures.value) at c.in_ok-prerequisites.ensures.listed in
    let p = err_from_is_err_and c.from_residual-in_err-config.result c.from_residual-in_err-config.ensures.1 in
    rw (p.1, p.2)
    (auto_unread c.args.dialect c.args.header c.args.options c.args.alias.now files c.args.depfile.now c.args.command.now text _ c.in_err-config.field-0.0 there are (rw first at (c.in_err-config.ensures.read honest)))

pub returns-clause-refused : goal.returns-clause-refused
returns-clause-refused g c = λ honest.
    let files = g.T.Tree.files c.args.tree.now in
    let text = c.in_ok-text.text.items in
    let first = c.in_ok-text.ensures.reads.unchanged honest in
    let second = c.in_ok-config.ensures.reads.unchanged honest in
    let found = rw (second, first) at (c.look_for_cause.ensures.refused honest) in
    let read : FirstRead c.args.options files c.args.depfile.now = record {
      was = text;
      was_there = given_is files c.args.depfile.now text (c.in_ok-text.ensures.bytes honest);
      listed = _;
      are_listed = rw (c.deref.ensures.value) at c.in_ok-prerequisites.ensures.listed;
      auto = old_of c.in_ok-config.config;
      auto_is = rw first at (c.in_ok-config.ensures.read honest);
    } in
    if_err _ (λ e. IsAborted e ⊎ IsUnreadFile c.args.dialect c.args.header c.args.options c.args.alias.now files c.args.depfile.now c.args.command.now e) c.look_for_cause.result
    (λ e is.
    file_unread c.args.dialect c.args.header c.args.options c.args.alias.now files c.args.depfile.now c.args.command.now read e
    (same_listed (λ look. IsAborted e ⊎ IsUnreadListed look files read.listed e) _ (is_listed read.listed) c.in_ok-listed.ensures is)) found
