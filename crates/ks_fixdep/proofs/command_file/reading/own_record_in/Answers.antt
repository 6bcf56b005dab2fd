use Rattle.ks_fixdep.proofs.command_file.reading.own_record_in.Goals as goal

pub own_command-requires : goal.own_command-requires
own_command-requires c = (c.command_files_fit.ensures.read c.args.text.now _ c.in_ok-file.ensures).legal
