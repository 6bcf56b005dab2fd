-- What a project's own conf wrote: of BusyBox .config and the header, elsewhere auto.conf and the header.
use Rattle.std.specs.Prelude.{ℕ, List, Result}
use Rattle.ks_symbols.specs.declared.dialect.Dialect.{Dialect}
use Rattle.ks_symbols.specs.declared.dialect.Dialect.TheVariants as dialect
use Rattle.ks_symbols.specs.Configuration.{Configuration}
use Rattle.ks_output.specs.Written.{title_in, written}
use Rattle.ks_output.specs.Blocks.{block_title, blocks_written}
use Rattle.ks_output.specs.declared.written.WrittenError.{WrittenError}

-- the configuration that both texts mean, or why they are refused
unfoldable pub written_in : Dialect → List ℕ → List ℕ → Result Configuration WrittenError
written_in dialect.BusyBox first second = blocks_written first second
written_in d first second = written first second

-- the title, which stands in the first of them
unfoldable pub title_written_in : Dialect → List ℕ → List ℕ
title_written_in dialect.BusyBox first = block_title first
title_written_in d first = title_in first
