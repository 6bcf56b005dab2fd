-- The laws of the layers below: all that the proofs here use of them beside the contracts of their calls.
use Rattle.ks_engine.proofs.Prelude.{◌≡◌, ◌≢◌, lines, command_text, ReadFits, ReadsBack, lines-fit, lines-read, written-reads, reads_back, Place, path_of, IsLegalPlace, paths_never_meet}
-- an auto.conf reads back: it is accepted, with its texts and its generation
pub use Rattle.ks_output.proofs.ReadBack.{generation_reads_back as generation_back, is_accepted as accepted, texts_read_back as texts_back}
-- a generation that is read fits 64 bits
pub use Rattle.ks_output.proofs.SmallNumbers.{generation_fits as small_generation}
-- lines that follow a record change nothing of how it reads
use Rattle.ks_fixdep.proofs.OwnLineLemmas.{further_lines_read as further_lines_read_by}
use Rattle.ks_fixdep.specs.OwnLines.{FurtherLinesAreRead}
-- the names of a record are those found in its prerequisites
pub use Rattle.ks_fixdep.proofs.DepsLemmas.{record_names as names_of_record}

-- no two files that the commands write stand at one path
pub apart : (a b : Place) → IsLegalPlace a → IsLegalPlace b → (a ≡ b → ⊥) → path_of a ≢ path_of b
apart a b legal_a legal_b differ = λ e. differ (paths_never_meet a b legal_a legal_b e)

-- a command file that is read fits its layout, so its parts are legal
pub read_fits : ReadFits
read_fits text f reads = lines-fit f (lines text) reads

-- a command file that is written reads back
pub written_reads : ReadsBack
written_reads f legal = lines-read f (lines (command_text f)) (written-reads reads_back f legal)

-- and it does with the lines behind it that a build asks for
pub further_lines_read : FurtherLinesAreRead
further_lines_read = further_lines_read_by reads_back
