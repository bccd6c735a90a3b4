use Rattle.std.proofs.Common.{refl}
use Rattle.api_messages.specs.Seen.{log_cells}
use Rattle.api_messages.specs.Tables.{log_rows}
use Rattle.api_messages.proofs.Again.{flat_text, reads_again}
use Rattle.api_messages.proofs.log.write_log.Goals as goal

pub returns-clause-text : goal.returns-clause-text
returns-clause-text c = flat_text _ _ log_rows (log_cells c.args.message.now) c.in-Ok.ensures.value refl c.text_of.ensures.text

pub returns-clause-reads : goal.returns-clause-reads
returns-clause-reads c = reads_again _ _ log_rows (log_cells c.args.message.now) c.in-Ok.ensures.value refl c.text_of.ensures.utf8 c.text_of.ensures.reads
