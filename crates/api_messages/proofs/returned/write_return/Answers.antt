use Rattle.std.proofs.Common.{refl}
use Rattle.api_messages.specs.Seen.{return_cells}
use Rattle.api_messages.specs.Tables.{return_rows}
use Rattle.api_messages.proofs.Again.{text_as_is, reads_again}
use Rattle.api_messages.proofs.returned.write_return.Goals as goal

pub returns-clause-text : goal.returns-clause-text
returns-clause-text c = text_as_is _ _ return_rows (return_cells c.args.message.now) c.in-Ok.ensures.value c.text_of.ensures.text

pub returns-clause-reads : goal.returns-clause-reads
returns-clause-reads c = reads_again _ _ return_rows (return_cells c.args.message.now) c.in-Ok.ensures.value refl c.text_of.ensures.utf8 c.text_of.ensures.reads
