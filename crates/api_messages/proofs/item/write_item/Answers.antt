use Rattle.std.proofs.Common.{refl}
use Rattle.api_messages.specs.Seen.{item_cells}
use Rattle.api_messages.specs.Tables.{item_rows}
use Rattle.api_messages.proofs.Again.{flat_text}
use Rattle.api_messages.proofs.OneItem.{one_item_again}
use Rattle.api_messages.proofs.item.write_item.Goals as goal

pub returns-clause-text : goal.returns-clause-text
returns-clause-text c = flat_text _ _ item_rows (item_cells c.args.item.now) c.in-Ok.ensures.value refl c.text_of.ensures.text

pub returns-clause-reads : goal.returns-clause-reads
returns-clause-reads c = one_item_again _ _ (item_cells c.args.item.now) c.in-Ok.ensures.value c.text_of.ensures.utf8 c.text_of.ensures.reads c.in-Ok.ensures.fits
