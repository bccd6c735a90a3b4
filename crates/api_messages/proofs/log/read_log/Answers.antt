use Rattle.api_messages.specs.Seen.{log_cells}
use Rattle.api_messages.specs.Tables.{log_rows}
use Rattle.api_messages.proofs.Fits.{fits_read, log_sound}
use Rattle.api_messages.proofs.log.read_log.Goals as goal

pub returns-clause-fits : goal.returns-clause-fits
returns-clause-fits c = fits_read log_cells _ log_rows _ log_sound c.log_of.ensures
