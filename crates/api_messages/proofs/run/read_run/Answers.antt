use Rattle.api_messages.specs.Seen.{run_cells}
use Rattle.api_messages.specs.Tables.{run_rows}
use Rattle.api_messages.proofs.Fits.{fits_read, run_sound}
use Rattle.api_messages.proofs.run.read_run.Goals as goal

pub returns-clause-fits : goal.returns-clause-fits
returns-clause-fits c = fits_read run_cells _ run_rows _ run_sound c.run_of.ensures
