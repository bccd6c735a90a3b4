use Rattle.api_messages.specs.Seen.{registry_cells}
use Rattle.api_messages.specs.Tables.{registry_rows}
use Rattle.api_messages.proofs.Fits.{fits_read, registry_sound}
use Rattle.api_messages.proofs.registry.read_registry.Goals as goal

pub returns-clause-fits : goal.returns-clause-fits
returns-clause-fits c = fits_read registry_cells _ registry_rows _ registry_sound c.registry_of.ensures
