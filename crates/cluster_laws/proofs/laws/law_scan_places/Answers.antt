use Rattle.cluster_laws.proofs.ScanPlaceLemmas.{scans-by_place}
use Rattle.cluster_laws.proofs.laws.law_scan_places.Goals as goal

pub returns : goal.returns
returns c = scans-by_place
