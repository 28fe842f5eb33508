use Rattle.image_model.proofs.TablesLemmas.{newest_law}
use Rattle.image_model.proofs.ScanLemmas.{scan_law}
use Rattle.image_model.proofs.walk_laws.scan_follows_the_rules.Goals as goal

pub returns-clause-newest : goal.returns-clause-newest
returns-clause-newest c = newest_law

pub returns-clause-scan : goal.returns-clause-scan
returns-clause-scan c = scan_law
