use Rattle.place_writer.proofs.PlacingLawsLemmas.{begins_law, commit_law, disk_ring_law, put_law}
use Rattle.place_writer.proofs.laws.placement_goes_on.Goals as goal

pub returns-clause-begins : goal.returns-clause-begins
returns-clause-begins c = begins_law

pub returns-clause-put : goal.returns-clause-put
returns-clause-put c = put_law

pub returns-clause-commit : goal.returns-clause-commit
returns-clause-commit c = commit_law

pub returns-clause-disk : goal.returns-clause-disk
returns-clause-disk c = disk_ring_law
