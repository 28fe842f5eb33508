use Rattle.tag_store.proofs.StoreLawsLemmas.{elsewhere_law, fresh_law, other_regions_law, same_tags_law, synced_law}
use Rattle.tag_store.proofs.laws.store_is_of_its_disk.Goals as goal

pub returns-clause-fresh : goal.returns-clause-fresh
returns-clause-fresh c = fresh_law

pub returns-clause-elsewhere : goal.returns-clause-elsewhere
returns-clause-elsewhere c = elsewhere_law

pub returns-clause-synced : goal.returns-clause-synced
returns-clause-synced c = synced_law

pub returns-clause-tags : goal.returns-clause-tags
returns-clause-tags c = same_tags_law

pub returns-clause-regions : goal.returns-clause-regions
returns-clause-regions c = other_regions_law
