use Rattle.recalculate_laws.proofs.OwnTagsLemmas.{base_tag_law, rests_moved_law, tag_stays_law, direct_tag_stays_law}
use Rattle.recalculate_laws.proofs.own_tags_stay.Goals as goal

pub returns-clause-base : goal.returns-clause-base
returns-clause-base c = base_tag_law

pub returns-clause-rests : goal.returns-clause-rests
returns-clause-rests c = rests_moved_law

pub returns-clause-journal : goal.returns-clause-journal
returns-clause-journal c = tag_stays_law

pub returns-clause-direct : goal.returns-clause-direct
returns-clause-direct c = direct_tag_stays_law
