use Rattle.tag_store.proofs.PutLemmas.{put_bytes_law, put_tags_law, put_whole_law}
use Rattle.tag_store.proofs.StoreLawsLemmas.{others_law}
use Rattle.tag_store.proofs.laws.tag_is_put.Goals as goal

pub returns-clause-tags : goal.returns-clause-tags
returns-clause-tags c = put_tags_law

pub returns-clause-bytes : goal.returns-clause-bytes
returns-clause-bytes c = put_bytes_law

pub returns-clause-whole : goal.returns-clause-whole
returns-clause-whole c = put_whole_law

pub returns-clause-others : goal.returns-clause-others
returns-clause-others c = others_law
