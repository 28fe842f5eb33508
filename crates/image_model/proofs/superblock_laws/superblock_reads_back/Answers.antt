use Rattle.image_model.proofs.SuperblockLemmas.{superblock_of-superblock_bytes, length-superblock_bytes}
use Rattle.image_model.proofs.superblock_laws.superblock_reads_back.Goals as goal

pub returns-clause-reads_back : goal.returns-clause-reads_back
returns-clause-reads_back c = superblock_of-superblock_bytes

pub returns-clause-written : goal.returns-clause-written
returns-clause-written c = length-superblock_bytes
