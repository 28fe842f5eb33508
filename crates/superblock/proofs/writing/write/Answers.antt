use Rattle.std.proofs.Common.{drop}
use Rattle.image_model.proofs.SuperblockLemmas.{superblock_of-superblock_bytes}
use Rattle.superblock.proofs.writing.write.Goals as goal

pub returns-clause-read_back : goal.returns-clause-read_back
returns-clause-read_back c =
    let fields = c.args.fields.now in
    let rest = drop 64 c.args.bytes.now in
    rw (c.copy_from_slice.ensures.after, c.superblock_bytes.ensures.bytes)
    (superblock_of-superblock_bytes fields rest c.requires.fields c.superblock_bytes.ensures.fits)
