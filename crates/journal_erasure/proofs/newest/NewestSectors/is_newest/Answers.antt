use Rattle.std.proofs.Common.{subst}
use Rattle.journal_erasure.specs.declared.newest.NewestSectors.{NewestSectors}
use Rattle.journal_erasure.specs.Newest.{HasSector}
use Rattle.journal_erasure.proofs.newest.NewestSectors.is_newest.Goals as goal

pub has_number-requires : goal.has_number-requires
has_number-requires c = subst (λ (newest : NewestSectors). HasSector newest c.args.k) c.in-Scanned.is c.requires
