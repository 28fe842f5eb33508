use Rattle.std.proofs.Common.{arith}
use Rattle.journal_erasure.proofs.StepsLemmas.{section_few}
use Rattle.journal_erasure.proofs.erasing.erase_first.Goals as goal

pub overflow_add-first : goal.overflow_add-first
overflow_add-first g c =
    let few = section_few c.args.geometry.now _ c.args.erasure.now.first c.requires.erasing.geometry c.requires.erasing.fits.first in
    omega (arith, few)
