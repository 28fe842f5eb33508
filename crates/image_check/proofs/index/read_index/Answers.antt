use Rattle.disk_model.specs.Disk.{last_image}
use Rattle.image_check.proofs.ReadingLemmas.{index_on}
use Rattle.image_check.proofs.index.read_index.Goals as goal

pub returns-clause-index : goal.returns-clause-index
returns-clause-index g c content told =
    index_on c.args.maker.now c.args.geometry.now (last_image content) c.in_ok-journal.journal (c.in_ok-journal.ensures.judged content told)
