use Rattle.std.proofs.Common.{rules}
use Rattle.disk_model.specs.Disk.{last_image}
use Rattle.hmac_tag.specs.TagMaker.{key_of}
use Rattle.command_model.specs.Salvaging.{salvage_outset}
use Rattle.command_task.specs.Running.{ending_by}
use Rattle.command_image.proofs.SalvagingLemmas.{ran_back}
use Rattle.command_image.proofs.salvaging.print_salvage.Goals as goal

pub returns-clause-runs : goal.returns-clause-runs
returns-clause-runs g c script start told =
    ran_back (salvage_outset (key_of c.args.hash) (g.D.Disk.identity c.args.disk.now).sectors (last_image start)) start script
    (ending_by c.salvage_disk.new.ended) _ _ (c.salvage_disk.ensures.runs script start told) (search rules)
