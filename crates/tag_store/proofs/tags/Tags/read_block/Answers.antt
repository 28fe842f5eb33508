use Rattle.std.proofs.Common.{◌≡◌, ◌∙◌, ap}
use Rattle.image_model.specs.Geometry.{data_at}
use Rattle.tag_store.specs.Store.{Store}
use Rattle.tag_store.proofs.StoreLemmas.{data-run}
use Rattle.tag_store.proofs.tags.Tags.read_block.Goals as goal

pub read_run-requires-clause-run : goal.read_run-requires-clause-run
read_run-requires-clause-run g c =
    let at : c.data_at.result ≡ data_at c.args.self.now.geometry c.args.block = c.data_at.ensures ∙ ap (λ (s : Store). data_at s.geometry c.args.block) c.self.view_is in
    rw at (data-run c.args.self.now.geometry _ c.args.block _ c.requires.store.geometry c.requires.block c.requires.size)
