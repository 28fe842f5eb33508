use Rattle.std.proofs.Common.{◌≡◌, ◌∙◌, ap}
use Rattle.image_model.specs.Geometry.{data_at}
use Rattle.tag_store.specs.Store.{Store}
use Rattle.tag_store.proofs.SpansLemmas.{cached-whole}
use Rattle.tag_store.proofs.StoreLemmas.{IsStore-written, KeepsTags-written, data-run}
use Rattle.tag_store.proofs.tags.Tags.write_block.Goals as goal

pub write_run-requires-clause-run : goal.write_run-requires-clause-run
write_run-requires-clause-run g c =
    let at : c.data_at.result ≡ data_at c.args.self.now.geometry c.args.block = c.data_at.ensures ∙ ap (λ (s : Store). data_at s.geometry c.args.block) c.self.view_is in
    rw at (data-run c.args.self.now.geometry _ c.args.block _ c.requires.store.geometry c.requires.block c.requires.size)

pub returns-clause-store : goal.returns-clause-store
returns-clause-store g c =
    let at : c.data_at.result ≡ data_at c.args.self.now.geometry c.args.block = c.data_at.ensures ∙ ap (λ (s : Store). data_at s.geometry c.args.block) c.self.view_is in
    IsStore-written c.args.self.now _ _ c.args.block c.args.bytes.now c.requires.store c.write_run.ensures.identity c.requires.size (rw at at c.write_run.ensures.moments)

pub returns-clause-tags : goal.returns-clause-tags
returns-clause-tags g c =
    let at : c.data_at.result ≡ data_at c.args.self.now.geometry c.args.block = c.data_at.ensures ∙ ap (λ (s : Store). data_at s.geometry c.args.block) c.self.view_is in
    let moments = rw at at c.write_run.ensures.moments in
    let now = IsStore-written c.args.self.now _ (g.D.Disk.identity c.write_run.new.self) c.args.block c.args.bytes.now c.requires.store c.write_run.ensures.identity c.requires.size moments in
    KeepsTags-written c.args.self.now _ (g.D.Disk.identity c.write_run.new.self) c.args.block c.args.bytes.now c.requires.store c.write_run.ensures.identity c.requires.size moments
    (cached-whole _ _ c.args.self.now.sectors c.requires.store.cache (g.met.D.Disk.reads_an_image c.args.disk.now) (g.met.D.Disk.whole_sectors c.args.disk.now))
    (λ content told s low. cached-whole _ _ c.args.self.now.sectors now.cache (g.met.D.Disk.reads_an_image c.write_run.new.self) (g.met.D.Disk.whole_sectors c.write_run.new.self) content told s
    (rw c.write_run.ensures.identity low))
