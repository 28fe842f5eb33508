use Rattle.std.proofs.Common.{◌≡◌, ◌<◌, sym, subst, length}
use Rattle.buffer_cache.specs.Cache.{sectors_of}
use Rattle.disk_model.specs.Disk.{OnlyAdds}
use Rattle.disk_model.specs.Moments.{EachSince}
use Rattle.tag_store.specs.Store.{IsOfPut, IsStore, Store}
use Rattle.tag_store.proofs.StoreLemmas.{IsStore-also, put_adds, tag-span}
use Rattle.tag_store.proofs.tags.Tags.put.Goals as goal

pub write_span-requires-clause-span : goal.write_span-requires-clause-span
write_span-requires-clause-span g c =
    let is = subst (λ (s : Store). IsStore s (g.D.Disk.identity c.args.disk.now) (g.D.Disk.moments c.args.disk.now)) (sym c.self.view_is) c.requires.store in
    let low = subst (λ (s : Store). c.args.block < s.geometry.blocks) (sym c.self.view_is) c.requires.block in
    let size = subst (λ (s : Store). length c.args.tag.now ≡ s.geometry.shape.tag_size) (sym c.self.view_is) c.requires.size in
    rw (c.tag_at-at.ensures, c.bytes.ensures.bytes) (tag-span c.self.inside.geometry _ c.args.block _ is.geometry low size)

pub returns-clause-store : goal.returns-clause-store
returns-clause-store g c =
    let is = subst (λ (s : Store). IsStore s (g.D.Disk.identity c.args.disk.now) (g.D.Disk.moments c.args.disk.now)) (sym c.self.view_is) c.requires.store in
    let low = subst (λ (s : Store). c.args.block < s.geometry.blocks) (sym c.self.view_is) c.requires.block in
    let size = subst (λ (s : Store). length c.args.tag.now ≡ s.geometry.shape.tag_size) (sym c.self.view_is) c.requires.size in
    IsStore-also c.self.inside.geometry _ _ (sectors_of c.self.inside.cache) (sectors_of c.write_span.new.cache) c.args.block _ low size
    is c.write_span.ensures.identity c.write_span.ensures.cache (rw (c.tag_at-at.ensures, c.bytes.ensures.bytes) at c.write_span.ensures.sectors.0)

pub returns-clause-moments : goal.returns-clause-moments
returns-clause-moments g c =
    let is = subst (λ (s : Store). IsStore s (g.D.Disk.identity c.args.disk.now) (g.D.Disk.moments c.args.disk.now)) (sym c.self.view_is) c.requires.store in
    let size = subst (λ (s : Store). length c.args.tag.now ≡ s.geometry.shape.tag_size) (sym c.self.view_is) c.requires.size in
    subst (λ (s : Store). EachSince (λ start. OnlyAdds (IsOfPut c.args.block c.args.tag.now s start) start) (g.D.Disk.moments c.args.disk.now) (g.D.Disk.moments c.write_span.new.disk)) c.self.view_is
    (put_adds c.self.inside.geometry c.args.block c.args.tag.now size (sectors_of c.self.inside.cache) (sectors_of c.self.inside.cache) _ is
    (rw (c.tag_at-at.ensures, c.bytes.ensures.bytes) at c.write_span.ensures.moments))
