use Rattle.std.proofs.Common.{◌≡◌, sym, ◌∙◌, ap, subst}
use Rattle.disk_model.specs.Disk.{last_image}
use Rattle.disk_model.specs.Identity.{DiskIdentity}
use Rattle.image_model.specs.Geometry.{Geometry, Shape}
use Rattle.buffer_cache.specs.declared.held.HeldSectors.{HeldSectors}
use Rattle.buffer_cache.specs.HeldSectors.{no_sectors}
use Rattle.tag_store.specs.Store.{IsStore, Store, given_tags, tags_in}
use Rattle.device_opening.proofs.BitmapLemmas.{bitmap_left, bitmap_opened}
use Rattle.device_opening.specs.declared.room.TheConstants.{HELD_SECTORS}
use Rattle.device_opening.proofs.bitmap.open_judged.Goals as goal

pub returns-in_err-tags-clause-left : goal.returns-in_err-tags-clause-left
returns-in_err-tags-clause-left g c =
    bitmap_left (g.D.Disk.identity c.args.disk.now) c.args.image _ _ c.requires.judged (g.met.D.Disk.reads_an_image c.args.disk.now) c.first_sync.ensures.newest

pub returns-clause-left : goal.returns-clause-left
returns-clause-left g c =
    bitmap_left (g.D.Disk.identity c.args.disk.now) c.args.image _ _ c.requires.judged (g.met.D.Disk.reads_an_image c.args.disk.now) c.first_sync.ensures.newest

pub returns-clause-opened : goal.returns-clause-opened
returns-clause-opened g c =
    let old = g.D.Disk.identity c.args.disk.now in
    let image = c.args.image in
    let room = c.args.room in
    let tags = c.in_ok-tags.tags in
    let geometry = image.format.geometry in
    let fresh : Store = record { geometry = geometry; sectors = no_sectors HELD_SECTORS } in
    let is : tags ≡ fresh =
    c.in_ok-tags.ensures.made ∙ ap (λ (held : HeldSectors). let s : Store = record { geometry = geometry; sectors = held } in s) c.requires.room.cache in
    let same : tags.geometry ≡ geometry = ap (λ (s : Store). s.geometry) is in
    bitmap_opened old image _ _ c.requires.judged (g.met.D.Disk.reads_an_image c.args.disk.now) room c.requires.room tags c.shape-spb.result.spb
    (ap (λ (x : Shape). x.spb) c.shape-spb.ensures.shape) same c.in_ok-tags.ensures.synced
    (subst (λ (i : DiskIdentity). IsStore tags i (g.D.Disk.moments c.first_sync.new.disk)) c.first_sync.ensures.identity c.in_ok-tags.ensures.store)
    (λ x n. ap (λ (s : Store). given_tags s x n) is ∙ ap (λ (y : Geometry). tags_in y (last_image x) n) (sym same))
    c.first_sync.ensures.newest
