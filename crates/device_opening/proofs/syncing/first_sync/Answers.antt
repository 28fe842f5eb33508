use Rattle.std.proofs.Common.{◌≡◌, sym, ◌∙◌, ap, subst}
use Rattle.disk_model.specs.Disk.{Content, Image, last_image, newest_only}
use Rattle.disk_model.specs.Identity.{DiskIdentity, IsBound}
use Rattle.disk_model.specs.Moments.{content_now}
use Rattle.image_model.specs.Cells.{placed_cells_of}
use Rattle.image_model.specs.Geometry.{Geometry, IsGeometry}
use Rattle.place_model.specs.Format.{format_on}
use Rattle.buffer_cache.specs.declared.held.HeldSectors.{HeldSectors}
use Rattle.buffer_cache.specs.HeldSectors.{no_sectors}
use Rattle.buffer_cache.proofs.CachedLemmas.{changed_now}
use Rattle.direct_laws.proofs.MomentLemmas.{opening_sync_law, opening_done_law}
use Rattle.tag_store.specs.Store.{IsStore, Store, given_tags, tags_in}
use Rattle.tag_store.proofs.StoreLawsLemmas.{fresh_law}
use Rattle.direct_mode.proofs.StoreCalls.{reads_whole}
use Rattle.device_opening.proofs.syncing.first_sync.Goals as goal

pub returns-in_err-sync-clause-moments : goal.returns-in_err-sync-clause-moments
returns-in_err-sync-clause-moments g c key can =
    let disk = c.args.disk.now in
    let whole = reads_whole (g.D.Disk.identity disk) (g.D.Disk.moments disk) (g.met.D.Disk.reads_an_image disk) (g.met.D.Disk.whole_sectors disk) in
    let opening = opening_sync_law key (g.D.Disk.identity disk).sectors _ _ (g.met.D.Disk.reads_an_image disk) (λ x told. (can x told, whole x told)) c.sync.ensures.moments in
    record { opens = opening.1; left = opening.0 }

pub returns-clause-moments : goal.returns-clause-moments
returns-clause-moments g c key can =
    let disk = c.args.disk.now in
    let whole = reads_whole (g.D.Disk.identity disk) (g.D.Disk.moments disk) (g.met.D.Disk.reads_an_image disk) (g.met.D.Disk.whole_sectors disk) in
    let opening = opening_sync_law key (g.D.Disk.identity disk).sectors _ _ (g.met.D.Disk.reads_an_image disk) (λ x told. (can x told, whole x told)) c.sync.ensures.moments in
    record { opens = opening.1; left = opening.0 }

pub returns-clause-opened : goal.returns-clause-opened
returns-clause-opened g c key is_to_open start told =
    let disk = c.args.disk.now in
    let sectors = (g.D.Disk.identity disk).sectors in
    let geometry = c.args.geometry in
    let whole = reads_whole (g.D.Disk.identity disk) (g.D.Disk.moments disk) (g.met.D.Disk.reads_an_image disk) (g.met.D.Disk.whole_sectors disk) in
    let store : Store = record { geometry = geometry; sectors = no_sectors c.requires.fresh.0 } in
    let is : c.new.result ≡ store = c.new.ensures ∙ ap (λ (held : HeldSectors). let s : Store = record { geometry = geometry; sectors = held } in s) c.requires.fresh.1 in
    opening_done_law key sectors (given_tags c.new.result) _ _ (g.met.D.Disk.reads_an_image disk) (λ x told_x. (is_to_open.can x told_x, whole x told_x)) c.in_ok-sync.ensures.synced
    (λ x told_x n low.
    let first = changed_now newest_only (content_now (g.D.Disk.moments disk)) (content_now (g.D.Disk.moments c.sync.new.self)) c.in_ok-sync.ensures.synced x told_x in
    let at : (format_on key sectors (last_image x)).geometry ≡ geometry = ap (λ (y : Content). (format_on key sectors (last_image y)).geometry) first.2 ∙ is_to_open.geometry first.0 first.1 in
    ap (λ (s : Store). given_tags s x n) is
    ∙ ap (λ (image : Image). tags_in geometry image n) ((fresh_law geometry (g.D.Disk.identity disk) (g.D.Disk.moments disk) c.requires.fresh.0 c.requires.bound c.requires.places).1 x)
    ∙ ap (λ (y : Geometry). (placed_cells_of y (last_image x) n).tag) (sym at))
    start told

pub returns-clause-store : goal.returns-clause-store
returns-clause-store g c =
    let disk = c.sync.new.self in
    let geometry = c.args.geometry in
    let bound = subst (λ (i : DiskIdentity). IsBound i.name) (sym c.sync.ensures.identity) c.requires.bound in
    let places = subst (λ (i : DiskIdentity). IsGeometry geometry i.sectors) (sym c.sync.ensures.identity) c.requires.places in
    let store : Store = record { geometry = geometry; sectors = no_sectors c.requires.fresh.0 } in
    let is : c.new.result ≡ store = c.new.ensures ∙ ap (λ (held : HeldSectors). let s : Store = record { geometry = geometry; sectors = held } in s) c.requires.fresh.1 in
    subst (λ (s : Store). IsStore s (g.D.Disk.identity disk) (g.D.Disk.moments disk)) (sym is) (fresh_law geometry (g.D.Disk.identity disk) (g.D.Disk.moments disk) c.requires.fresh.0 bound places).0
