use Rattle.std.proofs.Common.{◌≡◌, sym, ◌∙◌, ap, subst}
use Rattle.disk_model.specs.Disk.{OnlyAdds, last_image}
use Rattle.disk_model.specs.Moments.{EachSince}
use Rattle.image_model.specs.Geometry.{Geometry}
use Rattle.buffer_cache.specs.declared.held.HeldSectors.{HeldSectors}
use Rattle.buffer_cache.specs.HeldSectors.{no_sectors}
use Rattle.direct_laws.specs.CallLaws.{ReadsTagsNow}
use Rattle.recalculation.specs.All.{IsOfTagsOnly}
use Rattle.tag_store.specs.Store.{Store, given_tags, tags_in}
use Rattle.device_opening.specs.JournalMaking.{judged_as}
use Rattle.device_opening.proofs.RecalculatedLemmas.{recalculated_leaves, recalculated_on, recalculated_written, sync_leaves}
use Rattle.device_opening.proofs.journal_making.recalculate_marked.Goals as goal

pub returns-in_err-tags-clause-leaves : goal.returns-in_err-tags-clause-leaves
returns-in_err-tags-clause-leaves g c =
    sync_leaves (g.D.Disk.identity c.args.disk.now) (judged_as c.args.format.now c.args.maker.now c.args.regions) _ _ c.requires.judged (g.met.D.Disk.reads_an_image c.args.disk.now) c.first_sync.ensures.newest

pub returns-in_err-recalculate_all-clause-leaves : goal.returns-in_err-recalculate_all-clause-leaves
returns-in_err-recalculate_all-clause-leaves g c =
    let image = judged_as c.args.format.now c.args.maker.now c.args.regions in
    let geometry = c.args.format.now.geometry in
    let tags = c.in_ok-tags.tags in
    let fresh : Store = record { geometry = geometry; sectors = no_sectors c.requires.cache.0 } in
    let is : tags ≡ fresh = c.in_ok-tags.ensures.made ∙ ap (λ (held : HeldSectors). let s : Store = record { geometry = geometry; sectors = held } in s) c.requires.cache.1 in
    let places : tags.geometry ≡ geometry = ap (λ (s : Store). s.geometry) is in
    let m = g.D.Disk.moments c.first_sync.new.disk in
    let b = g.D.Disk.moments c.recalculate_all.new.disk in
    let waits_geometry : c.into_awaiting-awaiting.result.geometry ≡ geometry = c.into_awaiting-awaiting.ensures.geometry ∙ c.requires.judged.regions_.geometry in
    recalculated_leaves (g.D.Disk.identity c.args.disk.now) image (g.D.Disk.moments c.args.disk.now) m c.requires.judged (g.met.D.Disk.reads_an_image c.args.disk.now) c.first_sync.ensures.newest
    tags c.in_ok-tags.ensures.synced places (λ x n. ap (λ (s : Store). given_tags s x n) is ∙ ap (λ (y : Geometry). tags_in y (last_image x) n) (sym places))
    c.into_awaiting-awaiting.result c.into_awaiting-awaiting.ensures.awaiting c.into_awaiting-awaiting.ensures.first waits_geometry
    c.recalculate_all.ensures.through.bitmap
    (subst (λ (x : Geometry). EachSince (OnlyAdds (IsOfTagsOnly x)) m b) waits_geometry c.recalculate_all.ensures.moments)

pub returns-clause-leaves : goal.returns-clause-leaves
returns-clause-leaves g c =
    let image = judged_as c.args.format.now c.args.maker.now c.args.regions in
    let geometry = c.args.format.now.geometry in
    let tags = c.in_ok-tags.tags in
    let fresh : Store = record { geometry = geometry; sectors = no_sectors c.requires.cache.0 } in
    let is : tags ≡ fresh = c.in_ok-tags.ensures.made ∙ ap (λ (held : HeldSectors). let s : Store = record { geometry = geometry; sectors = held } in s) c.requires.cache.1 in
    let places : tags.geometry ≡ geometry = ap (λ (s : Store). s.geometry) is in
    let m = g.D.Disk.moments c.first_sync.new.disk in
    let b = g.D.Disk.moments c.recalculate_all.new.disk in
    let waits_geometry : c.into_awaiting-awaiting.result.geometry ≡ geometry = c.into_awaiting-awaiting.ensures.geometry ∙ c.requires.judged.regions_.geometry in
    recalculated_leaves (g.D.Disk.identity c.args.disk.now) image (g.D.Disk.moments c.args.disk.now) m c.requires.judged (g.met.D.Disk.reads_an_image c.args.disk.now) c.first_sync.ensures.newest
    tags c.in_ok-tags.ensures.synced places (λ x n. ap (λ (s : Store). given_tags s x n) is ∙ ap (λ (y : Geometry). tags_in y (last_image x) n) (sym places))
    c.into_awaiting-awaiting.result c.into_awaiting-awaiting.ensures.awaiting c.into_awaiting-awaiting.ensures.first waits_geometry
    c.recalculate_all.ensures.through.bitmap
    (subst (λ (x : Geometry). EachSince (OnlyAdds (IsOfTagsOnly x)) m b) waits_geometry c.recalculate_all.ensures.moments)

pub returns-clause-recalculated : goal.returns-clause-recalculated
returns-clause-recalculated g c =
    let image = judged_as c.args.format.now c.args.maker.now c.args.regions in
    let geometry = c.args.format.now.geometry in
    let tags = c.in_ok-tags.tags in
    let fresh : Store = record { geometry = geometry; sectors = no_sectors c.requires.cache.0 } in
    let is : tags ≡ fresh = c.in_ok-tags.ensures.made ∙ ap (λ (held : HeldSectors). let s : Store = record { geometry = geometry; sectors = held } in s) c.requires.cache.1 in
    let places : tags.geometry ≡ geometry = ap (λ (s : Store). s.geometry) is in
    let m = g.D.Disk.moments c.first_sync.new.disk in
    let b = g.D.Disk.moments c.recalculate_all.new.disk in
    let waits_geometry : c.into_awaiting-awaiting.result.geometry ≡ geometry = c.into_awaiting-awaiting.ensures.geometry ∙ c.requires.judged.regions_.geometry in
    recalculated_on (g.D.Disk.identity c.args.disk.now) image (g.D.Disk.moments c.args.disk.now) m c.requires.judged (g.met.D.Disk.reads_an_image c.args.disk.now) c.first_sync.ensures.newest
    tags c.in_ok-tags.ensures.synced places (λ x n. ap (λ (s : Store). given_tags s x n) is ∙ ap (λ (y : Geometry). tags_in y (last_image x) n) (sym places))
    c.into_awaiting-awaiting.result c.into_awaiting-awaiting.ensures.awaiting c.into_awaiting-awaiting.ensures.first waits_geometry
    c.recalculate_all.ensures.through.bitmap
    (subst (λ (x : Geometry). EachSince (OnlyAdds (IsOfTagsOnly x)) m b) waits_geometry c.recalculate_all.ensures.moments)
    c.recalculate_all.new.tags c.in_ok-recalculate_all.ensures.taken.bitmap
    (subst (λ (x : Geometry). ReadsTagsNow x (given_tags c.recalculate_all.new.tags) b) waits_geometry c.in_ok-recalculate_all.ensures.back)

pub returns-clause-written : goal.returns-clause-written
returns-clause-written g c =
    let image = judged_as c.args.format.now c.args.maker.now c.args.regions in
    let geometry = c.args.format.now.geometry in
    let tags = c.in_ok-tags.tags in
    let fresh : Store = record { geometry = geometry; sectors = no_sectors c.requires.cache.0 } in
    let is : tags ≡ fresh = c.in_ok-tags.ensures.made ∙ ap (λ (held : HeldSectors). let s : Store = record { geometry = geometry; sectors = held } in s) c.requires.cache.1 in
    let places : tags.geometry ≡ geometry = ap (λ (s : Store). s.geometry) is in
    let m = g.D.Disk.moments c.first_sync.new.disk in
    let b = g.D.Disk.moments c.recalculate_all.new.disk in
    let waits_geometry : c.into_awaiting-awaiting.result.geometry ≡ geometry = c.into_awaiting-awaiting.ensures.geometry ∙ c.requires.judged.regions_.geometry in
    recalculated_written (g.D.Disk.identity c.args.disk.now) image (g.D.Disk.moments c.args.disk.now) m c.requires.judged (g.met.D.Disk.reads_an_image c.args.disk.now) c.first_sync.ensures.newest
    tags c.in_ok-tags.ensures.synced places (λ x n. ap (λ (s : Store). given_tags s x n) is ∙ ap (λ (y : Geometry). tags_in y (last_image x) n) (sym places))
    c.into_awaiting-awaiting.result c.into_awaiting-awaiting.ensures.awaiting c.into_awaiting-awaiting.ensures.first waits_geometry
    c.recalculate_all.ensures.through.bitmap
    (subst (λ (x : Geometry). EachSince (OnlyAdds (IsOfTagsOnly x)) m b) waits_geometry c.recalculate_all.ensures.moments)

pub returns-clause-store : goal.returns-clause-store
returns-clause-store g c = c.recalculate_all.ensures.stays.store_

pub returns-clause-places : goal.returns-clause-places
returns-clause-places g c = c.recalculate_all.ensures.stays.places ∙ ap (λ (s : Store). s.geometry) c.in_ok-tags.ensures.made
