use Rattle.std.proofs.Common.{◌≡◌, ◌*◌, length, refl, sym, ap, ◌∙◌, subst}
use Rattle.disk_model.specs.Identity.{DiskIdentity}
use Rattle.disk_model.specs.Moments.{HasNow, IsChangedBy}
use Rattle.image_model.specs.Geometry.{Geometry, IsGeometry, journal_sectors}
use Rattle.place_writer.proofs.StoreCalls.{ReadsWhole, reads_whole}
use Rattle.image_model.specs.EmptySections.{empty_image}
use Rattle.journal_erasure.specs.Erased.{IsErased}
use Rattle.journal_erasure.specs.Erasing.{with_empty_journal}
use Rattle.tag_store.specs.Store.{IsStore}
use Rattle.replay.proofs.ErasedLemmas.{erased_recovered, store_erased}
use Rattle.replay.proofs.WritesLemmas.{empty_adds}
use Rattle.replay.proofs.finishing.erase_journal.Goals as goal

pub erase-requires-clause-geometry : goal.erase-requires-clause-geometry
erase-requires-clause-geometry g c =
    subst (λ (x : Geometry). IsGeometry x (g.D.Disk.identity c.args.disk.now).sectors) (sym c.requires.scratch.geometry) c.requires.scratch.store_is.geometry

pub returns-in_err-erase-clause-cuts : goal.returns-in_err-erase-clause-cuts
returns-in_err-erase-clause-cuts g c d of has = c.erase.ensures.cuts d of (λ x told. (has.now x told).stands)

pub returns-clause-left : goal.returns-clause-left
returns-clause-left g c d of placed has =
    let store = c.args.tags.now in
    let disk = g.D.Disk.identity c.args.disk.now in
    let before = g.D.Disk.moments c.args.disk.now in
    let after = g.D.Disk.moments c.erase.new.disk in
    let empty = c.erase.new.scratch in
    let number = c.args.erasure.now.number in
    let size : length empty ≡ 512 * journal_sectors store.geometry = c.erase.ensures.empty.size ∙ ap (λ (y : Geometry). 512 * journal_sectors y) c.requires.scratch.geometry in
    let written = subst (λ (y : Geometry). IsChangedBy (with_empty_journal y empty) before after) c.requires.scratch.geometry c.in_ok-erase.ensures.written in
    let erased = subst (λ (y : Geometry). HasNow (IsErased d number (empty_image y empty)) after) c.requires.scratch.geometry (c.in_ok-erase.ensures.erased d of (λ x told. (has.now x told).stands)) in
    let whole = reads_whole disk before (g.met.D.Disk.reads_an_image c.args.disk.now) (g.met.D.Disk.whole_sectors c.args.disk.now) in
    let whole_now = subst (λ (i : DiskIdentity). ReadsWhole i after) c.erase.ensures.identity
    (reads_whole (g.D.Disk.identity c.erase.new.disk) after (g.met.D.Disk.reads_an_image c.erase.new.disk) (g.met.D.Disk.whole_sectors c.erase.new.disk)) in
    erased_recovered store disk before after c.requires.scratch.store_is empty size written d number _ whole whole_now has erased of.settled placed refl refl refl

pub returns-clause-store : goal.returns-clause-store
returns-clause-store g c =
    let store = c.args.tags.now in
    let disk = g.D.Disk.identity c.args.disk.now in
    let before = g.D.Disk.moments c.args.disk.now in
    let after = g.D.Disk.moments c.erase.new.disk in
    let empty = c.erase.new.scratch in
    let size : length empty ≡ 512 * journal_sectors store.geometry = c.erase.ensures.empty.size ∙ ap (λ (y : Geometry). 512 * journal_sectors y) c.requires.scratch.geometry in
    let written = subst (λ (y : Geometry). IsChangedBy (with_empty_journal y empty) before after) c.requires.scratch.geometry c.in_ok-erase.ensures.written in
    subst (λ (i : DiskIdentity). IsStore store i after) (sym c.erase.ensures.identity) (store_erased store disk before after c.requires.scratch.store_is empty size written)

pub returns-clause-cuts : goal.returns-clause-cuts
returns-clause-cuts g c d of has = c.erase.ensures.cuts d of (λ x told. (has.now x told).stands)

pub returns-in_err-erase-clause-moments : goal.returns-in_err-erase-clause-moments
returns-in_err-erase-clause-moments g c = empty_adds c.args.geometry.now _ c.erase.new.scratch c.erase.ensures.empty c.erase.ensures.moments

pub returns-clause-moments : goal.returns-clause-moments
returns-clause-moments g c = empty_adds c.args.geometry.now _ c.erase.new.scratch c.erase.ensures.empty c.erase.ensures.moments
