use Rattle.std.proofs.Common.{◌≡◌, ◌*◌, ◌<◌, refl, sym, ◌∙◌, ap, subst, length}
use Rattle.disk_model.specs.Disk.{last_image}
use Rattle.disk_model.specs.Identity.{DiskIdentity}
use Rattle.disk_model.specs.Moments.{EachSince}
use Rattle.image_model.specs.Geometry.{journal_sectors}
use Rattle.change_model.specs.Opened.{IsEntry}
use Rattle.direct_mode.proofs.StoreCalls.{ReadsWhole, reads_whole}
use Rattle.image_format.specs.Format.{disk_format}
use Rattle.mode_change.specs.ToJournal.{KeepsRecalculated, OpensJournal}
use Rattle.mode_change.proofs.FormatLemmas.{unmarked_format}
use Rattle.tag_store.specs.Store.{IsStore, given_tags}
use Rattle.device_opening.specs.JournalMaking.{bitmap_judged}
use Rattle.device_opening.proofs.JournalChangeLemmas.{journal_change_keeps, journal_change_made, journal_made, recalculation_made, store_stays, tags_placed}
use Rattle.device_opening.proofs.MadeDeviceLemmas.{some_disk}
use Rattle.device_opening.proofs.MomentsLemmas.{now_told}
use Rattle.device_opening.proofs.RecalculatedLemmas.{opens_judged}
use Rattle.device_opening.proofs.journal_making.make_journal.Goals as goal

pub returns-in_err-tags-clause-leaves : goal.returns-in_err-tags-clause-leaves
returns-in_err-tags-clause-leaves g c =
    let leaves = c.recalculate_marked.ensures.leaves in
    record {
      keeps = leaves.keeps;
      writes = recalculation_made c.args.image.format (g.D.Disk.identity c.args.disk.now).sectors c.requires.judged.format.accepted.geometry leaves.writes;
    }

pub returns-in_err-change_to_journal-clause-leaves : goal.returns-in_err-change_to_journal-clause-leaves
returns-in_err-change_to_journal-clause-leaves g c =
    let image = c.args.image in
    let key = image.maker.key in
    let old = g.D.Disk.identity c.args.disk.now in
    let a = g.D.Disk.moments c.args.disk.now in
    let mid = c.recalculate_marked.new.disk in
    let end = c.change_to_journal.new.disk in
    let there : g.D.Disk.identity mid ≡ old = c.recalculate_marked.ensures.identity in
    let judged = c.requires.judged in
    let leaves = c.recalculate_marked.ensures.leaves in
    record {
      keeps = journal_change_keeps key old.sectors image.format c.in_ok-tags.tags c.requires.fits (opens_judged old image a judged) leaves.writes leaves.keeps c.in_ok-tags.ensures.recalculated
          (subst (λ (i : DiskIdentity). EachSince (KeepsRecalculated (disk_format key i.sectors image.format)) (g.D.Disk.moments mid) (g.D.Disk.moments end)) there (c.change_to_journal.ensures.moments.keeps key));
      writes = journal_change_made image.format old.sectors judged.format.accepted.geometry leaves.writes c.in_ok-tags.ensures.written (g.met.D.Disk.reads_an_image mid) c.change_to_journal.ensures.moments.writes;
    }

pub returns-clause-leaves : goal.returns-clause-leaves
returns-clause-leaves g c =
    let image = c.args.image in
    let key = image.maker.key in
    let old = g.D.Disk.identity c.args.disk.now in
    let a = g.D.Disk.moments c.args.disk.now in
    let mid = c.recalculate_marked.new.disk in
    let end = c.change_to_journal.new.disk in
    let there : g.D.Disk.identity mid ≡ old = c.recalculate_marked.ensures.identity in
    let judged = c.requires.judged in
    let leaves = c.recalculate_marked.ensures.leaves in
    record {
      keeps = journal_change_keeps key old.sectors image.format c.in_ok-tags.tags c.requires.fits (opens_judged old image a judged) leaves.writes leaves.keeps c.in_ok-tags.ensures.recalculated
          (subst (λ (i : DiskIdentity). EachSince (KeepsRecalculated (disk_format key i.sectors image.format)) (g.D.Disk.moments mid) (g.D.Disk.moments end)) there (c.change_to_journal.ensures.moments.keeps key));
      writes = journal_change_made image.format old.sectors judged.format.accepted.geometry leaves.writes c.in_ok-tags.ensures.written (g.met.D.Disk.reads_an_image mid) c.change_to_journal.ensures.moments.writes;
    }

pub returns-clause-kept : goal.returns-clause-kept
returns-clause-kept g c =
    let image = c.args.image in
    let key = image.maker.key in
    let old = g.D.Disk.identity c.args.disk.now in
    let a = g.D.Disk.moments c.args.disk.now in
    let mid = c.recalculate_marked.new.disk in
    let end = c.change_to_journal.new.disk in
    let there : g.D.Disk.identity mid ≡ old = c.recalculate_marked.ensures.identity in
    let judged = c.requires.judged in
    let then_ : g.D.Disk.identity end ≡ old = c.change_to_journal.ensures.identity ∙ there in
    let done = c.in_ok-tags.ensures in
    let tags = c.in_ok-tags.tags in
    let empty = c.change_to_journal.new.scratch in
    let accepted = judged.format.accepted in
    let after = unmarked_format old.sectors image.format c.requires.fits judged.format in
    let whole_mid : ReadsWhole old (g.D.Disk.moments mid) = subst (λ (i : DiskIdentity). ReadsWhole i (g.D.Disk.moments mid)) there (reads_whole (g.D.Disk.identity mid) (g.D.Disk.moments mid) (g.met.D.Disk.reads_an_image mid) (g.met.D.Disk.whole_sectors mid)) in
    let whole_end : ReadsWhole old (g.D.Disk.moments end) = subst (λ (i : DiskIdentity). ReadsWhole i (g.D.Disk.moments end)) then_ (reads_whole (g.D.Disk.identity end) (g.D.Disk.moments end) (g.met.D.Disk.reads_an_image end) (g.met.D.Disk.whole_sectors end)) in
    let store_mid : IsStore tags old (g.D.Disk.moments mid) = subst (λ (i : DiskIdentity). IsStore tags i (g.D.Disk.moments mid)) there done.store in
    let some : 0 < old.sectors = some_disk image.format.geometry old.sectors accepted.geometry in
    let size : length empty ≡ 512 * journal_sectors image.format.geometry = c.change_to_journal.ensures.scratch ∙ ap length c.bytes_mut.ensures.bytes ∙ c.requires.pool in
    record {
      store = subst (λ (i : DiskIdentity). IsStore tags i (g.D.Disk.moments end)) (sym then_)
          (store_stays image.format empty size after.fits old tags (g.D.Disk.moments mid) (g.D.Disk.moments end) store_mid done.places done.unmarked after.replaces some whole_mid whole_end c.in_ok-change_to_journal.ensures.written);
      geometry = done.places;
      maker = refl;
      at = refl;
    }

pub returns-clause-made : goal.returns-clause-made
returns-clause-made g c start told last told_last =
    let image = c.args.image in
    let key = image.maker.key in
    let old = g.D.Disk.identity c.args.disk.now in
    let a = g.D.Disk.moments c.args.disk.now in
    let mid = c.recalculate_marked.new.disk in
    let end = c.change_to_journal.new.disk in
    let there : g.D.Disk.identity mid ≡ old = c.recalculate_marked.ensures.identity in
    let judged = c.requires.judged in
    let then_ : g.D.Disk.identity end ≡ old = c.change_to_journal.ensures.identity ∙ there in
    let done = c.in_ok-tags.ensures in
    let tags = c.in_ok-tags.tags in
    let empty = c.change_to_journal.new.scratch in
    let accepted = judged.format.accepted in
    let after = unmarked_format old.sectors image.format c.requires.fits judged.format in
    let whole_mid : ReadsWhole old (g.D.Disk.moments mid) = subst (λ (i : DiskIdentity). ReadsWhole i (g.D.Disk.moments mid)) there (reads_whole (g.D.Disk.identity mid) (g.D.Disk.moments mid) (g.met.D.Disk.reads_an_image mid) (g.met.D.Disk.whole_sectors mid)) in
    let whole_end : ReadsWhole old (g.D.Disk.moments end) = subst (λ (i : DiskIdentity). ReadsWhole i (g.D.Disk.moments end)) then_ (reads_whole (g.D.Disk.identity end) (g.D.Disk.moments end) (g.met.D.Disk.reads_an_image end) (g.met.D.Disk.whole_sectors end)) in
    let store_mid : IsStore tags old (g.D.Disk.moments mid) = subst (λ (i : DiskIdentity). IsStore tags i (g.D.Disk.moments mid)) there done.store in
    let some : 0 < old.sectors = some_disk image.format.geometry old.sectors accepted.geometry in
    let size : length empty ≡ 512 * journal_sectors image.format.geometry = c.change_to_journal.ensures.scratch ∙ ap length c.bytes_mut.ensures.bytes ∙ c.requires.pool in
    let middle = now_told c.recalculate_marked.ensures.leaves.writes start told in
    let on = done.recalculated start told middle.0 middle.1 in
    let entry = last_image start in
    let is : IsEntry (disk_format key old.sectors image.format) entry = record { opens = opens_judged old image a judged start told; fits = c.requires.fits } in
    let becomes = subst (λ (i : DiskIdentity). OpensJournal key i.sectors image.format empty (g.D.Disk.moments mid) (g.D.Disk.moments end)) there (c.in_ok-change_to_journal.ensures.opened key) in
    let placed = tags_placed image.format empty size after.fits old tags (g.D.Disk.moments mid) (g.D.Disk.moments end) store_mid done.places done.unmarked after.replaces some whole_mid whole_end c.in_ok-change_to_journal.ensures.written last told_last in
    let made = becomes middle.0 middle.1 last told_last entry on.disk (given_tags tags middle.0) (given_tags tags last) is on.is placed in
    journal_made (bitmap_judged old.sectors image) entry _ tags image.maker last refl made
