use Rattle.std.proofs.Common.{◌≡◌, ℕ, sym, ◌∙◌, ap, subst, Some, length}
use Rattle.std.specs.Option.{option_map}
use Rattle.std.proofs.lemmas.Option.{same_Some}
use Rattle.disk_model.specs.Disk.{Content, EachImage, OnlyAdds, last_image, newest_only}
use Rattle.disk_model.specs.Identity.{DiskIdentity}
use Rattle.disk_model.specs.Moments.{content_now}
use Rattle.disk_model.proofs.MomentsLemmas.{no_moment}
use Rattle.image_model.specs.Cells.{replayed_entries}
use Rattle.buffer_cache.specs.declared.held.HeldSectors.{HeldSectors}
use Rattle.buffer_cache.specs.HeldSectors.{no_sectors}
use Rattle.buffer_cache.proofs.CachedLemmas.{changed_now, told_at_end}
use Rattle.journal_reading.specs.Journal.{IsJournalOn}
use Rattle.place_model.specs.Format.{HasCells, cells_on}
use Rattle.replay.specs.Emptied.{KeepsResting}
use Rattle.replay.specs.Recovery.{EntersRecovery}
use Rattle.place_model.specs.RecoveryWrites.{IsOfRecovery}
use Rattle.tag_store.specs.Store.{IsStore, Store, given_tags}
use Rattle.tag_store.proofs.StoreLawsLemmas.{fresh_law}
use Rattle.image_resizing.specs.declared.room.TheConstants.{HELD_SECTORS}
use Rattle.image_resizing.specs.Plan.{present_format}
use Rattle.image_resizing.proofs.SettledLemmas.{behind_sync, enters, recovered_settled, rests_still}
use Rattle.std.proofs.lemmas.Bool.{true≢false}
use Rattle.disk_model.proofs.DiskLemmas.{OnlyAdds-none}
use Rattle.disk_model.proofs.MomentsLemmas.{EachMoment-then}
use Rattle.image_resizing.proofs.WritingLemmas.{since_told, sync_recovers}
use Rattle.image_resizing.proofs.recovering.recover_image.Goals as goal

pub recover-requires-clause-journal : goal.recover-requires-clause-journal
recover-requires-clause-journal g c x told =
    let first = changed_now newest_only (content_now (g.D.Disk.moments c.args.disk.now)) (content_now (g.D.Disk.moments c.sync.new.self)) c.in_ok-sync.ensures.synced x told in
    subst (λ (y : Content). IsJournalOn c.args.plan.now.present.geometry (last_image y) c.args.journal.now) (sym first.2) (c.requires.journal.on first.0 first.1)

pub recover-requires-clause-replaying : goal.recover-requires-clause-replaying
recover-requires-clause-replaying g c =
    let plan = c.args.plan.now in
    let fresh : c.new-tags.result ≡ (let s : Store = record { geometry = plan.present.geometry; sectors = no_sectors HELD_SECTORS } in s) =
    c.new-tags.ensures ∙ ap (λ (held : HeldSectors). let s : Store = record { geometry = plan.present.geometry; sectors = held } in s) c.requires.room.cache in
    record {
      scratch = record {
        geometry = sym (ap (λ (s : Store). s.geometry) c.new-tags.ensures);
        size = ap length c.whole.ensures.bytes ∙ c.requires.room.region;
        store_is = subst (λ (i : DiskIdentity). IsStore c.new-tags.result i (g.D.Disk.moments c.sync.new.self)) (sym c.sync.ensures.identity)
            (subst (λ (s : Store). IsStore s (g.D.Disk.identity c.args.disk.now) (g.D.Disk.moments c.sync.new.self)) (sym fresh) (fresh_law plan.present.geometry (g.D.Disk.identity c.args.disk.now) (g.D.Disk.moments c.sync.new.self) HELD_SECTORS c.requires.bound c.requires.plan.present.geometry).0);
      };
      fits = c.requires.journal.fits;
    }

pub returns-in_err-sync-clause-moments : goal.returns-in_err-sync-clause-moments
returns-in_err-sync-clause-moments g c = record { synced = (g.D.Disk.moments c.sync.new.self); earlier = c.sync.ensures.moments; later = no_moment (g.D.Disk.moments c.sync.new.self) _ }

pub returns-in_err-recover-clause-moments : goal.returns-in_err-recover-clause-moments
returns-in_err-recover-clause-moments g c =
    let plan = c.args.plan.now in
    let fresh : c.new-tags.result ≡ (let s : Store = record { geometry = plan.present.geometry; sectors = no_sectors HELD_SECTORS } in s) =
    c.new-tags.ensures ∙ ap (λ (held : HeldSectors). let s : Store = record { geometry = plan.present.geometry; sectors = held } in s) c.requires.room.cache in
    let sectors = (g.D.Disk.identity c.args.disk.now).sectors in
    let f = present_format sectors plan in
    let same = ap (λ (d : DiskIdentity). d.sectors) c.sync.ensures.identity in
    let told_mid : (start : Content) → content_now (g.D.Disk.moments c.args.disk.now) ≡ Some start → content_now (g.D.Disk.moments c.sync.new.self) ≡ Some (newest_only start) = λ start told. c.in_ok-sync.ensures.synced ∙ ap (option_map newest_only) told in
    let enters_ : (start : Content) → content_now (g.D.Disk.moments c.args.disk.now) ≡ Some start → EntersRecovery f (g.D.Disk.identity c.sync.new.self).sectors c.new-tags.result (newest_only start) = λ start told.
    subst (λ (n : ℕ). EntersRecovery f n c.new-tags.result (newest_only start)) (sym same) (enters sectors plan c.requires.plan start (c.requires.opens start told) c.requires.no_bitmap c.new-tags.result HELD_SECTORS fresh) in
    record {
      synced = (g.D.Disk.moments c.sync.new.self);
      earlier = c.sync.ensures.moments;
      later = behind_sync (g.D.Disk.moments c.args.disk.now) (g.D.Disk.moments c.sync.new.self) (g.D.Disk.moments c.recover.new.disk) (λ start. EachImage (HasCells f (cells_on f (last_image start)))) (λ start. OnlyAdds (IsOfRecovery plan.present.geometry (replayed_entries plan.present.geometry (last_image start))) start)
          c.in_ok-sync.ensures.synced c.recover.ensures.moments (λ start told. c.recover.ensures.cuts f (newest_only start) (told_mid start told) (enters_ start told));
    }

pub returns-clause-moments : goal.returns-clause-moments
returns-clause-moments g c =
    let plan = c.args.plan.now in
    let fresh : c.new-tags.result ≡ (let s : Store = record { geometry = plan.present.geometry; sectors = no_sectors HELD_SECTORS } in s) =
    c.new-tags.ensures ∙ ap (λ (held : HeldSectors). let s : Store = record { geometry = plan.present.geometry; sectors = held } in s) c.requires.room.cache in
    let sectors = (g.D.Disk.identity c.args.disk.now).sectors in
    let f = present_format sectors plan in
    let same = ap (λ (d : DiskIdentity). d.sectors) c.sync.ensures.identity in
    let told_mid : (start : Content) → content_now (g.D.Disk.moments c.args.disk.now) ≡ Some start → content_now (g.D.Disk.moments c.sync.new.self) ≡ Some (newest_only start) = λ start told. c.in_ok-sync.ensures.synced ∙ ap (option_map newest_only) told in
    let enters_ : (start : Content) → content_now (g.D.Disk.moments c.args.disk.now) ≡ Some start → EntersRecovery f (g.D.Disk.identity c.sync.new.self).sectors c.new-tags.result (newest_only start) = λ start told.
    subst (λ (n : ℕ). EntersRecovery f n c.new-tags.result (newest_only start)) (sym same) (enters sectors plan c.requires.plan start (c.requires.opens start told) c.requires.no_bitmap c.new-tags.result HELD_SECTORS fresh) in
    record {
      synced = (g.D.Disk.moments c.sync.new.self);
      earlier = c.sync.ensures.moments;
      later = behind_sync (g.D.Disk.moments c.args.disk.now) (g.D.Disk.moments c.sync.new.self) (g.D.Disk.moments c.recover.new.disk) (λ start. EachImage (HasCells f (cells_on f (last_image start)))) (λ start. OnlyAdds (IsOfRecovery plan.present.geometry (replayed_entries plan.present.geometry (last_image start))) start)
          c.in_ok-sync.ensures.synced c.recover.ensures.moments (λ start told. c.recover.ensures.cuts f (newest_only start) (told_mid start told) (enters_ start told));
    }

pub returns-clause-settled : goal.returns-clause-settled
returns-clause-settled g c start told x told_x =
    let plan = c.args.plan.now in
    let fresh : c.new-tags.result ≡ (let s : Store = record { geometry = plan.present.geometry; sectors = no_sectors HELD_SECTORS } in s) =
    c.new-tags.ensures ∙ ap (λ (held : HeldSectors). let s : Store = record { geometry = plan.present.geometry; sectors = held } in s) c.requires.room.cache in
    let sectors = (g.D.Disk.identity c.args.disk.now).sectors in
    let f = present_format sectors plan in
    let same = ap (λ (d : DiskIdentity). d.sectors) c.sync.ensures.identity in
    let told_mid : (start : Content) → content_now (g.D.Disk.moments c.args.disk.now) ≡ Some start → content_now (g.D.Disk.moments c.sync.new.self) ≡ Some (newest_only start) = λ start told. c.in_ok-sync.ensures.synced ∙ ap (option_map newest_only) told in
    let enters_ : (start : Content) → content_now (g.D.Disk.moments c.args.disk.now) ≡ Some start → EntersRecovery f (g.D.Disk.identity c.sync.new.self).sectors c.new-tags.result (newest_only start) = λ start told.
    subst (λ (n : ℕ). EntersRecovery f n c.new-tags.result (newest_only start)) (sym same) (enters sectors plan c.requires.plan start (c.requires.opens start told) c.requires.no_bitmap c.new-tags.result HELD_SECTORS fresh) in
    let at = c.in_ok-recover.field-0 in
    let rest = (told_at_end (λ s y. KeepsResting plan.present.geometry s s y) (rests_still plan.present.geometry) c.recover.ensures.rest).each x told_x in
    let keeps = subst (λ (s : Content). KeepsResting plan.present.geometry s s x) (same_Some rest.0 (newest_only start) (sym rest.1 ∙ told_mid start told)) rest.2 in
    let W = λ (y : Content). IsOfRecovery plan.present.geometry (replayed_entries plan.present.geometry (last_image y)) in
    let end = (told_at_end (λ y. OnlyAdds (W y) y) (λ y. OnlyAdds-none (W y) y) c.recover.ensures.moments).each x told_x in
    record {
      from = recovered_settled sectors plan c.requires.plan start (c.requires.opens start told) c.requires.no_bitmap at (given_tags c.recover.new.tags x) x
          (c.in_ok-recover.ensures.left f (newest_only start) (told_mid start told) (enters_ start told) x told_x) keeps (g.met.D.Disk.reads_an_image c.recover.new.disk x told_x);
      synced = λ set. absurd (true≢false (sym set ∙ c.requires.no_bitmap));
      recovered = λ clear. subst (λ (y : Content). OnlyAdds (W y) y x) (same_Some end.0 (newest_only start) (sym end.1 ∙ told_mid start told)) end.2;
    }

pub returns-in_err-sync-clause-writes : goal.returns-in_err-sync-clause-writes
returns-in_err-sync-clause-writes g c start told = sync_recovers c.args.plan.now.present.geometry (g.D.Disk.moments c.args.disk.now) (g.D.Disk.moments c.sync.new.self) start told c.sync.ensures.moments

pub returns-in_err-recover-clause-writes : goal.returns-in_err-recover-clause-writes
returns-in_err-recover-clause-writes g c start told =
    let told_mid : content_now (g.D.Disk.moments c.sync.new.self) ≡ Some (newest_only start) = c.in_ok-sync.ensures.synced ∙ ap (option_map newest_only) told in
    let G = c.args.plan.now.present.geometry in
    EachMoment-then (sync_recovers G (g.D.Disk.moments c.args.disk.now) (g.D.Disk.moments c.sync.new.self) start told c.sync.ensures.moments)
    (since_told (g.D.Disk.moments c.sync.new.self) (g.D.Disk.moments c.recover.new.disk) (λ s. OnlyAdds (IsOfRecovery G (replayed_entries G (last_image s))) s) (newest_only start) told_mid c.recover.ensures.moments)

pub returns-clause-writes : goal.returns-clause-writes
returns-clause-writes g c start told =
    let told_mid : content_now (g.D.Disk.moments c.sync.new.self) ≡ Some (newest_only start) = c.in_ok-sync.ensures.synced ∙ ap (option_map newest_only) told in
    let G = c.args.plan.now.present.geometry in
    EachMoment-then (sync_recovers G (g.D.Disk.moments c.args.disk.now) (g.D.Disk.moments c.sync.new.self) start told c.sync.ensures.moments)
    (since_told (g.D.Disk.moments c.sync.new.self) (g.D.Disk.moments c.recover.new.disk) (λ s. OnlyAdds (IsOfRecovery G (replayed_entries G (last_image s))) s) (newest_only start) told_mid c.recover.ensures.moments)
