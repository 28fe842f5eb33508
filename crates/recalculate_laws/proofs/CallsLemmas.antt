-- The calls that move the position of a disk in journal mode.
use Rattle.std.proofs.Common.{◌≡◌, ◌⊎◌, inl, inr, ℕ, ◌<◌, Bool, sym, ◌∙◌, ap, subst, Ok, List, [], length, slice_index, arith}
use Rattle.disk_model.specs.Disk.{AddsSome, Content, EachImage, HasNothingPending, IsImage, IsOfRun, OnlyAdds, last_image, newest_only, with_run}
use Rattle.disk_model.specs.Moments.{content_now}
use Rattle.disk_model.proofs.DiskLemmas.{AddsSome-adds, IsOfRun-one, OnlyAdds-none, OnlyAdds-wider, newest_only-last, newest_only-pending}
use Rattle.disk_model.proofs.MomentsLemmas.{EachMoment-then, EachMoment-weaker}
use Rattle.image_model.specs.Geometry.{Geometry}
use Rattle.image_model.specs.Superblock.{Superblock, superblock_of}
use Rattle.place_model.specs.Tags.{IsOfTags, ReadsTags}
use Rattle.journal_model.specs.JournaledDisk.{IsCutOf, IsFormed, JournaledDisk, StandsFor}
use Rattle.journal_model.specs.Steps.{after_settle}
use Rattle.journal_model.proofs.CutOfLemmas.{cut_of_standing}
use Rattle.journal_model.proofs.StepLemmas.{tags_written_law}
use Rattle.direct_laws.proofs.CallLemmas.{came_from, each_from}
use Rattle.bitmap_laws.proofs.CallLemmas.{end_from, start_told}
use Rattle.recalculate_laws.specs.Calls.{BackLaw, BackThroughLaw, HeadLaw, HeadMovedLaw, HeadSyncThroughLaw, HeadThroughLaw, PositionMovedLaw, SettledLaw, SyncLaw, SyncThroughLaw, TakeThroughLaw, moved_disk}
use Rattle.recalculate_laws.specs.JournalDisk.{IsMoved, with_fields}
use Rattle.recalculate_laws.specs.Position.{HasPosition, MovesPosition, moved_fields}
use Rattle.recalculate_laws.specs.Recalculating.{KeepsAwaiting}
use Rattle.change_model.specs.Fields.{with_head}
use Rattle.recalculate_laws.proofs.PositionLemmas.{moved_head, position_law}
use Rattle.recalculate_laws.proofs.RecalculatingLemmas.{awaiting_back, awaiting_settled, awaiting_synced, position_moved, position_moving}
use Rattle.recalculate_laws.proofs.StepLemmas.{moved_of, whole_head}
use Rattle.recalculate_laws.proofs.TakingLemmas.{awaiting_given, taking_law}

-- ---- tags

-- Each image of a disk that stands for this is a cut of it.
abbrev pub IsCut : JournaledDisk → Superblock → Content → Type 0
IsCut d fields c = EachImage (λ image. IsCutOf d [] image ⊎ IsCutOf (with_fields d fields) [] image) c

pub cut_before : (d : JournaledDisk) (fields : Superblock) (c : Content) → StandsFor d c → IsCut d fields c
cut_before d fields c stands image is = inl (cut_of_standing d c stands image is)

pub take_through_law : TakeThroughLaw
take_through_law d fields region awaiting tags a b keeps adds =
    EachMoment-weaker (λ c both image is. inl (both.1 image is)) (taking_law d region awaiting tags a b keeps adds)

abbrev BackAdds : Geometry → (Content → ℕ → List ℕ) → Content → Content → Type 0
BackAdds g tags start = OnlyAdds (IsOfTags g (tags start) (tags start)) start

pub back_through_law : BackThroughLaw
back_through_law d fields awaiting tags a b keeps adds =
    each_from (BackAdds d.geometry tags) _ (λ start told c more.
    let kept = (keeps start told).keeps in
    let low_settled = kept.stands.sound.formed.settled_low in
    cut_before d fields c (tags_written_law d d.placed d.placed (tags start) (tags start) start c kept.stands low_settled (omega arith) low_settled (omega arith) kept.tags_are kept.tags_are more)) adds

pub back_law : BackLaw
back_law d awaiting tags now a b keeps back c told =
    let P = BackAdds d.geometry tags in
    let start = start_told P c back.adds told in
    let adds = end_from P (λ x. OnlyAdds-none (IsOfTags d.geometry (tags x) (tags x)) x) back.adds start.0 c start.1 told in
    awaiting_given d awaiting (tags start.0) (now c) c (back.gives start.0 start.1 c told)
    (awaiting_back d awaiting (tags start.0) start.0 c (keeps start.0 start.1) adds (back.others start.0 start.1 c told))

-- ---- a sync

pub sync_through_law : SyncThroughLaw
sync_through_law d fields awaiting tags a b keeps image m =
    each_from (λ start c. c ≡ newest_only start) _ (λ start told c is.
    let now = awaiting_synced d awaiting (tags start) start (keeps start told) (image start told) in
    subst (IsCut d fields) (sym is) (cut_before d fields (newest_only start) now.keeps.stands)) m

-- Tags that reads give are given still.
pub reads_given : (g : Geometry) (tags now : ℕ → List ℕ) (c : Content) → ((b : ℕ) → b < g.blocks → now b ≡ tags b) → ReadsTags g tags c → ReadsTags g now c
reads_given g tags now c same reads = record {
  each = λ b i low i_low. reads.each b i low i_low ∙ ap (λ (tag : List ℕ). slice_index tag i) (sym (same b low));
}

pub sync_law : SyncLaw
sync_law d awaiting tags now a b keeps reads syncs = (
  λ c told.
      let first = came_from (content_now a) newest_only c (sym syncs.synced ∙ told) in
      let start = first.0 in
      awaiting_given d awaiting (tags start) (now c) c (syncs.gives start first.1 c told)
      (subst (KeepsAwaiting d awaiting (tags start)) first.2 (awaiting_synced d awaiting (tags start) start (keeps start first.1) (syncs.image start first.1))),
  record {
    image = λ c told.
        let first = came_from (content_now a) newest_only c (sym syncs.synced ∙ told) in
        subst (λ (x : Content). IsImage x (last_image x)) first.2 (newest_only-last first.0);
    none = λ c told.
        let first = came_from (content_now a) newest_only c (sym syncs.synced ∙ told) in
        subst HasNothingPending first.2 (newest_only-pending first.0);
    back = λ c told.
        let first = came_from (content_now a) newest_only c (sym syncs.synced ∙ told) in
        let start = first.0 in
        let read = reads start first.1 in
        reads_given d.geometry (tags start) (now c) c (syncs.gives start first.1 c told)
        (subst (ReadsTags d.geometry (tags start)) first.2 (record { each = read.each }));
  },
)

-- ---- sector 0

module _ (d : JournaledDisk) (awaiting : ℕ → Bool) (tags : ℕ → List ℕ) (head : List ℕ) (start : Content) (keeps : KeepsAwaiting d awaiting tags start)
    (image : IsImage start (last_image start)) (none : HasNothingPending start) (back : ReadsTags d.geometry tags start) (position : HasPosition d.superblock)
    (is_head : head ≡ with_head (moved_fields d.superblock d.geometry awaiting) (last_image start 0)) where
  abbrev written_fields : Superblock
  written_fields = moved_fields d.superblock d.geometry awaiting

  formed : IsFormed d
  formed = keeps.keeps.stands.sound.formed

  moves : MovesPosition d.superblock d.geometry d.sectors awaiting written_fields
  moves = position_law d.superblock d.geometry d.sectors awaiting position formed.has_geometry formed.no_bitmap

  moved : IsMoved d written_fields
  moved = moved_of d awaiting written_fields moves

  tells : (length head ≡ 512) × (superblock_of head ≡ Ok written_fields)
  tells =
      let told = moved_head d.superblock d.geometry d.sectors awaiting (last_image start 0) position formed.has_geometry formed.no_bitmap (whole_head d start keeps.keeps.stands image) in
      subst (λ (x : List ℕ). (length x ≡ 512) × (superblock_of x ≡ Ok written_fields)) (sym is_head) (told.0, told.1)

  while_written : (c : Content) → AddsSome 0 head start c → IsCut d written_fields c
  while_written c some =
      let size = tells.0 in
      position_moving d written_fields awaiting tags head start c keeps none back moved moves.passes tells.0 tells.1
      (OnlyAdds-wider (IsOfRun 0 head) (λ sector x. (sector ≡ 0) × (x ≡ head)) (λ s x of. IsOfRun-one 0 head s x size of) start c (AddsSome-adds 0 head start c some))

  once_synced : KeepsAwaiting (with_fields d written_fields) awaiting tags (newest_only (with_run 0 head start))
  once_synced = position_moved d written_fields awaiting tags head start keeps image none back moved moves.passes tells.0 tells.1

pub head_through_law : HeadThroughLaw
head_through_law d awaiting tags head a b keeps settled position is_head m =
    each_from (AddsSome 0 head) _ (λ start told c some.
    while_written d awaiting (tags start) head start (keeps start told) (settled.image start told) (settled.none start told) (settled.back start told) position (is_head start told) c some) m

pub head_sync_through_law : HeadSyncThroughLaw
head_sync_through_law d awaiting tags head a m b keeps settled position is_head written more =
    each_from (λ mid c. c ≡ newest_only mid) _ (λ mid told c is.
    let first = came_from (content_now a) (with_run 0 head) mid (sym written ∙ told) in
    let start = first.0 in
    let fields = moved_fields d.superblock d.geometry awaiting in
    let now = once_synced d awaiting (tags start) head start (keeps start first.1) (settled.image start first.1) (settled.none start first.1) (settled.back start first.1) position (is_head start first.1) in
    let same : newest_only (with_run 0 head start) ≡ c = ap newest_only first.2 ∙ sym is in
    subst (IsCut d fields) same (λ image is_image. inr (cut_of_standing (with_fields d fields) (newest_only (with_run 0 head start)) now.keeps.stands image is_image))) more

pub head_law : HeadLaw
head_law d awaiting tags mid now head a m b keeps settled position is_head writes syncs c told =
    let second = came_from (content_now m) newest_only c (sym syncs.synced ∙ told) in
    let between = second.0 in
    let first = came_from (content_now a) (with_run 0 head) between (sym writes.written ∙ second.1) in
    let start = first.0 in
    let then_ = moved_disk d awaiting in
    let same : newest_only (with_run 0 head start) ≡ c = ap newest_only first.2 ∙ second.2 in
    awaiting_given then_ awaiting (tags start) (now c) c
    (λ b low. syncs.gives between second.1 c told b low ∙ writes.gives start first.1 between second.1 b low)
    (subst (KeepsAwaiting then_ awaiting (tags start)) same
    (once_synced d awaiting (tags start) head start (keeps start first.1) (settled.image start first.1) (settled.none start first.1) (settled.back start first.1) position (is_head start first.1)))

-- ---- calls in a row

pub settled_law : SettledLaw
settled_law d fields awaiting tags now a b keeps by =
    let kept = back_law d awaiting tags by.back a by.between keeps by.writes_back in
    let law = sync_law d awaiting by.back now by.between b kept by.reads_back by.syncs in (
      EachMoment-then (back_through_law d fields awaiting tags a by.between keeps by.writes_back.adds)
          (sync_through_law d fields awaiting by.back by.between b kept by.syncs.image by.syncs.adds),
      law.0,
      λ c told.
          let first = came_from (content_now by.between) newest_only c (sym by.syncs.synced ∙ told) in
          let start = first.0 in
          let then_ = after_settle d in
          awaiting_given then_ awaiting (by.back start) (now c) c (by.syncs.gives start first.1 c told)
          (subst (KeepsAwaiting then_ awaiting (by.back start)) first.2 (awaiting_settled d awaiting (by.back start) start (kept start first.1) (by.syncs.image start first.1) (by.reads_back start first.1))),
      law.1,
    )

pub head_moved_law : HeadMovedLaw
head_moved_law d awaiting tags now a b keeps settled position by = (
  EachMoment-then (head_through_law d awaiting tags by.head a by.between keeps settled position by.is_head by.writes.adds)
      (head_sync_through_law d awaiting tags by.head a by.between b keeps settled position by.is_head by.writes.written by.syncs.adds),
  head_law d awaiting tags by.written now by.head a by.between b keeps settled position by.is_head by.writes by.syncs,
)

pub position_moved_law : PositionMovedLaw
position_moved_law d awaiting tags now a b keeps position by =
    let fields = moved_fields d.superblock d.geometry awaiting in
    let first = settled_law d fields awaiting tags by.settled a by.between keeps by.settles in
    let then_ = head_moved_law d awaiting by.settled now by.between b first.1 first.3 position by.moves in
    (EachMoment-then first.0 then_.0, then_.1)
