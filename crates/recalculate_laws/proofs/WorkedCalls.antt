-- The calls of a step and of a close on the disk whose second region is to be recalculated, in both modes, once the flag that says
-- so is one of the known ones. So no law of calls speaks of nothing.
use Rattle.std.proofs.Common.{◌≡◌, ℕ, Bool, refl, sym, ◌∙◌, ap, subst, arith, Ok, Some, List, [], ◌∷◌, ◌<◌, length}
use Rattle.std.proofs.lemmas.Option.{same_Some}
use Rattle.disk_model.specs.Disk.{Content, EachImage, IsImage, last_image, newest_only, with_run}
use Rattle.disk_model.proofs.DiskLemmas.{AddsSome-all, newest_only-last}
use Rattle.disk_model.proofs.MomentsLemmas.{no_moment}
use Rattle.image_model.specs.Cells.{last_entry, placed_cells_of}
use Rattle.image_model.specs.Section.{Entry}
use Rattle.image_model.specs.Superblock.{superblock_of}
use Rattle.device_model.specs.History.{cells_now}
use Rattle.device_model.specs.Mode.{Direct, Journal}
use Rattle.device_model.specs.Progress.{FailedStep, Recalc, Step}
use Rattle.device_model.proofs.HistoryLemmas.{Any-nil, IsOfBlock}
use Rattle.place_model.specs.Format.{format_on, placed_on}
use Rattle.place_model.specs.Opened.{awaiting_on, blocks_of, device_format, opened_on}
use Rattle.place_model.specs.Tags.{ReadsTags}
use Rattle.place_model.proofs.FormatLemmas.{format_on-is}
use Rattle.journal_model.specs.Ring.{empty_ring}
use Rattle.direct_model.specs.Opening
use Rattle.direct_model.specs.Steps.{after_flush}
use Rattle.direct_laws.specs.CallLaws.{KeepsNow}
use Rattle.direct_laws.specs.ReadLaws.{KeepsCells}
use Rattle.direct_laws.specs.ServeLaws as Directly
use Rattle.bitmap_laws.proofs.CallLemmas.{run_image}
use Rattle.change_model.specs.Fields.{with_head}
use Rattle.recalculate_laws.specs.Calls.{MovesHeadBy, MovesPositionBy, SettlesBy, moved_disk}
use Rattle.recalculate_laws.specs.JournalEvents.{EntersStep, KeepsDevice}
use Rattle.recalculate_laws.specs.DirectCalls as DirectCalls
use Rattle.recalculate_laws.specs.Formats.{AwaitsWork}
use Rattle.recalculate_laws.specs.Moments.{awaiting_then, tags_then}
use Rattle.recalculate_laws.specs.Position.{moved_fields}
use Rattle.recalculate_laws.specs.Recalculating.{KeepsAwaiting}
use Rattle.recalculate_laws.specs.Taking.{KeepsAwaitingNow, TakesRegion}
use Rattle.recalculate_laws.proofs.CallsLemmas.{settled_law}
use Rattle.recalculate_laws.proofs.JournalEventsLemmas.{close_calls_law, closed_cells_law, failed_step_law, step_calls_law}
use Rattle.recalculate_laws.proofs.DirectCallsLemmas.{direct_close_calls_law, direct_step_calls_law}
use Rattle.recalculate_laws.proofs.FormatsLemmas.{work_opened_law}
use Rattle.recalculate_laws.proofs.OwnTagsLemmas.{direct_tag_stays_law, tag_stays_law}
use Rattle.recalculate_laws.proofs.WorkedDevice.{EntersDirect-image, EntersRecalc-image, HasRegionTags-image, ReadsTags-image, at_start, content, fields, format, head, image, journaled, opens, position, replayed_entries-image, tags}

-- Each region that awaits has a block to be recalculated.
pub AwaitsWork-image : AwaitsWork format (awaiting_on Journal format image) × AwaitsWork format (awaiting_on Direct format image)
AwaitsWork-image = work_opened_law format image refl

-- ---- the calls

abbrev waits : ℕ → Bool
waits = awaiting_then 1 (awaiting_on Journal format image)

abbrev new_head : List ℕ
new_head = with_head (moved_fields fields format.geometry waits) head

-- The moments: all tags are in place already, so none is written; then all is synced, and sector 0 is written and synced.
abbrev start : List Content
start = content ∷ []

abbrev synced : List Content
synced = newest_only content ∷ start

abbrev written : List Content
written = with_run 0 new_head (newest_only content) ∷ synced

abbrev ended : List Content
ended = newest_only (with_run 0 new_head (newest_only content)) ∷ written

abbrev told_tags : Content → ℕ → List ℕ
told_tags c = tags

abbrev made_tags : Content → ℕ → List ℕ
made_tags c = tags_then format 1 content tags

-- A content that is told at the start is the one there.
here : (c : Content) → Some content ≡ Some c → content ≡ c
here c told = same_Some content c told

TakesRegion-second : TakesRegion format 1 told_tags made_tags start start
TakesRegion-second = record {
  image = λ c told. subst (λ (x : Content). IsImage x (last_image x)) (here c told) (newest_only-last content);
  adds = no_moment start _;
  others = λ s told c told_c. record { each = λ sector off. ap (λ (x : Content). last_image x sector) (sym (here c told_c) ∙ here s told) };
  gives = λ s told c told_c b low. ap (λ (x : Content). tags_then format 1 x tags b) (here s told);
}

module _ (known : superblock_of head ≡ Ok fields) where
  SettlesBy-second : SettlesBy format.geometry made_tags made_tags start synced
  SettlesBy-second = record {
    back = made_tags;
    between = start;
    writes_back = record {
      adds = no_moment start _;
      others = λ s told c told_c. record { each = λ sector off. ap (λ (x : Content). last_image x sector) (sym (here c told_c) ∙ here s told) };
      gives = λ s told c told_c b low. refl;
    };
    reads_back = λ c told.
        let back = (HasRegionTags-image known 1 content refl (newest_only-last content)).back in
        subst (λ (x : Content). ReadsTags format.geometry (tags_then format 1 content tags) x) (here c told) back;
    syncs = record {
      image = λ c told. subst (λ (x : Content). IsImage x (last_image x)) (here c told) (newest_only-last content);
      synced = refl;
      adds = record { since = newest_only content ∷ []; grows = refl; each = (refl, tt) };
      gives = λ s told c told_c b low. refl;
    };
  }

  MovesHeadBy-second : MovesHeadBy format waits made_tags made_tags synced ended
  MovesHeadBy-second = record {
    head = new_head;
    written = made_tags;
    between = written;
    is_head = λ c told. ap (λ (x : Content). with_head (moved_fields fields format.geometry waits) (last_image x 0)) (same_Some (newest_only content) c told);
    writes = record {
      written = refl;
      adds = record { since = with_run 0 new_head (newest_only content) ∷ []; grows = refl; each = (AddsSome-all 0 new_head (newest_only content), tt) };
      gives = λ s told c told_c b low. refl;
    };
    syncs = record {
      image = λ c told. subst (λ (x : Content). IsImage x (last_image x)) (same_Some (with_run 0 new_head (newest_only content)) c told) (run_image 0 new_head (newest_only content) (newest_only-last content));
      synced = refl;
      adds = record { since = newest_only (with_run 0 new_head (newest_only content)) ∷ []; grows = refl; each = (refl, tt) };
      gives = λ s told c told_c b low. refl;
    };
  }

  MovesPositionBy-second : MovesPositionBy format waits made_tags made_tags start ended
  MovesPositionBy-second = record { settled = made_tags; between = synced; settles = SettlesBy-second; moves = MovesHeadBy-second }

  -- ---- in journal mode

  EntersStep-journal : EntersStep (device_format Journal format) (at_start known) (journaled known) (empty_ring format.geometry 0 1) 1 told_tags image start
  EntersStep-journal =
      let enters = EntersRecalc-image known in
      record {
        device = enters.device;
        works = enters.works;
        least = enters.least;
        keeps = λ c told. subst (KeepsAwaiting (journaled known) (awaiting_on Journal format image) tags) (here c told) enters.keeps;
        position = position known;
        opened = ap blocks_of (sym (format_on-is format image (opens known)));
      }

  -- A step keeps the device, with the moved position,
  pub kept-journal : KeepsDevice (device_format Journal format) (at_start known) (Step Recalc) image (journaled known) (moved_disk (journaled known) waits) (empty_ring format.geometry 0 1) start ended
      × KeepsAwaitingNow (moved_disk (journaled known) waits) waits made_tags ended
  kept-journal = step_calls_law (device_format Journal format) (at_start known) (journaled known) (empty_ring format.geometry 0 1) 1 told_tags made_tags made_tags image start start ended
      EntersStep-journal TakesRegion-second MovesPositionBy-second

  -- So the tag of block 0, which does not await, is in its place as it was,
  pub stays-journal : EachImage (λ left. (placed_cells_of format.geometry left 0).tag ≡ ((journaled known).base 0).tag) content
  stays-journal = tag_stays_law (journaled known) content 0 (EntersRecalc-image known).keeps.keeps.stands (omega arith) refl (ap (λ (entries : List Entry). last_entry format.geometry entries 0) replayed_entries-image)

  -- and a close that has nothing to place keeps it too: its position stays, since the second region awaits.
  KeepsAwaitingNow-start : KeepsAwaitingNow (journaled known) (awaiting_on Journal format image) told_tags start
  KeepsAwaitingNow-start = EntersStep-journal.keeps

  abbrev closing_head : List ℕ
  closing_head = with_head (moved_fields fields format.geometry (awaiting_on Journal format image)) head

  abbrev closed : List Content
  closed =
      let written = with_run 0 (with_head (moved_fields fields format.geometry (awaiting_on Journal format image)) head) (newest_only content) in
      newest_only written ∷ written ∷ newest_only content ∷ content ∷ []

  SettlesBy-none : SettlesBy format.geometry told_tags told_tags start synced
  SettlesBy-none = record {
    back = told_tags;
    between = start;
    writes_back = record {
      adds = no_moment start _;
      others = λ s told c told_c. record { each = λ sector off. ap (λ (x : Content). last_image x sector) (sym (here c told_c) ∙ here s told) };
      gives = λ s told c told_c b low. refl;
    };
    reads_back = λ c told. subst (λ (x : Content). ReadsTags format.geometry tags x) (here c told) (ReadsTags-image known content refl);
    syncs = record {
      image = λ c told. subst (λ (x : Content). IsImage x (last_image x)) (here c told) (newest_only-last content);
      synced = refl;
      adds = record { since = newest_only content ∷ []; grows = refl; each = (refl, tt) };
      gives = λ s told c told_c b low. refl;
    };
  }

  MovesHeadBy-none : MovesHeadBy format (awaiting_on Journal format image) told_tags told_tags synced closed
  MovesHeadBy-none = record {
    head = closing_head;
    written = told_tags;
    between = with_run 0 closing_head (newest_only content) ∷ synced;
    is_head = λ c told. ap (λ (x : Content). with_head (moved_fields fields format.geometry (awaiting_on Journal format image)) (last_image x 0)) (same_Some (newest_only content) c told);
    writes = record {
      written = refl;
      adds = record { since = with_run 0 closing_head (newest_only content) ∷ []; grows = refl; each = (AddsSome-all 0 closing_head (newest_only content), tt) };
      gives = λ s told c told_c b low. refl;
    };
    syncs = record {
      image = λ c told. subst (λ (x : Content). IsImage x (last_image x)) (same_Some (with_run 0 closing_head (newest_only content)) c told) (run_image 0 closing_head (newest_only content) (newest_only-last content));
      synced = refl;
      adds = record { since = newest_only (with_run 0 closing_head (newest_only content)) ∷ []; grows = refl; each = (refl, tt) };
      gives = λ s told c told_c b low. refl;
    };
  }

  pub closed-journal : KeepsAwaitingNow (moved_disk (journaled known) (awaiting_on Journal format image)) (awaiting_on Journal format image) told_tags closed
  closed-journal =
      let settled = settled_law (journaled known) fields (awaiting_on Journal format image) told_tags told_tags start synced KeepsAwaitingNow-start SettlesBy-none in
      (close_calls_law (device_format Journal format) (at_start known) (at_start known).progress.journal (journaled known) (empty_ring format.geometry 0 1) (awaiting_on Journal format image) told_tags told_tags image synced closed
      refl refl EntersStep-journal.device refl EntersStep-journal.opened (position known) settled.1 settled.3 MovesHeadBy-none).1

  -- Each image of a disk whose entries are all settled has the cells that the history gives, by its own fields.
  pub cells-journal : EachImage (λ left. (b : ℕ) → b < format.geometry.blocks → placed_on (format_on format.key format.sectors left) left b ≡ cells_now (device_format Journal format).blocks.tag (at_start known).history b) content
  cells-journal = closed_cells_law (device_format Journal format) (at_start known).history (at_start known).progress.journal (journaled known) (empty_ring format.geometry 0 1) content
      EntersStep-journal.device refl refl (sym (ap length replayed_entries-image)) (EntersRecalc-image known).keeps.keeps.stands

  -- A step in which the disk fails at once keeps the device as well.
  pub failed-journal : KeepsDevice (device_format Journal format) (at_start known) (FailedStep Recalc) image (journaled known) (journaled known) (empty_ring format.geometry 0 1) start start
  failed-journal = failed_step_law (device_format Journal format) (at_start known) (journaled known) (empty_ring format.geometry 0 1) 1 told_tags image start start EntersStep-journal (no_moment start _)

  -- ---- in direct mode

  EntersStep-direct : DirectCalls.EntersStep (device_format Direct format) (opened_on Direct format image) (Opening.opened_disk format image) 1 told_tags image start
  EntersStep-direct =
      let enters = EntersDirect-image known in
      record {
        device = enters.device;
        works = enters.works;
        least = enters.least;
        formed = enters.keeps.stands.formed;
        keeps = λ c told. subst (KeepsCells (Opening.opened_disk format image) (awaiting_on Direct format image) tags) (here c told) enters.keeps;
        position = position known;
        opened = ap blocks_of (sym (format_on-is format image (opens known)));
      }

  pub closed-direct : KeepsNow (DirectCalls.moved_disk (after_flush (Opening.opened_disk format image)) (awaiting_on Direct format image)) (awaiting_on Direct format image) told_tags closed
  closed-direct = (direct_close_calls_law (device_format Direct format) (opened_on Direct format image) (Opening.opened_disk format image) (awaiting_on Direct format image) told_tags told_tags told_tags image start synced closed
      EntersStep-direct.device EntersStep-direct.formed refl EntersStep-direct.opened (position known) EntersStep-direct.keeps SettlesBy-none MovesHeadBy-none).1

  pub stays-direct : EachImage (λ left. (placed_cells_of format.geometry left 0).tag ≡ ((Opening.opened_disk format image).base 0).tag) content
  stays-direct = direct_tag_stays_law (Opening.opened_disk format image) content 0 (EntersDirect-image known).keeps.stands (omega arith) refl (λ any. Any-nil (IsOfBlock 0) any)

  pub kept-direct : Directly.KeepsDevice (device_format Direct format) (opened_on Direct format image) (Step Recalc) image (Opening.opened_disk format image)
      (DirectCalls.moved_disk (Opening.opened_disk format image) waits) start ended
  kept-direct = (direct_step_calls_law (device_format Direct format) (opened_on Direct format image) (Opening.opened_disk format image) 1 told_tags made_tags made_tags image start start ended
      EntersStep-direct TakesRegion-second MovesPositionBy-second).0
