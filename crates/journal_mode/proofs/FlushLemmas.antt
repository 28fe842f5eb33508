-- What commits in a row leave, until nothing is left to commit.
use Rattle.std.proofs.Common.{◌≡◌, ◌≢◌, ℕ, suc, refl, sym, ◌∙◌, ap, subst, arith, List, [], ◌∷◌, length}
use Rattle.std.specs.Prelude.{unwrap_or}
use Rattle.disk_model.specs.Disk.{Content, EachImage}
use Rattle.disk_model.specs.Moments.{EachMoment}
use Rattle.image_model.specs.Section.{Entry}
use Rattle.device_model.specs.History.{History}
use Rattle.device_model.specs.Journal.{JournalCounts, commit_all}
use Rattle.device_model.specs.RoomLaws.{commits}
use Rattle.journal_laws.specs.Device.{IsJournalOf}
use Rattle.journal_laws.proofs.StepLemmas.{commits_law, flush_law, flush_write_law}
use Rattle.journal_model.specs.JournaledDisk.{JournaledDisk}
use Rattle.journal_model.specs.Ring.{entries_of, next_batch, with_commit}
use Rattle.journal_model.specs.Steps.{after_commit}
use Rattle.journal_ring.specs.RoomLaws.{HasBounds}
use Rattle.journal_ring.specs.declared.ring.Moved.{Moved}
use Rattle.journal_ring.specs.declared.ring.Moved.TheVariants.{Did, Idle}
use Rattle.journal_ring.proofs.RoomLemmas.{room_again_law}
use Rattle.place_model.specs.Format.{DiskFormat}
use Rattle.place_model.specs.Left.{IsLeftInJournal}
use Rattle.tag_store.specs.Store.{Store}
use Rattle.journal_mode.specs.Commits.{CommitsAs, HasCommitted, HasFlushed, after_batch, after_batch_of, after_flush, after_one, with_disk}
use Rattle.journal_mode.specs.Journal.{PlacedRing}
use Rattle.journal_mode.specs.Standing.{IsLeftThrough, JournalStanding, StandsAs, TagsPlaced}
use Rattle.journal_mode.proofs.GivesLemmas.{tags_same, tags_then}

-- ---- the journal

batch_of_some : (journal : PlacedRing) (opened : List (List Entry)) → opened ≢ [] → after_batch journal ≡ after_batch_of opened journal
batch_of_some journal [] some = absurd (some refl)
batch_of_some journal (x ∷ opened) some = refl

pub one_is : {A : Type 0} (old new : PlacedRing) (moved : Moved) (first last : A) (before after : List Content) → HasCommitted moved old new first last before after → new ≡ after_one old
one_is old new Did first last before after has = has.journal ∙ batch_of_some old old.ring.opened has.some
one_is old new Idle first last before after has = has.journal ∙ ap (λ (xs : List (List Entry)). after_batch_of xs old) (sym has.none)

-- Two commits leave no section opened.
pub none_left : (journal : PlacedRing) → HasBounds journal.ring → (after_flush journal).ring.opened ≡ []
none_left journal bounds = by journal.ring.opened refl
  where
    twice : (with_commit (with_commit journal.ring)).opened ≡ []
    twice = (room_again_law journal.ring (length (entries_of (with_commit (with_commit journal.ring)).committed)) bounds (omega arith)).0

    again : (xs : List (List Entry)) → (after_batch journal).ring.opened ≡ xs → (after_one (after_batch journal)).ring.opened ≡ []
    again [] e = ap (λ (xs : List (List Entry)). (after_batch_of xs (after_batch journal)).ring.opened) e ∙ e
    again (x ∷ xs) e = ap (λ (xs : List (List Entry)). (after_batch_of xs (after_batch journal)).ring.opened) e ∙ twice

    by : (xs : List (List Entry)) → journal.ring.opened ≡ xs → (after_flush journal).ring.opened ≡ []
    by [] e =
        let same : after_one journal ≡ journal = ap (λ (xs : List (List Entry)). after_batch_of xs journal) e in
        ap (λ (j : PlacedRing). (after_one j).ring.opened) same ∙ ap (λ (j : PlacedRing). j.ring.opened) same ∙ e
    by (x ∷ xs) e =
        let same : after_one journal ≡ after_batch journal = ap (λ (xs : List (List Entry)). after_batch_of xs journal) e in
        ap (λ (j : PlacedRing). (after_one j).ring.opened) same ∙ again (after_batch journal).ring.opened refl

-- ---- the device

-- After so many commits the device stands for the same history, over a disk of the same format, with tags of what is
-- placed.
pub record HasCommits (w : JournalStanding) (journal : PlacedRing) (store : Store) (start moments : List Content) : Type 0 where
  pub count : ℕ
  pub disk : JournaledDisk
  pub format : disk.format ≡ w.disk.format
  pub stands : StandsAs (with_disk (commits w.format.sections count w.counts) disk w) journal store moments
  pub gives : TagsPlaced w.disk disk store store start moments

pub none_yet : (w : JournalStanding) (journal : PlacedRing) (store : Store) (moments : List Content) → StandsAs w journal store moments → HasCommits w journal store moments moments
none_yet w journal store moments stands = record { count = 0; disk = w.disk; format = refl; stands = stands; gives = tags_same w.disk store moments }

pub one_more : (w : JournalStanding) (old new : PlacedRing) (store : Store) (moved : Moved) (start before after : List Content) → (has : HasCommits w old store start before)
    → ((x : JournalStanding) → StandsAs x old store before → CommitsAs moved x old new store before after) → HasCommits w new store start after
one_more w old new store moved start before after has commits_ = by moved (commits_ (with_disk (commits w.format.sections has.count w.counts) has.disk w) has.stands)
  where
    by : (moved : Moved) → CommitsAs moved (with_disk (commits w.format.sections has.count w.counts) has.disk w) old new store before after → HasCommits w new store start after
    by Did batch = record {
      count = suc has.count;
      disk = after_commit has.disk (next_batch old.ring) batch.bytes;
      format = has.format;
      stands =
          subst (λ (j : JournalCounts). StandsAs (with_disk j (after_commit has.disk (next_batch old.ring) batch.bytes) w) new store after)
          (sym (ap (λ o. unwrap_or o (commits w.format.sections has.count w.counts)) batch.counts_are)) batch.stands;
      gives = tags_then w.disk has.disk (after_commit has.disk (next_batch old.ring) batch.bytes) store store store start before after has.format has.gives batch.gives;
    }
    by Idle none = record {
      count = has.count;
      disk = has.disk;
      format = has.format;
      stands = none.stands;
      gives = tags_then w.disk has.disk has.disk store store store start before after has.format has.gives none.gives;
    }

pub left_again : (w : JournalStanding) (journal : PlacedRing) (store : Store) {start before after : List Content} → HasCommits w journal store start before
    → ((x : JournalStanding) → StandsAs x journal store before → IsLeftThrough x before after) → IsLeftThrough w before after
left_again w journal store {start} {before} {after} has left =
    subst (λ (f : DiskFormat). EachMoment before after (EachImage (IsLeftInJournal f w.history))) has.format
    (left (with_disk (commits w.format.sections has.count w.counts) has.disk w) has.stands)

-- All is flushed then.
pub flushed_is : (w : JournalStanding) (journal : PlacedRing) (store : Store) (start moments : List Content) → HasCommits w journal store start moments → journal.ring.opened ≡ [] → HasFlushed w journal store start moments
flushed_is w journal store start moments has none =
    let f = w.format in
    let r = journal.ring in
    let d = has.disk in
    let all = commits_law f w.history w.counts has.count d r has.stands.device none in
    let stands : StandsAs (with_disk (commit_all w.counts) d w) journal store moments = subst (λ (j : JournalCounts). StandsAs (with_disk j d w) journal store moments) all has.stands in
    record {
      disk = d;
      format = has.format;
      gives = has.gives;
      committed = stands;
      flushed = λ idle. record { device = flush_law f w.history (commit_all w.counts) d r stands.device none idle; placed = stands.placed };
      written = λ h write is. record {
        device = flush_write_law f h (commit_all w.counts) d r write (subst (λ (past : History). IsJournalOf f past (commit_all w.counts) d r) is stands.device) none;
        placed = stands.placed;
      };
    }
