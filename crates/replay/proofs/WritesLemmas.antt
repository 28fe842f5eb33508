-- What the steps of a recovery write.
use Rattle.std.proofs.Common.{◌≡◌, ◌<◌, inl, inr, ⊎_elim, ℕ, ◌/◌, refl, sym, subst, List}
use Rattle.std.specs.List.{Contains}
use Rattle.disk_model.specs.Disk.{Content, IsOfRun, OnlyAdds, last_image}
use Rattle.disk_model.specs.Identity.{DiskIdentity}
use Rattle.disk_model.specs.Moments.{EachSince, HasNow}
use Rattle.disk_model.proofs.DiskLemmas.{OnlyAdds-join, OnlyAdds-wider}
use Rattle.disk_model.proofs.MomentsLemmas.{EachMoment-join, EachMoment-weaker, FromStart-weaker, adds_told, adds_wider}
use Rattle.image_model.specs.Cells.{replayed_entries}
use Rattle.image_model.specs.Geometry.{Geometry, IsGeometry, data_at, section_at, tag_at}
use Rattle.image_model.specs.Section.{Entry}
use Rattle.place_writer.specs.DirectModeCells.{IsOfBlockOrTags}
use Rattle.image_model.specs.EmptySections.{AreEmptySections}
use Rattle.journal_reading.specs.declared.reading.JudgedJournal.{JudgedJournal}
use Rattle.journal_reading.specs.Journal.{journal_image}
use Rattle.tag_store.specs.Store.{IsMarkedTags, IsOfPut, IsOutForTag, IsStore, Store}
use Rattle.place_model.specs.Tags.{HoldsTag}
use Rattle.tag_store.proofs.SpansLemmas.{first_in_span}
use Rattle.tag_store.proofs.StoreLemmas.{HoldsTag-span, tag-span}
use Rattle.replay.specs.Replaying.{IsReadOn, entries_on}
use Rattle.place_model.specs.RecoveryWrites.{IsOfEmptyJournal, IsOfPlacing, IsOfRecovery}
use Rattle.replay.proofs.ReplayingLemmas.{entries_read}

-- ---- entries are placed

-- An entry that is written to its place.
pub entry_adds : (g own : Geometry) (entry : Entry) (block : ℕ) {a b : List Content} → g ≡ own → block ≡ entry.sector / own.shape.spb
    → EachSince (OnlyAdds (IsOfBlockOrTags own block entry.bytes)) a b → EachSince (OnlyAdds (IsOfPlacing g (λ e. e ≡ entry))) a b
entry_adds g own entry block {a} {b} same number m =
    subst (λ (y : Geometry). EachSince (OnlyAdds (IsOfPlacing y (λ e. e ≡ entry))) a b) (sym same)
    (adds_wider (IsOfBlockOrTags own block entry.bytes) (IsOfPlacing own (λ e. e ≡ entry))
    (λ s x of. elim of [
      | inl of_run ↦ inl (record { entry = entry; among = refl; in_place = subst (λ (n : ℕ). IsOfRun (data_at own n) entry.bytes s x) number of_run })
      | inr tags ↦ inr tags
    ]) m)

-- What is written of some entries is so of more.
pub among_more : (g : Geometry) (P Q : Entry → Type 0) {a b : List Content} → ((e : Entry) → P e → Q e) → EachSince (OnlyAdds (IsOfPlacing g P)) a b → EachSince (OnlyAdds (IsOfPlacing g Q)) a b
among_more g P Q f m = adds_wider (IsOfPlacing g P) (IsOfPlacing g Q)
    (λ s x of. elim of [
      | inl of_entry ↦ inl (record { entry = of_entry.entry; among = f of_entry.entry of_entry.among; in_place = of_entry.in_place })
      | inr tags ↦ inr tags
    ]) m

-- A tag that is got or put: sectors of tags alone.
pub get_in_tags : (store : Store) (block : ℕ) {a b : List Content} → EachSince (OnlyAdds (IsOutForTag block store)) a b → EachSince (OnlyAdds (λ sector x. HoldsTag store.geometry sector)) a b
get_in_tags store block m = adds_wider (IsOutForTag block store) (λ sector x. HoldsTag store.geometry sector) (λ s x out. out.marked.tags) m

pub put_in_tags : (store : Store) (disk : DiskIdentity) (block : ℕ) (tag : List ℕ) {a b : List Content} → IsStore store disk a → block < store.geometry.blocks → EachSince (λ start. OnlyAdds (IsOfPut block tag store start) start) a b
    → EachSince (OnlyAdds (λ sector x. HoldsTag store.geometry sector)) a b
put_in_tags store disk block tag {a} is low m =
    EachMoment-weaker (FromStart-weaker a (λ start. OnlyAdds (IsOfPut block tag store start) start) (OnlyAdds (λ sector x. HoldsTag store.geometry sector))
    (λ start c told adds. OnlyAdds-wider (IsOfPut block tag store start) (λ sector x. HoldsTag store.geometry sector)
    (λ s x of.
    let span = tag-span store.geometry disk.sectors block store.geometry.shape.tag_size is.geometry low refl in
    ⊎_elim (λ out. out.marked.tags)
    (λ first. HoldsTag-span store.geometry block store.geometry.shape.tag_size s low refl
    (first_in_span (tag_at store.geometry block).sector (tag_at store.geometry block).byte store.geometry.shape.tag_size s span.begins span.some first.0.is)) of) start c adds)) m

-- Tags that are written back.
pub tags_add : (g : Geometry) (store : Store) (P : Entry → Type 0) {a b : List Content} → g ≡ store.geometry → EachSince (OnlyAdds (IsMarkedTags store)) a b → EachSince (OnlyAdds (IsOfPlacing g P)) a b
tags_add g store P same m = adds_wider (IsMarkedTags store) (IsOfPlacing g P) (λ s x of. inr (subst (λ (y : Geometry). HoldsTag y s) (sym same) of.tags)) m

-- Sections that are emptied.
pub empty_adds : (g : Geometry) (number : ℕ) (bytes : List ℕ) {a b : List Content} → AreEmptySections g number bytes → EachSince (OnlyAdds (IsOfRun (section_at g 0) bytes)) a b → EachSince (OnlyAdds (IsOfEmptyJournal g)) a b
empty_adds g number bytes empty m = adds_wider (IsOfRun (section_at g 0) bytes) (IsOfEmptyJournal g)
    (λ s x of. record { number = number; bytes = bytes; empty = empty; in_place = of }) m

-- ---- by the image at the start

-- The entries that were read are those of the image.
pub replay_adds : (g : Geometry) (sectors : ℕ) (bytes : List ℕ) (journal : JudgedJournal) {a b : List Content} → IsGeometry g sectors → HasNow (λ c. IsReadOn g bytes journal (last_image c)) a
    → EachSince (OnlyAdds (IsOfPlacing g (Contains (entries_on g (journal_image bytes) journal.plan.walk)))) a b
    → EachSince (λ start. OnlyAdds (IsOfPlacing g (Contains (replayed_entries g (last_image start)))) start) a b
replay_adds g sectors bytes journal geometry read m =
    adds_told (λ start. IsOfPlacing g (Contains (replayed_entries g (last_image start)))) (IsOfPlacing g (Contains (entries_on g (journal_image bytes) journal.plan.walk)))
    (λ start told s x of. subst (λ (entries : List Entry). IsOfPlacing g (Contains entries) s x)
    (entries_read g sectors bytes journal (last_image start) geometry (read start told)) of) m

-- What goes on with tags that are written back is a replay still.
pub placing_then : (g : Geometry) (store : Store) {a b c : List Content} → g ≡ store.geometry
    → EachSince (λ start. OnlyAdds (IsOfPlacing g (Contains (replayed_entries g (last_image start)))) start) a b → EachSince (OnlyAdds (IsMarkedTags store)) b c
    → EachSince (λ start. OnlyAdds (IsOfPlacing g (Contains (replayed_entries g (last_image start)))) start) a c
placing_then g store same first second =
    EachMoment-join (λ start. OnlyAdds (IsOfPlacing g (Contains (replayed_entries g (last_image start)))) start) (OnlyAdds (IsMarkedTags store)) first second
    (λ start middle later told told_middle so_far adds.
    let W : ℕ → List ℕ → Type 0 = IsOfPlacing g (Contains (replayed_entries g (last_image start))) in
    let rest = OnlyAdds-wider (IsMarkedTags store) W (λ s x of. inr (subst (λ (y : Geometry). HoldsTag y s) (sym same) of.tags)) middle later adds in
    ⊎_elim (λ e. subst (λ (x : Content). OnlyAdds W x later) e rest) (λ p. OnlyAdds-join W start middle later p rest) so_far)

-- A replay alone is a part of a recovery,
pub replay_only : (g : Geometry) {a b : List Content} → EachSince (λ start. OnlyAdds (IsOfPlacing g (Contains (replayed_entries g (last_image start)))) start) a b
    → EachSince (λ start. OnlyAdds (IsOfRecovery g (replayed_entries g (last_image start))) start) a b
replay_only g {a} m =
    EachMoment-weaker (FromStart-weaker a (λ start. OnlyAdds (IsOfPlacing g (Contains (replayed_entries g (last_image start)))) start) (λ start. OnlyAdds (IsOfRecovery g (replayed_entries g (last_image start))) start)
    (λ start c told adds. OnlyAdds-wider (IsOfPlacing g (Contains (replayed_entries g (last_image start)))) (IsOfRecovery g (replayed_entries g (last_image start))) (λ s x. inl) start c adds)) m

-- and the erasure behind it is the rest.
pub recovery_adds : (g : Geometry) {a b c : List Content} → EachSince (λ start. OnlyAdds (IsOfPlacing g (Contains (replayed_entries g (last_image start)))) start) a b → EachSince (OnlyAdds (IsOfEmptyJournal g)) b c
    → EachSince (λ start. OnlyAdds (IsOfRecovery g (replayed_entries g (last_image start))) start) a c
recovery_adds g first second =
    EachMoment-join (λ start. OnlyAdds (IsOfRecovery g (replayed_entries g (last_image start))) start) (OnlyAdds (IsOfEmptyJournal g)) (replay_only g first) second
    (λ start middle later told told_middle so_far adds.
    let W : ℕ → List ℕ → Type 0 = IsOfRecovery g (replayed_entries g (last_image start)) in
    let rest = OnlyAdds-wider (IsOfEmptyJournal g) W (λ s x. inr) middle later adds in
    ⊎_elim (λ e. subst (λ (x : Content). OnlyAdds W x later) e rest) (λ p. OnlyAdds-join W start middle later p rest) so_far)
