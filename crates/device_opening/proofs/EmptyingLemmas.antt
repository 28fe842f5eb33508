-- From an image that is recovered to one whose journal is empty, too.
use Rattle.std.proofs.Common.{◌≡◌, inl, inr, ⊎_elim, ℕ, ◌<◌, Bool, true, false, refl, sym, ◌∙◌, ap, subst, arith, Some, List, []}
use Rattle.std.specs.List.{Contains}
use Rattle.std.proofs.lemmas.Bool.{true≢false}
use Rattle.std.proofs.lemmas.Option.{same_Some}
use Rattle.disk_model.specs.Disk.{Content, EachImage, HasNothingPending, Image, IsImage, OnlyAdds, last_image, newest_only}
use Rattle.disk_model.specs.Moments.{EachMoment, EachSince, content_now}
use Rattle.disk_model.proofs.DiskLemmas.{OnlyAdds-join, OnlyAdds-wider, newest_only-last, only_candidate}
use Rattle.disk_model.proofs.MomentsLemmas.{EachMoment-join, EachMoment-weaker, FromStart-weaker, content_at_end}
use Rattle.image_model.specs.declared.flags.TheConstants.{DIRTY_BITMAP}
use Rattle.image_model.specs.Cells.{replayed_entries}
use Rattle.image_model.specs.Geometry.{Geometry, IsGeometry}
use Rattle.image_model.specs.Section.{Entry}
use Rattle.image_model.specs.Superblock.{has_flag}
use Rattle.image_model.specs.Walk.{later}
use Rattle.image_model.proofs.NumberLemmas.{later_low}
use Rattle.device_model.specs.Mode.{Journal}
use Rattle.place_model.specs.Format.{DiskFormat, HasCells, cells_on}
use Rattle.place_model.specs.Journal.{IsOfJournal}
use Rattle.place_model.specs.Opened.{next_on}
use Rattle.journal_model.specs.JournaledDisk.{IsCutOf, JournaledDisk}
use Rattle.journal_model.specs.Opening.{opened_disk}
use Rattle.journal_model.specs.Steps.{KeepsCells}
use Rattle.journal_model.proofs.OpeningLemmas.{base_cells_law, opened_cells_law}
use Rattle.tag_store.specs.Store.{Store, given_tags}
use Rattle.place_model.specs.Tags.{HoldsTag}
use Rattle.replay.specs.declared.recovered.Recovered.{Recovered}
use Rattle.replay.specs.Emptied.{KeepsResting}
use Rattle.place_model.specs.EmptyJournal.{IsEmptyJournal, KeepsEmpty}
use Rattle.replay.specs.Recovery.{IsAtRestOn, LeavesRecovered}
use Rattle.place_model.specs.RecoveryWrites.{IsOfEmptyJournal, IsOfPlacing, IsOfRecovery, IsOfOpening}
use Rattle.device_opening.specs.Opening.{WritesRecovery}
use Rattle.device_opening.proofs.MomentsLemmas.{each_from}
use Rattle.device_opening.proofs.EmptiedLemmas.{empty_next, empty_rests, empty_same, journal_no_tag}

-- ---- what is left

module _ (d : JournaledDisk) (at : Recovered) (tags : ℕ → List ℕ) (c : Content) (left : LeavesRecovered d at tags c) where
  -- Where nothing is used the journal is empty.
  pub left_empty : at.used ≡ false → IsEmptyJournal left.recovered.now.geometry left.recovered.now.journal
  left_empty unused =
      let is = left.recovered in
      let both = left.unused.0 unused in
      let start : is.now.next ≡ 0 = is.next_is ∙ both.0 in
      record {
        number = later 3 is.now.number;
        low = later_low 3 is.now.number;
        one = λ i low. is.rests.at.old i (omega (arith, start)) low;
        unused = both.1;
      }

  -- What is left of that is left of the disk.
  pub leaves_then : (then_ : Recovered) (later_tags : ℕ → List ℕ) (e : Content) → LeavesRecovered left.recovered.now then_ later_tags e → LeavesRecovered d then_ later_tags e
  leaves_then then_ later_tags e next =
      let is = left.recovered in
      let r = next.recovered in
      record {
        recovered = record {
          now = r.now;
          keeps = r.keeps;
          rests = r.rests;
          next_is = r.next_is;
          number_is = r.number_is;
          settled = r.settled;
          same_format = r.same_format ∙ is.same_format;
          cells = λ b low. r.cells b (here b low) ∙ is.again b low ∙ is.cells b low;
          again = λ b low. r.again b (here b low);
        };
        pending = next.pending;
        unused = next.unused;
      }
    where
      here : (b : ℕ) → b < d.geometry.blocks → b < left.recovered.now.geometry.blocks
      here b low = subst (λ (x : DiskFormat). b < x.geometry.blocks) (sym left.recovered.same_format) low

-- A disk that was recovered is at rest as was told.
pub at_rest : (d : JournaledDisk) (at : Recovered) (store : Store) (moments : List Content) (c : Content) → content_now moments ≡ Some c → d.geometry ≡ store.geometry
    → (left : LeavesRecovered d at (given_tags store c) c) → IsAtRestOn left.recovered.now at store moments
at_rest d at store moments c told same left =
    let is = left.recovered in
    let formed = is.keeps.stands.sound.formed in
    record {
      cells = record {
        sound = is.keeps.stands.sound;
        geometry = ap (λ (x : DiskFormat). x.geometry) is.same_format ∙ same;
        now = λ x now. subst (λ (y : Content). KeepsCells is.now (given_tags store y) y) (same_Some _ _ (sym told ∙ now)) is.keeps;
      };
      rests = is.rests;
      next_is = is.next_is;
      number_is = is.number_is;
      settled = is.settled;
      placed = omega (arith, is.settled, formed.settled_low, formed.placed_low);
      pending = λ x now. subst HasNothingPending (same_Some _ _ (sym told ∙ now)) left.pending;
      unused = left.unused.0;
    }

-- Each image keeps the cells of the one at the start while the journal is emptied.
pub cells_while_emptied : (f : DiskFormat) (image : Image) (at : Recovered) (tags : ℕ → List ℕ) (c : Content) {m b : List Content} → has_flag DIRTY_BITMAP f.superblock.flags ≡ false
    → (left : LeavesRecovered (opened_disk f image) at tags c) → EachMoment m b (EachImage (IsCutOf left.recovered.now [])) → EachMoment m b (EachImage (HasCells f (cells_on f image)))
cells_while_emptied f image at tags c clear left cuts =
    let is = left.recovered in
    EachMoment-weaker (λ x cut. subst (λ (d : DiskFormat). EachImage (HasCells d (cells_on f image)) x) is.same_format
    (base_cells_law is.now (cells_on f image) x
    (λ b low. let there = subst (λ (d : DiskFormat). b < d.geometry.blocks) is.same_format low in is.again b there ∙ is.cells b there ∙ opened_cells_law f image clear b) cut)) cuts

-- ---- what is written

no_element : {A : Type 0} (x : A) → Contains [] x → ⊥
no_element x has = omega (arith, has.1)

-- A content with nothing pending is the newest one of itself.
pub newest_adds : (W : ℕ → List ℕ → Type 0) (start : Content) → HasNothingPending start → OnlyAdds W (newest_only start) start
newest_adds W start pending = record { among = λ s x has. inl (subst (Contains (newest_only start s)) (sym (pending.only s x has)) (newest_only-last start s)) }

-- The emptying goes on with what a recovery writes,
pub emptying_adds : (g : Geometry) {a m b : List Content} → WritesRecovery g a m → ((start middle : Content) → content_now a ≡ Some start → content_now m ≡ Some middle → HasNothingPending middle) → EachSince (OnlyAdds (IsOfEmptyJournal g)) m b → WritesRecovery g a b
emptying_adds g first pending second =
    EachMoment-join (IsOfOpening g) (OnlyAdds (IsOfEmptyJournal g)) first second
    (λ start middle later told told_middle so_far adds.
    let W : ℕ → List ℕ → Type 0 = IsOfRecovery g (replayed_entries g (last_image start)) in
    let rest = OnlyAdds-wider (IsOfEmptyJournal g) W (λ s x. inr) middle later adds in
    ⊎_elim
    (λ e. OnlyAdds-join W (newest_only start) start later (newest_adds W start (subst HasNothingPending e (pending start middle told told_middle))) (subst (λ (x : Content). OnlyAdds W x later) e rest))
    (λ p. OnlyAdds-join W (newest_only start) middle later p rest) so_far)

-- which leaves an empty journal.
pub resting_keeps : (g : Geometry) (sectors : ℕ) {a m : List Content} → IsGeometry g sectors → EachSince (λ start. KeepsResting g start (newest_only start)) a m → EachSince (KeepsEmpty g) a m
resting_keeps g sectors {a} geometry rests =
    EachMoment-weaker (FromStart-weaker a (λ start. KeepsResting g start (newest_only start)) (KeepsEmpty g)
    (λ start c told keeps empty.
    OnlyAdds-wider (IsOfPlacing g (Contains (replayed_entries g (last_image start)))) (λ s x. HoldsTag g s)
    (λ s x. ⊎_elim (λ of. absurd (no_element of.entry (subst (λ (entries : List Entry). Contains entries of.entry) empty.unused of.among))) (λ tag. tag))
    (newest_only start) c (keeps (empty_rests g sectors (last_image start) geometry empty)))) rests

-- So does the emptying, where the recovery told that nothing is used.
pub emptying_keeps : (g : Geometry) {a m b : List Content} (used : Bool) → EachSince (KeepsEmpty g) a m → (used ≡ false → b ≡ m) → ((start : Content) → content_now a ≡ Some start → IsEmptyJournal g (last_image start) → used ≡ false)
    → EachSince (OnlyAdds (IsOfEmptyJournal g)) m b → EachSince (KeepsEmpty g) a b
emptying_keeps g {a} false first still unused second = subst (EachSince (KeepsEmpty g) a) (sym (still refl)) first
emptying_keeps g true first still unused second =
    EachMoment-join (KeepsEmpty g) (OnlyAdds (IsOfEmptyJournal g)) first second
    (λ start middle later told told_middle so_far adds empty. absurd (true≢false (unused start told empty)))

abbrev TagsOf : Geometry → ℕ → List ℕ → Type 0
TagsOf g sector x = HoldsTag g sector

-- It tells so of an empty journal.
pub stays_unused : (f : DiskFormat) (at : Recovered) (tags : ℕ → List ℕ) {a m : List Content} (start c : Content) → content_now a ≡ Some start → content_now m ≡ Some c → IsImage c (last_image c)
    → EachSince (KeepsEmpty f.geometry) a m → (left : LeavesRecovered (opened_disk f (last_image start)) at tags c) → at.next ≡ next_on Journal f (last_image start) → IsEmptyJournal f.geometry (last_image start) → at.used ≡ false
stays_unused f at tags {a} {m} start c told told_now reads keeps left next empty =
    left.unused.1 (
      next ∙ empty_next f.geometry f.sectors (last_image start) geometry empty,
      subst (λ (x : DiskFormat). replayed_entries x.geometry left.recovered.now.journal ≡ []) (sym left.recovered.same_format) (empty_same f.geometry f.sectors left.recovered.now.journal (last_image start) geometry same empty).unused,
    )
  where
    geometry : IsGeometry f.geometry f.sectors
    geometry = subst (λ (x : DiskFormat). IsGeometry x.geometry x.sectors) left.recovered.same_format left.recovered.keeps.stands.sound.formed.is_geometry

    adds : OnlyAdds (TagsOf f.geometry) (newest_only start) c
    adds = content_at_end {a = a} {b = m} {P = λ x. HasNothingPending x → OnlyAdds (TagsOf f.geometry) (newest_only start) x}
        (EachMoment-weaker (λ x kept pending. kept empty) (each_from (KeepsEmpty f.geometry) start told keeps))
        (λ x at pending. subst (λ (y : Content). OnlyAdds (TagsOf f.geometry) (newest_only start) y) (same_Some _ _ (sym told ∙ at)) (newest_adds (TagsOf f.geometry) start (subst HasNothingPending (same_Some _ _ (sym at ∙ told)) pending)))
        c told_now left.pending

    same : (sector : ℕ) → IsOfJournal f.geometry sector → left.recovered.now.journal sector ≡ last_image start sector
    same sector of =
        let has = reads sector in
        let here = (left.recovered.keeps.stands.each sector (last_image c sector) has).journal (subst (λ (x : DiskFormat). IsOfJournal x.geometry sector) (sym left.recovered.same_format) of) in
        sym here ∙ ⊎_elim (λ was. only_candidate (last_image start sector) (last_image c sector) was) (λ tag. absurd (journal_no_tag f.geometry f.sectors sector geometry of tag)) (adds.among sector (last_image c sector) has)
