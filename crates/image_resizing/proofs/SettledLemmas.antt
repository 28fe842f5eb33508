-- What stands before a growth: a disk that is synced, and an image that is recovered.
use Rattle.std.proofs.Common.{◌≡◌, ⊎_elim, ℕ, ◌/◌, ◌≤◌, true, false, refl, sym, ◌∙◌, ap, subst, arith, Some, Option, List, [], ◌∷◌, length}
use Rattle.std.specs.List.{Contains}
use Rattle.std.specs.Option.{IsSomeAnd}
use Rattle.std.proofs.lemmas.Bool.{true≢false}
use Rattle.disk_model.specs.Disk.{Content, Image, IsImage, last_image, newest_only}
use Rattle.disk_model.specs.Moments.{EachMoment, EachSince, FromStart, IsChangedBy, content_now}
use Rattle.disk_model.proofs.DiskLemmas.{OnlyAdds-none, newest_only-pending}
use Rattle.disk_model.proofs.MomentsLemmas.{EachMoment-weaker}
use Rattle.image_model.specs.declared.flags.TheConstants.{DIRTY_BITMAP}
use Rattle.image_model.specs.Cells.{replayed_entries}
use Rattle.image_model.specs.Geometry.{Geometry, data_at, initial, sector_at}
use Rattle.image_model.specs.Section.{Entry}
use Rattle.image_model.specs.Superblock.{has_flag}
use Rattle.buffer_cache.specs.HeldSectors.{no_sectors}
use Rattle.journal_model.specs.Opening.{opened_disk}
use Rattle.place_model.specs.Format.{HasWholeSectors, OpensAs}
use Rattle.place_model.specs.Journal.{IsOfJournal}
use Rattle.place_model.proofs.FirstSyncLemmas.{newest_only-cells}
use Rattle.place_model.proofs.JournalLemmas.{journal-before}
use Rattle.place_model.proofs.TagsLemmas.{tag_byte-behind}
use Rattle.resize_model.specs.AllPlaced.{KeepsStored}
use Rattle.resize_model.proofs.RecoveredLemmas.{recovered_begins_law, recovered_law}
use Rattle.resize_model.proofs.StepLemmas.{begins_law}
use Rattle.replay.specs.declared.recovered.Recovered.{Recovered}
use Rattle.replay.specs.Emptied.{KeepsResting}
use Rattle.replay.specs.Recovery.{EntersRecovery, LeavesRecovered}
use Rattle.place_model.specs.RecoveryWrites.{IsOfPlacing}
use Rattle.tag_store.specs.Store.{Store}
use Rattle.tag_store.proofs.StoreLemmas.{tags_in-same}
use Rattle.image_resizing.specs.declared.planning.Plan.{Plan}
use Rattle.image_resizing.specs.Grown.{IsSettledFrom}
use Rattle.image_resizing.specs.Plan.{IsPlan, present_format}
use Rattle.image_resizing.proofs.PlanLemmas.{plan_fits}

-- ---- moments

-- What is behind a sync is so by the content before it, where that is told.
pub behind_sync : (old mid new : List Content) (P Q : Content → Content → Type 0) → IsChangedBy newest_only old mid → EachSince Q mid new
    → ((start : Content) → content_now old ≡ Some start → EachMoment mid new (P start)) → EachMoment mid new (FromStart old P)
behind_sync (start ∷ h) mid new P Q synced m each = EachMoment-weaker (λ c p. p) (each start refl)
behind_sync [] mid new P Q synced m each = EachMoment-weaker (λ c from. absurd (subst (λ (o : Option Content). IsSomeAnd o (λ s. Q s c)) synced from)) m

-- Data lie behind the journal, of whatever block.
pub data-late : (g : Geometry) (b : ℕ) → initial g ≤ data_at g b
unfolding data_at sector_at
data-late g b = omega arith

module _ (sectors : ℕ) (plan : Plan) (is : IsPlan sectors plan) (start : Content) (opens : OpensAs (present_format sectors plan) (last_image start)) where
  -- ---- a bitmap

  -- An image with the same sectors keeps what is stored.
  same_stored : HasWholeSectors (present_format sectors plan) (last_image start) → has_flag DIRTY_BITMAP plan.present.fields.flags ≡ true → (image : Image)
      → ((s : ℕ) → image s ≡ last_image start s) → KeepsStored (present_format sectors plan) (last_image start) image
  same_stored whole set image same = record {
    rest = λ clear resting sector on. same sector;
    awaiting = λ set_ b low waits. tags_in-same plan.present.geometry sectors is.present.geometry (last_image start) image whole
        (λ s inside. ap length (same s) ∙ whole s inside) (λ s holds. same s) b low;
  }

  -- The disk is settled once it is synced.
  pub synced_settled : HasWholeSectors (present_format sectors plan) (last_image start) → has_flag DIRTY_BITMAP plan.present.fields.flags ≡ true → IsSettledFrom sectors plan (last_image start) (newest_only start)
  synced_settled whole set = record {
    settled = newest_only-pending start;
    stands = begins_law (present_format sectors plan) (newest_only start) opens (plan_fits sectors plan is) (λ clear. absurd (true≢false (sym set ∙ clear))) (newest_only-pending start) whole;
    cells = newest_only-cells (present_format sectors plan) start opens;
    before = λ b low. refl;
    placed = λ clear. absurd (true≢false (sym set ∙ clear));
    stored = λ image among. same_stored whole set image (λ s. (newest_only-pending start).only s (image s) (among s));
  }

  -- ---- a journal

  module _ (clear : has_flag DIRTY_BITMAP plan.present.fields.flags ≡ false) where
    -- A recovery is entered behind the sync, over a store that holds nothing.
    pub enters : (store : Store) (slots : ℕ) → store ≡ (let s : Store = record { geometry = plan.present.geometry; sectors = no_sectors slots } in s)
        → EntersRecovery (present_format sectors plan) sectors store (newest_only start)
    enters store slots fresh = subst (λ (s : Store). EntersRecovery (present_format sectors plan) sectors s (newest_only start)) (sym fresh) (record {
      sectors_are = refl;
      geometry = refl;
      opens = opens;
      no_bitmap = clear;
      pending = newest_only-pending start;
      fresh = refl;
    })

    -- No sector of the journal is one of those that are written in its place.
    no_place : (Among : Entry → Type 0) (sector : ℕ) (x : List ℕ) → IsOfJournal plan.present.geometry sector → IsOfPlacing plan.present.geometry Among sector x → ⊥
    no_place Among sector x on of =
        let before = journal-before plan.present.geometry sector on in
        ⊎_elim
        (λ entry. let late = data-late plan.present.geometry (entry.entry.sector / plan.present.geometry.shape.spb) in let begins = entry.in_place.begins in omega (arith, before, late, begins))
        (λ holds. let late = tag_byte-behind plan.present.geometry sectors holds.block holds.byte is.present.geometry holds.block_low in let there = holds.is in omega (arith, before, late, there))
        of

    -- A recovery keeps what is stored.
    recovered_stored : (c : Content) → KeepsResting plan.present.geometry (newest_only start) (newest_only start) c → (image : Image) → IsImage c image → KeepsStored (present_format sectors plan) (last_image start) image
    recovered_stored c keeps image among = record {
      rest = λ clear_ resting sector on.
          ⊎_elim
          (λ old. (newest_only-pending start).only sector (image sector) old)
          (λ of. absurd (no_place (Contains (replayed_entries plan.present.geometry (last_image start))) sector (image sector) on of))
          ((keeps (record { next = resting.next; number = resting.number; rests = resting.at })).among sector (image sector) (among sector));
      awaiting = λ set b low waits. absurd (true≢false (sym set ∙ clear));
    }

    -- The disk is settled once it is recovered.
    pub recovered_settled : (at : Recovered) (tags : ℕ → List ℕ) (c : Content) → LeavesRecovered (opened_disk (present_format sectors plan) (last_image start)) at tags c
        → KeepsResting plan.present.geometry (newest_only start) (newest_only start) c → IsImage c (last_image c) → IsSettledFrom sectors plan (last_image start) c
    recovered_settled at tags c left keeps reads =
        let begun = recovered_begins_law (present_format sectors plan) (last_image start) at.next at.number tags c clear (plan_fits sectors plan is) left.recovered left.pending reads in
        let each = recovered_law (present_format sectors plan) (last_image start) at.next at.number tags c clear left.recovered in
        record {
          settled = left.pending;
          stands = begun.0;
          cells = λ image among. (each image among).cells;
          before = begun.1;
          placed = λ clear_ image among. (each image among).placed;
          stored = λ image among. recovered_stored c keeps image among;
        }

-- A journal at rest is left by what adds nothing.
pub rests_still : (g : Geometry) (c : Content) → KeepsResting g c c c
rests_still g c resting = OnlyAdds-none (IsOfPlacing g (Contains (replayed_entries g (last_image c)))) c
