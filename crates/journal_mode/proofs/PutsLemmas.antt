-- A block that is put, as a write of the device.
use Rattle.std.proofs.Common.{◌≡◌, ◌↔◌, ℕ, ◌*◌, ◌/◌, ◌^◌, ◌<◌, ◌≤◌, true, refl, sym, ◌∙◌, ap, subst, arith, Option, Some, None, List, is_some}
use Rattle.std.specs.Prelude.{Result, IsOk}
use Rattle.std.proofs.Math.Nat.{mul-add, mul-div_cancel, mul-lt-mul_of_pos_right, mul-mod_left}
use Rattle.std.proofs.lemmas.Bool.{false≢true}
use Rattle.std.proofs.lemmas.Nat.{div-add-mod'}
use Rattle.disk_model.specs.Disk.{Content}
use Rattle.image_model.specs.Geometry.{Geometry, IsGeometry, data_at, sector_at}
use Rattle.image_model.specs.Section.{Entry}
use Rattle.image_model.proofs.GeometryLemmas.{data_at-inside}
use Rattle.device_model.specs.History.{Begun, History, Written, with_change}
use Rattle.device_model.specs.Journal.{JournalCounts}
use Rattle.journal_laws.specs.Device.{IsJournalOf, block_of}
use Rattle.journal_laws.proofs.FormatLemmas.{block_size-is, blocks-is}
use Rattle.journal_laws.proofs.PutLemmas.{has_room_law, put_law}
use Rattle.replay.specs.DirectModeCells.{IsTaggedBlock, block_write}
use Rattle.journal_model.specs.HistoryOf.{entry_of_write}
use Rattle.journal_model.specs.Ring.{JournalRing, has_room, with_put}
use Rattle.journal_ring.specs.Places.{entry_of}
use Rattle.place_model.specs.Format.{tagger_of}
use Rattle.replay.specs.Placement.{IsWholeEntry}
use Rattle.tag_store.specs.Store.{Store}
use Rattle.journal_mode.specs.Journal.{PlacedRing, after_put}
use Rattle.journal_mode.specs.Puts.{HasPut, TakesWrite, after_change, sections_with}
use Rattle.journal_mode.specs.Standing.{JournalStanding, StandsAs}

-- ---- an entry of a block of the layout

-- The first sector of a block is no more than 48 bits wide.
pub sector_low : (g : Geometry) (sectors b : ℕ) → IsGeometry g sectors → b < g.blocks → b * g.shape.spb < 2 ^ 48
unfolding data_at sector_at
sector_low g sectors b is low =
    let inside = data_at-inside g sectors b is low in
    let x : ℕ = b * g.shape.spb in
    let spread = mul-add (x / g.interleave) g.tag_run g.interleave in
    omega (arith, inside.1, spread, div-add-mod' x g.interleave, is.device, is.spb.0)

pub entry_is_whole : (g : Geometry) (b : ℕ) (bytes tag : List ℕ) → 1 ≤ g.shape.spb → IsTaggedBlock g b bytes tag → IsWholeEntry g (entry_of g b bytes tag)
entry_is_whole g b bytes tag some is = record {
  begins = mul-mod_left b g.shape.spb;
  inside = mul-lt-mul_of_pos_right is.block_.low some;
  bytes = is.block_.size;
  tag = is.tag_size;
}

pub block_of-entry : (g : Geometry) (b : ℕ) (bytes tag : List ℕ) → 1 ≤ g.shape.spb → b ≡ block_of g (entry_of g b bytes tag)
block_of-entry g b bytes tag some = sym (mul-div_cancel b some)

-- ---- the device

some_of : {A : Type 0} (o : Option A) → is_some o ≡ true → (x : A) × (o ≡ Some x)
some_of None e = absurd (false≢true e)
some_of (Some x) e = (x, refl)

module _ (w : JournalStanding) (journal : PlacedRing) (store : Store) (moments : List Content) (block ticket : ℕ) (bytes tag : List ℕ)
    (takes : TakesWrite w (block_write ticket block bytes) tag journal store moments) (is : IsTaggedBlock journal.ring.geometry block bytes tag) where
  abbrev g : Geometry
  g = journal.ring.geometry

  same_entry : entry_of_write w.disk (block_write ticket block bytes) ≡ entry_of journal.ring.geometry block bytes tag
  same_entry =
      ap (λ (y : Geometry). entry_of y block bytes (tagger_of w.disk.format block bytes)) (sym takes.stands.device.is_ring.geometry)
      ∙ ap (entry_of g block bytes) (sym takes.tag_)

  -- The device has the entry, of which the counts and the history may tell in any way.
  stands_then : (h : History) (j : JournalCounts) (entry : Entry) → IsJournalOf w.format h j w.disk (with_put entry journal.ring)
      → StandsAs (record w { history = h; counts = j }) (after_put entry journal) store moments
  stands_then h j entry device = record {
    device = device;
    placed = record {
      ring_ = device.is_ring;
      placed = takes.stands.placed.placed;
      cells = takes.stands.placed.cells;
    };
  }

  pub has_put : has_room journal.ring ≡ true → HasPut w (block_write ticket block bytes) (after_put (entry_of journal.ring.geometry block bytes tag) journal) store moments
  has_put room =
      let device = takes.stands.device in
      let same = device.is_ring.geometry in
      let there = some_of (sections_with w block) (has_room_law w.format w.history w.counts w.disk journal.ring block device ∙ room) in
      let law = put_law w.format w.history w.counts there.0 w.disk journal.ring (block_write ticket block bytes) device takes.idle
      (omega (arith, is.block_.low, ap (λ (y : Geometry). y.blocks) same, blocks-is w.format w.disk.format device.format))
      (is.block_.size ∙ ap (λ (y : Geometry). 512 * y.shape.spb) same ∙ sym (block_size-is w.format w.disk.format device.format))
      there.1 in
      record {
        sections = there.0;
        put_ = there.1;
        begun = subst (λ (entry : Entry). StandsAs (after_change (Begun (block_write ticket block bytes)) there.0 w) (after_put entry journal) store moments) same_entry
            (stands_then (with_change w.history (Begun (block_write ticket block bytes))) (record w.counts { sections = there.0 }) (entry_of_write w.disk (block_write ticket block bytes)) law.0);
        written = subst (λ (entry : Entry). StandsAs (after_change (Written (block_write ticket block bytes)) there.0 w) (after_put entry journal) store moments) same_entry
            (stands_then (with_change w.history (Written (block_write ticket block bytes))) (record w.counts { sections = there.0 }) (entry_of_write w.disk (block_write ticket block bytes)) law.1);
      }

-- The counts have room where the entry was put.
pub counted_ok : (w : JournalStanding) (ring : JournalRing) (block : ℕ) → IsJournalOf w.format w.history w.counts w.disk ring → has_room ring ≡ true
    → (true ≡ true → is_some (sections_with w block) ≡ true) × (is_some (sections_with w block) ≡ true → true ≡ true)
counted_ok w ring block device room = (λ ok. has_room_law w.format w.history w.counts w.disk ring block device ∙ room, λ some. refl)

-- The counts have room exactly where the ring has.
pub counted : (w : JournalStanding) (ring : JournalRing) (block : ℕ) {T E : Type 0} (r : Result T E) → IsJournalOf w.format w.history w.counts w.disk ring → (IsOk r ↔ (has_room ring ≡ true))
    → IsOk r ↔ (is_some (sections_with w block) ≡ true)
counted w ring block r device room =
    let law = has_room_law w.format w.history w.counts w.disk ring block device in
    (λ ok. law ∙ room.0 ok, λ some. room.1 (sym law ∙ some))
