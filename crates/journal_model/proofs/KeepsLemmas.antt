-- What reads give after each step.
use Rattle.std.proofs.Common.{◌≡◌, ◌≢◌, inl, inr, ℕ, ◌+◌, ◌-◌, ◌*◌, ◌/◌, ◌<◌, sym, ◌∙◌, ap, arith, Some, List, length, slice_get, ◌++◌, drop, take, append_assoc}
use Rattle.std.proofs.lemmas.Bool.{cases_eq}
use Rattle.std.proofs.lemmas.List.{take-append-le, take-append-drop}
use Rattle.disk_model.specs.Disk.{Content, sector_in, last_image, with_run, newest_only, OnlyAdds, IsOfRun}
use Rattle.disk_model.proofs.DiskLemmas.{last_image-with_run, last_image-with_run_out, OnlyAdds-wider, OnlyAdds-join, AddsSome-adds, AddsSome-all}
use Rattle.image_model.specs.Cells.{Cell, salt_of}
use Rattle.image_model.specs.Geometry.{section_at, section_sectors, data_at}
use Rattle.image_model.specs.Section.{Entry}
use Rattle.image_model.proofs.GeometryLemmas.{data_at-inside}
use Rattle.place_model.specs.Tags.{tag_byte_at, IsOfCell, IsOfTags, with_block_tag}
use Rattle.place_model.specs.Blocks.{ReadsData}
use Rattle.place_model.proofs.TagsLemmas.{order, data_once, same_product, tag_byte-behind}
use Rattle.place_model.proofs.EachLemmas.{all_get}
use Rattle.place_model.proofs.BlocksLemmas.{ReadsData-same, KeepsOthers-data}
use Rattle.journal_model.specs.Entries.{cell_after, IsBlockEntry, cell_of}
use Rattle.journal_model.specs.JournaledDisk.{JournaledDisk, IsFormed, cell_at}
use Rattle.journal_model.specs.Steps.{batch_entries, IsBatch, after_commit, AreTagsAfter}
use Rattle.journal_model.specs.KeepsLaws.{KeepsCommitted, KeepsTagSectors, KeepsPlaced, KeepsBack, KeepsSettled, PlacedReadLaw}
use Rattle.journal_model.proofs.StepLemmas.{one_more-here, one_more-other, placing_law, writing_back_law, settled_law, with_block_tag-after}
use Rattle.journal_model.proofs.CommittedLemmas.{committed_law}
use Rattle.journal_model.proofs.EntriesLemmas.{cell_after-append, cell_after-none}

-- ---- what reads give of the data

-- With the entry's block written the data are those with one placed more.
pub ReadsData-placed : (d : JournaledDisk) (b : ℕ) (entry : Entry) (first c : Content) → IsFormed d → slice_get d.entries d.placed ≡ Some entry → entry.sector ≡ b * d.geometry.shape.spb
    → ReadsData d.geometry (cell_at d d.placed) first
    → ((e k : ℕ) → e < d.geometry.blocks → k < d.geometry.shape.spb → last_image c (data_at d.geometry e + k) ≡ last_image (with_run (data_at d.geometry b) entry.bytes first) (data_at d.geometry e + k))
    → ReadsData d.geometry (cell_at d (d.placed + 1)) c
ReadsData-placed d b entry first c formed at here reads same = record {
  each = λ e k low k_low.
      let g = d.geometry in
      let is = all_get (IsBlockEntry d.key (salt_of d.superblock) g) d.entries d.placed entry formed.each at in
      let size = is.bytes in
      let run : length entry.bytes / 512 ≡ g.shape.spb = omega (arith, size) in
      elim (cases_eq e b) [
        | inl equal ↦
            let there : data_at g e ≡ data_at g b = ap (data_at g) equal in
            let place : data_at g e + k - data_at g b ≡ k = omega arith in
            let here_e : entry.sector ≡ e * g.shape.spb = here ∙ ap (λ (n : ℕ). n * g.shape.spb) (sym equal) in
            same e k low k_low
            ∙ last_image-with_run (data_at g b) entry.bytes first (data_at g e + k) (omega arith) (omega (arith, run))
            ∙ ap (sector_in entry.bytes) place
            ∙ ap (λ (cell : Cell). sector_in cell.bytes k) (sym (one_more-here g d.base d.entries d.placed entry at e here_e))
        | inr other ↦
            let away : entry.sector ≢ e * g.shape.spb = λ f. other (sym (same_product b e g.shape.spb formed.is_geometry.spb.0 (sym here ∙ f))) in
            same e k low k_low
            ∙ last_image-with_run_out (data_at g b) entry.bytes first (data_at g e + k) (λ above under.
            let place : data_at g b + (data_at g e + k - data_at g b) ≡ data_at g e + k = omega arith in
            other (sym (data_once g d.sectors b e (data_at g e + k - data_at g b) k formed.is_geometry (omega (arith, run)) k_low place).0))
            ∙ reads.each e k low k_low
            ∙ ap (λ (cell : Cell). sector_in cell.bytes k) (sym (one_more-other g d.base d.entries d.placed entry at e away))
      ];
}

-- A commit leaves the data as they read.
pub ReadsData-committed : (d : JournaledDisk) (batch : ℕ) (bytes : List ℕ) (first : Content) → IsFormed d → IsBatch d batch bytes → ReadsData d.geometry (cell_at d d.placed) first
    → ReadsData d.geometry (cell_at (after_commit d batch bytes) d.placed) (newest_only (with_run (section_at d.geometry d.next) bytes first))
ReadsData-committed d batch bytes first formed is reads = record {
  each = λ b k low k_low.
      let g = d.geometry in
      let width = section_sectors g.shape in
      let size = is.size in
      let inside = data_at-inside g d.sectors b formed.is_geometry low in
      let fits = order width (d.next + batch) g.sections is.fits in
      last_image-with_run_out (section_at g d.next) bytes first (data_at g b + k) (λ above under. omega arith)
      ∙ reads.each b k low k_low
      ∙ ap (λ (ws : List Entry). sector_in (cell_after g d.base ws b).bytes k) (sym (take-append-le d.placed d.entries (batch_entries d batch bytes) formed.placed_low));
}

-- The tags after what is placed stay in a commit.
pub AreTagsAfter-committed : (d : JournaledDisk) (batch : ℕ) (bytes : List ℕ) (tags : ℕ → List ℕ) → IsFormed d → AreTagsAfter d d.placed tags → AreTagsAfter (after_commit d batch bytes) d.placed tags
AreTagsAfter-committed d batch bytes tags formed are = record {
  each = λ b low rests. are.each b low rests
      ∙ ap (λ (ws : List Entry). (cell_after d.geometry d.base ws b).tag) (sym (take-append-le d.placed d.entries (batch_entries d batch bytes) formed.placed_low));
}

-- ---- laws

pub keeps_committed : KeepsCommitted
keeps_committed d batch bytes tags first rests is reads keeps =
    let are = AreTagsAfter-committed d batch bytes tags keeps.stands.sound.formed keeps.tags_are in
    record {
      stands = (committed_law d batch bytes first keeps.stands rests is reads).0;
      reads = record { each = (ReadsData-committed d batch bytes first keeps.stands.sound.formed is keeps.reads).each };
      tags_are = record { each = are.each };
    }

pub keeps_tag_sectors : KeepsTagSectors
keeps_tag_sectors d batch bytes first b i sound is low i_low =
    let g = d.geometry in
    let width = section_sectors g.shape in
    let size = is.size in
    let behind = tag_byte-behind g d.sectors b i sound.formed.is_geometry low in
    let fits = order width (d.next + batch) g.sections is.fits in
    last_image-with_run_out (section_at g d.next) bytes first (tag_byte_at g b i).sector (λ above under. omega arith)

pub keeps_placed : KeepsPlaced
keeps_placed d b entry tags first c keeps is adds others =
    let g = d.geometry in
    let formed = keeps.stands.sound.formed in
    let written = with_run (data_at g b) entry.bytes first in
    let W : ℕ → List ℕ → Type 0 = IsOfCell g b (cell_of entry) tags in
    let data_adds : OnlyAdds W first written = OnlyAdds-wider (IsOfRun (data_at g b) entry.bytes) W (λ s x of. inl of) first written
    (AddsSome-adds (data_at g b) entry.bytes first written (AddsSome-all (data_at g b) entry.bytes first)) in
    let tag_adds : OnlyAdds W written c = OnlyAdds-wider (IsOfTags g tags (with_block_tag b entry.tag tags)) W (λ s x of. inr of) written c adds in
    record {
      stands = placing_law d b entry tags first c keeps.stands is keeps.tags_are (OnlyAdds-join W first written c data_adds tag_adds);
      reads = ReadsData-placed d b entry first c formed is.next is.sector keeps.reads (KeepsOthers-data g d.sectors written c formed.is_geometry others);
      tags_are = record { each = (with_block_tag-after d b entry tags formed is keeps.tags_are).each };
    }

pub keeps_back : KeepsBack
keeps_back d tags first c keeps adds others = record {
  stands = writing_back_law d tags first c keeps.stands keeps.tags_are adds;
  reads = ReadsData-same d.geometry (cell_at d d.placed) first c (KeepsOthers-data d.geometry d.sectors first c keeps.stands.sound.formed.is_geometry others) keeps.reads;
  tags_are = keeps.tags_are;
}

pub keeps_settled : KeepsSettled
keeps_settled d tags first keeps image reads = record {
  stands = settled_law d tags first keeps.stands image keeps.reads keeps.tags_are reads;
  reads = record { each = keeps.reads.each };
  tags_are = record { each = keeps.tags_are.each };
}

pub placed_read_law : PlacedReadLaw
placed_read_law d tags c uncommitted b low keeps none =
    let g = d.geometry in
    let later = drop d.placed d.entries ++ uncommitted in
    let same : cell_after g d.base (d.entries ++ uncommitted) b ≡ cell_at d d.placed b =
    ap (λ (ws : List Entry). cell_after g d.base (ws ++ uncommitted) b) (sym (take-append-drop d.placed d.entries))
    ∙ ap (λ (ws : List Entry). cell_after g d.base ws b) (append_assoc (take d.placed d.entries) (drop d.placed d.entries) uncommitted)
    ∙ cell_after-append g d.base (take d.placed d.entries) later b
    ∙ cell_after-none g (cell_after g d.base (take d.placed d.entries)) later b none in
    record {
      data_ = λ k k_low. keeps.reads.each b k low k_low ∙ ap (λ (cell : Cell). sector_in cell.bytes k) (sym same);
      tag_ = λ rests. keeps.tags_are.each b low rests ∙ ap (λ (cell : Cell). cell.tag) (sym same);
    }
