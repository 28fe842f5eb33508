-- What an empty journal says: nothing of it is replayed, and it is one as long as its sectors stay.
use Rattle.std.proofs.Common.{◌≡◌, ℕ, ◌+◌, refl, sym, ◌∙◌, ap, arith, Some}
use Rattle.disk_model.specs.Disk.{Image}
use Rattle.image_model.specs.CommitId.{commit_number}
use Rattle.image_model.specs.Geometry.{Geometry, IsGeometry, section_at, section_sectors}
use Rattle.image_model.specs.Grid.{walk_of}
use Rattle.image_model.specs.Tables.{IsAtRest}
use Rattle.image_model.specs.Walk.{later}
use Rattle.image_model.proofs.NumberLemmas.{later_forth, later_low}
use Rattle.image_model.proofs.TablesLemmas.{rest_plan}
use Rattle.place_model.specs.Journal.{HasNothingToReplay, IsOfJournal, numbers_on}
use Rattle.place_model.specs.Opened.{next_after_walk, next_by}
use Rattle.place_model.proofs.JournalLemmas.{journal-before, walk_of-plan}
use Rattle.place_model.proofs.ReplayLemmas.{same_journal_law}
use Rattle.place_model.proofs.TagsLemmas.{tag_byte-behind}
use Rattle.place_model.specs.Tags.{HoldsTag}
use Rattle.replay.specs.Emptied.{IsRestingJournal}
use Rattle.place_model.specs.EmptyJournal.{IsEmptyJournal}
use Rattle.replay.proofs.RestingLemmas.{some_sectors}

module _ (g : Geometry) (sectors : ℕ) (image : Image) (geometry : IsGeometry g sectors) (empty : IsEmptyJournal g image) where
  -- It is at rest at its start,
  at_start : IsAtRest g.sections (section_sectors g.shape) 0 (later 1 empty.number) (numbers_on g image)
  at_start = record {
    inside = omega (arith, geometry.sections);
    low = later_low 1 empty.number;
    new = λ i under. absurd (omega arith);
    old = λ i above low j narrow. empty.one i low j narrow ∙ ap Some (sym (later_forth empty.number empty.low));
  }

  pub empty_rests : IsRestingJournal g image
  empty_rests = record { next = 0; number = later 1 empty.number; rests = at_start }

  -- nothing of it is replayed,
  pub empty_replays_nothing : HasNothingToReplay g image
  empty_replays_nothing =
      let plan = rest_plan g.sections (section_sectors g.shape) 0 (later 1 empty.number) (numbers_on g image) (some_sectors g sectors geometry) at_start in
      record { has_walk = rw (walk_of-plan g sectors image plan.0 geometry plan.1) refl; none = empty.unused }

  -- and writing goes on at its start.
  pub empty_next : next_after_walk (walk_of g image) ≡ 0
  empty_next =
      let plan = rest_plan g.sections (section_sectors g.shape) 0 (later 1 empty.number) (numbers_on g image) (some_sectors g sectors geometry) at_start in
      ap next_after_walk (walk_of-plan g sectors image plan.0 geometry plan.1) ∙ ap next_by plan.2

-- An image with the same journal has an empty one, too.
pub empty_same : (g : Geometry) (sectors : ℕ) (one other : Image) → IsGeometry g sectors → ((sector : ℕ) → IsOfJournal g sector → one sector ≡ other sector) → IsEmptyJournal g other → IsEmptyJournal g one
empty_same g sectors one other geometry same empty = record {
  number = empty.number;
  low = empty.low;
  one = λ i low j narrow.
      ap (commit_number i j) (same (section_at g i + j) (record { section = i; place = j; inside = low; narrow = narrow; is = refl }))
      ∙ empty.one i low j narrow;
  unused = (same_journal_law g sectors one other geometry same (empty_replays_nothing g sectors other geometry empty)).none;
}

-- No sector of the journal is one of tags.
pub journal_no_tag : (g : Geometry) (sectors sector : ℕ) → IsGeometry g sectors → IsOfJournal g sector → HoldsTag g sector → ⊥
journal_no_tag g sectors sector geometry of tag =
    let before = journal-before g sector of in
    let behind = tag_byte-behind g sectors tag.block tag.byte geometry tag.block_low in
    absurd (omega (arith, before, behind, tag.is))
