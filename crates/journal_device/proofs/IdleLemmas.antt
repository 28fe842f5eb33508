-- A step that is idle changes nothing.
use Rattle.std.proofs.Common.{◌≡◌, refl, ◌∙◌, ap}
use Rattle.tag_store.specs.Store.{Store}
use Rattle.device_parts.specs.declared.parts.Parts.{Parts}
use Rattle.device_parts.specs.declared.answers.Moved.TheVariants as Moves
use Rattle.journal_model.specs.Ring.{JournalRing}
use Rattle.journal_ring.specs.declared.ring.Moved as JournalMove
use Rattle.journal_ring.specs.declared.ring.Moved.TheVariants as JournalMoves
use Rattle.journal_mode.specs.PlaceWriterMoves.{HasPlaced, HasSettled}
use Rattle.journal_mode.specs.DeclaredPlacement.{Placement}
use Rattle.journal_mode.specs.Commits.{HasCommitted}
use Rattle.journal_mode.specs.Journal.{PlacedRing}
use Rattle.disk_model.specs.Disk.{Content}
use Rattle.std.specs.Prelude.{List}
use Rattle.hmac_tag.specs.TagMaker.{TagRule}
use Rattle.recalculation.specs.declared.recalculating.Recalculation.{Recalculation}
use Rattle.journal_device.specs.Answers.{moved_as}
use Rattle.journal_device.specs.Device.{kept}
use Rattle.journal_device.specs.Recalculating.{HasStepped}
use Rattle.journal_device.proofs.OverDisk.{state_of}

-- A journal is its ring and how far that is placed.
same_journal : (old new : PlacedRing) → new.ring ≡ old.ring → new.placement ≡ old.placement → new ≡ old
same_journal old new ring placement =
    ap (λ (r : JournalRing). let j : PlacedRing = record { ring = r; placement = new.placement } in j) ring
    ∙ ap (λ (p : Placement). let j : PlacedRing = record { ring = old.ring; placement = p } in j) placement

-- Parts with the store that they have.
same_parts : (parts : Parts) (tags : Store) → tags ≡ parts.tags → record parts { tags = tags } ≡ parts
same_parts parts tags same = ap (λ (t : Store). let p : Parts = record parts { tags = t } in p) same

-- What is kept is the parts, the journal and the regions.
pub same_kept : (parts new : Parts) (journal put : PlacedRing) (recalculation last : Recalculation) → new ≡ parts → put ≡ journal → last ≡ recalculation → kept new (state_of put last) ≡ kept parts (state_of journal recalculation)
same_kept parts new journal put recalculation last same same_journal same_recalc =
    ap (λ (p : Parts). kept p (state_of put last)) same ∙ ap (λ (j : PlacedRing). kept parts (state_of j last)) same_journal ∙ ap (λ (r : Recalculation). kept parts (state_of journal r)) same_recalc

module _ {A : Type 0} (parts : Parts) (old new : PlacedRing) (recalculation : Recalculation) (first last : A) where
  pub idle_commit : (moved : JournalMove.Moved) (before after : List Content) → HasCommitted moved old new first last before after
      → moved_as moved ≡ Moves.Idle → (kept parts (state_of new recalculation) ≡ kept parts (state_of old recalculation)) × (last ≡ first)
  idle_commit JournalMoves.Did before after has idle = absurd cc
  idle_commit JournalMoves.Idle before after has idle = (same_kept parts parts old new recalculation recalculation refl has.journal refl, has.disk)

  pub idle_place : (moved : JournalMove.Moved) (tags : Store) → HasPlaced moved old.placement new.placement old.ring parts.tags tags first last
      → new.ring ≡ old.ring → moved_as moved ≡ Moves.Idle → (kept (record parts { tags = tags }) (state_of new recalculation) ≡ kept parts (state_of old recalculation)) × (last ≡ first)
  idle_place JournalMoves.Did tags has ring idle = absurd cc
  idle_place JournalMoves.Idle tags has ring idle =
      (same_kept parts (record parts { tags = tags }) old new recalculation recalculation (same_parts parts tags has.store) (same_journal old new ring has.placement) refl, has.disk)

  pub idle_settle : (moved : JournalMove.Moved) (tags : Store) → HasSettled moved old.placement new.placement old.ring new.ring parts.tags tags first last
      → moved_as moved ≡ Moves.Idle → (kept (record parts { tags = tags }) (state_of new recalculation) ≡ kept parts (state_of old recalculation)) × (last ≡ first)
  idle_settle JournalMoves.Did tags has idle = absurd cc
  idle_settle JournalMoves.Idle tags has idle =
      (same_kept parts (record parts { tags = tags }) old new recalculation recalculation (same_parts parts tags has.store) (same_journal old new has.ring_ has.placement) refl, has.disk)

pub idle_recalc : {A : Type 0} (parts : Parts) (journal : PlacedRing) (old new : Recalculation) (tags : Store) (rule : TagRule) (moments : A → List Content) (first last : A) (moved : JournalMove.Moved)
    → HasStepped moved rule old new parts.tags tags moments first last → moved_as moved ≡ Moves.Idle
    → (kept (record parts { tags = tags }) (state_of journal new) ≡ kept parts (state_of journal old)) × (last ≡ first)
idle_recalc parts journal old new tags rule moments first last JournalMoves.Did has idle = absurd cc
idle_recalc parts journal old new tags rule moments first last JournalMoves.Idle has idle =
    (same_kept parts (record parts { tags = tags }) journal journal old new (same_parts parts tags has.store_) refl has.recalc_, has.disk)
