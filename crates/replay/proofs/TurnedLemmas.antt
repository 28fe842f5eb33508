-- A disk while the newest entries of a journal come to their places, in the order of the replay.
use Rattle.std.proofs.Common.{◌≡◌, ◌⊎◌, inl, inr, ℕ, ◌+◌, ◌/◌, ◌<◌, ◌≤◌, true, false, refl, sym, ◌∙◌, ap, arith, Option, Some, None, List, [], length, slice_get, option_and_then}
use Rattle.std.specs.Option.{is_some, option_map}
use Rattle.std.proofs.lemmas.Bool.{cases_Bool, cases_eq, eq-eqb, false≢true, ne_eqb}
use Rattle.std.proofs.lemmas.List.{take_all}
use Rattle.std.proofs.lemmas.Option.{none-some, same_Some, slice_get_within}
use Rattle.std.proofs.Math.Nat.{mul-div_cancel}
use Rattle.disk_model.specs.Disk.{Content, Image, sector_in}
use Rattle.image_model.specs.Cells.{Cell, entry_of, last_entry, replayed_entries, salt_of}
use Rattle.image_model.specs.Geometry.{Geometry}
use Rattle.image_model.specs.Section.{Entry}
use Rattle.image_model.proofs.NumberLemmas.{cases_option}
use Rattle.journal_model.specs.Entries.{IsBlockEntry, cell_after, cell_of}
use Rattle.journal_model.specs.JournaledDisk.{IsSound, JournaledDisk, cell_at}
use Rattle.journal_model.proofs.EntriesLemmas.{cell_after-none, cell_after-some}
use Rattle.journal_model.proofs.PlaceLemmas.{last_entry-tells}
use Rattle.journal_reading.specs.Index.{IsIndexOf, counted_places, numbered_entry}
use Rattle.journal_reading.proofs.IndexLemmas.{index-some}
use Rattle.place_writer.specs.Cells.{HasCells}
use Rattle.tag_store.specs.Store.{Store}
use Rattle.replay.specs.Replaying.{HasAmid, HasTurned, IsAhead, IsToReplay, all_placed, last_cell, without}
use Rattle.replay.proofs.ReplayingLemmas.{StandsFor-more, formed_more}

-- What is some is one.
some_number : (o : Option ℕ) → is_some o ≡ true → (k : ℕ) × (o ≡ Some k)
some_number None is = absurd (false≢true is)
some_number (Some k) is = (k, refl)

no_entry : (o : Option Entry) → is_some o ≡ false → o ≡ None
no_entry None is = refl
no_entry (Some entry) is = absurd (false≢true (sym is))

-- The last entry by what a choice of a number tells.
told_entry : (found : Option Entry) (o : Option Entry) → (let some : Option (Option Entry) = Some found in some) ≡ option_map (λ (e : Entry). Some e) o → (entry : Entry) × (found ≡ Some entry) × (o ≡ Some entry)
told_entry found None e = absurd (none-some found (sym e))
told_entry found (Some entry) e = (entry, same_Some found (Some entry) e, refl)

-- The entry that is the newest of a block is its last one.
pub newest_entry : (g : Geometry) (image : Image) (newest : ℕ → Option ℕ) (b k : ℕ) (entry : Entry) → IsIndexOf g image newest → newest b ≡ Some k
    → Some entry ≡ numbered_entry g image k → last_entry g (replayed_entries g image) b ≡ Some entry
newest_entry g image newest b k entry index is used =
    let told = told_entry (numbered_entry g image k) (last_entry g (replayed_entries g image) b) (ap (option_map (numbered_entry g image)) (sym is) ∙ index.each b) in
    told.2 ∙ ap (λ (e : Entry). Some e) (same_Some told.0 entry (sym told.1 ∙ sym used))

-- An entry has a place among those that count.
numbered_low : (g : Geometry) (image : Image) (k : ℕ) (entry : Entry) → numbered_entry g image k ≡ Some entry → k < length (counted_places g image)
numbered_low g image k entry is = elim (cases_option (slice_get (counted_places g image) k)) [
  | inl none ↦ absurd (none-some entry (sym (ap (option_and_then (entry_of g image)) none) ∙ is))
  | inr some ↦ slice_get_within (counted_places g image) k some.0 some.1
]

-- The cell after all entries.
last_cell-entry : (d : JournaledDisk) (b : ℕ) (entry : Entry) → last_entry d.geometry d.entries b ≡ Some entry → last_cell d b ≡ cell_of entry
last_cell-entry d b entry is =
    ap (λ (es : List Entry). cell_after d.geometry d.base es b) (take_all (length d.entries) d.entries (omega arith))
    ∙ cell_after-some d.geometry d.base d.entries b entry is

-- A block without an entry has its cell at the start.
start_is_last : (d : JournaledDisk) (b : ℕ) → d.placed ≡ 0 → last_entry d.geometry d.entries b ≡ None → cell_at d d.placed b ≡ last_cell d b
start_is_last d b none is =
    ap (λ (n : ℕ). cell_at d n b) none
    ∙ cell_after-none d.geometry d.base [] b refl
    ∙ sym (ap (λ (es : List Entry). cell_after d.geometry d.base es b) (take_all (length d.entries) d.entries (omega arith))
    ∙ cell_after-none d.geometry d.base d.entries b is)

sound_all : (d : JournaledDisk) → IsSound d → IsSound (all_placed d)
sound_all d sound = record {
  formed = formed_more d d.placed (length d.entries) sound.formed.placed_low (omega arith) sound.formed;
  has_walk = sound.has_walk;
  held = sound.held;
  start_low = sound.start_low;
}

module _ (d : JournaledDisk) (g : Geometry) (newest : ℕ → Option ℕ) (to : IsToReplay d g d.journal) (index : IsIndexOf g d.journal newest) where
  last_is : (b : ℕ) → last_entry d.geometry d.entries b ≡ last_entry g (replayed_entries g d.journal) b
  last_is b = ap (λ (x : Geometry). last_entry x d.entries b) to.geometry ∙ ap (λ (es : List Entry). last_entry g es b) to.entries

  -- The last entry of a block has its number,
  last_there : (b k : ℕ) → newest b ≡ Some k → (entry : Entry) × (numbered_entry g d.journal k ≡ Some entry) × (last_entry d.geometry d.entries b ≡ Some entry)
  last_there b k is =
      let told = told_entry (numbered_entry g d.journal k) (last_entry g (replayed_entries g d.journal) b) (ap (option_map (numbered_entry g d.journal)) (sym is) ∙ index.each b) in
      (told.0, told.1, last_is b ∙ told.2)

  -- and a block without a number has none.
  last_nowhere : (b : ℕ) → is_some (newest b) ≡ false → last_entry d.geometry d.entries b ≡ None
  last_nowhere b none = last_is b ∙ no_entry (last_entry g (replayed_entries g d.journal) b) (sym (index-some g d.journal newest index b) ∙ none)

  -- Before all places every newest entry is ahead,
  pub turned_none : (store : Store) (moments : List Content) → HasCells d store moments → HasTurned d newest 0 store moments
  turned_none store moments has = record {
    ahead = λ b. is_some (newest b);
    amid = record {
      sound = sound_all d has.sound;
      geometry = has.geometry;
      now = λ c told.
          let keeps = has.now c told in
          let formed = has.sound.formed in
          record {
            stands = StandsFor-more d d.placed (length d.entries) formed.placed_low (omega arith) c keeps.stands;
            reads = λ b k low k_low clear. keeps.reads.each b k low k_low ∙ ap (λ (cell : Cell). sector_in cell.bytes k) (start_is_last d b to.none (last_nowhere b clear));
            tags_are = λ b low rests. (d.placed, formed.settled_low, formed.placed_low, keeps.tags_are.each b low rests);
            tags_last = λ b low rests clear. keeps.tags_are.each b low rests ∙ ap (λ (cell : Cell). cell.tag) (start_is_last d b to.none (last_nowhere b clear));
          };
    };
    behind = λ b is. let some = some_number (newest b) is in record { at = some.0; low = omega arith; is = some.1 };
  }

  -- one that is ahead is so behind one place more, unless it stands there,
  ahead_more : (k b : ℕ) → (newest b ≡ Some k → ⊥) → IsAhead newest k b → IsAhead newest (k + 1) b
  ahead_more k b none is = elim (cases_eq is.at k) [
    | inl same ↦ absurd (none (is.is ∙ ap (λ (n : ℕ). Some n) same))
    | inr other ↦ record { at = is.at; low = let low = is.low in omega arith; is = is.is }
  ]

  -- so a place that has no newest one changes nothing,
  turned_same : (k : ℕ) (store : Store) (moments : List Content) → ((b : ℕ) → newest b ≡ Some k → ⊥) → HasTurned d newest k store moments → HasTurned d newest (k + 1) store moments
  turned_same k store moments none has = record {
    ahead = has.ahead;
    amid = has.amid;
    behind = λ b is. ahead_more k b (none b) (has.behind b is);
  }

  -- as does one with no entry,
  pub turned_unused : (k : ℕ) (store : Store) (moments : List Content) → None ≡ numbered_entry g d.journal k → HasTurned d newest k store moments → HasTurned d newest (k + 1) store moments
  turned_unused k store moments none has = turned_same k store moments (λ b is. let last = last_there b k is in none-some last.0 (none ∙ last.1)) has

  -- A block's number by its entry,
  module _ (k : ℕ) (entry : Entry) (number : ℕ) (used : Some entry ≡ numbered_entry g d.journal k) (number_is : number ≡ entry.sector / g.shape.spb) where
    number_of : IsSound (all_placed d) → (b : ℕ) → newest b ≡ Some k → number ≡ b
    number_of sound b is =
        let last = last_there b k is in
        let same : last.0 ≡ entry = same_Some last.0 entry (sym last.1 ∙ sym used) in
        let tells = last_entry-tells (IsBlockEntry d.key (salt_of d.superblock) d.geometry) d.geometry d.entries b last.0 sound.formed.each last.2 in
        let some : 1 ≤ d.geometry.shape.spb = sound.formed.is_geometry.spb.0 in
        number_is
        ∙ ap (λ (e : Entry). e.sector / g.shape.spb) (sym same)
        ∙ ap (λ (x : Geometry). last.0.sector / x.shape.spb) (sym to.geometry)
        ∙ ap (λ (n : ℕ). n / d.geometry.shape.spb) tells.1
        ∙ mul-div_cancel b some

    -- one that has a later entry,
    pub turned_older : (store : Store) (moments : List Content) → (newest number ≡ Some k → ⊥) → HasTurned d newest k store moments → HasTurned d newest (k + 1) store moments
    turned_older store moments older has =
        turned_same k store moments (λ b is. older (ap newest (number_of has.amid.sound b is) ∙ is)) has

    -- and the cell of one that has none.
    pub newest_cell : newest number ≡ Some k → last_cell d number ≡ cell_of entry
    newest_cell is =
        let last = last_there number k is in
        last_cell-entry d number last.0 last.2 ∙ ap cell_of (same_Some last.0 entry (sym last.1 ∙ sym used))

    -- Such a one is no longer ahead once its cell is in place.
    pub turned_one : (old store : Store) (before moments : List Content) → (has : HasTurned d newest k old before)
        → HasAmid d (without number has.ahead) (without number has.ahead) store moments → HasTurned d newest (k + 1) store moments
    turned_one old store before moments has amid = record {
      ahead = without number has.ahead;
      amid = amid;
      behind = λ b is. by b is (cases_eq number b);
    }
      where
        by : (b : ℕ) → without number has.ahead b ≡ true → (number ≡ b) ⊎ (number ≡ b → ⊥) → IsAhead newest (k + 1) b
        by b is (inl same) = absurd (false≢true (rw (eq-eqb number b same) at is))
        by b is (inr other) = ahead_more k b (λ at. other (number_of amid.sound b at)) (has.behind b (rw (ne_eqb number b other) at is))

  -- Behind all places none is ahead.
  pub turned_all : (k : ℕ) (store : Store) (moments : List Content) → k ≡ length (counted_places g d.journal) → HasTurned d newest k store moments → HasCells (all_placed d) store moments
  turned_all k store moments all has = record {
    sound = has.amid.sound;
    geometry = has.amid.geometry;
    now = λ c told.
        let is = has.amid.now c told in
        record {
          stands = is.stands;
          reads = record { each = λ b k low k_low. is.reads b k low k_low (none_ahead b) };
          tags_are = record { each = λ b low rests. is.tags_last b low rests (none_ahead b) };
        };
  }
    where
      none_ahead : (b : ℕ) → has.ahead b ≡ false
      none_ahead b = elim (cases_Bool (has.ahead b)) [
        | inl is ↦
            let ahead = has.behind b is in
            let there = last_there b ahead.at ahead.is in
            let low = numbered_low g d.journal ahead.at there.0 there.1 in
            let from = ahead.low in
            absurd (omega arith)
        | inr clear ↦ clear
      ]
