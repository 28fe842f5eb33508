-- What one call of a device in journal mode writes.
use Rattle.std.proofs.Common.{◌≡◌, ◌⊎◌, inl, inr, ⊎_elim, ℕ, zero, suc, ◌+◌, ◌*◌, ◌/◌, ◌<◌, ◌≤◌, Bool, true, false, List, [], ◌∷◌, length, slice_get, slice_index_or, Option, Some, None, refl, sym, ◌∙◌, ap, subst, arith}
use Rattle.std.specs.List.{AllByRecursion, Contains}
use Rattle.std.proofs.lemmas.Bool.{cases_eq, eq-eqb, ne_eqb}
use Rattle.std.proofs.lemmas.Grind.{flat_map-append}
use Rattle.std.proofs.Math.Nat.{div-lt_iff_lt-mul, mul-div_cancel_left, mul-le-mul_right}
use Rattle.disk_model.specs.Disk.{Content, Image, IsOfRun as IsOfBytes, OnlyAdds}
use Rattle.disk_model.specs.Moments.{EachSince}
use Rattle.disk_model.proofs.MomentsLemmas.{EachMoment-kept, adds_then, adds_wider}
use Rattle.image_model.specs.declared.flags.TheConstants.{RECALCULATING}
use Rattle.image_model.specs.Cells.{salt_of}
use Rattle.image_model.specs.Geometry.{Geometry, data_at, regions, section_at, section_sectors}
use Rattle.image_model.specs.Section.{Entry}
use Rattle.image_model.specs.Superblock.{Superblock, has_flag}
use Rattle.device_model.specs.History.{Change}
use Rattle.device_model.specs.Mode as Model
use Rattle.bitmap_laws.proofs.LeastLemmas.{least_found}
use Rattle.place_model.proofs.EachLemmas.{all_append, all_drop, all_flat, all_get}
use Rattle.journal_laws.specs.Device.{block_of, freed_count}
use Rattle.journal_laws.proofs.RingLemmas.{held_at}
use Rattle.direct_mode.specs.Cells.{IsOfBlockOrTags}
use Rattle.place_model.specs.Places.{IsOfPlaces, IsOfWritten}
use Rattle.journal_model.specs.Entries.{IsBlockEntry}
use Rattle.journal_model.specs.JournaledDisk.{JournaledDisk}
use Rattle.journal_model.specs.Ring.{JournalRing, entries_of, next_batch, with_commit}
use Rattle.journal_ring.specs.Batch.{WritesBatch}
use Rattle.journal_ring.specs.Places.{entry_of}
use Rattle.recalculate_laws.proofs.FormatsLemmas.{work_flag_law}
use Rattle.recalculation.specs.declared.recalculating.Recalculation.{Recalculation}
use Rattle.recalculation.specs.Recalculation.{HasFieldsThrough, IsOfTagsOrHead, WritesRegion, next_of}
use Rattle.recalculation.proofs.KeptLemmas.{next_is}
use Rattle.tag_store.specs.Store.{IsMarkedTags, IsOutForTag, Store}
use Rattle.place_model.specs.Tags.{HoldsTag}
use Rattle.device_opening.specs.Moves.{WritesEntry}
use Rattle.device_opening.specs.Placement.{placed_in}
use Rattle.place_model.specs.RecoveryWrites.{IsOfPlacing}
use Rattle.journal_device.specs.Closing.{WritesAll, WritesEntries, entries_to_place}
use Rattle.journal_device.specs.Commits.{WritesBatches, after_batch_of}
use Rattle.journal_device.specs.Journal.{PlacedRing, after_put, sections_of}
use Rattle.request_slots.specs.declared.turn.Turn.{Turn}
use Rattle.request_slots.specs.declared.turn.Turn.TheVariants as Turns
use Rattle.device_model.specs.declared.actor.Actor.{Actor}
use Rattle.device_model.specs.declared.actor.Actor.TheVariants as Actors
use Rattle.device_parts.specs.declared.condition.Condition.TheVariants as Conditions
use Rattle.device_parts.specs.declared.parts.Parts.{Parts}
use Rattle.device_parts.specs.Device.{Standing}
use Rattle.journal_device.proofs.OverDisk.{state_of}
use Rattle.journal_device.specs.Answers.{WritesAs, WritesClose, WritesFor, WritesMove, WritesRead, takes_first}
use Rattle.journal_device.specs.Device.{IsJournaled, awaiting_in, kept, standing_of, standing_on as journal_standing}
use Rattle.journal_device.proofs.DoneLemmas.{stands_now, works_now}
use Rattle.journal_device.specs.Standing.{StandsAs}
use Rattle.place_model.specs.Awaiting.{fields_of}
use Rattle.device.specs.Device.{IsInJournalMode}
use Rattle.place_model.specs.RunWrites.{IsAnyBlock, IsInJournal as IsOfJournal, IsOfRun, WritesOnly}
use Rattle.device.proofs.AwaitingLemmas.{heads_journal, heads_stay}
use Rattle.device.proofs.EmptiedLemmas.{place_behind}

-- ---- elements

all_at : {A : Type 0} (P : A → Type 0) (xs : List A) (k : ℕ) (d x : A) → k < length xs → slice_index_or xs k d ≡ x
    → AllByRecursion P xs → P x
all_at P [] k d x low at all = absurd (omega (arith, low))
all_at P (y ∷ ys) zero d x low at all = subst P at all.0
all_at P (y ∷ ys) (suc k) d x low at all = all_at P ys k d x (omega (arith, low)) at all.1

-- What holds of each element holds of one.
all_contains : {A : Type 0} (P : A → Type 0) (xs : List A) (x : A) → AllByRecursion P xs → Contains xs x → P x
all_contains P xs x all has = all_at P xs has.0 x x has.1 has.2 all

-- ---- batches

inside_committed : (ring : JournalRing) → ring.next < ring.geometry.sections
    → (with_commit ring).next < ring.geometry.sections
inside_committed ring inside =
    let n = ring.geometry.sections in
    let at = ring.next + next_batch ring in
    elim (cases_eq at n) [
      | inl end ↦ rw (eq-eqb at n end) (omega (arith, inside))
      | inr before ↦ rw (ne_eqb at n before) (omega (arith, before, inside))
    ]

-- The sectors of a batch are of the journal.
in_batch : (g : Geometry) (ring : JournalRing) → ring.geometry ≡ g → ring.next < ring.geometry.sections
    → {a b : List Content} → WritesBatch ring a b → EachSince (OnlyAdds (λ sector x. IsOfJournal g sector)) a b
in_batch g ring same inside {a} {b} writes =
    subst (λ (y : Geometry). EachSince (OnlyAdds (λ sector x. IsOfJournal y sector)) a b) same (of writes)
  where
    of : WritesBatch ring a b → EachSince (OnlyAdds (λ sector x. IsOfJournal ring.geometry sector)) a b
    of writes =
        let ss = section_sectors ring.geometry.shape in
        let one : length writes.bytes / 512 ≡ next_batch ring * ss = ap (λ (k : ℕ). k / 512) writes.batch.size ∙ mul-div_cancel_left (next_batch ring * ss) (omega arith) in
        let most : (ring.next + next_batch ring) * ss ≤ ring.geometry.sections * ss = mul-le-mul_right ss (omega (arith, inside)) in
        adds_wider (IsOfBytes (section_at ring.geometry ring.next) writes.bytes) (λ sector x. IsOfJournal ring.geometry sector)
        (λ sector x of. record { begins = omega (arith, of.begins); ends = omega (arith, of.ends, one, most) }) writes.adds

second_batch : (g : Geometry) (opened : List (List Entry)) (journal : PlacedRing) → journal.ring.geometry ≡ g
    → journal.ring.next < journal.ring.geometry.sections → {a b : List Content}
    → WritesBatch (after_batch_of opened journal).ring a b → EachSince (OnlyAdds (λ sector x. IsOfJournal g sector)) a b
second_batch g [] journal same inside writes = in_batch g journal.ring same inside writes
second_batch g (x ∷ xs) journal same inside writes =
    in_batch g (with_commit journal.ring) same (inside_committed journal.ring inside) writes

in_batches : (g : Geometry) (journal : PlacedRing) → journal.ring.geometry ≡ g
    → journal.ring.next < journal.ring.geometry.sections → {a b : List Content} → WritesBatches journal a b
    → EachSince (OnlyAdds (λ sector x. IsOfJournal g sector)) a b
in_batches g journal same inside (inl batch) = in_batch g journal.ring same inside batch
in_batches g journal same inside (inr two) =
    adds_then (λ sector x. IsOfJournal g sector) (in_batch g journal.ring same inside two.first)
    (second_batch g journal.ring.opened journal same inside two.second)

-- ---- what is written but sector 0

-- A sector of the journal, of tags, or of the data of a block.
abbrev pub IsOfCall : Geometry → (sector : ℕ) → List ℕ → Type 0
IsOfCall g sector x = IsOfJournal g sector ⊎ IsOfPlaces g IsAnyBlock sector x

module _ (d : JournaledDisk) (journal : PlacedRing) (store : Store)
    (ring_is : journal.ring.geometry ≡ d.geometry) (store_is : d.geometry ≡ store.geometry)
    (inside : journal.ring.next < journal.ring.geometry.sections) (some : 0 < d.geometry.shape.spb) where
  abbrev Only : (a b : List Content) → Type 0
  Only a b = EachSince (OnlyAdds (IsOfCall d.geometry)) a b

  of_journal : {a b : List Content} → EachSince (OnlyAdds (λ sector x. IsOfJournal d.geometry sector)) a b → Only a b
  of_journal writes = adds_wider (λ sector x. IsOfJournal d.geometry sector) (IsOfCall d.geometry) (λ sector x of. inl of) writes

  of_tags : {a b : List Content} (W : ℕ → List ℕ → Type 0) → ((sector : ℕ) (x : List ℕ) → W sector x → HoldsTag store.geometry sector)
      → EachSince (OnlyAdds W) a b → Only a b
  of_tags W tags writes =
      adds_wider W (IsOfCall d.geometry)
      (λ sector x of. inr (inl (subst (λ (y : Geometry). HoldsTag y sector) (sym store_is) (tags sector x of)))) writes

  -- A read writes sectors of tags.
  read_only : (parts : Parts) → parts.tags ≡ store → (takes : Bool) (block : ℕ) {a b : List Content} → WritesRead takes block parts a b → Only a b
  read_only parts same true block {a} {b} tags =
      of_tags (λ sector x. HoldsTag store.geometry sector) (λ sector x of. of)
      (subst (λ (y : Store). EachSince (OnlyAdds (λ sector x. HoldsTag y.geometry sector)) a b) same tags)
  read_only parts same false block {a} {b} tags =
      of_tags (IsOutForTag block store) (λ sector x of. of.marked.tags)
      (subst (λ (y : Store). EachSince (OnlyAdds (IsOutForTag block y)) a b) same tags)

  -- A serve writes sectors of tags, or batches.
  serve_only : (parts : Parts) → parts.tags ≡ store → (r : Recalculation) (turn : Turn) {a b : List Content} → WritesFor turn parts (state_of journal r) a b → Only a b
  serve_only parts same r Turns.Finished kept = EachMoment-kept _ kept
  serve_only parts same r (Turns.Held by) kept = EachMoment-kept _ kept
  serve_only parts same r (Turns.Read block) tags = read_only parts same (takes_first journal r block) block tags
  serve_only parts same r (Turns.Write block true) (inl kept) = EachMoment-kept _ kept
  serve_only parts same r (Turns.Write block true) {a} {b} (inr writes) =
      let entry = entry_of journal.ring.geometry block writes.more.bytes writes.more.tag in
      of_journal (in_batches d.geometry (after_put entry journal) ring_is inside
      (subst (λ (j : PlacedRing). WritesBatches j a b) writes.more.is writes.batches))
  serve_only parts same r (Turns.Write block false) kept = EachMoment-kept _ kept
  serve_only parts same r Turns.Flush batches = of_journal (in_batches d.geometry journal ring_is inside batches)

  abbrev IsWhole : Entry → Type 0
  IsWhole = IsBlockEntry d.key (salt_of d.superblock) d.geometry

  -- An entry of a whole block comes to its place in the data.
  in_data : (entry : Entry) → IsWhole entry → (sector : ℕ) (x : List ℕ)
      → IsOfBytes (data_at d.geometry (block_of d.geometry entry)) entry.bytes sector x → IsOfWritten d.geometry IsAnyBlock sector
  in_data entry is sector x own =
      let spb = d.geometry.shape.spb in
      let sectors : length entry.bytes / 512 ≡ spb = ap (λ (k : ℕ). k / 512) is.bytes ∙ mul-div_cancel_left spb (omega arith) in
      record {
        block = block_of d.geometry entry;
        written = tt;
        data_ = record {
          low = (div-lt_iff_lt-mul some).1 is.replayable.inside;
          begins = own.begins;
          ends = omega (arith, own.ends, sectors);
        };
      }

  entry_only : (next : Option Entry) → ((entry : Entry) → next ≡ Some entry → IsBlockEntry d.key (salt_of d.superblock) d.geometry entry)
      → {a b : List Content} → WritesEntry d.geometry next a b → Only a b
  entry_only None whole kept = EachMoment-kept _ kept
  entry_only (Some entry) whole writes =
      adds_wider (IsOfBlockOrTags d.geometry (block_of d.geometry entry) entry.bytes) (IsOfCall d.geometry)
      (λ sector x of. ⊎_elim (λ own. inr (inr (in_data entry (whole entry refl) sector x own))) (λ tags. inr (inl tags)) of) writes

  -- So do several,
  entries_only : (entries : List Entry) → AllByRecursion IsWhole entries → {a b : List Content} → WritesEntries d.geometry entries a b → Only a b
  entries_only entries whole writes =
      adds_wider (IsOfPlacing d.geometry (Contains entries)) (IsOfCall d.geometry)
      (λ sector x of. ⊎_elim
      (λ own. inr (inr (in_data own.entry (all_contains IsWhole entries own.entry whole own.among) sector x own.in_place)))
      (λ tags. inr (inl tags)) of) writes

  -- as in a close, which writes batches before.
  close_only : AllByRecursion IsWhole (entries_to_place journal) → {a b : List Content} → WritesAll journal a b → Only a b
  close_only whole {a} {b} writes =
      adds_then (IsOfCall d.geometry) (of_journal (in_batches d.geometry journal ring_is inside writes.batches))
      (entries_only (entries_to_place journal) whole
      (subst (λ (y : Geometry). WritesEntries y (entries_to_place journal) writes.middle b) ring_is writes.places))

  -- ---- sector 0, too

  module _ (entry : Image) (changes : List Change) where
    abbrev Writes : (a b : List Content) → Type 0
    Writes a b = WritesOnly Model.Journal d.geometry entry changes a b

    wide : {a b : List Content} → EachSince (OnlyAdds (IsOfCall d.geometry)) a b → WritesOnly Model.Journal d.geometry entry changes a b
    wide writes = adds_wider (IsOfCall d.geometry) (IsOfRun Model.Journal d.geometry entry changes) (λ sector x of. inr of) writes

    -- Where tags are to be recalculated sector 0 may be written.
    of_head : {a b : List Content} → has_flag RECALCULATING (fields_of entry).flags ≡ true → EachSince (OnlyAdds (IsOfTagsOrHead store.geometry)) a b → Writes a b
    of_head flag writes =
        adds_wider (IsOfTagsOrHead store.geometry) (IsOfRun Model.Journal d.geometry entry changes)
        (λ sector x of. ⊎_elim
        (λ tag. inr (inr (inl (subst (λ (y : Geometry). HoldsTag y sector) (sym store_is) tag))))
        (λ head. inl (record { is = head; flag = flag })) of) writes

    region_only : (o : Option ℕ) → ((region : ℕ) → o ≡ Some region → has_flag RECALCULATING (fields_of entry).flags ≡ true) → {a b : List Content} → WritesRegion o store.geometry a b → Writes a b
    region_only None flag same = EachMoment-kept _ same
    region_only (Some region) flag writes = of_head (flag region refl) writes

    move_only : (t : Bool) → (t ≡ true → has_flag RECALCULATING (fields_of entry).flags ≡ true) → {a b : List Content} → WritesMove t store.geometry a b → Writes a b
    move_only true flag writes = of_head (flag refl) writes
    move_only false flag same = EachMoment-kept _ same

    -- A step writes a batch, an entry in its place, or sectors of tags; and where a region awaits, sector 0.
    step_only : (parts : Parts) → parts.tags ≡ store → (r : Recalculation) → ((region : ℕ) → next_of r ≡ Some region → has_flag RECALCULATING (fields_of entry).flags ≡ true) → (actor : Actor)
        → ((entry : Entry) → slice_get (entries_of journal.ring.committed) (placed_in journal.placement journal.ring) ≡ Some entry
        → IsBlockEntry d.key (salt_of d.superblock) d.geometry entry)
        → {a b : List Content} → WritesAs actor parts (state_of journal r) a b → WritesOnly Model.Journal d.geometry entry changes a b
    step_only parts same r flag Actors.Commit whole batch = wide (of_journal (in_batch d.geometry journal.ring ring_is inside batch))
    step_only parts same r flag Actors.Place whole {a} {b} writes =
        let next = slice_get (entries_of journal.ring.committed) (placed_in journal.placement journal.ring) in
        wide (entry_only next whole (subst (λ (y : Geometry). WritesEntry y next a b) ring_is writes))
    step_only parts same r flag Actors.Settle whole {a} {b} writes =
        wide (of_tags (IsMarkedTags store) (λ sector x of. of.tags)
        (subst (λ (y : Store). EachSince (OnlyAdds (IsMarkedTags y)) a b) same writes.tags))
    step_only parts same r flag Actors.Clean whole kept = EachMoment-kept _ kept
    step_only parts same r flag Actors.Recalc whole {a} {b} writes =
        region_only (next_of r) flag (subst (λ (y : Store). WritesRegion (next_of r) y.geometry a b) same writes)

    -- A close writes the journal out, and then moves the position.
    whole_close : AllByRecursion IsWhole (entries_to_place journal) → (parts : Parts) → parts.tags ≡ store → (r : Recalculation)
        → (has_flag RECALCULATING r.position.flags ≡ true → has_flag RECALCULATING (fields_of entry).flags ≡ true)
        → {a b : List Content} → WritesClose (kept parts (state_of journal r)) a b → WritesOnly Model.Journal d.geometry entry changes a b
    whole_close whole parts same r flag {a} {b} writes =
        let set = has_flag RECALCULATING r.position.flags in
        adds_then (IsOfRun Model.Journal d.geometry entry changes) (wide (close_only whole writes.all))
        (move_only set flag (subst (λ (y : Store). WritesMove set y.geometry writes.middle b) same writes.moves))

-- ---- a device in journal mode

module _ (w : Standing) (common : Parts) (journal : PlacedRing) (r : Recalculation) (a : List Content) (is : IsJournaled w Conditions.Working (kept common (state_of journal r)) a) where
  abbrev stands : StandsAs (standing_of (journal_standing w is.disk)) journal common.tags a
  stands = stands_now (journal_standing w is.disk) common journal r a is.over

  ring_same : journal.ring.geometry ≡ is.disk.geometry
  ring_same = stands.device.is_ring.geometry

  next_inside : journal.ring.next < journal.ring.geometry.sections
  next_inside =
      omega (arith, stands.device.is_ring.next, stands.device.is_ring.rests.at.inside, ap (λ (g : Geometry). g.sections) ring_same)

  block_some : 0 < is.disk.geometry.shape.spb
  block_some = stands.device.sound.formed.is_geometry.spb.0

  -- The entries of the committed sections are those of the disk.
  committed_whole : AllByRecursion (IsBlockEntry is.disk.key (salt_of is.disk.superblock) is.disk.geometry) (entries_of journal.ring.committed)
  committed_whole =
      let P = IsBlockEntry is.disk.key (salt_of is.disk.superblock) is.disk.geometry in
      let sound = stands.device.sound in
      subst (AllByRecursion P) (held_at is.disk journal.ring sound stands.device.is_ring) (all_drop P (freed_count is.disk journal.ring) is.disk.entries sound.formed.each)

  -- The next entry that comes to its place is one of them,
  next_whole : (entry : Entry) → slice_get (entries_of journal.ring.committed) (placed_in journal.placement journal.ring) ≡ Some entry
      → IsBlockEntry is.disk.key (salt_of is.disk.superblock) is.disk.geometry entry
  next_whole entry told =
      all_get (IsBlockEntry is.disk.key (salt_of is.disk.superblock) is.disk.geometry) (entries_of journal.ring.committed)
      (placed_in journal.placement journal.ring) entry committed_whole told

  -- and all that come there in a close are of them, or of the opened sections.
  all_whole : AllByRecursion (IsBlockEntry is.disk.key (salt_of is.disk.superblock) is.disk.geometry) (entries_to_place journal)
  all_whole =
      let P = IsBlockEntry is.disk.key (salt_of is.disk.superblock) is.disk.geometry in
      let ring = journal.ring in
      all_drop P (placed_in journal.placement ring) (entries_of (sections_of ring))
      (subst (AllByRecursion P) (sym (flat_map-append (λ (entries : List Entry). entries) ring.committed ring.opened))
      (all_append P (entries_of ring.committed) (entries_of ring.opened) committed_whole (all_flat P ring.opened stands.device.is_ring.each)))

  -- A serve does not write sector 0,
  serve_call : (turn : Turn) {b : List Content} → WritesFor turn common (state_of journal r) a b → EachSince (OnlyAdds (IsOfCall is.disk.geometry)) a b
  serve_call turn writes = serve_only is.disk journal common.tags ring_same stands.placed.cells.geometry next_inside block_some common refl r turn writes

  not_first : (x : List ℕ) → IsOfCall is.disk.geometry 0 x → ⊥
  not_first x of = elim of [
    | inl section ↦ let begins = section.begins in omega (arith, begins)
    | inr place ↦
        let behind = place_behind is.disk.geometry is.disk.sectors IsAnyBlock 0 x stands.device.sound.formed.is_geometry place in
        omega (arith, behind)
  ]

  -- so each image has the fields that it had.
  pub serve_fields : (turn : Turn) {b : List Content} → WritesFor turn common (state_of journal r) a b → HasFieldsThrough w.on r.position r.position a b
  serve_fields turn writes = heads_stay w r.position (IsOfCall is.disk.geometry) not_first (heads_journal w (kept common (state_of journal r)) a is) (serve_call turn writes)

  -- Where a region awaits the flag is set.
  set_flag : (region : ℕ) → next_of r ≡ Some region → has_flag RECALCULATING r.position.flags ≡ true
  set_flag region next =
      let d = is.disk in
      let awaiting = awaiting_in (journal_standing w d) in
      let works = works_now (journal_standing w d) common journal r a is.over in
      let least = sym (next_is d.format awaiting r works.recalc_) ∙ next in
      ap (λ (s : Superblock). has_flag RECALCULATING s.flags) works.recalc_.fields
      ∙ work_flag_law d.format awaiting region works.work (least_found (regions d.geometry) awaiting region least).1

-- What its calls write, whatever changes.
module _ (w : Standing) (common : Parts) (journal : PlacedRing) (r : Recalculation) (a : List Content) (is : IsInJournalMode w Conditions.Working (kept common (state_of journal r)) a) (changes : List Change) where
  abbrev Writes_ : List Content → Type 0
  Writes_ b = WritesOnly Model.Journal w.on.geometry w.entry changes a b

  at_on : {b : List Content} → WritesOnly Model.Journal is.journaled.disk.geometry w.entry changes a b → WritesOnly Model.Journal w.on.geometry w.entry changes a b
  at_on {b} writes = subst (λ (g : Geometry). WritesOnly Model.Journal g w.entry changes a b) is.journaled.format.geometry writes

  pub journal_serve_only : (turn : Turn) {b : List Content} → WritesFor turn common (state_of journal r) a b → WritesOnly Model.Journal w.on.geometry w.entry changes a b
  journal_serve_only turn writes =
      let own = is.journaled in
      at_on (wide own.disk journal common.tags (ring_same w common journal r a own) (stands w common journal r a own).placed.cells.geometry
      (next_inside w common journal r a own) (block_some w common journal r a own) w.entry changes (serve_call w common journal r a own turn writes))

  pub journal_step_only : (actor : Actor) {b : List Content} → WritesAs actor common (state_of journal r) a b → WritesOnly Model.Journal w.on.geometry w.entry changes a b
  journal_step_only actor writes =
      let own = is.journaled in
      at_on (step_only own.disk journal common.tags (ring_same w common journal r a own) (stands w common journal r a own).placed.cells.geometry
      (next_inside w common journal r a own) (block_some w common journal r a own) w.entry changes common refl r
      (λ region next. (is.no_more refl).flag (set_flag w common journal r a own region next)) actor (next_whole w common journal r a own) writes)

  pub journal_close_only : {b : List Content} → WritesClose (kept common (state_of journal r)) a b → WritesOnly Model.Journal w.on.geometry w.entry changes a b
  journal_close_only writes =
      let own = is.journaled in
      at_on (whole_close own.disk journal common.tags (ring_same w common journal r a own) (stands w common journal r a own).placed.cells.geometry
      (next_inside w common journal r a own) (block_some w common journal r a own) w.entry changes (all_whole w common journal r a own) common refl r
      (is.no_more refl).flag writes)
