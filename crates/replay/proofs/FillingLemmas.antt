-- A blank journal is filled: its blank sectors are those that the cells of a scan give no number.
use Rattle.std.proofs.Common.{◌≡◌, ◌⊎◌, inl, inr, ⊎_elim, ℕ, ◌+◌, ◌*◌, ◌-◌, ◌/◌, ◌%◌, ◌<◌, ◌≤◌, ◌&&◌, Bool, true, false, not, nat_lt, refl, sym, ◌∙◌, ap, subst, arith, Option, Some, None, Ok, List, [], length, Result, IfOk}
use Rattle.std.specs.List.{Contains, flat_map}
use Rattle.std.proofs.Math.Nat.{mul-le-mul_left}
use Rattle.std.proofs.lemmas.Bool.{cases_Bool, cases_lt, and_parts, lt-ltb, true≢false}
use Rattle.std.proofs.lemmas.List.{drop_all}
use Rattle.disk_model.specs.Disk.{Content, EachImage, HasNothingPending, Image, IsImage, IsOfRun, OnlyAdds, last_image, newest_only, sector_in}
use Rattle.disk_model.specs.Identity.{DiskIdentity}
use Rattle.disk_model.specs.Moments.{EachMoment, EachSince, HasNow, IsChangedBy, content_now}
use Rattle.disk_model.proofs.DiskLemmas.{OnlyAdds-join, OnlyAdds-wider, newest_only-pending}
use Rattle.disk_model.proofs.MomentsLemmas.{EachMoment-join, EachMoment-weaker, FromStart-weaker, adds_wider, each_content}
use Rattle.image_model.specs.declared.journal_plan.Plan.{Plan}
use Rattle.image_model.specs.declared.journal_plan.State.{State}
use Rattle.image_model.specs.declared.journal_plan.State.TheVariants.{Blank, Erasing, Mixed, Rest}
use Rattle.image_model.specs.declared.scan_fault.ScanFault.{ScanFault}
use Rattle.image_model.specs.declared.sector_cell.Cell.TheVariants.{Number, Other, Zero}
use Rattle.image_model.specs.Cells.{replayed_entries}
use Rattle.image_model.specs.CommitId.{commit_number}
use Rattle.image_model.specs.Geometry.{Geometry, IsGeometry, journal_sectors, section_at, section_sectors}
use Rattle.image_model.specs.Grid.{IsGridOf, blank_bound, cell_by, grid_of, grid_with, is_zero_sector, walk_of}
use Rattle.image_model.specs.Scan.{Grid, IsGrid, SectorCell, cell_at, number_at}
use Rattle.image_model.specs.Section.{Entry}
use Rattle.image_model.specs.Tables.{IsBlank, IsBlankSector, IsPlanOf}
use Rattle.image_model.specs.Walk.{bears, later, sections_of}
use Rattle.image_model.proofs.BelowLemmas.{all_or_some}
use Rattle.image_model.proofs.Bounds.{has_entries}
use Rattle.image_model.proofs.GridLemmas.{cell_at-grid_with, commit_number-zero, grid_law}
use Rattle.image_model.proofs.ScanLemmas.{place_inside, place_low, scan_law}
use Rattle.image_model.proofs.WalkLemmas.{bears_it}
use Rattle.commit_id.specs.Grid.{as_grid}
use Rattle.place_model.specs.Journal.{entries_in}
use Rattle.place_model.proofs.JournalLemmas.{replayed_entries-plan}
use Rattle.buffer_cache.proofs.CachedLemmas.{changed_now}
use Rattle.journal_model.specs.JournaledDisk.{IsCutOf, JournaledDisk, Rests, StandsFor}
use Rattle.change_model.specs.Filling.{IsBlankDisk, IsOfBlank, ReadsFilled, StandsFilling, after_filling, filled_journal}
use Rattle.change_model.proofs.BlankLemmas.{blank_counts_none}
use Rattle.change_model.proofs.FillingLemmas.{filling_begins, filling_cut, filling_ends, filling_goes_on}
use Rattle.image_model.specs.EmptySections.{AreEmptySections, empty_image}
use Rattle.journal_erasure.specs.Filling.{IsOfLacking, lacks_number, with_lacking}
use Rattle.journal_erasure.proofs.EmptyLemmas.{empty_journal}
use Rattle.journal_erasure.proofs.PartsLemmas.{chosen-adds, chosen-image, last-chosen, last-other}
use Rattle.journal_reading.specs.declared.reading.JudgedJournal.{JudgedJournal}
use Rattle.journal_reading.specs.Journal.{FitsJournal, IsJournalOn}
use Rattle.place_writer.specs.Cells.{HasCells}
use Rattle.place_writer.proofs.StoreCalls.{ReadsWhole}
use Rattle.tag_store.specs.Store.{IsStore, Store, given_tags}
use Rattle.place_model.specs.Tags.{HoldsTag}
use Rattle.replay.specs.declared.recovered.Recovered.{Recovered}
use Rattle.replay.specs.Recovery.{IsReplayed, LeavesRecovered}
use Rattle.replay.specs.Writes.{FillsBlank, IsOfBlankSector, IsOfUnnumbered}
use Rattle.place_model.specs.RecoveryWrites.{IsOfEmptyJournal, IsOfPlacing}
use Rattle.replay.proofs.BehindLemmas.{KeepsBehind, changed_recovered, store_changed}
use Rattle.replay.proofs.FinishingLemmas.{rules}
use Rattle.replay.proofs.RestingLemmas.{same_plan}
use Rattle.replay.proofs.WritesLemmas.{empty_adds}

-- ---- the number

-- The number of a blank journal is a commit number.
number_low : (grid : Grid) (number : ℕ) → IsGrid grid → IsBlank grid number → number < 4
number_low grid number is blank = elim (all_or_some (length grid.cells) (IsBlankSector grid) (λ k. IsBlankSector grid k → ⊥) (λ k low. blank_or_not k)) [
  | inl all ↦ let none = blank.no_others all in omega (arith, none)
  | inr some ↦ is.numbers some.0 number (blank.others some.0 some.1 some.2)
]
  where
    zero_or_not : (cell : SectorCell) → (cell ≡ Zero) ⊎ (cell ≡ Zero → ⊥)
    zero_or_not Zero = inl refl
    zero_or_not (Number number) = inr (λ e. absurd (cc))
    zero_or_not (Other found) = inr (λ e. absurd (cc))

    blank_or_not : (k : ℕ) → IsBlankSector grid k ⊎ (IsBlankSector grid k → ⊥)
    blank_or_not k = elim (cases_lt k grid.bitmap) [
      | inr past ↦ inr (λ blank. let low = blank.0 in absurd (omega (arith, low, past)))
      | inl low ↦ elim (zero_or_not (cell_at grid k)) [ inl zero ↦ inl (low, zero) | inr other ↦ inr (λ blank. other blank.1) ]
    ]

pub blank_low : (g : Geometry) (journal : JudgedJournal) (number : ℕ) → FitsJournal g journal → journal.plan.state ≡ Blank number → number < 4
blank_low g journal number fits state =
    number_low (as_grid journal.grid) number fits.grid_.is_grid (subst (IsPlanOf (as_grid journal.grid) (sections_of journal.plan.walk)) state (rules g journal fits)).0

-- There is a cell of each sector.
pub cells_fit : (g : Geometry) (journal : JudgedJournal) → FitsJournal g journal → length (as_grid journal.grid).cells ≡ journal_sectors g
cells_fit g journal fits =
    fits.grid_.is_grid.cells
    ∙ ap (λ (n : ℕ). n * (as_grid journal.grid).sectors) fits.grid_.sections
    ∙ ap (λ (n : ℕ). g.sections * n) fits.grid_.sectors

-- ---- which sectors are blank

-- A cell of a zero sector alone is Zero.
cell_zero : (number : Option ℕ) (bytes : List ℕ) → cell_by number bytes ≡ Zero → is_zero_sector bytes ≡ true
cell_zero (Some number) bytes e = absurd (cc)
cell_zero None bytes e = elim (cases_Bool (is_zero_sector bytes)) [
  | inl zeros ↦ zeros
  | inr other ↦ absurd (let wrong = rw other at e in cc)
]

not_true : (b : Bool) → not b ≡ true → b ≡ false
not_true true e = absurd (true≢false (sym e))
not_true false e = refl

module _ (g : Geometry) (sectors number : ℕ) (image : Image) (plan : Plan) (grid : Grid) (geometry : IsGeometry g sectors) (walk : walk_of g image ≡ Ok plan) (state : plan.state ≡ Blank number)
    (is : IsGridOf g image grid) where
  abbrev width : ℕ
  width = section_sectors g.shape

  blank_there : IsBlank (grid_of g image) number
  blank_there =
      let found = subst (λ (r : Result Plan ScanFault). IfOk r (λ (plan : Plan). IsPlanOf (grid_of g image) (sections_of plan.walk) plan.state)) walk (scan_law (grid_of g image) (grid_law g sectors image geometry).is_grid).plan in
      (subst (IsPlanOf (grid_of g image) (sections_of plan.walk)) state found).0

  wide : 0 < section_sectors g.shape
  wide =
      let has = has_entries g.shape geometry.spb.0 geometry.spb.1 geometry.tag_size.0 geometry.tag_size.1 in
      let low = has.sectors_low in
      omega arith

  cells_there : length (grid_of g image).cells ≡ journal_sectors g
  cells_there =
      let own = grid_law g sectors image geometry in
      own.is_grid.cells ∙ ap (λ (n : ℕ). n * (grid_of g image).sectors) own.sections ∙ ap (λ (m : ℕ). g.sections * m) own.sectors

  -- Both grids give a sector the number that it bears.
  number_is : (k : ℕ) → k < journal_sectors g → number_at grid k ≡ commit_number (k / section_sectors g.shape) (k % section_sectors g.shape) (image (8 + k))
  number_is k low =
      let place = place_inside g.sections width k wide low in
      let at : section_at g (k / width) + k % width ≡ 8 + k = omega (arith, place.2) in
      sym (ap (number_at grid) (ap (λ (m : ℕ). k / width * m + k % width) is.sectors ∙ place.2))
      ∙ is.numbers (k / width) (k % width) place.0 place.1
      ∙ ap (λ (n : ℕ). commit_number (k / width) (k % width) (image n)) at

  number_there : (k : ℕ) → k < journal_sectors g → number_at (grid_of g image) k ≡ commit_number (k / section_sectors g.shape) (k % section_sectors g.shape) (image (8 + k))
  number_there k low =
      let own = grid_law g sectors image geometry in
      let place = place_inside g.sections width k wide low in
      let at : section_at g (k / width) + k % width ≡ 8 + k = omega (arith, place.2) in
      sym (ap (number_at (grid_of g image)) (ap (λ (m : ℕ). k / width * m + k % width) own.sectors ∙ place.2))
      ∙ own.numbers (k / width) (k % width) place.0 place.1
      ∙ ap (λ (n : ℕ). commit_number (k / width) (k % width) (image n)) at

  -- A sector that does not bear the number is blank,
  pub lacking_blank : (k : ℕ) → k < journal_sectors g → lacks_number grid.cells number k ≡ true → (k < blank_bound g) × (is_zero_sector (image (8 + k)) ≡ true)
  unfolding grid_with
  lacking_blank k low lacks = elim (cases_lt k (blank_bound g)) [
    | inr past ↦ absurd (bears_not (λ blank. let under = blank.0 in omega (arith, under, past)))
    | inl under ↦ elim (cases_Bool (is_zero_sector (image (8 + k)))) [
      | inl zeros ↦ (under, zeros)
      | inr other ↦ absurd (bears_not (λ blank. true≢false (sym (zeros_there blank.1) ∙ other)))
    ]
  ]
    where
      zeros_there : cell_at (grid_of g image) k ≡ Zero → is_zero_sector (image (8 + k)) ≡ true
      zeros_there zero = cell_zero (commit_number (k / section_sectors g.shape) (k % section_sectors g.shape) (image (8 + k))) (image (8 + k)) (sym (cell_at-grid_with (blank_bound g) g image k low) ∙ zero)

      bears_not : (IsBlankSector (grid_of g image) k → ⊥) → ⊥
      bears_not other =
          let some = blank_there.others k (omega (arith, low, cells_there)) other in
          let here : number_at grid k ≡ Some number = number_is k low ∙ sym (number_there k low) ∙ some in
          true≢false (sym (bears_it (number_at grid k) number here) ∙ not_true (bears (number_at grid k) number) lacks)

  -- and a blank one does not bear it.
  pub blank_lacking : (k : ℕ) → k < journal_sectors g → is_zero_sector (image (8 + k)) ≡ true → lacks_number grid.cells number k ≡ true
  blank_lacking k low zeros =
      let place = place_inside g.sections width k wide low in
      let few = geometry.journal in
      let quotient : k / width ≤ k / width * width = let o = mul-le-mul_left (k / width) (let one : 1 ≤ width = omega (arith, wide) in one) in omega (arith, o) in
      let none : number_at grid k ≡ None = number_is k low ∙ commit_number-zero (k / width) (k % width) (image (8 + k)) (omega (arith, place.2, quotient, low)) (omega (arith, place.2, low)) zeros in
      ap (λ (n : Option ℕ). not (bears n number)) none

-- ---- on a disk

module _ (d : JournaledDisk) (number : ℕ) (bytes : List ℕ) (journal : JudgedJournal) (replayed : IsReplayed d d.geometry journal) (state : journal.plan.state ≡ Blank number) (are : AreEmptySections d.geometry number bytes) where
  abbrev empty : Image
  empty = empty_image d.geometry bytes

  abbrev cells : List SectorCell
  cells = (as_grid journal.grid).cells

  abbrev filled : Content → Content
  filled c = with_lacking d.geometry (as_grid journal.grid).cells number bytes c

  -- Its journal is blank.
  is_blank : IsBlankDisk d number (empty_image d.geometry bytes)
  is_blank = record { settled = replayed.settled; plan = journal.plan; walk_is = replayed.on.plan_; state_is = state; empty_is = empty_journal d number bytes are }

  -- The sectors that are written are blank.
  is_of_blank : IsGeometry d.geometry d.sectors → (s : ℕ) (x : List ℕ) → IsOfLacking d.geometry (as_grid journal.grid).cells number bytes s x → IsOfBlank d (empty_image d.geometry bytes) s x
  is_of_blank geometry s x of =
      let g = d.geometry in
      let blank = lacking_blank g d.sectors number d.journal journal.plan (as_grid journal.grid) geometry replayed.on.plan_ state replayed.on.grid_ of.place of.ends of.marked in
      let some = wide g d.sectors number d.journal journal.plan (as_grid journal.grid) geometry replayed.on.plan_ state replayed.on.grid_ in
      let width = section_sectors g.shape in
      let inside = place_inside g.sections width of.place some of.ends in
      let there : s ≡ 8 + of.place = omega (arith, of.is) in
      record {
        on = record { section = of.place / width; place = of.place % width; inside = inside.0; narrow = inside.1; is = omega (arith, there, inside.2) };
        inside = omega (arith, there, blank.0);
        zeros = ap (λ (n : ℕ). is_zero_sector (d.journal n)) there ∙ blank.1;
        is = of.holds ∙ ap (sector_in bytes) (let place : of.place ≡ s - section_at g 0 = omega (arith, there) in place);
      }

  begun : (start c : Content) → StandsFor d start → OnlyAdds (IsOfLacking d.geometry (as_grid journal.grid).cells number bytes) start c → StandsFilling d number (empty_image d.geometry bytes) c
  begun start c stands adds =
      filling_goes_on d number empty start c (filling_begins d number empty start stands replayed.whole is_blank)
      (OnlyAdds-wider (IsOfLacking d.geometry cells number bytes) (IsOfBlank d empty) (is_of_blank stands.sound.formed.is_geometry) start c adds)

  -- A cut leaves the same cells.
  pub filling_cuts : (start c : Content) → StandsFor d start → OnlyAdds (IsOfLacking d.geometry (as_grid journal.grid).cells number bytes) start c → EachImage (IsCutOf d []) c
  filling_cuts start c stands adds image is = (filling_cut d number empty c (begun start c stands adds) image is).0

  -- What reads give of the journal at the end is the filled one.
  reads_filled : (start : Content) → StandsFor d start → IsImage start (last_image start) → ReadsFilled d (empty_image d.geometry bytes) (with_lacking d.geometry (as_grid journal.grid).cells number bytes start)
  reads_filled start stands shows sector on =
      let g = d.geometry in
      let width = section_sectors g.shape in
      let k : ℕ = on.section * width + on.place in
      let low = place_low g.sections width on.section on.place on.inside on.narrow in
      let there : sector ≡ 8 + k = omega (arith, on.is) in
      let place : sector - section_at g 0 ≡ k = omega (arith, there) in
      elim (cases_Bool (lacks_number cells number k)) [
        | inl lacks ↦
            let blank = lacking_blank g d.sectors number d.journal journal.plan (as_grid journal.grid) stands.sound.formed.is_geometry replayed.on.plan_ state replayed.on.grid_ k low lacks in
            let zeros : is_zero_sector (d.journal sector) ≡ true = ap (λ (n : ℕ). is_zero_sector (d.journal n)) there ∙ blank.1 in
            last-chosen (lacks_number cells number) (section_at g 0) 0 (journal_sectors g) bytes start sector
            (record { low = omega (arith, there); high = omega (arith, there, low); is = ap (lacks_number cells number) place ∙ lacks })
            ∙ sym (rw (lt-ltb sector (8 + blank_bound g) (omega (arith, there, blank.0)), zeros) refl)
        | inr bears_it ↦
            last-other (lacks_number cells number) (section_at g 0) 0 (journal_sectors g) bytes start sector
            (λ chosen. true≢false (sym chosen.is ∙ ap (lacks_number cells number) place ∙ bears_it))
            ∙ (stands.each sector (last_image start sector) (shows sector)).journal on
            ∙ sym (stays sector k there low bears_it stands.sound.formed.is_geometry)
      ]
    where
      stays : (sector k : ℕ) → sector ≡ 8 + k → k < journal_sectors d.geometry → lacks_number (as_grid journal.grid).cells number k ≡ false → IsGeometry d.geometry d.sectors
          → filled_journal d (empty_image d.geometry bytes) sector ≡ d.journal sector
      stays sector k there low bears_it geometry = elim (cases_Bool (nat_lt sector (8 + blank_bound d.geometry) && is_zero_sector (d.journal sector))) [
        | inl blank ↦
            let zeros = (and_parts (nat_lt sector (8 + blank_bound d.geometry)) (is_zero_sector (d.journal sector)) blank).1 in
            let lacks = blank_lacking d.geometry d.sectors number d.journal journal.plan (as_grid journal.grid) geometry replayed.on.plan_ state replayed.on.grid_ k low (ap (λ (n : ℕ). is_zero_sector (d.journal n)) (sym there) ∙ zeros) in
            absurd (true≢false (sym lacks ∙ bears_it))
        | inr other ↦ rw other refl
      ]

  -- At the end the journal is empty and at rest.
  pub filling_ended : (start : Content) → StandsFor d start → IsImage start (last_image start)
      → StandsFor (after_filling d number (empty_image d.geometry bytes)) (newest_only (with_lacking d.geometry (as_grid journal.grid).cells number bytes start))
      × Rests (after_filling d number (empty_image d.geometry bytes))
  filling_ended start stands shows =
      filling_ends d number empty (filled start)
      (begun start (filled start) stands (chosen-adds (lacks_number cells number) (section_at d.geometry 0) 0 (journal_sectors d.geometry) bytes start))
      (chosen-image (lacks_number cells number) (section_at d.geometry 0) 0 (journal_sectors d.geometry) bytes start shows)
      (reads_filled start stands shows)

-- ---- for callers

-- Each moment leaves cuts.
pub fill_cuts : {a b : List Content} (g : Geometry) (number : ℕ) (bytes : List ℕ) (journal : JudgedJournal) (d : JournaledDisk) → IsReplayed d g journal → journal.plan.state ≡ Blank number
    → AreEmptySections g number bytes → HasNow (StandsFor d) a → EachSince (OnlyAdds (IsOfLacking g (as_grid journal.grid).cells number bytes)) a b → EachMoment a b (EachImage (IsCutOf d []))
fill_cuts {a} {b} g number bytes journal d replayed state are now m =
    subst (λ (x : Geometry). IsReplayed d x journal → AreEmptySections x number bytes
    → EachSince (OnlyAdds (IsOfLacking x (as_grid journal.grid).cells number bytes)) a b → EachMoment a b (EachImage (IsCutOf d []))) replayed.geometry
    (λ replayed are m. each_content (IsOfLacking d.geometry (as_grid journal.grid).cells number bytes) (EachImage (IsCutOf d []))
    (λ start told c adds. filling_cuts d number bytes journal replayed state are start c (now start told) adds) m)
    replayed are m

-- A sector that is written is one of the journal,
lacking_run : (g : Geometry) (cells : List SectorCell) (number : ℕ) (bytes : List ℕ) → AreEmptySections g number bytes → (s : ℕ) (x : List ℕ) → IsOfLacking g cells number bytes s x → IsOfRun (section_at g 0) bytes s x
lacking_run g cells number bytes are s x of =
    let place : of.place ≡ s - section_at g 0 = omega (arith, of.is) in
    record { begins = omega (arith, of.is); ends = omega (arith, of.is, of.ends, are.size); is = of.holds ∙ ap (sector_in bytes) place }

-- so that empty sections of it are written,
pub fill_adds : {a b : List Content} (g : Geometry) (cells : List SectorCell) (number : ℕ) (bytes : List ℕ) → AreEmptySections g number bytes
    → EachSince (OnlyAdds (IsOfLacking g cells number bytes)) a b → EachSince (OnlyAdds (IsOfEmptyJournal g)) a b
fill_adds g cells number bytes are m =
    empty_adds g number bytes are (adds_wider (IsOfLacking g cells number bytes) (IsOfRun (section_at g 0) bytes) (lacking_run g cells number bytes are) m)

-- and those alone that do not bear the number.
pub fill_unnumbered : {a b : List Content} (g : Geometry) (cells : List SectorCell) (number : ℕ) (bytes : List ℕ) → AreEmptySections g number bytes
    → EachSince (OnlyAdds (IsOfLacking g cells number bytes)) a b → EachSince (OnlyAdds (IsOfUnnumbered g cells number)) a b
fill_unnumbered g cells number bytes are m =
    adds_wider (IsOfLacking g cells number bytes) (IsOfUnnumbered g cells number) (λ s x of. record { bytes = bytes; empty = are; lacking = of }) m

-- Nothing changes behind the journal.
filled_behind : (g : Geometry) (cells : List SectorCell) (number : ℕ) (bytes : List ℕ) → KeepsBehind g (λ c. newest_only (with_lacking g cells number bytes c))
filled_behind g cells number bytes c sector past =
    last-other (lacks_number cells number) (section_at g 0) 0 (journal_sectors g) bytes c sector (λ chosen. omega (arith, chosen.high, past))

module _ (store : Store) (disk : DiskIdentity) (before after : List Content) (is : IsStore store disk before) (journal : JudgedJournal) (number : ℕ) (bytes : List ℕ)
    (written : IsChangedBy (λ c. newest_only (with_lacking store.geometry (as_grid journal.grid).cells number bytes c)) before after) where
  abbrev change : Content → Content
  change c = newest_only (with_lacking store.geometry (as_grid journal.grid).cells number bytes c)

  -- The store is one of the disk then,
  pub store_filled : IsStore store disk after
  store_filled = store_changed store disk before after is change (filled_behind store.geometry (as_grid journal.grid).cells number bytes) written

  -- and what was in place is.
  pub filled_recovered : (d : JournaledDisk) (at : Recovered) → IsReplayed d store.geometry journal → journal.plan.state ≡ Blank number → AreEmptySections store.geometry number bytes
      → ((c : Content) → content_now before ≡ Some c → IsImage c (last_image c)) → ReadsWhole disk before → ReadsWhole disk after → HasCells d store before
      → at.next ≡ 0 → at.number ≡ later 1 number → at.used ≡ false
      → HasNow (λ c. LeavesRecovered d at (given_tags store c) c) after
  filled_recovered d at replayed state are shows whole whole_now has next number_is used c told =
      let g = store.geometry in
      let cells = (as_grid journal.grid).cells in
      let first = changed_now change (content_now before) (content_now after) written c told in
      let stands = (has.now first.0 first.1).stands in
      let ended : StandsFor (after_filling d number (empty_image g bytes)) (newest_only (with_lacking g cells number bytes first.0)) × Rests (after_filling d number (empty_image g bytes)) =
      subst (λ (x : Geometry). IsReplayed d x journal → AreEmptySections x number bytes
      → StandsFor (after_filling d number (empty_image x bytes)) (newest_only (with_lacking x cells number bytes first.0)) × Rests (after_filling d number (empty_image x bytes))) replayed.geometry
      (λ replayed are. filling_ended d number bytes journal replayed state are first.0 stands (shows first.0 first.1))
      replayed are in
      changed_recovered store disk before after is change (filled_behind g cells number bytes) written
      d (filled_journal d (empty_image g bytes)) (later 1 number) at c whole whole_now has told
      (subst (StandsFor (after_filling d number (empty_image g bytes))) (sym first.2) ended.0) ended.1
      (subst HasNothingPending (sym first.2) (newest_only-pending (with_lacking g cells number bytes first.0)))
      (ended.0.sound.held ∙ drop_all (length d.entries) d.entries (omega arith))
      replayed.settled replayed.placed next number_is used

-- ---- by the image at the start

same_number : {one other : ℕ} → ◌≡◌ {A = State} (Blank one) (Blank other) → one ≡ other
same_number e = cc

module _ (g : Geometry) {a b : List Content} (sectors : ℕ) (journal : JudgedJournal) (geometry : IsGeometry g sectors) (on : HasNow (λ x. IsJournalOn g (last_image x) journal) a)
    (placing : EachSince (λ start. OnlyAdds (IsOfPlacing g (Contains (replayed_entries g (last_image start)))) start) a b) where
  abbrev Filling : ℕ → Content → ℕ → List ℕ → Type 0
  Filling number start sector x = HoldsTag g sector ⊎ IsOfBlankSector g number (last_image start) sector x

  -- A blank journal has no entry to replay,
  none_replayed : (image : Image) (plan : Plan) (number : ℕ) → walk_of g image ≡ Ok plan → plan.state ≡ Blank number → replayed_entries g image ≡ []
  none_replayed image plan number walk state =
      replayed_entries-plan g image plan walk ∙ ap (flat_map (entries_in g image)) (blank_counts_none g sectors number image plan geometry walk state)

  not_among : (entries : List Entry) (entry : Entry) → entries ≡ [] → Contains entries entry → ⊥
  not_among entries entry none among = let size : length entries ≡ 0 = ap length none in omega (arith, among.1, size)

  -- so that only tags are written before it is filled.
  pub placing_fills : EachSince (FillsBlank g) a b
  placing_fills = EachMoment-weaker (FromStart-weaker a (λ start. OnlyAdds (IsOfPlacing g (Contains (replayed_entries g (last_image start)))) start) (FillsBlank g)
      (λ start c told adds plan number walk state. OnlyAdds-wider (IsOfPlacing g (Contains (replayed_entries g (last_image start)))) (Filling number start)
      (λ s x of. elim of [
        | inl of_entry ↦ absurd (not_among (replayed_entries g (last_image start)) of_entry.entry (none_replayed (last_image start) plan number walk state) of_entry.among)
        | inr tags ↦ inl tags
      ]) start c adds)) placing

  -- A sector that does not bear the number is a blank one.
  unnumbered_blank : (number : ℕ) (image : Image) → IsJournalOn g image journal → journal.plan.state ≡ Blank number → (s : ℕ) (x : List ℕ) → IsOfUnnumbered g (as_grid journal.grid).cells number s x
      → IsOfBlankSector g number image s x
  unnumbered_blank number image is state s x of =
      let blank = lacking_blank g sectors number image journal.plan (as_grid journal.grid) geometry is.plan_ state is.grid_ of.lacking.place of.lacking.ends of.lacking.marked in
      let there : s ≡ 8 + of.lacking.place = omega (arith, of.lacking.is) in
      record {
        inside = omega (arith, there, blank.0);
        zeros = ap (λ (n : ℕ). is_zero_sector (image n)) there ∙ blank.1;
        bytes = of.bytes;
        empty = of.empty;
        in_place = lacking_run g (as_grid journal.grid).cells number of.bytes of.empty s x of.lacking;
      }

  -- Then it is filled, and any other is not blank.
  pub recovery_fills : {c : List Content} → ((number : ℕ) → journal.plan.state ≡ Blank number → EachSince (OnlyAdds (IsOfUnnumbered g (as_grid journal.grid).cells number)) b c)
      → EachSince (OnlyAdds (IsOfEmptyJournal g)) b c → EachSince (FillsBlank g) a c
  recovery_fills {c} fills others = by journal.plan.state refl
    where
      not_blank : ((number : ℕ) → journal.plan.state ≡ Blank number → ⊥) → EachSince (FillsBlank g) a c
      not_blank none =
          EachMoment-join (FillsBlank g) (OnlyAdds (IsOfEmptyJournal g)) placing_fills others
          (λ start middle later told told_middle so_far adds plan number walk state.
          absurd (none number (ap (λ (p : Plan). p.state) (same_plan (sym (on start told).plan_ ∙ walk)) ∙ state)))

      blank : (own : ℕ) → journal.plan.state ≡ Blank own → EachSince (FillsBlank g) a c
      blank own is =
          EachMoment-join (FillsBlank g) (OnlyAdds (IsOfUnnumbered g (as_grid journal.grid).cells own)) placing_fills (fills own is)
          (λ start middle later told told_middle so_far adds plan number walk state.
          let W : ℕ → List ℕ → Type 0 = Filling number start in
          let number_is : own ≡ number = same_number (sym is ∙ ap (λ (p : Plan). p.state) (same_plan (sym (on start told).plan_ ∙ walk)) ∙ state) in
          let rest = OnlyAdds-wider (IsOfUnnumbered g (as_grid journal.grid).cells own) W
          (λ s x of. inr (subst (λ (n : ℕ). IsOfBlankSector g n (last_image start) s x) number_is (unnumbered_blank own (last_image start) (on start told) is s x of))) middle later adds in
          ⊎_elim (λ e. subst (λ (x : Content). OnlyAdds W x later) e rest) (λ p. OnlyAdds-join W start middle later (p plan number walk state) rest) so_far)

      by : (state : State) → journal.plan.state ≡ state → EachSince (FillsBlank g) a c
      by (Rest next number) is = not_blank (λ other at. absurd (cc))
      by (Mixed number) is = not_blank (λ other at. absurd (cc))
      by (Erasing number) is = not_blank (λ other at. absurd (cc))
      by (Blank number) is = blank number is
