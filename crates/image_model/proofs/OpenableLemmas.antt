-- A journal is refused exactly where it has no walk or an entry that cannot be replayed.
use Rattle.std.proofs.Common.{◌≡◌, ◌↔◌, inl, inr, ℕ, ◌+◌, ◌*◌, ◌/◌, ◌%◌, ◌^◌, ◌==◌, nat_lt, true, false, refl, sym, ◌∙◌, ap, subst, arith, Option, None, option_and_then, Result, Ok, Err, IsOk, List, [], ◌∷◌, filter_map, slice_get, bytes_eq}
use Rattle.std.specs.List.{AllByRecursion}
use Rattle.std.specs.Option.{option_map, option_or}
use Rattle.std.specs.Result.{result_err}
use Rattle.std.proofs.lemmas.Bool.{cases_Bool, and_parts, and_from, eqb-true, eq-eqb, ltb-true, lt-ltb, true≢false}
use Rattle.std.proofs.lemmas.Nat.{div-add-mod'}
use Rattle.std.proofs.lemmas.Option.{none-some}
use Rattle.std.proofs.lemmas.Slice.Eq.{bytes_eq-Decides}
use Rattle.disk_model.specs.Disk.{Image}
use Rattle.image_model.specs.declared.entry_place.EntryPlace.{EntryPlace}
use Rattle.image_model.specs.declared.flags.TheConstants.{DIRTY_BITMAP}
use Rattle.image_model.specs.Cells.{salt_of, block_tag, entry_of, entry_places, counted_sections, replayed_entries}
use Rattle.image_model.specs.Geometry.{Geometry, layout_of, IsGeometry}
use Rattle.image_model.specs.Grid.{walk_of}
use Rattle.image_model.specs.Openable.{first_sector, IsReadable, is_block_start, IsReplayable, IsOpenable, JournalFault, Scan, entry_fault, journal_fault_of, JournalFaultLaw}
use Rattle.image_model.specs.Section.{Entry}
use Rattle.image_model.specs.declared.scan_fault.ScanFault.{ScanFault}
use Rattle.image_model.specs.declared.journal_plan.Plan.{Plan}
use Rattle.image_model.specs.Superblock.{has_flag, IsAccepted}
use Rattle.image_model.proofs.CellsLemmas.{counted_entries-journal, counted_entries-bitmap}
use Rattle.image_model.proofs.GeometryOf.{geometry_given, geometry_apart}
use Rattle.image_model.proofs.SuperblockLemmas.{superblock_told}
use Rattle.image_model.proofs.NumberLemmas.{cases_option}

-- An entry that can be replayed has no fault,
pub entry_fault-replayable : (key salt : Option (List ℕ)) (g : Geometry) (place : EntryPlace) (entry : Entry) → IsReplayable key salt g entry → entry_fault key salt g place entry ≡ None
unfolding entry_fault
entry_fault-replayable key salt g place entry is =
    let starts : is_block_start g entry.sector ≡ true = and_from _ _ (eq-eqb (entry.sector % g.shape.spb) 0 is.whole) (lt-ltb entry.sector (g.blocks * g.shape.spb) is.inside) in
    let same : bytes_eq entry.tag (block_tag key salt g entry.sector entry.bytes) ≡ true = (bytes_eq-Decides entry.tag (block_tag key salt g entry.sector entry.bytes)).1 is.tag in
    rw (starts, same) refl

-- and one that has none can be replayed.
pub entry_fault_none : (key salt : Option (List ℕ)) (g : Geometry) (place : EntryPlace) (entry : Entry) → entry_fault key salt g place entry ≡ None → IsReplayable key salt g entry
unfolding entry_fault
entry_fault_none key salt g place entry none = elim (cases_Bool (is_block_start g entry.sector)) [
  | inr fails ↦ absurd (none-some _ (sym (rw fails at none)))
  | inl starts ↦ elim (cases_Bool (bytes_eq entry.tag (block_tag key salt g entry.sector entry.bytes))) [
    | inr differ ↦ absurd (none-some _ (sym (rw (starts, differ) at none)))
    | inl same ↦
        let parts = and_parts (entry.sector % g.shape.spb == 0) (nat_lt entry.sector (g.blocks * g.shape.spb)) starts in
        record {
          whole = eqb-true _ _ parts.0;
          inside = ltb-true _ _ parts.1;
          tag = (bytes_eq-Decides entry.tag (block_tag key salt g entry.sector entry.bytes)).0 same;
        }
  ]
]

-- Over some places, no used entry has a fault exactly where each can be replayed.
module _ (key salt : Option (List ℕ)) (g : Geometry) (image : Image) where
  abbrev fault_of : EntryPlace → Option JournalFault
  fault_of place = option_and_then (entry_fault key salt g place) (entry_of g image place)

  no_faults : (places : List EntryPlace) → slice_get (filter_map fault_of places) 0 ≡ None → AllByRecursion (IsReplayable key salt g) (filter_map (entry_of g image) places)
  no_faults [] none = tt
  no_faults (place ∷ places) none = elim (cases_option (entry_of g image place)) [
    | inl unused ↦ rw unused (no_faults places (rw unused at none))
    | inr used ↦ elim (cases_option (entry_fault key salt g place used.0)) [
      | inl right ↦ rw used.1 (entry_fault_none key salt g place used.0 right, no_faults places (rw (used.1, right) at none))
      | inr fault ↦ absurd (none-some fault.0 (sym (rw (used.1, fault.1) at none)))
    ]
  ]

  faults_none : (places : List EntryPlace) → AllByRecursion (IsReplayable key salt g) (filter_map (entry_of g image) places) → slice_get (filter_map fault_of places) 0 ≡ None
  faults_none [] each = refl
  faults_none (place ∷ places) each = elim (cases_option (entry_of g image place)) [
    | inl unused ↦ rw unused (faults_none places (rw unused at each))
    | inr used ↦
        let parts = rw used.1 at each in
        let right = entry_fault-replayable key salt g place used.0 parts.0 in
        rw (used.1, right) (faults_none places parts.1)
  ]

  law_at : (walk : Result Plan ScanFault)
      → (option_or (option_map Scan (result_err walk)) (slice_get (filter_map fault_of (entry_places g (counted_sections walk))) 0) ≡ None)
      ↔ (IsOk walk × AllByRecursion (IsReplayable key salt g) (filter_map (entry_of g image) (entry_places g (counted_sections walk))))
  law_at (Ok plan) = (λ none. (refl, no_faults _ none), λ both. faults_none _ both.1)
  law_at (Err fault) = (λ none. absurd (none-some _ (sym none)), λ both. absurd (true≢false (sym both.0)))

-- A journal has no fault exactly where it has a walk whose used entries can be replayed.
pub journal_fault_law : JournalFaultLaw
unfolding journal_fault_of replayed_entries
journal_fault_law key salt g image = law_at key salt g image (walk_of g image)

-- ---- for callers

-- The fields of a readable image are accepted,
pub IsReadable-accepted : (sectors : ℕ) (image : Image) (readable : IsReadable sectors image) → IsAccepted readable.superblock
IsReadable-accepted sectors image readable = ((superblock_told (first_sector sectors image) readable.superblock).0 readable.has_superblock).2

-- its geometry is theirs, and one,
pub IsReadable-geometry : (sectors : ℕ) (image : Image) (readable : IsReadable sectors image) → (readable.geometry ≡ layout_of readable.superblock) × IsGeometry readable.geometry sectors
IsReadable-geometry sectors image readable = (
  ((geometry_given readable.superblock sectors readable.geometry).0 readable.has_geometry).0,
  (geometry_apart readable.superblock sectors readable.geometry (IsReadable-accepted sectors image readable) readable.has_geometry).0,
)

-- and the sectors of its blocks are those that are provided.
pub IsReadable-provided : (sectors : ℕ) (image : Image) (readable : IsReadable sectors image) → readable.geometry.blocks * readable.geometry.shape.spb ≡ readable.superblock.provided
IsReadable-provided sectors image readable =
    let s = readable.superblock in
    let accepted = IsReadable-accepted sectors image readable in
    let split : s.provided / 2 ^ s.log2_spb * 2 ^ s.log2_spb + s.provided % 2 ^ s.log2_spb ≡ s.provided = div-add-mod' s.provided (2 ^ s.log2_spb) in
    let whole : s.provided % 2 ^ s.log2_spb ≡ 0 = accepted.whole_blocks in
    ap (λ (g : Geometry). g.blocks * g.shape.spb) (IsReadable-geometry sectors image readable).0 ∙ omega arith

-- An image has one superblock and one geometry.
pub IsReadable-same : (sectors : ℕ) (image : Image) (one other : IsReadable sectors image) → (one.superblock ≡ other.superblock) × (one.geometry ≡ other.geometry)
IsReadable-same sectors image one other =
    let fields : one.superblock ≡ other.superblock = let e = sym one.has_superblock ∙ other.has_superblock in cc in
    (fields, (IsReadable-geometry sectors image one).0 ∙ ap layout_of fields ∙ sym (IsReadable-geometry sectors image other).0)

-- A readable image whose journal has no fault, if it has a journal, can be opened,
pub IsOpenable-from : (key : Option (List ℕ)) (sectors : ℕ) (image : Image) (readable : IsReadable sectors image)
    → (has_flag DIRTY_BITMAP readable.superblock.flags ≡ false → journal_fault_of key (salt_of readable.superblock) readable.geometry image ≡ None)
    → IsOpenable key sectors image
IsOpenable-from key sectors image readable no_fault =
    let s = readable.superblock in
    let g = readable.geometry in
    elim (cases_Bool (has_flag DIRTY_BITMAP s.flags)) [
      | inl set ↦ record {
        readable = readable;
        walk = λ clear. absurd (true≢false (sym set ∙ clear));
        entries = subst (AllByRecursion (IsReplayable key (salt_of s) g)) (sym (counted_entries-bitmap key s g image set)) tt;
      }
      | inr clear ↦
          let both = (journal_fault_law key (salt_of s) g image).0 (no_fault clear) in
          record {
            readable = readable;
            walk = λ _. both.0;
            entries = subst (AllByRecursion (IsReplayable key (salt_of s) g)) (sym (counted_entries-journal key s g image clear)) both.1;
          }
    ]

-- and the journal of an image that can be opened has none.
pub IsOpenable-journal : (key : Option (List ℕ)) (sectors : ℕ) (image : Image) (openable : IsOpenable key sectors image)
    → has_flag DIRTY_BITMAP openable.readable.superblock.flags ≡ false → journal_fault_of key (salt_of openable.readable.superblock) openable.readable.geometry image ≡ None
IsOpenable-journal key sectors image openable clear =
    let s = openable.readable.superblock in
    let g = openable.readable.geometry in
    (journal_fault_law key (salt_of s) g image).1 (openable.walk clear, subst (AllByRecursion (IsReplayable key (salt_of s) g)) (counted_entries-journal key s g image clear) openable.entries)
