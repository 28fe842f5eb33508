-- Walks at values from outside, by computing.
use Rattle.std.proofs.Common.{◌≡◌, ℕ, refl, Bool, true, false, List, [], ◌∷◌, replicate, Result, Ok, Err, flat_map}
use Rattle.image_model.specs.Walk.{plan_of, sections_of}
use Rattle.image_model.specs.declared.journal_plan.State.{State}
use Rattle.image_model.specs.declared.journal_plan.State.TheVariants.{Rest, Mixed, Erasing, Blank}
use Rattle.image_model.specs.declared.journal_plan.Plan.{Plan}
use Rattle.image_model.specs.Scan.{SectorCell, walk_of_grid, sector_place}
use Rattle.image_model.specs.declared.sector_cell.Cell.TheVariants.{Number, Zero, Other}
use Rattle.image_model.specs.declared.scan_fault.ScanFault.{ScanFault}
use Rattle.image_model.specs.declared.scan_fault.ScanFault.TheVariants.{NoNumber, FourNumbers}

-- Sectors in order, so many of each cell.
abbrev sectors_in : List (ℕ × SectorCell) → List SectorCell
sectors_in pieces = flat_map (λ (piece : ℕ × SectorCell). replicate piece.0 piece.1) pieces

-- The scan of sections of so many sectors, of which `bitmap` are a bitmap's.
abbrev scan : ℕ → ℕ → List (ℕ × SectorCell) → ℕ → Bool → Result Plan ScanFault
scan sections sectors pieces bitmap used_outside =
    walk_of_grid (record { sections = sections; sectors = sectors; cells = sectors_in pieces; bitmap = bitmap; used_outside = used_outside })

-- The scan of a journal of which no part is a bitmap's.
abbrev scan_numbers : ℕ → ℕ → List (ℕ × SectorCell) → Result Plan ScanFault
scan_numbers sections sectors pieces = scan sections sectors pieces 0 false

abbrev plan : State → ℕ × ℕ → ℕ × ℕ → Result Plan ScanFault
plan state first second = Ok (record { state = state; walk = first ∷ second ∷ [] })

-- ---- a journal at rest

-- Three sections, wholly 3, 3 and 2: the walk is 2, 0, 1, and section 2 is written next with number 3.
scan-rest_inside : scan_numbers 3 88 ((88, Number 3) ∷ (88, Number 3) ∷ (88, Number 2) ∷ []) ≡ plan (Rest 2 3) (2, 3) (0, 2)
unfolding walk_of_grid plan_of
scan-rest_inside = refl

sections_of-three : sections_of ((2, 3) ∷ (0, 2) ∷ []) ≡ 2 ∷ 0 ∷ 1 ∷ []
sections_of-three = refl

-- One section, wholly 3: it is written next, with number 0.
scan-rest_at_start : scan_numbers 1 88 ((88, Number 3) ∷ []) ≡ plan (Rest 0 0) (0, 0) (0, 1)
unfolding walk_of_grid plan_of
scan-rest_at_start = refl

-- Two sections, wholly 0 and 3: the walk is 1, 0.
scan-rest_over_the_lap : scan_numbers 2 88 ((88, Number 0) ∷ (88, Number 3) ∷ []) ≡ plan (Rest 1 0) (1, 2) (0, 1)
unfolding walk_of_grid plan_of
scan-rest_over_the_lap = refl

-- ---- a commit that was cut

-- Two sections, the first partly 1 and partly 0, the second wholly 0: the walk is 1 alone.
scan-mixed : scan_numbers 2 88 ((50, Number 1) ∷ (38, Number 0) ∷ (88, Number 0) ∷ []) ≡ plan (Mixed 1) (1, 2) (0, 0)
unfolding walk_of_grid plan_of
scan-mixed = refl

-- The first commit of one section, cut after 40 of its 88 sectors: the walk is empty.
scan-first_commit_cut : scan_numbers 1 88 ((40, Number 1) ∷ (48, Number 0) ∷ []) ≡ plan (Mixed 1) (0, 0) (0, 0)
unfolding walk_of_grid plan_of
scan-first_commit_cut = refl

-- Four sections in their second lap, the third cut after 40 sectors: the walk is 3, 0, 1.
scan-second_lap_cut : scan_numbers 4 88 ((216, Number 2) ∷ (136, Number 1) ∷ []) ≡ plan (Mixed 2) (3, 4) (0, 2)
unfolding walk_of_grid plan_of
scan-second_lap_cut = refl

sections_of-four : sections_of ((3, 4) ∷ (0, 2) ∷ []) ≡ 3 ∷ 0 ∷ 1 ∷ []
sections_of-four = refl

-- A batch of two sections of four, cut after 100 of its 176 sectors: the walk is 2, 3, 0.
scan-batch_cut : scan_numbers 4 88 ((100, Number 1) ∷ (252, Number 0) ∷ []) ≡ plan (Mixed 1) (2, 4) (0, 1)
unfolding walk_of_grid plan_of
scan-batch_cut = refl

-- ---- an erasure that was cut

-- All three of 1, 2 and 3: the newest is 3.
scan-three_numbers : scan_numbers 3 88 ((88, Number 1) ∷ (88, Number 2) ∷ (88, Number 3) ∷ []) ≡ plan (Erasing 3) (0, 0) (0, 0)
unfolding walk_of_grid plan_of
scan-three_numbers = refl

-- 0 and 2: the newest is 0.
scan-two_apart : scan_numbers 2 88 ((88, Number 0) ∷ (88, Number 2) ∷ []) ≡ plan (Erasing 0) (0, 0) (0, 0)
unfolding walk_of_grid plan_of
scan-two_apart = refl

-- 1 and 3, either as the older.
scan-one_and_three : scan_numbers 2 88 ((60, Number 1) ∷ (116, Number 3) ∷ []) ≡ plan (Erasing 1) (0, 0) (0, 0)
unfolding walk_of_grid plan_of
scan-one_and_three = refl

scan-three_and_one : scan_numbers 2 88 ((60, Number 3) ∷ (116, Number 1) ∷ []) ≡ plan (Erasing 1) (0, 0) (0, 0)
unfolding walk_of_grid plan_of
scan-three_and_one = refl

-- The erasure of the first commit that was cut, cut after 20 of its first part's 48 sectors: 0, 1 and 3.
scan-first_erasure_cut : scan_numbers 1 88 ((40, Number 1) ∷ (20, Number 3) ∷ (28, Number 0) ∷ []) ≡ plan (Erasing 1) (0, 0) (0, 0)
unfolding walk_of_grid plan_of
scan-first_erasure_cut = refl

-- The erasure in the second lap, cut in its first part: 0, 1 and 2.
scan-first_part_cut : scan_numbers 4 88 ((216, Number 2) ∷ (100, Number 0) ∷ (36, Number 1) ∷ []) ≡ plan (Erasing 2) (0, 0) (0, 0)
unfolding walk_of_grid plan_of
scan-first_part_cut = refl

-- The same cut in its second part: 0 and 2.
scan-second_part_cut : scan_numbers 4 88 ((116, Number 2) ∷ (236, Number 0) ∷ []) ≡ plan (Erasing 0) (0, 0) (0, 0)
unfolding walk_of_grid plan_of
scan-second_part_cut = refl

-- ---- a journal that is refused

-- All four numbers, with the first place of each.
scan-four_numbers : scan_numbers 2 88 ((30, Number 2) ∷ (90, Number 0) ∷ (10, Number 3) ∷ (46, Number 1) ∷ []) ≡ Err (FourNumbers (sector_place 0 30 ∷ sector_place 1 42 ∷ sector_place 0 0 ∷ sector_place 1 32 ∷ []))
unfolding walk_of_grid plan_of
scan-four_numbers = refl

-- A foreign id in sector 4 of section 1.
scan-foreign_id : scan_numbers 2 88 ((92, Number 2) ∷ (1, Other 0x2a) ∷ (1, Zero) ∷ (82, Number 1) ∷ []) ≡ Err (NoNumber 1 4 0x2a)
unfolding walk_of_grid plan_of
scan-foreign_id = refl

-- ---- a blank journal

-- A change to a bitmap of 8 sectors, cut after three of them: the others are of number 3.
scan-blank_begun : scan 1 88 ((3, Zero) ∷ (85, Number 3) ∷ []) 8 false ≡ plan (Blank 3) (0, 0) (0, 0)
unfolding walk_of_grid plan_of
scan-blank_begun = refl

-- A change to a journal, cut before the bitmap's 8 sectors are written.
scan-blank_left : scan 1 88 ((8, Zero) ∷ (80, Number 0) ∷ []) 8 false ≡ plan (Blank 0) (0, 0) (0, 0)
unfolding walk_of_grid plan_of
scan-blank_left = refl

-- The same with another zero sector behind the bitmap's.
scan-zero_outside : scan 1 88 ((8, Zero) ∷ (4, Number 0) ∷ (1, Zero) ∷ (75, Number 0) ∷ []) 8 false ≡ Err (NoNumber 0 0 0)
unfolding walk_of_grid plan_of
scan-zero_outside = refl

-- The same with a used entry in another sector.
scan-used_outside : scan 1 88 ((8, Zero) ∷ (80, Number 0) ∷ []) 8 true ≡ Err (NoNumber 0 0 0)
unfolding walk_of_grid plan_of
scan-used_outside = refl

-- A zero sector where no sector is a bitmap's.
scan-no_bitmap : scan_numbers 1 88 ((3, Zero) ∷ (85, Number 3) ∷ []) ≡ Err (NoNumber 0 0 0)
unfolding walk_of_grid plan_of
scan-no_bitmap = refl

-- A bitmap that takes the whole journal, all of it zero.
scan-all_blank : scan 1 88 ((88, Zero) ∷ []) 88 false ≡ plan (Blank 0) (0, 0) (0, 0)
unfolding walk_of_grid plan_of
scan-all_blank = refl
