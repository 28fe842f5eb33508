-- The plan of a journal by the numbers on its sectors: its state, and which sections count, in order.
-- Source: Linux, Documentation/admin-guide/device-mapper/dm-integrity.rst: a section counts where its
-- commit id stands on all its sectors. Own: the order of the sections, the states and the refusals.
use Rattle.std.specs.Prelude.{ℕ, ◌+◌, ◌-◌, ◌%◌, ◌==◌, nat_lt, Bool, false, not, ◌&&◌, if◌then◌else◌, Option, Some, None, is_some, option_map, find, List, [], ◌∷◌, ◌++◌}
use Rattle.std.specs.List.{range_with_len}
use Rattle.image_model.specs.declared.journal_plan.Plan.{Plan}
use Rattle.image_model.specs.declared.journal_plan.State.{State}
use Rattle.image_model.specs.declared.journal_plan.State.TheVariants.{Rest, Mixed, Erasing}
use Rattle.image_model.specs.CommitId.{commit_numbers}
use Rattle.image_model.specs.Below.{any_below, all_below, past_last, front_length}

-- ---- numbers

-- The commit number that each sector of each section bears, if any.
abbrev pub Numbers : Type 0
Numbers = ℕ → ℕ → Option ℕ

-- A sector that bears this, or nothing, bears the number.
abbrev pub bears : Option ℕ → ℕ → Bool
bears None number = false
bears (Some borne) number = borne == number

-- Some sector of the section bears the number.
abbrev pub holds : ℕ → Numbers → ℕ → ℕ → Bool
holds sectors numbers number section = any_below sectors (λ sector. bears (numbers section sector) number)

-- Every sector of the section does.
abbrev pub is_wholly : ℕ → Numbers → ℕ → ℕ → Bool
is_wholly sectors numbers number section = all_below sectors (λ sector. bears (numbers section sector) number)

-- Some sector of the journal does.
abbrev pub occurs : ℕ → ℕ → Numbers → ℕ → Bool
occurs sections sectors numbers number = any_below sections (holds sectors numbers number)

-- Every sector of the journal bears a number.
abbrev pub is_numbered : ℕ → ℕ → Numbers → Bool
is_numbered sections sectors numbers =
    all_below sections (λ section. all_below sectors (λ sector. is_some (numbers section sector)))

-- The number so many laps on.
abbrev pub later : ℕ → ℕ → ℕ
later laps number = (number + laps) % 4

-- The newest of the numbers that occur: the least whose next one does not, none where all four do.
abbrev pub newest : (ℕ → Bool) → Option ℕ
newest has = find (λ number. has number && not (has (later 1 number))) commit_numbers

-- One more than the greatest section that holds the number.
abbrev pub reach : ℕ → ℕ → Numbers → ℕ → ℕ
reach sections sectors numbers number = past_last sections (holds sectors numbers number)

-- How many sections from 0 on are wholly of the number.
abbrev pub whole_sections : ℕ → ℕ → Numbers → ℕ → ℕ
whole_sections sections sectors numbers number = front_length sections (is_wholly sectors numbers number)

-- ---- the plan

-- The state where the newest number has this reach and so many whole sections.
abbrev pub state_at : ℕ → ℕ → ℕ → ℕ → State
state_at sections reached whole number =
    if whole == reached
    then (if reached == sections then Rest 0 (later 1 number) else Rest reached number)
    else Mixed number

-- A range of sections, and (0, 0) where it is empty.
abbrev pub range : ℕ → ℕ → ℕ × ℕ
range from to = if nat_lt from to then (from, to) else (0, 0)

-- The plan for a newest number: nothing counts where the number two laps on occurs, and else the
-- sections behind its reach do, and then those from 0 on that are wholly of it.
abbrev pub plan_by : ℕ → Bool → ℕ → ℕ → ℕ → Plan
plan_by sections has_two_on reached whole number =
    if has_two_on
    then record { state = Erasing number; walk = (0, 0) ∷ (0, 0) ∷ [] }
    else record {
      state = state_at sections reached whole number;
      walk = range reached sections ∷ range 0 whole ∷ [];
    }

-- The plan of a journal whose newest number this is.
abbrev pub plan_at : ℕ → ℕ → Numbers → ℕ → Plan
plan_at sections sectors numbers number =
    plan_by sections (occurs sections sectors numbers (later 2 number))
    (reach sections sectors numbers number) (whole_sections sections sectors numbers number) number

-- The plan of a journal by its numbers, and none where a sector bears none or all four occur.
unfoldable pub plan_of : ℕ → ℕ → Numbers → Option Plan
plan_of sections sectors numbers =
    if is_numbered sections sectors numbers
    then option_map (plan_at sections sectors numbers) (newest (occurs sections sectors numbers))
    else None

-- The sections of a walk, in order.
abbrev pub sections_of : List (ℕ × ℕ) → List ℕ
sections_of [] = []
sections_of (range ∷ ranges) = range_with_len range.0 (range.1 - range.0) ++ sections_of ranges

-- All sections in the order of writing, the oldest first, where `next` is written next.
abbrev pub ring : ℕ → ℕ → List ℕ
ring sections next = range_with_len next (sections - next) ++ range_with_len 0 next
