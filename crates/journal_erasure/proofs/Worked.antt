-- Values from outside, computed by the definitions.
use Rattle.std.proofs.Common.{◌≡◌, ℕ, ◌++◌, List, [], ◌∷◌, refl, replicate, true, false, Some, None}
use Rattle.disk_model.specs.Disk.{Content}
use Rattle.image_model.specs.CommitId.{commit_number, number_of, id_in}
use Rattle.image_model.specs.Geometry.{Geometry, Shape, section_sectors, section_entries, entries_per_sector, entry_size}
use Rattle.image_model.specs.Section.{entry_at, is_used}
use Rattle.image_model.specs.declared.sector_cell.Cell.TheVariants.{Number, Zero}
use Rattle.image_model.specs.Scan.{SectorCell}
use Rattle.journal_erasure.specs.declared.newest.NewestSectors.TheVariants.{First}
use Rattle.journal_erasure.specs.declared.part.Part.TheVariants.{Others, Newest}
use Rattle.journal_erasure.specs.Filling.{lacks_number}
use Rattle.journal_erasure.specs.Newest.{is_newest}
use Rattle.journal_erasure.specs.Parts.{is_of_part, with_chosen}
use Rattle.journal_erasure.specs.Erasing.{erasure_at_rest}

-- ---- an empty sector of number 2, by the kernel's constants: entries of 48 bytes, ten a sector

abbrev unused : List ℕ
unused = replicate 4 0 ++ replicate 4 0xff ++ replicate 40 0

abbrev meta_sector : List ℕ → List ℕ
meta_sector id = unused ++ unused ++ unused ++ unused ++ unused ++ unused ++ unused ++ unused ++ unused ++ unused ++ replicate 24 0 ++ id

commit_number-first_sector : commit_number 0 0 (meta_sector (replicate 8 0x33)) ≡ Some 2
unfolding number_of id_in
commit_number-first_sector = refl

commit_number-second_sector : commit_number 0 1 (meta_sector (0x32 ∷ replicate 7 0x33)) ≡ Some 2
unfolding number_of id_in
commit_number-second_sector = refl

commit_number-second_section : commit_number 1 0 (meta_sector (replicate 4 0x33 ++ 0x32 ∷ replicate 3 0x33)) ≡ Some 2
unfolding number_of id_in
commit_number-second_section = refl

abbrev small_shape : Shape
small_shape = record { spb = 1; tag_size = 32 }

entry_at-unused : entry_at small_shape (meta_sector (replicate 8 0x33)) 8 ≡ None
unfolding entry_at is_used entry_size
entry_at-unused = refl

-- ---- which sectors are written

-- Of five sectors the first three bear the newest number.
is_newest-third : is_newest (First 3) 2 ≡ true
is_newest-third = refl

is_newest-fourth : is_newest (First 3) 3 ≡ false
is_newest-fourth = refl

abbrev one_each : Content
one_each sector = (sector ∷ []) ∷ []

abbrev zeros : List ℕ
zeros = replicate 2560 0

with_chosen-fourth : with_chosen (is_of_part (First 3) Others) 8 0 5 zeros one_each 11 ≡ (11 ∷ []) ∷ replicate 512 0 ∷ []
with_chosen-fourth = refl

with_chosen-third : with_chosen (is_of_part (First 3) Others) 8 0 5 zeros one_each 10 ≡ (10 ∷ []) ∷ []
with_chosen-third = refl

with_chosen-newest : with_chosen (is_of_part (First 3) Newest) 8 0 5 zeros one_each 10 ≡ (10 ∷ []) ∷ replicate 512 0 ∷ []
with_chosen-newest = refl

with_chosen-behind : with_chosen (is_of_part (First 3) Others) 8 0 5 zeros one_each 13 ≡ (13 ∷ []) ∷ []
with_chosen-behind = refl

-- Of three sectors of which a scan found the first zero and another number in the third, the second alone bears number 3:
-- a filling writes the others.
abbrev scanned : List SectorCell
scanned = Zero ∷ Number 3 ∷ Number 0 ∷ []

lacks_number-zero : lacks_number scanned 3 0 ≡ true
lacks_number-zero = refl

lacks_number-own : lacks_number scanned 3 1 ≡ false
lacks_number-own = refl

lacks_number-other : lacks_number scanned 3 2 ≡ true
lacks_number-other = refl

with_chosen-zero : with_chosen (lacks_number scanned 3) 8 0 3 zeros one_each 8 ≡ (8 ∷ []) ∷ replicate 512 0 ∷ []
with_chosen-zero = refl

with_chosen-own : with_chosen (lacks_number scanned 3) 8 0 3 zeros one_each 9 ≡ (9 ∷ []) ∷ []
with_chosen-own = refl

-- ---- at rest

abbrev four_sections : Geometry
four_sections = record { shape = small_shape; sections = 4; interleave = 32; tag_run = 8; blocks = 64; log2_region = 15 }

-- Before a lap all sectors bear the newest number, which is the one before the next;
erasure_at_rest-fresh : erasure_at_rest four_sections 0 1 ≡ record { newest = First 352; number = 0; first = 0 }
unfolding section_sectors section_entries entries_per_sector entry_size
erasure_at_rest-fresh = refl

-- in a lap those of the sections before the next one do.
erasure_at_rest-third : erasure_at_rest four_sections 2 1 ≡ record { newest = First 176; number = 1; first = 2 }
unfolding section_sectors section_entries entries_per_sector entry_size
erasure_at_rest-third = refl
