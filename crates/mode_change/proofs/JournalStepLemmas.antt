-- What the writes of a change to a journal add, and what they leave.
use Rattle.std.proofs.Common.{◌≡◌, ℕ, ◌+◌, ◌-◌, ◌*◌, ◌/◌, ◌<◌, ◌≤◌, refl, ◌∙◌, ap, subst, arith, List, [], ◌∷◌, length, take, drop, Option, Some, None}
use Rattle.std.specs.Option.{option_map}
use Rattle.std.proofs.lemmas.List.{length-drop, length-take-le, take_rest}
use Rattle.disk_model.specs.Disk.{AddsSome, Content, IsImage, IsOfRun, IsRun, OnlyAdds, last_image, sector_in, with_run}
use Rattle.disk_model.proofs.DiskLemmas.{AddsSome-adds, AddsSome-all, AddsSome-none, OnlyAdds-wider, last_image-with_run, last_image-with_run_out}
use Rattle.disk_model.proofs.SectorLemmas.{sector_in-drop, sector_in-take}
use Rattle.disk_model.specs.Moments.{EachSince, IsChangedBy, content_now}
use Rattle.disk_model.proofs.MomentsLemmas.{write_adds}
use Rattle.image_model.specs.Geometry.{Geometry, IsGeometry, bitmap_sectors, journal_sectors, section_at}
use Rattle.image_model.proofs.GeometryLemmas.{data_at-inside}
use Rattle.place_model.specs.Journal.{IsOfJournal}
use Rattle.place_model.specs.Format.{DiskFormat}
use Rattle.bitmap_laws.proofs.CallLemmas.{run_image}
use Rattle.journal_model.specs.Erasing.{IsEmptyJournal}
use Rattle.journal_model.specs.JournaledDisk.{JournaledDisk}
use Rattle.image_model.specs.EmptySections.{AreEmptySections, empty_image}
use Rattle.journal_erasure.proofs.EmptyLemmas.{empty_journal}
use Rattle.change_model.specs.Change.{IsOfFilling, IsOfRest, ReadsRest}
use Rattle.change_model.specs.Whole.{IsStep}
use Rattle.change_model.proofs.PlacedLemmas.{journal_inside, of_journal}
use Rattle.mode_change.specs.ToJournal.{with_any, with_filling, with_rest}

-- ---- bytes where there are any

-- A disk's content after no write is as before.
same_now : (now : Option Content) (at : ℕ) → now ≡ option_map (with_any at []) now
same_now None at = refl
same_now (Some c) at = refl

pub any_none : (at : ℕ) (xs : List ℕ) (a : List Content) → length xs ≡ 0 → IsChangedBy (with_any at xs) a a
any_none at [] a none = same_now (content_now a) at
any_none at (x ∷ xs) a none = absurd (omega (arith, none))

pub any_some : (at : ℕ) (xs : List ℕ) (a b : List Content) → 1 ≤ length xs → IsChangedBy (with_run at xs) a b → IsChangedBy (with_any at xs) a b
any_some at [] a b some is = absurd (omega (arith, some))
any_some at (x ∷ xs) a b some is = is

any_adds : (at : ℕ) (xs : List ℕ) (c : Content) → AddsSome at xs c (with_any at xs c)
any_adds at [] c = AddsSome-none at [] c
any_adds at (x ∷ xs) c = AddsSome-all at (x ∷ xs) c

any_image : (at : ℕ) (xs : List ℕ) (c : Content) → IsImage c (last_image c) → IsImage (with_any at xs c) (last_image (with_any at xs c))
any_image at [] c image = image
any_image at (x ∷ xs) c image = run_image at (x ∷ xs) c image

any_reads : (at : ℕ) (xs : List ℕ) (c : Content) (sector : ℕ) → at ≤ sector → 1 ≤ length xs → sector < at + length xs / 512 → last_image (with_any at xs c) sector ≡ sector_in xs (sector - at)
any_reads at [] c sector begins some ends = absurd (omega (arith, some))
any_reads at (x ∷ xs) c sector begins some ends = last_image-with_run at (x ∷ xs) c sector begins ends

any_out : (at : ℕ) (xs : List ℕ) (c : Content) (sector : ℕ) → sector < at → last_image (with_any at xs c) sector ≡ last_image c sector
any_out at [] c sector under = refl
any_out at (x ∷ xs) c sector under = last_image-with_run_out at (x ∷ xs) c sector (λ above inside. omega (arith, above, under))

-- ---- the sectors behind the bitmap's place, and those in it

module _ (g : Geometry) (sectors : ℕ) (geometry : IsGeometry g sectors) (fits : bitmap_sectors g ≤ journal_sectors g) (empty : List ℕ) (size : length empty ≡ 512 * journal_sectors g) where
  abbrev behind : List ℕ
  behind = drop (512 * bitmap_sectors g) empty

  abbrev blank : List ℕ
  blank = take (512 * bitmap_sectors g) empty

  abbrev Rest : ℕ → List ℕ → Type 0
  Rest = IsOfRest g (bitmap_sectors g) (empty_image g empty)

  abbrev Blank : ℕ → List ℕ → Type 0
  Blank = IsOfFilling g (bitmap_sectors g) (empty_image g empty)

  behind-sectors : length (drop (512 * bitmap_sectors g) empty) ≡ 512 * (journal_sectors g - bitmap_sectors g)
  behind-sectors = let cut = length-drop (512 * bitmap_sectors g) empty in omega (arith, size, fits, cut)

  blank-sectors : length (take (512 * bitmap_sectors g) empty) ≡ 512 * bitmap_sectors g
  blank-sectors = length-take-le (512 * bitmap_sectors g) empty (omega (arith, size, fits))

  behind-sector : (s : ℕ) → 8 + bitmap_sectors g ≤ s → sector_in (drop (512 * bitmap_sectors g) empty) (s - (8 + bitmap_sectors g)) ≡ empty_image g empty s
  behind-sector s begins =
      let place : bitmap_sectors g + (s - (8 + bitmap_sectors g)) ≡ s - section_at g 0 = omega (arith, begins) in
      sector_in-drop (bitmap_sectors g) (s - (8 + bitmap_sectors g)) empty ∙ ap (sector_in empty) place

  blank-sector : (s : ℕ) → 8 ≤ s → s < 8 + bitmap_sectors g → sector_in (take (512 * bitmap_sectors g) empty) (s - 8) ≡ empty_image g empty s
  blank-sector s begins ends =
      let place : s - 8 ≡ s - section_at g 0 = omega (arith, begins) in
      sector_in-take (512 * bitmap_sectors g) empty (s - 8) (omega (arith, begins, ends)) ∙ ap (sector_in empty) place

  rest_run : (s : ℕ) (x : List ℕ) → IsOfRun (8 + bitmap_sectors g) (drop (512 * bitmap_sectors g) empty) s x → IsOfRest g (bitmap_sectors g) (empty_image g empty) s x
  rest_run s x of =
      let begins = of.begins in
      let ends = of.ends in
      let size = behind-sectors in
      let place : 8 + (s - 8) ≡ s = omega (arith, begins) in
      record {
        on = subst (IsOfJournal g) place (of_journal g sectors (s - 8) geometry (omega (arith, begins, ends, size, fits)));
        behind = begins;
        is = of.is ∙ behind-sector s begins;
      }

  blank_run : (s : ℕ) (x : List ℕ) → IsOfRun 8 (take (512 * bitmap_sectors g) empty) s x → IsOfFilling g (bitmap_sectors g) (empty_image g empty) s x
  blank_run s x of =
      let begins = of.begins in
      let ends = of.ends in
      let size = blank-sectors in
      let place : 8 + (s - 8) ≡ s = omega (arith, begins) in
      let inside : s < 8 + bitmap_sectors g = omega (arith, ends, size) in
      record {
        on = subst (IsOfJournal g) place (of_journal g sectors (s - 8) geometry (omega (arith, begins, inside, fits)));
        inside = inside;
        is = of.is ∙ blank-sector s begins inside;
      }

  -- ---- for the calls

  -- The bytes behind it, as a slice.
  pub behind_slice : (bitmap : ℕ) → bitmap ≡ bitmap_sectors g → take (length empty - 512 * bitmap) (drop (512 * bitmap) empty) ≡ drop (512 * bitmap_sectors g) empty
  behind_slice bitmap bitmap_is = take_rest empty (512 * bitmap) ∙ ap (λ (n : ℕ). drop (512 * n) empty) bitmap_is

  -- The sectors behind it are a run on the disk, where there are any.
  pub rest_is_run : (at bytes : ℕ) → at ≡ 8 + bitmap_sectors g → bytes ≡ length empty - 512 * bitmap_sectors g → 1 ≤ bytes → IsRun at bytes sectors
  rest_is_run at bytes at_is bytes_is some =
      let last = geometry.last in
      let end = (data_at-inside g sectors (g.blocks - 1) geometry (omega (arith, geometry.blocks))).0 in
      record {
        whole = omega (arith, bytes_is, size, fits);
        some = omega (arith, bytes_is, size, fits, some);
        inside = omega (arith, bytes_is, size, fits, at_is, last, end);
      }

  -- What is written behind it,
  pub rest_moments : {a b : List Content} (at : ℕ) (xs : List ℕ) → at ≡ 8 + bitmap_sectors g → xs ≡ drop (512 * bitmap_sectors g) empty
      → EachSince (AddsSome at xs) a b → EachSince (OnlyAdds (IsOfRest g (bitmap_sectors g) (empty_image g empty))) a b
  rest_moments {a} {b} at xs at_is xs_is moments =
      write_adds Rest (8 + bitmap_sectors g) behind
      (subst (λ (n : ℕ). EachSince (AddsSome n behind) a b) at_is (subst (λ (ys : List ℕ). EachSince (AddsSome at ys) a b) xs_is moments)) rest_run

  -- and in it.
  pub blank_moments : {a b : List Content} (at : ℕ) (xs : List ℕ) → at ≡ 8 → xs ≡ take (512 * bitmap_sectors g) empty
      → EachSince (AddsSome at xs) a b → EachSince (OnlyAdds (IsOfFilling g (bitmap_sectors g) (empty_image g empty))) a b
  blank_moments {a} {b} at xs at_is xs_is moments =
      write_adds Blank 8 blank
      (subst (λ (n : ℕ). EachSince (AddsSome n blank) a b) at_is (subst (λ (ys : List ℕ). EachSince (AddsSome at ys) a b) xs_is moments)) blank_run

  -- ---- the steps

  -- A sector of the journal lies before its end.
  before_end : (s : ℕ) → IsOfJournal g s → s < 8 + journal_sectors g
  before_end s on = let inside = (journal_inside g s on).1 in omega (arith, inside)

  module _ (first : Content) (image : IsImage first (last_image first)) where
    pub rest_step : IsStep (IsOfRest g (bitmap_sectors g) (empty_image g empty)) (ReadsRest g (bitmap_sectors g) (empty_image g empty)) first (with_rest g empty first)
    rest_step = record {
      before_sync = with_any (8 + bitmap_sectors g) behind first;
      written = record {
        adds = OnlyAdds-wider (IsOfRun (8 + bitmap_sectors g) behind) Rest rest_run first (with_any (8 + bitmap_sectors g) behind first)
            (AddsSome-adds (8 + bitmap_sectors g) behind first (with_any (8 + bitmap_sectors g) behind first) (any_adds (8 + bitmap_sectors g) behind first));
        reads = any_image (8 + bitmap_sectors g) behind first image;
      };
      reads = λ s on begins.
          let ends = before_end s on in
          let size = behind-sectors in
          any_reads (8 + bitmap_sectors g) behind first s begins (omega (arith, begins, ends, size)) (omega (arith, begins, ends, size)) ∙ behind-sector s begins;
      is = refl;
    }

    pub filling_step : IsStep (IsOfFilling g (bitmap_sectors g) (empty_image g empty))
        (λ c. (s : ℕ) → s < 8 + bitmap_sectors g → IsOfJournal g s → last_image c s ≡ empty_image g empty s) first (with_filling g empty first)
    filling_step = record {
      before_sync = with_run 8 blank first;
      written = record {
        adds = OnlyAdds-wider (IsOfRun 8 blank) Blank blank_run first (with_run 8 blank first) (AddsSome-adds 8 blank first (with_run 8 blank first) (AddsSome-all 8 blank first));
        reads = run_image 8 blank first image;
      };
      reads = λ s inside on.
          let begins = (journal_inside g s on).0 in
          let size = blank-sectors in
          last_image-with_run 8 blank first s begins (omega (arith, inside, size)) ∙ blank-sector s begins inside;
      is = refl;
    }

-- Sector 0 is none of them.
pub rest_head : (g : Geometry) (empty : List ℕ) (first : Content) → last_image (with_rest g empty first) 0 ≡ last_image first 0
rest_head g empty first = any_out (8 + bitmap_sectors g) (drop (512 * bitmap_sectors g) empty) first 0 (omega arith)

-- ---- an empty journal

-- A disk with this format, whatever else it has.
abbrev disk_of : DiskFormat → JournaledDisk
disk_of d = record {
  format = d;
  journal = λ sector. [];
  next = 0;
  number = 0;
  base = λ b. record { bytes = []; tag = [] };
  entries = [];
  start = 0;
  settled = 0;
  placed = 0;
}

-- Empty sections are an empty journal.
pub empty_of : (d : DiskFormat) (bytes : List ℕ) → AreEmptySections d.geometry 0 bytes → IsEmptyJournal d.geometry 0 (empty_image d.geometry bytes)
empty_of d bytes are = empty_journal (disk_of d) 0 bytes are
