-- What the calls of a `Bits` leave on a disk.
use Rattle.std.proofs.Common.{◌≡◌, inl, inr, ⊎_elim, ℕ, ◌-◌, ◌*◌, ◌/◌, ◌^◌, ◌<◌, ◌≤◌, ◌==◌, if◌then◌else◌, Bool, true, false, refl, sym, ◌∙◌, ap, subst, arith, Some, List, length}
use Rattle.std.specs.List.{Contains}
use Rattle.std.specs.Option.{option_map}
use Rattle.std.proofs.lemmas.Bool.{cases_eq, true≢false}
use Rattle.std.proofs.lemmas.Option.{same_Some}
use Rattle.std.proofs.Math.Nat.{div-le_self}
use Rattle.disk_model.specs.Disk.{Content, AddsSome, EachImage, HasNothingPending, IsOfRun, IsRun, OnlyAdds, Reads, last_image, newest_only, with_run}
use Rattle.disk_model.specs.Moments.{EachMoment, FromStart, IsChangedBy, content_now}
use Rattle.disk_model.proofs.DiskLemmas.{AddsSome-adds, AddsSome-all, IsOfRun-one, last_image-with_one, last_image-with_other, only_candidate}
use Rattle.disk_model.proofs.MomentsLemmas.{EachMoment-join, EachMoment-weaker, FromStart-weaker, adds_wider}
use Rattle.image_model.specs.Bitmap.{is_bit_set, is_dirty}
use Rattle.image_model.specs.Geometry.{Geometry, IsGeometry, bitmap_sectors, bitmap_sectors_for, journal_sectors, regions}
use Rattle.image_model.proofs.Regions.{blocks-low, regions_for-is}
use Rattle.image_model.proofs.SectorLemmas.{bytes_at_read}
use Rattle.device_model.specs.Regions.{with_region}
use Rattle.bitmap_model.specs.BitmapDisk.{bit_in, bit_sector}
use Rattle.bitmap_model.specs.Steps.{AreBits, ReadsBits}
use Rattle.bitmap_model.proofs.BitLemmas.{bit_sector-at, is_dirty-at, with_region-here, with_region-other}
use Rattle.bitmap_laws.specs.CallLaws.{AddsBits, AreSameBits, IsBitmapSector, KeepsElsewhere}
use Rattle.bitmap_laws.proofs.CallLemmas.{end_from, start_told}
use Rattle.dirty_bitmap.specs.Bits.{AddsToSector, HoldsBits, HoldsBitsNow, IsSetOf, RegionBits, bits_of}
use Rattle.dirty_bitmap.specs.Regions.{IsSectorOf, KeepsBut, Regions, has_region, sector_of, set_sectors}

-- ---- sizes

-- There are no more regions than blocks.
pub regions-few : (g : Geometry) (sectors : ℕ) → IsGeometry g sectors → regions g ≤ 2 ^ 48
regions-few g sectors h =
    let blocks = blocks-low g sectors h in
    let some = h.blocks in
    let is = regions_for-is g.blocks g.log2_region some in
    let low = div-le_self (g.blocks - 1) (2 ^ g.log2_region) in
    omega (arith, is, low, blocks, some)

-- A set of them has the geometry's bitmap.
pub set_sectors-is : (g : Geometry) → set_sectors (regions g) ≡ bitmap_sectors g
unfolding bitmap_sectors_for
set_sectors-is g = refl

-- The bitmap is a run of the disk.
pub bitmap_run : (g : Geometry) (sectors bytes : ℕ) → IsGeometry g sectors → bitmap_sectors g ≤ journal_sectors g → bytes ≡ 512 * bitmap_sectors g → IsRun 8 bytes sectors
bitmap_run g sectors bytes geometry fits size =
    let first = bit_sector-at g sectors geometry fits 0 (some_region g sectors geometry) in
    record { whole = omega (arith, size); some = omega (arith, size, first.0); inside = omega (arith, size, fits, first.2) }
  where
    some_region : (g : Geometry) (sectors : ℕ) → IsGeometry g sectors → 0 < regions g
    some_region g sectors h = let is = regions_for-is g.blocks g.log2_region h.blocks in omega (arith, is)

-- ---- what is loaded

-- The bytes that were read are the image's, so that their bits are.
pub bits_read : (g : Geometry) (c : Content) (bytes : List ℕ) → length bytes ≡ 512 * bitmap_sectors g → Reads 8 bytes c → (region : ℕ) → is_bit_set bytes region ≡ is_dirty g (last_image c) region
bits_read g c bytes size reads region =
    ap (λ (xs : List ℕ). is_bit_set xs region) (bytes_at_read (last_image c) 8 (bitmap_sectors g) bytes size (λ k low. reads k (omega (arith, size))))

-- Where nothing is pending the disk holds bits that are those of what reads give.
pub HoldsBits-loaded : (g : Geometry) (sectors : ℕ) (bits : ℕ → Bool) (c : Content) → IsGeometry g sectors → bitmap_sectors g ≤ journal_sectors g
    → ((sector : ℕ) → sector < sectors → length (last_image c sector) ≡ 512) → HasNothingPending c → AreSameBits g bits (is_dirty g (last_image c)) → HoldsBits g bits c
HoldsBits-loaded g sectors bits c geometry fits whole none same =
    let read : (r : ℕ) → r < regions g → is_bit_set (last_image c (bit_sector r)) (bit_in r) ≡ bits r = λ r low.
    sym (is_dirty-at g sectors geometry fits r low (last_image c) whole) ∙ sym (same r low) in
    record {
      reads = record { each = read };
      set = λ sector x has r low there set.
          ap (λ (xs : List ℕ). is_bit_set xs (bit_in r)) (none.only sector x has ∙ ap (last_image c) there) ∙ read r low ∙ set;
    }

-- ---- one write

-- A write of one sector keeps what reads give of all others,
pub write_keeps : {a b : List Content} (at : ℕ) (x : List ℕ) → length x ≡ 512 → EachMoment a b (FromStart a (AddsSome at x)) → EachMoment a b (FromStart a (KeepsBut at))
write_keeps {a} at x whole m = EachMoment-weaker (FromStart-weaker a (AddsSome at x) (KeepsBut at) (λ start c told some sector differs. ⊎_elim
    (λ e. ap last_of e)
    (λ e. ap last_of e ∙ last_image-with_other at x start sector whole differs)
    (some sector))) m
  where
    last_of : List (List ℕ) → List ℕ
    last_of xs = last_image (λ (s : ℕ). xs) 0

-- and so does one that is synced.
pub sync_keeps : {a b c : List Content} (at : ℕ) → EachMoment a b (FromStart a (KeepsBut at)) → EachMoment b c (FromStart b (λ start later. later ≡ newest_only start)) → EachMoment a c (FromStart a (KeepsBut at))
sync_keeps at first second = EachMoment-join (KeepsBut at) (λ start later. later ≡ newest_only start) first second
    (λ start middle later told told_middle so_far is sector differs.
    ap (λ (d : Content). last_image d sector) is ∙ ⊎_elim (λ e. ap (λ (d : Content). last_image d sector) e) (λ p. p sector differs) so_far)

-- What a call did to the content.
pub changed_to : (f : Content → Content) (a b : List Content) → IsChangedBy f a b → (start c : Content) → content_now a ≡ Some start → content_now b ≡ Some c → c ≡ f start
changed_to f a b is start c told told_c = same_Some c (f start) (sym told_c ∙ is ∙ ap (option_map f) told)

-- ---- the sector of a region

-- Its bytes are exactly the set's bits.
pub AreBits-sector : (g : Geometry) (s : Regions) (bits : ℕ → Bool) (region : ℕ) (x : List ℕ) → s.size ≡ regions g → ((r : ℕ) → has_region s r ≡ bits r)
    → IsSectorOf s (region / 4096) x → AreBits g bits (bit_sector region) x
AreBits-sector g s bits region x size same of = record {
  whole = of.whole;
  each = λ r low there.
      let place : r - 4096 * (region / 4096) ≡ bit_in r = omega arith in
      ap (is_bit_set x) (sym place) ∙ of.each r (omega (arith, size, low)) (omega arith) (omega arith) ∙ same r;
  unused = λ r high there.
      let place : r - 4096 * (region / 4096) ≡ bit_in r = omega arith in
      ap (is_bit_set x) (sym place) ∙ of.unused r (omega (arith, size, high)) (omega arith) (omega arith);
}

-- What a call adds that writes that sector, with these bits.
module _ (g : Geometry) (bits : ℕ → Bool) (region : ℕ) (x : List ℕ) (inside : region / 4096 < bitmap_sectors g) (are : AreBits g bits (bit_sector region) x)
    (a b : List Content) (adds : EachMoment a b (FromStart a (OnlyAdds (IsOfRun (bit_sector region) x)))) where
  pub adds_bits : AddsBits g bits a b
  adds_bits = adds_wider (IsOfRun (bit_sector region) x) (IsBitmapSector g bits) (λ s y of.
      let one = IsOfRun-one (bit_sector region) x s y are.whole of in
      subst (λ (n : ℕ). IsBitmapSector g bits n y) (sym one.0) (subst (λ (z : List ℕ). IsBitmapSector g bits (bit_sector region) z) (sym one.1)
      (record { group = region / 4096; inside = inside; is = refl; are = are }))) adds

  pub adds_to_sector : AddsToSector (bit_sector region) a b
  adds_to_sector = adds_wider (IsOfRun (bit_sector region) x) (λ s y. s ≡ bit_sector region) (λ s y of. (IsOfRun-one (bit_sector region) x s y are.whole of).0) adds

-- Sectors outside the bitmap read as before.
pub keeps_elsewhere : (g : Geometry) (region : ℕ) → region / 4096 < bitmap_sectors g → (a b : List Content) → EachMoment a b (FromStart a (KeepsBut (bit_sector region))) → KeepsElsewhere g a b
keeps_elsewhere g region inside a b m start told c told_c sector none = end_from (KeepsBut (bit_sector region)) (λ d s differs. refl) m start c told told_c sector (λ e. none (region / 4096) inside e)

-- ---- what the disk holds

pub HoldsBits-same : (g : Geometry) (one other : ℕ → Bool) (c : Content) → AreSameBits g one other → HoldsBits g one c → HoldsBits g other c
HoldsBits-same g one other c same holds = record {
  reads = record { each = λ r low. holds.reads.each r low ∙ same r low };
  set = λ sector x has r low there set. holds.set sector x has r low there (same r low ∙ set);
}

module _ (g : Geometry) (bits : ℕ → Bool) (region : ℕ) (value : Bool) (x : List ℕ) (start : Content) (was : HoldsBits g bits start)
    (are : AreBits g (with_region region value bits) (bit_sector region) x) where
  -- What reads give once the sector is written.
  reads_written : ReadsBits g (with_region region value bits) (with_run (bit_sector region) x start)
  reads_written = record {
    each = λ r low. elim (cases_eq (bit_sector r) (bit_sector region)) [
      | inl same ↦ ap (λ (xs : List ℕ). is_bit_set xs (bit_in r)) (ap (last_image (with_run (bit_sector region) x start)) same ∙ last_image-with_one (bit_sector region) x start are.whole)
          ∙ are.each r low (sym same)
      | inr other ↦ ap (λ (xs : List ℕ). is_bit_set xs (bit_in r)) (last_image-with_other (bit_sector region) x start (bit_sector r) are.whole other)
          ∙ was.reads.each r low ∙ sym (with_region-other region r value bits (λ e. other (ap bit_sector (sym e))))
    ];
  }

  -- So they do once it is synced, and each candidate is what they give.
  pub HoldsBits-synced : HoldsBits g (with_region region value bits) (newest_only (with_run (bit_sector region) x start))
  HoldsBits-synced = record {
    reads = record { each = λ r low. reads_written.each r low };
    set = λ sector y has r low there set.
        ap (λ (xs : List ℕ). is_bit_set xs (bit_in r)) (only_candidate (last_image (with_run (bit_sector region) x start) sector) y has ∙ ap (last_image (with_run (bit_sector region) x start)) there)
        ∙ reads_written.each r low ∙ set;
  }

-- Where a bit is cleared the others stay in each candidate.
pub HoldsBits-cleared : (g : Geometry) (bits : ℕ → Bool) (region : ℕ) (x : List ℕ) (start : Content) → HoldsBits g bits start
    → AreBits g (with_region region false bits) (bit_sector region) x → HoldsBits g (with_region region false bits) (with_run (bit_sector region) x start)
HoldsBits-cleared g bits region x start was are = record {
  reads = reads_written g bits region false x start was are;
  set = λ sector y has r low there set. ⊎_elim
      (λ before. was.set sector y before r low there (still_set r set))
      (λ run.
      let one = IsOfRun-one (bit_sector region) x sector y are.whole run in
      ap (λ (xs : List ℕ). is_bit_set xs (bit_in r)) one.1 ∙ are.each r low (sym one.0 ∙ there) ∙ set)
      ((AddsSome-adds (bit_sector region) x start (with_run (bit_sector region) x start) (AddsSome-all (bit_sector region) x start)).among sector y has);
}
  where
    still_set : (r : ℕ) → with_region region false bits r ≡ true → bits r ≡ true
    still_set r set = elim (cases_eq region r) [
      | inl here ↦ absurd (true≢false (sym set ∙ with_region-here region r false bits here))
      | inr apart ↦ sym (with_region-other region r false bits apart) ∙ set
    ]

-- Where it holds them each image has a bit that is set.
pub images_dirty : (g : Geometry) (sectors : ℕ) (bits : ℕ → Bool) (region : ℕ) (c : Content) → IsGeometry g sectors → bitmap_sectors g ≤ journal_sectors g → region < regions g
    → ((sector : ℕ) (x : List ℕ) → sector < sectors → Contains (c sector) x → length x ≡ 512) → HoldsBits g bits c → bits region ≡ true
    → EachImage (λ image. is_dirty g image region ≡ true) c
images_dirty g sectors bits region c geometry fits low whole holds set image is =
    is_dirty-at g sectors geometry fits region low image (λ sector inside. whole sector (image sector) inside (is sector))
    ∙ holds.set (bit_sector region) (image (bit_sector region)) (is (bit_sector region)) region low refl set

-- ---- the two calls

-- The bits, as they are seen.
abbrev SeesBits : Geometry → Regions → RegionBits → Type 0
SeesBits g s b = let seen : RegionBits = record { geometry = g; bytes = s.bytes } in seen ≡ b

pub seen_set : (g : Geometry) (s : Regions) (b : RegionBits) → SeesBits g s b → IsSetOf g s → IsSetOf b.geometry s
seen_set g s b sees of = subst (λ (r : RegionBits). IsSetOf r.geometry s) sees of

pub seen_bits : (g : Geometry) (s : Regions) (b : RegionBits) → SeesBits g s b → (r : ℕ) → has_region s r ≡ bits_of b r
seen_bits g s b sees r = ap (λ (x : RegionBits). bits_of x r) sees

-- A set of which one region is changed, and whose sector is written.
module _ (g : Geometry) (s : Regions) (b : RegionBits) (sees : SeesBits g s b) (set_of : IsSetOf g s) (sectors region : ℕ) (value : Bool) (places : IsGeometry b.geometry sectors)
    (low : region < regions b.geometry) where
  abbrev pub told : ℕ → Bool
  told = with_region region value (bits_of b)

  pub sector_inside : (region / 4096 < bitmap_sectors b.geometry) × (bit_sector region < sectors)
  sector_inside =
      let at = bit_sector-at b.geometry sectors places (seen_set g s b sees set_of).fits region low in
      (at.0, omega (arith, at.1, at.2))

  module _ (after : Regions) (size : after.size ≡ s.size) (has : (r : ℕ) → has_region after r ≡ with_region region value (has_region s) r) where
    pub has_told : (r : ℕ) → has_region after r ≡ told r
    has_told r = has r ∙ ap (λ (o : Bool). if r == region then value else o) (seen_bits g s b sees r)

    module _ (of : IsSectorOf after (region / 4096) (sector_of after (region / 4096))) where
      pub are_told : AreBits b.geometry told (bit_sector region) (sector_of after (region / 4096))
      are_told = AreBits-sector b.geometry after told region (sector_of after (region / 4096)) (size ∙ (seen_set g s b sees set_of).size) has_told of

      module _ (old new : List Content) (adds : EachMoment old new (FromStart old (OnlyAdds (IsOfRun (bit_sector region) (sector_of after (region / 4096)))))) where
        pub call_adds : AddsBits b.geometry told old new
        call_adds = adds_bits b.geometry told region (sector_of after (region / 4096)) sector_inside.0 are_told old new adds

        pub call_adds_to : AddsToSector (bit_sector region) old new
        call_adds_to = adds_to_sector b.geometry told region (sector_of after (region / 4096)) sector_inside.0 are_told old new adds

        -- What is held at the start was told.
        pub holds_after : (f : Content → Content) → IsChangedBy f old new → ((start : Content) → HoldsBits b.geometry (bits_of b) start → HoldsBits b.geometry told (f start))
            → HoldsBitsNow b.geometry (bits_of b) old → HoldsBitsNow b.geometry (has_region after) new
        holds_after f changed step was c told_c =
            let first = start_told (OnlyAdds (IsOfRun (bit_sector region) (sector_of after (region / 4096)))) c adds told_c in
            HoldsBits-same b.geometry told (has_region after) c (λ r r_low. sym (has_told r))
            (subst (HoldsBits b.geometry told) (sym (changed_to f old new changed first.0 c first.1 told_c)) (step first.0 (was first.0 first.1)))
