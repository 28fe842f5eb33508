-- Bits of new regions, as they are cleared sector by sector.
use Rattle.std.proofs.Common.{◌≡◌, ℕ, ◌+◌, ◌-◌, ◌*◌, ◌/◌, ◌%◌, ◌<◌, ◌≤◌, true, false, if◌then◌else◌, nat_lt, sym, ◌∙◌, ap, subst, arith, refl, Some, List, [], ◌∷◌, ◌++◌, length}
use Rattle.std.specs.List.{AllByRecursion}
use Rattle.std.proofs.lemmas.Bool.{le-ltb, lt-ltb}
use Rattle.std.proofs.lemmas.List.{length-replicate, take_all}
use Rattle.std.proofs.lemmas.Option.{none-some}
use Rattle.disk_model.specs.Disk.{AddsSome, Content, Image, IsImage, IsRun, Reads, last_image, sector_in, with_run}
use Rattle.disk_model.specs.Moments.{EachSince, FromStart, IsChangedBy, content_now}
use Rattle.disk_model.proofs.MomentsLemmas.{EachMoment-weaker}
use Rattle.image_model.specs.declared.flags.TheConstants.{DIRTY_BITMAP}
use Rattle.image_model.specs.Bitmap.{is_bit_set}
use Rattle.image_model.specs.Geometry.{Geometry, bitmap_sectors, initial, regions}
use Rattle.image_model.specs.Sectors.{zero_bytes}
use Rattle.image_model.specs.Superblock.{Superblock, has_flag}
use Rattle.bitmap_model.specs.BitmapDisk.{bit_in, bit_sector}
use Rattle.bitmap_model.proofs.BitLemmas.{bit_sector-at, bitmap_fits_at}
use Rattle.dirty_bitmap.proofs.WordLemmas.{is_bit_set-zeros}
use Rattle.direct_laws.specs.CallLaws.{GivesTags}
use Rattle.place_model.proofs.TagsLemmas.{tag_byte-behind}
use Rattle.resize_model.specs.CallLaws.{AreNewBits, StandsThrough}
use Rattle.resize_model.specs.Growth.{Growth, IsOfNewBits, StandsFor, geometry_then}
use Rattle.resize_model.proofs.CallLemmas.{bits_done_law, bits_law, still_law, through_law}
use Rattle.resize_model.proofs.GrowthLemmas.{sector_in-zeros}
use Rattle.resize_model.proofs.PlacesLemmas.{more_regions_law}
use Rattle.place_model.specs.Tags.{HoldsTag}
use Rattle.image_resizing.specs.declared.planning.Plan.{Plan}
use Rattle.image_resizing.specs.Cleared.{ClearsSectors, StandsClearing, bits_begin, bits_end}
use Rattle.image_resizing.specs.Filled.{HasFilledOn, read_tags}
use Rattle.image_resizing.specs.Plan.{IsPlan, growth_of}
use Rattle.image_resizing.proofs.PlanLemmas.{plan_more, plan_places}

-- Of a disk that does not tell its content nothing is said.
pub stands_if : (w : Growth) (a b : List Content) (P : Content → Content → Type 0) → EachSince P a b → ((c : Content) → content_now a ≡ Some c → StandsThrough w a b) → StandsThrough w a b
stands_if w (start ∷ h) b P m f = f start refl
stands_if w [] b P m f = record {
  moments = EachMoment-weaker (λ c p. absurd p) m;
  now = λ c told. absurd (none c m.since m.each (sym (ap content_now m.grows) ∙ told));
  adds = EachMoment-weaker (λ c p. absurd p) m;
}
  where
    none : (c : Content) (since : List Content) → AllByRecursion (FromStart [] P) since → content_now (since ++ []) ≡ Some c → ⊥
    none c [] each at = none-some c at
    none c (x ∷ since) each at = absurd each.0

-- No region is taken away.
pub more_regions : (sectors : ℕ) (plan : Plan) → IsPlan sectors plan → regions plan.present.geometry ≤ regions plan.grown.geometry
more_regions sectors plan is =
    let then_ = geometry_then (growth_of sectors plan (λ sector. [])) in
    let same = plan_places sectors plan is (λ sector. []) in
    subst (λ (g : Geometry). regions plan.present.geometry ≤ regions g) (sym same)
    (more_regions_law plan.present.geometry then_.blocks (subst (λ (g : Geometry). plan.present.geometry.blocks ≤ g.blocks) same (plan_more sectors plan is))).0

module _ (sectors : ℕ) (plan : Plan) (is : IsPlan sectors plan) (set : has_flag DIRTY_BITMAP plan.present.fields.flags ≡ true) where
  set_then : has_flag DIRTY_BITMAP plan.grown.fields.flags ≡ true
  set_then = ap (λ (s : Superblock). has_flag DIRTY_BITMAP s.flags) is.fields ∙ set

  bit_place : (region : ℕ) → region < regions plan.grown.geometry → (region / 4096 < bitmap_sectors plan.grown.geometry) × (bit_sector region < initial plan.grown.geometry) × (initial plan.grown.geometry ≤ sectors)
  bit_place region low = bit_sector-at plan.grown.geometry sectors is.grown.geometry (bitmap_fits_at plan.grown.fields sectors plan.grown.geometry is.grown.told set_then) region low

  -- A sector that has a bit lies before all tags, on the disk.
  pub group_inside : (k : ℕ) → k < bits_end plan → (8 + k < initial plan.grown.geometry) × (initial plan.grown.geometry ≤ sectors)
  group_inside k low =
      let at = bit_place (k * 4096) (omega (arith, low)) in
      (omega (arith, at.1), at.2)

  pub group_is_run : (next count : ℕ) (bytes : List ℕ) → length bytes ≡ 512 * count → 1 ≤ count → next + count ≤ bits_end plan → IsRun (8 + next) (length bytes) sectors
  group_is_run next count bytes size some inside =
      let last = group_inside (next + count - 1) (omega (arith, some, inside)) in
      record { whole = omega (arith, size); some = omega (arith, size, some); inside = omega (arith, size, some, last.0, last.1) }

  pub group_no_tag : (next count : ℕ) (bytes : List ℕ) → length bytes ≡ 512 * count → next + count ≤ bits_end plan
      → (s : ℕ) → 8 + next ≤ s → s < 8 + next + length bytes / 512 → HoldsTag plan.grown.geometry s → ⊥
  group_no_tag next count bytes size inside s above low there =
      let behind = tag_byte-behind plan.grown.geometry sectors there.block there.byte is.grown.geometry there.block_low in
      let before = (group_inside (s - 8) (omega (arith, above, low, size, inside))).0 in
      omega (arith, behind, there.is, before, above)

  module _ (image : Image) where
    w : Growth
    w = growth_of sectors plan image

    -- It is one of the growth.
    new_low : (region : ℕ) → region < regions plan.grown.geometry → region < regions (geometry_then (growth_of sectors plan image))
    new_low region low = subst (λ (g : Geometry). region < regions g) (plan_places sectors plan is image) low

    -- Zeros have no bit: they serve where no old region has its bit.
    pub zeros_new : (next count : ℕ) (bytes : List ℕ) → bits_begin plan < next → next + count ≤ bits_end plan → bytes ≡ zero_bytes (512 * count) → AreNewBits (growth_of sectors plan image) next count bytes
    zeros_new next count bytes behind inside zeros = subst (AreNewBits (growth_of sectors plan image) next count) (sym zeros) (record {
      size = length-replicate {A = ℕ} (512 * count) 0;
      each = λ k low. subst (IsOfNewBits (growth_of sectors plan image) (8 + next + k)) (sym (sector_in-zeros count k low)) (record {
        has_bitmap = set;
        whole = length-replicate {A = ℕ} 512 0;
        new = (next + k) * 4096;
        is_new = record { new = omega (arith, behind); low = new_low ((next + k) * 4096) (omega (arith, inside, low)) };
        is = omega arith;
        stay = λ region old at. absurd (omega (arith, behind, old, at));
        clear = λ region above at. is_bit_set-zeros 512 (bit_in region);
      });
    })

    -- In the first sector the bits of old regions stay.
    pub first_new : (old bytes : List ℕ) → regions plan.present.geometry < regions plan.grown.geometry → length bytes ≡ 512
        → ((r : ℕ) → is_bit_set bytes r ≡ (if nat_lt r (regions plan.present.geometry % 4096) then is_bit_set old r else false))
        → ((region : ℕ) → region < regions plan.present.geometry → 8 + bits_begin plan ≡ bit_sector region → is_bit_set old (bit_in region) ≡ is_bit_set (image (8 + bits_begin plan)) (bit_in region))
        → AreNewBits (growth_of sectors plan image) (bits_begin plan) 1 bytes
    first_new old bytes some size told was = record {
      size = size;
      each = λ k low.
          let none : k ≡ 0 = omega (arith, low) in
          let here : sector_in bytes k ≡ bytes = ap (sector_in bytes) none ∙ take_all 512 bytes (omega (arith, size)) in
          let at : 8 + bits_begin plan + k ≡ 8 + bits_begin plan = omega (arith, none) in
          subst (λ (n : ℕ). IsOfNewBits (growth_of sectors plan image) n (sector_in bytes k)) (sym at) (subst (IsOfNewBits (growth_of sectors plan image) (8 + bits_begin plan)) (sym here) (record {
            has_bitmap = set;
            whole = size;
            new = regions plan.present.geometry;
            is_new = record { new = omega arith; low = new_low (regions plan.present.geometry) some };
            is = refl;
            stay = λ region old_ at. told (bit_in region) ∙ rw (lt-ltb (bit_in region) (regions plan.present.geometry % 4096) (omega (arith, old_, at))) (was region old_ at);
            clear = λ region above at. told (bit_in region) ∙ rw (le-ltb (bit_in region) (regions plan.present.geometry % 4096) (omega (arith, above, at))) refl;
          }));
    }

    -- What is read of a sector is what the disk stands for.
    pub read_old : (c : Content) (bytes : List ℕ) → StandsFor (growth_of sectors plan image) c → IsImage c (last_image c) → length bytes ≡ 512 → Reads (8 + bits_begin plan) bytes c
        → (region : ℕ) → region < regions plan.present.geometry → 8 + bits_begin plan ≡ bit_sector region → is_bit_set bytes (bit_in region) ≡ is_bit_set (image (8 + bits_begin plan)) (bit_in region)
    read_old c bytes stands reads size read region low at =
        let s = 8 + bits_begin plan in
        let is_last : bytes ≡ last_image c s =
        sym (take_all 512 bytes (omega (arith, size))) ∙ read 0 (omega (arith, size)) ∙ ap (last_image c) (let e : s + 0 ≡ s = omega arith in e) in
        ap (λ (xs : List ℕ). is_bit_set xs (bit_in region)) is_last
        ∙ (stands.each s (last_image c s) (reads s)).bits set region low at

    -- A call that writes such sectors.
    pub bits_stand : (next count done : ℕ) (bytes : List ℕ) (a b : List Content) → AreNewBits (growth_of sectors plan image) next count bytes
        → HasFilledOn sectors plan image done done next a → EachSince (AddsSome (8 + next) bytes) a b → StandsThrough (growth_of sectors plan image) a b
    bits_stand next count done bytes a b are has m = bits_law (growth_of sectors plan image) done done next count bytes (read_tags plan) a b are has m

    pub bits_fill : (next count done : ℕ) (bytes : List ℕ) (a b : List Content) → AreNewBits (growth_of sectors plan image) next count bytes
        → HasFilledOn sectors plan image done done next a → IsChangedBy (with_run (8 + next) bytes) a b → GivesTags plan.grown.geometry (read_tags plan) (read_tags plan) a b
        → HasFilledOn sectors plan image done done (next + count) b
    bits_fill next count done bytes a b are has written gives =
        bits_done_law (growth_of sectors plan image) done done next count bytes (read_tags plan) (read_tags plan) a b are has written
        (subst (λ (g : Geometry). GivesTags g (read_tags plan) (read_tags plan) a b) (plan_places sectors plan is image) gives)

-- ---- calls in a row

module _ (sectors : ℕ) (plan : Plan) where
  pub clears_then : (a b c : List Content) (n m p : ℕ) → ClearsSectors sectors plan n m a b → ClearsSectors sectors plan m p b c → ClearsSectors sectors plan n p a c
  clears_then a b c n m p first second image done has = second image done (first image done has)

  pub clearing_still : (a : List Content) (n : ℕ) → StandsClearing sectors plan n a a
  clearing_still a n image done has = still_law (growth_of sectors plan image) a a refl (λ c told. (has c told).stands)

  pub clearing_then : (a b c : List Content) (n m : ℕ) → ClearsSectors sectors plan n m a b → StandsClearing sectors plan n a b
      → StandsClearing sectors plan m b c → StandsClearing sectors plan n a c
  clearing_then a b c n m clears first second image done has =
      through_law (growth_of sectors plan image) a b c (first image done has) (second image done (clears image done has))
