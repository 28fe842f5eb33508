-- What the calls say is what the chains of calls of a device ask of them: trials that no proof cites.
use Rattle.std.proofs.Common.{◌≡◌, ℕ, ◌<◌, ◌≤◌, ◌==◌, Bool, true, false, if◌then◌else◌, Option, Some, None, List, sym, ◌∙◌, ap}
use Rattle.disk_model.specs.Disk.{Content, Image, last_image}
use Rattle.disk_model.specs.Identity.{DiskIdentity}
use Rattle.image_model.specs.declared.flags.TheConstants.{RECALCULATING}
use Rattle.image_model.specs.Bitmap.{is_dirty, is_to_recalculate}
use Rattle.image_model.specs.Geometry.{Geometry, bitmap_sectors, journal_sectors, region_of, regions}
use Rattle.image_model.specs.Superblock.{Superblock, has_flag}
use Rattle.device_model.specs.History.{Tagger}
use Rattle.device_model.specs.Regions.{least_region, with_region}
use Rattle.bitmap_model.specs.BitmapDisk.{BitmapDisk}
use Rattle.bitmap_model.specs.Steps.{after_recalculation}
use Rattle.direct_laws.specs.CallLaws.{AddsTags}
use Rattle.bitmap_laws.specs.CallLaws.{AddsBits, AreSameBits, IsTaggerOf, KeepsElsewhere, KeepsNow, StandsThrough, every_block, region_tags}
use Rattle.bitmap_laws.specs.ServeLaws.{Recalculates}
use Rattle.bitmap_laws.proofs.CallLemmas.{elsewhere_law, region_law, start_told}
use Rattle.bitmap_laws.proofs.LeastLemmas.{least_law}
use Rattle.bitmap_laws.proofs.ServeLemmas.{region_taken_law}
use Rattle.disk_model.specs.Disk.{OnlyAdds}
use Rattle.bitmap_laws.specs.CallLaws.{IsBitmapSector}
use Rattle.dirty_bitmap.specs.Bits.{RegionBits, bits_of}
use Rattle.tag_store.specs.Store.{IsStore, Store}
use Rattle.tag_store.proofs.StoreLawsLemmas.{elsewhere_law as store_elsewhere_law}
use Rattle.recalculation.specs.Awaiting.{AwaitingRegions, IsOpening, awaiting_blocks, awaiting_of, opening_first}
use Rattle.recalculation.proofs.AwaitingLemmas.{bits_region}
use Rattle.recalculation.proofs.LawsLemmas.{bitmap_blocks_law, position_blocks_law, same_blocks_law, same_moments_law}

-- `of` over the bits that were loaded: those regions await that do on the disk when it is opened.
pub scratch_opening_serves : (s : Superblock) (g : Geometry) (bits : RegionBits) (a : AwaitingRegions) (image : Image) → AreSameBits g (bits_of bits) (is_dirty g image) → IsOpening s g (Some bits) a
    → AreSameBits g (awaiting_of a) (is_dirty g image)
scratch_opening_serves s g bits a image same opening region low = opening.regions_ region low ∙ bits_region s g bits region low ∙ same region low

-- `next` is the region that a step takes.
pub scratch_next_serves : (d : BitmapDisk) (g : Geometry) (a : AwaitingRegions) (next : Option ℕ) → d.geometry ≡ g → a.geometry ≡ g → AreSameBits g (awaiting_of a) d.awaiting
    → next ≡ least_region (regions a.geometry) (awaiting_of a) → next ≡ least_region (regions d.geometry) d.awaiting
scratch_next_serves d g a next on is same told =
    told ∙ ap (λ (x : Geometry). least_region (regions x) (awaiting_of a)) is ∙ least_law (regions g) (awaiting_of a) d.awaiting same ∙ ap (λ (x : Geometry). least_region (regions x) d.awaiting) (sym on)

-- `recalc_region` of a region that awaits, with a bitmap, by `taken`,
pub scratch_recalc_region_serves : (d : BitmapDisk) (a : AwaitingRegions) (region : ℕ) (tag : Tagger) (marked : ℕ → Bool) (tags now : Content → ℕ → List ℕ) (before after : List Content) → d.geometry ≡ a.geometry
    → IsTaggerOf d tag → d.awaiting region ≡ true → awaiting_of a region ≡ true → a.first ≡ 0 → KeepsNow d marked tags before
    → Recalculates tag a.geometry (awaiting_blocks a) region tags now before after
    → StandsThrough d marked before after × KeepsNow (after_recalculation d region) marked now after
scratch_recalc_region_serves d a region tag marked tags now before after on is waits same first keeps taken =
    region_taken_law d a.geometry region tag marked tags now before after on is waits keeps
    (same_blocks_law tag a.geometry (awaiting_blocks a) every_block region tags now before after (λ b low within. bitmap_blocks_law a region b first same within) taken)

-- and where it fails, by `moments`.
pub scratch_failed_region_serves : (d : BitmapDisk) (a : AwaitingRegions) (region : ℕ) (tag : Tagger) (marked : ℕ → Bool) (tags : Content → ℕ → List ℕ) (before after : List Content) → d.geometry ≡ a.geometry
    → IsTaggerOf d tag → d.awaiting region ≡ true → awaiting_of a region ≡ true → a.first ≡ 0 → KeepsNow d marked tags before
    → AddsTags a.geometry tags (λ c. region_tags tag a.geometry (awaiting_blocks a) region c (tags c)) before after → StandsThrough d marked before after
scratch_failed_region_serves d a region tag marked tags before after on is waits same first keeps moments =
    region_law d a.geometry region tag marked tags before after on is waits keeps
    (same_moments_law tag a.geometry (awaiting_blocks a) every_block region tags before after (λ b low within. bitmap_blocks_law a region b first same within) moments)

-- Without a bitmap the blocks are recalculated that are to be, also where it fails.
pub scratch_position_serves : (s : Superblock) (a : AwaitingRegions) (region : ℕ) (tag : Tagger) (tags now : Content → ℕ → List ℕ) (before after : List Content) → 0 < a.geometry.shape.spb
    → has_flag RECALCULATING s.flags ≡ true → a.first ≡ opening_first s a.geometry None → awaiting_of a region ≡ true
    → (Recalculates tag a.geometry (awaiting_blocks a) region tags now before after → Recalculates tag a.geometry (is_to_recalculate s a.geometry) region tags now before after)
    × (AddsTags a.geometry tags (λ c. region_tags tag a.geometry (awaiting_blocks a) region c (tags c)) before after
    → AddsTags a.geometry tags (λ c. region_tags tag a.geometry (is_to_recalculate s a.geometry) region c (tags c)) before after)
scratch_position_serves s a region tag tags now before after some flag first waits =
    let alike : (b : ℕ) → b < a.geometry.blocks → region_of a.geometry b ≡ region → awaiting_blocks a b ≡ is_to_recalculate s a.geometry b = λ b low within. position_blocks_law s a region b some flag first waits within in
    (same_blocks_law tag a.geometry (awaiting_blocks a) (is_to_recalculate s a.geometry) region tags now before after alike, same_moments_law tag a.geometry (awaiting_blocks a) (is_to_recalculate s a.geometry) region tags before after alike)

-- Then the region awaits no more, by `done`.
pub scratch_done_serves : (d : BitmapDisk) (a now : AwaitingRegions) (region : ℕ) → AreSameBits a.geometry (awaiting_of a) d.awaiting
    → AreSameBits a.geometry (awaiting_of now) (with_region region false (awaiting_of a)) → AreSameBits a.geometry (awaiting_of now) (after_recalculation d region).awaiting
scratch_done_serves d a now region same done r low = done r low ∙ ap (λ (t : Bool). if r == region then false else t) (same r low)

-- `make_dirty` and `clear` leave a store of tags one of its disk, by `elsewhere`, also where they fail.
pub scratch_elsewhere_serves : (store : Store) (disk : DiskIdentity) (bits : ℕ → Bool) (before after : List Content) → bitmap_sectors store.geometry ≤ journal_sectors store.geometry → IsStore store disk before
    → AddsBits store.geometry bits before after → KeepsElsewhere store.geometry before after → IsStore store disk after
scratch_elsewhere_serves store disk bits before after fits is adds elsewhere =
    let same = elsewhere_law store.geometry disk.sectors before after is.geometry fits elsewhere in
    store_elsewhere_law store disk before after is (λ d told.
    let start = start_told (OnlyAdds (IsBitmapSector store.geometry bits)) d adds told in (
      start.0,
      start.1,
      λ sector holds.
          ap (last_image d) holds.is ∙ same start.0 start.1 d told holds.block holds.byte holds.block_low holds.byte_low ∙ sym (ap (last_image start.0) holds.is),
    ))
