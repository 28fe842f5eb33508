-- What a contract sees of a `RegionStates`: which regions' bits are set, which await, and which are fresh.
-- Own: in memory stands what the counts of a device tell of its regions, and which of them may be cleaned.
use Rattle.std.specs.Prelude.{◌≡◌, ◌⊎◌, ℕ, ◌≤◌, Bool, false, not, ◌&&◌, if◌then◌else◌, Option}
use Rattle.image_model.specs.Geometry.{Geometry, bitmap_sectors, journal_sectors, region_of, regions}
use Rattle.device_model.specs.Regions.{RegionCounts, least_region, with_region}
use Rattle.device_model.specs.Regions.{recalculated_region, written_back, written_region}
use Rattle.bitmap_laws.specs.CallLaws.{AreSameBits}
use Rattle.dirty_bitmap.specs.Bits.{RegionBits, bits_of}
use Rattle.dirty_bitmap.specs.Regions.{Regions, has_region}
use Rattle.recalculation.specs.Awaiting.{AwaitingRegions, awaiting_of}

-- Where the regions lie, whose bit is set on the disk, which await, and which had a write since the last flush.
pub record States : Type 0 where
  pub geometry : Geometry
  pub bits : RegionBits
  pub awaiting : AwaitingRegions
  pub fresh : Regions

-- What a device counts of its regions, by these.
abbrev pub counts_by : RegionBits → AwaitingRegions → Regions → RegionCounts
counts_by bits awaiting fresh =
    record { set_bits = bits_of bits; awaiting = awaiting_of awaiting; fresh = has_region fresh }

abbrev pub counts_of : States → RegionCounts
counts_of s = counts_by s.bits s.awaiting s.fresh

-- The counts tell the same of all regions.
pub record AreSameCounts (g : Geometry) (one other : RegionCounts) : Type 0 where
  pub set_bits : AreSameBits g one.set_bits other.set_bits
  pub awaiting : AreSameBits g one.awaiting other.awaiting
  pub fresh : AreSameBits g one.fresh other.fresh

-- The states tell these.
abbrev pub HasCounts : States → Geometry → RegionCounts → Type 0
HasCounts s g counts = AreSameCounts g (counts_of s) counts

-- They tell what was told before, or these.
abbrev pub MayHaveCounts : (new old : States) → RegionCounts → Type 0
MayHaveCounts new old counts = HasCounts new old.geometry (counts_of old) ⊎ HasCounts new old.geometry counts

-- The least region that awaits.
abbrev pub least_awaiting : States → Option ℕ
least_awaiting s = least_region (regions s.geometry) (awaiting_of s.awaiting)

-- At opening each region whose bit is set awaits, and none is fresh.
abbrev pub counts_opened : (bits : ℕ → Bool) → RegionCounts
counts_opened bits = record { set_bits = bits; awaiting = bits; fresh = λ region. false }

-- ---- what changes

-- Once a block is written, and all is flushed where that is asked,
abbrev pub counts_written : (is_flushed : Bool) → (block : ℕ) → States → RegionCounts
counts_written is_flushed block s = let region = region_of s.geometry block in
    if is_flushed then written_back (written_region region (counts_of s)) else written_region region (counts_of s)

-- once the bit of a region is cleared,
abbrev pub counts_cleaned : (region : ℕ) → States → RegionCounts
counts_cleaned region s = record (counts_of s) { set_bits = with_region region false (counts_of s).set_bits }

-- and once one is recalculated, where it awaits.
abbrev pub counts_taken : (region : ℕ) → States → RegionCounts
counts_taken region s =
    if awaiting_of s.awaiting region then recalculated_region region (counts_of s) else counts_of s

-- ---- in memory

-- The region's bit is set, and it needs none.
abbrev pub may_be_clean : RegionCounts → ℕ → Bool
may_be_clean c region = c.set_bits region && not (c.awaiting region) && not (c.fresh region)

-- The set has the regions whose bit is set, and that need none.
abbrev pub AreToClean : Geometry → RegionBits → AwaitingRegions → (fresh to_clean : Regions) → Type 0
AreToClean g bits awaiting fresh to_clean =
    (to_clean.size ≡ regions g) × AreSameBits g (has_region to_clean) (may_be_clean (counts_by bits awaiting fresh))

-- All are of one geometry, whose bitmap fits the journal. With a bitmap no block is below the first that may await.
pub record IsStates (g : Geometry) (bits : RegionBits) (awaiting : AwaitingRegions) (fresh to_clean : Regions)
    : Type 0 where
  pub fits : bitmap_sectors g ≤ journal_sectors g
  pub bits_geometry : bits.geometry ≡ g
  pub awaiting_geometry : awaiting.geometry ≡ g
  pub fresh_size : fresh.size ≡ regions g
  pub awaiting_first : awaiting.first ≡ 0
  pub clean : AreToClean g bits awaiting fresh to_clean
