-- What is left of a mirror of two devices in journal mode: what holds of the images of both disks.
-- Own: by each leg's own promise, and by level's rule on both.
use Rattle.std.specs.Prelude.{◌≡◌, ◌≢◌, ◌⊎◌, ℕ, ◌<◌, true, take, None}
use Rattle.disk_model.specs.Disk.{Image}
use Rattle.image_model.specs.Cells.{Cell}
use Rattle.device_model.specs.History.{with_changes}
use Rattle.mirror_model.specs.Calls.{FlushCall, LevelCall, MirrorCall, after_call, call_changes, levelled}
use Rattle.mirror_model.specs.Cut.{IsKeptBlock, IsMirror, IsMirrorWithin, IsTwin, entry_content}
use Rattle.mirror_model.specs.Mirror.{MirrorState, a_cells, b_cells, changes_on_first, changes_on_second, matches}
use Rattle.mirror_laws.specs.CutLaws.{IsKept, IsLevelledIn, IsTouched, promise_in}
use Rattle.mirror_laws.specs.Promise.{IsKeptOrLater}
use Rattle.place_model.specs.Format.{cells_on, format_on}
use Rattle.place_model.specs.Opened.{blocks_of}
use Rattle.mirror_calls.specs.Leg.{LegOn}
use Rattle.mirror_calls.specs.State.{format_of}
use Rattle.mirror_core.specs.Stands.{MayBeLeftOf}

-- The cells of an image of a leg.
abbrev pub leg_cells : LegOn → Image → ℕ → Cell
leg_cells on image = cells_on (format_on on.key on.sectors image) image

-- Both legs have as many blocks, each those of the image that it was opened on.
pub record AreOnImages (a b : LegOn) : Type 0 where
  pub first : a.format ≡ blocks_of (format_on a.key a.sectors a.entry)
  pub second : b.format ≡ blocks_of (format_on b.key b.sectors b.entry)
  pub blocks : b.format.blocks ≡ a.format.blocks

-- These images may be left of such a mirror.
pub record AreLeftOf (a b : LegOn) (m : MirrorState) (x y : Image) : Type 0 where
  pub on : AreOnImages a b
  pub first : MayBeLeftOf a m.a.history x
  pub second : MayBeLeftOf b m.b.history y

-- ---- each leg alone

-- An image of the first leg has, on its own, each write that the mirror has flushed, or a later one, with a matching tag;
abbrev pub FirstImageLaw : Type 0
FirstImageLaw = (a b : LegOn) (m : MirrorState) (x : Image) → AreOnImages a b → IsMirrorWithin (format_of a b) m
    → MayBeLeftOf a m.a.history x → (block : ℕ) → block < a.format.blocks → IsKept m block
    → (matches a.format.tag block (leg_cells a x block) ≡ true)
    × IsKeptOrLater (format_of a b) (promise_in m) block (leg_cells a x block).bytes

-- and so has one of the second.
abbrev pub SecondImageLaw : Type 0
SecondImageLaw = (a b : LegOn) (m : MirrorState) (y : Image) → AreOnImages a b → IsMirrorWithin (format_of a b) m
    → MayBeLeftOf b m.b.history y → (block : ℕ) → block < a.format.blocks → IsKept m block
    → (matches b.format.tag block (leg_cells b y block) ≡ true)
    × IsKeptOrLater (format_of a b) (promise_in m) block (leg_cells b y block).bytes

-- ---- both

-- By level's rule a pair of images has of each block its last flushed content or one written later,
abbrev pub PairImageLaw : Type 0
PairImageLaw = (a b : LegOn) (m : MirrorState) (x y : Image) → IsMirrorWithin (format_of a b) m → AreLeftOf a b m x y
    → (block : ℕ) → block < a.format.blocks
    → IsKeptBlock (format_of a b) m (leg_cells a x) (leg_cells b y) block

-- and something of each block on which a leg matched when the mirror was made, or of which a write is kept.
abbrev pub SomeImageLaw : Type 0
SomeImageLaw = (a b : LegOn) (m : MirrorState) (x y : Image) → IsMirrorWithin (format_of a b) m → AreLeftOf a b m x y
    → (block : ℕ) → block < a.format.blocks → (entry_content (format_of a b) m block ≢ None) ⊎ IsKept m block
    → levelled (format_of a b) (leg_cells a x) (leg_cells b y) block ≢ None

-- So has an image of the first leg at any moment of a call with one of the second at any other.
abbrev pub MomentsImageLaw : Type 0
MomentsImageLaw = (a b : LegOn) (m : MirrorState) (call : MirrorCall) (a_made b_made : ℕ) (x y : Image)
    → AreOnImages a b → IsMirror (format_of a b) m → let changes = call_changes (format_of a b) m call in
    MayBeLeftOf a (with_changes (take a_made (changes_on_first changes)) m.a.history) x
    → MayBeLeftOf b (with_changes (take b_made (changes_on_second changes)) m.b.history) y
    → (block : ℕ) → block < a.format.blocks
    → IsKeptBlock (format_of a b) (record (after_call (format_of a b) m call) { kept = m.kept })
    (leg_cells a x) (leg_cells b y) block

-- ---- twins

-- Once a flush is done, each block that was written has the same bytes and matching tags on both legs, in every image;
abbrev pub FlushImageLaw : Type 0
FlushImageLaw = (a b : LegOn) (m : MirrorState) (x y : Image) → IsMirror (format_of a b) m
    → AreLeftOf a b (after_call (format_of a b) m FlushCall) x y → (block : ℕ) → block < a.format.blocks
    → IsTouched m block → IsTwin (format_of a b) (leg_cells a x) (leg_cells b y) block

-- and once a level is done, each block on which a leg matched.
abbrev pub LevelImageLaw : Type 0
LevelImageLaw = (a b : LegOn) (m : MirrorState) (x y : Image) → let f = format_of a b in IsMirror f m
    → AreLeftOf a b (after_call f m LevelCall) x y → (block : ℕ) → block < a.format.blocks
    → (matches f.a_tag block (a_cells f m block) ≡ true) ⊎ ((matches f.b_tag block (b_cells f m block) ≡ true) ⊎ IsTouched m block)
    → IsLevelledIn f m (leg_cells a x) (leg_cells b y) block
