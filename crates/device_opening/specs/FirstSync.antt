-- The first sync of an opening, of a disk whose image is opened by superblock and geometry alone.
use Rattle.std.specs.Prelude.{◌≡◌, ℕ, List, Option}
use Rattle.disk_model.specs.Disk.{Content, EachImage, last_image}
use Rattle.disk_model.specs.Moments.{EachSince, HasNow}
use Rattle.image_model.specs.Geometry.{Geometry}
use Rattle.place_model.specs.Format.{format_on}
use Rattle.place_model.specs.Kind.{CanOpenPlaced, placed_kind}
use Rattle.direct_laws.specs.MomentLaws.{IsOpenedOn}
use Rattle.tag_store.specs.Store.{Store, given_tags}

-- The image that reads give can be opened so.
abbrev pub CanOpenRead : Option (List ℕ) → (sectors : ℕ) → List Content → Type 0
CanOpenRead key sectors moments = HasNow (λ c. CanOpenPlaced key sectors (last_image c)) moments

-- It can, and its places are these.
pub record IsToOpen (key : Option (List ℕ)) (sectors : ℕ) (g : Geometry) (moments : List Content)
    : Type 0 where
  pub can : CanOpenRead key sectors moments
  pub geometry : HasNow (λ c. (format_on key sectors (last_image c)).geometry ≡ g) moments

-- The device is open on the image that reads gave, and its store gives the tags that are in place.
abbrev pub IsOpened : Option (List ℕ) → (sectors : ℕ) → Store → (before after : List Content) → Type 0
IsOpened key sectors store before after =
    HasNow (λ start. IsOpenedOn key sectors (last_image start) (given_tags store) after) before

-- At each moment each image can be opened, and may be left of the device before its first request.
pub record IsLeftOpening (key : Option (List ℕ)) (sectors : ℕ) (before after : List Content) : Type 0 where
  pub opens : EachSince (λ start. EachImage (placed_kind key sectors).CanOpen) before after
  pub left : EachSince (λ start. let image = last_image start in let kind = placed_kind key sectors in
      EachImage (kind.MayBeLeft image (kind.opened image).history)) before after

-- ---- under any key

-- Where the image that reads give can be opened so, and its places are these, the device is open on it.
abbrev pub OpensPlaced : (sectors : ℕ) → Geometry → Store → (before after : List Content) → Type 0
OpensPlaced sectors g store before after = (key : Option (List ℕ)) → IsToOpen key sectors g before
    → IsOpened key sectors store before after

-- Where it can, what is left can be opened so too, and may be left of the device.
abbrev pub LeavesPlaced : (sectors : ℕ) → (before after : List Content) → Type 0
LeavesPlaced sectors before after = (key : Option (List ℕ)) → CanOpenRead key sectors before
    → IsLeftOpening key sectors before after
