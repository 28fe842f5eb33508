-- How far a flush came, for the disk of every mode: tags are written back, and all is synced.
use Rattle.std.specs.Prelude.{◌≡◌, ℕ, List}
use Rattle.disk_model.specs.Disk.{Content, newest_only}
use Rattle.disk_model.specs.Moments.{EachSince}
use Rattle.image_model.specs.Geometry.{Geometry}
use Rattle.direct_laws.specs.CallLaws.{AddsTags, ReadsImage, ReadsTagsNow}
use Rattle.direct_laws.specs.ServeLaws.{WritesBack}

-- Tags are being written back; or all are, and the disk is being synced.
pub data SettlesIn (g : Geometry) (tags : Content → ℕ → List ℕ) (before after : List Content) : Type 0 where
  Back : AddsTags g tags tags before after → SettlesIn g tags before after
  Syncing : (back : Content → ℕ → List ℕ) (between : List Content) → WritesBack g tags back before between
      → ReadsTagsNow g back between → ReadsImage between
      → EachSince (λ start c. c ≡ newest_only start) between after → SettlesIn g tags before after
