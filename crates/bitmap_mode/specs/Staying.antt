-- What a recalculation is given, and what each call leaves as it was, whether it fails or not.
use Rattle.std.specs.Prelude.{◌≡◌, List}
use Rattle.disk_model.specs.Disk.{Content}
use Rattle.disk_model.specs.Identity.{DiskIdentity}
use Rattle.hmac_tag.specs.TagMaker.{TagRule}
use Rattle.tag_store.specs.Store.{IsStore, Store}
use Rattle.bitmap_mode.specs.States.{States}

-- The store is of the disk, it has the places of the regions, and the rule makes tags of their size.
pub record FitsDisk (rule : TagRule) (s : States) (store : Store) (disk : DiskIdentity) (moments : List Content)
    : Type 0 where
  pub same : store.geometry ≡ s.geometry
  pub size : rule.size ≡ s.geometry.shape.tag_size
  pub store_ : IsStore store disk moments

-- The disk is the one that it was, and the store is of it. Tags and regions are in the places where they were.
pub record StaysOnDisk (old new : States) (store last : Store) (was now : DiskIdentity) (after : List Content)
    : Type 0 where
  pub store_ : IsStore last now after
  pub tags : last.geometry ≡ store.geometry
  pub regions_ : new.geometry ≡ old.geometry
  pub identity : now ≡ was

-- The disk is the one that it was, and the store, of which no tag moves, is of it. Of the regions only bits may differ.
pub record StaysButBits (old new : States) (store : Store) (was now : DiskIdentity) (after : List Content)
    : Type 0 where
  pub geometry : new.geometry ≡ old.geometry
  pub awaiting : new.awaiting ≡ old.awaiting
  pub fresh : new.fresh ≡ old.fresh
  pub store_ : IsStore store now after
  pub identity : now ≡ was
