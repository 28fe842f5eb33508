-- What an object outside is: the name that it is bound to, and of a disk how many sectors it has.
-- Own: an object is bound to a name before anything is asked of it, and what has this name can be told before that.
use Rattle.std.specs.Prelude.{◌≡◌, ℕ, ◌≤◌, List}
use Rattle.std.specs.Option.{ForSome}
use Rattle.disk_model.specs.Disk.{Content}
use Rattle.disk_model.specs.Moments.{content_now}

-- The name that an object is bound to: none yet; one; or, as an object in memory, whichever it is given.
pub data Binding : Type 0 where
  Unbound : Binding
  BoundTo : (name : List ℕ) → Binding
  AnyName : Binding

-- The object is bound to this name.
abbrev pub IsBoundTo : List ℕ → Binding → Type 0
IsBoundTo name Unbound = ⊥
IsBoundTo name (BoundTo bound) = bound ≡ name
IsBoundTo name AnyName = Unit {0}

-- The object is bound to some name.
abbrev pub IsBound : Binding → Type 0
IsBound Unbound = ⊥
IsBound (BoundTo bound) = Unit {0}
IsBound AnyName = Unit {0}

-- What a disk is. No call but that which binds it changes this.
pub record DiskIdentity : Type 0 where
  pub name : Binding
  pub sectors : ℕ

-- The disk is bound, and has at least so many sectors.
pub record HasSectors (least : ℕ) (disk : DiskIdentity) : Type 0 where
  pub bound : IsBound disk.name
  pub enough : least ≤ disk.sectors

-- What stands under a name: how many sectors it has, and the contents of all its moments, the newest first.
pub record NamedDisk : Type 0 where
  pub sectors : ℕ
  pub moments : List Content

-- A disk of so many sectors with these moments is what stood under a name, where this was told.
pub record IsThere (named : NamedDisk) (sectors : ℕ) (moments : List Content) : Type 0 where
  pub is : ForSome (content_now named.moments) (λ c. named ≡ record { sectors = sectors; moments = moments })
