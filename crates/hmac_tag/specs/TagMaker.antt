-- What decides the tags that a maker makes.
use Rattle.std.specs.Prelude.{ℕ, List, Option, Some, None}
use Rattle.hmac_tag.specs.declared.key.Hash.{Hash}
use Rattle.hmac_tag.specs.declared.key.Hash.TheVariants.{Sha256, Hmac}

-- The key, if there is one, the salt, if there is one, and the size of a tag in bytes.
pub record TagRule : Type 0 where
  pub key : Option (List ℕ)
  pub salt : Option (List ℕ)
  pub size : ℕ

-- The key of a hash, if it has one.
abbrev pub key_of : Hash → Option (List ℕ)
key_of Sha256 = None
key_of (Hmac key) = Some key
