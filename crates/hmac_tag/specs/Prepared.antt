-- What a maker of tags keeps of its rule: the digests that every tag begins with.
use Rattle.std.specs.Prelude.{ℕ, ◌≤◌, List, [], ◌++◌, Option, Some, None, unwrap_or}
use Rattle.sha2.specs.Hashers.{Holds256}
use Rattle.image_model.specs.Tag.{inner_pad, outer_pad}
use Rattle.hmac_tag.specs.TagMaker.{TagRule}
use Rattle.hmac_tag.specs.declared.tag_maker.Prepared.{Prepared}
use Rattle.hmac_tag.specs.declared.tag_maker.Prepared.TheVariants.{Plain, Keyed}
use Rattle.hmac_tag.specs.declared.tag_maker.TagMaker.TheInside.{Inside}

-- The key, if there is one.
abbrev pub key_in : Prepared → Option (List ℕ)
key_in Plain = None
key_in (Keyed key outer) = Some key

-- What the inner digest begins with, before the salt.
abbrev pub inner_start : Prepared → List ℕ
inner_start Plain = []
inner_start (Keyed key outer) = inner_pad key

-- Where there is a key, the outer digest begins with the outer pad.
abbrev pub HasOuterStart : Prepared → Type 0
HasOuterStart Plain = Unit {0}
HasOuterStart (Keyed key outer) = Holds256 outer (outer_pad key)

-- The rule that the maker's fields stand for.
abbrev pub rule_of : Inside → TagRule
rule_of maker = record { key = key_in maker.prepared; salt = maker.salt; size = maker.size }

-- The size is that of a tag, and both digests are begun.
pub record IsPrepared (maker : Inside) : Type 0 where
  pub some : 1 ≤ maker.size
  pub fits : maker.size ≤ 32
  pub inner : Holds256 maker.inner (inner_start maker.prepared ++ unwrap_or maker.salt [])
  pub outer : HasOuterStart maker.prepared
