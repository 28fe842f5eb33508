-- Digests that go on from what a maker of tags keeps.
use Rattle.std.proofs.Common.{◌≡◌, ℕ, List, [], ◌++◌, Option, ap, append_assoc, refl}
use Rattle.std.specs.Prelude.{unwrap_or}
use Rattle.std.specs.Int.{w64, to_le_bytes}
use Rattle.sha2.specs.Sha256.{sha256}
use Rattle.sha2.specs.declared.Sha256.{Sha256}
use Rattle.image_model.specs.Tag.{digest_under, hmac_sha256, inner_pad, outer_pad, tag_message}
use Rattle.hmac_tag.specs.Prepared.{key_in, inner_start}
use Rattle.hmac_tag.specs.declared.tag_maker.Prepared.{Prepared}
use Rattle.hmac_tag.specs.declared.tag_maker.Prepared.TheVariants.{Plain, Keyed}

behind_pad : (pad salt number bytes : List ℕ)
    → pad ++ salt ++ number ++ bytes ≡ pad ++ (salt ++ number ++ bytes)
behind_pad pad salt number bytes = simp append_assoc

-- ---- for callers

-- Without a key the inner digest is the digest.
pub digest_under-plain : (prepared : Prepared) (salt : Option (List ℕ)) (sector : ℕ) (bytes : List ℕ)
    → prepared ≡ Plain
    → sha256 (inner_start prepared ++ unwrap_or salt [] ++ to_le_bytes w64 sector ++ bytes)
    ≡ digest_under (key_in prepared) (tag_message salt sector bytes)
unfolding tag_message
digest_under-plain prepared salt sector bytes plain = rw plain refl

-- With a key it is taken in behind the outer pad.
pub digest_under-keyed : (prepared : Prepared) (key : List ℕ) (outer : Sha256) (salt : Option (List ℕ))
    (sector : ℕ) (bytes : List ℕ)
    → prepared ≡ Keyed key outer
    → sha256 (outer_pad key
    ++ sha256 (inner_start prepared ++ unwrap_or salt [] ++ to_le_bytes w64 sector ++ bytes))
    ≡ digest_under (key_in prepared) (tag_message salt sector bytes)
unfolding tag_message hmac_sha256
digest_under-keyed prepared key outer salt sector bytes keyed =
    rw keyed (ap (λ (message : List ℕ). sha256 (outer_pad key ++ sha256 message))
    (behind_pad (inner_pad key) (unwrap_or salt []) (to_le_bytes w64 sector) bytes))
