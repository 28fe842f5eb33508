-- How long digests and tags are.
use Rattle.std.proofs.Common.{◌≡◌, ℕ, ◌≤◌, List, length, Option, Some, None, arith}
use Rattle.std.proofs.lemmas.List.{length-take-le}
use Rattle.sha2.proofs.Facts256.{length-sha256}
use Rattle.image_model.specs.Tag.{digest_under, hmac_sha256, tag_message, tag_of}

pub length-digest_under : (key : Option (List ℕ)) (message : List ℕ) → length (digest_under key message) ≡ 32
unfolding hmac_sha256
length-digest_under None message = length-sha256 message
length-digest_under (Some key) message = length-sha256 _

-- ---- for callers

-- A tag has the size that was asked for.
pub length-tag_of : (key salt : Option (List ℕ)) (size sector : ℕ) (bytes : List ℕ) → size ≤ 32
    → length (tag_of key salt size sector bytes) ≡ size
unfolding tag_of
length-tag_of key salt size sector bytes fits =
    let whole = length-digest_under key (tag_message salt sector bytes) in
    length-take-le size _ (omega (arith, whole, fits))
