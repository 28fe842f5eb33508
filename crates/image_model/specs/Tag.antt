-- The tag of a block: the first bytes of a digest, keyed or not, of its sector number and its bytes.
use Rattle.std.specs.Prelude.{ℕ, ◌-◌, List, [], ◌++◌, length, map, take, replicate, bit_xor, nat_le, if◌then◌else◌, Option, Some, None, unwrap_or}
use Rattle.std.specs.Int.{w64, to_le_bytes}
use Rattle.sha2.specs.Sha256.{sha256}

-- A key of at most 64 bytes as it is, and a longer one's digest.
-- Source: FIPS 198-1, section 4, steps 1 to 3.
abbrev pub short_key : List ℕ → List ℕ
short_key key = if nat_le (length key) 64 then key else sha256 key

-- The key in 64 bytes, with zeros behind it.
-- Source: FIPS 198-1, section 4, steps 1 to 3.
abbrev pub padded_key : List ℕ → List ℕ
padded_key key = short_key key ++ replicate (64 - length (short_key key)) 0

-- The key in 64 bytes, each combined with one byte by exclusive or.
-- Source: FIPS 198-1, section 4, steps 4 and 7.
abbrev pub masked_key : ℕ → List ℕ → List ℕ
masked_key mask key = map (λ byte. bit_xor byte mask) (padded_key key)

-- What stands before the message in the inner digest of HMAC.
-- Source: FIPS 198-1, section 4, step 4.
abbrev pub inner_pad : List ℕ → List ℕ
inner_pad key = masked_key 0x36 key

-- What stands before the inner digest in the outer one.
-- Source: FIPS 198-1, section 4, step 7.
abbrev pub outer_pad : List ℕ → List ℕ
outer_pad key = masked_key 0x5c key

-- HMAC-SHA-256 of a message under a key.
-- Source: FIPS 198-1, section 4.
unfoldable pub hmac_sha256 : List ℕ → List ℕ → List ℕ
hmac_sha256 key message = sha256 (outer_pad key ++ sha256 (inner_pad key ++ message))

-- The digest of a message: SHA-256, or HMAC-SHA-256 where there is a key.
-- Source: Linux, drivers/md/dm-integrity.c, integrity_sector_checksum.
abbrev pub digest_under : Option (List ℕ) → List ℕ → List ℕ
digest_under None message = sha256 message
digest_under (Some key) message = hmac_sha256 key message

-- What the digest of a block is over: the salt, if there is one, the number of the block's first
-- sector in 8 bytes, the lowest first, and the block's bytes.
-- Source: Linux, drivers/md/dm-integrity.c, integrity_sector_checksum.
unfoldable pub tag_message : Option (List ℕ) → ℕ → List ℕ → List ℕ
tag_message salt sector bytes = unwrap_or salt [] ++ to_le_bytes w64 sector ++ bytes

-- The tag of a block, under a key and with a salt if there are such: the first `size` bytes of its
-- digest.
-- Source: Linux, drivers/md/dm-integrity.c, integrity_sector_checksum.
unfoldable pub tag_of : Option (List ℕ) → Option (List ℕ) → ℕ → ℕ → List ℕ → List ℕ
tag_of key salt size sector bytes = take size (digest_under key (tag_message salt sector bytes))
