-- Small streams in pieces, and what is asked in them, computed.
use Rattle.std.proofs.Common.{◌≡◌, ℕ, List, [], ◌∷◌, map, take, None, Some, refl}
use Rattle.nbd_model.specs.declared.nbd_request.NbdRequest.{NbdRequest}
use Rattle.nbd_model.specs.Stream.{Disconnected, Message, WrongMagic, front_of}
use Rattle.nbd_wire.specs.Splitting.{InHead}
use Rattle.nbd_incoming.specs.Taking.{asks_in, asks_none, ending_by, groups_in}

-- A write of two bytes, the last of which comes in the third piece, and a wrong magic behind it.
abbrev pieces : List (List ℕ)
pieces = (0x25 ∷ 0x60 ∷ 0x95 ∷ 0x13 ∷ 0x00 ∷ 0x01 ∷ 0x00 ∷ 0x01 ∷ 0x00 ∷ 0x00 ∷ 0x00 ∷ 0x00 ∷ 0x00 ∷ 0x00 ∷ 0x00 ∷ 0x07 ∷ 0x00 ∷ 0x00 ∷ 0x00 ∷ 0x00 ∷ [])
    ∷ (0x00 ∷ 0x00 ∷ 0x02 ∷ 0x00 ∷ 0x00 ∷ 0x00 ∷ 0x00 ∷ 0x02 ∷ 0xaa ∷ [])
    ∷ (0xbb ∷ 0x25 ∷ 0x60 ∷ 0x95 ∷ 0x14 ∷ 0x00 ∷ [])
    ∷ []

abbrev write : Message
write = record { request = record { flags = 1; kind = 1; cookie = 7; offset = 512; length = 2 }; bytes = 0xaa ∷ 0xbb ∷ [] }

groups_in-write : groups_in (InHead []) None pieces ≡ [] ∷ [] ∷ (write ∷ []) ∷ []
unfolding front_of
groups_in-write = refl

ending_by-wrong_magic : ending_by (InHead []) None pieces ≡ Some (WrongMagic 0x2560_9514)
unfolding front_of
ending_by-wrong_magic = refl

-- A read of a block.
abbrev read_bytes : List ℕ
read_bytes = 0x25 ∷ 0x60 ∷ 0x95 ∷ 0x13 ∷ 0x00 ∷ 0x00 ∷ 0x00 ∷ 0x00 ∷ 0x00 ∷ 0x00 ∷ 0x00 ∷ 0x00 ∷ 0x00 ∷ 0x00 ∷ 0x00 ∷ 0x01 ∷ 0x00 ∷ 0x00 ∷ 0x00 ∷ 0x00 ∷ 0x00 ∷ 0x00 ∷ 0x00 ∷ 0x00
    ∷ 0x00 ∷ 0x00 ∷ 0x02 ∷ 0x00 ∷ []

abbrev read : Message
read = record { request = record { flags = 0; kind = 0; cookie = 1; offset = 0; length = 512 }; bytes = [] }

asks_in-read : (asks_in (InHead []) None read_bytes).asked ≡ read ∷ []
unfolding front_of
asks_in-read = refl

-- Without its last byte it is none.
asks_in-cut_read : asks_in (InHead []) None (take 27 read_bytes) ≡ asks_none None None
unfolding front_of
asks_in-cut_read = refl
