-- What a splitter tells of a small stream that comes in three pieces, computed: a write of two bytes, and a wrong magic behind it.
use Rattle.std.proofs.Common.{◌≡◌, ℕ, List, [], ◌∷◌, map, Some, refl}
use Rattle.nbd_model.specs.declared.nbd_request.NbdRequest.{NbdRequest}
use Rattle.nbd_model.specs.Stream.{front_of, stream_from}
use Rattle.nbd_wire.specs.declared.event.Event.TheVariants.{More, Ask, Bytes, Wrong}
use Rattle.nbd_wire.specs.CuttingLaws.{Told, tell_all, joined, groups_told}
use Rattle.nbd_wire.specs.Splitting.{InHead, AtWrong}

abbrev pieces : List (List ℕ)
pieces = (0x25 ∷ 0x60 ∷ 0x95 ∷ 0x13 ∷ 0x00 ∷ 0x01 ∷ 0x00 ∷ 0x01 ∷ 0x00 ∷ 0x00 ∷ 0x00 ∷ 0x00 ∷ 0x00 ∷ 0x00 ∷ 0x00 ∷ 0x07 ∷ 0x00 ∷ 0x00 ∷ 0x00 ∷ 0x00 ∷ [])
    ∷ (0x00 ∷ 0x00 ∷ 0x02 ∷ 0x00 ∷ 0x00 ∷ 0x00 ∷ 0x00 ∷ 0x02 ∷ 0xaa ∷ [])
    ∷ (0xbb ∷ 0x25 ∷ 0x60 ∷ 0x95 ∷ 0x14 ∷ 0x00 ∷ [])
    ∷ []

abbrev write : NbdRequest
write = record { flags = 1; kind = 1; cookie = 7; offset = 512; length = 2 }

tell_all-events : map (λ (t : Told). t.event) (tell_all (InHead []) pieces).told ≡ More ∷ Ask write ∷ Bytes 1 ∷ More ∷ Bytes 1 ∷ Wrong 0x2560_9514 ∷ []
unfolding front_of
tell_all-events = refl

-- No byte behind the wrong magic is taken.
tell_all-place : (tell_all (InHead []) pieces).place ≡ AtWrong 0x2560_9514
unfolding front_of
tell_all-place = refl

joined-pieces : joined (tell_all (InHead []) pieces).told ≡ record { messages = record { request = write; bytes = 0xaa ∷ 0xbb ∷ [] } ∷ []; wrong = Some 0x2560_9514 }
unfolding front_of stream_from
joined-pieces = refl

-- The request ends in the third piece.
groups_told-pieces : groups_told [] (InHead []) 0 pieces ≡ [] ∷ [] ∷ (record { request = write; bytes = 0xaa ∷ 0xbb ∷ [] } ∷ []) ∷ []
unfolding front_of stream_from
groups_told-pieces = refl
