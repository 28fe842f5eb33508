-- Small streams, computed: what ends each, in one piece and byte by byte, and what is replied on each device.
use Rattle.std.proofs.Common.{◌≡◌, ℕ, false, List, [], ◌∷◌, Some, refl, arith}
use Rattle.std.proofs.lemmas.Option.{same_Some}
use Rattle.device_parts.specs.Device.{Standing}
use Rattle.nbd_model.specs.Message.{reply_head}
use Rattle.nbd_model.specs.Stream as streams
use Rattle.nbd_model.specs.Stream.{front_of, stream_from}
use Rattle.nbd_model.specs.Deeds.{tells_eio, text_in}
use Rattle.nbd_session.specs.Session.{Course, deeds_over, ending_of}
use Rattle.nbd_model.proofs.CuttingLemmas.{singles, small-one, small-singles}

-- A read of no bytes, then a request to disconnect, and a byte behind it.
abbrev refused : List ℕ
refused =
    0x25 ∷ 0x60 ∷ 0x95 ∷ 0x13 ∷ 0x00 ∷ 0x00 ∷ 0x00 ∷ 0x00 ∷ 0x00 ∷ 0x00 ∷ 0x00 ∷ 0x00 ∷ 0x00 ∷ 0x00 ∷ 0x00 ∷ 0x01 ∷ 0x00 ∷ 0x00 ∷ 0x00 ∷ 0x00 ∷ 0x00 ∷ 0x00 ∷ 0x00 ∷ 0x00 ∷ 0x00 ∷ 0x00 ∷ 0x00 ∷ 0x00
    ∷ 0x25 ∷ 0x60 ∷ 0x95 ∷ 0x13 ∷ 0x00 ∷ 0x00 ∷ 0x00 ∷ 0x02 ∷ 0x00 ∷ 0x00 ∷ 0x00 ∷ 0x00 ∷ 0x00 ∷ 0x00 ∷ 0x00 ∷ 0x02 ∷ 0x00 ∷ 0x00 ∷ 0x00 ∷ 0x00 ∷ 0x00 ∷ 0x00 ∷ 0x00 ∷ 0x00 ∷ 0x00 ∷ 0x00 ∷ 0x00 ∷ 0x00
    ∷ 0x25 ∷ []

-- 27 bytes of a request.
abbrev cut_off : List ℕ
cut_off =
    0x25 ∷ 0x60 ∷ 0x95 ∷ 0x13 ∷ 0x00 ∷ 0x00 ∷ 0x00 ∷ 0x00 ∷ 0x00 ∷ 0x00 ∷ 0x00 ∷ 0x00 ∷ 0x00 ∷ 0x00 ∷ 0x00 ∷ 0x01 ∷ 0x00 ∷ 0x00 ∷ 0x00 ∷ 0x00 ∷ 0x00 ∷ 0x00 ∷ 0x00 ∷ 0x00 ∷ 0x00 ∷ 0x00 ∷ 0x02 ∷ []

-- Four bytes in a request's place that are not the magic.
abbrev wrong : List ℕ
wrong = 0x25 ∷ 0x60 ∷ 0x95 ∷ 0x14 ∷ []

-- ---- their courses

abbrev refused_once : Course (Some refused)
refused_once = record { stream = refused; is = λ bytes told. same_Some refused bytes told; pieces = refused ∷ []; cut = refl; small = small-one refused (omega arith) }

abbrev refused_by_bytes : Course (Some refused)
refused_by_bytes = record { stream = refused; is = λ bytes told. same_Some refused bytes told; pieces = singles refused; cut = refl; small = small-singles refused }

abbrev cut_off_once : Course (Some cut_off)
cut_off_once = record { stream = cut_off; is = λ bytes told. same_Some cut_off bytes told; pieces = cut_off ∷ []; cut = refl; small = small-one cut_off (omega arith) }

abbrev wrong_by_bytes : Course (Some wrong)
wrong_by_bytes = record { stream = wrong; is = λ bytes told. same_Some wrong bytes told; pieces = singles wrong; cut = refl; small = small-singles wrong }

-- ---- what ends them

refused_disconnects : ending_of refused_once ≡ streams.Disconnected
unfolding front_of stream_from
refused_disconnects = refl

cut_off_ends : ending_of cut_off_once ≡ streams.Ended
unfolding front_of stream_from
cut_off_ends = refl

wrong_ends : ending_of wrong_by_bytes ≡ streams.WrongMagic 0x2560_9514
unfolding front_of stream_from
wrong_ends = refl

-- ---- what is replied, on each device

refused_told : (w : Standing) → text_in (deeds_over w (refused ∷ []))
    ≡ 0x67 ∷ 0x44 ∷ 0x66 ∷ 0x98 ∷ 0x00 ∷ 0x00 ∷ 0x00 ∷ 0x16 ∷ 0x00 ∷ 0x00 ∷ 0x00 ∷ 0x00 ∷ 0x00 ∷ 0x00 ∷ 0x00 ∷ 0x01 ∷ []
unfolding reply_head front_of stream_from
refused_told w = refl

refused_told_by_bytes : (w : Standing) → text_in (deeds_over w (singles refused))
    ≡ 0x67 ∷ 0x44 ∷ 0x66 ∷ 0x98 ∷ 0x00 ∷ 0x00 ∷ 0x00 ∷ 0x16 ∷ 0x00 ∷ 0x00 ∷ 0x00 ∷ 0x00 ∷ 0x00 ∷ 0x00 ∷ 0x00 ∷ 0x01 ∷ []
unfolding reply_head front_of stream_from
refused_told_by_bytes w = refl

refused_undamaged : (w : Standing) → tells_eio (deeds_over w (refused ∷ [])) ≡ false
unfolding reply_head front_of stream_from
refused_undamaged w = refl

cut_off_told : (w : Standing) → deeds_over w (cut_off ∷ []) ≡ []
unfolding front_of stream_from
cut_off_told w = refl

wrong_told : (w : Standing) → deeds_over w (singles wrong) ≡ []
unfolding front_of stream_from
wrong_told w = refl
