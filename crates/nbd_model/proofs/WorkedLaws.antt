-- The laws of sessions at small values: their premises can be met, and wrong replies are refused. A device of four blocks of one byte.
use Rattle.std.proofs.Common.{◌≡◌, ◌≢◌, ℕ, zero, suc, true, false, List, [], ◌∷◌, ◌++◌, take, length, get_or, slice_get, None, Some, refl, sym, ◌∙◌, ap, subst, arith, append-nil}
use Rattle.std.proofs.lemmas.Bool.{false≢true, leb-true}
use Rattle.std.proofs.lemmas.Option.{none-some, same_Some}
use Rattle.image_model.specs.Cells.{Cell}
use Rattle.device_model.specs.History.{with_changes}
use Rattle.device_model.specs.Mode.{DeviceFormat, Journal}
use Rattle.device_model.specs.Progress.{DeviceState, opened_device}
use Rattle.device_model.specs.Request.{Read, Asked, newly_asked, has_reply}
use Rattle.device_model.specs.Serial.{serial_cells}
use Rattle.device_model.specs.Submission.{Submission, request_in}
use Rattle.nbd_model.specs.Message.{EINVAL, EIO, reply_head}
use Rattle.nbd_model.specs.Stream.{Message, Ended, front_of, stream_from, is_whole}
use Rattle.nbd_model.specs.Judged.{submission_of}
use Rattle.nbd_model.specs.Session.{Deed, Part, ending_in, last_deeds, opened_session, take_pieces}
use Rattle.nbd_model.specs.Deeds.{AreCameTo, changes_by, numbers_in, text_in}
use Rattle.nbd_model.specs.SessionLaws.{ServesAll, AreWhole, asked_by, submission_bytes, IsReply, Refuses, Answers, times, is_flushing, asks_flush, StaysFlushed, IsSerialAnswer, AreSerial, IsAnswered, IsSession, ArePiecesOf}
use Rattle.nbd_model.proofs.FlushedLemmas.{flushed_law}
use Rattle.nbd_model.proofs.PieceLemmas.{piece_law}
use Rattle.nbd_model.proofs.SessionLemmas.{session_law, answered_law}
use Rattle.nbd_model.proofs.SerialLemmas.{serial_answer_law}

abbrev easy_tag : ℕ → List ℕ → List ℕ
easy_tag b [] = b ∷ []
easy_tag b (x ∷ bytes) = b ∷ x ∷ []

abbrev tiny : DeviceFormat
tiny = record {
  mode = Journal;
  blocks = record { blocks = 4; block_size = 1; tag = easy_tag };
  slots = 16;
  sections = 1;
  entries = 4;
  regions = 1;
  region_of = λ b. 0;
}

abbrev zeros : ℕ → Cell
zeros b = record { bytes = 0 ∷ []; tag = b ∷ 0 ∷ [] }

-- Such a device serves all.
tiny-serves : ServesAll tiny
tiny-serves = record { sections = omega arith; block_size = omega arith; slots = refl; writes = refl }

-- ---- a read, a write of the same block that is flushed, a read of it, and a read that is refused

abbrev message : (flags kind cookie offset length : ℕ) → List ℕ → Message
message flags kind cookie offset length bytes = record {
  request = record { flags = flags; kind = kind; cookie = cookie; offset = offset; length = length };
  bytes = bytes;
}

abbrev before : Message
before = message 0 0 1 0 1 []

abbrev write : Message
write = message 1 1 2 0 1 (170 ∷ [])

abbrev behind : Message
behind = message 0 0 3 0 1 []

abbrev outside : Message
outside = message 0 0 4 4 1 []

abbrev all : List Message
all = before ∷ write ∷ behind ∷ outside ∷ []

all-whole : AreWhole all
all-whole zero m there = subst (λ (x : Message). is_whole x ≡ true) (same_Some before m there) refl
all-whole (suc zero) m there = subst (λ (x : Message). is_whole x ≡ true) (same_Some write m there) refl
all-whole (suc (suc zero)) m there = subst (λ (x : Message). is_whole x ≡ true) (same_Some behind m there) refl
all-whole (suc (suc (suc zero))) m there = subst (λ (x : Message). is_whole x ≡ true) (same_Some outside m there) refl
all-whole (suc (suc (suc (suc i)))) m there = absurd (none-some m there)

abbrev in_two : List (List Message)
in_two = (before ∷ write ∷ []) ∷ (behind ∷ outside ∷ []) ∷ []

abbrev deeds : List Deed
deeds = (take_pieces tiny (opened_session (opened_device zeros 0 (λ r. false) (λ r. false))) in_two).deeds

-- Each law speaks of them.
deeds-session : IsSession tiny (opened_device zeros 0 (λ r. false) (λ r. false)) all (take_pieces tiny (opened_session (opened_device zeros 0 (λ r. false) (λ r. false))) in_two)
deeds-session = session_law tiny zeros 0 (λ r. false) (λ r. false) in_two

deeds-answered : IsAnswered tiny all (take_pieces tiny (opened_session (opened_device zeros 0 (λ r. false) (λ r. false))) in_two)
deeds-answered = answered_law tiny zeros 0 (λ r. false) (λ r. false) in_two tiny-serves all-whole

deeds-serial : AreSerial tiny zeros all deeds
deeds-serial = serial_answer_law tiny zeros 0 (λ r. false) (λ r. false) in_two tiny-serves all-whole

-- The refused one is replied to before the read that was taken with it.
numbers_in-deeds : numbers_in deeds ≡ 0 ∷ 1 ∷ 3 ∷ 2 ∷ []
unfolding reply_head
numbers_in-deeds = refl

text_in-deeds : text_in deeds ≡ reply_head 0 1 ++ (0 ∷ []) ++ reply_head 0 2 ++ reply_head EINVAL 4 ++ reply_head 0 3 ++ (170 ∷ [])
unfolding reply_head
text_in-deeds = refl

-- ---- a session that ends behind the reply to the write

abbrev session : List Deed
session = deeds ++ last_deeds Ended

abbrev start : DeviceState
start = opened_device zeros 0 (λ r. false) (λ r. false)

numbers_in-session : numbers_in (take 8 session) ≡ 0 ∷ 1 ∷ []
unfolding reply_head
numbers_in-session = refl

abbrev came : AreCameTo tiny start session (text_in (take 8 session)) (changes_by tiny start (take 8 session))
came = record {
  whole = 8;
  within = leb-true 8 (length session) refl;
  begun_text = [];
  begun_changes = [];
  begun = (refl, 0, refl);
  is_text = sym (append-nil (text_in (take 8 session)));
  is_changes = sym (append-nil (changes_by tiny start (take 8 session)));
}

session-flushed : StaysFlushed tiny start all session 8 (changes_by tiny start (take 8 session))
session-flushed = flushed_law tiny zeros 0 (λ r. false) (λ r. false) in_two Ended (text_in (take 8 session)) (changes_by tiny start (take 8 session)) came

-- The write is flushed where its reply is written.
flushed-session : (with_changes (changes_by tiny start (take 8 session)) start.history).flushed ≡ 1
flushed-session = refl

-- A read asks for no flush, and a write does with `fua`.
asks_flush-values : (asks_flush tiny (submission_of tiny.blocks before) ≡ false) × (asks_flush tiny (submission_of tiny.blocks write) ≡ true)
    × (asks_flush tiny (submission_of tiny.blocks outside) ≡ false)
asks_flush-values = (refl, refl, refl)

-- ---- the serial replies

abbrev serial : (number : ℕ) → Message → List ℕ
serial number m = submission_bytes tiny (serial_cells tiny 1 zeros (asked_by tiny (take number all))) m.request.cookie (submission_of tiny.blocks m)

submission_bytes-before : serial 0 before ≡ reply_head 0 1 ++ (0 ∷ [])
unfolding reply_head
submission_bytes-before = refl

submission_bytes-write : serial 1 write ≡ reply_head 0 2
unfolding reply_head
submission_bytes-write = refl

submission_bytes-behind : serial 2 behind ≡ reply_head 0 3 ++ (170 ∷ [])
unfolding reply_head
submission_bytes-behind = refl

submission_bytes-refused : serial 3 outside ≡ reply_head EINVAL 4
unfolding reply_head
submission_bytes-refused = refl

-- A block whose stored tag is not that of its byte.
submission_bytes-bad_tag : submission_bytes tiny (λ b. record { bytes = 0 ∷ []; tag = [] }) 1 (submission_of tiny.blocks before) ≡ reply_head EIO 1
unfolding reply_head
submission_bytes-bad_tag = refl

-- ---- wrong replies

-- A reply that is the serial one of no message is refused, by a byte that differs.
refuses : (number : ℕ) (m : Message) (bytes : List ℕ) (at : ℕ) → slice_get all number ≡ Some m → get_or bytes at 7 ≢ get_or (serial number m) at 7
    → IsSerialAnswer tiny zeros all number bytes → ⊥
refuses number m bytes at there differs answer =
    let same : answer.message ≡ m = sym (same_Some m answer.message (sym there ∙ answer.there)) in
    differs (ap (λ (l : List ℕ). get_or l at 7) (answer.is ∙ ap (λ (x : Message). serial number x) same))

-- The two reads change their data;
refuses-swapped : IsSerialAnswer tiny zeros all 0 (reply_head 0 1 ++ (170 ∷ [])) → ⊥
unfolding reply_head
refuses-swapped = refuses 0 before (reply_head 0 1 ++ (170 ∷ [])) 16 refl (λ same. cc)

-- a reply bears another request's cookie;
refuses-cookie : IsSerialAnswer tiny zeros all 1 (reply_head 0 1) → ⊥
unfolding reply_head
refuses-cookie = refuses 1 write (reply_head 0 1) 15 refl (λ same. cc)

-- a request that is refused is told as done;
refuses-done : IsSerialAnswer tiny zeros all 3 (reply_head 0 4) → ⊥
unfolding reply_head
refuses-done = refuses 3 outside (reply_head 0 4) 7 refl (λ same. cc)

-- a read is cut short;
refuses-short : IsSerialAnswer tiny zeros all 2 (reply_head 0 3) → ⊥
unfolding reply_head
refuses-short = refuses 2 behind (reply_head 0 3) 16 refl (λ same. cc)

-- a reply comes to a request that was not asked.
refuses-unasked : (bytes : List ℕ) → IsSerialAnswer tiny zeros all 4 bytes → ⊥
refuses-unasked bytes answer = none-some answer.message answer.there

-- A reply comes before its request is done;
refuses-unfinished : (s : DeviceState) (bytes : List ℕ) → s.progress.requests ≡ newly_asked (Read 0 1) (0 ∷ []) ∷ [] → IsReply tiny all s 0 bytes → ⊥
refuses-unfinished s bytes alone (Refuses m there none is) =
    none-some (Submission.Read 0 1 (0 ∷ [])) (sym (subst (λ (x : Message). submission_of tiny.blocks x ≡ None) (sym (same_Some before m there)) none))
refuses-unfinished s bytes alone (Answers m there submission asks zero a at request earlier over flushes is) =
    let only : newly_asked (Read 0 1) (0 ∷ []) ≡ a = same_Some (newly_asked (Read 0 1) (0 ∷ [])) a (sym (ap (λ (l : List Asked). slice_get l 0) alone) ∙ at) in
    false≢true (ap (λ (x : Asked). has_reply x.state) only ∙ over)
refuses-unfinished s bytes alone (Answers m there submission asks (suc place) a at request earlier over flushes is) =
    none-some a (sym (ap (λ (l : List Asked). slice_get l (suc place)) alone) ∙ at)

-- a write with `fua` is replied to before it is flushed;
refuses-unflushed : (s : DeviceState) (bytes : List ℕ) → s.history.flushed ≡ 0 → length s.history.writes ≡ 1 → IsReply tiny all s 1 bytes → ⊥
refuses-unflushed s bytes none_flushed one_written (Refuses m there none is) =
    none-some (Submission.Write 0 1 (170 ∷ []) true) (sym (subst (λ (x : Message). submission_of tiny.blocks x ≡ None) (sym (same_Some write m there)) none))
refuses-unflushed s bytes none_flushed one_written (Answers m there submission asks place a at request earlier over flushes is) =
    let own : submission_of tiny.blocks write ≡ Some submission = subst (λ (x : Message). submission_of tiny.blocks x ≡ Some submission) (sym (same_Some write m there)) asks in
    let fua : is_flushing (request_in 1 submission) ≡ true =
    ap (λ (x : Submission). is_flushing (request_in 1 x)) (sym (same_Some (Submission.Write 0 1 (170 ∷ []) true) submission own)) in
    let all_flushed = flushes (ap is_flushing request ∙ fua) in
    absurd (omega (arith, all_flushed, none_flushed, one_written))

-- a request is replied to twice, or not at all.
refuses-twice : (s : DeviceState) (p : Part) → IsSession tiny s all p → numbers_in p.deeds ≡ 0 ∷ 0 ∷ [] → ⊥
refuses-twice s p session twice =
    let once = session.once 0 in
    let two : times 0 (numbers_in p.deeds) ≡ 2 = ap (times 0) twice in
    absurd (omega (arith, once, two))

refuses-left_out : (p : Part) → IsAnswered tiny all p → numbers_in p.deeds ≡ 0 ∷ 1 ∷ 2 ∷ [] → ⊥
refuses-left_out p answered three =
    let once : times 3 (numbers_in p.deeds) ≡ 1 = answered.each_once 3 in
    let none : times 3 (numbers_in p.deeds) ≡ 0 = ap (times 3) three in
    absurd (omega (arith, once, none))

-- ---- a stream in pieces

abbrev head : List ℕ
head = 0x25 ∷ 0x60 ∷ 0x95 ∷ 0x13 ∷ 0x00 ∷ 0x00 ∷ 0x00 ∷ 0x00 ∷ 0x00 ∷ 0x00 ∷ 0x00 ∷ 0x00 ∷ 0x00 ∷ 0x00 ∷ 0x00 ∷ 0x01 ∷ 0x00 ∷ 0x00 ∷ 0x00 ∷ 0x00 ∷ 0x00 ∷ 0x00 ∷ 0x00 ∷ 0x00 ∷ 0x00 ∷ 0x00 ∷ 0x00 ∷ 0x01 ∷ []

head-pieces : ArePiecesOf head (ending_in [] 0 (take 20 head ∷ (0x00 ∷ 0x00 ∷ 0x00 ∷ 0x00 ∷ 0x00 ∷ 0x00 ∷ 0x00 ∷ 0x01 ∷ []) ∷ []))
unfolding front_of stream_from
head-pieces = piece_law head (take 20 head ∷ (0x00 ∷ 0x00 ∷ 0x00 ∷ 0x00 ∷ 0x00 ∷ 0x00 ∷ 0x00 ∷ 0x01 ∷ []) ∷ []) refl

-- The request ends in the second piece.
ending_in-head : ending_in [] 0 (take 20 head ∷ (0x00 ∷ 0x00 ∷ 0x00 ∷ 0x00 ∷ 0x00 ∷ 0x00 ∷ 0x00 ∷ 0x01 ∷ []) ∷ []) ≡ [] ∷ (before ∷ []) ∷ []
unfolding front_of stream_from
ending_in-head = refl
