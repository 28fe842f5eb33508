-- Sessions that something outside ends, computed: a device of four blocks of one byte.
use Rattle.std.proofs.Common.{◌≡◌, ℕ, true, false, List, [], ◌∷◌, take, slice_get, refl, subst, arith}
use Rattle.image_model.specs.Cells.{Cell}
use Rattle.device_model.specs.Mode.{DeviceFormat, Journal}
use Rattle.device_model.specs.Progress.{DeviceState, Submit, Serve, Take, Close, opened_device}
use Rattle.device_model.specs.Submission.{Read}
use Rattle.nbd_model.specs.Message.{reply_head}
use Rattle.nbd_model.specs.Stream.{Ended, front_of, stream_from, requests_of}
use Rattle.nbd_model.specs.Session.{Deed, Does, Replies, session_deeds}
use Rattle.nbd_command.specs.ServedRun.{Complete, RefusedStream, DiskFailed, SourceFailed, SinkFailed, NoMemory, session_status, AreCutBetween, AreCutByDisk, AreCutBySink, IsCall, IsReplying, IsEndedBy}

abbrev easy_tag : ℕ → List ℕ → List ℕ
easy_tag b [] = b ∷ []
easy_tag b (x ∷ bytes) = b ∷ x ∷ []

abbrev tiny : DeviceFormat
tiny = record {
  mode = Journal;
  blocks = record { blocks = 4; block_size = 1; tag = easy_tag };
  slots = 16;
  sections = 1;
  entries = 4;
  regions = 1;
  region_of = λ b. 0;
}

abbrev device : DeviceState
device = opened_device (λ b. record { bytes = 0 ∷ []; tag = b ∷ 0 ∷ [] }) 0 (λ r. false) (λ r. false)

-- A read of the first byte, with cookie 1.
abbrev read_first : List ℕ
read_first = 0x25 ∷ 0x60 ∷ 0x95 ∷ 0x13 ∷ 0x00 ∷ 0x00 ∷ 0x00 ∷ 0x00 ∷ 0x00 ∷ 0x00 ∷ 0x00 ∷ 0x00 ∷ 0x00 ∷ 0x00 ∷ 0x00 ∷ 0x01 ∷ 0x00 ∷ 0x00 ∷ 0x00 ∷ 0x00 ∷ 0x00 ∷ 0x00 ∷ 0x00 ∷ 0x00 ∷ 0x00 ∷ 0x00 ∷ 0x00 ∷ 0x01 ∷ []

abbrev reply : List ℕ
reply = 0x67 ∷ 0x44 ∷ 0x66 ∷ 0x98 ∷ 0x00 ∷ 0x00 ∷ 0x00 ∷ 0x00 ∷ 0x00 ∷ 0x00 ∷ 0x00 ∷ 0x00 ∷ 0x00 ∷ 0x00 ∷ 0x00 ∷ 0x01 ∷ 0x00 ∷ []

abbrev deeds : List Deed
deeds = Does (Submit (Read 0 1 (0 ∷ []))) ∷ Does (Serve 1) ∷ Does (Take 1) ∷ Replies 0 reply ∷ Does Close ∷ []

session_deeds-read : session_deeds tiny device Ended (read_first ∷ []) ≡ deeds
unfolding reply_head front_of stream_from
session_deeds-read = refl

-- The disk fails while the read is served.
ended-by_disk : IsEndedBy tiny device (read_first ∷ []) Ended deeds [] [] DiskFailed
ended-by_disk = record {
  cut = record {
    came = record {
      whole = 1;
      within = omega arith;
      begun_text = [];
      begun_changes = [];
      begun = (refl, 0, refl);
      is_text = refl;
      is_changes = refl;
    };
    short = λ closing. omega arith;
  };
  call = tt;
}

-- The sink fails behind five bytes of the reply.
ended-by_sink : IsEndedBy tiny device (read_first ∷ []) Ended deeds (take 5 reply) [] SinkFailed
ended-by_sink = record {
  cut = record {
    came = record {
      whole = 3;
      within = omega arith;
      begun_text = take 5 reply;
      begun_changes = [];
      begun = (refl, 5, omega arith, refl);
      is_text = refl;
      is_changes = refl;
    };
    short = λ closing. omega arith;
  };
  reply = tt;
}

-- The source fails behind the piece: its request is replied to, and the device is not closed.
abbrev between : AreCutBetween tiny device Ended deeds reply []
between = record {
  cut = record {
    came = record {
      whole = 4;
      within = omega arith;
      begun_text = [];
      begun_changes = [];
      begun = (refl, 0, refl);
      is_text = refl;
      is_changes = refl;
    };
    short = λ closing. omega arith;
  };
  no_text = refl;
  no_changes = refl;
}

ended-by_source : IsEndedBy tiny device (read_first ∷ []) Ended deeds reply [] SourceFailed
unfolding reply_head front_of stream_from
ended-by_source = record { between = between; count = 1; done = refl; unended = refl }

-- No reply is torn where the disk failed.
not_by_disk-torn : (cut : AreCutByDisk tiny device Ended deeds (take 5 reply) []) → cut.cut.came.whole ≡ 3 → ⊥
not_by_disk-torn cut three = subst (λ (n : ℕ). IsCall (slice_get deeds n)) three cut.call

-- A request is handed in, and its reply taken, without the disk.
not_by_disk-taken : (cut : AreCutByDisk tiny device Ended deeds [] []) → cut.cut.came.whole ≡ 2 → ⊥
not_by_disk-taken cut two = subst (λ (n : ℕ). IsCall (slice_get deeds n)) two cut.call

-- No call is left half done where the sink failed.
not_by_sink-call : (cut : AreCutBySink tiny device Ended deeds [] []) → cut.cut.came.whole ≡ 1 → ⊥
not_by_sink-call cut one = subst (λ (n : ℕ). IsReplying (slice_get deeds n)) one cut.reply

session_status-values : (session_status (Complete false) ≡ 0) × (session_status (Complete true) ≡ 1) × (session_status RefusedStream ≡ 2)
    × (session_status DiskFailed ≡ 4) × (session_status SourceFailed ≡ 5) × (session_status SinkFailed ≡ 6) × (session_status NoMemory ≡ 7)
session_status-values = (refl, refl, refl, refl, refl, refl, refl)
