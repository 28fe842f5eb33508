-- A read whose first blocks stand at the front of the buffer.
use Rattle.std.proofs.Common.{◌≡◌, ℕ, ◌+◌, ◌*◌, List, ◌++◌, take, drop, Result, Ok, Err, IfOk, OnOk, refl, sym, ◌∙◌, ap}
use Rattle.std.proofs.lemmas.List.{take-append-drop}
use Rattle.disk_model.specs.Disk.{Image}
use Rattle.device_model.specs.History.{History, cells_now}
use Rattle.device_model.specs.Transcript.{Session}
use Rattle.mirror_model.specs.Calls as Model
use Rattle.mirror_model.specs.Calls.{join_mirror_replies, mirror_read}
use Rattle.mirror_model.specs.Mirror.{MirrorState}
use Rattle.mirror_calls.specs.declared.fault.MirrorFault.{MirrorFault}
use Rattle.mirror_calls.specs.declared.reading.MirrorReply.{MirrorReply}
use Rattle.mirror_calls.specs.declared.reading.MirrorReply.TheVariants.{Read, TagFault}
use Rattle.mirror_calls.specs.Given.{KeepsFront, reply_as, rest_as}
use Rattle.mirror_calls.specs.Leg.{HasBlocks, LegOn}
use Rattle.mirror_calls.specs.State.{HasDone, format_of}
use Rattle.mirror_calls.proofs.LoopLemmas.{LegsNow, Are}
use Rattle.mirror_calls.proofs.PassLemmas.{KeepsLegs, HasDone-passed}

pub on_ok_each : {T E P Q : Type 0} (result : Result T E) → (P → Q) → OnOk result P → OnOk result Q
on_ok_each (Ok done) follows holds = follows holds
on_ok_each (Err fault) follows holds = tt

-- The front of a buffer and what was read behind it are the whole.
joined-whole : (from : ℕ) (buffer : List ℕ) (reply : MirrorReply) → KeepsFront from buffer reply
    → join_mirror_replies (Model.MirrorReply.Bytes (take from buffer)) (rest_as from reply) ≡ reply_as reply
joined-whole from buffer (Read whole) kept =
    ap Model.MirrorReply.Bytes (ap (λ (l : List ℕ). l ++ drop from whole) (sym kept) ∙ take-append-drop from whole)
joined-whole from buffer (TagFault block a b) kept = refl

module _ (a_left b_left : LegOn → History → Image → Type 0) where
  -- What is done behind the blocks that one leg gave is done of all.
  pub read-joined : (old now end : LegsNow) (size first count passed left from : ℕ) (buffer : List ℕ) → KeepsLegs a_left b_left old now
      → passed + left ≡ count → from ≡ passed * size
      → ((a : LegOn) (s : Session) → old.a_stands a s → HasBlocks a.format.tag (cells_now a.format.tag s.history) size first passed buffer)
      → (result : Result MirrorReply MirrorFault)
      → IfOk result (λ reply. (a b : LegOn) (m : MirrorState) → Are now a b m → HasDone end.a_stands end.b_stands a b m (mirror_read (format_of a b) m (first + passed) left) (rest_as from reply))
      → IfOk result (KeepsFront from buffer)
      → IfOk result (λ reply. (a b : LegOn) (m : MirrorState) → Are old a b m → HasDone end.a_stands end.b_stands a b m (mirror_read (format_of a b) m first count) (reply_as reply))
  read-joined old now end size first count passed left from buffer keeps all at passes (Err fault) read front = tt
  read-joined old now end size first count passed left from buffer keeps all at passes (Ok reply) read front =
      HasDone-passed a_left b_left old now end size first count passed left buffer (rest_as from reply) (reply_as reply) keeps all passes
      (ap (λ (n : ℕ). join_mirror_replies (Model.MirrorReply.Bytes (take n buffer)) (rest_as from reply)) (sym at) ∙ joined-whole from buffer reply front)
      read
