-- What a call of a mirror answers, as what a request of a script comes to.
use Rattle.std.proofs.Common.{◌≡◌, inl, inr, ℕ, suc, ◌≤◌, Bool, true, false, List, length, Option, None, Some, Result, Ok, Err, refl, sym, ◌∙◌, ap, subst, arith}
use Rattle.std.specs.Prelude.{IfNone}
use Rattle.std.proofs.lemmas.Option.{none-some}
use Rattle.disk_model.specs.Disk.{Content, Image}
use Rattle.device_model.specs.History.{Change, History}
use Rattle.device_model.specs.Submission.{Submission, blocks_in}
use Rattle.device_model.specs.Transcript.{Session}
use Rattle.mirror_model.specs.Calls as Model
use Rattle.mirror_model.specs.Mirror.{MirrorState, changes_on_first, changes_on_second, request_changes, with_mirror_changes}
use Rattle.mirror_model.specs.Script.{is_mirror_fault, mirror_read_text}
use Rattle.mirror_calls.specs.declared.fault.LegName.TheVariants as Legs
use Rattle.mirror_calls.specs.declared.fault.MirrorFault.{MirrorFault}
use Rattle.mirror_calls.specs.declared.fault.MirrorFault.TheVariants as Faults
use Rattle.mirror_calls.specs.declared.reading.MirrorReply.{MirrorReply}
use Rattle.mirror_calls.specs.declared.reading.MirrorReply.TheVariants as Replies
use Rattle.mirror_calls.specs.Calls.{HasAsked}
use Rattle.mirror_calls.specs.Faults.{IsOfCall, IsOfDisk, refusal}
use Rattle.mirror_calls.specs.Given.{reply_as}
use Rattle.mirror_calls.specs.Leg.{IsLeftSince, LegOn, write_of}
use Rattle.mirror_calls.specs.State.{AreLegs, HasDone, HasLegCause, format_of}
use Rattle.request_slots.specs.InFlight.{as_submission}
use Rattle.request_slots.specs.declared.request.Request.{Request}
use Rattle.request_slots.specs.declared.request.Request.TheVariants as Requests
use Rattle.script_session.specs.declared.stop.Stop.{Stop}
use Rattle.script_session.specs.declared.stop.Stop.TheVariants as Stops
use Rattle.script_text.specs.Found.{finds_fault}
use Rattle.mirror_session.specs.declared.answer.MirrorAnswer.TheVariants as Answers
use Rattle.mirror_session.specs.Answering.{HasAnswered, HasStopCause, IsTaken, TurnsAt, changes_by, stop_of}
use Rattle.mirror_session.specs.Told.{reply_found}
use Rattle.mirror_session.proofs.ChangeLemmas.{first-write, second-write}

-- ---- answered

found-is : (reply : MirrorReply) → finds_fault (reply_found reply) ≡ is_mirror_fault (reply_as reply)
found-is (Replies.Read buffer) = refl
found-is (Replies.TagFault block a b) = refl

module _ (a_stands b_stands : LegOn → Session → Type 0) (a b : LegOn) (m : MirrorState) where
  pub read_answered : (first count : ℕ) (buffer : List ℕ) (reply : MirrorReply)
      → HasDone a_stands b_stands a b m (Model.mirror_read (format_of a b) m first count) (reply_as reply)
      → HasAnswered a_stands b_stands a b m (Submission.Read first count buffer) (Answers.Read first count reply)
  read_answered first count buffer reply done = record {
    legs = done.legs;
    text = sym (ap (mirror_read_text first count) done.answers);
    found = found-is reply ∙ sym (ap is_mirror_fault done.answers);
  }

  pub write_answered : (first count size : ℕ) (bytes : List ℕ) (fua : Bool) → size ≡ (format_of a b).block_size
      → AreLegs a_stands b_stands a b (with_mirror_changes (Model.write_changes m first (blocks_in size count bytes) fua) m)
      → HasAnswered a_stands b_stands a b m (Submission.Write first count bytes fua) (Answers.Written first count)
  write_answered first count size bytes fua is legs = record {
    legs = subst (λ (n : ℕ). AreLegs a_stands b_stands a b (with_mirror_changes (Model.write_changes m first (blocks_in n count bytes) fua) m)) is legs;
    text = refl;
    found = refl;
  }

  pub flush_answered : AreLegs a_stands b_stands a b (with_mirror_changes (Model.flush_changes m) m)
      → HasAnswered a_stands b_stands a b m Submission.Flush Answers.Flushed
  flush_answered legs = record { legs = legs; text = refl; found = refl }

-- ---- what is left at each moment

module _ (P : History → Image → Type 0) (a b : LegOn) (m : MirrorState) (first count size : ℕ) (bytes : List ℕ) (fua : Bool)
    (is : size ≡ (format_of a b).block_size) (before after : List Content) where
  pub first_left : IsLeftSince P m.a.history (request_changes (suc m.a.submitted) (write_of size first count bytes fua)) before after
      → IsLeftSince P m.a.history (changes_on_first (changes_by (Submission.Write first count bytes fua) (format_of a b) m)) before after
  first_left left =
      subst (λ (l : List Change). IsLeftSince P m.a.history l before after)
      (sym (first-write m first (blocks_in (format_of a b).block_size count bytes) fua))
      (subst (λ (n : ℕ). IsLeftSince P m.a.history (request_changes (suc m.a.submitted) (write_of n first count bytes fua)) before after) is left)

  pub second_left : IsLeftSince P m.b.history (request_changes (suc m.b.submitted) (write_of size first count bytes fua)) before after
      → IsLeftSince P m.b.history (changes_on_second (changes_by (Submission.Write first count bytes fua) (format_of a b) m)) before after
  second_left left =
      subst (λ (l : List Change). IsLeftSince P m.b.history l before after)
      (sym (second-write m first (blocks_in (format_of a b).block_size count bytes) fua))
      (subst (λ (n : ℕ). IsLeftSince P m.b.history (request_changes (suc m.b.submitted) (write_of n first count bytes fua)) before after) is left)

-- ---- what stops a call

pub of_call : (fault : MirrorFault) → IsOfDisk fault → IsOfCall fault
of_call Faults.Broken of_disk = absurd of_disk
of_call (Faults.Range first count blocks) of_disk = absurd of_disk
of_call (Faults.Length have need) of_disk = absurd of_disk
of_call Faults.Memory of_disk = absurd of_disk
of_call (Faults.Disk leg) of_disk = tt

-- Only the want of memory is told as that.
pub memory_stops : {T : Type 0} (fault : MirrorFault) (end : Result T Stop) → IsOfCall fault → end ≡ Err (stop_of fault) → end ≡ Err Stops.Memory
    → fault ≡ Faults.Memory
memory_stops Faults.Broken end called is same = absurd called
memory_stops (Faults.Range first count blocks) end called is same = absurd called
memory_stops (Faults.Length have need) end called is same = absurd called
memory_stops Faults.Memory end called is same = refl
memory_stops (Faults.Disk leg) end called is same = absurd cc

pub disk_stops : {T : Type 0} (fault : MirrorFault) (end : Result T Stop) → IsOfDisk fault → end ≡ Err (stop_of fault) → end ≡ Err Stops.Memory → ⊥
disk_stops Faults.Broken end of_disk is same = of_disk
disk_stops (Faults.Range first count blocks) end of_disk is same = of_disk
disk_stops (Faults.Length have need) end of_disk is same = of_disk
disk_stops Faults.Memory end of_disk is same = of_disk
disk_stops (Faults.Disk leg) end of_disk is same = cc

disk-not-memory : (fault : MirrorFault) → IsOfDisk fault → fault ≡ Faults.Memory → ⊥
disk-not-memory Faults.Broken of_disk same = of_disk
disk-not-memory (Faults.Range first count blocks) of_disk same = of_disk
disk-not-memory (Faults.Length have need) of_disk same = of_disk
disk-not-memory Faults.Memory of_disk same = of_disk
disk-not-memory (Faults.Disk leg) of_disk same = cc

-- A call that is not refused was ended by this.
pub ended_so : (refused : Option MirrorFault) (P : Type 0) → refused ≡ None → IfNone refused P → P
ended_so None P none holds = holds
ended_so (Some fault) P none holds = absurd (none-some fault (sym none))

-- A mirror that works takes it.
pub taken_by : (broken : Bool) (blocks size first count long : ℕ) → broken ≡ false → refusal false blocks size first count long ≡ None
    → refusal broken blocks size first count long ≡ None
taken_by broken blocks size first count long whole taken = ap (λ (t : Bool). refusal t blocks size first count long) whole ∙ taken

-- What is asked is taken, as a read
pub read_taken : (broken : Bool) (blocks size : ℕ) (request : Request) (first count : ℕ) (buffer : List ℕ) → request ≡ Requests.Read first count buffer
    → broken ≡ false → IsTaken blocks size (as_submission request) → refusal broken blocks size first count (length buffer) ≡ None
read_taken broken blocks size request first count buffer is whole taken =
    taken_by broken blocks size first count (length buffer) whole
    (subst (λ (r : Request). IsTaken blocks size (as_submission r)) is taken)

-- or a write.
pub write_taken : (broken : Bool) (blocks size : ℕ) (request : Request) (first count : ℕ) (bytes : List ℕ) (fua : Bool)
    → request ≡ Requests.Write first count bytes fua → broken ≡ false → IsTaken blocks size (as_submission request)
    → refusal broken blocks size first count (length bytes) ≡ None
write_taken broken blocks size request first count bytes fua is whole taken =
    taken_by broken blocks size first count (length bytes) whole
    (subst (λ (r : Request). IsTaken blocks size (as_submission r)) is taken)

module _ {T U : Type 0} (first_before first second_before second : ℕ) (result : Result T MirrorFault) (end : Result U Stop) where
  -- The count of no leg rose where the call answered well.
  pub passed_well : (answer : T) (done : U) → result ≡ Ok answer → end ≡ Ok done → HasLegCause first_before first second_before second result
      → HasStopCause first_before first second_before second end
  passed_well answer done is ended cause = record {
    first_later = cause.first_later;
    second_later = cause.second_later;
    failed = λ same. absurd cc;
    passed = λ other. (cause.first_passed (λ same. cc), cause.second_passed (λ same. cc));
  }

  -- A disk has stopped it where the count of its leg rose.
  pub stopped_by : (fault : MirrorFault) → result ≡ Err fault → end ≡ Err (stop_of fault) → IsOfCall fault
      → HasLegCause first_before first second_before second result → HasStopCause first_before first second_before second end
  stopped_by Faults.Broken is ended called cause = absurd called
  stopped_by (Faults.Range begin count blocks) is ended called cause = absurd called
  stopped_by (Faults.Length have need) is ended called cause = absurd called
  stopped_by Faults.Memory is ended called cause = record {
    first_later = cause.first_later;
    second_later = cause.second_later;
    failed = λ same. absurd cc;
    passed = λ other. (cause.first_passed (λ same. cc), cause.second_passed (λ same. cc));
  }
  stopped_by (Faults.Disk Legs.First) is ended called cause = record {
    first_later = cause.first_later;
    second_later = cause.second_later;
    failed = λ same. inl (cause.first is, cause.second_passed (λ same. cc));
    passed = λ other. absurd (other ended);
  }
  stopped_by (Faults.Disk Legs.Second) is ended called cause = record {
    first_later = cause.first_later;
    second_later = cause.second_later;
    failed = λ same. inr (cause.first_passed (λ same. cc), cause.second is);
    passed = λ other. absurd (other ended);
  }

module _ {U : Type 0} (broken : Bool) (end : Result U Stop) where
  -- It is broken where a disk has stopped it, and works where there was no memory.
  pub turned_by : (fault : MirrorFault) → end ≡ Err (stop_of fault) → IsOfCall fault → (IsOfDisk fault → broken ≡ true)
      → (fault ≡ Faults.Memory → broken ≡ false) → TurnsAt Stops.Disk broken end
  turned_by Faults.Broken ended called breaks whole = absurd called
  turned_by (Faults.Range begin count blocks) ended called breaks whole = absurd called
  turned_by (Faults.Length have need) ended called breaks whole = absurd called
  turned_by Faults.Memory ended called breaks whole = record { broken_ = λ same. absurd cc; works = λ other. whole refl }
  turned_by (Faults.Disk leg) ended called breaks whole = record { broken_ = λ same. breaks tt; works = λ other. absurd (other ended) }

  -- Where it was a disk.
  pub broken_by : (fault : MirrorFault) → end ≡ Err (stop_of fault) → IsOfDisk fault → (IsOfDisk fault → broken ≡ true) → TurnsAt Stops.Disk broken end
  broken_by fault ended of_disk breaks =
      turned_by fault ended (of_call fault of_disk) breaks (λ same. absurd (disk-not-memory fault of_disk same))

-- ---- how many requests

-- Fewer were asked than so many.
pub asked_at_most : {A B : Type 0} (a_asked : A → ℕ) (b_asked : B → ℕ) (few most : ℕ) (a_old : A) (b_old : B) (a_new : A) (b_new : B)
    → few ≤ most → HasAsked a_asked b_asked few a_old b_old a_new b_new → HasAsked a_asked b_asked most a_old b_old a_new b_new
asked_at_most a_asked b_asked few most a_old b_old a_new b_new le asked = record {
  first = omega (arith, le, asked.first);
  second = omega (arith, le, asked.second);
}
