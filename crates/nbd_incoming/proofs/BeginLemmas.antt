-- How a request begins, and how it waits for its bytes.
use Rattle.std.proofs.Common.{◌≡◌, ◌≢◌, inl, inr, ℕ, ◌+◌, ◌<◌, Bool, true, false, List, [], length, refl, sym, ap, subst, ◌∙◌, arith, Option, None, Some}
use Rattle.std.proofs.lemmas.Bool.{cases_Bool, eq-eqb, eqb-true, ne_eqb, false≢true}
use Rattle.std.specs.Prelude.{◌==◌, if◌then◌else◌}
use Rattle.device_model.specs.Transcript.{BlockFormat}
use Rattle.nbd_model.specs.declared.nbd_request.NbdRequest.{NbdRequest}
use Rattle.nbd_model.specs.Message as message
use Rattle.nbd_model.specs.Message.{Kind, bytes_behind, is_disconnect, kind_of}
use Rattle.nbd_model.specs.Judged.{is_bad_range, is_refused_kind}
use Rattle.nbd_model.specs.Stream.{Message, is_whole}
use Rattle.nbd_flight.specs.declared.judging.Asked.{Asked}
use Rattle.nbd_flight.specs.declared.judging.Asked.TheVariants.{Read, Write, Flush, Disconnect, Refused}
use Rattle.nbd_flight.specs.declared.whole.Whole.{Whole}
use Rattle.nbd_flight.specs.Asking.{IsWhole, KeepsBytes}
use Rattle.nbd_flight.specs.Judging.{asked_in, asked_of_kind}
use Rattle.nbd_incoming.specs.declared.incoming.Coming.{Coming}
use Rattle.nbd_incoming.specs.declared.taken.Taken.{Taken}
use Rattle.nbd_incoming.specs.declared.taken.Taken.TheVariants as takens
use Rattle.nbd_incoming.specs.Taking as taking
use Rattle.nbd_incoming.specs.Taking.{Outcome, asked_now, outcome_by}
use Rattle.nbd_incoming.specs.Incoming.{IsOutcome, KeepsNone, KeepsWrite, WaitsSo}

-- ---- what is judged to disconnect

abbrev judged : BlockFormat → NbdRequest → (refused : Bool) → Kind → Asked
judged b r refused kind = if refused then Refused else asked_of_kind b r kind

judged-other : (b : BlockFormat) (r : NbdRequest) (kind : Kind) (refused : Bool) → kind ≢ message.Disconnect → judged b r refused kind ≢ Disconnect
judged-other b r message.Read true other = λ same. cc
judged-other b r message.Read false other = λ same. cc
judged-other b r message.Write true other = λ same. cc
judged-other b r message.Write false other = λ same. cc
judged-other b r message.Disconnect refused other = absurd (other refl)
judged-other b r message.Flush true other = λ same. cc
judged-other b r message.Flush false other = λ same. cc
judged-other b r message.Unknown true other = λ same. cc
judged-other b r message.Unknown false other = λ same. cc

abbrev kind-by : (reads writes ends flushes : Bool) → Kind
kind-by reads writes ends flushes =
    if reads then message.Read
    else if writes then message.Write
    else if ends then message.Disconnect
    else if flushes then message.Flush
    else message.Unknown

kind-other : (reads writes ends flushes : Bool) → ends ≡ false → kind-by reads writes ends flushes ≢ message.Disconnect
kind-other true writes ends flushes goes = λ same. cc
kind-other false true ends flushes goes = λ same. cc
kind-other false false true flushes goes = absurd (false≢true (sym goes))
kind-other false false false true goes = λ same. cc
kind-other false false false false goes = λ same. cc

pub disconnects : (b : BlockFormat) (r : NbdRequest) → asked_in b r ≡ Disconnect → is_disconnect r ≡ true
disconnects b r asked = elim (cases_Bool (is_disconnect r)) [
  | inl ends ↦ ends
  | inr goes ↦ absurd (judged-other b r (kind_of r) (is_refused_kind b r (kind_of r))
      (λ same. kind-other (r.kind == 0) (r.kind == 1) (r.kind == 2) (r.kind == 3) goes same) asked)
]

pub goes_on : (b : BlockFormat) (r : NbdRequest) → asked_in b r ≢ Disconnect → is_disconnect r ≡ false
goes_on b r asked = elim (cases_Bool (is_disconnect r)) [
  | inl ends ↦ absurd (asked (by (eqb-true r.kind 2 ends)))
  | inr goes ↦ goes
]
  where
    by : r.kind ≡ 2 → asked_in b r ≡ Disconnect
    by same = rw same refl

-- ---- how it waits

pub keeps_none : (asked : Asked) (kept : List ℕ) → kept ≡ [] → KeepsBytes asked kept []
keeps_none (Read first count) kept none = tt
keeps_none (Write first count fua) kept none = none
keeps_none Flush kept none = tt
keeps_none Disconnect kept none = tt
keeps_none Refused kept none = tt

pub none_kept : (asked : Asked) (kept : List ℕ) → kept ≡ [] → KeepsNone asked kept
none_kept (Read first count) kept none = none
none_kept (Write first count fua) kept none = tt
none_kept Flush kept none = none
none_kept Disconnect kept none = none
none_kept Refused kept none = none

module _ (blocks block_size : ℕ) (whole : Whole) (m : Message) (is : IsWhole blocks block_size whole m) (few : KeepsNone whole.asked whole.bytes.items) (left : ℕ) (sum : left + length m.bytes ≡ bytes_behind m.request) where
  whole-by : left ≡ 0 → outcome_by m ≡ taking.Whole m
  whole-by none =
      let same : length m.bytes ≡ bytes_behind m.request = omega (arith, none, sum) in
      rw (eq-eqb (length m.bytes) (bytes_behind m.request) same) refl

  part-by : 0 < left → outcome_by m ≡ taking.Part (Some m)
  part-by some = rw (ne_eqb (length m.bytes) (bytes_behind m.request) (λ same. absurd (omega (arith, same, some, sum)))) refl

  -- So the message is told once it is whole.
  pub waits : (old new : Option Coming) (taken : Taken) → old ≡ None → WaitsSo old new whole left taken → IsOutcome blocks block_size new taken (outcome_by m)
  waits old new takens.Part none so =
      subst (λ (o : Outcome). IsOutcome blocks block_size new takens.Part o) (sym (part-by so.0))
      (subst (λ (x : Option Coming). IsOutcome blocks block_size x takens.Part (taking.Part (Some m))) (sym so.1) (record { write = is; none = few; left = sum }))
  waits old new (takens.Whole w) none so =
      subst (λ (o : Outcome). IsOutcome blocks block_size new (takens.Whole w) o) (sym (whole-by so.0))
      (subst (λ (x : Whole). IsWhole blocks block_size x m × KeepsNone x.asked x.bytes.items × (new ≡ None)) (sym so.1) (is, few, so.2 ∙ none))
  waits old new takens.Disconnected none so = absurd so
  waits old new (takens.Wrong magic) none so = absurd so

-- ---- for callers

-- A head is asked at once where no byte stands behind it.
pub asked_goes : (r : NbdRequest) → is_disconnect r ≡ false → asked_now r ≡ outcome_by (record { request = r; bytes = [] })
asked_goes r goes = rw goes refl

pub asked_ends : (r : NbdRequest) → is_disconnect r ≡ true → asked_now r ≡ taking.Disconnected
asked_ends r ends = rw ends refl
