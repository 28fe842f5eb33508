-- What holds of a session under way: so many are in flight at most, and so many turns they take.
use Rattle.std.proofs.Common.{◌≡◌, inl, inr, ℕ, zero, suc, ◌+◌, ◌*◌, ◌-◌, ◌/◌, ◌^◌, ◌≤◌, Bool, true, false, List, [], ◌∷◌, ◌++◌, length, map, Option, None, Some, slice_get, refl, sym, ◌∙◌, ap, subst, arith, append_assoc, length-append}
use Rattle.std.specs.Prelude.{if◌then◌else◌, leb, ltb, sum_by, ◌||◌}
use Rattle.std.proofs.lemmas.Bool.{cases_Bool, ltb-false}
use Rattle.std.proofs.lemmas.List.Sums.{sum_by-cons}
use Rattle.std.proofs.lemmas.Option.{none-some, same_Some}
use Rattle.image_model.specs.Cells.{Cell}
use Rattle.device_model.specs.Mode.{DeviceFormat}
use Rattle.device_model.specs.Progress.{Answer, DeviceState, Event, Take, Ticket, after_event, after_events, answers, event_result, opened_device}
use Rattle.device_model.specs.Progress as progress
use Rattle.device_model.specs.Request.{Asked, asked_of, count_of}
use Rattle.device_model.specs.RequestLaws.{IsReached}
use Rattle.device_model.specs.Script.{last_answer, most_blocks, turn_events, turns_left}
use Rattle.device_model.specs.Submission as submission
use Rattle.device_model.specs.Submission.{Submission, request_in}
use Rattle.device_model.specs.Transcript.{BlockFormat}
use Rattle.device_model.proofs.EventLemmas.{IsServing-reached}
use Rattle.device_model.proofs.SubmissionLemmas.{length-blocks_in}
use Rattle.nbd_model.specs.declared.nbd_request.NbdRequest.{NbdRequest}
use Rattle.nbd_model.specs.Message.{Kind, Read, Write, Disconnect, Flush, Unknown, kind_of}
use Rattle.nbd_model.specs.Stream.{Message}
use Rattle.nbd_model.specs.Judged.{is_bad_range, is_refused, is_refused_kind, submission_for, submission_of}
use Rattle.nbd_model.specs.Session.{Does, Flying, Moment, Part, ask_one, flying_with, is_done, most_waiting, no_deeds, opened_session, round, rounds, serve_each, submit_to, taken_of, turns_of, until, with_deeds, with_flying}
use Rattle.nbd_model.specs.Deeds.{events_in}
use Rattle.nbd_model.proofs.FlyingLemmas.{AreFlying}
use Rattle.nbd_model.proofs.RoundLemmas.{Keeps, Keeps-both, Stands, Stands-behind, rounds-keep, taken-rounds, until-ends}
use Rattle.nbd_session.proofs.AskedLemmas.{submitted}
use Rattle.nbd_session.specs.UnderWay.{IsUnderWay, Rounds, Step, Takes, moment_after}

-- The requests that were taken, in order.
abbrev messages_in : List Step → List Message
messages_in [] = []
messages_in (Rounds most ∷ steps) = messages_in steps
messages_in (Takes message ∷ steps) = messages_in steps ++ message ∷ []

slice_get-middle : (a : List Message) (x : Message) (b : List Message) → slice_get (a ++ x ∷ b) (length a) ≡ Some x
slice_get-middle [] x b = refl
slice_get-middle (y ∷ a) x b = slice_get-middle a x b

taken-submit : (f : DeviceFormat) (m : Moment) (cookie : ℕ) (o : Option Submission) → (submit_to f m cookie o).behind.taken ≡ suc m.taken
taken-submit f m c None = refl
taken-submit f m c (Some s) = refl

-- ---- one step

module _ (f : DeviceFormat) (base : ℕ → Cell) (some : 1 ≤ f.sections) (all : List Message) (m : Moment) (st : Stands f base all m) where
  until-keeps : (most : ℕ) → Keeps f base all m (until f most m)
  until-keeps most = rounds-keep f base all most (turns_of m) m st

  until-taken : (most : ℕ) → (until f most m).behind.taken ≡ m.taken
  until-taken most = taken-rounds f base all most (turns_of m) m

  module _ (message : Message) (is : slice_get all m.taken ≡ Some message) where
    abbrev room : Part
    room = until f most_waiting m

    abbrev handed : Part
    handed = submit_to f room.behind message.request.cookie (submission_of f.blocks message)

    handed-keeps : Keeps f base all room.behind handed
    handed-keeps = submitted f base all room.behind message (ap (slice_get all) (until-taken most_waiting) ∙ is)
        (Stands-behind f base all m room (until-keeps most_waiting)) (λ serves. until-ends f base all some most_waiting m st)

    ask-keeps : Keeps f base all m (ask_one f m message)
    ask-keeps = Keeps-both f base all m room handed (until-keeps most_waiting) handed-keeps

    ask-taken : (ask_one f m message).behind.taken ≡ suc m.taken
    ask-taken = taken-submit f room.behind message.request.cookie (submission_of f.blocks message) ∙ ap suc (until-taken most_waiting)

-- ---- how many are in flight

module _ (f : DeviceFormat) where
  each-fewer : (taken : ℕ) (s : DeviceState) (flying : List Flying) → length (serve_each f taken s flying).behind.flying ≤ length flying
  each-fewer taken s [] = omega arith
  each-fewer taken s (r ∷ flying) =
      let events = turn_events f r.ticket s in
      let served = after_events f s events in
      by (is_done (last_answer (answers f s events))) (each-fewer taken (after_event f served (Take r.ticket)) flying) (each-fewer taken served flying)
    where
      by : let events = turn_events f r.ticket s in
          let served = after_events f s events in
          (d : Bool) → length (serve_each f taken (after_event f served (Take r.ticket)) flying).behind.flying ≤ length flying
          → length (serve_each f taken served flying).behind.flying ≤ length flying
          → length (elim d as (λ x. Part) [
            | true ↦ with_deeds (map (λ (event : Event). Does event) events ++ taken_of f r served) (serve_each f taken (after_event f served (Take r.ticket)) flying)
            | false ↦ with_deeds (map (λ (event : Event). Does event) events) (with_flying r (serve_each f taken served flying))
          ]).behind.flying ≤ suc (length flying)
      by true one other = omega (arith, one)
      by false one other = omega (arith, other)

  rounds-fewer : (most n : ℕ) (m : Moment) → length (rounds f most n m).behind.flying ≤ length m.flying
  rounds-fewer most zero m = omega arith
  rounds-fewer most (suc n) m =
      let rest = rounds-fewer most n (round f m).behind in
      let one = each-fewer m.taken m.state m.flying in
      by (leb (length m.flying) most) (omega (arith, rest, one))
    where
      by : (b : Bool) → length (rounds f most n (round f m).behind).behind.flying ≤ length m.flying
          → length (elim b as (λ x. Part) [ true ↦ no_deeds m | false ↦ with_deeds (round f m).deeds (rounds f most n (round f m).behind) ]).behind.flying ≤ length m.flying
      by true rest = omega arith
      by false rest = rest

  submit-one : (m : Moment) (cookie : ℕ) (o : Option Submission) → length (submit_to f m cookie o).behind.flying ≤ suc (length m.flying)
  submit-one m cookie None = omega arith
  submit-one m cookie (Some s) = by (event_result f m.state (progress.Submit s)).answer
    where
      by : (answer : Answer) → length (flying_with m m.taken cookie answer) ≤ suc (length m.flying)
      by (Ticket ticket) = let size = length-append m.flying (record { number = m.taken; ticket = ticket; cookie = cookie } ∷ []) in omega (arith, size)
      by progress.ReadOnly = omega arith
      by (progress.Range first count blocks) = omega arith
      by (progress.Length have need) = omega arith
      by progress.SlotsFull = omega arith
      by (progress.HeldBy ticket) = omega arith
      by progress.NoRoom = omega arith
      by progress.Did = omega arith
      by progress.Done = omega arith
      by progress.Idle = omega arith
      by (progress.Replied request reply returned) = omega arith
      by progress.NotDone = omega arith
      by progress.DiskFailed = omega arith
      by progress.IsBroken = omega arith
      by progress.IsClosed = omega arith

-- ---- how many turns they take

or_left : (a b : Bool) → (a || b) ≡ false → (a ≡ false) × (b ≡ false)
or_left true b is = absurd cc
or_left false b is = (refl, is)

-- A range that is not refused has as many blocks as may be, at most.
range-most : (b : BlockFormat) (r : NbdRequest) → is_bad_range b r ≡ false → r.length / b.block_size ≤ 1024
range-most b r good =
    let size = b.block_size in
    let five = or_left _ (ltb b.blocks (r.offset / size + r.length / size)) good in
    let four = or_left _ (ltb most_blocks (r.length / size)) five.0 in
    ltb-false most_blocks (r.length / size) four.1

-- A request that is handed in has so many blocks at most.
count-most : (b : BlockFormat) (m : Message) (s : Submission) → submission_of b m ≡ Some s → count_of (request_in b.block_size s) ≤ 1024
count-most b m s asks = elim (cases_Bool (is_refused b m.request)) [
  | inl refused ↦ absurd (none-some s (sym (ap (λ (x : Bool). if x then None else submission_for b m (kind_of m.request)) refused) ∙ asks))
  | inr fits ↦ by (kind_of m.request) fits (sym (ap (λ (x : Bool). if x then None else submission_for b m (kind_of m.request)) fits) ∙ asks)
]
  where
    by : (kind : Kind) → is_refused_kind b m.request kind ≡ false → submission_for b m kind ≡ Some s → count_of (request_in b.block_size s) ≤ 1024
    by Read fits handed =
        let most = range-most b m.request fits in
        subst (λ (x : Submission). count_of (request_in b.block_size x) ≤ 1024) (same_Some _ s handed) most
    by Write fits handed =
        let most = range-most b m.request fits in
        let size = length-blocks_in b.block_size (m.request.length / b.block_size) m.bytes in
        subst (λ (x : Submission). count_of (request_in b.block_size x) ≤ 1024) (same_Some _ s handed) (omega (arith, most, size))
    by Disconnect fits handed = absurd (none-some s handed)
    by Flush fits handed = subst (λ (x : Submission). count_of (request_in b.block_size x) ≤ 1024) (same_Some submission.Flush s handed) (omega arith)
    by Unknown fits handed = absurd (none-some s handed)

turns-most : (f : DeviceFormat) (all : List Message) (s : DeviceState) (low : ℕ) (flying : List Flying) → AreFlying f all s low flying
    → sum_by (λ (r : Flying). turns_left (asked_of s.progress.requests r.ticket)) flying ≤ length flying * 1025
turns-most f all s low [] are = omega arith
turns-most f all s low (r ∷ flying) are =
    let is = are.1 in
    let at = is.at in
    let own : turns_left (asked_of s.progress.requests r.ticket) ≤ 1025 =
    subst (λ (k : ℕ). turns_left (asked_of s.progress.requests k) ≤ 1025) (sym is.ticket)
    (subst (λ (x : Option Asked). turns_left x ≤ 1025) (sym at.there)
    (let most = count-most f.blocks at.message at.submission at.asks in
    let same = ap count_of at.request in
    omega (arith, most, same))) in
    let rest = turns-most f all s (suc r.ticket) flying are.2 in
    let sum = sum_by-cons (λ (q : Flying). turns_left (asked_of s.progress.requests q.ticket)) r flying in
    omega (arith, own, rest, sum)

-- ---- behind some steps

module _ (f : DeviceFormat) (some : 1 ≤ f.sections) (base : ℕ → Cell) (next : ℕ) (set_bits awaiting : ℕ → Bool) where
  abbrev first : Moment
  first = opened_session (opened_device base next set_bits awaiting)

  begun : (all : List Message) → Stands f base all first
  begun all =
      let s = opened_device base next set_bits awaiting in
      let reached : IsReached f s = record { base = base; next = next; set_bits = set_bits; awaiting = awaiting; events = []; is = refl } in
      record { works = refl; serving = IsServing-reached f s reached; flying = tt; covers = λ i a high there. absurd (none-some a there); listed = λ able whole. refl }

  -- It stands so, whatever is taken later.
  record IsAfter (steps : List Step) (rest : List Message) : Type 0 where
    pub stands : Stands f base (messages_in steps ++ rest) (moment_after f first steps)
    pub taken : (moment_after f first steps).taken ≡ length (messages_in steps)

  is_after : (steps : List Step) (rest : List Message) → IsAfter steps rest
  is_after [] rest = record { stands = begun rest; taken = refl }
  is_after (Rounds most ∷ steps) rest =
      let one = is_after steps rest in
      let all = messages_in steps ++ rest in
      let m = moment_after f first steps in
      record {
        stands = Stands-behind f base all m (until f most m) (until-keeps f base some all m one.stands most);
        taken = until-taken f base some all m one.stands most ∙ one.taken;
      }
  is_after (Takes message ∷ steps) rest =
      let one = is_after steps (message ∷ rest) in
      let all = messages_in steps ++ message ∷ rest in
      let m = moment_after f first steps in
      let is = ap (slice_get all) one.taken ∙ slice_get-middle (messages_in steps) message rest in
      record {
        stands = subst (λ (l : List Message). Stands f base l (ask_one f m message).behind) (sym (append_assoc (messages_in steps) (message ∷ []) rest))
            (Stands-behind f base all m (ask_one f m message) (ask-keeps f base some all m one.stands message is));
        taken =
            let more = ask-taken f base some all m one.stands message is in
            let size = length-append (messages_in steps) (message ∷ []) in
            let before = one.taken in
            omega (arith, more, size, before);
      }

  few_after : (steps : List Step) → length (moment_after f first steps).flying ≤ 16
  few_after [] = omega arith
  few_after (Rounds most ∷ steps) =
      let m = moment_after f first steps in
      let before = few_after steps in
      let fewer = rounds-fewer f most (turns_of m) m in
      omega (arith, before, fewer)
  few_after (Takes message ∷ steps) =
      let m = moment_after f first steps in
      let one = is_after steps [] in
      let room = until f most_waiting m in
      let few = until-ends f base (messages_in steps ++ []) some most_waiting m one.stands in
      let more = submit-one f room.behind message.request.cookie (submission_of f.blocks message) in
      omega (arith, few, more)

-- ---- for callers

-- What a session under way has: messages with which it stands, whatever comes next; few in flight, with few turns.
pub record StandsSo (f : DeviceFormat) (m : Moment) : Type 0 where
  pub some : 1 ≤ f.sections
  pub base : ℕ → Cell
  pub taken_messages : List Message
  pub stands : (rest : List Message) → Stands f base (taken_messages ++ rest) m
  pub taken : m.taken ≡ length taken_messages
  pub few : length m.flying ≤ 16
  pub bound : turns_of m ≤ 2 ^ 64 - 1

pub stands_so : (f : DeviceFormat) (m : Moment) → IsUnderWay f m → StandsSo f m
stands_so f m way = subst (StandsSo f) (sym way.is) (record {
  some = way.some;
  base = way.base;
  taken_messages = messages_in way.steps;
  stands = λ rest. (is_after f way.some way.base way.next way.set_bits way.awaiting way.steps rest).stands;
  taken = (is_after f way.some way.base way.next way.set_bits way.awaiting way.steps []).taken;
  few = few_after f way.some way.base way.next way.set_bits way.awaiting way.steps;
  bound =
      let here = moment_after f (opened_session (opened_device way.base way.next way.set_bits way.awaiting)) way.steps in
      let one = is_after f way.some way.base way.next way.set_bits way.awaiting way.steps [] in
      let few = few_after f way.some way.base way.next way.set_bits way.awaiting way.steps in
      let most = turns-most f (messages_in way.steps ++ []) here.state 0 here.flying one.stands.flying in
      omega (arith, few, most);
})

-- It goes on by rounds,
pub way-rounds : (f : DeviceFormat) (m : Moment) (most : ℕ) → IsUnderWay f m → IsUnderWay f (until f most m).behind
way-rounds f m most way = record {
  some = way.some;
  base = way.base;
  next = way.next;
  set_bits = way.set_bits;
  awaiting = way.awaiting;
  steps = Rounds most ∷ way.steps;
  is = ap (λ (x : Moment). (until f most x).behind) way.is;
}

-- and by taking a request.
pub way-takes : (f : DeviceFormat) (m : Moment) (message : Message) → IsUnderWay f m → IsUnderWay f (ask_one f m message).behind
way-takes f m message way = record {
  some = way.some;
  base = way.base;
  next = way.next;
  set_bits = way.set_bits;
  awaiting = way.awaiting;
  steps = Takes message ∷ way.steps;
  is = ap (λ (x : Moment). (ask_one f x message).behind) way.is;
}

module _ (f : DeviceFormat) (m : Moment) (way : IsUnderWay f m) where
  abbrev so : StandsSo f m
  so = stands_so f m way

  -- The device behind rounds is the one after their events,
  pub until-state : (most : ℕ) → (until f most m).behind.state ≡ after_events f m.state (events_in (until f most m).deeds)
  until-state most = (until-keeps f so.base so.some (so.taken_messages ++ []) m (so.stands []) most).state

  -- and as few are in flight as is asked.
  pub until-few : (most : ℕ) → length (until f most m).behind.flying ≤ most
  until-few most = until-ends f so.base (so.taken_messages ++ []) so.some most m (so.stands [])

  -- So it is behind a request that is taken.
  pub ask-state : (message : Message) → (ask_one f m message).behind.state ≡ after_events f m.state (events_in (ask_one f m message).deeds)
  ask-state message =
      (ask-keeps f so.base so.some (so.taken_messages ++ message ∷ []) m (so.stands (message ∷ [])) message
      (ap (slice_get (so.taken_messages ++ message ∷ [])) so.taken ∙ slice_get-middle so.taken_messages message [])).state
