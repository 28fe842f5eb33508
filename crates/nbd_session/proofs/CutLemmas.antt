-- How far some deeds came: the first of them are whole, and the next one has begun.
use Rattle.std.proofs.Common.{◌≡◌, ◌⊎◌, inl, inr, ℕ, zero, suc, ◌+◌, ◌-◌, ◌<◌, ◌≤◌, List, [], ◌∷◌, ◌++◌, length, take, slice_get, Option, None, Some, refl, sym, ◌∙◌, ap, subst, arith, append-nil, append_assoc, length-append}
use Rattle.std.specs.List.{AllByRecursion}
use Rattle.std.proofs.lemmas.List.{take-append-le}
use Rattle.std.proofs.lemmas.Option.{none-some, same_Some}
use Rattle.std.proofs.Math.Seq.{take-append-add}
use Rattle.device_model.specs.History.{Change}
use Rattle.device_model.specs.Mode.{DeviceFormat}
use Rattle.device_model.specs.Progress.{DeviceState, Event, after_event, after_events, changes_of, event_result}
use Rattle.device_model.specs.Request.{returned_by}
use Rattle.device_model.proofs.ScriptLemmas.{changes_of-append}
use Rattle.nbd_model.specs.Stream.{Message, StreamEnd, Disconnected, Ended, WrongMagic, TooLong}
use Rattle.nbd_model.specs.Message.{EINVAL, bytes_of, reply_head, reply_magic}
use Rattle.nbd_model.specs.Judged.{bytes_behind_reply, error_of}
use Rattle.nbd_model.specs.Session.{Deed, Does, Replies, last_deeds}
use Rattle.nbd_model.specs.Deeds.{AreCameTo, IsBegun, changes_by, events_in, text_in}
use Rattle.nbd_model.specs.SessionLaws.{AreReplies, IsReply, Refuses, Answers}
use Rattle.nbd_model.proofs.DeedLemmas.{events_in-append, events_in-does, state-append}
use Rattle.nbd_command.specs.ServedRun.{AreCutBetween, AreCutByDisk, AreCutBySink, AreCutShort, IsCall, IsClosing, IsReplying, ReachesDisk}
use Rattle.nbd_flight.specs.Deeds.{calls_of}
use Rattle.nbd_flight.proofs.DeedLemmas.{text_in-append, text_in-calls}

-- ---- lists

pub take-front : {X : Type 0} (a b : List X) → take (length a) (a ++ b) ≡ a
take-front [] [] = refl
take-front [] (y ∷ b) = refl
take-front (x ∷ a) b = ap (λ l. x ∷ l) (take-front a b)

next-behind : {X : Type 0} (a b : List X) (n : ℕ) → slice_get (a ++ b) (length a + n) ≡ slice_get b n
next-behind [] b n = ap (slice_get b) (none n)
  where
    none : (n : ℕ) → 0 + n ≡ n
    none n = omega arith
next-behind (x ∷ a) b n = ap (slice_get (x ∷ (a ++ b))) (shift (length a) n) ∙ next-behind a b n
  where
    shift : (k n : ℕ) → suc k + n ≡ suc (k + n)
    shift k n = omega arith

next-front : {X : Type 0} (a b : List X) → slice_get (a ++ b) (length a) ≡ slice_get b 0
next-front a b = ap (slice_get (a ++ b)) (more (length a)) ∙ next-behind a b 0
  where
    more : (n : ℕ) → n ≡ n + 0
    more n = omega arith

few_or_more : (m n : ℕ) → (m ≤ n) ⊎ (n < m)
few_or_more zero n = inl (omega arith)
few_or_more (suc m) zero = inr (omega arith)
few_or_more (suc m) (suc n) = elim (few_or_more m n) [
  | inl few ↦ inl (omega (arith, few))
  | inr more ↦ inr (omega (arith, more))
]

next_call : (calls : List Event) (rest : List Deed) (n : ℕ) (event : Event) → slice_get calls n ≡ Some event
    → slice_get (calls_of calls ++ rest) n ≡ Some (Does event)
next_call [] rest n event there = absurd (none-some event there)
next_call (call ∷ calls) rest zero event there = ap (λ (e : Event). Some (Does e)) (same_Some call event there)
next_call (call ∷ calls) rest (suc n) event there = next_call calls rest n event there

take_calls : (calls : List Event) (rest : List Deed) (n : ℕ) (event : Event) → slice_get calls n ≡ Some event
    → take n (calls_of calls ++ rest) ≡ calls_of (take n calls)
take_calls [] rest n event there = absurd (none-some event there)
take_calls (call ∷ calls) rest zero event there = refl
take_calls (call ∷ calls) rest (suc n) event there = ap (λ (l : List Deed). Does call ∷ l) (take_calls calls rest n event there)

at_call : (calls : List Event) → AllByRecursion ReachesDisk calls → (n : ℕ) (event : Event) → slice_get calls n ≡ Some event → ReachesDisk event
at_call [] all n event there = absurd (none-some event there)
at_call (call ∷ calls) all zero event there = subst ReachesDisk (same_Some call event there) all.0
at_call (call ∷ calls) all (suc n) event there = at_call calls all.1 n event there

next_less : {X : Type 0} (xs : List X) (n : ℕ) (x : X) → slice_get xs n ≡ Some x → n < length xs
next_less [] n x there = absurd (none-some x there)
next_less (y ∷ xs) zero x there = omega arith
next_less (y ∷ xs) (suc n) x there = let less = next_less xs n x there in omega (arith, less)

-- ---- changes

pub changes_by-append : (f : DeviceFormat) (s : DeviceState) (a b : List Deed)
    → changes_by f s (a ++ b) ≡ changes_by f s a ++ changes_by f (after_events f s (events_in a)) b
changes_by-append f s a b = ap (changes_of f s) (events_in-append a b) ∙ changes_of-append f s (events_in a) (events_in b)

changes_by-calls : (f : DeviceFormat) (s : DeviceState) (calls : List Event) → changes_by f s (calls_of calls) ≡ changes_of f s calls
changes_by-calls f s calls = ap (changes_of f s) (events_in-does calls)

-- Some of the first changes of some events are all of the first events, and some of the first of the next one.
record IsSplit (f : DeviceFormat) (s : DeviceState) (events : List Event) (k : ℕ) : Type 0 where
  pub count : ℕ
  pub event : Event
  pub next : slice_get events count ≡ Some event
  pub made : ℕ
  pub is : take k (changes_of f s events)
      ≡ changes_of f s (take count events) ++ take made (event_result f (after_events f s (take count events)) event).changes

split_at : (f : DeviceFormat) (s : DeviceState) (events : List Event) → 0 < length events → (k : ℕ) → IsSplit f s events k
split_at f s [] some k = absurd (omega (arith, some))
split_at f s (event ∷ []) some k =
    record { count = 0; event = event; next = refl; made = k; is = ap (take k) (append-nil (event_result f s event).changes) }
split_at f s (event ∷ (next ∷ events)) some k =
    let changes = (event_result f s event).changes in
    let behind = changes_of f (after_event f s event) (next ∷ events) in
    elim (few_or_more k (length changes)) [
      | inl few ↦ record { count = 0; event = event; next = refl; made = k; is = take-append-le k changes behind few }
      | inr more ↦
          let inner = split_at f (after_event f s event) (next ∷ events) (omega arith) (k - length changes) in
          let whole : k ≡ length changes + (k - length changes) = omega (arith, more) in
          record {
            count = suc inner.count;
            event = inner.event;
            next = inner.next;
            made = inner.made;
            is = ap (λ (n : ℕ). take n (changes ++ behind)) whole ∙ take-append-add changes behind (k - length changes)
                ∙ ap (λ (l : List Change). changes ++ l) inner.is
                ∙ sym (append_assoc changes (changes_of f (after_event f s event) (take inner.count (next ∷ events)))
                (take inner.made (event_result f (after_events f (after_event f s event) (take inner.count (next ∷ events))) inner.event).changes));
          }
    ]

-- ---- replies have bytes

some_head : (error cookie : ℕ) → 0 < length (reply_head error cookie)
unfolding reply_head
some_head error cookie =
    let size = length-append (bytes_of 4 reply_magic) (bytes_of 4 error ++ bytes_of 8 cookie) in
    omega (arith, size)

some_reply : (f : DeviceFormat) (all : List Message) (s : DeviceState) (number : ℕ) (bytes : List ℕ) → IsReply f all s number bytes → 0 < length bytes
some_reply f all s number bytes (Refuses m there refused is) = subst (λ (l : List ℕ). 0 < length l) (sym is) (some_head EINVAL m.request.cookie)
some_reply f all s number bytes (Answers m there submission asks place a at request order has flush is) =
    let returned = bytes_behind_reply a.request a.reply (returned_by a.request a.reply a.got a.given) in
    let head = some_head (error_of a.request a.reply) m.request.cookie in
    let size = length-append (reply_head (error_of a.request a.reply) m.request.cookie) returned in
    subst (λ (l : List ℕ). 0 < length l) (sym is) (omega (arith, head, size))

abbrev pub HasBytes : Option Deed → Type 0
HasBytes None = Unit {0}
HasBytes (Some (Does event)) = Unit {0}
HasBytes (Some (Replies number bytes)) = 0 < length bytes

module _ (f : DeviceFormat) (all : List Message) where
  replies_behind : (s : DeviceState) (a b : List Deed) → AreReplies f all s (a ++ b) → AreReplies f all (after_events f s (events_in a)) b
  replies_behind s [] b replies = replies
  replies_behind s (Does event ∷ a) b replies = replies_behind (after_event f s event) a b replies
  replies_behind s (Replies number bytes ∷ a) b replies = replies_behind s a b replies.1

  next_has : (s : DeviceState) (b : List Deed) → AreReplies f all s b → HasBytes (slice_get b 0)
  next_has s [] replies = tt
  next_has s (Does event ∷ b) replies = tt
  next_has s (Replies number bytes ∷ b) replies = some_reply f all s number bytes replies.0

  -- Whichever deed is next in a session, a reply has bytes.
  pub next_bytes : (s : DeviceState) (made rest : List Deed) → AreReplies f all s (made ++ rest) → HasBytes (slice_get rest 0)
  next_bytes s made rest replies = next_has (after_events f s (events_in made)) rest (replies_behind s made rest replies)

  pub replies_last : (s : DeviceState) (ending : StreamEnd) → AreReplies f all s (last_deeds ending)
  replies_last s Disconnected = tt
  replies_last s Ended = tt
  replies_last s (WrongMagic magic) = tt
  replies_last s TooLong = tt

-- ---- what has begun

take-none : {X : Type 0} (xs : List X) → take 0 xs ≡ []
take-none [] = refl
take-none (x ∷ xs) = refl

begun_none : (f : DeviceFormat) (s : DeviceState) (next : Option Deed) → HasBytes next → IsBegun f s next [] []
begun_none f s None has = (refl, refl)
begun_none f s (Some (Does event)) has = (refl, 0, sym (take-none (event_result f s event).changes))
begun_none f s (Some (Replies number bytes)) has = (refl, 0, has, sym (take-none bytes))

module _ (f : DeviceFormat) (s : DeviceState) (end : StreamEnd) (deeds made rest : List Deed) (all : deeds ≡ made ++ rest)
    (closing : IsClosing end → 0 < length rest) where
  whole_is : take (length made) deeds ≡ made
  whole_is = ap (take (length made)) all ∙ take-front made rest

  size : length deeds ≡ length made + length rest
  size = ap length all ∙ length-append made rest

  next_is : slice_get deeds (length made) ≡ slice_get rest 0
  next_is = ap (λ (l : List Deed). slice_get l (length made)) all ∙ next-front made rest

  -- These are whole, and of the next one so much has begun.
  came_so_far : (text : List ℕ) (changes : List Change) → IsBegun f (after_events f s (events_in made)) (slice_get rest 0) text changes
      → AreCutShort f s end deeds (text_in made ++ text) (changes_by f s made ++ changes)
  came_so_far text changes begun = record {
    came = record {
      whole = length made;
      within = omega (arith, size);
      begun_text = text;
      begun_changes = changes;
      begun = subst (λ (o : Option Deed). IsBegun f (after_events f s (events_in (take (length made) deeds))) o text changes) (sym next_is)
          (subst (λ (l : List Deed). IsBegun f (after_events f s (events_in l)) (slice_get rest 0) text changes) (sym whole_is) begun);
      is_text = ap (λ (l : List Deed). text_in l ++ text) (sym whole_is);
      is_changes = ap (λ (l : List Deed). changes_by f s l ++ changes) (sym whole_is);
    };
    short = λ closes. let some = closing closes in omega (arith, size, some);
  }

  -- Nothing of it has.
  pub cut_between : HasBytes (slice_get rest 0) → AreCutBetween f s end deeds (text_in made ++ []) (changes_by f s made ++ [])
  unfolding came_so_far
  cut_between has = record {
    cut = came_so_far [] [] (begun_none f (after_events f s (events_in made)) (slice_get rest 0) has);
    no_text = refl;
    no_changes = refl;
  }

  pub whole_between : (has : HasBytes (slice_get rest 0)) → take (cut_between has).cut.came.whole deeds ≡ made
  unfolding cut_between came_so_far
  whole_between has = whole_is

  -- It is a call, of which nothing is done.
  pub cut_at_call : (event : Event) → slice_get rest 0 ≡ Some (Does event) → ReachesDisk event
      → AreCutByDisk f s end deeds (text_in made ++ []) (changes_by f s made ++ [])
  unfolding came_so_far
  cut_at_call event next reaches = record {
    cut = came_so_far [] []
        (subst (λ (o : Option Deed). IsBegun f (after_events f s (events_in made)) o [] []) (sym next)
        (begun_none f (after_events f s (events_in made)) (Some (Does event)) tt));
    call = subst IsCall (sym (next_is ∙ next)) reaches;
  }

  -- It is a reply, of which some bytes are written.
  pub cut_in_reply : (number : ℕ) (bytes : List ℕ) → slice_get rest 0 ≡ Some (Replies number bytes) → (count : ℕ) → count < length bytes
      → AreCutBySink f s end deeds (text_in made ++ take count bytes) (changes_by f s made ++ [])
  unfolding came_so_far
  cut_in_reply number bytes next count short_ = record {
    cut = came_so_far (take count bytes) []
        (subst (λ (o : Option Deed). IsBegun f (after_events f s (events_in made)) o (take count bytes) []) (sym next) (refl, count, short_, refl));
    reply = subst IsReplying (sym (next_is ∙ next)) tt;
  }

-- The first are whole, and of the calls behind them some of the first changes are made.
module _ (f : DeviceFormat) (s : DeviceState) (end : StreamEnd) (deeds made : List Deed) (calls : List Event) (rest : List Deed)
    (all : deeds ≡ made ++ (calls_of calls ++ rest)) (some : 0 < length calls) (reach : AllByRecursion ReachesDisk calls) (k : ℕ) where
  abbrev there : DeviceState
  there = after_events f s (events_in made)

  abbrev sp : IsSplit f there calls k
  sp = split_at f there calls some k

  abbrev begun_at : DeviceState
  begun_at = after_events f there (take sp.count calls)

  abbrev front : List Deed
  front = made ++ calls_of (take sp.count calls)

  front_is : take (length made + sp.count) deeds ≡ front
  front_is =
      ap (take (length made + sp.count)) all ∙ take-append-add made (calls_of calls ++ rest) sp.count
      ∙ ap (λ (l : List Deed). made ++ l) (take_calls calls rest sp.count sp.event sp.next)

  front_next : slice_get deeds (length made + sp.count) ≡ Some (Does sp.event)
  front_next =
      ap (λ (l : List Deed). slice_get l (length made + sp.count)) all ∙ next-behind made (calls_of calls ++ rest) sp.count
      ∙ next_call calls rest sp.count sp.event sp.next

  front_state : after_events f s (events_in front) ≡ begun_at
  front_state = state-append f s made (calls_of (take sp.count calls)) ∙ ap (after_events f there) (events_in-does (take sp.count calls))

  front_text : text_in front ≡ text_in made
  front_text =
      text_in-append made (calls_of (take sp.count calls)) ∙ ap (λ (l : List ℕ). text_in made ++ l) (text_in-calls (take sp.count calls))
      ∙ append-nil (text_in made)

  front_changes : changes_by f s front ≡ changes_by f s made ++ changes_of f there (take sp.count calls)
  front_changes =
      changes_by-append f s made (calls_of (take sp.count calls))
      ∙ ap (λ (l : List Change). changes_by f s made ++ l) (changes_by-calls f there (take sp.count calls))

  begun_by : (o : Option Deed) → o ≡ Some (Does sp.event) → (state : DeviceState) → state ≡ begun_at
      → IsBegun f state o [] (take sp.made (event_result f begun_at sp.event).changes)
  begun_by o next state same =
      subst (λ (x : Option Deed). IsBegun f state x [] (take sp.made (event_result f begun_at sp.event).changes)) (sym next)
      (refl, sp.made, ap (λ (x : DeviceState). take sp.made (event_result f x sp.event).changes) (sym same))

  pub cut_in_calls : AreCutByDisk f s end deeds (text_in made ++ []) (changes_by f s made ++ take k (changes_of f there calls))
  cut_in_calls =
      let less = next_less calls sp.count sp.event sp.next in
      let long : length deeds ≡ length made + (length (calls_of calls) + length rest) =
      ap length all ∙ length-append made (calls_of calls ++ rest) ∙ ap (λ (n : ℕ). length made + n) (length-append (calls_of calls) rest) in
      let many = length-calls calls in
      record {
        cut = record {
          came = record {
            whole = length made + sp.count;
            within = omega (arith, less, long, many);
            begun_text = [];
            begun_changes = take sp.made (event_result f begun_at sp.event).changes;
            begun = begun_by (slice_get deeds (length made + sp.count)) front_next (after_events f s (events_in (take (length made + sp.count) deeds)))
                (ap (λ (l : List Deed). after_events f s (events_in l)) front_is ∙ front_state);
            is_text = ap (λ (l : List ℕ). l ++ []) (sym (ap text_in front_is ∙ front_text));
            is_changes =
                ap (λ (l : List Change). changes_by f s made ++ l) sp.is
                ∙ sym (append_assoc (changes_by f s made) (changes_of f there (take sp.count calls)) (take sp.made (event_result f begun_at sp.event).changes))
                ∙ ap (λ (l : List Change). l ++ take sp.made (event_result f begun_at sp.event).changes) (sym (ap (changes_by f s) front_is ∙ front_changes));
          };
          short = λ closes. omega (arith, less, long, many);
        };
        call = subst IsCall (sym front_next) (at_call calls reach sp.count sp.event sp.next);
      }
    where
      length-calls : (events : List Event) → length (calls_of events) ≡ length events
      length-calls [] = refl
      length-calls (event ∷ events) = let more = length-calls events in omega (arith, more)
