-- The requests in flight, each served to its end: as many events as there are tickets, or as the model has them.
use Rattle.std.proofs.Common.{◌≡◌, ℕ, zero, suc, ◌+◌, ◌<◌, Bool, true, false, if◌then◌else◌, List, [], ◌∷◌, ◌++◌, length, drop, set, None, Some, Option, slice_get, refl, sym, ◌∙◌, ap, subst, arith, append-nil, append_assoc}
use Rattle.std.proofs.lemmas.List.{drop-set-lt, drop_all, length-set}
use Rattle.device_model.specs.History.{Change, with_changes}
use Rattle.device_model.specs.Journal.{JournalCounts}
use Rattle.device_model.specs.Mode.{DeviceFormat}
use Rattle.device_model.specs.Progress.{Answer, Broken, Closed, Condition, DeviceState, Event, EventResult, NoRoom, Serve, Working, after_event, after_events, answers, changes_of, event_result, journal_with, result_in, serve_asked, serve_by, serve_unheld, serve_with}
use Rattle.device_model.specs.Request.{Asked, RequestState, Unfinished, Finished, Taken, Dropped, held_by, is_over, is_to_serve, is_unfinished}
use Rattle.device_model.specs.Script.{finish_all_events, finish_events, is_did, last_answer, room_events, turn_events, turns_left, whole_finish}
use Rattle.device_model.proofs.IdleLemmas.{after_events-append, room_events-same}
use Rattle.device_model.proofs.ScriptLemmas.{changes_of-append, finish-condition}
use Rattle.device.proofs.FinishLemmas.{serve-finished, whole_finish-finished}

-- The tickets of those that are neither taken nor dropped. The first has ticket t.
abbrev pub numbers_from : ℕ → List Asked → List ℕ
numbers_from t [] = []
numbers_from t (a ∷ requests) = if is_over a.state then numbers_from (suc t) requests else t ∷ numbers_from (suc t) requests

-- The requests behind a place stay as they are.
pub record KeepsBehind (k : ℕ) (old new : List Asked) : Type 0 where
  pub size : length new ≡ length old
  pub behind : drop (suc k) new ≡ drop (suc k) old

keeps_none : (k : ℕ) (old new : List Asked) → new ≡ old → KeepsBehind k old new
keeps_none k old new same = record { size = ap length same; behind = ap (drop (suc k)) same }

keeps_then : (k : ℕ) (a b c : List Asked) → KeepsBehind k a b → KeepsBehind k b c → KeepsBehind k a c
keeps_then k a b c first second = record { size = second.size ∙ first.size; behind = second.behind ∙ first.behind }

keeps_set : (k : ℕ) (old : List Asked) (a : Asked) → KeepsBehind k old (set old k a)
keeps_set k old a = record { size = length-set old k a; behind = drop-set-lt (suc k) old k a (omega arith) }

module _ (f : DeviceFormat) where
  -- ---- what is served behind a ticket

  keeps_with : (s : DeviceState) (k : ℕ) (a : Asked) (j : Option JournalCounts)
      → KeepsBehind k s.progress.requests (serve_with f s k a j).progress.requests
  keeps_with s k a None = keeps_none k _ _ refl
  keeps_with s k a (Some j) = keeps_set k s.progress.requests _

  keeps_unheld : (s : DeviceState) (k : ℕ) (a : Asked) (held : Option ℕ)
      → KeepsBehind k s.progress.requests (serve_unheld f s k a held).progress.requests
  keeps_unheld s k a (Some ticket) = keeps_none k _ _ refl
  keeps_unheld s k a None = keeps_with s k a (journal_with f s.progress.journal a a.request)

  keeps_by : (s : DeviceState) (k : ℕ) (a : Asked) (state : RequestState)
      → KeepsBehind k s.progress.requests (serve_by f s k a state).progress.requests
  keeps_by s k a Unfinished = keeps_unheld s k a (held_by s.progress.requests k a.request)
  keeps_by s k a Finished = keeps_none k _ _ refl
  keeps_by s k a Taken = keeps_none k _ _ refl
  keeps_by s k a Dropped = keeps_none k _ _ refl

  keeps_asked : (s : DeviceState) (k : ℕ) (asked : Option Asked)
      → KeepsBehind k s.progress.requests (serve_asked f s k asked).progress.requests
  keeps_asked s k None = keeps_none k _ _ refl
  keeps_asked s k (Some a) = keeps_by s k a a.state

  keeps_in : (s : DeviceState) (k : ℕ) (c : Condition)
      → KeepsBehind k s.progress.requests (result_in f s c (Serve (suc k))).progress.requests
  keeps_in s k Working = keeps_asked s k (slice_get s.progress.requests k)
  keeps_in s k Broken = keeps_none k _ _ refl
  keeps_in s k Closed = keeps_none k _ _ refl

  keeps_serve : (s : DeviceState) (k : ℕ)
      → KeepsBehind k s.progress.requests (after_event f s (Serve (suc k))).progress.requests
  keeps_serve s k = keeps_in s k s.condition

  keeps_turn : (k : ℕ) (s : DeviceState)
      → KeepsBehind k s.progress.requests (after_events f s (turn_events f (suc k) s)).progress.requests
  keeps_turn k s = by (event_result f s (Serve (suc k))).answer
    where
      room : KeepsBehind k s.progress.requests (after_events f s (Serve (suc k) ∷ (room_events f (after_event f s (Serve (suc k))) ++ Serve (suc k) ∷ []))).progress.requests
      room =
          let next = after_event f s (Serve (suc k)) in
          let made = after_events f next (room_events f next) in
          subst (λ (t : DeviceState). KeepsBehind k s.progress.requests t.progress.requests) (sym (after_events-append f next (room_events f next) (Serve (suc k) ∷ [])))
          (keeps_then k _ _ _ (keeps_serve s k) (keeps_then k _ _ _ (keeps_none k next.progress.requests made.progress.requests (room_events-same f next).0) (keeps_serve made k)))

      by : (answer : Answer)
          → KeepsBehind k s.progress.requests (after_events f s (Serve (suc k) ∷ elim answer [ NoRoom ↦ room_events f (after_event f s (Serve (suc k))) ++ Serve (suc k) ∷ [] | _ ↦ [] ])).progress.requests
      by NoRoom = room
      by answer = keeps_serve s k

  pub keeps_finish : (k n : ℕ) (s : DeviceState)
      → KeepsBehind k s.progress.requests (after_events f s (finish_events f (suc k) n s)).progress.requests
  keeps_finish k zero s = keeps_none k _ _ refl
  keeps_finish k (suc n) s =
      let turn = turn_events f (suc k) s in
      let after = after_events f s turn in
      by turn (is_did (last_answer (answers f s turn))) (keeps_turn k s) (keeps_finish k n after)
    where
      by : (turn : List Event) (goes_on : Bool)
          → KeepsBehind k s.progress.requests (after_events f s turn).progress.requests
          → KeepsBehind k (after_events f s turn).progress.requests (after_events f (after_events f s turn) (finish_events f (suc k) n (after_events f s turn))).progress.requests
          → KeepsBehind k s.progress.requests (after_events f s (turn ++ elim goes_on [ true ↦ finish_events f (suc k) n (after_events f s turn) | false ↦ [] ])).progress.requests
      by turn true first rest =
          subst (λ (t : DeviceState). KeepsBehind k s.progress.requests t.progress.requests) (sym (after_events-append f s turn (finish_events f (suc k) n (after_events f s turn)))) (keeps_then k _ _ _ first rest)
      by turn false first rest =
          subst (λ (l : List Event). KeepsBehind k s.progress.requests (after_events f s l).progress.requests) (sym (append-nil turn)) first

  -- ---- one ticket after the other

  abbrev pub finish_each : List ℕ → DeviceState → List Event
  finish_each [] s = []
  finish_each (t ∷ tickets) s = whole_finish f t s ++ finish_each tickets (after_events f s (whole_finish f t s))

  pub finish_each-append : (ts us : List ℕ) (s : DeviceState)
      → finish_each (ts ++ us) s ≡ finish_each ts s ++ finish_each us (after_events f s (finish_each ts s))
  finish_each-append [] us s = refl
  finish_each-append (t ∷ ts) us s =
      let whole = whole_finish f t s in
      let next = after_events f s whole in
      ap (λ (l : List Event). whole ++ l) (finish_each-append ts us next)
      ∙ sym (append_assoc whole (finish_each ts next) (finish_each us (after_events f next (finish_each ts next))))
      ∙ ap (λ (u : DeviceState). (whole ++ finish_each ts next) ++ finish_each us u) (sym (after_events-append f s whole (finish_each ts next)))

  -- Events that come to the same.
  pub record SameEnd (s : DeviceState) (xs ys : List Event) : Type 0 where
    pub after : after_events f s xs ≡ after_events f s ys
    pub changes : changes_of f s xs ≡ changes_of f s ys

  same_none : (s : DeviceState) (xs ys : List Event) → xs ≡ ys → SameEnd s xs ys
  same_none s xs ys same = record { after = ap (after_events f s) same; changes = ap (changes_of f s) same }

  same_then : (s : DeviceState) (xs ys zs : List Event) → SameEnd s xs ys → SameEnd s ys zs → SameEnd s xs zs
  same_then s xs ys zs first second = record { after = first.after ∙ second.after; changes = first.changes ∙ second.changes }

  same_behind : (s : DeviceState) (whole xs ys : List Event) → SameEnd (after_events f s whole) xs ys
      → SameEnd s (whole ++ xs) (whole ++ ys)
  same_behind s whole xs ys same = record {
    after = after_events-append f s whole xs ∙ same.after ∙ sym (after_events-append f s whole ys);
    changes =
        changes_of-append f s whole xs ∙ ap (λ (l : List Change). changes_of f s whole ++ l) same.changes ∙ sym (changes_of-append f s whole ys);
  }

  -- A request that is done is left out.
  same_done : (s : DeviceState) (k : ℕ) (a : Asked) → s.condition ≡ Working
      → slice_get s.progress.requests k ≡ Some a → a.state ≡ Finished
      → (rest : DeviceState → List Event)
      → SameEnd s (whole_finish f (suc k) s ++ rest (after_events f s (whole_finish f (suc k) s))) (rest s)
  same_done s k a works there done rest =
      let serve = Serve (suc k) in
      let is = serve-finished f s k a there works done in
      let still : after_event f s serve ≡ s = ap (λ (x : EventResult). record { history = with_changes x.changes s.history; progress = x.progress; condition = s.condition }) is in
      let events = whole_finish-finished f s k a there works done in
      same_then s _ (serve ∷ rest (after_event f s serve)) (rest s)
      (same_none s _ _ (ap (λ (l : List Event). l ++ rest (after_events f s l)) events))
      (record {
        after = ap (λ (u : DeviceState). after_events f u (rest u)) still;
        changes = ap (λ (x : EventResult). x.changes ++ changes_of f (after_event f s serve) (rest (after_event f s serve))) is ∙ ap (λ (u : DeviceState). changes_of f u (rest u)) still;
      })

  -- ---- all requests

  found_at : (requests : List Asked) (i : ℕ) → i < length requests
      → (a : Asked) × (slice_get requests i ≡ Some a) × (drop i requests ≡ a ∷ drop (suc i) requests)
  found_at [] i low = absurd (omega (arith, low))
  found_at (a ∷ requests) zero low = (a, refl, refl)
  found_at (a ∷ requests) (suc i) low = found_at requests i (omega (arith, low))

  abbrev all_steps : (n i : ℕ) (s : DeviceState) → Bool → List Event
  all_steps n i s to_serve = elim to_serve [
    | true ↦
        let events = whole_finish f (suc i) s in
        events ++ finish_all_events f (suc (suc i)) n (after_events f s events)
    | false ↦ finish_all_events f (suc (suc i)) n s
  ]

  module _ (n i : ℕ) (s : DeviceState) (works : s.condition ≡ Working) (size : length s.progress.requests ≡ i + suc n)
      (rest : (t : DeviceState) → t.condition ≡ Working → length t.progress.requests ≡ suc i + n
      → SameEnd t (finish_each (numbers_from (suc (suc i)) (drop (suc i) t.progress.requests)) t)
      (finish_all_events f (suc (suc i)) n t)) where
    size_less : (m : ℕ) → m ≡ i + suc n → m ≡ suc i + n
    size_less m is = omega (arith, is)

    all_by : (a : Asked) → slice_get s.progress.requests i ≡ Some a → (state : RequestState) → a.state ≡ state
        → SameEnd s (finish_each (numbers_from (suc i) (a ∷ drop (suc i) s.progress.requests)) s)
        (finish_all_events f (suc i) (suc n) s)
    all_by a there Unfinished e =
        let more = drop (suc i) s.progress.requests in
        let whole = whole_finish f (suc i) s in
        let next = after_events f s whole in
        let kept = keeps_finish i (turns_left (slice_get s.progress.requests i)) s in
        let numbers : numbers_from (suc i) (a ∷ more) ≡ suc i ∷ numbers_from (suc (suc i)) more =
        ap (λ (x : RequestState). if is_over x then numbers_from (suc (suc i)) more else suc i ∷ numbers_from (suc (suc i)) more) e in
        let steps : finish_all_events f (suc i) (suc n) s ≡ whole ++ finish_all_events f (suc (suc i)) n next =
        ap (λ (o : Option Asked). all_steps n i s (is_to_serve o)) there ∙ ap (λ (x : RequestState). all_steps n i s (is_unfinished x)) e in
        let rest_is = rest next (finish-condition f (suc i) (turns_left (slice_get s.progress.requests i)) s ∙ works) (kept.size ∙ size_less (length s.progress.requests) size) in
        same_then s _ (whole ++ finish_each (numbers_from (suc (suc i)) (drop (suc i) next.progress.requests)) next) _
        (same_none s _ _ (ap (λ (l : List ℕ). finish_each l s) numbers ∙ ap (λ (l : List Asked). whole ++ finish_each (numbers_from (suc (suc i)) l) next) (sym kept.behind)))
        (same_then s _ (whole ++ finish_all_events f (suc (suc i)) n next) _ (same_behind s whole _ _ rest_is) (same_none s _ _ (sym steps)))
    all_by a there Finished e =
        let more = drop (suc i) s.progress.requests in
        let numbers : numbers_from (suc i) (a ∷ more) ≡ suc i ∷ numbers_from (suc (suc i)) more =
        ap (λ (x : RequestState). if is_over x then numbers_from (suc (suc i)) more else suc i ∷ numbers_from (suc (suc i)) more) e in
        let steps : finish_all_events f (suc i) (suc n) s ≡ finish_all_events f (suc (suc i)) n s =
        ap (λ (o : Option Asked). all_steps n i s (is_to_serve o)) there ∙ ap (λ (x : RequestState). all_steps n i s (is_unfinished x)) e in
        same_then s _ (finish_each (suc i ∷ numbers_from (suc (suc i)) more) s) _ (same_none s _ _ (ap (λ (l : List ℕ). finish_each l s) numbers))
        (same_then s _ (finish_each (numbers_from (suc (suc i)) more) s) _ (same_done s i a works there e (λ u. finish_each (numbers_from (suc (suc i)) more) u))
        (same_then s _ _ _ (rest s works (size_less (length s.progress.requests) size)) (same_none s _ _ (sym steps))))
    all_by a there Taken e =
        let more = drop (suc i) s.progress.requests in
        let numbers : numbers_from (suc i) (a ∷ more) ≡ numbers_from (suc (suc i)) more =
        ap (λ (x : RequestState). if is_over x then numbers_from (suc (suc i)) more else suc i ∷ numbers_from (suc (suc i)) more) e in
        let steps : finish_all_events f (suc i) (suc n) s ≡ finish_all_events f (suc (suc i)) n s =
        ap (λ (o : Option Asked). all_steps n i s (is_to_serve o)) there ∙ ap (λ (x : RequestState). all_steps n i s (is_unfinished x)) e in
        same_then s _ _ _ (same_none s _ _ (ap (λ (l : List ℕ). finish_each l s) numbers))
        (same_then s _ _ _ (rest s works (size_less (length s.progress.requests) size)) (same_none s _ _ (sym steps)))
    all_by a there Dropped e =
        let more = drop (suc i) s.progress.requests in
        let numbers : numbers_from (suc i) (a ∷ more) ≡ numbers_from (suc (suc i)) more =
        ap (λ (x : RequestState). if is_over x then numbers_from (suc (suc i)) more else suc i ∷ numbers_from (suc (suc i)) more) e in
        let steps : finish_all_events f (suc i) (suc n) s ≡ finish_all_events f (suc (suc i)) n s =
        ap (λ (o : Option Asked). all_steps n i s (is_to_serve o)) there ∙ ap (λ (x : RequestState). all_steps n i s (is_unfinished x)) e in
        same_then s _ _ _ (same_none s _ _ (ap (λ (l : List ℕ). finish_each l s) numbers))
        (same_then s _ _ _ (rest s works (size_less (length s.progress.requests) size)) (same_none s _ _ (sym steps)))

  all_from : (n i : ℕ) (s : DeviceState) → s.condition ≡ Working → length s.progress.requests ≡ i + n
      → SameEnd s (finish_each (numbers_from (suc i) (drop i s.progress.requests)) s)
      (finish_all_events f (suc i) n s)
  all_from zero i s works size =
      same_none s _ _ (ap (λ (l : List Asked). finish_each (numbers_from (suc i) l) s) (drop_all i s.progress.requests (omega (arith, size))))
  all_from (suc n) i s works size =
      let found = found_at s.progress.requests i (omega (arith, size)) in
      same_then s _ _ _ (same_none s _ _ (ap (λ (l : List Asked). finish_each (numbers_from (suc i) l) s) found.2))
      (all_by n i s works size (λ t t_works t_size. all_from n (suc i) t t_works t_size) found.0 found.1 found.0.state refl)

  -- To serve each request in flight to its end is what the model does with all.
  pub finish_each-all : (s : DeviceState) → s.condition ≡ Working
      → SameEnd s (finish_each (numbers_from 1 s.progress.requests) s)
      (finish_all_events f 1 (length s.progress.requests) s)
  finish_each-all s works = all_from (length s.progress.requests) 0 s works (none_first (length s.progress.requests))
    where
      none_first : (n : ℕ) → n ≡ 0 + n
      none_first n = omega arith
