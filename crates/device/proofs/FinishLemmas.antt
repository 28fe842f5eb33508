-- A request that is served as long as it goes on, with room made for it: the events of a turn, and of all its turns.
use Rattle.std.proofs.Common.{◌≡◌, ◌≢◌, ℕ, suc, true, false, List, [], ◌∷◌, ◌++◌, Some, Option, slice_get, refl, sym, ◌∙◌, ap}
use Rattle.std.proofs.lemmas.Bool.{false≢true}
use Rattle.std.proofs.lemmas.Option.{same_Some}
use Rattle.device_model.specs.Mode.{DeviceFormat}
use Rattle.device_model.specs.Progress.{Answer, Done, DeviceState, Event, EventResult, NoRoom, Serve, Working, after_event, after_events, answers, event_result, only_answers, serve_asked, serve_by}
use Rattle.device_model.specs.Request.{Asked, RequestState, Unfinished, Finished, Taken, Dropped, is_over, is_unfinished}
use Rattle.device_model.specs.RequestLaws.{IsReached}
use Rattle.device_model.specs.Script.{finish_events, is_did, last_answer, room_events, turn_events, turns_left, whole_finish}
use Rattle.device_model.proofs.EventLemmas.{IsServing-reached}
use Rattle.device_model.proofs.FinishLemmas.{whole_finish-turn}
use Rattle.device_model.proofs.ScriptLemmas.{answers-append, last_answer-push}
use Rattle.device_model.proofs.SubmissionLemmas.{result-working}
use Rattle.device_parts.specs.declared.answers.Served.{Served}
use Rattle.device_parts.specs.declared.answers.Served.TheVariants as Serves
use Rattle.device_parts.specs.Answers.{served_answer}

-- ---- a turn

module _ (f : DeviceFormat) (s : DeviceState) (ticket : ℕ) where
  abbrev serve : Event
  serve = Serve ticket

  abbrev next : DeviceState
  next = after_event f s serve

  abbrev behind : Answer → List Event
  behind answer = elim answer [ NoRoom ↦ room_events f next ++ serve ∷ [] | _ ↦ [] ]

  -- It is one serve, where that does not find the journal full,
  pub turn-alone : (served : Served) → served ≢ Serves.NoRoom → (event_result f s serve).answer ≡ served_answer served
      → turn_events f ticket s ≡ serve ∷ []
  turn-alone (Serves.Held by) other is = ap (λ (x : Answer). serve ∷ behind x) is
  turn-alone Serves.Did other is = ap (λ (x : Answer). serve ∷ behind x) is
  turn-alone Serves.Done other is = ap (λ (x : Answer). serve ∷ behind x) is
  turn-alone Serves.NoRoom other is = absurd (other refl)

  -- and else room is made, and it is served again.
  pub turn-with_room : (event_result f s serve).answer ≡ NoRoom
      → turn_events f ticket s ≡ serve ∷ (room_events f next ++ serve ∷ [])
  turn-with_room is = ap (λ (x : Answer). serve ∷ behind x) is

  pub answer-alone : (served : Served) → served ≢ Serves.NoRoom → (event_result f s serve).answer ≡ served_answer served
      → last_answer (answers f s (turn_events f ticket s)) ≡ Some (served_answer served)
  answer-alone served other is =
      ap (λ (l : List Event). last_answer (answers f s l)) (turn-alone served other is) ∙ ap (λ (x : Answer). Some x) is

  pub answer-with_room : (event_result f s serve).answer ≡ NoRoom → (served : Served)
      → (event_result f (after_events f next (room_events f next)) serve).answer ≡ served_answer served
      → last_answer (answers f s (turn_events f ticket s)) ≡ Some (served_answer served)
  answer-with_room full served is =
      let made = after_events f next (room_events f next) in
      let first = (event_result f s serve).answer in
      ap (λ (l : List Event). last_answer (answers f s l)) (turn-with_room full)
      ∙ ap (λ (l : List Answer). last_answer (first ∷ l)) (answers-append f next (room_events f next) (serve ∷ []))
      ∙ last_answer-push (first ∷ answers f next (room_events f next)) (event_result f made serve).answer
      ∙ ap (λ (x : Answer). Some x) is

-- ---- all turns

-- What comes behind a turn that was answered so: more, where it goes on.
abbrev pub more_by : Served → List Event → List Event
more_by (Serves.Held by) more = []
more_by Serves.Did more = more
more_by Serves.Done more = []
more_by Serves.NoRoom more = []

module _ (f : DeviceFormat) (s : DeviceState) (k : ℕ) (a : Asked) (there : slice_get s.progress.requests k ≡ Some a) where
  abbrev turn : List Event
  turn = turn_events f (suc k) s

  abbrev after : DeviceState
  after = after_events f s turn

  abbrev go : List Event → Option Answer → List Event
  go more answer = turn ++ elim (is_did answer) [ true ↦ more | false ↦ [] ]

  goes_by : (served : Served) (more : List Event) → go more (Some (served_answer served)) ≡ turn ++ more_by served more
  goes_by (Serves.Held by) more = refl
  goes_by Serves.Did more = refl
  goes_by Serves.Done more = refl
  goes_by Serves.NoRoom more = refl

  -- To finish it begins with a turn.
  pub record Begins : Type 0 where
    pub rest : List Event
    pub is : whole_finish f (suc k) s ≡ turn ++ rest

  pub begins : Begins
  begins = record { rest = _; is = ap (λ (o : Option Asked). finish_events f (suc k) (turns_left o) s) there }

  -- A serve of a request that is done changes nothing,
  pub serve-finished : s.condition ≡ Working → a.state ≡ Finished → event_result f s (Serve (suc k)) ≡ only_answers s.progress Done
  serve-finished works done = result-working f s (Serve (suc k)) works ∙ ap (serve_asked f s k) there ∙ ap (serve_by f s k a) done

  -- a turn of it answers that,
  turn-done : s.condition ≡ Working → a.state ≡ Finished → last_answer (answers f s turn) ≡ Some Done
  turn-done works done =
      answer-alone f s (suc k) Serves.Done (λ e. cc) (ap (λ (x : EventResult). x.answer) (serve-finished works done))

  finished_by : (n : ℕ) (served : Served) → last_answer (answers f s turn) ≡ Some Done
      → last_answer (answers f s turn) ≡ Some (served_answer served)
      → finish_events f (suc k) (suc n) s ≡ turn ++ more_by served (whole_finish f (suc k) after)
  finished_by n served done is =
      ap (go (finish_events f (suc k) n after)) done ∙ ends served (same_Some Done (served_answer served) (sym done ∙ is))
    where
      ends : (served : Served) → Done ≡ served_answer served → turn ++ [] ≡ turn ++ more_by served (whole_finish f (suc k) after)
      ends (Serves.Held other) same = absurd (cc)
      ends Serves.Did same = absurd (cc)
      ends Serves.Done same = refl
      ends Serves.NoRoom same = absurd (cc)

  -- and to finish it is that serve.
  pub whole_finish-finished : s.condition ≡ Working → a.state ≡ Finished → whole_finish f (suc k) s ≡ Serve (suc k) ∷ []
  whole_finish-finished works done =
      let answered = turn-done works done in
      ap (λ (o : Option Asked). finish_events f (suc k) (turns_left o) s) there ∙ finished_by _ Serves.Done answered answered
      ∙ ap (λ (l : List Event). l ++ []) (turn-alone f s (suc k) Serves.Done (λ e. cc) (ap (λ (x : EventResult). x.answer) (serve-finished works done)))

  by_state : (state : RequestState) → a.state ≡ state → IsReached f s → s.condition ≡ Working → is_over a.state ≡ false → (served : Served)
      → last_answer (answers f s turn) ≡ Some (served_answer served)
      → whole_finish f (suc k) s ≡ turn ++ more_by served (whole_finish f (suc k) after)
  by_state Unfinished e reached works open_ served is =
      whole_finish-turn f s.history.base s k a (IsServing-reached f s reached) there (ap is_unfinished e)
      ∙ ap (go (whole_finish f (suc k) after)) is ∙ goes_by served (whole_finish f (suc k) after)
  by_state Finished e reached works open_ served is =
      ap (λ (o : Option Asked). finish_events f (suc k) (turns_left o) s) there ∙ finished_by _ served (turn-done works e) is
  by_state Taken e reached works open_ served is = absurd (false≢true (sym open_ ∙ ap is_over e))
  by_state Dropped e reached works open_ served is = absurd (false≢true (sym open_ ∙ ap is_over e))

  -- To finish a request in flight is one turn, and more where that goes on.
  pub whole_finish-by : IsReached f s → s.condition ≡ Working → is_over a.state ≡ false → (served : Served)
      → last_answer (answers f s turn) ≡ Some (served_answer served)
      → whole_finish f (suc k) s ≡ turn ++ more_by served (whole_finish f (suc k) after)
  whole_finish-by reached works open_ served is = by_state a.state refl reached works open_ served is
