-- What a round keeps, and that rounds come to their end.
use Rattle.std.proofs.Common.{◌≡◌, ◌≢◌, inl, inr, ℕ, zero, suc, ◌+◌, ◌<◌, ◌≤◌, Bool, true, false, List, [], ◌∷◌, ◌++◌, length, map, take, Option, None, Some, slice_get, refl, sym, ◌∙◌, ap, subst, arith}
use Rattle.std.specs.Prelude.{sum_by, leb}
use Rattle.std.proofs.lemmas.List.Sums.{sum_by-cons}
use Rattle.std.proofs.lemmas.Bool.{leb-true, leb-false, cases_order, false≢true}
use Rattle.std.proofs.lemmas.Option.{same_Some}
use Rattle.image_model.specs.Cells.{Cell}
use Rattle.device_model.specs.History.{History}
use Rattle.device_model.specs.Mode.{DeviceFormat}
use Rattle.device_model.specs.Progress.{Working, DeviceState, Event, Take, Replied, in_flight, event_result, after_event, after_events, answers}
use Rattle.device_model.specs.Request.{Asked, Finished, Taken, is_unfinished, is_over, held_by, asked_of, returned_by, Request}
use Rattle.device_model.specs.RequestLaws.{requests_of}
use Rattle.device_model.specs.Script.{last_answer, turn_events, turns_left}
use Rattle.device_model.proofs.EventLemmas.{IsServing, IsServing-event}
use Rattle.device_model.proofs.FinishLemmas.{turns_left-turn}
use Rattle.device_model.proofs.RequestLemmas.{slice_get-set_same, slice_get-set_other}
use Rattle.nbd_model.specs.Stream.{Message}
use Rattle.nbd_model.specs.Session.{Deed, Does, Flying, Moment, Part, no_deeds, with_deeds, answer_bytes, is_done, with_flying, taken_of, serve_each, round, rounds, until, turns_of}
use Rattle.nbd_model.specs.Deeds.{events_in, numbers_in}
use Rattle.nbd_model.specs.SessionLaws.{is_flushing, IsReply, Answers, AreReplies, times, numbers_of, ServesAll, AreWhole, asked_by}
use Rattle.nbd_model.proofs.DeedLemmas.{events_in-does, numbers_in-does, times-deeds, state-append, AreReplies-append, AreReplies-does}
use Rattle.nbd_model.proofs.TurnLemmas.{Leaves, Same, Goes, Ends, TurnLeaves, turn_leaves, take_leaves}
use Rattle.nbd_model.proofs.SubmittedLemmas.{fresh, requests_of-set}
use Rattle.nbd_model.proofs.FlyingLemmas.{IsAt, at_on, AreFlying, AreFlying-same, AreFlying-low, Holds, Holds-high, Covers, turns_in, turns_in-same, IsFree, first_is_free, count-le}

module _ (f : DeviceFormat) (base : ℕ → Cell) (all : List Message) where
  -- ---- what a part of a session keeps

  -- The device's list is what the messages that were taken ask, where it serves all.
  abbrev pub Listed : Moment → Type 0
  Listed m = ServesAll f → AreWhole all → requests_of m.state.progress.requests ≡ asked_by f (take m.taken all)

  -- What is true behind a part of a session that begins at this moment.
  pub record Keeps (m : Moment) (p : Part) : Type 0 where
    pub works : p.behind.state.condition ≡ Working
    pub serving : IsServing f base p.behind.state
    pub flying : AreFlying f all p.behind.state 0 p.behind.flying
    pub state : p.behind.state ≡ after_events f m.state (events_in p.deeds)
    pub replies : AreReplies f all m.state p.deeds
    pub once : (n : ℕ) → times n (numbers_in p.deeds) + numbers_of p.behind.flying n + fresh m.taken n ≤ numbers_of m.flying n + fresh p.behind.taken n
    pub covers : Covers f all p.behind.state 0 p.behind.flying
    pub listed : Listed p.behind

  -- What is true at a moment.
  pub record Stands (m : Moment) : Type 0 where
    pub works : m.state.condition ≡ Working
    pub serving : IsServing f base m.state
    pub flying : AreFlying f all m.state 0 m.flying
    pub covers : Covers f all m.state 0 m.flying
    pub listed : Listed m

  -- What a part keeps is true behind it.
  pub Stands-behind : (m : Moment) (p : Part) → Keeps m p → Stands p.behind
  Stands-behind m p k = record { works = k.works; serving = k.serving; flying = k.flying; covers = k.covers; listed = k.listed }

  -- No deeds keep all,
  pub Keeps-none : (m : Moment) → Stands m → Keeps m (no_deeds m)
  Keeps-none m st = record { works = st.works; serving = st.serving; flying = st.flying; state = refl; replies = tt; once = λ n. omega arith; covers = st.covers; listed = st.listed }

  -- and so do two parts, one behind the other.
  pub Keeps-both : (m : Moment) (p q : Part) → Keeps m p → Keeps p.behind q → Keeps m (with_deeds p.deeds q)
  Keeps-both m p q one other = record {
    works = other.works;
    serving = other.serving;
    flying = other.flying;
    state = other.state ∙ ap (λ (s : DeviceState). after_events f s (events_in q.deeds)) one.state ∙ sym (state-append f m.state p.deeds q.deeds);
    replies = AreReplies-append f all m.state p.deeds q.deeds one.replies (subst (λ (s : DeviceState). AreReplies f all s q.deeds) one.state other.replies);
    once = λ n.
        let first = one.once n in
        let second = other.once n in
        let both = times-deeds n p.deeds q.deeds in
        omega (arith, first, second, both);
    covers = other.covers;
    listed = other.listed;
  }

  -- ---- a round

  -- What is true behind a service of each of some requests in flight, those from a ticket on.
  pub record Served (s : DeviceState) (low taken : ℕ) (flying : List Flying) (p : Part) : Type 0 where
    pub works : p.behind.state.condition ≡ Working
    pub serving : IsServing f base p.behind.state
    pub flying_ : AreFlying f all p.behind.state low p.behind.flying
    pub others : (i : ℕ) → suc i < low → slice_get p.behind.state.progress.requests i ≡ slice_get s.progress.requests i
    pub state : p.behind.state ≡ after_events f s (events_in p.deeds)
    pub replies : AreReplies f all s p.deeds
    pub once : (n : ℕ) → times n (numbers_in p.deeds) + numbers_of p.behind.flying n ≡ numbers_of flying n
    pub taken_is : p.behind.taken ≡ taken
    pub covers : Covers f all s low flying → Covers f all p.behind.state low p.behind.flying
    pub order : requests_of p.behind.state.progress.requests ≡ requests_of s.progress.requests
    pub less : turns_in f all p.behind.state p.behind.flying ≤ turns_in f all s flying
    pub fewer : 1 ≤ f.sections → IsFree f all s flying → turns_in f all p.behind.state p.behind.flying < turns_in f all s flying

  module _ (taken : ℕ) (s : DeviceState) (low number cookie place : ℕ) (flying : List Flying) (works : s.condition ≡ Working) (serving : IsServing f base s)
      (high : low ≤ suc place) (at : IsAt f all s number cookie place) (are : AreFlying f all s (suc (suc place)) flying)
      (again : (t : DeviceState) → t.condition ≡ Working → IsServing f base t → AreFlying f all t (suc (suc place)) flying
      → Served t (suc (suc place)) taken flying (serve_each f taken t flying)) where
    abbrev r : Flying
    r = record { number = number; ticket = suc place; cookie = cookie }

    abbrev events : List Event
    events = turn_events f (suc place) s

    abbrev served : DeviceState
    served = after_events f s events

    abbrev does : List Deed
    does = map (λ (event : Event). Does event) events

    abbrev by_done : Bool → Part
    by_done done = elim done [
      | true ↦ with_deeds (does ++ taken_of f r served) (serve_each f taken (after_event f served (Take (suc place))) flying)
      | false ↦ with_deeds does (with_flying r (serve_each f taken served flying))
    ]

    turn : TurnLeaves f base place at.asked s
    turn = turn_leaves f base place at.asked s works serving at.there at.unfinished

    state_does : after_events f s (events_in does) ≡ served
    state_does = ap (after_events f s) (events_in-does events)

    -- It stays in flight, with this on the device's list.
    goes_on : (b : Asked) → slice_get served.progress.requests place ≡ Some b → b.request ≡ at.asked.request → is_unfinished b.state ≡ true
        → ((i : ℕ) → i ≢ place → slice_get served.progress.requests i ≡ slice_get s.progress.requests i)
        → turns_left (slice_get served.progress.requests place) ≤ turns_left (slice_get s.progress.requests place)
        → (1 ≤ f.sections → held_by s.progress.requests place at.asked.request ≡ None → turns_left (slice_get served.progress.requests place) < turns_left (slice_get s.progress.requests place))
        → requests_of served.progress.requests ≡ requests_of s.progress.requests
        → Served s low taken (r ∷ flying) (by_done false)
    goes_on b is same more others left fewer_left listed =
        let next = AreFlying-same f all s served (suc (suc place)) flying listed (λ i above. others i (omega (arith, above))) are in
        let rest = again served turn.works turn.serving next in
        let p = serve_each f taken served flying in
        record {
          works = rest.works;
          serving = rest.serving;
          flying_ = (
            high,
            record {
              place = place;
              ticket = refl;
              at = at_on f all s p.behind.state number cookie place at b (ap (λ (l : List Request). take place l) (rest.order ∙ listed)) (rest.others place (omega arith) ∙ is) same more;
            },
            rest.flying_,
          );
          others = λ i below. rest.others i (omega (arith, below, high)) ∙ others i (omega (arith, below, high));
          state = rest.state ∙ ap (λ (t : DeviceState). after_events f t (events_in p.deeds)) (sym state_does) ∙ sym (state-append f s does p.deeds);
          replies = AreReplies-append f all s does p.deeds (AreReplies-does f all s events) (subst (λ (t : DeviceState). AreReplies f all t p.deeds) (sym state_does) rest.replies);
          once = λ n.
              let none = ap (times n) (numbers_in-does events) in
              let both = times-deeds n does p.deeds in
              let later = rest.once n in
              omega (arith, none, both, later);
          taken_is = rest.taken_is;
          covers = λ covers i a above there not_over. elim (cases_order i place) [
            | inl here ↦ inl (ap suc (sym here))
            | inr apart ↦ elim apart [
              | inl below ↦
                  let before = sym (rest.others i (omega (arith, below)) ∙ others i (omega (arith, below))) ∙ there in
                  elim (covers i a above before not_over) [
                    | inl same_ ↦ absurd (omega (arith, same_, below))
                    | inr later ↦ absurd (omega (arith, Holds-high f all s (suc (suc place)) i flying are later, below))
                  ]
              | inr later ↦
                  inr (rest.covers (λ j x high_ there_ open_. elim (covers j x (omega (arith, high_, high)) (sym (others j (omega (arith, high_))) ∙ there_) open_) [
                    | inl same_ ↦ absurd (omega (arith, same_, high_))
                    | inr more_ ↦ more_
                  ]) i a (omega (arith, later)) there not_over)
            ]
          ];
          order = rest.order ∙ listed;
          less =
              let kept = ap turns_left (rest.others place (omega arith)) in
              let tail = turns_in-same f all s served (suc (suc place)) flying (λ i above. others i (omega (arith, above))) are in
              let least = rest.less in
              omega (arith, left, kept, tail, least);
          fewer = λ some free.
              let now = fewer_left some (free place at.asked refl at.there) in
              let kept = ap turns_left (rest.others place (omega arith)) in
              let tail = turns_in-same f all s served (suc (suc place)) flying (λ i above. others i (omega (arith, above))) are in
              let least = rest.less in
              omega (arith, now, kept, tail, least);
        }

    -- It is done, and its reply is taken.
    ends : is_done (last_answer (answers f s events)) ≡ true → (b : Asked) → slice_get served.progress.requests place ≡ Some b → b.request ≡ at.asked.request → b.state ≡ Finished
        → ((i : ℕ) → i ≢ place → slice_get served.progress.requests i ≡ slice_get s.progress.requests i)
        → requests_of served.progress.requests ≡ requests_of s.progress.requests
        → Served s low taken (r ∷ flying) (by_done true)
    ends last b is same over others listed =
        let took = take_leaves f place b served turn.works is over in
        let t = after_event f served (Take (suc place)) in
        let done : Asked = record b { state = Taken } in
        let kept : (i : ℕ) → i ≢ place → slice_get t.progress.requests i ≡ slice_get s.progress.requests i =
        λ i other. ap (λ (l : List Asked). slice_get l i) took.requests ∙ slice_get-set_other served.progress.requests place i done other ∙ others i other in
        let now_listed : requests_of t.progress.requests ≡ requests_of s.progress.requests = ap requests_of took.requests ∙ requests_of-set served.progress.requests place b done is refl ∙ listed in
        let next = AreFlying-same f all s t (suc (suc place)) flying now_listed (λ i above. kept i (omega (arith, above))) are in
        let rest = again t turn.works (IsServing-event f base served (Take (suc place)) turn.serving) next in
        let p = serve_each f taken t flying in
        let replied = taken_of f r served in
        let front = does ++ replied in
        let behind : after_events f s (events_in front) ≡ t = state-append f s does replied ∙ ap (λ (u : DeviceState). after_event f u (Take (suc place))) state_does in
        let reply : IsReply f all t number (answer_bytes cookie (event_result f served (Take (suc place))).answer) =
        Answers at.message at.is at.submission at.asks place done
        (ap (λ (l : List Asked). slice_get l place) took.requests ∙ slice_get-set_same served.progress.requests place b done is)
        (same ∙ at.request) (λ all_served whole. ap (λ (l : List Request). take place l) now_listed ∙ at.before all_served whole) refl
        (λ flushing. subst (λ (h : History). h.flushed ≡ length h.writes) (sym took.history) (turn.flushes (ap is_flushing (sym same) ∙ flushing) last))
        (ap (answer_bytes cookie) took.answer ∙ ap (λ (c : ℕ). answer_bytes c (Replied b.request b.reply (returned_by b.request b.reply b.got b.given))) at.cookie_is) in
        let own : AreReplies f all served replied = (reply, tt) in
        record {
          works = rest.works;
          serving = rest.serving;
          flying_ = AreFlying-low f all p.behind.state (suc (suc place)) low p.behind.flying (omega (arith, high)) rest.flying_;
          others = λ i below. rest.others i (omega (arith, below, high)) ∙ kept i (omega (arith, below, high));
          state = rest.state ∙ ap (λ (u : DeviceState). after_events f u (events_in p.deeds)) (sym behind) ∙ sym (state-append f s front p.deeds);
          replies = AreReplies-append f all s front p.deeds
              (AreReplies-append f all s does replied (AreReplies-does f all s events) (subst (λ (u : DeviceState). AreReplies f all u replied) (sym state_does) own))
              (subst (λ (u : DeviceState). AreReplies f all u p.deeds) (sym behind) rest.replies);
          once = λ n.
              let none = ap (times n) (numbers_in-does events) in
              let first = times-deeds n does replied in
              let both = times-deeds n front p.deeds in
              let later = rest.once n in
              omega (arith, none, first, both, later);
          taken_is = rest.taken_is;
          covers = λ covers i a above there not_over. elim (cases_order i place) [
            | inl here ↦
                let now : slice_get t.progress.requests place ≡ Some done = ap (λ (l : List Asked). slice_get l place) took.requests ∙ slice_get-set_same served.progress.requests place b done is in
                let same_ : done ≡ a = same_Some done a (sym (rest.others place (omega arith) ∙ now) ∙ ap (slice_get p.behind.state.progress.requests) (sym here) ∙ there) in
                absurd (false≢true (sym not_over ∙ ap (λ (x : Asked). is_over x.state) (sym same_)))
            | inr apart ↦ elim apart [
              | inl below ↦
                  let before = sym (rest.others i (omega (arith, below)) ∙ kept i (omega (arith, below))) ∙ there in
                  elim (covers i a above before not_over) [
                    | inl same_ ↦ absurd (omega (arith, same_, below))
                    | inr later ↦ absurd (omega (arith, Holds-high f all s (suc (suc place)) i flying are later, below))
                  ]
              | inr later ↦
                  rest.covers (λ j x high_ there_ open_. elim (covers j x (omega (arith, high_, high)) (sym (kept j (omega (arith, high_))) ∙ there_) open_) [
                    | inl same_ ↦ absurd (omega (arith, same_, high_))
                    | inr more_ ↦ more_
                  ]) i a (omega (arith, later)) there not_over
            ]
          ];
          order = rest.order ∙ now_listed;
          less =
              let tail = turns_in-same f all s t (suc (suc place)) flying (λ i above. kept i (omega (arith, above))) are in
              let least = rest.less in
              omega (arith, tail, least);
          fewer = λ some free.
              let one : 1 ≤ turns_left (slice_get s.progress.requests place) = subst (λ (x : Option Asked). 1 ≤ turns_left x) (sym at.there) (omega arith) in
              let tail = turns_in-same f all s t (suc (suc place)) flying (λ i above. kept i (omega (arith, above))) are in
              let least = rest.less in
              omega (arith, one, tail, least);
        }

    serve_one : Served s low taken (r ∷ flying) (serve_each f taken s (r ∷ flying))
    serve_one = by turn.leaves
      where
        by : Leaves place at.asked s.progress.requests served.progress.requests (last_answer (answers f s events)) → Served s low taken (r ∷ flying) (serve_each f taken s (r ∷ flying))
        by (Same same done did) =
            subst (λ (d : Bool). Served s low taken (r ∷ flying) (by_done d)) (sym done)
            (goes_on at.asked (ap (λ (l : List Asked). slice_get l place) same ∙ at.there) refl at.unfinished (λ i other. ap (λ (l : List Asked). slice_get l i) same)
            (let equal = ap (λ (l : List Asked). turns_left (slice_get l place)) same in omega (arith, equal))
            (λ some unheld. absurd (turn.moves some unheld did done))
            (ap requests_of same))
        by (Goes b same request more done did) =
            subst (λ (d : Bool). Served s low taken (r ∷ flying) (by_done d)) (sym done)
            (goes_on b (ap (λ (l : List Asked). slice_get l place) same ∙ slice_get-set_same s.progress.requests place at.asked b at.there) request (ap is_unfinished more)
            (λ i other. ap (λ (l : List Asked). slice_get l i) same ∙ slice_get-set_other s.progress.requests place i b other)
            (let fewer = (turns_left-turn f base s place at.asked serving at.there at.unfinished did).1 in omega (arith, fewer))
            (λ some unheld. let fewer = (turns_left-turn f base s place at.asked serving at.there at.unfinished did).1 in omega (arith, fewer))
            (ap requests_of same ∙ requests_of-set s.progress.requests place at.asked b at.there request))
        by (Ends b same request over done) =
            subst (λ (d : Bool). Served s low taken (r ∷ flying) (by_done d)) (sym done)
            (ends done b (ap (λ (l : List Asked). slice_get l place) same ∙ slice_get-set_same s.progress.requests place at.asked b at.there) request over
            (λ i other. ap (λ (l : List Asked). slice_get l i) same ∙ slice_get-set_other s.progress.requests place i b other)
            (ap requests_of same ∙ requests_of-set s.progress.requests place at.asked b at.there request))

  -- So it is behind the service of each.
  pub serve_all : (taken : ℕ) (s : DeviceState) (low : ℕ) (flying : List Flying) → s.condition ≡ Working → IsServing f base s → AreFlying f all s low flying
      → Served s low taken flying (serve_each f taken s flying)
  serve_all taken s low [] works serving are = record {
    works = works;
    serving = serving;
    flying_ = tt;
    others = λ i below. refl;
    state = refl;
    replies = tt;
    once = λ n. refl;
    taken_is = refl;
    covers = λ covers. covers;
    order = refl;
    less = omega arith;
    fewer = λ some free. absurd free;
  }
  serve_all taken s low (r ∷ flying) works serving are =
      let is = are.1 in
      let whole : r ≡ record { number = r.number; ticket = suc is.place; cookie = r.cookie } = ap (λ (t : ℕ). record { number = r.number; ticket = t; cookie = r.cookie }) is.ticket in
      let later = subst (λ (t : ℕ). AreFlying f all s (suc t) flying) is.ticket are.2 in
      subst (λ (q : Flying). Served s low taken (q ∷ flying) (serve_each f taken s (q ∷ flying))) (sym whole)
      (serve_one taken s low r.number r.cookie is.place flying works serving (subst (λ (t : ℕ). low ≤ t) is.ticket are.0) is.at later
      (λ t w sv fl. serve_all taken t (suc (suc is.place)) flying w sv fl))

  -- A round keeps all,
  pub round-keeps : (m : Moment) → Stands m → Keeps m (round f m)
  round-keeps m st =
      let is = serve_all m.taken m.state 0 m.flying st.works st.serving st.flying in
      record {
        works = is.works;
        serving = is.serving;
        flying = is.flying_;
        state = is.state;
        replies = is.replies;
        once = λ n.
            let same = is.once n in
            let kept = ap (λ (k : ℕ). fresh k n) is.taken_is in
            omega (arith, same, kept);
        covers = is.covers st.covers;
        listed = λ serves whole. is.order ∙ st.listed serves whole ∙ ap (λ (k : ℕ). asked_by f (take k all)) (sym is.taken_is);
      }

  -- and so do some.
  pub rounds-keep : (most n : ℕ) (m : Moment) → Stands m → Keeps m (rounds f most n m)
  rounds-keep most zero m st = Keeps-none m st
  rounds-keep most (suc n) m st =
      let first = round f m in
      let one = round-keeps m st in
      let rest = rounds-keep most n first.behind (Stands-behind m first one) in
      by (leb (length m.flying) most) (Keeps-both m first (rounds f most n first.behind) one rest)
    where
      by : (b : Bool) → Keeps m (with_deeds (round f m).deeds (rounds f most n (round f m).behind))
          → Keeps m (elim b [ true ↦ no_deeds m | false ↦ with_deeds (round f m).deeds (rounds f most n (round f m).behind) ])
      by true more = Keeps-none m st
      by false more = more

  -- ---- how many are taken

  -- Rounds take no request of the stream.
  pub taken-rounds : (most n : ℕ) (m : Moment) → (rounds f most n m).behind.taken ≡ m.taken
  taken-rounds most zero m = refl
  taken-rounds most (suc n) m = by (leb (length m.flying) most) (taken-rounds most n (round f m).behind ∙ taken-each m.taken m.state m.flying)
    where
      by : (b : Bool) → (rounds f most n (round f m).behind).behind.taken ≡ m.taken
          → (elim b as (λ x. Part) [ true ↦ no_deeds m | false ↦ with_deeds (round f m).deeds (rounds f most n (round f m).behind) ]).behind.taken ≡ m.taken
      by true more = refl
      by false more = more

      taken-each : (taken : ℕ) (s : DeviceState) (flying : List Flying) → (serve_each f taken s flying).behind.taken ≡ taken
      taken-each taken s [] = refl
      taken-each taken s (r ∷ flying) =
          let events = turn_events f r.ticket s in
          let served = after_events f s events in
          go (is_done (last_answer (answers f s events))) (taken-each taken (after_event f served (Take r.ticket)) flying) (taken-each taken served flying)
        where
          go : (d : Bool) → (serve_each f taken (after_event f (after_events f s (turn_events f r.ticket s)) (Take r.ticket)) flying).behind.taken ≡ taken
              → (serve_each f taken (after_events f s (turn_events f r.ticket s)) flying).behind.taken ≡ taken
              → (elim d as (λ x. Part) [
                | true ↦ with_deeds (map (λ (event : Event). Does event) (turn_events f r.ticket s) ++ taken_of f r (after_events f s (turn_events f r.ticket s)))
                    (serve_each f taken (after_event f (after_events f s (turn_events f r.ticket s)) (Take r.ticket)) flying)
                | false ↦ with_deeds (map (λ (event : Event). Does event) (turn_events f r.ticket s)) (with_flying r (serve_each f taken (after_events f s (turn_events f r.ticket s)) flying))
              ]).behind.taken ≡ taken
          go true one other = one
          go false one other = other

  -- ---- rounds come to their end

  length-turns : (s : DeviceState) (low : ℕ) (flying : List Flying) → AreFlying f all s low flying → length flying ≤ turns_in f all s flying
  length-turns s low [] are = omega arith
  length-turns s low (r ∷ flying) are =
      let is = are.1 in
      let some : 1 ≤ turns_left (asked_of s.progress.requests r.ticket) =
      subst (λ (k : ℕ). 1 ≤ turns_left (asked_of s.progress.requests k)) (sym is.ticket) (subst (λ (x : Option Asked). 1 ≤ turns_left x) (sym is.at.there) (omega arith)) in
      let rest = length-turns s (suc r.ticket) flying are.2 in
      omega (arith, some, rest)

  free_of : (s : DeviceState) (flying : List Flying) → 0 < length flying → AreFlying f all s 0 flying → Covers f all s 0 flying → IsFree f all s flying
  free_of s [] some are covers = absurd (omega (arith, some))
  free_of s (r ∷ flying) some are covers = first_is_free f all s r flying are covers

  turns-of : (s : DeviceState) (flying : List Flying) → sum_by (λ (r : Flying). turns_left (asked_of s.progress.requests r.ticket)) flying ≡ turns_in f all s flying
  turns-of s [] = refl
  turns-of s (r ∷ flying) = sum_by-cons (λ (q : Flying). turns_left (asked_of s.progress.requests q.ticket)) r flying ∙ ap (λ (n : ℕ). turns_left (asked_of s.progress.requests r.ticket) + n) (turns-of s flying)

  rounds-end : 1 ≤ f.sections → (most n : ℕ) (m : Moment) → Stands m → turns_in f all m.state m.flying ≤ n → length (rounds f most n m).behind.flying ≤ most
  rounds-end some most zero m st low =
      let size = length-turns m.state 0 m.flying st.flying in
      omega (arith, size, low)
  rounds-end some most (suc n) m st low =
      by (leb (length m.flying) most) refl (λ less. rounds-end some most n (round f m).behind (Stands-behind m (round f m) (round-keeps m st)) less)
    where
      by : (b : Bool) → leb (length m.flying) most ≡ b
          → (turns_in f all (round f m).behind.state (round f m).behind.flying ≤ n → length (rounds f most n (round f m).behind).behind.flying ≤ most)
          → length (elim b as (λ x. Part) [ true ↦ no_deeds m | false ↦ with_deeds (round f m).deeds (rounds f most n (round f m).behind) ]).behind.flying ≤ most
      by true few again = leb-true (length m.flying) most few
      by false many again =
          let one = serve_all m.taken m.state 0 m.flying st.works st.serving st.flying in
          let there : 0 < length m.flying = omega (arith, leb-false (length m.flying) most many) in
          let fewer = one.fewer some (free_of m.state m.flying there st.flying st.covers) in
          again (omega (arith, fewer, low))

  -- with as few in flight as is asked.
  pub until-ends : 1 ≤ f.sections → (most : ℕ) (m : Moment) → Stands m → length (until f most m).behind.flying ≤ most
  until-ends some most m st = rounds-end some most (turns_of m) m st (let same = turns-of m.state m.flying in omega (arith, same))

  -- There are no more in flight on the device's list than in the session.
  pub in_flight-le : (m : Moment) → Stands m → in_flight m.state.progress.requests ≤ length m.flying
  in_flight-le m st = count-le f all m.state 0 0 m.state.progress.requests m.flying st.flying (λ i a there open_. subst (λ (k : ℕ). Holds f all k m.flying) (zero_first i) (st.covers i a (omega arith) there open_))
    where
      zero_first : (i : ℕ) → i ≡ 0 + i
      zero_first i = omega arith
