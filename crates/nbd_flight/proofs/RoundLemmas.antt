-- A round, and rounds one after the other, as far as they have come.
use Rattle.std.proofs.Common.{◌≡◌, ◌⊎◌, inl, inr, ℕ, suc, ◌+◌, ◌-◌, ◌^◌, ◌<◌, ◌≤◌, Bool, true, false, List, [], ◌∷◌, ◌++◌, length, refl, sym, ◌∙◌, ap, subst, arith, append-nil, append_assoc, length-append, zero-add}
use Rattle.std.specs.Prelude.{leb}
use Rattle.std.specs.List.{remove}
use Rattle.std.proofs.lemmas.Bool.{cases_Bool, leb-true}
use Rattle.device_model.specs.Mode.{DeviceFormat}
use Rattle.device_model.specs.Progress.{DeviceState, Event, Take, after_event, after_events, answers}
use Rattle.device_model.specs.Script.{last_answer, turn_events}
use Rattle.device_parts.specs.declared.condition.Condition.TheVariants as Conditions
use Rattle.device_parts.specs.Device.{Standing}
use Rattle.device.specs.Device.{IsDevice}
use Rattle.nbd_model.specs.Session.{Deed, Flying, Moment, Part, is_done, no_deeds, rounds, serve_each, taken_of, with_deeds, with_flying}
use Rattle.nbd_model.specs.Deeds.{events_in}
use Rattle.nbd_model.proofs.DeedLemmas.{events_in-does, state-append}
use Rattle.nbd_flight.specs.declared.stop.Stop.{Stop}
use Rattle.nbd_flight.specs.declared.flight.Flight.{Flight}
use Rattle.nbd_flight.specs.declared.flight.Waiting.{Waiting}
use Rattle.nbd_flight.specs.declared.rounds.Turn.{Turn}
use Rattle.nbd_flight.specs.declared.rounds.Turn.TheVariants.{Waits, Over}
use Rattle.nbd_flight.specs.Deeds.{HasDone, HasStopped, Scene, behind, calls_of}
use Rattle.nbd_flight.specs.Flight.{AreThose, flying_of}
use Rattle.nbd_flight.specs.Rounds.{CountsDamage, HasMade, HasMadeRounds, HasServed, HasStoppedRounds, moment_of, one_round, one_service, places_behind, waiting_after}
use Rattle.nbd_flight.proofs.DeedLemmas.{behind-append, done_none, done_then, stopped_then, stopped_wider}
use Rattle.nbd_flight.proofs.FlightLemmas.{remove-split}
use Rattle.nbd_flight.proofs.ServiceLemmas.{damage_then, or_false}

-- ---- parts

-- With some requests in flight before the others.
abbrev pub with_kept : List Flying → Part → Part
with_kept kept p = record p { behind = record p.behind { flying = kept ++ p.behind.flying } }

regroup : (a b : List Deed) (k j : List Flying) (q : Part)
    → with_deeds a (with_kept k (with_deeds b (with_kept j q))) ≡ with_deeds (a ++ b) (with_kept (k ++ j) q)
regroup a b k j q =
    ap (λ (l : List Deed). record { deeds = l; behind = record q.behind { flying = k ++ (j ++ q.behind.flying) } }) (sym (append_assoc a b q.deeds))
    ∙ ap (λ (l : List Flying). record { deeds = (a ++ b) ++ q.deeds; behind = record q.behind { flying = l } }) (sym (append_assoc k j q.behind.flying))

with_deeds-with_deeds : (a b : List Deed) (q : Part) → with_deeds a (with_deeds b q) ≡ with_deeds (a ++ b) q
with_deeds-with_deeds a b q = ap (λ (l : List Deed). record q { deeds = l }) (sym (append_assoc a b q.deeds))

with_deeds-none : (p : Part) → with_deeds p.deeds (no_deeds p.behind) ≡ p
with_deeds-none p = ap (λ (l : List Deed). record p { deeds = l }) (append-nil p.deeds)

module _ (f : DeviceFormat) (taken : ℕ) (s : DeviceState) (r : Flying) where
  abbrev events : List Event
  events = turn_events f r.ticket s

  abbrev served : DeviceState
  served = after_events f s events

  abbrev calls : List Deed
  calls = calls_of events

  abbrev replied : List Deed
  replied = taken_of f r served

  abbrev next : DeviceState
  next = after_event f served (Take r.ticket)

  abbrev by_done : List Flying → Bool → Part
  by_done flying done = elim done [
    | true ↦ with_deeds (calls ++ replied) (serve_each f taken next flying)
    | false ↦ with_deeds calls (with_flying r (serve_each f taken served flying))
  ]

  abbrev one : Part
  one = serve_each f taken s (r ∷ [])

  -- One is served, and then the others.
  pub serve_each-cons : (flying : List Flying)
      → serve_each f taken s (r ∷ flying) ≡ with_deeds one.deeds (with_kept one.behind.flying (serve_each f taken one.behind.state flying))
  serve_each-cons flying = by (is_done (last_answer (answers f s events)))
    where
      by : (done : Bool) → by_done flying done
          ≡ with_deeds (by_done [] done).deeds (with_kept (by_done [] done).behind.flying (serve_each f taken (by_done [] done).behind.state flying))
      by true = ap (λ (l : List Deed). with_deeds l (serve_each f taken next flying)) (sym (append-nil (calls ++ replied)))
      by false = ap (λ (l : List Deed). with_deeds l (with_flying r (serve_each f taken served flying))) (sym (append-nil calls))

  -- The device behind it is the one after its events.
  pub one_state : one.behind.state ≡ after_events f s (events_in one.deeds)
  one_state = by (is_done (last_answer (answers f s events)))
    where
      by : (done : Bool) → (by_done [] done).behind.state ≡ after_events f s (events_in (by_done [] done).deeds)
      by true =
          sym (ap (λ (l : List Deed). after_events f s (events_in l)) (append-nil (calls ++ replied))
          ∙ state-append f s calls replied ∙ ap (λ (l : List Event). after_event f (after_events f s l) (Take r.ticket)) (events_in-does events))
      by false = sym (ap (λ (l : List Deed). after_events f s (events_in l)) (append-nil calls) ∙ ap (after_events f s) (events_in-does events))

-- ---- requests in flight

pub those-length : (waiting : List Waiting) (flying : List Flying) → AreThose waiting flying → length flying ≡ length waiting
those-length [] [] are = refl
those-length [] (r ∷ flying) are = absurd are
those-length (own ∷ waiting) [] are = absurd are
those-length (own ∷ waiting) (r ∷ flying) are = ap suc (those-length waiting flying are.1)

pub those-append : (a b : List Waiting) (k j : List Flying) → AreThose a k → AreThose b j → AreThose (a ++ b) (k ++ j)
those-append [] b [] j first second = second
those-append [] b (r ∷ k) j first second = absurd first
those-append (own ∷ a) b [] j first second = absurd first
those-append (own ∷ a) b (r ∷ k) j first second = (first.0, those-append a b k j first.1 second)

-- ---- on the way through a round

-- The first of some requests in flight are served, and these stay; the others are ahead.
pub record IsOnRound (w : Standing) (taken : ℕ) (flying : List Flying) (at : ℕ) (x y : Flight) (old new : Scene) : Type 0 where
  pub deeds : List Deed
  pub kept : List Flying
  pub rest : List Flying
  pub whole : serve_each w.format taken w.state flying
      ≡ with_deeds deeds (with_kept kept (serve_each w.format taken (behind w deeds).state rest))
  pub done : HasDone w deeds old new
  pub before : List Waiting
  pub ahead : List Waiting
  pub is : y.waiting.items ≡ before ++ ahead
  pub place : length before ≡ at
  pub stay : AreThose before kept
  pub others : AreThose ahead rest
  pub damage : CountsDamage deeds x y

pub round_begins : (w : Standing) (taken : ℕ) (flying : List Flying) (x : Flight) (old : Scene)
    → IsDevice w Conditions.Working old.parts old.moments → AreThose x.waiting.items flying → IsOnRound w taken flying 0 x x old old
round_begins w taken flying x old is are = record {
  deeds = [];
  kept = [];
  rest = flying;
  whole = refl;
  done = done_none w old is;
  before = [];
  ahead = x.waiting.items;
  is = refl;
  place = refl;
  stay = tt;
  others = are;
  damage = sym (or_false x.eio);
}

-- The next one, where there is one.
pub record HasNext (waiting : List Waiting) (before ahead : List Waiting) (rest : List Flying) : Type 0 where
  pub own : Waiting
  pub more : List Waiting
  pub r : Flying
  pub later : List Flying
  pub ahead_is : ahead ≡ own ∷ more
  pub rest_is : rest ≡ r ∷ later
  pub own_is : r ≡ flying_of r.number own
  pub others : AreThose more later

next_by : (waiting before ahead : List Waiting) (rest : List Flying) → waiting ≡ before ++ ahead → length before < length waiting
    → AreThose ahead rest → HasNext waiting before ahead rest
next_by waiting before [] [] is low are =
    let size = ap length is in absurd (omega (arith, low, size, length-append before []))
next_by waiting before [] (r ∷ rest) is low are = absurd are
next_by waiting before (own ∷ more) [] is low are = absurd are
next_by waiting before (own ∷ more) (r ∷ rest) is low are = record {
  own = own;
  more = more;
  r = r;
  later = rest;
  ahead_is = refl;
  rest_is = refl;
  own_is = are.0;
  others = are.1;
}

module _ (w : Standing) (taken : ℕ) (flying : List Flying) (at : ℕ) (x y : Flight) (old mid : Scene) (way : IsOnRound w taken flying at x y old mid)
    (low : at < length y.waiting.items) where
  pub ahead : HasNext y.waiting.items way.before way.ahead way.rest
  ahead = next_by y.waiting.items way.before way.ahead way.rest way.is (let place = way.place in omega (arith, low, place)) way.others

  pub split : y.waiting.items ≡ way.before ++ ahead.own ∷ ahead.more
  split = way.is ∙ ap (λ (l : List Waiting). way.before ++ l) ahead.ahead_is

  abbrev pub here : Standing
  here = behind w way.deeds

  abbrev pub own_flying : Flying
  own_flying = flying_of ahead.r.number ahead.own

  abbrev service : Part
  service = one_service here taken own_flying

  -- All of the round, by what is served next.
  turn-is : serve_each w.format taken w.state flying
      ≡ with_deeds (way.deeds ++ service.deeds) (with_kept (way.kept ++ service.behind.flying) (serve_each w.format taken (behind w (way.deeds ++ service.deeds)).state ahead.later))
  turn-is =
      let f = w.format in
      way.whole
      ∙ ap (λ (l : List Flying). with_deeds way.deeds (with_kept way.kept (serve_each f taken here.state l))) (ahead.rest_is ∙ ap (λ (r : Flying). r ∷ ahead.later) ahead.own_is)
      ∙ ap (λ (p : Part). with_deeds way.deeds (with_kept way.kept p)) (serve_each-cons f taken here.state own_flying ahead.later)
      ∙ regroup way.deeds service.deeds way.kept service.behind.flying (serve_each f taken service.behind.state ahead.later)
      ∙ ap (λ (s : DeviceState). with_deeds (way.deeds ++ service.deeds) (with_kept (way.kept ++ service.behind.flying) (serve_each f taken s ahead.later)))
      (one_state f taken here.state own_flying ∙ sym (ap (λ (u : Standing). u.state) (behind-append w way.deeds service.deeds)))

  -- One more is served,
  pub round_goes : (turn : Turn) (z : Flight) (new : Scene) → HasServed here taken own_flying turn y z mid new
      → z.waiting.items ≡ waiting_after turn at y.waiting.items → IsOnRound w taken flying (at + places_behind turn) x z old new
  round_goes Waits z new served same = record {
    deeds = way.deeds ++ service.deeds;
    kept = way.kept ++ own_flying ∷ [];
    rest = ahead.later;
    whole = turn-is ∙ ap (λ (l : List Flying). with_deeds (way.deeds ++ service.deeds) (with_kept (way.kept ++ l) (serve_each w.format taken (behind w (way.deeds ++ service.deeds)).state ahead.later))) served.left;
    done = done_then w way.deeds service.deeds old mid new way.done served.done;
    before = way.before ++ ahead.own ∷ [];
    ahead = ahead.more;
    is = same ∙ split ∙ sym (append_assoc way.before (ahead.own ∷ []) ahead.more);
    place = let place = way.place in omega (arith, place, length-append way.before (ahead.own ∷ []));
    stay = those-append way.before (ahead.own ∷ []) way.kept (own_flying ∷ []) way.stay (refl, tt);
    others = ahead.others;
    damage = damage_then way.deeds service.deeds x y z way.damage served.damage;
  }
  round_goes Over z new served same = record {
    deeds = way.deeds ++ service.deeds;
    kept = way.kept;
    rest = ahead.later;
    whole = turn-is ∙ ap (λ (l : List Flying). with_deeds (way.deeds ++ service.deeds) (with_kept l (serve_each w.format taken (behind w (way.deeds ++ service.deeds)).state ahead.later)))
        (ap (λ (l : List Flying). way.kept ++ l) served.left ∙ append-nil way.kept);
    done = done_then w way.deeds service.deeds old mid new way.done served.done;
    before = way.before;
    ahead = ahead.more;
    is = same ∙ ap (λ (l : List Waiting). remove l at) split ∙ ap (remove (way.before ++ ahead.own ∷ ahead.more)) (sym way.place) ∙ remove-split way.before ahead.own ahead.more;
    place = let place = way.place in omega (arith, place);
    stay = way.stay;
    others = ahead.others;
    damage = damage_then way.deeds service.deeds x y z way.damage served.damage;
  }

  -- or something stopped it.
  pub round_stopped : (fault : Stop) (new : Scene) → HasStopped here service.deeds fault mid new
      → HasStopped w (serve_each w.format taken w.state flying).deeds fault old new
  round_stopped fault new stopped =
      let more = (serve_each w.format taken (behind w (way.deeds ++ service.deeds)).state ahead.later).deeds in
      subst (λ (p : Part). HasStopped w p.deeds fault old new) (sym turn-is)
      (stopped_wider w (way.deeds ++ service.deeds) more fault old new
      (stopped_then w way.deeds service.deeds fault old mid new way.done stopped))

none_ahead : (waiting before ahead : List Waiting) → waiting ≡ before ++ ahead → length waiting ≤ length before → ahead ≡ []
none_ahead waiting before [] is high = refl
none_ahead waiting before (own ∷ more) is high =
    let size = ap length is in absurd (omega (arith, high, size, length-append before (own ∷ more)))

none_left : (rest : List Flying) → AreThose [] rest → rest ≡ []
none_left [] are = refl
none_left (r ∷ rest) are = absurd are

-- All are served.
pub round_ends : (w : Standing) (taken : ℕ) (flying : List Flying) (at : ℕ) (x y : Flight) (old new : Scene) → IsOnRound w taken flying at x y old new
    → length y.waiting.items ≤ at → HasMade w (one_round w (moment_of w flying taken)) x y old new
round_ends w taken flying at x y old new way high =
    let none = none_ahead y.waiting.items way.before way.ahead way.is (let place = way.place in omega (arith, high, place)) in
    let left = none_left way.rest (subst (λ (l : List Waiting). AreThose l way.rest) none way.others) in
    let whole : serve_each w.format taken w.state flying ≡ with_deeds way.deeds (with_kept way.kept (no_deeds (record { state = (behind w way.deeds).state; flying = []; taken = taken }))) =
    way.whole ∙ ap (λ (l : List Flying). with_deeds way.deeds (with_kept way.kept (serve_each w.format taken (behind w way.deeds).state l))) left in
    let deeds : (serve_each w.format taken w.state flying).deeds ≡ way.deeds = ap (λ (p : Part). p.deeds) whole ∙ append-nil way.deeds in
    record {
      done = subst (λ (l : List Deed). HasDone w l old new) (sym deeds) way.done;
      flying = subst (λ (l : List Flying). AreThose y.waiting.items l) (sym (ap (λ (p : Part). p.behind.flying) whole ∙ append-nil way.kept))
          (subst (λ (l : List Waiting). AreThose l way.kept) (sym (way.is ∙ ap (λ (l : List Waiting). way.before ++ l) none ∙ append-nil way.before)) way.stay);
      damage = subst (λ (l : List Deed). CountsDamage l x y) (sym deeds) way.damage;
    }

-- ---- on the way through rounds

-- So many rounds are made, and the others are those that are to be made then.
pub record IsOnRounds (w : Standing) (most : ℕ) (m : Moment) (count : ℕ) (x y : Flight) (old new : Scene) : Type 0 where
  pub part : Part
  pub whole : (k : ℕ) → rounds w.format most (count + k) m ≡ with_deeds part.deeds (rounds w.format most k part.behind)
  pub state : part.behind.state ≡ (behind w part.deeds).state
  pub made : HasMade w part x y old new

pub rounds_begin : (w : Standing) (most : ℕ) (flying : List Flying) (taken : ℕ) (x : Flight) (old : Scene)
    → IsDevice w Conditions.Working old.parts old.moments → AreThose x.waiting.items flying → IsOnRounds w most (moment_of w flying taken) 0 x x old old
rounds_begin w most flying taken x old is are = record {
  part = no_deeds (moment_of w flying taken);
  whole = λ k. ap (λ (n : ℕ). rounds w.format most n (moment_of w flying taken)) (zero-add k);
  state = refl;
  made = record { done = done_none w old is; flying = are; damage = sym (or_false x.eio) };
}

module _ (w : Standing) (most : ℕ) (m : Moment) (count : ℕ) (x y : Flight) (old mid : Scene) (way : IsOnRounds w most m count x y old mid) where
  abbrev pub now : Standing
  now = behind w way.part.deeds

  -- Few enough are in flight.
  pub rounds_end : (length y.waiting.items ≤ most) ⊎ (count ≡ 2 ^ 64 - 1) → HasMadeRounds w most m x y old mid
  rounds_end ends = record {
    count = count + 0;
    made = subst (λ (p : Part). HasMade w p x y old mid) (sym (way.whole 0 ∙ with_deeds-none way.part)) way.made;
    ends = elim ends [
      | inl few ↦ inl few
      | inr all ↦ inr (omega (arith, all))
    ];
  }

  module _ (many : most < length y.waiting.items) where
    abbrev turn : Part
    turn = one_round now (moment_of now way.part.behind.flying way.part.behind.taken)

    now-is : moment_of now way.part.behind.flying way.part.behind.taken ≡ way.part.behind
    now-is = ap (λ (s : DeviceState). record way.part.behind { state = s }) (sym way.state)

    more-is : (k : ℕ) → rounds w.format most (suc k) way.part.behind ≡ with_deeds turn.deeds (rounds w.format most k turn.behind)
    more-is k =
        let f = w.format in
        let size = those-length y.waiting.items way.part.behind.flying way.made.flying in
        sym (ap (λ (n : Moment). rounds f most (suc k) n) now-is)
        ∙ ap (λ (b : Bool). elim b as (λ o. Part) [ true ↦ no_deeds (moment_of now way.part.behind.flying way.part.behind.taken) | false ↦ with_deeds turn.deeds (rounds f most k turn.behind) ])
        (leb-above (length way.part.behind.flying) most (omega (arith, many, size)))
      where
        leb-above : (a b : ℕ) → b < a → leb a b ≡ false
        leb-above a b high = elim (cases_Bool (leb a b)) [
          | inl low ↦ absurd (omega (arith, high, leb-true a b low))
          | inr above ↦ above
        ]

    whole-more : (k : ℕ) → rounds w.format most ((count + 1) + k) m ≡ with_deeds (way.part.deeds ++ turn.deeds) (rounds w.format most k turn.behind)
    whole-more k =
        ap (λ (n : ℕ). rounds w.format most n m) (shift count k) ∙ way.whole (suc k)
        ∙ ap (with_deeds way.part.deeds) (more-is k) ∙ with_deeds-with_deeds way.part.deeds turn.deeds (rounds w.format most k turn.behind)
      where
        shift : (a b : ℕ) → (a + 1) + b ≡ a + suc b
        shift a b = omega arith

    -- One round more,
    pub rounds_go : (z : Flight) (new : Scene) → turn.behind.state ≡ (behind now turn.deeds).state → HasMade now turn y z mid new
        → IsOnRounds w most m (count + 1) x z old new
    rounds_go z new state made = record {
      part = with_deeds way.part.deeds turn;
      whole = whole-more;
      state = state ∙ sym (ap (λ (u : Standing). u.state) (behind-append w way.part.deeds turn.deeds));
      made = record {
        done = done_then w way.part.deeds turn.deeds old mid new way.made.done made.done;
        flying = made.flying;
        damage = damage_then way.part.deeds turn.deeds x y z way.made.damage made.damage;
      };
    }

    -- or something stopped it.
    pub rounds_stopped : count < 2 ^ 64 - 1 → (fault : Stop) (new : Scene) → HasStopped now turn.deeds fault mid new
        → HasStoppedRounds w most m fault old new
    rounds_stopped low fault new stopped = record {
      count = (count + 1) + 0;
      within = omega (arith, low);
      stopped = subst (λ (p : Part). HasStopped w p.deeds fault old new) (sym (whole-more 0))
          (stopped_wider w (way.part.deeds ++ turn.deeds) [] fault old new
          (stopped_then w way.part.deeds turn.deeds fault old mid new way.made.done stopped));
    }

-- The device behind a round is the one after its events.
pub round_state : (f : DeviceFormat) (taken : ℕ) (s : DeviceState) (flying : List Flying)
    → (serve_each f taken s flying).behind.state ≡ after_events f s (events_in (serve_each f taken s flying).deeds)
round_state f taken s [] = refl
round_state f taken s (r ∷ flying) =
    let one_part = serve_each f taken s (r ∷ []) in
    let rest = serve_each f taken one_part.behind.state flying in
    let whole = serve_each-cons f taken s r flying in
    ap (λ (p : Part). p.behind.state) whole ∙ round_state f taken one_part.behind.state flying
    ∙ ap (λ (u : DeviceState). after_events f u (events_in rest.deeds)) (one_state f taken s r)
    ∙ sym (state-append f s one_part.deeds rest.deeds)
    ∙ sym (ap (λ (p : Part). after_events f s (events_in p.deeds)) whole)
