-- What is told of a take is what comes of its event.
use Rattle.std.proofs.Common.{◌≡◌, ℕ, ◌+◌, ◌-◌, ◌<◌, ◌≤◌, min, nat_eq, Bool, true, false, List, ◌++◌, length, take, refl, sym, ap, subst, ◌∙◌, arith, length-take, Option, None, Some}
use Rattle.std.proofs.lemmas.Bool.{cases_Bool, eqb-true, eqb-false}
use Rattle.nbd_model.specs.declared.nbd_request.NbdRequest.{NbdRequest}
use Rattle.nbd_model.specs.Stream.{Front, Short, Bad, Head, front_of, Message}
use Rattle.nbd_wire.specs.declared.event.Event.{Event}
use Rattle.nbd_wire.specs.declared.event.Event.TheVariants.{More, Ask, Bytes}
use Rattle.nbd_wire.specs.declared.event.Event.TheVariants as events
use Rattle.nbd_wire.specs.Splitting.{Place, InHead, InBytes, AtWrong, taken_by, take_from}
use Rattle.nbd_incoming.specs.declared.incoming.Coming.{Coming}
use Rattle.nbd_incoming.specs.declared.incoming.Incoming.{Incoming}
use Rattle.nbd_incoming.specs.declared.taken.Taken.{Taken}
use Rattle.nbd_incoming.specs.declared.taken.Taken.TheVariants as takens
use Rattle.nbd_incoming.specs.Taking.{Fits, Outcome, outcome_of}
use Rattle.nbd_incoming.specs.Incoming.{BeginsSo, GoesOnSo, IsOutcome, Keeps, KeepsComing, KeepsWrite}
use Rattle.nbd_incoming.proofs.StepLemmas.{Goes, steps}

-- ---- which event comes where

abbrev IsOfBytes : Event → Type 0
IsOfBytes More = Unit {0}
IsOfBytes (Ask r) = ⊥
IsOfBytes (Bytes n) = Unit {0}
IsOfBytes (events.Wrong magic) = ⊥

of_bytes : (left : ℕ) (piece : List ℕ) (none_there : Bool) → nat_eq (min (length piece) left) 0 ≡ none_there → IsOfBytes (take_from (InBytes left) piece).event
of_bytes left piece true is = rw is tt
of_bytes left piece false is = rw is tt

abbrev IsOfHead : Event → Type 0
IsOfHead More = Unit {0}
IsOfHead (Ask r) = Unit {0}
IsOfHead (Bytes n) = ⊥
IsOfHead (events.Wrong magic) = Unit {0}

of_head : (head piece : List ℕ) (front : Front) → IsOfHead (taken_by head piece front).event
of_head head piece Short = tt
of_head head piece (Bad magic) = tt
of_head head piece (Head r) = tt

-- A request begins only where no write is coming.
begins_at : (place : Place) (coming : Option Message) (piece : List ℕ) (r : NbdRequest) → Fits place coming → (take_from place piece).event ≡ Ask r → coming ≡ None
begins_at (InHead head) None piece r fits is = refl
begins_at (InHead head) (Some m) piece r fits is = absurd fits
begins_at (InBytes left) coming piece r fits is = absurd (subst IsOfBytes is (of_bytes left piece _ refl))
begins_at (AtWrong magic) coming piece r fits is = absurd fits

kept_none : (blocks block_size : ℕ) (kept : Option Coming) → KeepsComing blocks block_size kept None → kept ≡ None
kept_none blocks block_size None keeps = refl
kept_none blocks block_size (Some coming) keeps = absurd keeps

-- Bytes come only of the write that is coming, and no more than are left.
record GoesAt (blocks block_size : ℕ) (kept : Option Coming) (coming : Option Message) (piece : List ℕ) (count : ℕ) : Type 0 where
  pub write : Coming
  pub m : Message
  pub kept_ : kept ≡ Some write
  pub coming_ : coming ≡ Some m
  pub keeps : KeepsWrite blocks block_size write m
  pub low : length (take count piece) ≤ write.left

count_bytes : (left : ℕ) (piece : List ℕ) (none_there : Bool) → nat_eq (min (length piece) left) 0 ≡ none_there → (take_from (InBytes left) piece).count ≤ left
count_bytes left piece true is = rw is (omega arith)
count_bytes left piece false is = rw is (omega arith)

goes_at : (blocks block_size : ℕ) (kept : Option Coming) (place : Place) (coming : Option Message) (piece : List ℕ) (count n : ℕ)
    → Fits place coming → KeepsComing blocks block_size kept coming → count ≡ (take_from place piece).count → (take_from place piece).event ≡ Bytes n
    → GoesAt blocks block_size kept coming piece count
goes_at blocks block_size kept (InHead head) coming piece count n fits keeps same is = absurd (subst IsOfHead is (of_head head piece _))
goes_at blocks block_size kept (InBytes left) None piece count n fits keeps same is = absurd fits
goes_at blocks block_size None (InBytes left) (Some m) piece count n fits keeps same is = absurd keeps
goes_at blocks block_size (Some write) (InBytes left) (Some m) piece count n fits keeps same is =
    let sum = fits.left_ in
    let own = keeps.left in
    let most = count_bytes left piece _ refl in
    record { write = write; m = m; kept_ = refl; coming_ = refl; keeps = keeps; low = omega (arith, length-take count piece, sum, own, most, same) }
goes_at blocks block_size kept (AtWrong magic) coming piece count n fits keeps same is = absurd fits

-- ---- for callers

module _ (old : Incoming) (coming : Option Message) (piece : List ℕ) (count : ℕ) (event : Event) (keeps : Keeps old coming)
    (count_is : count ≡ (take_from old.splitter piece).count) (event_is : event ≡ (take_from old.splitter piece).event) where
  abbrev bytes : List ℕ
  bytes = take count piece

  -- By the event.
  abbrev ComesOf : Option Coming → Taken → Event → Type 0
  ComesOf now taken e = IsOutcome old.blocks old.block_size now taken (outcome_of coming e bytes)

  by_event : (now : Option Coming) (taken : Taken) (e : Event) → event ≡ e → ComesOf now taken e → ComesOf now taken (take_from old.splitter piece).event
  by_event now taken e is comes = subst (ComesOf now taken) (sym is ∙ event_is) comes

  pub of_more : event ≡ More → ComesOf old.coming takens.Part (take_from old.splitter piece).event
  of_more is = by_event old.coming takens.Part More is keeps.write

  pub of_ask : (r : NbdRequest) (now : Option Coming) (taken : Taken) → event ≡ Ask r → BeginsSo old.blocks old.block_size old.coming now r taken
      → ComesOf now taken (take_from old.splitter piece).event
  of_ask r now taken is begins =
      let none = begins_at old.splitter coming piece r keeps.fits (sym event_is ∙ is) in
      by_event now taken (Ask r) is (begins (kept_none old.blocks old.block_size old.coming (subst (KeepsComing old.blocks old.block_size old.coming) none keeps.write)))

  pub of_more_bytes : (n : ℕ) (now : Option Coming) (taken : Taken) → event ≡ Bytes n → GoesOnSo old.coming now bytes taken
      → ComesOf now taken (take_from old.splitter piece).event
  of_more_bytes n now taken is goes =
      let at = goes_at old.blocks old.block_size old.coming old.splitter coming piece count n keeps.fits keeps.write count_is (sym event_is ∙ is) in
      by_event now taken (Bytes n) is
      (subst (λ (x : Option Message). IsOutcome old.blocks old.block_size now taken (outcome_of x (Bytes n) bytes)) (sym at.coming_)
      (goes old.blocks old.block_size at.write at.m at.kept_ at.keeps at.low))

  pub of_wrong : (magic : ℕ) → event ≡ events.Wrong magic → ComesOf old.coming (takens.Wrong magic) (take_from old.splitter piece).event
  of_wrong magic is = by_event old.coming (takens.Wrong magic) (events.Wrong magic) is refl

  -- A byte is taken at least.
  pub some_taken : 0 < length piece → 0 < count
  some_taken some =
      let t = take_from old.splitter piece in
      by t.event (steps old.splitter coming piece keeps.fits).goes
    where
      by : (x : Event) → Goes x (take_from old.splitter piece).count piece → 0 < count
      by More goes = omega (arith, goes, some, count_is)
      by (Ask r) goes = let low = goes.0 in omega (arith, low, count_is)
      by (Bytes n) goes = let low = goes.0 in omega (arith, low, count_is)
      by (events.Wrong magic) goes = let low = goes.0 in omega (arith, low, count_is)
