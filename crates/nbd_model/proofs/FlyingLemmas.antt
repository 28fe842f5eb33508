-- The requests in flight: where they stand on the device's list, and that what is left to serve is among them.
use Rattle.std.proofs.Common.{◌≡◌, inl, inr, ℕ, suc, ◌+◌, ◌<◌, ◌≤◌, Bool, true, false, List, [], ◌∷◌, ◌++◌, length, take, None, Some, slice_get, refl, sym, ◌∙◌, ap, subst, arith, ◌⊎◌}
use Rattle.std.specs.Prelude.{◌&&◌, count_by, cond, not}
use Rattle.std.proofs.lemmas.List.Sums.{sum_by-cons}
use Rattle.std.proofs.lemmas.Bool.{cases_Bool}
use Rattle.device_model.specs.Mode.{DeviceFormat}
use Rattle.device_model.specs.Progress.{DeviceState}
use Rattle.device_model.specs.Request.{Asked, is_unfinished, is_over, overlaps, held_by, asked_of, Request}
use Rattle.device_model.specs.RequestLaws.{requests_of}
use Rattle.device_model.specs.Script.{turns_left}
use Rattle.device_model.specs.Submission.{Submission, request_in}
use Rattle.device_model.proofs.HeldLemmas.{unheld_law}
use Rattle.nbd_model.specs.Stream.{Message}
use Rattle.nbd_model.specs.Judged.{submission_of}
use Rattle.nbd_model.specs.Session.{Flying}
use Rattle.nbd_model.specs.SessionLaws.{ServesAll, AreWhole, asked_by}
use Rattle.nbd_model.proofs.SubmittedLemmas.{unfinished_not_over}

module _ (f : DeviceFormat) (all : List Message) where
  -- ---- the requests in flight

  -- The request of this number and cookie stands at this place of the device's list, and is unfinished.
  pub record IsAt (s : DeviceState) (number cookie place : ℕ) : Type 0 where
    pub message : Message
    pub is : slice_get all number ≡ Some message
    pub cookie_is : cookie ≡ message.request.cookie
    pub submission : Submission
    pub asks : submission_of f.blocks message ≡ Some submission
    pub asked : Asked
    pub there : slice_get s.progress.requests place ≡ Some asked
    pub request : asked.request ≡ request_in f.blocks.block_size submission
    pub before : ServesAll f → AreWhole all → take place (requests_of s.progress.requests) ≡ asked_by f (take number all)
    pub unfinished : is_unfinished asked.state ≡ true

  -- It stands there in a later state, too, where its request is the same and it is unfinished,
  pub at_on : (s t : DeviceState) (number cookie place : ℕ) (at : IsAt s number cookie place) (b : Asked)
      → take place (requests_of t.progress.requests) ≡ take place (requests_of s.progress.requests) → slice_get t.progress.requests place ≡ Some b
      → b.request ≡ at.asked.request → is_unfinished b.state ≡ true → IsAt t number cookie place
  at_on s t number cookie place at b listed is same more = record {
    message = at.message;
    is = at.is;
    cookie_is = at.cookie_is;
    submission = at.submission;
    asks = at.asks;
    asked = b;
    there = is;
    request = same ∙ at.request;
    before = λ serves whole. listed ∙ at.before serves whole;
    unfinished = more;
  }

  -- A request in flight stands at the place of its ticket.
  pub record IsFlying (s : DeviceState) (r : Flying) : Type 0 where
    pub place : ℕ
    pub ticket : r.ticket ≡ suc place
    pub at : IsAt s r.number r.cookie place

  -- In order of their tickets, which are this one or later ones.
  abbrev pub AreFlying : DeviceState → ℕ → List Flying → Type 0
  AreFlying s low [] = Unit {0}
  AreFlying s low (r ∷ flying) = (low ≤ r.ticket) × IsFlying s r × AreFlying s (suc r.ticket) flying

  IsFlying-same : (s t : DeviceState) (r : Flying) (is : IsFlying s r) → requests_of t.progress.requests ≡ requests_of s.progress.requests → slice_get t.progress.requests is.place ≡ slice_get s.progress.requests is.place → IsFlying t r
  IsFlying-same s t r is listed same = record { place = is.place; ticket = is.ticket; at = at_on s t r.number r.cookie is.place is.at is.at.asked (ap (λ (l : List Request). take is.place l) listed) (same ∙ is.at.there) refl is.at.unfinished }

  -- So do all whose places are untouched.
  pub AreFlying-same : (s t : DeviceState) (low : ℕ) (flying : List Flying) → requests_of t.progress.requests ≡ requests_of s.progress.requests → ((i : ℕ) → low ≤ suc i → slice_get t.progress.requests i ≡ slice_get s.progress.requests i)
      → AreFlying s low flying → AreFlying t low flying
  AreFlying-same s t low [] listed same are = tt
  AreFlying-same s t low (r ∷ flying) listed same are =
      let is = are.1 in
      let ticket = is.ticket in (
        are.0,
        IsFlying-same s t r is listed (same is.place (omega (arith, are.0, ticket))),
        AreFlying-same s t (suc r.ticket) flying listed (λ i high. same i (omega (arith, high, are.0))) are.2,
      )

  -- A lower bound of their tickets may be lower.
  pub AreFlying-low : (s : DeviceState) (high low : ℕ) (flying : List Flying) → low ≤ high → AreFlying s high flying → AreFlying s low flying
  AreFlying-low s high low [] less are = tt
  AreFlying-low s high low (r ∷ flying) less are = (omega (arith, less, are.0), are.1, are.2)

  -- ---- what is in flight is what is left to serve

  -- The request at this place is among these.
  abbrev pub Holds : ℕ → List Flying → Type 0
  Holds i [] = ⊥
  Holds i (r ∷ flying) = (r.ticket ≡ suc i) ⊎ Holds i flying

  -- What is among some requests is among more,
  pub Holds-front : (i : ℕ) (flying : List Flying) (r : Flying) → Holds i flying → Holds i (flying ++ r ∷ [])
  Holds-front i [] r holds = absurd holds
  Holds-front i (q ∷ flying) r (inl same) = inl same
  Holds-front i (q ∷ flying) r (inr more) = inr (Holds-front i flying r more)

  -- and the last is among them.
  pub Holds-last : (i : ℕ) (flying : List Flying) (r : Flying) → r.ticket ≡ suc i → Holds i (flying ++ r ∷ [])
  Holds-last i [] r same = inl same
  Holds-last i (q ∷ flying) r same = inr (Holds-last i flying r same)

  -- One among them has no lower place than the first.
  pub Holds-high : (s : DeviceState) (low i : ℕ) (flying : List Flying) → AreFlying s low flying → Holds i flying → low ≤ suc i
  Holds-high s low i [] are holds = absurd holds
  Holds-high s low i (r ∷ flying) are (inl same) = omega (arith, are.0, same)
  Holds-high s low i (r ∷ flying) are (inr more) =
      let later = Holds-high s (suc r.ticket) i flying are.2 more in
      omega (arith, are.0, later)

  -- Each request whose reply is not taken is among these, from this ticket on.
  abbrev pub Covers : DeviceState → ℕ → List Flying → Type 0
  Covers s low flying = (i : ℕ) (a : Asked) → low ≤ suc i → slice_get s.progress.requests i ≡ Some a → is_over a.state ≡ false → Holds i flying

  -- How many turns these take at most.
  abbrev pub turns_in : DeviceState → List Flying → ℕ
  turns_in s [] = 0
  turns_in s (r ∷ flying) = turns_left (asked_of s.progress.requests r.ticket) + turns_in s flying

  -- As many as before where their places are untouched.
  pub turns_in-same : (s t : DeviceState) (low : ℕ) (flying : List Flying) → ((i : ℕ) → low ≤ suc i → slice_get t.progress.requests i ≡ slice_get s.progress.requests i)
      → AreFlying s low flying → turns_in t flying ≡ turns_in s flying
  turns_in-same s t low [] same are = refl
  turns_in-same s t low (r ∷ flying) same are =
      let is = are.1 in
      let ticket = is.ticket in
      let one : turns_left (asked_of t.progress.requests r.ticket) ≡ turns_left (asked_of s.progress.requests r.ticket) =
      ap (λ (k : ℕ). turns_left (asked_of t.progress.requests k)) ticket ∙ ap turns_left (same is.place (omega (arith, are.0, ticket)))
      ∙ sym (ap (λ (k : ℕ). turns_left (asked_of s.progress.requests k)) ticket) in
      let rest = turns_in-same s t (suc r.ticket) flying (λ i high. same i (omega (arith, high, are.0))) are.2 in
      omega (arith, one, rest)

  -- The first of these is held by no other.
  abbrev pub IsFree : DeviceState → List Flying → Type 0
  IsFree s [] = ⊥
  IsFree s (r ∷ flying) = (k : ℕ) (a : Asked) → r.ticket ≡ suc k → slice_get s.progress.requests k ≡ Some a → held_by s.progress.requests k a.request ≡ None

  -- So it is where all that is left to serve is among them.
  pub first_is_free : (s : DeviceState) (r : Flying) (flying : List Flying) → AreFlying s 0 (r ∷ flying) → Covers s 0 (r ∷ flying) → IsFree s (r ∷ flying)
  first_is_free s r flying are covers k a ticket there =
      (unheld_law s.progress.requests k a.request).1 (λ i x below is. elim (cases_Bool (is_unfinished x.state)) [
        | inr over ↦ ap (λ (b : Bool). b && overlaps a.request x.request) over
        | inl more ↦
            let holds = covers i x (omega arith) is (unfinished_not_over x.state more) in
            let high : r.ticket ≤ suc i = Holds-high s r.ticket i (r ∷ flying) (omega arith, are.1, are.2) holds in
            absurd (omega (arith, high, ticket, below))
      ])

  -- ---- a slot is left

  -- The requests in flight behind one of them.
  pub record Behind (low i : ℕ) (s : DeviceState) (flying : List Flying) : Type 0 where
    pub after : List Flying
    pub shorter : length after < length flying
    pub are : AreFlying s (suc (suc i)) after
    pub later : (j : ℕ) → i < j → Holds j flying → Holds j after

  -- They are fewer, and have all that come later.
  pub behind : (s : DeviceState) (low i : ℕ) (flying : List Flying) → AreFlying s low flying → Holds i flying → Behind low i s flying
  behind s low i [] are holds = absurd holds
  behind s low i (r ∷ flying) are (inl same) = record {
    after = flying;
    shorter = omega arith;
    are = subst (λ (k : ℕ). AreFlying s (suc k) flying) same are.2;
    later = λ j high holds. elim holds [
      | inl other ↦ absurd (omega (arith, same, other, high))
      | inr more ↦ more
    ];
  }
  behind s low i (r ∷ flying) are (inr holds) =
      let rest = behind s (suc r.ticket) i flying are.2 holds in
      let above = Holds-high s (suc r.ticket) i flying are.2 holds in
      record {
        after = rest.after;
        shorter = let shorter = rest.shorter in omega (arith, shorter);
        are = rest.are;
        later = λ j high held. elim held [
          | inl same ↦ absurd (omega (arith, same, above, high))
          | inr more ↦ rest.later j high more
        ];
      }

  -- A request counts once where it is not over.
  abbrev pub counted : Bool → ℕ
  counted b = cond (not b) 1 0

  -- There are no more requests in flight on the device's list than are among these.
  pub count-le : (s : DeviceState) (low t : ℕ) (l : List Asked) (flying : List Flying) → AreFlying s low flying
      → ((i : ℕ) (a : Asked) → slice_get l i ≡ Some a → is_over a.state ≡ false → Holds (t + i) flying)
      → count_by (λ (a : Asked). not (is_over a.state)) l ≤ length flying
  count-le s low t [] flying are covers = omega arith
  count-le s low t (a ∷ l) flying are covers =
      let step = sum_by-cons (λ (x : Asked). cond (not (is_over x.state)) 1 0) a l in
      elim (cases_Bool (is_over a.state)) [
        | inl over ↦
            let none = ap (λ (b : Bool). counted b) over in
            let rest = count-le s low (suc t) l flying are (λ i x is open_. subst (λ (k : ℕ). Holds k flying) (shift t i) (covers (suc i) x is open_)) in
            omega (arith, step, none, rest)
        | inr open_ ↦
            let one = ap (λ (b : Bool). counted b) open_ in
            let here = subst (λ (k : ℕ). Holds k flying) (no_shift t) (covers 0 a refl open_) in
            let next = behind s low t flying are here in
            let shorter = next.shorter in
            let rest = count-le s (suc (suc t)) (suc t) l next.after next.are
            (λ i x is more. next.later (suc t + i) (omega arith) (subst (λ (k : ℕ). Holds k flying) (shift t i) (covers (suc i) x is more))) in
            omega (arith, step, one, rest, shorter)
      ]
    where
      shift : (t i : ℕ) → t + suc i ≡ suc t + i
      shift t i = omega arith

      no_shift : (t : ℕ) → t + 0 ≡ t
      no_shift t = omega arith
