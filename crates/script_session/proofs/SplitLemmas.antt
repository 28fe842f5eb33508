-- A list of tickets around one of them.
use Rattle.std.proofs.Common.{◌≡◌, ◌⊎◌, inl, inr, ℕ, suc, ◌+◌, ◌<◌, ◌≤◌, ◌==◌, ◌||◌, not, ltb, Bool, true, false, cond, if◌then◌else◌, List, [], ◌∷◌, ◌++◌, length, map, get_or, position, unwrap_or, Some, None, refl, sym, ◌∙◌, ap, subst, arith}
use Rattle.std.specs.List.{insert, list_any, position_or_len, remove}
use Rattle.std.proofs.lemmas.Bool.{cases_Bool, eq-eqb, eqb-true, false≢true, ltb-false}
use Rattle.std.proofs.lemmas.List.Sums.{prefix_len-le-length}
use Rattle.range_lock.specs.declared.ask.Ask.{Ask}
use Rattle.request_slots.specs.Flight as flight
use Rattle.request_slots.specs.Flight.{ask_of}
use Rattle.request_slots.specs.Taking.{without}
use Rattle.request_slots.specs.declared.slot.Slot.{Slot}
use Rattle.script_session.specs.declared.tickets.Waiting.{Waiting}
use Rattle.script_session.specs.Tickets.{ask_by, is_of}

-- The first of this ticket, with what stands before and behind it.
pub record IsSplit (number : ℕ) (waiting : List Waiting) : Type 0 where
  pub before : List Waiting
  pub own : Waiting
  pub behind : List Waiting
  pub is : waiting ≡ before ++ own ∷ behind
  pub own_is : own.ticket ≡ number
  pub none : list_any (is_of number) before ≡ false

split_by : (number : ℕ) (w : Waiting) (waiting : List Waiting)
    → (list_any (is_of number) waiting ≡ true → IsSplit number waiting)
    → (is_of number w ≡ true) ⊎ (is_of number w ≡ false) → list_any (is_of number) (w ∷ waiting) ≡ true
    → IsSplit number (w ∷ waiting)
split_by number w waiting rest (inl own) any = record {
  before = [];
  own = w;
  behind = waiting;
  is = refl;
  own_is = eqb-true w.ticket number own;
  none = refl;
}
split_by number w waiting rest (inr other) any =
    let split = rest (subst (λ (b : Bool). (b || list_any (is_of number) waiting) ≡ true) other any) in
    record {
      before = w ∷ split.before;
      own = split.own;
      behind = split.behind;
      is = ap (λ (l : List Waiting). w ∷ l) split.is;
      own_is = split.own_is;
      none = ap (λ (b : Bool). b || list_any (is_of number) split.before) other ∙ split.none;
    }

pub split_of : (number : ℕ) (waiting : List Waiting) → list_any (is_of number) waiting ≡ true
    → IsSplit number waiting
split_of number [] any = absurd (false≢true any)
split_of number (w ∷ waiting) any = split_by number w waiting (split_of number waiting) (cases_Bool (is_of number w)) any

-- ---- what stands where

one_more : (n : ℕ) → 1 + n ≡ suc n
one_more n = omega arith

module _ (number : ℕ) (own : Waiting) (behind : List Waiting) (own_is : own.ticket ≡ number) where
  own_any : is_of number own ≡ true
  own_any = ap (λ (n : ℕ). n == number) own_is ∙ eq-eqb number number refl

  pub place-split : (before : List Waiting) → list_any (is_of number) before ≡ false
      → position_or_len (is_of number) (before ++ own ∷ behind) ≡ length before
  place-split [] none =
      ap (λ (b : Bool). cond (not b) (1 + position_or_len (is_of number) behind) 0) own_any
  place-split (w ∷ before) none = elim (cases_Bool (is_of number w)) [
    | inl other ↦ absurd (false≢true (sym none ∙ ap (λ (b : Bool). b || list_any (is_of number) before) other))
    | inr same ↦
        ap (λ (b : Bool). cond (not b) (1 + position_or_len (is_of number) (before ++ own ∷ behind)) 0) same
        ∙ ap (λ (n : ℕ). 1 + n) (place-split before (sym (ap (λ (b : Bool). b || list_any (is_of number) before) same) ∙ none))
        ∙ one_more (length before)
  ]

pub low-split : (before behind : List Waiting) (own : Waiting) → length before < length (before ++ own ∷ behind)
low-split [] behind own = omega arith
low-split (w ∷ before) behind own = let rest = low-split before behind own in omega (arith, rest)

pub get_or-split : (before behind : List Waiting) (own d : Waiting) → get_or (before ++ own ∷ behind)
    (length before) d ≡ own
get_or-split [] behind own d = refl
get_or-split (w ∷ before) behind own d = get_or-split before behind own d

pub remove-split : (before behind : List Waiting) (own : Waiting) → remove (before ++ own ∷ behind)
    (length before) ≡ before ++ behind
remove-split [] behind own = refl
remove-split (w ∷ before) behind own = ap (λ (l : List Waiting). w ∷ l) (remove-split before behind own)

pub insert-split : (before behind : List Waiting) (own : Waiting) → insert (before ++ behind)
    (length before) own ≡ before ++ own ∷ behind
insert-split [] behind own = refl
insert-split (w ∷ before) behind own = ap (λ (l : List Waiting). w ∷ l) (insert-split before behind own)

-- ---- the slots with it

-- To take it out takes its slot out.
pub asks-without : (number : ℕ) (before behind : List Waiting) (own : Waiting) (slots : List Slot)
    → own.ticket ≡ number → list_any (is_of number) before ≡ false
    → map ask_by (before ++ own ∷ behind) ≡ map ask_of slots
    → map ask_by (before ++ behind) ≡ map ask_of (without number slots)
asks-without number [] behind own [] own_is none same = absurd (cc)
asks-without number (w ∷ before) behind own [] own_is none same = absurd (cc)
asks-without number [] behind own (x ∷ slots) own_is none same =
    let head : ask_by own ≡ ask_of x = cc in
    let tail : map ask_by behind ≡ map ask_of slots = cc in
    let own_slot : flight.is_of number x ≡ true =
    ap (λ (a : Ask). a.ticket == number) (sym head) ∙ ap (λ (n : ℕ). n == number) own_is ∙ eq-eqb number number refl in
    tail ∙ ap (λ (b : Bool). map ask_of (if b then slots else x ∷ without number slots)) (sym own_slot)
asks-without number (w ∷ before) behind own (x ∷ slots) own_is none same = elim (cases_Bool (is_of number w)) [
  | inl other ↦ absurd (false≢true (sym none ∙ ap (λ (b : Bool). b || list_any (is_of number) before) other))
  | inr differs ↦
      let head : ask_by w ≡ ask_of x = cc in
      let tail : map ask_by (before ++ own ∷ behind) ≡ map ask_of slots = cc in
      let rest = asks-without number before behind own slots own_is (sym (ap (λ (b : Bool). b || list_any (is_of number) before) differs) ∙ none) tail in
      let other_slot : flight.is_of number x ≡ false = ap (λ (a : Ask). a.ticket == number) (sym head) ∙ differs in
      ap (λ (l : List Ask). ask_by w ∷ l) rest ∙ ap (λ (a : Ask). a ∷ map ask_of (without number slots)) head
      ∙ ap (λ (b : Bool). map ask_of (if b then slots else x ∷ without number slots)) (sym other_slot)
]

-- ---- where a ticket is

by_length : (p : Waiting → Bool) (waiting : List Waiting) (b : Bool) → ltb (position_or_len p waiting)
    (length waiting) ≡ b
    → unwrap_or (if b then Some (position_or_len p waiting) else None)
    (length waiting) ≡ position_or_len p waiting
by_length p waiting true is = refl
by_length p waiting false is =
    let low : length waiting ≤ position_or_len p waiting = ltb-false (position_or_len p waiting) (length waiting) is in
    let high : position_or_len p waiting ≤ length waiting = prefix_len-le-length (λ x. not (p x)) waiting in
    omega (arith, low, high)

-- behind all where it is none
pub unwrap_or-position : (p : Waiting → Bool) (waiting : List Waiting) → unwrap_or (position p waiting)
    (length waiting) ≡ position_or_len p waiting
unwrap_or-position p waiting = by_length p waiting (ltb (position_or_len p waiting) (length waiting)) refl

-- A ticket that is there stands at its place.
pub record IsPlace (number place : ℕ) (waiting : List Waiting) : Type 0 where
  pub low : place < length waiting
  pub own : (w : Waiting) → w ≡ get_or waiting place w → w.ticket ≡ number

pub place_is : (number : ℕ) (waiting : List Waiting) → list_any (is_of number) waiting ≡ true
    → IsPlace number (position_or_len (is_of number) waiting) waiting
place_is number waiting any =
    let split = split_of number waiting any in
    subst (λ (l : List Waiting). IsPlace number (position_or_len (is_of number) l) l) (sym split.is)
    (subst (λ (n : ℕ). IsPlace number n (split.before ++ split.own ∷ split.behind)) (sym (place-split number split.own split.behind split.own_is split.before split.none))
    (record {
      low = low-split split.before split.behind split.own;
      own = λ w is. ap (λ (x : Waiting). x.ticket) (is ∙ get_or-split split.before split.behind split.own w) ∙ split.own_is;
    }))

-- So it is taken from its place.
module _ (number : ℕ) (waiting : List Waiting) (any : list_any (is_of number) waiting ≡ true) (place : ℕ) (at : place ≡ position_or_len (is_of number) waiting) where
  abbrev split : IsSplit number waiting
  split = split_of number waiting any

  pub split_place : place ≡ length split.before
  split_place =
      at ∙ ap (position_or_len (is_of number)) split.is ∙ place-split number split.own split.behind split.own_is split.before split.none

  pub split_own : (own : Waiting) → own ≡ get_or waiting place own → own ≡ split.own
  split_own own is =
      is ∙ ap (λ (n : ℕ). get_or waiting n own) split_place ∙ ap (λ (l : List Waiting). get_or l (length split.before) own) split.is
      ∙ get_or-split split.before split.behind split.own own

  pub split_removed : remove waiting place ≡ split.before ++ split.behind
  split_removed =
      ap (remove waiting) split_place ∙ ap (λ (l : List Waiting). remove l (length split.before)) split.is ∙ remove-split split.before split.behind split.own

  pub split_back : (rest : List Waiting) (own : Waiting) → rest ≡ remove waiting place
      → own ≡ get_or waiting place own → insert rest place own ≡ waiting
  split_back rest own removed is =
      ap (λ (l : List Waiting). insert l place own) (removed ∙ split_removed) ∙ ap (λ (n : ℕ). insert (split.before ++ split.behind) n own) split_place
      ∙ ap (insert (split.before ++ split.behind) (length split.before)) (split_own own is) ∙ insert-split split.before split.behind split.own ∙ sym split.is
