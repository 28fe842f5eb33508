-- A list of slots around one of them: its place, a change of it, and what the others keep.
use Rattle.std.proofs.Common.{◌≡◌, inl, inr, ℕ, suc, ◌<◌, ◌≤◌, not, Bool, true, false, ◌||◌, List, [], ◌∷◌, ◌++◌, length, set, get_or, filter, find, Some, refl, sym, ◌∙◌, ap, subst, arith}
use Rattle.std.specs.List.{AllByRecursion, list_any, position_or_len, remove}
use Rattle.std.proofs.lemmas.Bool.{cases_Bool, false≢true, eqb-true, ne_eqb}
use Rattle.range_lock.specs.Asks.{has_ticket}
use Rattle.range_lock.specs.declared.ask.Ask.{Ask}
use Rattle.request_slots.specs.Flight.{is_unfinished, is_of, ask_of, asks_in, AreAbove}
use Rattle.request_slots.specs.Serving.{changed}
use Rattle.request_slots.specs.Taking.{without}
use Rattle.request_slots.specs.declared.slot.Slot.{Slot}

-- None of them has this ticket.
abbrev pub HasNone : ℕ → List Slot → Type 0
HasNone t slots = AllByRecursion (λ slot. is_of t slot ≡ false) slots

-- The slots before and behind the first one of a ticket.
pub record IsSplit (t : ℕ) (slots : List Slot) : Type 0 where
  pub before : List Slot
  pub own : Slot
  pub behind : List Slot
  pub is : slots ≡ before ++ own ∷ behind
  pub own_is : is_of t own ≡ true
  pub none : HasNone t before

-- a request in flight has its slot
pub split_of : (t : ℕ) (slots : List Slot) → list_any (is_of t) slots ≡ true → IsSplit t slots
split_of t [] there = absurd (false≢true there)
split_of t (x ∷ slots) there = elim (cases_Bool (is_of t x)) [
  | inl own ↦ record { before = []; own = x; behind = slots; is = refl; own_is = own; none = tt }
  | inr other ↦
      let rest = split_of t slots (sym (ap (λ (b : Bool). b || list_any (is_of t) slots) other) ∙ there) in
      record {
        before = x ∷ rest.before;
        own = rest.own;
        behind = rest.behind;
        is = ap (λ (xs : List Slot). x ∷ xs) rest.is;
        own_is = rest.own_is;
        none = (other, rest.none);
      }
]

-- ---- its place

module _ (t : ℕ) (x : Slot) (behind : List Slot) (own : is_of t x ≡ true) where
  pub place-split : (before : List Slot) → HasNone t before → position_or_len (is_of t) (before ++ x ∷ behind) ≡ length before
  place-split [] none = simp own refl
  place-split (y ∷ before) none = let rest = place-split before none.1 in simp (none.0) (omega (arith, rest))

  pub find-split : (before : List Slot) → HasNone t before → find (is_of t) (before ++ x ∷ behind) ≡ Some x
  find-split [] none = simp own refl
  find-split (y ∷ before) none = simp (none.0) (find-split before none.1)

  pub any-split : (before : List Slot) → list_any (is_of t) (before ++ x ∷ behind) ≡ true
  any-split [] = simp own refl
  any-split (y ∷ before) = elim (cases_Bool (is_of t y)) [
    | inl is ↦ simp is refl
    | inr other ↦ simp other (any-split before)
  ]

  pub changed-split : (change : Slot → Slot) (before : List Slot) → HasNone t before
      → changed t change (before ++ x ∷ behind) ≡ before ++ change x ∷ behind
  changed-split change [] none = simp own refl
  changed-split change (y ∷ before) none = simp (none.0) (ap (λ (xs : List Slot). y ∷ xs) (changed-split change before none.1))

  pub without-split : (before : List Slot) → HasNone t before → without t (before ++ x ∷ behind) ≡ before ++ behind
  without-split [] none = simp own refl
  without-split (y ∷ before) none = simp (none.0) (ap (λ (xs : List Slot). y ∷ xs) (without-split before none.1))

pub get_or-split : (before behind : List Slot) (x d : Slot) → get_or (before ++ x ∷ behind) (length before) d ≡ x
get_or-split [] behind x d = refl
get_or-split (y ∷ before) behind x d = get_or-split before behind x d

pub set-split : (before behind : List Slot) (x y : Slot) → set (before ++ x ∷ behind) (length before) y ≡ before ++ y ∷ behind
set-split [] behind x y = refl
set-split (z ∷ before) behind x y = ap (λ (xs : List Slot). z ∷ xs) (set-split before behind x y)

pub remove-split : (before behind : List Slot) (x : Slot) → remove (before ++ x ∷ behind) (length before) ≡ before ++ behind
remove-split [] behind x = refl
remove-split (z ∷ before) behind x = ap (λ (xs : List Slot). z ∷ xs) (remove-split before behind x)

pub low-split : (before behind : List Slot) (x : Slot) → length before < length (before ++ x ∷ behind)
low-split [] behind x = omega arith
low-split (y ∷ before) behind x = let rest = low-split before behind x in omega (arith, rest)

-- ---- what they ask for

pub asks_in-append : (slots others : List Slot) → asks_in (slots ++ others) ≡ asks_in slots ++ asks_in others
asks_in-append [] others = refl
asks_in-append (x ∷ slots) others =
    let rest = asks_in-append slots others in
    elim (cases_Bool (is_unfinished x)) [
      | inl still ↦ simp still (ap (λ (asks : List Ask). ask_of x ∷ asks) rest)
      | inr done ↦ simp done rest
    ]

pub length-asks_in : (slots : List Slot) → length (asks_in slots) ≤ length slots
length-asks_in [] = omega arith
length-asks_in (x ∷ slots) =
    let rest = length-asks_in slots in
    elim (cases_Bool (is_unfinished x)) [
      | inl still ↦ simp still (omega (arith, rest))
      | inr done ↦ simp done (omega (arith, rest))
    ]

-- a request that goes on asks for the same
pub asks_in-goes_on : (before behind : List Slot) (x y : Slot) → is_unfinished x ≡ true → is_unfinished y ≡ true → ask_of y ≡ ask_of x
    → asks_in (before ++ y ∷ behind) ≡ asks_in (before ++ x ∷ behind)
asks_in-goes_on [] behind x y was is same = simp (was, is) (ap (λ (ask : Ask). ask ∷ asks_in behind) same)
asks_in-goes_on (z ∷ before) behind x y was is same =
    let rest = asks_in-goes_on before behind x y was is same in
    elim (cases_Bool (is_unfinished z)) [
      | inl still ↦ simp still (ap (λ (asks : List Ask). ask_of z ∷ asks) rest)
      | inr done ↦ simp done rest
    ]

-- one that is done asks for nothing
pub asks_in-done : (before behind : List Slot) (x : Slot) → is_unfinished x ≡ false → asks_in (before ++ x ∷ behind) ≡ asks_in (before ++ behind)
asks_in-done [] behind x done = simp done refl
asks_in-done (z ∷ before) behind x done =
    let rest = asks_in-done before behind x done in
    elim (cases_Bool (is_unfinished z)) [
      | inl still ↦ simp still (ap (λ (asks : List Ask). ask_of z ∷ asks) rest)
      | inr over ↦ simp over rest
    ]

-- The asks without those of a ticket.
abbrev pub released : ℕ → List Ask → List Ask
released t asks = filter (λ ask. not (has_ticket t ask)) asks

-- a ticket below those of the slots releases none of them
released-later : (t b : ℕ) (slots : List Slot) → t ≤ b → AreAbove b slots → released t (asks_in slots) ≡ asks_in slots
released-later t b [] low above = refl
released-later t b (x ∷ slots) low above =
    let higher : b < x.ticket = above.0 in
    let rest = released-later t x.ticket slots (omega (arith, low, higher)) above.1 in
    elim (cases_Bool (is_unfinished x)) [
      | inl still ↦ simp (still, ne_eqb x.ticket t (λ same. omega (arith, same, low, higher))) (ap (λ (asks : List Ask). ask_of x ∷ asks) rest)
      | inr done ↦ simp done rest
    ]

-- what is left where its ticket is released
pub released-split : (t b : ℕ) (before behind : List Slot) (x : Slot) → is_of t x ≡ true → HasNone t before → AreAbove b (before ++ x ∷ behind)
    → released t (asks_in (before ++ x ∷ behind)) ≡ asks_in (before ++ behind)
released-split t b [] behind x own none above =
    let stay = released-later t x.ticket behind (let same : x.ticket ≡ t = eqb-true x.ticket t own in omega (arith, same)) above.1 in
    elim (cases_Bool (is_unfinished x)) [
      | inl still ↦ simp (still, own) stay
      | inr done ↦ simp done stay
    ]
released-split t b (z ∷ before) behind x own none above =
    let rest = released-split t z.ticket before behind x own none.1 above.1 in
    elim (cases_Bool (is_unfinished z)) [
      | inl still ↦ simp (still, none.0) (ap (λ (asks : List Ask). ask_of z ∷ asks) rest)
      | inr done ↦ simp done rest
    ]

-- ---- the order of the tickets

pub AreAbove-split : (b : ℕ) (before behind : List Slot) (x y : Slot) → y.ticket ≡ x.ticket → AreAbove b (before ++ x ∷ behind)
    → AreAbove b (before ++ y ∷ behind)
AreAbove-split b [] behind x y same above =
    (subst (λ (n : ℕ). b < n) (sym same) above.0, subst (λ (n : ℕ). AreAbove n behind) (sym same) above.1)
AreAbove-split b (z ∷ before) behind x y same above = (above.0, AreAbove-split z.ticket before behind x y same above.1)

AreAbove-lower : (b c : ℕ) (slots : List Slot) → b ≤ c → AreAbove c slots → AreAbove b slots
AreAbove-lower b c [] low above = tt
AreAbove-lower b c (x ∷ slots) low above = (let higher : c < x.ticket = above.0 in omega (arith, low, higher), above.1)

pub AreAbove-without : (b : ℕ) (before behind : List Slot) (x : Slot) → AreAbove b (before ++ x ∷ behind) → AreAbove b (before ++ behind)
AreAbove-without b [] behind x above = AreAbove-lower b x.ticket behind (let higher : b < x.ticket = above.0 in omega (arith, higher)) above.1
AreAbove-without b (z ∷ before) behind x above = (above.0, AreAbove-without z.ticket before behind x above.1)

-- a request with a higher ticket comes last
pub AreAbove-push : (b m : ℕ) (slots : List Slot) (x : Slot) → b ≤ m → m < x.ticket → AllByRecursion (λ slot. slot.ticket ≤ m) slots
    → AreAbove b slots → AreAbove b (slots ++ x ∷ [])
AreAbove-push b m [] x low high all above = (omega (arith, low, high), tt)
AreAbove-push b m (y ∷ slots) x low high all above = (above.0, AreAbove-push y.ticket m slots x all.0 high all.1 above.1)

-- ---- what is true of each

pub each-at : (P : Slot → Type 0) (before behind : List Slot) (x : Slot) → AllByRecursion P (before ++ x ∷ behind) → P x
each-at P [] behind x all = all.0
each-at P (z ∷ before) behind x all = each-at P before behind x all.1

pub each-split : (P : Slot → Type 0) (before behind : List Slot) (x y : Slot) → P y → AllByRecursion P (before ++ x ∷ behind)
    → AllByRecursion P (before ++ y ∷ behind)
each-split P [] behind x y is all = (is, all.1)
each-split P (z ∷ before) behind x y is all = (all.0, each-split P before behind x y is all.1)

pub each-without : (P : Slot → Type 0) (before behind : List Slot) (x : Slot) → AllByRecursion P (before ++ x ∷ behind) → AllByRecursion P (before ++ behind)
each-without P [] behind x all = all.1
each-without P (z ∷ before) behind x all = (all.0, each-without P before behind x all.1)

pub each-wider : (P Q : Slot → Type 0) (slots : List Slot) → ((x : Slot) → P x → Q x) → AllByRecursion P slots → AllByRecursion Q slots
each-wider P Q [] wider all = tt
each-wider P Q (x ∷ slots) wider all = (wider x all.0, each-wider P Q slots wider all.1)

pub each-push : (P : Slot → Type 0) (slots : List Slot) (x : Slot) → AllByRecursion P slots → P x → AllByRecursion P (slots ++ x ∷ [])
each-push P [] x all is = (is, tt)
each-push P (y ∷ slots) x all is = (all.0, each-push P slots x all.1 is)

-- ---- how many

pub length-split : (before behind : List Slot) (x y : Slot) → length (before ++ y ∷ behind) ≡ length (before ++ x ∷ behind)
length-split [] behind x y = refl
length-split (z ∷ before) behind x y = ap suc (length-split before behind x y)

pub length-without : (before behind : List Slot) (x : Slot) → suc (length (before ++ behind)) ≡ length (before ++ x ∷ behind)
length-without [] behind x = refl
length-without (z ∷ before) behind x = ap suc (length-without before behind x)
