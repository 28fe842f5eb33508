-- What a table of slots tells of each key, once a key came.
use Rattle.std.proofs.Common.{◌≡◌, ◌≢◌, ◌⊎◌, inl, inr, ℕ, zero, suc, ◌+◌, ◌-◌, ◌*◌, ◌/◌, ◌%◌, ◌^◌, ◌<◌, ◌≤◌, ◌==◌, true, false, min, max, List, [], ◌∷◌, length, drop, set, get_or, filter, Option, None, Some, option_map, refl, sym, ◌∙◌, ap, subst, arith, get_or-set_same, get_or-set_other}
use Rattle.std.specs.Int.Bits.{bit_and, bit_or}
use Rattle.std.specs.Int.{bit_at}
use Rattle.std.specs.List.{position_or_len}
use Rattle.std.proofs.Math.Nat.{mul-le-mul_left}
use Rattle.std.proofs.lemmas.Bool.{cases_Bool, cases_lt, cases_eq, eqb-true, eq-eqb, ne_eqb}
use Rattle.std.proofs.lemmas.Nat.{and_or_self}
use Rattle.std.proofs.lemmas.Nat.Bits.{same_from_bits, bit_at_and, bit_at_or}
use Rattle.std.proofs.lemmas.List.{get_or-drop, get_or_past}
use Rattle.std.proofs.lemmas.List.Sums.{fails_before_first, passes_at_first}
use Rattle.journal_overlay.specs.Slots.{stops, is_used, key_in, last_in, slot_with, home_of, bit_of, HasBit, HasBits, slot_of, last_at, EndsAt, IsTable}
use Rattle.journal_overlay.specs.declared.table.Last.{Last}
use Rattle.journal_overlay.specs.declared.table.Slot.{Slot}
use Rattle.journal_overlay.specs.declared.table.Slot.TheVariants.{Free, Gone, Told}

abbrev slot_at : List Slot → ℕ → Slot
slot_at slots k = get_or slots k Free

true-false : true ≡ false → ⊥
true-false e = cc

none_some : (k : ℕ) → None ≡ Some k → ⊥
none_some k e = cc

same_some : (k l : ℕ) → Some k ≡ Some l → k ≡ l
same_some k l e = cc

-- ---- where a search ends

one_end : (homes : ℕ) (slots : List Slot) (key s t : ℕ) → EndsAt homes slots key s → EndsAt homes slots key t → s < t → ⊥
one_end homes slots key s t a b less = true-false (sym a.ends ∙ b.passes s a.from less)

-- The search for a key ends at one slot alone.
pub same_end : (homes : ℕ) (slots : List Slot) (key s t : ℕ) → EndsAt homes slots key s → EndsAt homes slots key t → s ≡ t
same_end homes slots key s t a b =
    let no_less : s < t → ⊥ = one_end homes slots key s t a b in
    let no_more : t < s → ⊥ = one_end homes slots key t s b a in
    omega (arith, no_less, no_more)

module _ (homes : ℕ) (slots : List Slot) (key : ℕ) where
  abbrev rest : List Slot
  rest = drop (home_of homes key) slots

  abbrev first : ℕ
  first = position_or_len (stops key) rest

  at_first : stops key (get_or rest first Free) ≡ true
  at_first = elim (cases_lt first (length rest)) [
    | inl less ↦ passes_at_first (stops key) rest Free less
    | inr past ↦ ap (stops key) (get_or_past rest first Free past)
  ]

  passed : (j : ℕ) → home_of homes key ≤ j → j < slot_of homes slots key → stops key (slot_at slots j) ≡ false
  passed j from less =
      let n : ℕ = j - home_of homes key in
      let below : n < first = omega (arith, from, less) in
      let j_is : home_of homes key + n ≡ j = omega (arith, from) in
      ap (λ (i : ℕ). stops key (slot_at slots i)) (sym j_is)
      ∙ ap (stops key) (sym (get_or-drop (home_of homes key) slots n Free))
      ∙ fails_before_first (stops key) rest n Free below

  -- The search for a key ends at its slot.
  pub EndsAt-slot_of : EndsAt homes slots key (slot_of homes slots key)
  EndsAt-slot_of = record {
    from = omega arith;
    passes = passed;
    ends = ap (stops key) (sym (get_or-drop (home_of homes key) slots first Free)) ∙ at_first;
  }

-- What is told of a key stands where the search for it ends.
pub last_at-ends : (homes : ℕ) (slots : List Slot) (key s : ℕ) → EndsAt homes slots key s → last_at homes slots key ≡ last_in (slot_at slots s)
last_at-ends homes slots key s ends =
    ap (λ (t : ℕ). last_in (slot_at slots t)) (same_end homes slots key (slot_of homes slots key) s (EndsAt-slot_of homes slots key) ends)

-- A slot where the search for a key ends is free, or of this key.
pub own_key : (key : ℕ) (slot : Slot) → stops key slot ≡ true → (slot ≡ Free) ⊎ (key_in slot ≡ Some key)
own_key key Free stop = inl refl
own_key key (Gone own) stop = inr (ap (λ (k : ℕ). Some k) (eqb-true own key stop))
own_key key (Told at own place) stop = inr (ap (λ (k : ℕ). Some k) (eqb-true own key stop))

-- A slot of a key ends the search for this key alone.
stops-key : (key k : ℕ) (slot : Slot) → key_in slot ≡ Some k → stops key slot ≡ (k == key)
stops-key key k Free is = absurd (none_some k is)
stops-key key k (Gone own) is = ap (λ (q : ℕ). q == key) (same_some own k is)
stops-key key k (Told at own place) is = ap (λ (q : ℕ). q == key) (same_some own k is)

-- ---- the slot of a key

pub key_in-slot_with : (key : ℕ) (last : Option Last) → key_in (slot_with key last) ≡ Some key
key_in-slot_with key None = refl
key_in-slot_with key (Some last) = refl

last_in-slot_with : (key : ℕ) (last : Option Last) → last_in (slot_with key last) ≡ option_map (λ l. l.at) last
last_in-slot_with key None = refl
last_in-slot_with key (Some last) = refl

used-key : (slot : Slot) (key : ℕ) → key_in slot ≡ Some key → is_used slot ≡ true
used-key Free key is = absurd (none_some key is)
used-key (Gone own) key is = refl
used-key (Told at own place) key is = refl

-- ---- bits

-- A number has the bits that are added to it,
pub HasBit-own : (bits bit : ℕ) → HasBit (bit_or bits bit) bit
HasBit-own bits bit = and_or_self bit bits

-- and those that it had.
pub HasBit-more : (bits more bit : ℕ) → HasBit bits bit → HasBit (bit_or bits more) bit
HasBit-more bits more bit had = same_from_bits (bit_and (bit_or bits more) bit) bit (λ i.
    let was : min (bit_at bits i) (bit_at bit i) ≡ bit_at bit i = sym (bit_at_and bits bit i) ∙ ap (λ (b : ℕ). bit_at b i) had in
    let now : bit_at (bit_and (bit_or bits more) bit) i ≡ min (max (bit_at bits i) (bit_at more i)) (bit_at bit i) =
    bit_at_and (bit_or bits more) bit i ∙ ap (λ (b : ℕ). min b (bit_at bit i)) (bit_at_or bits more i) in
    now ∙ kept (bit_at bits i) (bit_at more i) (bit_at bit i) was)
  where
    kept : (b m k : ℕ) → min b k ≡ k → min (max b m) k ≡ k
    kept b m k was = omega (arith, was)

-- ---- how many slots are used

-- One slot more is used at most.
pub used-set : (slots : List Slot) (s : ℕ) (slot : Slot) → length (filter is_used (set slots s slot)) ≤ suc (length (filter is_used slots))
used-set [] s slot = omega arith
used-set (x ∷ slots) zero slot = elim (cases_Bool (is_used x)) [
  | inl used ↦ elim (cases_Bool (is_used slot)) [ inl now ↦ simp (used, now) (omega arith) | inr now ↦ simp (used, now) (omega arith) ]
  | inr free ↦ elim (cases_Bool (is_used slot)) [ inl now ↦ simp (free, now) (omega arith) | inr now ↦ simp (free, now) (omega arith) ]
]
used-set (x ∷ slots) (suc s) slot =
    let rest = used-set slots s slot in
    elim (cases_Bool (is_used x)) [
      | inl used ↦ simp used (omega (arith, rest))
      | inr free ↦ simp free (omega (arith, rest))
    ]

-- None more where the slot was used.
pub used-set_used : (slots : List Slot) (s : ℕ) (slot : Slot) → is_used (slot_at slots s) ≡ true → length (filter is_used (set slots s slot)) ≤ length (filter is_used slots)
used-set_used [] s slot was = omega arith
used-set_used (x ∷ slots) zero slot was = elim (cases_Bool (is_used slot)) [
  | inl now ↦ simp (was, now) (omega arith)
  | inr now ↦ simp (was, now) (omega arith)
]
used-set_used (x ∷ slots) (suc s) slot was =
    let rest = used-set_used slots s slot was in
    elim (cases_Bool (is_used x)) [
      | inl used ↦ simp used (omega (arith, rest))
      | inr free ↦ simp free (omega (arith, rest))
    ]

-- Where all slots from one on are used, there are no more slots than that one and the used ones.
used-from : (slots : List Slot) (h : ℕ) → ((j : ℕ) → h ≤ j → j < length slots → is_used (slot_at slots j) ≡ true) → length slots ≤ h + length (filter is_used slots)
used-from [] h all = omega arith
used-from (x ∷ slots) zero all =
    let rest = used-from slots 0 (λ j from less. all (suc j) (omega arith) (omega (arith, less))) in
    let used : is_used x ≡ true = all 0 (omega arith) (omega arith) in
    simp used (omega (arith, rest))
used-from (x ∷ slots) (suc h) all =
    let rest = used-from slots h (λ j from less. all (suc j) (omega (arith, from)) (omega (arith, less))) in
    elim (cases_Bool (is_used x)) [
      | inl used ↦ simp used (omega (arith, rest))
      | inr free ↦ simp free (omega (arith, rest))
    ]

stops-free : (key : ℕ) (slot : Slot) → stops key slot ≡ false → is_used slot ≡ true
stops-free key Free passes = absurd (true-false passes)
stops-free key (Gone own) passes = refl
stops-free key (Told at own place) passes = refl

-- A part of so many homes is less than all of them.
pub part-below : (x homes : ℕ) → x < 2 ^ 32 → 0 < homes → x * homes % 2 ^ 64 / 2 ^ 32 < homes
part-below x homes small some = elim (cases_lt homes (2 ^ 32)) [
  | inl few ↦
      let most : homes * x ≤ homes * 4294967295 = mul-le-mul_left homes (omega arith) in
      let whole : x * homes % 2 ^ 64 ≤ x * homes = omega arith in
      omega (arith, most, whole)
  | inr many ↦ omega (arith, many)
]

pub home_of-below : (homes key : ℕ) → 0 < homes → home_of homes key < homes
unfolding home_of
home_of-below homes key some = part-below (key * 0x9e37_79b9_7f4a_7c15 % 2 ^ 64 / 2 ^ 32) homes (omega arith) some

-- ---- for callers

-- There is a slot for every key, while fewer came than there is room for.
pub slot_of-room : (keys came homes : ℕ) (slots : List Slot) (key : ℕ) → IsTable keys came homes slots → came ≤ keys
    → slot_of homes slots key < length slots
slot_of-room keys came homes slots key table few = elim (cases_lt (slot_of homes slots key) (length slots)) [
  | inl less ↦ less
  | inr past ↦
      let ends = EndsAt-slot_of homes slots key in
      let all = used-from slots (home_of homes key) (λ j from less. stops-free key (slot_at slots j) (ends.passes j from (omega (arith, past, less)))) in
      let low : home_of homes key < homes = home_of-below homes key table.some in
      let room : length slots ≡ homes + keys = table.room in
      let used : length (filter is_used slots) ≤ came = table.few in
      absurd (omega (arith, all, low, room, used, few))
]

-- A key of which a place is told has a slot.
pub slot_of-last : (homes : ℕ) (slots : List Slot) (key k : ℕ) → last_at homes slots key ≡ Some k
    → (slot_of homes slots key < length slots) × (is_used (slot_at slots (slot_of homes slots key)) ≡ true)
slot_of-last homes slots key k told = (
  elim (cases_lt (slot_of homes slots key) (length slots)) [
    | inl less ↦ less
    | inr past ↦ absurd (none_some k (sym (ap last_in (get_or_past slots (slot_of homes slots key) Free past)) ∙ told))
  ],
  used (slot_at slots (slot_of homes slots key)) told,
)
  where
    used : (slot : Slot) → last_in slot ≡ Some k → is_used slot ≡ true
    used Free e = absurd (none_some k e)
    used (Gone own) e = absurd (none_some k e)
    used (Told at own place) e = refl

-- A slot where no key came from its home with its bit is free.
pub free-without_bit : (homes : ℕ) (bits : List ℕ) (slots : List Slot) (key : ℕ) → HasBits homes bits slots
    → (HasBit (get_or bits (home_of homes key) 0) (bit_of key) → ⊥) → slot_at slots (slot_of homes slots key) ≡ Free
free-without_bit homes bits slots key has none = elim (own_key key (slot_at slots (slot_of homes slots key)) (EndsAt-slot_of homes slots key).ends) [
  | inl free ↦ free
  | inr own ↦ absurd (none (has (slot_of homes slots key) key own))
]

-- Once a key has a slot, its home has its bit, and the others have theirs.
pub HasBits-set : (homes : ℕ) (bits : List ℕ) (slots : List Slot) (key s : ℕ) (last : Option Last) → s < length slots → home_of homes key < length bits
    → HasBits homes bits slots → HasBits homes (set bits (home_of homes key) (bit_or (get_or bits (home_of homes key) 0) (bit_of key))) (set slots s (slot_with key last))
HasBits-set homes bits slots key s last there home has t k is = elim (cases_eq t s) [
  | inl e ↦
      let own : key_in (slot_at after t) ≡ Some key = ap (λ (i : ℕ). key_in (slot_at after i)) e ∙ ap key_in (get_or-set_same slots s (slot_with key last) Free there) ∙ key_in-slot_with key last in
      subst (λ (q : ℕ). HasBit (get_or more (home_of homes q) 0) (bit_of q)) (same_some key k (sym own ∙ is))
      (subst (λ (b : ℕ). HasBit b (bit_of key)) (sym (get_or-set_same bits h with_bit 0 home)) (HasBit-own (get_or bits h 0) (bit_of key)))
  | inr apart ↦ elim (cases_eq (home_of homes k) h) [
    | inl e ↦
        let had : HasBit (get_or bits h 0) (bit_of k) = subst (λ (i : ℕ). HasBit (get_or bits i 0) (bit_of k)) e (has t k (was apart)) in
        subst (λ (i : ℕ). HasBit (get_or more i 0) (bit_of k)) (sym e)
        (subst (λ (b : ℕ). HasBit b (bit_of k)) (sym (get_or-set_same bits h with_bit 0 home)) (HasBit-more (get_or bits h 0) (bit_of key) (bit_of k) had))
    | inr elsewhere ↦ subst (λ (b : ℕ). HasBit b (bit_of k)) (sym (get_or-set_other bits h (home_of homes k) with_bit 0 elsewhere)) (has t k (was apart))
  ]
]
  where
    h : ℕ
    h = home_of homes key

    with_bit : ℕ
    with_bit = bit_or (get_or bits h 0) (bit_of key)

    more : List ℕ
    more = set bits h with_bit

    after : List Slot
    after = set slots s (slot_with key last)

    was : t ≢ s → key_in (slot_at slots t) ≡ Some k
    was apart = ap key_in (sym (get_or-set_other slots s t (slot_with key last) Free apart)) ∙ is

module _ (homes : ℕ) (slots : List Slot) (key : ℕ) (last : Option Last) (room : slot_of homes slots key < length slots) (found : (s k : ℕ) → key_in (slot_at slots s) ≡ Some k → EndsAt homes slots k s) where
  abbrev own : ℕ
  own = slot_of homes slots key

  abbrev after : List Slot
  after = set slots own (slot_with key last)

  at_own : slot_at after own ≡ slot_with key last
  at_own = get_or-set_same slots own (slot_with key last) Free room

  own_is : key_in (slot_at after own) ≡ Some key
  own_is = ap key_in at_own ∙ key_in-slot_with key last

  at_other : (j : ℕ) → j ≢ own → slot_at after j ≡ slot_at slots j
  at_other j ne = get_or-set_other slots own j (slot_with key last) Free ne

  -- The search for another key ends where it ended.
  kept_end : (k s : ℕ) → EndsAt homes slots k s → k ≢ key → s ≢ own → EndsAt homes after k s
  kept_end k s ends other ne = record {
    from = ends.from;
    passes = λ j from less. elim (cases_eq j own) [
      | inl e ↦ ap (λ (i : ℕ). stops k (slot_at after i)) e ∙ stops-key k key (slot_at after own) own_is ∙ ne_eqb key k (λ (same : key ≡ k). other (sym same))
      | inr apart ↦ ap (stops k) (at_other j apart) ∙ ends.passes j from less
    ];
    ends = ap (stops k) (at_other s ne) ∙ ends.ends;
  }

  own_end : EndsAt homes after key own
  own_end =
      let ends = EndsAt-slot_of homes slots key in
      record {
        from = ends.from;
        passes = λ j from less. ap (stops key) (at_other j (omega (arith, less))) ∙ ends.passes j from less;
        ends = stops-key key key (slot_at after own) own_is ∙ eq-eqb key key refl;
      }

  -- Of the key this is told,
  pub last_at-set_same : last_at homes after key ≡ option_map (λ l. l.at) last
  last_at-set_same = last_at-ends homes after key own own_end ∙ ap last_in at_own ∙ last_in-slot_with key last

  other_key : (s k : ℕ) → key_in (slot_at slots s) ≡ Some k → s ≢ own → k ≢ key
  other_key s k is ne same =
      let ends : EndsAt homes slots key s = subst (λ (q : ℕ). EndsAt homes slots q s) same (found s k is) in
      ne (same_end homes slots key s own ends (EndsAt-slot_of homes slots key))

  -- every key stands where the search for it ends,
  pub found-set : (s k : ℕ) → key_in (slot_at after s) ≡ Some k → EndsAt homes after k s
  found-set s k is = elim (cases_eq s own) [
    | inl e ↦
        let k_is : key ≡ k = same_some key k (sym own_is ∙ ap (λ (t : ℕ). key_in (slot_at after t)) (sym e) ∙ is) in
        subst (λ (q : ℕ). EndsAt homes after q s) k_is (subst (λ (t : ℕ). EndsAt homes after key t) (sym e) own_end)
    | inr ne ↦
        let was : key_in (slot_at slots s) ≡ Some k = ap key_in (sym (at_other s ne)) ∙ is in
        kept_end k s (found s k was) (other_key s k was ne) ne
  ]

  -- and of any other key what was told.
  pub last_at-set_other : (k : ℕ) → k ≢ key → last_at homes after k ≡ last_at homes slots k
  last_at-set_other k other = elim (own_key k (slot_at slots was) was_end.ends) [
    | inl free ↦ elim (own_key k (slot_at after now) now_end.ends) [
      | inl free_now ↦ ap last_in free_now ∙ sym (ap last_in free)
      | inr there ↦ absurd (no_more free there)
    ]
    | inr there ↦
        let apart : was ≢ own = λ e. other (eqb-true k key (sym (stops-key key k (slot_at slots was) there) ∙ ap (λ (t : ℕ). stops key (slot_at slots t)) e ∙ (EndsAt-slot_of homes slots key).ends)) in
        last_at-ends homes after k was (kept_end k was was_end other apart) ∙ ap last_in (at_other was apart)
  ]
    where
      was : ℕ
      was = slot_of homes slots k

      was_end : EndsAt homes slots k was
      was_end = EndsAt-slot_of homes slots k

      now : ℕ
      now = slot_of homes after k

      now_end : EndsAt homes after k now
      now_end = EndsAt-slot_of homes after k

      no_more : slot_at slots was ≡ Free → key_in (slot_at after now) ≡ Some k → ⊥
      no_more free is =
          let apart : now ≢ own = λ e. other (same_some k key (sym is ∙ ap (λ (t : ℕ). key_in (slot_at after t)) e ∙ own_is)) in
          let before : key_in (slot_at slots now) ≡ Some k = ap key_in (sym (at_other now apart)) ∙ is in
          let same : now ≡ was = same_end homes slots k now was (found now k before) was_end in
          none_some k (sym (ap key_in free) ∙ ap (λ (t : ℕ). key_in (slot_at slots t)) (sym same) ∙ before)
