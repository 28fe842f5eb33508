-- The marked sectors are those that are listed; once each of them is written none is marked.
use Rattle.std.proofs.Common.{◌≡◌, ◌⊎◌, inl, inr, ⊎_elim, ℕ, zero, suc, ◌+◌, ◌/◌, ◌<◌, ◌≢◌, Bool, true, false, nat_eq, cond, if◌then◌else◌, List, [], ◌∷◌, ◌++◌, length, get_or, refl, sym, ◌∙◌, ap, subst, arith, Option, Some, None}
use Rattle.std.specs.List.{Contains}
use Rattle.std.specs.List.Sorted.{IsNonDecreasing}
use Rattle.std.specs.Map.{lookup}
use Rattle.std.specs.Option.{is_some, option_map, option_or}
use Rattle.std.proofs.lemmas.Bool.{cases_Bool, cases_eq, cases_lt, eqb-true, eq-eqb, false≢true}
use Rattle.std.proofs.lemmas.Option.{none-some}
use Rattle.std.proofs.lemmas.List.Elements.{Contains-append_left, Contains-append_right, Contains-append_cases}
use Rattle.buffer_cache.specs.declared.held.Held.{Held}
use Rattle.buffer_cache.specs.declared.held.HeldSectors.{HeldSectors}
use Rattle.buffer_cache.specs.declared.held.Scratch.{Scratch}
use Rattle.buffer_cache.specs.HeldSectors.{held_in, in_scratch, marked_keys, marked_scratch, unmarked, with_change}
use Rattle.buffer_cache.specs.Cached.{IsAmidMarked, IsAmidWriteBack, cached, held_or, is_marked, marked_of, with_marked, written_back}
use Rattle.disk_model.specs.Disk.{Content, last_image, with_run}
use Rattle.disk_model.specs.Moments.{EachMoment, FromStart, HasNow, IsChangedBy, content_now}
use Rattle.disk_model.proofs.DiskLemmas.{sector_in-one, with_run-other, with_sectors-in}
use Rattle.buffer_cache.proofs.HeldLemmas.{held_in-with_change_other}
use Rattle.buffer_cache.proofs.CachedLemmas.{changed_now, told_at_end, told_on, written_unmarked}

head_is : (x : ℕ) (xs : List ℕ) → Contains (x ∷ xs) x
head_is x xs = Contains-append_left (x ∷ []) xs x (0, omega arith, refl)

in_tail : (y x : ℕ) (xs : List ℕ) → Contains xs x → Contains (y ∷ xs) x
in_tail y x xs has = Contains-append_right (y ∷ []) xs x has

cons_cases : (y x : ℕ) (xs : List ℕ) → Contains (y ∷ xs) x → (x ≡ y) ⊎ Contains xs x
cons_cases y x xs has = ⊎_elim (λ one. inl (only y x one)) inr (Contains-append_cases (y ∷ []) xs x has)
  where
    only : (y x : ℕ) → Contains (y ∷ []) x → x ≡ y
    only y x one = at_index one.0 one.1 one.2
      where
        at_index : (k : ℕ) → k < 1 → get_or (y ∷ []) k x ≡ x → x ≡ y
        at_index zero low is = sym is
        at_index (suc k) low is = absurd (omega (arith, low))

no_element : (x : ℕ) → Contains [] x → ⊥
no_element x has = omega (arith, has.1)

-- ---- what is listed

listed_recent : (es : List (ℕ × Held)) (s : ℕ) (held : Held) → lookup (nat_eq s) es ≡ Some held → held.marked ≡ true → Contains (marked_keys es) s
listed_recent [] s held found marked = absurd (cc)
listed_recent (e ∷ es) s held found marked = elim (cases_Bool (nat_eq s e.0)) [
  | inl y ↦
      let first : Some e.1 ≡ Some held = sym (ap (λ (b : Bool). cond b (Some e.1) (lookup (nat_eq s) es)) y) ∙ found in
      let mark : e.1.marked ≡ true = cc in
      let key : s ≡ e.0 = eqb-true s e.0 y in
      subst (λ (xs : List ℕ). Contains xs s) (sym (ap (λ (b : Bool). if b then e.0 ∷ marked_keys es else marked_keys es) mark))
      (subst (λ (k : ℕ). Contains (e.0 ∷ marked_keys es) k) (sym key) (head_is e.0 (marked_keys es)))
  | inr n ↦
      let rest = listed_recent es s held (sym (ap (λ (b : Bool). cond b (Some e.1) (lookup (nat_eq s) es)) n) ∙ found) marked in
      elim (cases_Bool e.1.marked) [
        | inl y ↦ subst (λ (xs : List ℕ). Contains xs s) (sym (ap (λ (b : Bool). if b then e.0 ∷ marked_keys es else marked_keys es) y)) (in_tail e.0 s (marked_keys es) rest)
        | inr no_mark ↦ subst (λ (xs : List ℕ). Contains xs s) (sym (ap (λ (b : Bool). if b then e.0 ∷ marked_keys es else marked_keys es) no_mark)) rest
      ]
]

found_recent : (es : List (ℕ × Held)) (s : ℕ) → Contains (marked_keys es) s → is_some (lookup (nat_eq s) es) ≡ true
found_recent [] s has = absurd (no_element s has)
found_recent (e ∷ es) s has = elim (cases_Bool (nat_eq s e.0)) [
  | inl y ↦ ap (λ (b : Bool). is_some (cond b (Some e.1) (lookup (nat_eq s) es))) y
  | inr n ↦
      ap (λ (b : Bool). is_some (cond b (Some e.1) (lookup (nat_eq s) es))) n ∙ found_recent es s (elim (cases_Bool e.1.marked) [
        | inl y ↦ ⊎_elim
            (λ same. absurd (false≢true (sym n ∙ eq-eqb s e.0 same)))
            (λ rest. rest)
            (cons_cases e.0 s (marked_keys es) (subst (λ (xs : List ℕ). Contains xs s) (ap (λ (b : Bool). if b then e.0 ∷ marked_keys es else marked_keys es) y) has))
        | inr no_mark ↦ subst (λ (xs : List ℕ). Contains xs s) (ap (λ (b : Bool). if b then e.0 ∷ marked_keys es else marked_keys es) no_mark) has
      ])
]

listed_scratch : (o : Option Scratch) (s : ℕ) → marked_of (in_scratch o s) ≡ true → Contains (marked_scratch o) s
listed_scratch None s marked = absurd (false≢true marked)
listed_scratch (Some scratch) s marked = elim (cases_Bool (nat_eq scratch.at s)) [
  | inl y ↦
      let mark : scratch.held.marked ≡ true = sym (ap (λ (b : Bool). marked_of (if b then Some scratch.held else None)) y) ∙ marked in
      subst (λ (xs : List ℕ). Contains xs s) (sym (ap (λ (b : Bool). if b then scratch.at ∷ [] else []) mark))
      (subst (λ (k : ℕ). Contains (scratch.at ∷ []) k) (eqb-true scratch.at s y) (head_is scratch.at []))
  | inr n ↦ absurd (false≢true (sym (ap (λ (b : Bool). marked_of (if b then Some scratch.held else None)) n) ∙ marked))
]

found_scratch : (o : Option Scratch) (s : ℕ) → Contains (marked_scratch o) s → is_some (in_scratch o s) ≡ true
found_scratch None s has = absurd (no_element s has)
found_scratch (Some scratch) s has = elim (cases_Bool scratch.held.marked) [
  | inl y ↦
      let same : s ≡ scratch.at = ⊎_elim (λ e. e) (λ none. absurd (no_element s none)) (cons_cases scratch.at s [] (subst (λ (xs : List ℕ). Contains xs s) (ap (λ (b : Bool). if b then scratch.at ∷ [] else []) y) has)) in
      ap (λ (b : Bool). is_some (if b then Some scratch.held else None)) (eq-eqb scratch.at s (sym same))
  | inr n ↦ absurd (no_element s (subst (λ (xs : List ℕ). Contains xs s) (ap (λ (b : Bool). if b then scratch.at ∷ [] else []) n) has))
]

-- Each marked sector is listed.
pub marked_is_listed : (sectors : HeldSectors) (s : ℕ) → is_marked sectors s ≡ true → Contains (marked_keys sectors.recent.entries ++ marked_scratch sectors.scratch) s
marked_is_listed sectors s marked = by_place (lookup (nat_eq s) sectors.recent.entries) refl marked
  where
    by_place : (o : Option Held) → lookup (nat_eq s) sectors.recent.entries ≡ o → marked_of (option_or o (in_scratch sectors.scratch s)) ≡ true
        → Contains (marked_keys sectors.recent.entries ++ marked_scratch sectors.scratch) s
    by_place None is marked = Contains-append_right (marked_keys sectors.recent.entries) (marked_scratch sectors.scratch) s (listed_scratch sectors.scratch s marked)
    by_place (Some held) is marked = Contains-append_left (marked_keys sectors.recent.entries) (marked_scratch sectors.scratch) s (listed_recent sectors.recent.entries s held is marked)

-- Each listed sector is held.
pub listed_is_held : (sectors : HeldSectors) (s : ℕ) → Contains (marked_keys sectors.recent.entries ++ marked_scratch sectors.scratch) s → is_some (held_in sectors s) ≡ true
listed_is_held sectors s has = elim (Contains-append_cases (marked_keys sectors.recent.entries) (marked_scratch sectors.scratch) s has) [
  | inl recent ↦ some_or (lookup (nat_eq s) sectors.recent.entries) (in_scratch sectors.scratch s) (found_recent sectors.recent.entries s recent)
  | inr scratch ↦ or_some (lookup (nat_eq s) sectors.recent.entries) (in_scratch sectors.scratch s) (found_scratch sectors.scratch s scratch)
]
  where
    some_or : (a b : Option Held) → is_some a ≡ true → is_some (option_or a b) ≡ true
    some_or None b e = absurd (false≢true e)
    some_or (Some held) b e = refl

    or_some : (a b : Option Held) → is_some b ≡ true → is_some (option_or a b) ≡ true
    or_some None b e = e
    or_some (Some held) b e = refl

index_of : (xs : List ℕ) (s : ℕ) → Contains xs s → (k : ℕ) × (k < length xs) × (get_or xs k 0 ≡ s)
index_of xs s has = (has.0, has.1, same_element xs has.0 has.1 ∙ has.2)
  where
    same_element : (ys : List ℕ) (k : ℕ) → k < length ys → get_or ys k 0 ≡ get_or ys k s
    same_element [] k low = absurd (omega (arith, low))
    same_element (y ∷ ys) zero low = refl
    same_element (y ∷ ys) (suc k) low = same_element ys k (omega (arith, low))

-- What holds at each index holds of each element.
pub each_contained : (P : ℕ → Type 0) (xs : List ℕ) (s : ℕ) → ((k : ℕ) → k < length xs → P (get_or xs k 0)) → Contains xs s → P s
each_contained P xs s each has =
    let place = index_of xs s has in
    subst P place.2 (each place.0 place.1)

-- ---- the content while they are written

-- Of what was marked at the start, what is not marked now has its bytes as one more candidate, and every other sector is as it was.
pub record HasWritten (start sectors : HeldSectors) (c m : Content) : Type 0 where
  pub waits : (s : ℕ) → is_marked sectors s ≡ is_marked start s → m s ≡ c s
  pub done : (s : ℕ) → is_marked start s ≡ true → is_marked sectors s ≡ false → m s ≡ c s ++ cached start c s ∷ []

pub HasWritten-none : (sectors : HeldSectors) (c : Content) → HasWritten sectors sectors c c
HasWritten-none sectors c = record { waits = λ s same. refl; done = λ s marked clear. absurd (false≢true (sym clear ∙ marked)) }

-- What is held and marked now was so at the start.
abbrev pub AreFromStart : HeldSectors → HeldSectors → Type 0
AreFromStart start sectors = (s : ℕ) → is_marked sectors s ≡ true → held_in sectors s ≡ held_in start s

marked_before : (start sectors : HeldSectors) (s : ℕ) → AreFromStart start sectors → is_marked sectors s ≡ true → is_marked start s ≡ true
marked_before start sectors s from marked = ap marked_of (sym (from s marked)) ∙ marked

-- What was not marked at the start is not marked.
clear_now : (start sectors : HeldSectors) (s : ℕ) → AreFromStart start sectors → is_marked start s ≡ false → is_marked sectors s ≡ false
clear_now start sectors s from clear = elim (cases_Bool (is_marked sectors s)) [
  | inl y ↦ absurd (false≢true (sym clear ∙ marked_before start sectors s from y))
  | inr n ↦ n
]

with_marked_other : (at s : ℕ) (o : Option Held) (m : Content) → ((held : Held) → o ≡ Some held → length held.bytes ≡ 512) → s ≢ at → with_marked at o m s ≡ m s
with_marked_other at s None m whole ne = refl
with_marked_other at s (Some held) m whole ne = elim (cases_Bool held.marked) [
  | inl y ↦ ap (λ (b : Bool). (if b then with_run at held.bytes m else m) s) y ∙ with_run-other at held.bytes m s (whole held refl) ne
  | inr n ↦ ap (λ (b : Bool). (if b then with_run at held.bytes m else m) s) n
]

with_marked_clear : (at : ℕ) (o : Option Held) (m : Content) → marked_of o ≡ false → with_marked at o m ≡ m
with_marked_clear at None m clear = refl
with_marked_clear at (Some held) m clear = ap (λ (b : Bool). if b then with_run at held.bytes m else m) clear

with_marked_here : (at : ℕ) (o : Option Held) (m : Content) (x : List ℕ) → ((held : Held) → o ≡ Some held → length held.bytes ≡ 512) → marked_of o ≡ true → with_marked at o m at ≡ m at ++ held_or o x ∷ []
with_marked_here at None m x whole marked = absurd (false≢true marked)
with_marked_here at (Some held) m x whole marked =
    ap (λ (b : Bool). (if b then with_run at held.bytes m else m) at) marked
    ∙ with_sectors-in (length held.bytes / 512) at held.bytes m at (omega arith) (omega (arith, whole held refl))
    ∙ ap (λ (y : List ℕ). m at ++ y ∷ []) (sector_in-one held.bytes at (whole held refl))

-- One more sector is written.
pub HasWritten-more : (start sectors : HeldSectors) (at : ℕ) (c m : Content) → AreFromStart start sectors → ((held : Held) → held_in sectors at ≡ Some held → length held.bytes ≡ 512)
    → HasWritten start sectors c m → HasWritten start (with_change at unmarked sectors) c (with_marked at (held_in sectors at) m)
HasWritten-more start sectors at c m from whole has = record {
  waits = λ s same. elim (cases_eq s at) [
    | inl here ↦
        let clear : is_marked start at ≡ false = ap (is_marked start) (sym here) ∙ sym same ∙ ap (is_marked (with_change at unmarked sectors)) here ∙ written_unmarked sectors at in
        let now = clear_now start sectors at from clear in
        subst (λ (k : ℕ). with_marked at (held_in sectors at) m k ≡ c k) (sym here) (ap (λ (x : Content). x at) (with_marked_clear at (held_in sectors at) m now) ∙ has.waits at (now ∙ sym clear))
    | inr ne ↦ with_marked_other at s (held_in sectors at) m whole ne ∙ has.waits s (ap marked_of (sym (held_in-with_change_other at s unmarked sectors ne)) ∙ same)
  ];
  done = λ s marked clear. elim (cases_eq s at) [
    | inl here ↦ subst (λ (k : ℕ). with_marked at (held_in sectors at) m k ≡ c k ++ cached start c k ∷ []) (sym here)
        (written_here start sectors at c m from whole has (ap (is_marked start) (sym here) ∙ marked))
    | inr ne ↦ with_marked_other at s (held_in sectors at) m whole ne ∙ has.done s marked (ap marked_of (sym (held_in-with_change_other at s unmarked sectors ne)) ∙ clear)
  ];
}
  where
    written_here : (start sectors : HeldSectors) (at : ℕ) (c m : Content) → AreFromStart start sectors → ((held : Held) → held_in sectors at ≡ Some held → length held.bytes ≡ 512)
        → HasWritten start sectors c m → is_marked start at ≡ true → with_marked at (held_in sectors at) m at ≡ c at ++ cached start c at ∷ []
    written_here start sectors at c m from whole has marked = elim (cases_Bool (is_marked sectors at)) [
      | inl y ↦
          with_marked_here at (held_in sectors at) m (last_image c at) whole y
          ∙ ap (λ (o : Option Held). m at ++ held_or o (last_image c at) ∷ []) (from at y)
          ∙ ap (λ (xs : List (List ℕ)). xs ++ cached start c at ∷ []) (has.waits at (y ∙ sym marked))
      | inr n ↦ ap (λ (x : Content). x at) (with_marked_clear at (held_in sectors at) m n) ∙ has.done at marked n
    ]

written_is : (start : HeldSectors) (c m : Content) (s : ℕ) → (is_marked start s ≡ true → m s ≡ c s ++ cached start c s ∷ []) → (is_marked start s ≡ false → m s ≡ c s) → m s ≡ written_back start c s
written_is start c m s marked clear = elim (cases_Bool (is_marked start s)) [
  | inl y ↦ marked y ∙ sym (ap (λ (b : Bool). if b then c s ++ cached start c s ∷ [] else c s) y)
  | inr n ↦ clear n ∙ sym (ap (λ (b : Bool). if b then c s ++ cached start c s ∷ [] else c s) n)
]

-- Where none is marked any more, all are written.
pub all_written : (start sectors : HeldSectors) (c m : Content) → ((s : ℕ) → is_marked sectors s ≡ false) → HasWritten start sectors c m → m ≡ written_back start c
all_written start sectors c m clear has = λ i s. written_is start c m s (λ marked. has.done s marked (clear s)) (λ off. has.waits s (clear s ∙ sym off)) i

-- Where all that is marked below a sector is written, and nothing behind it, the content while that one is written is such.
pub amid_write_back : (start sectors : HeldSectors) (at : ℕ) (c m d : Content) → AreFromStart start sectors → HasWritten start sectors c m
    → ((s : ℕ) → s < at → is_marked sectors s ≡ false) → ((s : ℕ) → at < s → is_marked sectors s ≡ is_marked start s) → IsAmidMarked at (held_in sectors at) m d → IsAmidWriteBack start c d
amid_write_back start sectors at c m d from has below above amid = elim (cases_Bool (is_marked sectors at)) [
  | inl y ↦ elim (amid.each at) [
    | inl same ↦ record {
      end = at;
      below = λ s low. elsewhere s (λ e. omega (arith, low, e)) ∙ before s low;
      above = λ s high. elim (cases_eq s at) [
        | inl here ↦ subst (λ (k : ℕ). d k ≡ c k) (sym here) (same ∙ has.waits at (y ∙ sym (marked_before start sectors at from y)))
        | inr ne ↦ elsewhere s ne ∙ has.waits s (above s (omega (arith, high, ne)))
      ];
    }
    | inr more ↦
        let bytes : more.1 ≡ cached start c at =
        more.2.bytes ∙ ap (λ (o : Option Held). held_or o (last_image c at)) (sym more.2.is ∙ from at y) in
        let here_is : d at ≡ written_back start c at =
        more.3 ∙ ap (λ (xs : List (List ℕ)). xs ++ more.1 ∷ []) (has.waits at (y ∙ sym (marked_before start sectors at from y))) ∙ ap (λ (x : List ℕ). c at ++ x ∷ []) bytes
        ∙ sym (ap (λ (b : Bool). if b then c at ++ cached start c at ∷ [] else c at) (marked_before start sectors at from y)) in
        up_to here_is
  ]
  | inr n ↦ up_to (unwritten n ∙ written_is start c m at (λ marked. has.done at marked n) (λ off. has.waits at (n ∙ sym off)))
]
  where
    elsewhere : (s : ℕ) → s ≢ at → d s ≡ m s
    elsewhere s ne = elim (amid.each s) [
      | inl same ↦ same
      | inr more ↦ absurd (ne more.0)
    ]

    unwritten : is_marked sectors at ≡ false → d at ≡ m at
    unwritten n = elim (amid.each at) [
      | inl same ↦ same
      | inr more ↦ absurd (false≢true (sym n ∙ ap marked_of more.2.is ∙ more.2.marked))
    ]

    before : (s : ℕ) → s < at → m s ≡ written_back start c s
    before s low = written_is start c m s (λ marked. has.done s marked (below s low)) (λ off. has.waits s (below s low ∙ sym off))

    up_to : d at ≡ written_back start c at → IsAmidWriteBack start c d
    up_to here_is = record {
      end = at + 1;
      below = λ s low. elim (cases_eq s at) [
        | inl here ↦ subst (λ (k : ℕ). d k ≡ written_back start c k) (sym here) here_is
        | inr ne ↦ elsewhere s ne ∙ before s (omega (arith, low, ne))
      ];
      above = λ s high. elsewhere s (λ e. omega (arith, high, e)) ∙ has.waits s (above s (omega (arith, high)));
    }

-- ---- the order

-- Below the next sector of the list all that was marked is written.
pub below_is_clear : (start sectors : HeldSectors) (xs : List ℕ) (i : ℕ) → AreFromStart start sectors → IsNonDecreasing xs → i < length xs → ((s : ℕ) → is_marked start s ≡ true → Contains xs s)
    → ((k : ℕ) → k < i → is_marked sectors (get_or xs k 0) ≡ false) → (s : ℕ) → s < get_or xs i 0 → is_marked sectors s ≡ false
below_is_clear start sectors xs i from rises low listed done s below = elim (cases_Bool (is_marked sectors s)) [
  | inl y ↦
      let place = index_of xs s (listed s (marked_before start sectors s from y)) in
      elim (cases_lt place.0 i) [
        | inl earlier ↦ ap (is_marked sectors) (sym place.2) ∙ done place.0 earlier
        | inr later ↦ let order = rises i place.0 0 later place.1 in absurd (omega (arith, order, below, place.2))
      ]
  | inr n ↦ n
]

-- Behind it nothing is written.
pub above_waits : (start sectors : HeldSectors) (xs : List ℕ) (i : ℕ) → AreFromStart start sectors → IsNonDecreasing xs → i < length xs
    → ((s : ℕ) → is_marked start s ≡ true → is_marked sectors s ≡ false → (k : ℕ) × (k < i) × (get_or xs k 0 ≡ s)) → (s : ℕ) → get_or xs i 0 < s → is_marked sectors s ≡ is_marked start s
above_waits start sectors xs i from rises low gone s above = elim (cases_Bool (is_marked sectors s)) [
  | inl y ↦ y ∙ sym (marked_before start sectors s from y)
  | inr n ↦ elim (cases_Bool (is_marked start s)) [
    | inl marked ↦ let was = gone s marked n in let order = rises was.0 i 0 (omega (arith, was.1)) low in absurd (omega (arith, order, above, was.2))
    | inr off ↦ n ∙ sym off
  ]
]

-- One more sector is gone.
pub gone_more : (start sectors : HeldSectors) (xs : List ℕ) (i : ℕ) → ((s : ℕ) → is_marked start s ≡ true → is_marked sectors s ≡ false → (k : ℕ) × (k < i) × (get_or xs k 0 ≡ s))
    → (s : ℕ) → is_marked start s ≡ true → is_marked (with_change (get_or xs i 0) unmarked sectors) s ≡ false → (k : ℕ) × (k < i + 1) × (get_or xs k 0 ≡ s)
gone_more start sectors xs i gone s marked clear = elim (cases_eq s (get_or xs i 0)) [
  | inl here ↦ (i, omega arith, sym here)
  | inr ne ↦
      let was = gone s marked (ap marked_of (sym (held_in-with_change_other (get_or xs i 0) s unmarked sectors ne)) ∙ clear) in
      (was.0, omega (arith, was.1), was.2)
]

-- ---- the calls

-- What the content is at the end, where it is so wherever both are told.
pub changed_from : {a b : List Content} (P : Content → Content → Type 0) (f : Content → Content) → ((c : Content) → P c c) → EachMoment a b (FromStart a P)
    → ((c : Content) → content_now a ≡ Some c → (d : Content) → content_now b ≡ Some d → d ≡ f c) → content_now b ≡ option_map f (content_now a)
changed_from {a} {b} P f same moments is = by_start (content_now a) refl (content_now b) refl
  where
    by_start : (o : Option Content) → content_now a ≡ o → (n : Option Content) → content_now b ≡ n → n ≡ option_map f o
    by_start None at_start None at_end = refl
    by_start None at_start (Some d) at_end =
        let start = (told_at_end P same moments).each d at_end in
        absurd (none-some start.0 (sym at_start ∙ start.1))
    by_start (Some c) at_start n at_end =
        let end = told_on moments c at_start in
        sym at_end ∙ end.1 ∙ ap (λ (x : Content). Some x) (is c at_start end.0 end.1)

pub write_back_none : (sectors : HeldSectors) (c : Content) → IsAmidWriteBack sectors c c
write_back_none sectors c = record { end = 0; below = λ s low. absurd (omega (arith, low)); above = λ s high. refl }

-- One more sector is written, where the content is told.
pub written_more : (a b d : List Content) (start sectors : HeldSectors) (at : ℕ) → AreFromStart start sectors → ((held : Held) → held_in sectors at ≡ Some held → length held.bytes ≡ 512)
    → HasNow (λ c. HasNow (HasWritten start sectors c) b) a → IsChangedBy (with_marked at (held_in sectors at)) b d → HasNow (λ c. HasNow (HasWritten start (with_change at unmarked sectors) c) d) a
written_more a b d start sectors at from whole has changed c told e told_end =
    let before = changed_now (with_marked at (held_in sectors at)) (content_now b) (content_now d) changed e told_end in
    subst (HasWritten start (with_change at unmarked sectors) c) (sym before.2) (HasWritten-more start sectors at c before.0 from whole (has c told before.0 before.1))
