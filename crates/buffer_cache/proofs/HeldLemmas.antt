-- What is held of each sector after a change, after a use, and once another one came in.
use Rattle.std.proofs.Common.{◌≡◌, ◌≢◌, ◌⊎◌, inl, inr, ℕ, zero, suc, ◌-◌, ◌≤◌, Bool, true, false, nat_eq, cond, List, [], ◌∷◌, length, take, refl, sym, ◌∙◌, ap, subst, arith, Option, Some, None}
use Rattle.std.specs.Bool.{OnFalse}
use Rattle.std.specs.Cmp.{nat_eq_equiv}
use Rattle.std.specs.List.{IsDistinct, slice_get}
use Rattle.std.specs.Map.{keys_of, lookup, lookup_entry, remove_entry, set_value}
use Rattle.std.specs.Option.{is_some, option_map, option_map_or, option_or}
use Rattle.std.proofs.lemmas.Bool.{cases_Bool, cases_eq, eqb-true, eq-eqb, ne_eqb}
use Rattle.std.proofs.lemmas.Map.{keys-set_value, lookup-set_value}
use Rattle.std.proofs.lemmas.Map.Entries.{length-keys_of, lookup_from_place, place_from_lookup}
use Rattle.std.proofs.lemmas.Option.{none-some, same_Some, slice_get-map, slice_get_within}
use Rattle.lru.specs.LruCache.{LruCache, IsValid, last_entry, promoted}
use Rattle.lru.proofs.Pairs.{lookup-lookup_entry}
use Rattle.lru.proofs.CallerLemmas.{Contains-lookup_entry}
use Rattle.buffer_cache.specs.declared.held.Held.{Held}
use Rattle.buffer_cache.specs.declared.held.HeldSectors.{HeldSectors}
use Rattle.buffer_cache.specs.declared.held.Scratch.{Scratch}
use Rattle.buffer_cache.specs.HeldSectors.{held_in, in_scratch, changed_at, changed_scratch, with_change, in_front, with_recent, unmarked, IsLast, CanPutOut, HoldsAlso, HoldsNoMore}

-- ---- look-ups

here : (k : ℕ) → nat_eq k k ≡ true
here k = eq-eqb k k refl

-- The test of another sector fails where that of this one holds.
apart_test : (at s : ℕ) → s ≢ at → (k : ℕ) → nat_eq at k ≡ true → nat_eq s k ≡ false
apart_test at s ne k same = ne_eqb s k (λ e. ne (e ∙ sym (eqb-true at k same)))

-- The test holds of one sector alone.
one_key : (at x y : ℕ) → nat_eq at x ≡ true → nat_eq at y ≡ nat_eq x y
one_key at x y same = ap (λ (k : ℕ). nat_eq k y) (eqb-true at x same)

-- An entry of another sector that goes is not missed.
without_other : (at s : ℕ) (es : List (ℕ × Held)) → s ≢ at → lookup (nat_eq s) (remove_entry (nat_eq at) es) ≡ lookup (nat_eq s) es
without_other at s [] ne = refl
without_other at s (e ∷ es) ne = elim (cases_Bool (nat_eq at e.0)) [
  | inl y ↦
      let off : nat_eq s e.0 ≡ false = apart_test at s ne e.0 y in
      ap (λ (b : Bool). lookup (nat_eq s) (cond b es (e ∷ remove_entry (nat_eq at) es))) y
      ∙ sym (ap (λ (b : Bool). cond b (Some e.1) (lookup (nat_eq s) es)) off)
  | inr n ↦
      ap (λ (b : Bool). lookup (nat_eq s) (cond b es (e ∷ remove_entry (nat_eq at) es))) n
      ∙ ap (λ (o : Option Held). cond (nat_eq s e.0) (Some e.1) o) (without_other at s es ne)
]

changed_same : (at : ℕ) (f : Held → Held) (es : List (ℕ × Held)) (o : Option Held) → lookup (nat_eq at) es ≡ o
    → lookup (nat_eq at) (option_map_or (λ held. set_value (nat_eq at) es (f held)) o es) ≡ option_map f o
changed_same at f es None e = e
changed_same at f es (Some held) e =
    lookup-set_value nat_eq_equiv (nat_eq at) (one_key at) at (f held) es (ap is_some e)
    ∙ ap (λ (b : Bool). cond b (Some (f held)) (lookup (nat_eq at) es)) (here at)

changed_other : (at s : ℕ) (f : Held → Held) (es : List (ℕ × Held)) (o : Option Held) → lookup (nat_eq at) es ≡ o → s ≢ at
    → lookup (nat_eq s) (option_map_or (λ held. set_value (nat_eq at) es (f held)) o es) ≡ lookup (nat_eq s) es
changed_other at s f es None is ne = refl
changed_other at s f es (Some held) is ne =
    lookup-set_value nat_eq_equiv (nat_eq at) (one_key at) s (f held) es (ap is_some is)
    ∙ ap (λ (b : Bool). cond b (Some (f held)) (lookup (nat_eq s) es)) (ne_eqb at s (λ e. ne (sym e)))

keys_changed : (at : ℕ) (f : Held → Held) (es : List (ℕ × Held)) (o : Option Held)
    → keys_of (option_map_or (λ held. set_value (nat_eq at) es (f held)) o es) ≡ keys_of es
keys_changed at f es None = refl
keys_changed at f es (Some held) = keys-set_value (nat_eq at) es (f held)

pub lookup-changed_at : (at : ℕ) (f : Held → Held) (es : List (ℕ × Held)) → lookup (nat_eq at) (changed_at at f es) ≡ option_map f (lookup (nat_eq at) es)
lookup-changed_at at f es = changed_same at f es (lookup (nat_eq at) es) refl

pub lookup-changed_other : (at s : ℕ) (f : Held → Held) (es : List (ℕ × Held)) → s ≢ at → lookup (nat_eq s) (changed_at at f es) ≡ lookup (nat_eq s) es
lookup-changed_other at s f es ne = changed_other at s f es (lookup (nat_eq at) es) refl ne

pub keys-changed_at : (at : ℕ) (f : Held → Held) (es : List (ℕ × Held)) → keys_of (changed_at at f es) ≡ keys_of es
keys-changed_at at f es = keys_changed at f es (lookup (nat_eq at) es)

pub length-changed_at : (at : ℕ) (f : Held → Held) (es : List (ℕ × Held)) → length (changed_at at f es) ≡ length es
length-changed_at at f es = sym (length-keys_of (changed_at at f es)) ∙ ap length (keys-changed_at at f es) ∙ length-keys_of es

-- ---- the scratch buffer

pub in_scratch-changed : (at : ℕ) (f : Held → Held) (scratch : Option Scratch) → in_scratch (changed_scratch at f scratch) at ≡ option_map f (in_scratch scratch at)
in_scratch-changed at f None = refl
in_scratch-changed at f (Some scratch) = elim (cases_Bool (nat_eq scratch.at at)) [
  | inl y ↦ rw y (rw y)
  | inr n ↦ rw n (rw n)
]

pub in_scratch-changed_other : (at s : ℕ) (f : Held → Held) (scratch : Option Scratch) → s ≢ at → in_scratch (changed_scratch at f scratch) s ≡ in_scratch scratch s
in_scratch-changed_other at s f None ne = refl
in_scratch-changed_other at s f (Some scratch) ne = elim (cases_Bool (nat_eq scratch.at at)) [
  | inl y ↦ let off : nat_eq scratch.at s ≡ false = ne_eqb scratch.at s (λ e. ne (sym e ∙ eqb-true scratch.at at y)) in rw (y, off)
  | inr n ↦ rw n
]

-- ---- what is held

or_map : (f : Held → Held) (a b : Option Held) → option_or (option_map f a) (option_map f b) ≡ option_map f (option_or a b)
or_map f None b = refl
or_map f (Some held) b = refl

pub held_in-with_change : (at : ℕ) (f : Held → Held) (sectors : HeldSectors) → held_in (with_change at f sectors) at ≡ option_map f (held_in sectors at)
held_in-with_change at f sectors =
    ap (λ (o : Option Held). option_or o (in_scratch (changed_scratch at f sectors.scratch) at)) (lookup-changed_at at f sectors.recent.entries)
    ∙ ap (λ (o : Option Held). option_or (option_map f (lookup (nat_eq at) sectors.recent.entries)) o) (in_scratch-changed at f sectors.scratch)
    ∙ or_map f (lookup (nat_eq at) sectors.recent.entries) (in_scratch sectors.scratch at)

pub held_in-with_change_other : (at s : ℕ) (f : Held → Held) (sectors : HeldSectors) → s ≢ at → held_in (with_change at f sectors) s ≡ held_in sectors s
held_in-with_change_other at s f sectors ne =
    ap (λ (o : Option Held). option_or o (in_scratch (changed_scratch at f sectors.scratch) s)) (lookup-changed_other at s f sectors.recent.entries ne)
    ∙ ap (λ (o : Option Held). option_or (lookup (nat_eq s) sectors.recent.entries) o) (in_scratch-changed_other at s f sectors.scratch ne)

-- What is not held is not held after a change.
missed-with_change : (at s : ℕ) (f : Held → Held) (sectors : HeldSectors) → held_in sectors s ≡ None → held_in (with_change at f sectors) s ≡ None
missed-with_change at s f sectors missed = elim (cases_eq s at) [
  | inl same ↦ ap (held_in (with_change at f sectors)) same ∙ held_in-with_change at f sectors ∙ ap (option_map f) (ap (held_in sectors) (sym same) ∙ missed)
  | inr ne ↦ held_in-with_change_other at s f sectors ne ∙ missed
]

pub HoldsNoMore-with_change : (at : ℕ) (f : Held → Held) (sectors : HeldSectors) → HoldsNoMore sectors (with_change at f sectors)
HoldsNoMore-with_change at f sectors = record { each = λ s missed. missed-with_change at s f sectors missed }

-- A sector that is among the recent ones.
pub held_in-recent : (sectors : HeldSectors) (s : ℕ) (held : Held) → lookup (nat_eq s) sectors.recent.entries ≡ Some held → held_in sectors s ≡ Some held
held_in-recent sectors s held e = ap (λ (o : Option Held). option_or o (in_scratch sectors.scratch s)) e

-- And one that is not.
pub held_in-scratch : (sectors : HeldSectors) (s : ℕ) → lookup (nat_eq s) sectors.recent.entries ≡ None → held_in sectors s ≡ in_scratch sectors.scratch s
held_in-scratch sectors s e = ap (λ (o : Option Held). option_or o (in_scratch sectors.scratch s)) e

pub in_scratch-here : (scratch : Scratch) → in_scratch (Some scratch) scratch.at ≡ Some scratch.held
in_scratch-here scratch = rw (here scratch.at)

pub in_scratch-other : (scratch : Scratch) (s : ℕ) → s ≢ scratch.at → in_scratch (Some scratch) s ≡ None
in_scratch-other scratch s ne = let off : nat_eq scratch.at s ≡ false = ne_eqb scratch.at s (λ e. ne (sym e)) in rw off

or_none : (a b : Option Held) → option_or a b ≡ None → (a ≡ None) × (b ≡ None)
or_none None b e = (refl, e)
or_none (Some held) b e = absurd (cc)

-- What is not held is in neither place.
pub missed_in_both : (sectors : HeldSectors) (s : ℕ) → held_in sectors s ≡ None → (lookup (nat_eq s) sectors.recent.entries ≡ None) × (in_scratch sectors.scratch s ≡ None)
missed_in_both sectors s e = or_none (lookup (nat_eq s) sectors.recent.entries) (in_scratch sectors.scratch s) e

-- ---- a use

no_entry : (at : ℕ) (es : List (ℕ × Held)) (o : Option (ℕ × Held)) → lookup_entry (nat_eq at) es ≡ o → lookup (nat_eq at) es ≡ None → o ≡ None
no_entry at es None e missed = refl
no_entry at es (Some f) e missed = absurd (none-some f.1 (sym missed ∙ sym (lookup-lookup_entry (nat_eq at) es) ∙ ap (option_map (λ (p : ℕ × Held). p.1)) e))

-- What is not found among the entries has no entry.
pub lookup_entry-missed : (at : ℕ) (es : List (ℕ × Held)) → lookup (nat_eq at) es ≡ None → lookup_entry (nat_eq at) es ≡ None
lookup_entry-missed at es missed = no_entry at es (lookup_entry (nat_eq at) es) refl missed

-- A use of a sector that is not among the recent ones changes nothing.
pub in_front-missed : (at : ℕ) (sectors : HeldSectors) → is_some (lookup (nat_eq at) sectors.recent.entries) ≡ false → in_front at sectors ≡ sectors
in_front-missed at sectors missed =
    let absent = lookup_entry-missed at sectors.recent.entries (none_of (lookup (nat_eq at) sectors.recent.entries) missed) in
    ap (λ (o : Option (ℕ × Held)). record {
      recent = record { entries = option_map_or (λ (e : ℕ × Held). e ∷ remove_entry (nat_eq at) sectors.recent.entries) o sectors.recent.entries; cap = sectors.recent.cap };
      scratch = sectors.scratch;
    }) absent
  where
    none_of : (o : Option Held) → is_some o ≡ false → o ≡ None
    none_of None e = refl
    none_of (Some held) e = absurd (cc)

-- A fact that holds in any case.
pub on_false : (b : Bool) {P : Type 0} → P → OnFalse b P
on_false true p = tt
on_false false p = p

to_front : (at s : ℕ) (es : List (ℕ × Held)) (o : Option (ℕ × Held)) → lookup_entry (nat_eq at) es ≡ o
    → lookup (nat_eq s) (option_map_or (λ e. e ∷ remove_entry (nat_eq at) es) o es) ≡ lookup (nat_eq s) es
to_front at s es None e = refl
to_front at s es (Some f) e =
    let key : nat_eq at f.0 ≡ true = (Contains-lookup_entry (nat_eq at) es f e).1 in
    elim (cases_eq s at) [
      | inl same ↦
          let test : nat_eq s f.0 ≡ true = subst (λ (k : ℕ). nat_eq k f.0 ≡ true) (sym same) key in
          ap (λ (b : Bool). cond b (Some f.1) (lookup (nat_eq s) (remove_entry (nat_eq at) es))) test
          ∙ sym (ap (option_map (λ (p : ℕ × Held). p.1)) e)
          ∙ lookup-lookup_entry (nat_eq at) es
          ∙ ap (λ (k : ℕ). lookup (nat_eq k) es) (sym same)
      | inr ne ↦
          ap (λ (b : Bool). cond b (Some f.1) (lookup (nat_eq s) (remove_entry (nat_eq at) es))) (apart_test at s ne f.0 key)
          ∙ without_other at s es ne
    ]

pub lookup-promoted : (at s : ℕ) (es : List (ℕ × Held)) → lookup (nat_eq s) (promoted (nat_eq at) es) ≡ lookup (nat_eq s) es
lookup-promoted at s es = to_front at s es (lookup_entry (nat_eq at) es) refl

-- A use of a sector changes nothing of what is held.
pub held_in-in_front : (at s : ℕ) (sectors : HeldSectors) → held_in (in_front at sectors) s ≡ held_in sectors s
held_in-in_front at s sectors = ap (λ (o : Option Held). option_or o (in_scratch sectors.scratch s)) (lookup-promoted at s sectors.recent.entries)

-- ---- the one that goes out

-- The least recently used sector is found, where no two have one key.
pub lookup-last : (recent : LruCache ℕ Held) (s : ℕ) (held : Held) → IsDistinct nat_eq (keys_of recent.entries) → last_entry recent.entries ≡ Some (s, held) → lookup (nat_eq s) recent.entries ≡ Some held
lookup-last recent s held distinct e = lookup_from_place nat_eq_equiv recent.entries (length recent.entries - 1) s held distinct e

-- Once its mark is cleared, it can go out.
pub CanPutOut-unmarked : (sectors : HeldSectors) (at : ℕ) → IsValid nat_eq sectors.recent → IsLast sectors.recent at → CanPutOut (with_change at unmarked sectors)
CanPutOut-unmarked sectors at valid is_last =
    let es = sectors.recent.entries in
    let fs = changed_at at unmarked es in
    let size : length fs ≡ length es = length-changed_at at unmarked es in
    record {
      last = λ s held full e.
          let at_end : slice_get fs (length es - 1) ≡ Some (s, held) = ap (λ (n : ℕ). slice_get fs (n - 1)) (sym size) ∙ e in
          let key : Some s ≡ Some at =
          ap (option_map (λ (p : ℕ × Held). p.0)) (sym at_end)
          ∙ sym (slice_get-map (λ (p : ℕ × Held). p.0) fs (length es - 1))
          ∙ ap (λ (ks : List ℕ). slice_get ks (length es - 1)) (keys-changed_at at unmarked es)
          ∙ slice_get-map (λ (p : ℕ × Held). p.0) es (length es - 1)
          ∙ ap (option_map (λ (p : ℕ × Held). p.0)) is_last.is in
          let distinct : IsDistinct nat_eq (keys_of fs) = subst (IsDistinct nat_eq) (sym (keys-changed_at at unmarked es)) valid.0 in
          let found : lookup (nat_eq s) fs ≡ Some held = lookup_from_place nat_eq_equiv fs (length es - 1) s held distinct at_end in
          let same : s ≡ at = same_Some _ _ key in
          let of_last : lookup (nat_eq at) es ≡ Some is_last.held = lookup-last sectors.recent at is_last.held valid.0 is_last.is in
          let now : Some held ≡ Some (unmarked is_last.held) =
          sym found ∙ ap (λ (k : ℕ). lookup (nat_eq k) fs) same ∙ lookup-changed_at at unmarked es ∙ ap (option_map unmarked) of_last in
          ap (λ (h : Held). h.marked) (same_Some _ _ now);
      fits = omega (arith, size, valid.1);
      some = valid.2;
    }

-- Among the first entries a look-up finds what it finds among all, or the entry stands behind them.
pub lookup-take : (s n : ℕ) (es : List (ℕ × Held)) → (lookup (nat_eq s) (take n es) ≡ lookup (nat_eq s) es)
    ⊎ ((i : ℕ) × (held : Held) × (n ≤ i) × (slice_get es i ≡ Some (s, held)) × (lookup (nat_eq s) (take n es) ≡ None) × (lookup (nat_eq s) es ≡ Some held))
lookup-take s zero [] = inl refl
lookup-take s (suc n) [] = inl refl
lookup-take s zero (e ∷ es) = by_found (lookup (nat_eq s) (e ∷ es)) refl
  where
    by_found : (o : Option Held) → lookup (nat_eq s) (e ∷ es) ≡ o → (None ≡ lookup (nat_eq s) (e ∷ es))
        ⊎ ((i : ℕ) × (held : Held) × (0 ≤ i) × (slice_get (e ∷ es) i ≡ Some (s, held)) × (lookup {X = Held} (nat_eq s) [] ≡ None) × (lookup (nat_eq s) (e ∷ es) ≡ Some held))
    by_found None is = inl (sym is)
    by_found (Some held) is =
        let place = place_from_lookup (nat_eq s) (e ∷ es) held is in
        inr (place.0, held, omega arith, place.2 ∙ ap (λ (k : ℕ). Some (k, held)) (sym (eqb-true s place.1 place.3)), refl, is)
lookup-take s (suc n) (e ∷ es) = elim (cases_Bool (nat_eq s e.0)) [
  | inl y ↦ inl (rw y)
  | inr off ↦ elim (lookup-take s n es) [
    | inl same ↦ inl (rw off same)
    | inr behind ↦ inr (suc behind.0, behind.1, omega (arith, behind.2), behind.3, rw off behind.4, rw off behind.5)
  ]
]

-- The entries once a sector came in.
pub entries-with_recent : (at : ℕ) (held : Held) (sectors : HeldSectors) → held_in sectors at ≡ None
    → (with_recent at held sectors).recent.entries ≡ (at, held) ∷ take (sectors.recent.cap - 1) sectors.recent.entries
entries-with_recent at held sectors missed =
    ap (λ (o : Option (ℕ × Held)). option_map_or (λ (e : ℕ × Held). (e.0, held) ∷ remove_entry (nat_eq at) sectors.recent.entries) o ((at, held) ∷ take (sectors.recent.cap - 1) sectors.recent.entries))
    (lookup_entry-missed at sectors.recent.entries (missed_in_both sectors at missed).0)

pub lookup-with_recent : (at : ℕ) (held : Held) (sectors : HeldSectors) → held_in sectors at ≡ None → lookup (nat_eq at) (with_recent at held sectors).recent.entries ≡ Some held
lookup-with_recent at held sectors missed =
    ap (lookup (nat_eq at)) (entries-with_recent at held sectors missed)
    ∙ ap (λ (b : Bool). cond b (Some held) (lookup (nat_eq at) (take (sectors.recent.cap - 1) sectors.recent.entries))) (here at)

pub lookup-with_recent_other : (at s : ℕ) (held : Held) (sectors : HeldSectors) → held_in sectors at ≡ None → s ≢ at
    → lookup (nat_eq s) (with_recent at held sectors).recent.entries ≡ lookup (nat_eq s) (take (sectors.recent.cap - 1) sectors.recent.entries)
lookup-with_recent_other at s held sectors missed ne =
    ap (lookup (nat_eq s)) (entries-with_recent at held sectors missed)
    ∙ ap (λ (b : Bool). cond b (Some held) (lookup (nat_eq s) (take (sectors.recent.cap - 1) sectors.recent.entries))) (ne_eqb s at ne)

-- Of a recent sector that is missed afterwards, the entry was the last one.
pub last_goes_out : (sectors : HeldSectors) (s i : ℕ) (held : Held) → CanPutOut sectors → sectors.recent.cap - 1 ≤ i → slice_get sectors.recent.entries i ≡ Some (s, held) → held.marked ≡ false
last_goes_out sectors s i held can behind at =
    let low = slice_get_within sectors.recent.entries i (s, held) at in
    let is_last : i ≡ length sectors.recent.entries - 1 = omega (arith, low, behind, can.fits, can.some) in
    can.last s held (omega (arith, low, behind, can.fits, can.some)) (ap (slice_get sectors.recent.entries) (sym is_last) ∙ at)

-- ---- what is not held

pub HoldsNoMore-same : (sectors : HeldSectors) → HoldsNoMore sectors sectors
HoldsNoMore-same sectors = record { each = λ s missed. missed }

pub HoldsNoMore-then : (r s t : HeldSectors) → HoldsNoMore r s → HoldsNoMore s t → HoldsNoMore r t
HoldsNoMore-then r s t first second = record { each = λ sector missed. second.each sector (first.each sector missed) }

pub HoldsAlso-after : (at : ℕ) (r s t : HeldSectors) → HoldsNoMore r s → HoldsAlso at s t → HoldsAlso at r t
HoldsAlso-after at r s t first second = record { each = λ sector ne missed. second.each sector ne (first.each sector missed) }

pub HoldsAlso-before : (at : ℕ) (r s t : HeldSectors) → HoldsAlso at r s → HoldsNoMore s t → HoldsAlso at r t
HoldsAlso-before at r s t first second = record { each = λ sector ne missed. second.each sector (first.each sector ne missed) }

pub HoldsAlso-no_more : (at : ℕ) (r s : HeldSectors) → HoldsNoMore r s → HoldsAlso at r s
HoldsAlso-no_more at r s first = record { each = λ sector ne missed. first.each sector missed }

pub HoldsAlso-in_front : (at : ℕ) (sectors : HeldSectors) → HoldsAlso at sectors (in_front at sectors)
HoldsAlso-in_front at sectors = record { each = λ s ne missed. held_in-in_front at s sectors ∙ missed }
