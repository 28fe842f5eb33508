-- A record grows by an event: the contents and the moments after it.
use Rattle.std.proofs.Common.{◌≡◌, ◌≢◌, inl, inr, ℕ, zero, suc, ◌+◌, ◌-◌, ◌/◌, ◌≤◌, Bool, List, [], ◌∷◌, ◌++◌, length, refl, sym, ◌∙◌, ap, subst, arith, append_assoc, append-nil, add-one, length-append, take, drop, ◌*◌, eq-eqb, Option, Some, IsSomeAnd, if◌then◌else◌, ◌==◌}
use Rattle.std.specs.Option.{option_map, ForSome}
use Rattle.std.proofs.lemmas.Option.{same_Some}
use Rattle.std.proofs.lemmas.Bool.{cases_Bool, eqb-true}
use Rattle.disk_model.specs.Disk.{Content, newest_only, sector_in, with_sectors, with_run, AddsSome, Reads}
use Rattle.disk_model.specs.Moments.{content_now, EachMoment, FromStart}
use Rattle.disk_model.proofs.DiskLemmas.{within_or_out, with_sectors-in, with_sectors-out}
use Rattle.disk_model.proofs.MomentsLemmas.{no_moment, EachMoment-then}
use Rattle.sector_disk.specs.declared.record.Event.{Event}
use Rattle.sector_disk.specs.declared.record.Event.TheVariants.{Write, Sync}
use Rattle.sector_disk.specs.ReadsAnImage.{content_now-moments_of}
use Rattle.sector_disk.specs.Record.{after_event, content_of_bytes, content_after, moments_after, moments_of, sector_writes}

-- ---- one event more

pub content_after-push : (c : Content) (es : List Event) (e : Event) → content_after c (es ++ e ∷ []) ≡ after_event e (content_after c es)
content_after-push c [] e = refl
content_after-push c (f ∷ es) e = content_after-push (after_event f c) es e

pub moments_after-push : (c : Content) (past : List Content) (es : List Event) (e : Event) → moments_after c past (es ++ e ∷ []) ≡ after_event e (content_after c es) ∷ moments_after c past es
moments_after-push c past [] e = refl
moments_after-push c past (f ∷ es) e = moments_after-push (after_event f c) (c ∷ past) es e

one_event : (base : List ℕ) (es : List Event) (e : Event) (P : Content → Type 0) → P (after_event e (content_after (content_of_bytes base) es)) → EachMoment (moments_of base es) (moments_of base (es ++ e ∷ [])) P
one_event base es e P p = record { since = after_event e (content_after (content_of_bytes base) es) ∷ []; grows = moments_after-push (content_of_bytes base) [] es e; each = (p, tt) }

from_start : (base : List ℕ) (es : List Event) (P : Content → Content → Type 0) (c : Content) → P (content_after (content_of_bytes base) es) c → FromStart (moments_of base es) P c
from_start base es P c p = subst (λ (o : Option Content). IsSomeAnd o (λ start. P start c)) (sym (content_now-moments_of base es)) p

-- ---- the sectors of a run, one event each

one_sector_more : (at n : ℕ) (bytes : List ℕ) (c : Content) (s : ℕ) → after_event (Write (at + n) (sector_in bytes n)) (with_sectors n at bytes c) s ≡ with_sectors (suc n) at bytes c s
one_sector_more at n bytes c s = elim (cases_Bool (s == at + n)) [
  | inl holds ↦
      let same : s ≡ at + n = eqb-true s (at + n) holds in
      let place : s - at ≡ n = omega (arith, same) in
      ap (λ (b : Bool). if b then with_sectors n at bytes c s ++ sector_in bytes n ∷ [] else with_sectors n at bytes c s) holds
      ∙ ap (λ (xs : List (List ℕ)). xs ++ sector_in bytes n ∷ []) (with_sectors-out n at bytes c s (λ low high. omega (arith, same, high)))
      ∙ ap (λ (k : ℕ). c s ++ sector_in bytes k ∷ []) (sym place)
      ∙ sym (with_sectors-in (suc n) at bytes c s (omega (arith, same)) (omega (arith, same)))
  | inr fails ↦
      let other : s ≢ at + n = λ e. absurd (cc (fails, eq-eqb s (at + n) e)) in
      ap (λ (b : Bool). if b then with_sectors n at bytes c s ++ sector_in bytes n ∷ [] else with_sectors n at bytes c s) fails
      ∙ elim (within_or_out at n s) [
        | inl w ↦ with_sectors-in n at bytes c s w.0 w.1 ∙ sym (with_sectors-in (suc n) at bytes c s w.0 (omega (arith, w.1)))
        | inr out ↦ with_sectors-out n at bytes c s out ∙ sym (with_sectors-out (suc n) at bytes c s (λ low high. out low (omega (arith, low, high, other))))
      ]
]

pub content_after-writes : (c : Content) (es : List Event) (at : ℕ) (bytes : List ℕ) (n : ℕ) → content_after c (es ++ sector_writes at bytes n) ≡ with_sectors n at bytes (content_after c es)
content_after-writes c es at bytes zero =
    ap (content_after c) (append-nil es) ∙ (λ i s. sym (with_sectors-out 0 at bytes (content_after c es) s (λ low high. omega (arith, low, high))) i)
content_after-writes c es at bytes (suc n) =
    ap (content_after c) (sym (append_assoc es (sector_writes at bytes n) (Write (at + n) (sector_in bytes n) ∷ [])))
    ∙ content_after-push c (es ++ sector_writes at bytes n) (Write (at + n) (sector_in bytes n))
    ∙ ap (after_event (Write (at + n) (sector_in bytes n))) (content_after-writes c es at bytes n)
    ∙ (λ i s. one_sector_more at n bytes (content_after c es) s i)

with_sectors-adds : (at n : ℕ) (bytes : List ℕ) (c : Content) → n ≤ length bytes / 512 → AddsSome at bytes c (with_sectors n at bytes c)
with_sectors-adds at n bytes c le s = elim (within_or_out at n s) [
  | inl w ↦ inr (with_sectors-in n at bytes c s w.0 w.1 ∙ sym (with_sectors-in (length bytes / 512) at bytes c s w.0 (omega (arith, w.1, le))))
  | inr out ↦ inl (with_sectors-out n at bytes c s out)
]

moments_of-writes : (base : List ℕ) (es : List Event) (at : ℕ) (bytes : List ℕ) (n : ℕ) → n ≤ length bytes / 512
    → EachMoment (moments_of base es) (moments_of base (es ++ sector_writes at bytes n)) (FromStart (moments_of base es) (AddsSome at bytes))
moments_of-writes base es at bytes zero le =
    subst (λ (fs : List Event). EachMoment (moments_of base es) (moments_of base fs) (FromStart (moments_of base es) (AddsSome at bytes))) (sym (append-nil es)) (no_moment (moments_of base es) (FromStart (moments_of base es) (AddsSome at bytes)))
moments_of-writes base es at bytes (suc n) le =
    let so_far = moments_of-writes base es at bytes n (omega (arith, le)) in
    let e = Write (at + n) (sector_in bytes n) in
    let done = es ++ sector_writes at bytes n in
    let start = content_after (content_of_bytes base) es in
    let leaves : content_after (content_of_bytes base) (done ++ e ∷ []) ≡ with_sectors (suc n) at bytes start =
    ap (content_after (content_of_bytes base)) (append_assoc es (sector_writes at bytes n) (e ∷ [])) ∙ content_after-writes (content_of_bytes base) es at bytes (suc n) in
    let now : FromStart (moments_of base es) (AddsSome at bytes) (after_event e (content_after (content_of_bytes base) done)) =
    from_start base es (AddsSome at bytes) (after_event e (content_after (content_of_bytes base) done))
    (subst (λ (c : Content). AddsSome at bytes start c) (sym leaves ∙ content_after-push (content_of_bytes base) done e) (with_sectors-adds at (suc n) bytes start le)) in
    let next = one_event base done e (FromStart (moments_of base es) (AddsSome at bytes)) now in
    subst (λ (fs : List Event). EachMoment (moments_of base es) (moments_of base fs) (FromStart (moments_of base es) (AddsSome at bytes))) (append_assoc es (sector_writes at bytes n) (e ∷ [])) (EachMoment-then so_far next)

-- ---- sector writes, one after the other

pub length-sector_writes : (at : ℕ) (bytes : List ℕ) (count : ℕ) → length (sector_writes at bytes count) ≡ count
length-sector_writes at bytes zero = refl
length-sector_writes at bytes (suc n) =
    length-append (sector_writes at bytes n) (Write (at + n) (sector_in bytes n) ∷ []) ∙ ap (λ (k : ℕ). k + 1) (length-sector_writes at bytes n) ∙ add-one n

-- One sector more was written.
pub one_write_more : (old so_far new : List Event) (at : ℕ) (bytes : List ℕ) (k : ℕ) (sector : List ℕ) → so_far ≡ old ++ sector_writes at bytes k → new ≡ so_far ++ Write (at + k) sector ∷ []
    → sector ≡ take (512 * k + 512 - 512 * k) (drop (512 * k) bytes) → new ≡ old ++ sector_writes at bytes (k + 1)
one_write_more old so_far new at bytes k sector e pushed copied =
    let size : 512 * k + 512 - 512 * k ≡ 512 = omega arith in
    let is : sector ≡ sector_in bytes k = copied ∙ ap (λ (n : ℕ). take n (drop (512 * k) bytes)) size in
    rw add-one (pushed ∙ ap (λ (xs : List Event). xs ++ Write (at + k) sector ∷ []) e ∙ append_assoc old (sector_writes at bytes k) (Write (at + k) sector ∷ []) ∙ ap (λ (x : List ℕ). old ++ (sector_writes at bytes k ++ Write (at + k) x ∷ [])) is)

-- So many events there are then.
pub length_so_far : (old so_far : List Event) (at : ℕ) (bytes : List ℕ) (k : ℕ) → so_far ≡ old ++ sector_writes at bytes k → length so_far ≡ length old + k
length_so_far old so_far at bytes k e = ap length e ∙ length-append old (sector_writes at bytes k) ∙ ap (λ (n : ℕ). length old + n) (length-sector_writes at bytes k)

-- ---- for callers: the clauses of a disk

-- The content after a whole write.
pub write_is_recorded : (base : List ℕ) (es : List Event) (at : ℕ) (bytes : List ℕ) → content_now (moments_of base (es ++ sector_writes at bytes (length bytes / 512))) ≡ option_map (with_run at bytes) (content_now (moments_of base es))
write_is_recorded base es at bytes =
    content_now-moments_of base (es ++ sector_writes at bytes (length bytes / 512))
    ∙ ap (λ (c : Content). Some c) (content_after-writes (content_of_bytes base) es at bytes (length bytes / 512))
    ∙ ap (option_map (with_run at bytes)) (sym (content_now-moments_of base es))

-- The moments of a write, whole or cut.
pub moments_of_write : (base : List ℕ) (old new : List Event) (at : ℕ) (bytes : List ℕ) (n : ℕ) → n ≤ length bytes / 512 → new ≡ old ++ sector_writes at bytes n
    → EachMoment (moments_of base old) (moments_of base new) (FromStart (moments_of base old) (AddsSome at bytes))
moments_of_write base old new at bytes n le e =
    subst (λ (es : List Event). EachMoment (moments_of base old) (moments_of base es) (FromStart (moments_of base old) (AddsSome at bytes))) (sym e) (moments_of-writes base old at bytes n le)

pub sync_is_recorded : (base : List ℕ) (es : List Event) → content_now (moments_of base (es ++ Sync ∷ [])) ≡ option_map newest_only (content_now (moments_of base es))
sync_is_recorded base es =
    content_now-moments_of base (es ++ Sync ∷ [])
    ∙ ap (λ (c : Content). Some c) (content_after-push (content_of_bytes base) es Sync)
    ∙ ap (option_map newest_only) (sym (content_now-moments_of base es))

pub moments_of_sync : (base : List ℕ) (es : List Event) → EachMoment (moments_of base es) (moments_of base (es ++ Sync ∷ [])) (FromStart (moments_of base es) (λ start c. c ≡ newest_only start))
moments_of_sync base es =
    one_event base es Sync (FromStart (moments_of base es) (λ start c. c ≡ newest_only start))
    (from_start base es (λ start c. c ≡ newest_only start) (after_event Sync (content_after (content_of_bytes base) es)) refl)

pub reads_of_record : (base : List ℕ) (es : List Event) (at : ℕ) (bytes : List ℕ) → Reads at bytes (content_after (content_of_bytes base) es) → ForSome (content_now (moments_of base es)) (Reads at bytes)
reads_of_record base es at bytes reads c told = subst (λ (d : Content). Reads at bytes d) (same_Some _ _ (sym (content_now-moments_of base es) ∙ told)) reads
