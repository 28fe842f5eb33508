-- The counts of a ring, section by section.
use Rattle.std.proofs.Common.{◌≡◌, inl, inr, ℕ, zero, suc, ◌+◌, ◌-◌, ◌%◌, ◌<◌, ◌≤◌, min, Bool, true, false, ◌||◌, ltb, leb, cond, if◌then◌else◌, refl, sym, ◌∙◌, ap, subst, arith, Option, Some, None, option_map, List, [], ◌∷◌, ◌++◌, length, take, drop, map, sum_by, length-append}
use Rattle.std.specs.List.{AllByRecursion, list_any}
use Rattle.std.proofs.lemmas.Bool.{cases_Bool, cases_lt, true≢false, false≢true, and_left, lt-ltb, le-ltb, le-leb, lt-leb, eq-eqb, ne_eqb}
use Rattle.std.proofs.lemmas.List.{length-map, map-append}
use Rattle.std.proofs.lemmas.List.Sums.{sum_by-cons, sum_by-append}
use Rattle.image_model.specs.Geometry.{Geometry}
use Rattle.image_model.specs.Section.{Entry}
use Rattle.device_model.specs.Journal.{SectionState, Open, Closed, Committed, Free, SectionCounts, is_open, is_uncommitted, is_committed, has_open_end, with_entry, opened_with, closed_end, committed_batch, place_oldest, is_all_placed, as_settled}
use Rattle.device_model.proofs.RingLemmas.{unfreed_weight, mod-suc}
use Rattle.place_model.proofs.EachLemmas.{all_append}
use Rattle.journal_model.specs.Ring.{entries_of, unplaced_from, takes_more, put_last}
use Rattle.journal_laws.specs.Device.{block_of, committed_counts, IsOpened, AreOpened}

-- ---- sections that are committed or free

abbrev pub AreDone : List SectionCounts → Type 0
AreDone sections = AllByRecursion (λ s. is_uncommitted s.state ≡ false) sections

pub all_imply : {A : Type 0} (P Q : A → Type 0) (xs : List A) → ((x : A) → P x → Q x) → AllByRecursion P xs → AllByRecursion Q xs
all_imply P Q [] imply all = tt
all_imply P Q (x ∷ xs) imply all = (imply x all.0, all_imply P Q xs imply all.1)

done-free : (free : List SectionCounts) → AllByRecursion (λ (s : SectionCounts). s.state ≡ Free) free → AreDone free
done-free free all = all_imply (λ (s : SectionCounts). s.state ≡ Free) (λ (s : SectionCounts). is_uncommitted s.state ≡ false) free (λ s is. ap is_uncommitted is) all

done-committed : (g : Geometry) (p : ℕ) (xs : List (List Entry)) → AreDone (committed_counts g p xs)
done-committed g p [] = tt
done-committed g p (x ∷ xs) = (refl, done-committed g (p - length x) xs)

pub done-front : (g : Geometry) (p : ℕ) (free : List SectionCounts) (xs : List (List Entry)) → AllByRecursion (λ (s : SectionCounts). s.state ≡ Free) free → AreDone (free ++ committed_counts g p xs)
done-front g p free xs all = all_append (λ (s : SectionCounts). is_uncommitted s.state ≡ false) free (committed_counts g p xs) (done-free free all) (done-committed g p xs)

not_open : (state : SectionState) → is_uncommitted state ≡ false → is_open state ≡ false
not_open Open is = absurd (true≢false is)
not_open Closed is = refl
not_open Committed is = refl
not_open Free is = refl

not_committed : (state : SectionState) → is_uncommitted state ≡ true → is_committed state ≡ false
not_committed Open is = refl
not_committed Closed is = refl
not_committed Committed is = absurd (false≢true is)
not_committed Free is = absurd (false≢true is)

pub has_open_end-front : (entries : ℕ) (front op : List SectionCounts) → AreDone front → has_open_end entries (front ++ op) ≡ has_open_end entries op
has_open_end-front entries [] op done = refl
has_open_end-front entries (s ∷ []) [] done = and_left (is_open s.state) (ltb (length s.blocks) entries) (not_open s.state done.0)
has_open_end-front entries (s ∷ []) (o ∷ op) done = refl
has_open_end-front entries (s ∷ t ∷ front) op done = has_open_end-front entries (t ∷ front) op done.1

pub with_entry-front : (b : ℕ) (front : List SectionCounts) (o : SectionCounts) (op : List SectionCounts) → with_entry b (front ++ o ∷ op) ≡ front ++ with_entry b (o ∷ op)
with_entry-front b [] o op = refl
with_entry-front b (s ∷ []) o op = refl
with_entry-front b (s ∷ t ∷ front) o op = ap (λ (xs : List SectionCounts). s ∷ xs) (with_entry-front b (t ∷ front) o op)

pub closed_end-front : (front : List SectionCounts) (o : SectionCounts) (op : List SectionCounts) → closed_end (front ++ o ∷ op) ≡ front ++ closed_end (o ∷ op)
closed_end-front [] o op = refl
closed_end-front (s ∷ []) o op = refl
closed_end-front (s ∷ t ∷ front) o op = ap (λ (xs : List SectionCounts). s ∷ xs) (closed_end-front (t ∷ front) o op)

pub batch-front : (ring at : ℕ) (front op : List SectionCounts) → AreDone front → committed_batch ring at (front ++ op) ≡ front ++ committed_batch ring (at + length front) op
batch-front ring at [] op done = let e : at ≡ at + 0 = omega arith in ap (λ (n : ℕ). committed_batch ring n op) e
batch-front ring at (s ∷ front) op done =
    let e : suc at + length front ≡ at + suc (length front) = omega arith in
    rw done.0 (ap (λ (xs : List SectionCounts). s ∷ xs) (batch-front ring (suc at) front op done.1 ∙ ap (λ (n : ℕ). front ++ committed_batch ring n op) e))

pub any-front : (front op : List SectionCounts) → AreDone front → list_any (λ (s : SectionCounts). is_uncommitted s.state) (front ++ op) ≡ list_any (λ (s : SectionCounts). is_uncommitted s.state) op
any-front [] op done = refl
any-front (s ∷ front) op done = rw done.0 (any-front front op done.1)

-- ---- how many are not free

count-free : (free : List SectionCounts) → AllByRecursion (λ (s : SectionCounts). s.state ≡ Free) free → sum_by unfreed_weight free ≡ 0
count-free [] all = refl
count-free (s ∷ free) all =
    let none : unfreed_weight s ≡ 0 = ap (λ (state : SectionState). cond (is_uncommitted state || is_committed state) 1 0) all.0 in
    omega (arith, none, sum_by-cons unfreed_weight s free, count-free free all.1)

count-committed : (g : Geometry) (p : ℕ) (xs : List (List Entry)) → sum_by unfreed_weight (committed_counts g p xs) ≡ length xs
count-committed g p [] = refl
count-committed g p (x ∷ xs) =
    let s : SectionCounts = record { blocks = map (block_of g) x; placed = min p (length x); state = Committed } in
    let one : unfreed_weight s ≡ 1 = refl in
    omega (arith, one, sum_by-cons unfreed_weight s (committed_counts g (p - length x) xs), count-committed g (p - length x) xs)

count-opened : (g : Geometry) (closed : Bool) (opened : List (List Entry)) (op : List SectionCounts) → AreOpened g closed opened op → sum_by unfreed_weight op ≡ length opened
count-opened g closed [] [] are = refl
count-opened g closed [] (s ∷ op) are = absurd are
count-opened g closed (x ∷ opened) [] are = absurd are
count-opened g closed (x ∷ opened) (s ∷ op) are =
    let one : unfreed_weight s ≡ 1 = ap (λ (t : Bool). cond (t || is_committed s.state) 1 0) are.0.uncommitted in
    omega (arith, one, sum_by-cons unfreed_weight s op, count-opened g closed opened op are.1)

pub count-all : (g : Geometry) (p : ℕ) (closed : Bool) (free : List SectionCounts) (xs opened : List (List Entry)) (op : List SectionCounts) → AllByRecursion (λ (s : SectionCounts). s.state ≡ Free) free
    → AreOpened g closed opened op → sum_by unfreed_weight (free ++ (committed_counts g p xs ++ op)) ≡ length opened + length xs
count-all g p closed free xs opened op all are =
    omega (
      arith,
      sum_by-append unfreed_weight free (committed_counts g p xs ++ op),
      sum_by-append unfreed_weight (committed_counts g p xs) op,
      count-free free all,
      count-committed g p xs,
      count-opened g closed opened op are,
    )

-- ---- opened sections

pub has_open_end-opened : (g : Geometry) (closed : Bool) (entries : ℕ) (opened : List (List Entry)) (op : List SectionCounts) → AreOpened g closed opened op → has_open_end entries op ≡ takes_more entries closed opened
has_open_end-opened g closed entries [] [] are = refl
has_open_end-opened g closed entries [] (s ∷ op) are = absurd are
has_open_end-opened g closed entries (x ∷ opened) [] are = absurd are
has_open_end-opened g closed entries (x ∷ []) (s ∷ []) are = rw (are.0.last refl, are.0.blocks, length-map x (block_of g)) refl
has_open_end-opened g closed entries (x ∷ []) (s ∷ t ∷ op) are = absurd are.1
has_open_end-opened g closed entries (x ∷ y ∷ opened) (s ∷ []) are = absurd are.1
has_open_end-opened g closed entries (x ∷ y ∷ opened) (s ∷ t ∷ op) are = has_open_end-opened g closed entries (y ∷ opened) (t ∷ op) are.1

any-opened : (g : Geometry) (closed : Bool) (x : List Entry) (opened : List (List Entry)) (s : SectionCounts) (op : List SectionCounts) → AreOpened g closed (x ∷ opened) (s ∷ op)
    → list_any (λ (s : SectionCounts). is_uncommitted s.state) (s ∷ op) ≡ true
any-opened g closed x opened s op are = rw are.0.uncommitted refl

pub some_opened : (g : Geometry) (closed : Bool) (opened : List (List Entry)) (op : List SectionCounts) → AreOpened g closed opened op
    → (list_any (λ (s : SectionCounts). is_uncommitted s.state) op ≡ false → opened ≡ []) × (opened ≡ [] → op ≡ [])
some_opened g closed [] [] are = (λ e. refl, λ e. refl)
some_opened g closed [] (s ∷ op) are = absurd are
some_opened g closed (x ∷ opened) [] are = absurd are
some_opened g closed (x ∷ opened) (s ∷ op) are = (λ e. absurd (true≢false (sym (any-opened g closed x opened s op are) ∙ e)), λ e. absurd (omega (arith, ap length e)))

put_last-some : (entry : Entry) (y : List Entry) (opened : List (List Entry)) → put_last entry (y ∷ opened) ≡ [] → ⊥
put_last-some entry y [] e = omega (arith, ap length e)
put_last-some entry y (z ∷ opened) e = omega (arith, ap length e)

pub opened-put_last : (g : Geometry) (closed : Bool) (entry : Entry) (b : ℕ) → block_of g entry ≡ b → (opened : List (List Entry)) (op : List SectionCounts) → AreOpened g closed opened op
    → AreOpened g closed (put_last entry opened) (with_entry b op)
opened-put_last g closed entry b is [] [] are = tt
opened-put_last g closed entry b is [] (s ∷ op) are = absurd are
opened-put_last g closed entry b is (x ∷ opened) [] are = absurd are
opened-put_last g closed entry b is (x ∷ []) (s ∷ []) are = (
  record {
    blocks = ap (λ (bs : List ℕ). bs ++ b ∷ []) are.0.blocks ∙ ap (λ (c : ℕ). map (block_of g) x ++ c ∷ []) (sym is) ∙ sym (map-append (block_of g) x (entry ∷ []));
    unplaced = are.0.unplaced;
    uncommitted = are.0.uncommitted;
    last = are.0.last;
  },
  tt,
)
opened-put_last g closed entry b is (x ∷ []) (s ∷ t ∷ op) are = absurd are.1
opened-put_last g closed entry b is (x ∷ y ∷ opened) (s ∷ []) are = absurd are.1
opened-put_last g closed entry b is (x ∷ y ∷ opened) (s ∷ t ∷ op) are = (
  record { blocks = are.0.blocks; unplaced = are.0.unplaced; uncommitted = are.0.uncommitted; last = λ e. absurd (put_last-some entry y opened e) },
  opened-put_last g closed entry b is (y ∷ opened) (t ∷ op) are.1,
)

push-some : (x : List Entry) (opened : List (List Entry)) → opened ++ x ∷ [] ≡ [] → ⊥
push-some x opened e = omega (arith, ap length e, length-append opened (x ∷ []))

pub opened-push : (g : Geometry) (closed : Bool) (entry : Entry) (b : ℕ) → block_of g entry ≡ b → (opened : List (List Entry)) (op : List SectionCounts) → AreOpened g closed opened op
    → AreOpened g false (opened ++ (entry ∷ []) ∷ []) (op ++ opened_with b ∷ [])
opened-push g closed entry b is [] [] are = (record { blocks = ap (λ (c : ℕ). c ∷ []) (sym is); unplaced = refl; uncommitted = refl; last = λ e. refl }, tt)
opened-push g closed entry b is [] (s ∷ op) are = absurd are
opened-push g closed entry b is (x ∷ opened) [] are = absurd are
opened-push g closed entry b is (x ∷ opened) (s ∷ op) are = (
  record { blocks = are.0.blocks; unplaced = are.0.unplaced; uncommitted = are.0.uncommitted; last = λ e. absurd (push-some (entry ∷ []) opened e) },
  opened-push g closed entry b is opened op are.1,
)

-- ---- commit

close_one : (g : Geometry) (closed : Bool) (x : List Entry) (s : SectionCounts) → IsOpened g closed [] x s → IsOpened g true [] x (if is_open s.state then record s { state = Closed } else s)
close_one g closed x s is =
    let by = λ (t : Bool). if t then (let c : SectionCounts = record s { state = Closed } in c) else s in
    elim (cases_Bool (is_open s.state)) [
      | inl open_ ↦ subst (IsOpened g true [] x) (sym (ap by open_)) (record { blocks = is.blocks; unplaced = is.unplaced; uncommitted = refl; last = λ e. refl })
      | inr other ↦ subst (IsOpened g true [] x) (sym (ap by other)) (record { blocks = is.blocks; unplaced = is.unplaced; uncommitted = is.uncommitted; last = λ e. other })
    ]

pub closed_end-opened : (g : Geometry) (closed : Bool) (opened : List (List Entry)) (op : List SectionCounts) → AreOpened g closed opened op → AreOpened g true opened (closed_end op)
closed_end-opened g closed [] [] are = tt
closed_end-opened g closed [] (s ∷ op) are = absurd are
closed_end-opened g closed (x ∷ opened) [] are = absurd are
closed_end-opened g closed (x ∷ []) (s ∷ []) are = (close_one g closed x s are.0, tt)
closed_end-opened g closed (x ∷ []) (s ∷ t ∷ op) are = absurd are.1
closed_end-opened g closed (x ∷ y ∷ opened) (s ∷ []) are = absurd are.1
closed_end-opened g closed (x ∷ y ∷ opened) (s ∷ t ∷ op) are = (
  record { blocks = are.0.blocks; unplaced = are.0.unplaced; uncommitted = are.0.uncommitted; last = λ e. absurd (omega (arith, ap length e)) },
  closed_end-opened g closed (y ∷ opened) (t ∷ op) are.1,
)

-- What a batch leaves of the opened sections: the first of them are committed.
pub record IsBatchCounts (g : Geometry) (closed : Bool) (k : ℕ) (opened : List (List Entry)) (after : List SectionCounts) : Type 0 where
  pub rest : List SectionCounts
  pub is : after ≡ committed_counts g 0 (take k opened) ++ rest
  pub are : AreOpened g closed (drop k opened) rest

committed_one : (g : Geometry) (closed : Bool) (behind : List (List Entry)) (x : List Entry) (s : SectionCounts) → IsOpened g closed behind x s
    → (let c : SectionCounts = record s { state = Committed } in c) ≡ record { blocks = map (block_of g) x; placed = min 0 (length x); state = Committed }
committed_one g closed behind x s is =
    let none : 0 ≡ min 0 (length x) = omega arith in
    ap (λ (bs : List ℕ). let c : SectionCounts = record { blocks = bs; placed = s.placed; state = Committed } in c) is.blocks
    ∙ ap (λ (n : ℕ). let c : SectionCounts = record { blocks = map (block_of g) x; placed = n; state = Committed } in c) (is.unplaced ∙ none)

counts-same : (g : Geometry) (p q : ℕ) (xs : List (List Entry)) → p ≡ q → committed_counts g p xs ≡ committed_counts g q xs
counts-same g p q xs e = ap (λ (n : ℕ). committed_counts g n xs) e

pub batch-opened : (g : Geometry) (closed : Bool) (ring at k : ℕ) (opened : List (List Entry)) (op : List SectionCounts) → 0 < ring → AreOpened g closed opened op
    → k ≤ length opened → k ≤ ring - at % ring → (k < length opened → k ≡ ring - at % ring) → at % ring < ring → IsBatchCounts g closed k opened (committed_batch ring at op)
batch-opened g closed ring at zero [] [] some are low fits whole below = record { rest = []; is = refl; are = tt }
batch-opened g closed ring at (suc k) [] op some are low fits whole below = absurd (omega (arith, low))
batch-opened g closed ring at zero [] (s ∷ op) some are low fits whole below = absurd are
batch-opened g closed ring at k (x ∷ opened) [] some are low fits whole below = absurd are
batch-opened g closed ring at zero (x ∷ opened) (s ∷ op) some are low fits whole below = absurd (omega (arith, whole (omega arith), below))
batch-opened g closed ring at (suc k) (x ∷ opened) (s ∷ op) some are low fits whole below =
    let rest = committed_batch ring (suc at) op in
    let first = committed_one g closed opened x s are.0 in
    let zeros : 0 - length x ≡ 0 = omega arith in
    elim (mod-suc at ring some) [
      | inl last ↦
          let none : k ≡ 0 = omega (arith, fits, last.1) in
          rw (are.0.uncommitted, eq-eqb (suc at % ring) 0 last.0)
          (record {
            rest = op;
            is = ap (λ (c : SectionCounts). c ∷ op) first ∙ ap (λ (n : ℕ). committed_counts g 0 (x ∷ take n opened) ++ op) (sym none);
            are = subst (λ (n : ℕ). AreOpened g closed (drop n opened) op) (sym none) are.1;
          })
      | inr inside ↦
          let other : suc at % ring ≡ 0 → ⊥ = λ e. omega (arith, e, inside.0) in
          let more = batch-opened g closed ring (suc at) k opened op some are.1 (omega (arith, low)) (omega (arith, fits, inside.0)) (λ less. omega (arith, whole (omega (arith, less)), inside.0)) (omega (arith, inside.0, inside.1)) in
          rw (are.0.uncommitted, ne_eqb (suc at % ring) 0 other)
          (record {
            rest = more.rest;
            is = ap (λ (c : SectionCounts). c ∷ rest) first
                ∙ ap (λ (xs : List SectionCounts). (let c : SectionCounts = record { blocks = map (block_of g) x; placed = min 0 (length x); state = Committed } in c) ∷ xs) (more.is ∙ ap (λ (xs : List SectionCounts). xs ++ more.rest) (counts-same g 0 (0 - length x) (take k opened) (sym zeros)));
            are = more.are;
          })
    ]

pub counts-append : (g : Geometry) (p : ℕ) (xs ys : List (List Entry)) → committed_counts g p (xs ++ ys) ≡ committed_counts g p xs ++ committed_counts g (p - length (entries_of xs)) ys
counts-append g p [] ys = let e : p ≡ p - 0 = omega arith in counts-same g p (p - 0) ys e
counts-append g p (x ∷ xs) ys =
    let s : SectionCounts = record { blocks = map (block_of g) x; placed = min p (length x); state = Committed } in
    let e : (p - length x) - length (entries_of xs) ≡ p - length (x ++ entries_of xs) = omega (arith, length-append x (entries_of xs)) in
    ap (λ (cs : List SectionCounts). s ∷ cs) (counts-append g (p - length x) xs ys ∙ ap (λ (cs : List SectionCounts). committed_counts g (p - length x) xs ++ cs) (counts-same g ((p - length x) - length (entries_of xs)) (p - length (x ++ entries_of xs)) ys e))

-- ---- place

idle-free : (free : List SectionCounts) → AllByRecursion (λ (s : SectionCounts). s.state ≡ Free) free → AllByRecursion (λ (s : SectionCounts). is_committed s.state ≡ false) free
idle-free free all = all_imply (λ (s : SectionCounts). s.state ≡ Free) (λ (s : SectionCounts). is_committed s.state ≡ false) free (λ s is. ap is_committed is) all

pub idle-opened : (g : Geometry) (closed : Bool) (opened : List (List Entry)) (op : List SectionCounts) → AreOpened g closed opened op → AllByRecursion (λ (s : SectionCounts). is_committed s.state ≡ false) op
idle-opened g closed [] [] are = tt
idle-opened g closed [] (s ∷ op) are = absurd are
idle-opened g closed (x ∷ opened) [] are = absurd are
idle-opened g closed (x ∷ opened) (s ∷ op) are = (not_committed s.state are.0.uncommitted, idle-opened g closed opened op are.1)

place-idle : (op : List SectionCounts) → AllByRecursion (λ (s : SectionCounts). is_committed s.state ≡ false) op → place_oldest op ≡ None
place-idle [] idle = refl
place-idle (s ∷ op) idle = rw (idle.0, place-idle op idle.1) refl

place-front : (front op : List SectionCounts) → AllByRecursion (λ (s : SectionCounts). is_committed s.state ≡ false) front
    → place_oldest (front ++ op) ≡ option_map (λ (after : List SectionCounts). front ++ after) (place_oldest op)
place-front [] op idle = same (place_oldest op)
  where
    same : (o : Option (List SectionCounts)) → o ≡ option_map (λ (after : List SectionCounts). after) o
    same None = refl
    same (Some after) = refl
place-front (s ∷ front) op idle = rw (idle.0, place-front front op idle.1) (twice (place_oldest op))
  where
    twice : (o : Option (List SectionCounts)) → option_map (λ (after : List SectionCounts). s ∷ after) (option_map (λ (after : List SectionCounts). front ++ after) o) ≡ option_map (λ (after : List SectionCounts). s ∷ (front ++ after)) o
    twice None = refl
    twice (Some after) = refl

abbrev counts_one : Geometry → List Entry → ℕ → SectionCounts
counts_one g x n = record { blocks = map (block_of g) x; placed = n; state = Committed }

-- Where an entry is left the next one is placed,
place-some : (g : Geometry) (p : ℕ) (xs : List (List Entry)) (op : List SectionCounts) → p < length (entries_of xs) → place_oldest (committed_counts g p xs ++ op) ≡ Some (committed_counts g (suc p) xs ++ op)
place-some g p [] op less = absurd (omega (arith, less))
place-some g p (x ∷ xs) op less =
    let size = length-map x (block_of g) in
    let n = min p (length x) in
    let behind = committed_counts g (p - length x) xs ++ op in
    let by = λ (t : Bool). if t then Some (counts_one g x (suc n) ∷ behind) else option_map (λ (rest : List SectionCounts). counts_one g x n ∷ rest) (place_oldest behind) in
    elim (cases_lt p (length x)) [
      | inl here ↦
          let test : ltb n (length (map (block_of g) x)) ≡ true = lt-ltb n (length (map (block_of g) x)) (omega (arith, size, here)) in
          let count : suc n ≡ min (suc p) (length x) = omega (arith, here) in
          let rest : p - length x ≡ suc p - length x = omega (arith, here) in
          ap by test
          ∙ ap (λ (m : ℕ). Some (counts_one g x m ∷ behind)) count
          ∙ ap (λ (q : ℕ). Some (counts_one g x (min (suc p) (length x)) ∷ (committed_counts g q xs ++ op))) rest
      | inr past ↦
          let test : ltb n (length (map (block_of g) x)) ≡ false = le-ltb n (length (map (block_of g) x)) (omega (arith, size, past)) in
          let count : n ≡ min (suc p) (length x) = omega (arith, past) in
          let rest : suc (p - length x) ≡ suc p - length x = omega (arith, past) in
          ap by test
          ∙ ap (option_map (λ (after : List SectionCounts). counts_one g x n ∷ after)) (place-some g (p - length x) xs op (omega (arith, less, past, length-append x (entries_of xs))))
          ∙ ap (λ (m : ℕ). Some (counts_one g x m ∷ (committed_counts g (suc (p - length x)) xs ++ op))) count
          ∙ ap (λ (q : ℕ). Some (counts_one g x (min (suc p) (length x)) ∷ (committed_counts g q xs ++ op))) rest
    ]

-- and else none is.
place-none : (g : Geometry) (p : ℕ) (xs : List (List Entry)) (op : List SectionCounts) → length (entries_of xs) ≤ p → place_oldest op ≡ None → place_oldest (committed_counts g p xs ++ op) ≡ None
place-none g p [] op all none = none
place-none g p (x ∷ xs) op all none =
    let size = length-map x (block_of g) in
    let n = min p (length x) in
    let behind = committed_counts g (p - length x) xs ++ op in
    let sum = length-append x (entries_of xs) in
    let by = λ (t : Bool). if t then Some (counts_one g x (suc n) ∷ behind) else option_map (λ (rest : List SectionCounts). counts_one g x n ∷ rest) (place_oldest behind) in
    let test : ltb n (length (map (block_of g) x)) ≡ false = le-ltb n (length (map (block_of g) x)) (omega (arith, size, all, sum)) in
    ap by test ∙ ap (option_map (λ (after : List SectionCounts). counts_one g x n ∷ after)) (place-none g (p - length x) xs op (omega (arith, all, sum)) none)

pub place-next : (g : Geometry) (p : ℕ) (closed : Bool) (free : List SectionCounts) (xs opened : List (List Entry)) (op : List SectionCounts) → AllByRecursion (λ (s : SectionCounts). s.state ≡ Free) free
    → AreOpened g closed opened op → p < length (entries_of xs) → place_oldest (free ++ (committed_counts g p xs ++ op)) ≡ Some (free ++ (committed_counts g (suc p) xs ++ op))
place-next g p closed free xs opened op all are less =
    place-front free (committed_counts g p xs ++ op) (idle-free free all) ∙ ap (option_map (λ (after : List SectionCounts). free ++ after)) (place-some g p xs op less)

pub place-all : (g : Geometry) (p : ℕ) (closed : Bool) (free : List SectionCounts) (xs opened : List (List Entry)) (op : List SectionCounts) → AllByRecursion (λ (s : SectionCounts). s.state ≡ Free) free
    → AreOpened g closed opened op → length (entries_of xs) ≤ p → place_oldest (free ++ (committed_counts g p xs ++ op)) ≡ None
place-all g p closed free xs opened op all are past =
    place-front free (committed_counts g p xs ++ op) (idle-free free all) ∙ ap (option_map (λ (after : List SectionCounts). free ++ after)) (place-none g p xs op past (place-idle op (idle-opened g closed opened op are)))

-- ---- settle

settle-idle : (op : List SectionCounts) → AllByRecursion (λ (s : SectionCounts). is_committed s.state ≡ false) op → map as_settled op ≡ op
settle-idle [] idle = refl
settle-idle (s ∷ op) idle = rw (idle.0, settle-idle op idle.1) refl

settle-unplaced : (g : Geometry) (p : ℕ) (xs : List (List Entry)) → p ≡ 0 → AllByRecursion (λ (x : List Entry). 1 ≤ length x) xs → map as_settled (committed_counts g p xs) ≡ committed_counts g p xs
settle-unplaced g p [] none some = refl
settle-unplaced g p (x ∷ xs) none some =
    let n = min p (length x) in
    let test : leb (length (map (block_of g) x)) n ≡ false = lt-leb (length (map (block_of g) x)) n (omega (arith, length-map x (block_of g), some.0, none)) in
    let freed : SectionCounts = record { blocks = map (block_of g) x; placed = n; state = Free } in
    ap (λ (t : Bool). (if t then freed else counts_one g x n) ∷ map as_settled (committed_counts g (p - length x) xs)) test
    ∙ ap (λ (cs : List SectionCounts). counts_one g x n ∷ cs) (settle-unplaced g (p - length x) xs (omega (arith, none)) some.1)

-- The first sections, whose entries are all placed, are freed, and the others stay.
pub record IsSettled (g : Geometry) (p : ℕ) (xs : List (List Entry)) : Type 0 where
  pub gone : List SectionCounts
  pub all_free : AllByRecursion (λ (s : SectionCounts). s.state ≡ Free) gone
  pub low : length gone ≤ length xs
  pub left : unplaced_from p xs ≡ drop (length gone) xs
  pub is : map as_settled (committed_counts g p xs) ≡ gone ++ committed_counts g (p - length (entries_of (take (length gone) xs))) (unplaced_from p xs)
  pub placed : length (entries_of (take (length gone) xs)) ≤ p

pub settle-counts : (g : Geometry) (p : ℕ) (xs : List (List Entry)) → AllByRecursion (λ (x : List Entry). 1 ≤ length x) xs → IsSettled g p xs
settle-counts g p [] some = record { gone = []; all_free = tt; low = omega arith; left = refl; is = refl; placed = omega arith }
settle-counts g p (x ∷ xs) some =
    let size = length-map x (block_of g) in
    let n = min p (length x) in
    let freed : SectionCounts = record { blocks = map (block_of g) x; placed = n; state = Free } in
    let behind = map as_settled (committed_counts g (p - length x) xs) in
    let by = λ (t : Bool). (if t then freed else counts_one g x n) ∷ behind in
    let left_by = λ (t : Bool). if t then unplaced_from (p - length x) xs else x ∷ xs in
    elim (cases_lt p (length x)) [
      | inl here ↦
          let test : leb (length (map (block_of g) x)) n ≡ false = lt-leb (length (map (block_of g) x)) n (omega (arith, size, here)) in
          let none : p - length x ≡ 0 = omega (arith, here) in
          let stays = lt-leb (length x) p here in
          let all : p ≡ p - 0 = omega arith in
          record {
            gone = [];
            all_free = tt;
            low = omega arith;
            left = ap left_by stays;
            is = ap by test ∙ ap (λ (cs : List SectionCounts). counts_one g x n ∷ cs) (settle-unplaced g (p - length x) xs none some.1)
                ∙ ap (λ (q : ℕ). committed_counts g q (x ∷ xs)) all ∙ ap (committed_counts g (p - 0)) (sym (ap left_by stays));
            placed = omega arith;
          }
      | inr past ↦
          let test : leb (length (map (block_of g) x)) n ≡ true = le-leb (length (map (block_of g) x)) n (omega (arith, size, past)) in
          let goes = le-leb (length x) p past in
          let more = settle-counts g (p - length x) xs some.1 in
          let t = length more.gone in
          let sum = length-append x (entries_of (take t xs)) in
          let rest : (p - length x) - length (entries_of (take t xs)) ≡ p - length (x ++ entries_of (take t xs)) = omega (arith, sum) in
          record {
            gone = freed ∷ more.gone;
            all_free = (refl, more.all_free);
            low = omega (arith, more.low);
            left = ap left_by goes ∙ more.left;
            is = ap by test ∙ ap (λ (cs : List SectionCounts). freed ∷ cs) more.is
                ∙ ap (λ (q : ℕ). freed ∷ (more.gone ++ committed_counts g q (unplaced_from (p - length x) xs))) rest
                ∙ ap (λ (ys : List (List Entry)). freed ∷ (more.gone ++ committed_counts g (p - length (x ++ entries_of (take t xs))) ys)) (sym (ap left_by goes));
            placed = omega (arith, more.placed, sum, past);
          }
    ]

any-placed-front : (front op : List SectionCounts) → AllByRecursion (λ (s : SectionCounts). is_committed s.state ≡ false) front → list_any is_all_placed (front ++ op) ≡ list_any is_all_placed op
any-placed-front [] op idle = refl
any-placed-front (s ∷ front) op idle = rw (idle.0, any-placed-front front op idle.1) refl

-- Where no section has all its entries placed, all stay.
pub settle-none : (g : Geometry) (p : ℕ) (free : List SectionCounts) (xs : List (List Entry)) (op : List SectionCounts) → AllByRecursion (λ (s : SectionCounts). s.state ≡ Free) free
    → list_any is_all_placed (free ++ (committed_counts g p xs ++ op)) ≡ false → unplaced_from p xs ≡ xs
settle-none g p free [] op all none = refl
settle-none g p free (x ∷ xs) op all none = elim (cases_lt p (length x)) [
  | inl here ↦ ap (λ (t : Bool). if t then unplaced_from (p - length x) xs else x ∷ xs) (lt-leb (length x) p here)
  | inr past ↦
      let n = min p (length x) in
      let test : leb (length (map (block_of g) x)) n ≡ true = le-leb (length (map (block_of g) x)) n (omega (arith, length-map x (block_of g), past)) in
      let first : list_any is_all_placed (committed_counts g p (x ∷ xs) ++ op) ≡ true = ap (λ (t : Bool). t || list_any is_all_placed (committed_counts g (p - length x) xs ++ op)) test in
      absurd (true≢false (sym first ∙ sym (any-placed-front free (committed_counts g p (x ∷ xs) ++ op) (idle-free free all)) ∙ none))
]

pub settle-all : (g : Geometry) (p : ℕ) (closed : Bool) (free : List SectionCounts) (xs opened : List (List Entry)) (op : List SectionCounts) → AllByRecursion (λ (s : SectionCounts). s.state ≡ Free) free
    → AreOpened g closed opened op → map as_settled (free ++ (committed_counts g p xs ++ op)) ≡ free ++ (map as_settled (committed_counts g p xs) ++ op)
settle-all g p closed free xs opened op all are =
    map-append as_settled free (committed_counts g p xs ++ op)
    ∙ ap (λ (ys : List SectionCounts). ys ++ map as_settled (committed_counts g p xs ++ op)) (settle-idle free (idle-free free all))
    ∙ ap (λ (ys : List SectionCounts). free ++ ys) (map-append as_settled (committed_counts g p xs) op
    ∙ ap (λ (ys : List SectionCounts). map as_settled (committed_counts g p xs) ++ ys) (settle-idle op (idle-opened g closed opened op are)))
