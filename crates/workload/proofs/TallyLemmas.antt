-- A tally goes on with each request and each reply.
use Rattle.std.proofs.Common.{◌≡◌, ℕ, suc, ◌+◌, ◌%◌, ◌^◌, ◌≤◌, Bool, cond, List, [], ◌∷◌, ◌++◌, length, sum, sum_by, count_by, Option, Some, arith, ap, sym, ◌∙◌, refl}
use Rattle.std.proofs.Math.Nat.{mod-add-mod}
use Rattle.std.proofs.lemmas.List.Sums.{sum_by-append, sum_by-cons, count_by-le-length}
use Rattle.device_model.specs.Progress.{Answer, Replied}
use Rattle.device_model.specs.Reply.{Bytes, TagFault}
use Rattle.device_model.specs.Script.{Ask, Fill, Flush, Read, Write, told_fault}
use Rattle.workload_model.specs.Exercise.{Tally, bytes_read, is_fill, is_flush, is_read, tally_of}
use Rattle.workload.specs.Laws.{BoundsLaw, MoreAsksLaw, MoreRepliesLaw, OtherAnswersLaw}

-- ---- counts with one more

sum_by-last : {X : Type 0} (f : X → ℕ) (xs : List X) (x : X) → sum_by f (xs ++ x ∷ []) ≡ sum_by f xs + f x
sum_by-last f xs x =
    let one : sum_by f (x ∷ []) ≡ f x = omega (arith, sum_by-cons f x []) in
    omega (arith, sum_by-append f xs (x ∷ []), one)

count_by-last : {X : Type 0} (p : X → Bool) (xs : List X) (x : X) → count_by p (xs ++ x ∷ []) ≡ count_by p xs + cond (p x) 1 0
count_by-last p xs x = sum_by-last (λ y. cond (p y) 1 0) xs x

abbrev counts : ℕ → ℕ → ℕ → ℕ → ℕ → Tally
counts fills reads flushes faults sum_read =
    record { fills = fills; reads = reads; flushes = flushes; faults = faults; sum_read = sum_read }

counts-same : (a a' b b' c c' d d' e e' : ℕ) → a ≡ a' → b ≡ b' → c ≡ c' → d ≡ d' → e ≡ e' → counts a b c d e ≡ counts a' b' c' d' e'
counts-same a a' b b' c c' d d' e e' fills reads flushes faults sum_read = cc

-- ---- requests

more_of : (asks : List Ask) (ask : Ask) (answers : List (Option Answer)) (fills reads flushes : ℕ)
    → count_by is_fill asks + cond (is_fill ask) 1 0 ≡ fills → count_by is_read asks + cond (is_read ask) 1 0 ≡ reads
    → count_by is_flush asks + cond (is_flush ask) 1 0 ≡ flushes
    → tally_of (asks ++ ask ∷ []) answers ≡ record (tally_of asks answers) { fills = fills; reads = reads; flushes = flushes }
more_of asks ask answers fills reads flushes is_fills is_reads is_flushes =
    counts-same _ _ _ _ _ _ _ _ _ _ (count_by-last is_fill asks ask ∙ is_fills) (count_by-last is_read asks ask ∙ is_reads)
    (count_by-last is_flush asks ask ∙ is_flushes) refl refl

pub more_asks : MoreAsksLaw
more_asks asks (Fill first count byte fua) answers =
    more_of asks (Fill first count byte fua) answers _ _ _ (omega arith) (omega arith) (omega arith)
more_asks asks (Write first stretches fua) answers =
    more_of asks (Write first stretches fua) answers _ _ _ (omega arith) (omega arith) (omega arith)
more_asks asks (Read first count) answers =
    more_of asks (Read first count) answers _ _ _ (omega arith) (omega arith) (omega arith)
more_asks asks Flush answers =
    more_of asks Flush answers _ _ _ (omega arith) (omega arith) (omega arith)

-- ---- replies

more_read : (asks : List Ask) (answers : List (Option Answer)) (answer : Option Answer) (faults sum_read : ℕ)
    → count_by told_fault answers + cond (told_fault answer) 1 0 ≡ faults
    → (sum_by (λ a. sum (bytes_read a)) answers + sum (bytes_read answer)) % 2 ^ 64 ≡ sum_read
    → tally_of asks (answers ++ answer ∷ []) ≡ record (tally_of asks answers) { faults = faults; sum_read = sum_read }
more_read asks answers answer faults sum_read is_faults is_sum =
    counts-same _ _ _ _ _ _ _ _ _ _ refl refl refl (count_by-last told_fault answers answer ∙ is_faults)
    (ap (λ n. n % 2 ^ 64) (sum_by-last (λ a. sum (bytes_read a)) answers answer) ∙ is_sum)

pub more_replies : MoreRepliesLaw
more_replies asks answers request (Bytes bytes) returned =
    more_read asks answers (Some (Replied request (Bytes bytes) returned)) _ _ (omega arith)
    (sym (mod-add-mod (sum_by (λ a. sum (bytes_read a)) answers) (2 ^ 64) (sum bytes)))
more_replies asks answers request (TagFault block stored computed) returned =
    let all = sum_by (λ (a : Option Answer). sum (bytes_read a)) answers in
    let none : all + 0 ≡ all = omega arith in
    more_read asks answers (Some (Replied request (TagFault block stored computed) returned)) _ _ (omega arith)
    (ap (λ (n : ℕ). n % 2 ^ 64) none)

pub other_answers : OtherAnswersLaw
other_answers asks answers answer no_bytes no_fault =
    let all = sum_by (λ (a : Option Answer). sum (bytes_read a)) answers in
    let faults : count_by told_fault answers + cond (told_fault answer) 1 0 ≡ count_by told_fault answers =
    ap (λ (t : Bool). count_by told_fault answers + cond t 1 0) no_fault ∙ omega arith in
    let read : all + sum (bytes_read answer) ≡ all = ap (λ (bytes : List ℕ). all + sum bytes) no_bytes ∙ omega arith in
    more_read asks answers answer _ _ faults (ap (λ (n : ℕ). n % 2 ^ 64) read)

-- ---- bounds

counted_first : (ask : Ask) (asks : List Ask) → cond (is_fill ask) 1 0 + cond (is_read ask) 1 0 + cond (is_flush ask) 1 0 ≤ 1
    → count_by is_fill asks + count_by is_read asks + count_by is_flush asks ≤ length asks
    → count_by is_fill (ask ∷ asks) + count_by is_read (ask ∷ asks) + count_by is_flush (ask ∷ asks) ≤ length (ask ∷ asks)
counted_first ask asks once before =
    let fills : count_by is_fill (ask ∷ asks) ≡ cond (is_fill ask) 1 0 + count_by is_fill asks = sum_by-cons (λ x. cond (is_fill x) 1 0) ask asks in
    let reads : count_by is_read (ask ∷ asks) ≡ cond (is_read ask) 1 0 + count_by is_read asks = sum_by-cons (λ x. cond (is_read x) 1 0) ask asks in
    let flushes : count_by is_flush (ask ∷ asks) ≡ cond (is_flush ask) 1 0 + count_by is_flush asks = sum_by-cons (λ x. cond (is_flush x) 1 0) ask asks in
    let more : length (ask ∷ asks) ≡ suc (length asks) = refl in
    omega (arith, fills, reads, flushes, more)

each_counted : (asks : List Ask) → count_by is_fill asks + count_by is_read asks + count_by is_flush asks ≤ length asks
each_counted [] = omega arith
each_counted (Fill first count byte fua ∷ asks) = counted_first (Fill first count byte fua) asks (omega arith) (each_counted asks)
each_counted (Write first stretches fua ∷ asks) = counted_first (Write first stretches fua) asks (omega arith) (each_counted asks)
each_counted (Read first count ∷ asks) = counted_first (Read first count) asks (omega arith) (each_counted asks)
each_counted (Flush ∷ asks) = counted_first Flush asks (omega arith) (each_counted asks)

pub bounds : BoundsLaw
bounds asks answers = (each_counted asks, count_by-le-length told_fault answers)
