-- A request is judged as the model judges it, and what is not refused may be asked of a mirror.
use Rattle.std.proofs.Common.{◌≡◌, inl, inr, ℕ, ◌+◌, ◌*◌, ◌/◌, ◌%◌, ◌≤◌, ◌==◌, Bool, false, ◌||◌, ltb, length, replicate, if◌then◌else◌, Option, None, Some, refl, sym, ◌∙◌, ap, subst, arith}
use Rattle.std.proofs.lemmas.Bool.{cases_Bool, eqb-true, eq-eqb, ltb-false}
use Rattle.std.proofs.lemmas.List.{length-replicate}
use Rattle.std.proofs.lemmas.Nat.{div-add-mod'}
use Rattle.std.proofs.lemmas.Option.{none-some}
use Rattle.device_model.specs.Script.{Ask, Fill, Write, Read, Flush, bytes_of_stretches, stretches_length, submission_of, MeaningFault, WrongLength, WrongCount, WrongRange, most_blocks, range_fault}
use Rattle.device_model.specs.Submission.{Submission}
use Rattle.device_model.proofs.AskLemmas.{length-bytes_of_stretches}
use Rattle.mirror_model.specs.Mirror.{MirrorFormat}
use Rattle.mirror_model.specs.Script.{mirror_ask_fault}
use Rattle.mirror_calls.specs.declared.fault.MirrorFault.{MirrorFault}
use Rattle.mirror_calls.specs.declared.fault.MirrorFault.TheVariants.{Range, Length}
use Rattle.mirror_calls.specs.Faults.{refusal}
use Rattle.script_session.specs.Meaning.{ask_fault_on}
use Rattle.mirror_session.specs.Answering.{IsTaken, count_of}

-- ---- judged

same_judged : (f : MirrorFormat) (ask : Ask) → ask_fault_on f.blocks f.block_size ask ≡ mirror_ask_fault f ask
same_judged f (Fill first count byte fua) = refl
same_judged f (Write first stretches fua) = refl
same_judged f (Read first count) = refl
same_judged f Flush = refl

-- The code judges a request as the model does.
pub judged : (f : MirrorFormat) (blocks size : ℕ) (ask : Ask) (fault : Option MeaningFault) → blocks ≡ f.blocks → size ≡ f.block_size
    → fault ≡ ask_fault_on blocks size ask → mirror_ask_fault f ask ≡ fault
judged f blocks size ask fault blocks_is size_is told =
    sym (told ∙ ap (λ (n : ℕ). ask_fault_on n size ask) blocks_is
    ∙ ap (λ (n : ℕ). ask_fault_on f.blocks n ask) size_is ∙ same_judged f ask)

-- ---- what is not refused

record AreTaken (blocks size first count long : ℕ) : Type 0 where
  pub few : count ≤ 1024
  pub taken : refusal false blocks size first count long ≡ None

are_taken : (blocks size first count long : ℕ) → range_fault blocks first count ≡ None → long ≡ count * size
    → AreTaken blocks size first count long
are_taken blocks size first count long none whole =
    let outside = (count == 0) || ltb blocks (first + count) in
    let by : Bool → Bool → Option MeaningFault = λ t u. if t then Some (WrongCount count) else (if u then Some (WrongRange first count) else None) in
    let refused : Bool → Bool → Option MirrorFault = λ t u. if t then Some (Range first count blocks) else (if u then None else Some (Length long (count * size))) in
    elim (cases_Bool (ltb most_blocks count)) [
      | inl many ↦ absurd (none-some _ (sym none ∙ ap (λ (t : Bool). by t outside) many))
      | inr few ↦ elim (cases_Bool outside) [
        | inl out ↦ absurd (none-some _ (sym none ∙ ap (λ (t : Bool). by t outside) few ∙ ap (λ (t : Bool). by false t) out))
        | inr inside ↦ record {
          few = ltb-false most_blocks count few;
          taken = ap (λ (t : Bool). refused t (long == count * size)) inside
              ∙ ap (λ (t : Bool). refused false t) (eq-eqb long (count * size) whole);
        }
      ]
    ]

-- It has at most 1024 blocks, and a mirror of so many takes it.
pub record MayRun (blocks size : ℕ) (submission : Submission) : Type 0 where
  pub few : count_of submission ≤ 1024
  pub taken : IsTaken blocks size submission

whole_is : (n m rest : ℕ) → m + rest ≡ n → rest ≡ 0 → n ≡ m
whole_is n m rest split none = omega (arith, split, none)

may_run : (blocks size : ℕ) (ask : Ask) → ask_fault_on blocks size ask ≡ None → MayRun blocks size (submission_of size ask)
may_run blocks size (Fill first count byte fua) none =
    let are = are_taken blocks size first count (length (replicate (count * size) byte)) none (length-replicate (count * size) byte) in
    record { few = are.few; taken = are.taken }
may_run blocks size (Write first runs fua) none =
    let count = stretches_length runs / size in
    let rest = stretches_length runs % size in
    let by : Bool → Option MeaningFault = λ t. if t then range_fault blocks first count else Some (WrongLength (stretches_length runs)) in
    elim (cases_Bool (rest == 0)) [
      | inr other ↦ absurd (none-some _ (sym none ∙ ap by other))
      | inl is_whole ↦
          let split : count * size + rest ≡ stretches_length runs = div-add-mod' (stretches_length runs) size in
          let long : length (bytes_of_stretches runs) ≡ count * size =
          length-bytes_of_stretches runs ∙ whole_is (stretches_length runs) (count * size) rest split (eqb-true rest 0 is_whole) in
          let are = are_taken blocks size first count (length (bytes_of_stretches runs)) (sym (ap by is_whole) ∙ none) long in
          record { few = are.few; taken = are.taken }
    ]
may_run blocks size (Read first count) none =
    let are = are_taken blocks size first count (length (replicate (count * size) 0)) none (length-replicate (count * size) 0) in
    record { few = are.few; taken = are.taken }
may_run blocks size Flush none = record { few = omega arith; taken = tt }

-- ---- for callers

-- What is not refused may be asked.
pub asks_may_run : (blocks size leg_blocks leg_size : ℕ) (ask : Ask) (submission : Submission) → blocks ≡ leg_blocks → size ≡ leg_size
    → None ≡ ask_fault_on blocks size ask → submission ≡ submission_of size ask → MayRun leg_blocks leg_size submission
asks_may_run blocks size leg_blocks leg_size ask submission blocks_is size_is none same =
    subst (λ (n : ℕ). MayRun n leg_size submission) blocks_is
    (subst (λ (n : ℕ). MayRun blocks n submission) size_is
    (subst (λ (s : Submission). MayRun blocks size s) (sym same) (may_run blocks size ask (sym none))))

-- What is told of a refusal is what the legs' blocks give.
pub refused_on : (blocks size leg_blocks leg_size : ℕ) (ask : Ask) (told fault : Option MeaningFault) → blocks ≡ leg_blocks → size ≡ leg_size
    → fault ≡ ask_fault_on blocks size ask → told ≡ fault → told ≡ ask_fault_on leg_blocks leg_size ask
refused_on blocks size leg_blocks leg_size ask told fault blocks_is size_is judged_is same =
    same ∙ judged_is ∙ ap (λ (n : ℕ). ask_fault_on n size ask) blocks_is ∙ ap (λ (n : ℕ). ask_fault_on leg_blocks n ask) size_is
