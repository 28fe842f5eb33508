-- What a line asks for that is not refused may be submitted.
use Rattle.std.proofs.Common.{◌≡◌, ◌≢◌, ◌⊎◌, inl, inr, ℕ, ◌+◌, ◌*◌, ◌/◌, ◌%◌, ◌≤◌, ◌==◌, Bool, true, false, ◌||◌, ltb, List, [], ◌∷◌, length, replicate, if◌then◌else◌, Option, None, Some, refl, sym, ◌∙◌, ap, arith, length-append}
use Rattle.std.proofs.lemmas.Bool.{cases_Bool, or_parts, eqb-true, eqb-false, ltb-false}
use Rattle.std.proofs.lemmas.List.{length-replicate}
use Rattle.std.proofs.lemmas.List.Concat.{flat_map-cons}
use Rattle.std.proofs.lemmas.List.Sums.{sum_by-cons}
use Rattle.std.proofs.lemmas.Nat.{div-add-mod'}
use Rattle.std.proofs.lemmas.Option.{none-some}
use Rattle.device_model.specs.Mode.{DeviceFormat, is_recovery}
use Rattle.device_model.specs.Progress.{ReadOnly, blocks_refusal, form_refusal}
use Rattle.device_model.specs.SubmissionLaws.{AreBlocks, IsFitting}
use Rattle.device_model.specs.Stretches.{Stretch}
use Rattle.device_model.specs.Script.{Ask, Fill, Write, Read, Flush, bytes_of_stretches, stretches_length, submission_of, MeaningFault, WrongLength, WrongCount, WrongRange, most_blocks, range_fault, ask_fault}

pub length-bytes_of_stretches : (runs : List Stretch) → length (bytes_of_stretches runs) ≡ stretches_length runs
length-bytes_of_stretches [] = refl
length-bytes_of_stretches (run ∷ runs) =
    let bytes = λ (r : Stretch). replicate r.count r.byte in
    ap length (flat_map-cons bytes run runs)
    ∙ length-append (bytes run) (bytes_of_stretches runs)
    ∙ ap (λ (n : ℕ). n + length (bytes_of_stretches runs)) (length-replicate run.count run.byte)
    ∙ ap (λ (n : ℕ). run.count + n) (length-bytes_of_stretches runs)
    ∙ sym (sum_by-cons (λ (r : Stretch). r.count) run runs)

range_by : (many outside : Bool) → ℕ → ℕ → Option MeaningFault
range_by many outside first count = if many then Some (WrongCount count) else (if outside then Some (WrongRange first count) else None)

range_fault-none : (blocks first count : ℕ) → range_fault blocks first count ≡ None → (1 ≤ count) × (first + count ≤ blocks)
unfolding range_by
range_fault-none blocks first count none =
    let many = ltb most_blocks count in
    let outside = (count == 0) || ltb blocks (first + count) in
    elim (cases_Bool many) [
      | inl too_many ↦ absurd (none-some _ (sym none ∙ ap (λ (t : Bool). range_by t outside first count) too_many))
      | inr few ↦ elim (cases_Bool outside) [
        | inl out ↦ absurd (none-some _ (sym none ∙ ap (λ (t : Bool). range_by t outside first count) few ∙ ap (λ (t : Bool). range_by false t first count) out))
        | inr inside ↦
            let parts = or_parts (count == 0) (ltb blocks (first + count)) inside in
            let some : count ≢ 0 = eqb-false count 0 parts.0 in
            let there : first + count ≤ blocks = ltb-false blocks (first + count) parts.1 in
            (omega (arith, some), there)
      ]
    ]

module _ (f : DeviceFormat) where
  -- The runs of a write are whole blocks, all of them there.
  runs_fault-none : (first : ℕ) (runs : List Stretch) (fua : Bool) → ask_fault f (Write first runs fua) ≡ None
      → AreBlocks f first (stretches_length runs / f.blocks.block_size) (bytes_of_stretches runs)
  runs_fault-none first runs fua none =
      let whole = stretches_length runs % f.blocks.block_size == 0 in
      let count = stretches_length runs / f.blocks.block_size in
      let by = λ (t : Bool). if t then range_fault f.blocks.blocks first count else Some (WrongLength (stretches_length runs)) in
      elim (cases_Bool whole) [
        | inr other ↦ absurd (none-some _ (sym none ∙ ap by other))
        | inl is_whole ↦
            let parts = range_fault-none f.blocks.blocks first count (sym (ap by is_whole) ∙ none) in
            let rest : stretches_length runs % f.blocks.block_size ≡ 0 = eqb-true (stretches_length runs % f.blocks.block_size) 0 is_whole in
            let split : count * f.blocks.block_size + stretches_length runs % f.blocks.block_size ≡ stretches_length runs = div-add-mod' (stretches_length runs) f.blocks.block_size in
            record { some = parts.0; there = parts.1; size = length-bytes_of_stretches runs ∙ whole_is (stretches_length runs) (count * f.blocks.block_size) (stretches_length runs % f.blocks.block_size) split rest }
      ]
    where
      whole_is : (n m rest : ℕ) → m + rest ≡ n → rest ≡ 0 → n ≡ m
      whole_is n m rest split none = omega (arith, split, none)

  filled_fault-none : (first count byte : ℕ) → range_fault f.blocks.blocks first count ≡ None → AreBlocks f first count (replicate (count * f.blocks.block_size) byte)
  filled_fault-none first count byte none =
      let parts = range_fault-none f.blocks.blocks first count none in
      record { some = parts.0; there = parts.1; size = length-replicate (count * f.blocks.block_size) byte }

  write_refused : (first count : ℕ) (bytes : List ℕ) (t : Bool) → t ≡ true → (if t then Some ReadOnly else blocks_refusal f.blocks first count bytes) ≡ Some ReadOnly
  write_refused first count bytes t is = ap (λ (b : Bool). if b then Some ReadOnly else blocks_refusal f.blocks first count bytes) is

  -- It may be submitted, or is a write in recovery mode.
  pub ask_fault-none : (ask : Ask) → ask_fault f ask ≡ None
      → (form_refusal f (submission_of f.blocks.block_size ask) ≡ Some ReadOnly) ⊎ IsFitting f (submission_of f.blocks.block_size ask)
  ask_fault-none (Fill first count byte fua) none = elim (cases_Bool (is_recovery f.mode)) [
    | inl recovery ↦ inl (write_refused first count (replicate (count * f.blocks.block_size) byte) (is_recovery f.mode) recovery)
    | inr other ↦ inr (other, filled_fault-none first count byte none)
  ]
  ask_fault-none (Write first runs fua) none = elim (cases_Bool (is_recovery f.mode)) [
    | inl recovery ↦ inl (write_refused first (stretches_length runs / f.blocks.block_size) (bytes_of_stretches runs) (is_recovery f.mode) recovery)
    | inr other ↦ inr (other, runs_fault-none first runs fua none)
  ]
  ask_fault-none (Read first count) none = inr (filled_fault-none first count 0 none)
  ask_fault-none Flush none = inr tt
