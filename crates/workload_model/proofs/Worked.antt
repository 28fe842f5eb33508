-- Workloads and exercises, as computed elsewhere.
use Rattle.std.proofs.Common.{◌≡◌, ℕ, ◌==◌, false, List, [], ◌∷◌, replicate, if◌then◌else◌, refl}
use Rattle.std.specs.Prelude.{codes}
use Rattle.std.specs.Fmt.{digits}
use Rattle.image_model.specs.Cells.{Cell}
use Rattle.device_model.specs.Mode.{DeviceFormat, Direct, Journal}
use Rattle.device_model.specs.Progress.{opened_device}
use Rattle.device_model.specs.Script.{Fill, Read, Flush}
use Rattle.workload_model.specs.Workload.{next_number, workload_asks}
use Rattle.workload_model.specs.Exercise.{Tally, exercise_tally, exercise_text}

-- ---- workloads

next_number-zero : next_number 0 ≡ 0x14057B7EF767814F
next_number-zero = refl

workload_asks-zero : workload_asks 10 0 328
    ≡ Fill 198 4 129 false
    ∷ Fill 241 3 109 false
    ∷ Read 82 2
    ∷ Fill 257 1 153 false
    ∷ Fill 242 4 209 false
    ∷ Fill 46 3 246 false
    ∷ Fill 256 2 186 false
    ∷ Fill 134 1 102 false
    ∷ Fill 161 4 228 false
    ∷ Fill 39 3 100 false
    ∷ []
workload_asks-zero = refl

workload_asks-seven : workload_asks 10 7 328
    ≡ Fill 132 3 251 false
    ∷ Flush
    ∷ Flush
    ∷ Fill 66 4 204 false
    ∷ Fill 154 3 185 false
    ∷ Fill 151 2 79 false
    ∷ Fill 88 1 158 false
    ∷ Fill 128 4 18 false
    ∷ Flush
    ∷ Read 101 2
    ∷ []
workload_asks-seven = refl

-- ---- exercises of four blocks of two bytes, the third with another tag than that of its bytes

-- Tags that are easy to compute: that of a block is its number and its first byte.
abbrev easy_tag : ℕ → List ℕ → List ℕ
easy_tag b [] = b ∷ []
easy_tag b (x ∷ bytes) = b ∷ x ∷ []

abbrev four : DeviceFormat
four = record {
  mode = Direct;
  blocks = record { blocks = 4; block_size = 2; tag = easy_tag };
  slots = 16;
  sections = 1;
  entries = 2;
  regions = 4;
  region_of = λ b. b;
}

abbrev third_bad : ℕ → Cell
third_bad b = record { bytes = b ∷ b ∷ []; tag = if b == 2 then 255 ∷ [] else b ∷ b ∷ [] }

abbrev counts_of : (seed count : ℕ) → Tally
counts_of seed count = exercise_tally four (opened_device third_bad 0 (λ r. false) (λ r. false)) count seed

exercise_tally-no_line : counts_of 7 0 ≡ record { fills = 0; reads = 0; flushes = 0; faults = 1; sum_read = 8 }
exercise_tally-no_line = refl

exercise_tally-faults : counts_of 2 3 ≡ record { fills = 0; reads = 2; flushes = 1; faults = 3; sum_read = 8 }
exercise_tally-faults = refl

exercise_tally-six : counts_of 2 6 ≡ record { fills = 3; reads = 2; flushes = 1; faults = 2; sum_read = 810 }
exercise_tally-six = refl

-- ---- an exercise with one request, on 328 zero blocks of 512 bytes and a journal

abbrev journaled : DeviceFormat
journaled = record {
  mode = Journal;
  blocks = record { blocks = 328; block_size = 512; tag = easy_tag };
  slots = 16;
  sections = 4;
  entries = 80;
  regions = 1;
  region_of = λ b. 0;
}

abbrev zero_blocks : ℕ → Cell
zero_blocks b = record { bytes = replicate 512 0; tag = easy_tag b (0 ∷ []) }

exercise_tally-one : exercise_tally journaled (opened_device zero_blocks 0 (λ r. false) (λ r. false)) 1 0
    ≡ record { fills = 1; reads = 0; flushes = 0; faults = 0; sum_read = 264192 }
exercise_tally-one = refl

-- ---- what is printed

exercise_text-none : exercise_text (record { fills = 0; reads = 0; flushes = 0; faults = 0; sum_read = 0 })
    ≡ codes "fills 0 reads 0 flushes 0 faults 0 sum 0\n"
unfolding digits
exercise_text-none = refl

exercise_text-one : exercise_text (record { fills = 1; reads = 0; flushes = 0; faults = 0; sum_read = 264192 })
    ≡ codes "fills 1 reads 0 flushes 0 faults 0 sum 264192\n"
unfolding digits
exercise_text-one = refl
