-- The bytes are their first stretch and what stands behind it.
use Rattle.std.proofs.Common.{◌≡◌, ℕ, List, ◌<◌, ◌==◌, refl, ◌∙◌, ap, arith, append_assoc, length, length-append, get_or}
use Rattle.std.specs.List.{prefix_len}
use Rattle.std.proofs.lemmas.List.{take_rest}
use Rattle.device_model.specs.Stretches.{stretch_text}
use Rattle.device_model.proofs.StretchesLemmas.{IsFirstRun, run_of, stretches_text-more, stretches_text-last, length-stretch_text-first-le, length-stretch_text, length-stretch_text-more-le}
use Rattle.std.specs.Fmt.{decimal, digits}
use Rattle.script_text.proofs.stretches.put_first_stretch.Goals as goal
use Rattle.script_text.proofs.stretches.put_first_stretch.Goals.{then-count-bytes, else-count-bytes}

length-one : length (decimal 1) ≡ 1
unfolding digits
length-one = refl

first_run : (n : ℕ) (bytes : List ℕ) → 0 < length bytes → n ≡ prefix_len (λ y. y == get_or bytes 0 0) bytes → IsFirstRun (get_or bytes 0 0) n bytes
first_run n bytes some count = record { some = some; byte = refl; count = count }

pub put_single-requires : goal.put_single-requires
put_single-requires c =
    let stretch = first_run 1 c.args.bytes.now c.requires.bytes (c.begins_single.ensures.single c.if-begins_single.true) in
    let short = length-stretch_text-more-le _ _ _ stretch (c.begins_single.ensures.more c.if-begins_single.true) in
    let five = length-stretch_text (get_or c.args.bytes.now 0 0) 1 in
    record { room = omega (arith, short, five, length-one) }

pub returns-then-begins_single-clause-written : goal.returns-then-begins_single-clause-written
returns-then-begins_single-clause-written c =
    let stretch = first_run 1 c.args.bytes.now c.requires.bytes (c.begins_single.ensures.single c.if-begins_single.true) in
    let all = stretches_text-more _ _ _ stretch (c.begins_single.ensures.more c.if-begins_single.true) in
    rw (take_rest c.args.bytes.now 1, all, c.put_single.ensures.written) (simp append_assoc)

pub put_stretch-requires : goal.put_stretch-requires
put_stretch-requires c =
    let stretch = first_run c.count_at_front-count.result c.args.bytes.now c.requires.bytes c.count_at_front-count.ensures.count in
    let short = length-stretch_text-first-le _ _ _ stretch in
    record { room = omega (arith, short) }

pub put_bytes-requires : goal.put_bytes-requires
put_bytes-requires c =
    let n = c.count_at_front-count.result in
    let stretch = first_run n c.args.bytes.now c.requires.bytes c.count_at_front-count.ensures.count in
    let short = length-stretch_text-more-le _ _ _ stretch c.if-count-bytes.true in
    let written = ap length c.put_stretch.ensures.written ∙ length-append c.args.text.now.items (stretch_text (run_of (get_or c.args.bytes.now 0 0) n)) in
    record { room = omega (arith, short, written) }

pub returns-clause-written : goal.returns-clause-written
returns-clause-written c =
    let n = c.count_at_front-count.result in
    let stretch = first_run n c.args.bytes.now c.requires.bytes c.count_at_front-count.ensures.count in
    elim c.if-count-bytes.branch [
      | then-count-bytes w ↦
          let all = stretches_text-more _ _ _ stretch w.if-count-bytes.true in
          rw (take_rest c.args.bytes.now n, all, w.text-is, w.put_bytes.ensures.written, c.put_stretch.ensures.written) (simp append_assoc)
      | else-count-bytes w ↦
          let all = stretches_text-last _ _ _ stretch w.if-count-bytes.false in
          rw (take_rest c.args.bytes.now n, all, w.text-is, c.put_stretch.ensures.written) (simp append_assoc)
    ]
