use Rattle.std.proofs.Common.{◌≡◌, ◌+◌, ◌-◌, ◌≤◌, ◌++◌, ℕ, List, length, take, drop, replicate, sym, ◌∙◌, ap, arith, append_assoc, length-drop}
use Rattle.std.proofs.lemmas.List.{length-replicate, length-take-le}
use Rattle.std.proofs.lemmas.Grind.{common_steps}
use Rattle.std.proofs.lemmas.Slice.{take-put_mid}
use borrow.Rule.Slice.PartMut.{put_mid}
use Rattle.device_model.specs.Script.{bytes_of_stretches}
use Rattle.script_text.specs.Runs.{stretch_of, stretches_in}
use Rattle.script_text.proofs.RunsLemmas.{stretches_length-first, bytes_of_stretches-first}
use Rattle.script_text.proofs.runs.Runs.fill.Goals as goal

-- The part that was set is as long as it is to be.
part_is : (from count byte : ℕ) (out piece : List ℕ) → from + count ≤ length out → piece ≡ replicate (length (take (from + count - from) (drop from out))) byte
    → piece ≡ replicate count byte
part_is from count byte out piece within is =
    let same : from + count - from ≡ count = omega arith in
    let long : length (take count (drop from out)) ≡ count = length-take-le count (drop from out) (omega (arith, within, length-drop from out)) in
    is ∙ ap (λ (n : ℕ). replicate (length (take n (drop from out))) byte) same ∙ ap (λ (n : ℕ). replicate n byte) long

pub loop-run-preserved : goal.loop-run-preserved
loop-run-preserved c =
    let from = c.loop-run.from in
    let count = c.in-Some.run'.count in
    let byte = c.in-Some.run'.byte in
    let out = c.loop-run.out in
    let piece = c.set_all.new.bytes in
    let before = stretches_in c.loop-run.rest.word.now in
    let rest = stretches_in c.take_run.new.self.word.now in
    let first = stretches_length-first before rest (stretch_of c.in-Some.run') c.in-Some.ensures.some in
    let bytes = bytes_of_stretches-first before rest (stretch_of c.in-Some.run') c.in-Some.ensures.some in
    let within : from + count ≤ length out = omega (arith, first, c.loop-run.invariant.room) in
    let part = part_is from count byte out piece within c.set_all.ensures in
    let long : length piece ≡ count = ap length part ∙ length-replicate count byte in
    let front : take (from + count) (put_mid from (from + count - from) out piece) ≡ take from out ++ piece =
    take-put_mid from (from + count - from) out piece (from + count) (omega (arith, long)) (omega (arith, within)) in
    record {
      room = grind (arith, common_steps, first, c.loop-run.invariant.room, long, within);
      written =
          ap (λ (xs : List ℕ). xs ++ bytes_of_stretches rest) (front ∙ ap (λ (xs : List ℕ). take from out ++ xs) part)
          ∙ append_assoc (take from out) (replicate count byte) (bytes_of_stretches rest)
          ∙ ap (λ (xs : List ℕ). take from out ++ xs) (sym bytes)
          ∙ c.loop-run.invariant.written;
    }

pub loop-run-smaller : goal.loop-run-smaller
loop-run-smaller c = let first = ap length c.in-Some.ensures.some in omega (arith, first)
