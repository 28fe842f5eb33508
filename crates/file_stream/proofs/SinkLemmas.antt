-- What goes to a file of the bytes that are held back and of those behind them.
use Rattle.std.proofs.Common.{◌≡◌, ℕ, ◌+◌, ◌-◌, ◌≤◌, List, [], ◌++◌, length, take, sym, ◌∙◌, ap, arith, append-nil, Option}
use Rattle.std.specs.Option.{option_map}
use Rattle.std.proofs.Math.Seq.{take-append-add}
use Rattle.stream_io.specs.Stream.{with_bytes}
use Rattle.stream_io.proofs.StreamLemmas.{with_bytes-with_bytes}

-- All bytes that were held back went out, and some of the piece behind them: none is held back.
pub all_out : (held piece bytes rest : List ℕ) (before done : ℕ) (file now : Option (List ℕ)) → bytes ≡ held ++ piece → rest ≡ [] → before ≡ length held → before ≤ done
    → now ≡ option_map (with_bytes (take done bytes)) file → option_map (with_bytes rest) now ≡ option_map (with_bytes (take (done - before) piece)) (option_map (with_bytes held) file)
all_out held piece bytes rest before done file now bytes_is none size enough written =
    let count : length held + (done - before) ≡ done = omega (arith, size, enough) in
    let went : take done bytes ++ rest ≡ held ++ take (done - before) piece =
    ap (λ (xs : List ℕ). take done bytes ++ xs) none
    ∙ append-nil (take done bytes)
    ∙ ap (take done) bytes_is
    ∙ ap (λ (k : ℕ). take k (held ++ piece)) (sym count)
    ∙ take-append-add held piece (done - before) in
    ap (option_map (with_bytes rest)) written
    ∙ with_bytes-with_bytes (take done bytes) rest file
    ∙ ap (λ (xs : List ℕ). option_map (with_bytes xs) file) went
    ∙ sym (with_bytes-with_bytes held (take (done - before) piece) file)
