use Rattle.std.proofs.Common.{◌≡◌, ℕ, ◌/◌, List, length, sym, ◌∙◌, ap}
use Rattle.device_model.specs.Script.{bytes_of_stretches, submission_of}
use Rattle.device_model.specs.Submission as Submissions
use Rattle.device_model.proofs.AskLemmas.{length-bytes_of_stretches}
use Rattle.script_text.specs.Line.{ask_of, stretches_of}
use Rattle.script_text.specs.declared.line.Ask.{Ask}
use Rattle.script_session.proofs.asking.request_of.Goals as goal

pub returns-in_ok-bytes-in-Write : goal.returns-in_ok-bytes-in-Write
returns-in_ok-bytes-in-Write c =
    let size = c.args.block_size in
    let runs = stretches_of c.in-Write.runs in
    let bytes : c.in_ok-bytes-in-Write.bytes ≡ bytes_of_stretches runs = c.in_ok-bytes-in-Write.ensures in
    ap (λ (l : List ℕ). Submissions.Submission.Write c.in-Write.first (length l / size) c.in_ok-bytes-in-Write.bytes c.in-Write.fua) (c.as_slice.ensures ∙ bytes)
    ∙ ap (λ (l : List ℕ). Submissions.Submission.Write c.in-Write.first (length (bytes_of_stretches runs) / size) l c.in-Write.fua) bytes
    ∙ ap (λ (n : ℕ). Submissions.Submission.Write c.in-Write.first (n / size) (bytes_of_stretches runs) c.in-Write.fua) (length-bytes_of_stretches runs)
    ∙ ap (λ (a : Ask). submission_of size (ask_of a)) (sym c.in-Write.is)
