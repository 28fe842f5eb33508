use Rattle.std.proofs.Common.{◌≡◌, List, ℕ, refl, subst, ◌++◌}
use Rattle.script_reader.specs.Lines.{FindsLongLine}
use Rattle.script_reader.specs.Reading.{BeginsLine}
use Rattle.command_ending.specs.declared.ended.Ended.TheVariants as Endings
use Rattle.script_lines.proofs.TakenLemmas.{and_weaker}
use Rattle.script_lines.proofs.TakenLemmas.{taken_is_read}
use Rattle.script_lines.proofs.advancing.advance.Goals as goal
use Rattle.run_model.specs.declared.outer.Outer.TheVariants as outers

pub returns-in-Ok-Line-clause-advanced : goal.returns-in-Ok-Line-clause-advanced
returns-in-Ok-Line-clause-advanced g c = rw c.in-Ok-Line.field-0-is at c.in-Ok-Line.ensures.found

pub returns-in-Ok-End-clause-advanced : goal.returns-in-Ok-End-clause-advanced
returns-in-Ok-End-clause-advanced g c = rw c.in-Ok-End.field-0-is at c.in-Ok-End.ensures.found

pub returns-in-Ok-LongLine-clause-advanced : goal.returns-in-Ok-LongLine-clause-advanced
returns-in-Ok-LongLine-clause-advanced g c left is =
    and_weaker {X = List ℕ}
    (λ (later : List ℕ). FindsLongLine c.args.reader.now c.next_line.new.self
    (c.args.reader.now.unread ++ left)) _
    (g.S.Source.left c.next_line.new.script) (λ later found. (refl, refl, found))
    ((rw c.in-Ok-LongLine.field-0-is at c.in-Ok-LongLine.ensures.found) left is)

pub returns-in-Ok-LongScript-clause-advanced : goal.returns-in-Ok-LongScript-clause-advanced
returns-in-Ok-LongScript-clause-advanced g c = rw c.in-Ok-LongScript.field-0-is at
    c.in-Ok-LongScript.ensures.found

pub returns-in-Err-clause-advanced : goal.returns-in-Err-clause-advanced
returns-in-Err-clause-advanced g c left is =
    let old = c.args.reader.now in
    let new = c.next_line.new.self in
    let before = old.unread ++ left in
    and_weaker {X = List ℕ} (λ (later : List ℕ). BeginsLine old new before (new.unread ++ later))
    (λ (later : List ℕ). (Endings.Failed outers.Script ≡ Endings.Failed outers.Script) × BeginsLine old new before later)
    (g.S.Source.left c.next_line.new.script)
    (λ later begins.
    (refl, subst (λ (unread : List ℕ). BeginsLine old new before (unread ++ later)) c.in-Err.ensures.asked begins))
    (c.in-Err.ensures.err left is)

pub returns-in-Ok-Line-clause-read : goal.returns-in-Ok-Line-clause-read
returns-in-Ok-Line-clause-read g c = taken_is_read c.args.reader.now c.next_line.new.self _ _ c.next_line.ensures.bytes

pub returns-in-Ok-End-clause-read : goal.returns-in-Ok-End-clause-read
returns-in-Ok-End-clause-read g c = taken_is_read c.args.reader.now c.next_line.new.self _ _ c.next_line.ensures.bytes

pub returns-in-Ok-LongLine-clause-read : goal.returns-in-Ok-LongLine-clause-read
returns-in-Ok-LongLine-clause-read g c = taken_is_read c.args.reader.now c.next_line.new.self _ _ c.next_line.ensures.bytes

pub returns-in-Ok-LongScript-clause-read : goal.returns-in-Ok-LongScript-clause-read
returns-in-Ok-LongScript-clause-read g c = taken_is_read c.args.reader.now c.next_line.new.self _ _ c.next_line.ensures.bytes

pub returns-in-Err-clause-read : goal.returns-in-Err-clause-read
returns-in-Err-clause-read g c = taken_is_read c.args.reader.now c.next_line.new.self _ _ c.next_line.ensures.bytes
