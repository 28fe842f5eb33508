use Rattle.std.proofs.Common.{◌≡◌, ◌<◌, ◌∙◌, sym, subst, [], length, rules}
use Rattle.script_reader.specs.Reading.{Reading, IsSettled}
use Rattle.std.proofs.lemmas.List.{nil_from_length}
use Rattle.script_reader.proofs.RunLemmas.{IsInLine-read, IsInLine-run, IsInLine-same, IsSettled-unread, IsSettled-run, TakesLine-inside, TakesLine-end, taken_inside, taken_end, FindsLine-run, FindsLine-end}
use Rattle.script_reader.proofs.line_reader.LineReader.next_line.Goals as goal

pub returns-in-Some-clause-found : goal.returns-in-Some-clause-found
returns-in-Some-clause-found g c =
    let start = c.args.self.now in
    let now = c.has_more.new.self in
    let first = g.S.Source.left c.args.script.now in
    let last = g.S.Source.left c.has_more.new.script in
    let inside =
    IsInLine-read start c.loop-self.self now first (g.S.Source.left c.loop-self.script) last
    c.loop-self.invariant.inside c.has_more.ensures.same
    c.in_ok-has_more.ensures.read in
    let more : 0 < length now.unread = search rules in
    FindsLine-run c.in-Some.next start now c.take_run.new.self first last inside more c.in-Some.ensures.run

pub returns-in-Some-clause-bytes : goal.returns-in-Some-clause-bytes
returns-in-Some-clause-bytes g c =
    let start = c.args.self.now in
    let now = c.has_more.new.self in
    let first = g.S.Source.left c.args.script.now in
    let last = g.S.Source.left c.has_more.new.script in
    let inside =
    IsInLine-read start c.loop-self.self now first (g.S.Source.left c.loop-self.script) last
    c.loop-self.invariant.inside c.has_more.ensures.same
    c.in_ok-has_more.ensures.read in
    TakesLine-end c.in-Some.next start now c.take_run.new.self first last inside c.in-Some.ensures.run

pub loop-self-preserved : goal.loop-self-preserved
loop-self-preserved g c =
    let start = c.args.self.now in
    let now = c.has_more.new.self in
    let first = g.S.Source.left c.args.script.now in
    let last = g.S.Source.left c.has_more.new.script in
    record {
      inside =
          IsInLine-run start now c.take_run.new.self first last
          (IsInLine-read start c.loop-self.self now first (g.S.Source.left c.loop-self.script) last
          c.loop-self.invariant.inside c.has_more.ensures.same
          c.in_ok-has_more.ensures.read)
          c.in_default.ensures.run;
      faults = search rules;
      unasked = λ settled.
          let at = c.loop-self.invariant.unasked settled in
          let same = c.has_more.ensures.unasked
          (IsSettled-unread c.loop-self.self now c.has_more.ensures.same c.has_more.ensures.within at.1) in
          let P : Reading → Type 0 = λ reading. IsSettled reading in
          let settled_now = subst P (sym same.0) at.1 in
          (same.1 ∙ at.0, IsSettled-run now c.take_run.new.self c.in_default.ensures.run.0 settled_now);
    }

pub returns-clause-found : goal.returns-clause-found
returns-clause-found g c =
    let now = c.has_more.new.self in
    let none : now.unread ≡ [] = nil_from_length now.unread (search rules) in
    FindsLine-end c.at_end.result c.args.self.now c.loop-self.self now (g.S.Source.left c.args.script.now)
    (g.S.Source.left c.loop-self.script)
    (g.S.Source.left c.has_more.new.script) c.loop-self.invariant.inside c.has_more.ensures.same
    c.in_ok-has_more.ensures.read none c.has_more.ensures.within
    c.at_end.ensures.line c.at_end.ensures.end

pub returns-clause-bytes : goal.returns-clause-bytes
returns-clause-bytes g c =
    let start = c.args.self.now in
    let now = c.has_more.new.self in
    let first = g.S.Source.left c.args.script.now in
    let last = g.S.Source.left c.has_more.new.script in
    TakesLine-inside start now first last
    (IsInLine-read start c.loop-self.self now first (g.S.Source.left c.loop-self.script) last
    c.loop-self.invariant.inside c.has_more.ensures.same
    c.in_ok-has_more.ensures.read)

pub returns-in_err-has_more-clause-bytes : goal.returns-in_err-has_more-clause-bytes
returns-in_err-has_more-clause-bytes g c =
    let start = c.args.self.now in
    let now = c.has_more.new.self in
    let first = g.S.Source.left c.args.script.now in
    let last = g.S.Source.left c.has_more.new.script in
    let same = c.in_err-has_more.ensures.err in
    TakesLine-inside start now first last
    (IsInLine-same start c.loop-self.self now first (g.S.Source.left c.loop-self.script) last
    c.loop-self.invariant.inside same.0 same.1)

pub returns-in-Some-clause-one : goal.returns-in-Some-clause-one
returns-in-Some-clause-one g c =
    let start = c.args.self.now in
    let now = c.has_more.new.self in
    let first = g.S.Source.left c.args.script.now in
    let last = g.S.Source.left c.has_more.new.script in
    let inside =
    IsInLine-read start c.loop-self.self now first (g.S.Source.left c.loop-self.script) last
    c.loop-self.invariant.inside c.has_more.ensures.same
    c.in_ok-has_more.ensures.read in
    taken_end c.in-Some.next start now c.take_run.new.self first last inside c.in-Some.ensures.run

pub returns-clause-one : goal.returns-clause-one
returns-clause-one g c =
    let start = c.args.self.now in
    let now = c.has_more.new.self in
    let first = g.S.Source.left c.args.script.now in
    let last = g.S.Source.left c.has_more.new.script in
    taken_inside start now first last
    (IsInLine-read start c.loop-self.self now first (g.S.Source.left c.loop-self.script) last
    c.loop-self.invariant.inside c.has_more.ensures.same
    c.in_ok-has_more.ensures.read)

pub returns-in_err-has_more-clause-one : goal.returns-in_err-has_more-clause-one
returns-in_err-has_more-clause-one g c =
    let start = c.args.self.now in
    let now = c.has_more.new.self in
    let first = g.S.Source.left c.args.script.now in
    let last = g.S.Source.left c.has_more.new.script in
    let same = c.in_err-has_more.ensures.err in
    taken_inside start now first last
    (IsInLine-same start c.loop-self.self now first (g.S.Source.left c.loop-self.script) last
    c.loop-self.invariant.inside same.0 same.1)
