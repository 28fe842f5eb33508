use Rattle.std.proofs.Common.{◌≡◌, ℕ, ◌<◌, List, length, take, Option, None, Some, sym, ap, subst, refl, ◌∙◌, arith}
use Rattle.nbd_model.specs.Stream.{Message}
use Rattle.nbd_wire.specs.Splitting.{take_from}
use Rattle.nbd_incoming.specs.declared.incoming.Incoming.{Incoming}
use Rattle.nbd_incoming.specs.declared.taken.Taken.{Taken}
use Rattle.nbd_incoming.specs.Taking.{outcome_of}
use Rattle.nbd_incoming.specs.Incoming.{HasTaken, IsOutcome}
use Rattle.nbd_incoming.proofs.TakeLemmas.{of_ask, of_more, of_more_bytes, of_wrong, some_taken}
use Rattle.nbd_incoming.proofs.incoming.Incoming.take.Goals.{in-More, in-Ask+in_ok-taken-in-Ask, in-Bytes+in_ok-taken-in-Bytes, in-Wrong}
use Rattle.nbd_incoming.proofs.incoming.Incoming.take.Goals as goal

-- So it is told of what is then.
told_of : (old new now : Incoming) (piece : List ℕ) (count : ℕ) (taken then : Taken) → new ≡ now → taken ≡ then
    → HasTaken old now piece count then → HasTaken old new piece count taken
told_of old new now piece count taken then new_is taken_is has =
    subst (λ (i : Incoming). HasTaken old i piece count taken) (sym new_is) (subst (λ (t : Taken). HasTaken old now piece count t) (sym taken_is) has)

pub returns-clause-taken : goal.returns-clause-taken
returns-clause-taken c =
    let e = c.take-count.ensures in
    let old = c.args.self.now in
    let piece = c.args.piece.now in
    let count = c.take-count.result.0 in
    let event = c.take-count.result.1 in
    elim c.match-event.branch [
      | in-More w ↦ told_of old c.match-event.self _ piece count c.match-event.taken _ w.self-is w.taken-is (record {
        count_ = e.count;
        place = e.place;
        outcome = λ coming keeps. of_more old coming piece count event keeps e.count e.event w.in-More.is;
      })
      | in-Ask+in_ok-taken-in-Ask w ↦ told_of old c.match-event.self _ piece count c.match-event.taken _ w.self-is w.taken-is (record {
        count_ = e.count;
        place = e.place;
        outcome = λ coming keeps. of_ask old coming piece count event keeps e.count e.event w.in-Ask.request w.begin.new.coming w.in_ok-taken-in-Ask.taken w.in-Ask.is w.in_ok-taken-in-Ask.ensures;
      })
      | in-Bytes+in_ok-taken-in-Bytes w ↦ told_of old c.match-event.self _ piece count c.match-event.taken _ w.self-is w.taken-is (record {
        count_ = e.count;
        place = e.place;
        outcome = λ coming keeps. of_more_bytes old coming piece count event keeps e.count e.event w.in-Bytes.n w.go_on.new.coming w.in_ok-taken-in-Bytes.taken w.in-Bytes.is w.in_ok-taken-in-Bytes.ensures;
      })
      | in-Wrong w ↦ told_of old c.match-event.self _ piece count c.match-event.taken _ w.self-is w.taken-is (record {
        count_ = e.count;
        place = e.place;
        outcome = λ coming keeps. of_wrong old coming piece count event keeps e.count e.event w.in-Wrong.magic w.in-Wrong.is;
      })
    ]

pub returns-clause-some : goal.returns-clause-some
returns-clause-some c coming keeps some =
    let e = c.take-count.ensures in
    some_taken c.args.self.now coming c.args.piece.now c.take-count.result.0 c.take-count.result.1 keeps e.count e.event some
