-- Both legs are read at once; what is not alike is levelled block by block.
use Rattle.std.proofs.Common.{◌≡◌, ℕ, ◌+◌, ◌-◌, List, arith, sym, subst}
use Rattle.device_model.specs.History.{cells_now}
use Rattle.device_model.specs.Request.{Read}
use Rattle.device_model.specs.Transcript.{Session}
use Rattle.mirror_model.specs.Calls as Model
use Rattle.mirror_model.specs.Mirror.{after_request, changes_on_first, changes_on_second}
use Rattle.mirror_calls.specs.Leg.{AreAlike, HasBlocks, LegOn}
use Rattle.mirror_calls.specs.State.{format_of}
use Rattle.mirror_calls.proofs.LoopLemmas.{LegsNow}
use Rattle.mirror_calls.proofs.PassLemmas.{KeepsLegs, HasBlocks-fewer, HasDone-alike, AreLeft-alike}
use Rattle.mirror_calls.proofs.SinceLemmas.{IsLeftSince-none}
use Rattle.mirror_calls.proofs.levelling.level_run.Goals as goal

pub returns-in-Err-clause-first_moments : goal.returns-in-Err-clause-first_moments
returns-in-Err-clause-first_moments g c a b m legs =
    IsLeftSince-none (g.A.Leg.may_be_left a) m.a.history (changes_on_first (Model.level_blocks (format_of a b) m c.args.first c.args.count).changes)
    (c.in-Err.ensures.moments a m.a legs.first)

pub returns-in-Err-pass-clause-first_moments : goal.returns-in-Err-pass-clause-first_moments
returns-in-Err-pass-clause-first_moments g c a b m legs =
    IsLeftSince-none (g.A.Leg.may_be_left a) m.a.history (changes_on_first (Model.level_blocks (format_of a b) m c.args.first c.args.count).changes)
    (c.in-Ok.ensures.moments a m.a legs.first)

pub returns-in-Err-pass-clause-second_moments : goal.returns-in-Err-pass-clause-second_moments
returns-in-Err-pass-clause-second_moments g c a b m legs =
    IsLeftSince-none (g.B.Leg.may_be_left b) m.b.history (changes_on_second (Model.level_blocks (format_of a b) m c.args.first c.args.count).changes)
    (c.in-Err-pass.ensures.moments b m.b legs.second)

pub returns-in-Ok-level_rest-clause-levelled : goal.returns-in-Ok-level_rest-clause-levelled
returns-in-Ok-level_rest-clause-levelled g c =
    let first = c.args.first in
    let count = c.args.count in
    let S = g.A.Leg.block_size c.args.mirror.now.a in
    let alike = c.alike_blocks-alike.result in
    let left = count - alike in
    let x = c.in-Ok.ours.buffer in
    let y = c.in-Ok-pass.theirs.buffer in
    let P = g.A.Leg.may_be_left in
    let Q = g.B.Leg.may_be_left in
    let old : LegsNow = record { a_stands = g.A.Leg.stands_for c.args.mirror.now.a; b_stands = g.B.Leg.stands_for c.args.mirror.now.b; a_moments = g.A.Leg.moments c.args.mirror.now.a; b_moments = g.B.Leg.moments c.args.mirror.now.b } in
    let now : LegsNow = record { a_stands = g.A.Leg.stands_for c.pass.new.leg; b_stands = g.B.Leg.stands_for c.pass-2.new.leg; a_moments = g.A.Leg.moments c.pass.new.leg; b_moments = g.B.Leg.moments c.pass-2.new.leg } in
    let end : LegsNow = record { a_stands = g.A.Leg.stands_for c.level_rest.new.mirror.a; b_stands = g.B.Leg.stands_for c.level_rest.new.mirror.b; a_moments = g.A.Leg.moments c.level_rest.new.mirror.a; b_moments = g.B.Leg.moments c.level_rest.new.mirror.b } in
    let keeps : KeepsLegs P Q old now = record {
      a_keeps = λ on s n st. g.met.A.Leg.any_count c.pass.new.leg on (after_request s (Read first count)) n (c.in-Ok.ensures.stands on s st);
      b_keeps = λ on s n st. g.met.B.Leg.any_count c.pass-2.new.leg on (after_request s (Read first count)) n (c.in-Ok-pass.ensures.stands on s st);
      a_quiet = λ on s st. c.in-Ok.ensures.moments on s st;
      b_quiet = λ on s st. c.in-Ok-pass.ensures.moments on s st;
    } in
    let within = c.alike_blocks-alike.ensures.within in
    let all : alike + left ≡ count = omega (arith, within, c.smaller-most.ensures.first, c.in-Ok.ensures.buffer.0) in
    let ours : (on : LegOn) (s : Session) → old.a_stands on s → HasBlocks on.format.tag (cells_now on.format.tag s.history) S first alike x =
    λ on s st. HasBlocks-fewer on.format.tag (cells_now on.format.tag s.history) S first c.in-Ok.ours.passed alike x
    (omega (arith, within, c.smaller-most.ensures.first)) (c.in-Ok.ensures.read on s st) in
    let theirs : (on : LegOn) (s : Session) → old.b_stands on s → HasBlocks on.format.tag (cells_now on.format.tag s.history) S first alike y =
    λ on s st. subst (λ (n : ℕ). HasBlocks on.format.tag (cells_now on.format.tag s.history) n first alike y) (sym c.requires.works.ready.size)
    (HasBlocks-fewer on.format.tag (cells_now on.format.tag s.history) (g.B.Leg.block_size c.args.mirror.now.b) first c.in-Ok-pass.theirs.passed alike y
    (omega (arith, within, c.smaller-most.ensures.second)) (c.in-Ok-pass.ensures.read on s st)) in
    let size = c.block_size-size.result in
    let same : AreAlike S alike x y =
    subst (λ (n : ℕ). AreAlike n alike x y) c.block_size-size.ensures
    (subst (λ (l : List ℕ). AreAlike size alike l y) c.as_slice.ensures
    (subst (λ (l : List ℕ). AreAlike size alike c.as_slice.result.now l) c.as_slice-2.ensures c.alike_blocks-alike.ensures.alike)) in
    HasDone-alike P Q old now end S first count alike left c.in-Ok-level_rest.rest.written x y keeps all ours theirs same c.in-Ok-level_rest.ensures.levelled

pub returns-in-Ok-level_rest-clause-first_moments : goal.returns-in-Ok-level_rest-clause-first_moments
returns-in-Ok-level_rest-clause-first_moments g c a b m legs =
    let first = c.args.first in
    let count = c.args.count in
    let S = g.A.Leg.block_size c.args.mirror.now.a in
    let alike = c.alike_blocks-alike.result in
    let left = count - alike in
    let x = c.in-Ok.ours.buffer in
    let y = c.in-Ok-pass.theirs.buffer in
    let P = g.A.Leg.may_be_left in
    let Q = g.B.Leg.may_be_left in
    let old : LegsNow = record { a_stands = g.A.Leg.stands_for c.args.mirror.now.a; b_stands = g.B.Leg.stands_for c.args.mirror.now.b; a_moments = g.A.Leg.moments c.args.mirror.now.a; b_moments = g.B.Leg.moments c.args.mirror.now.b } in
    let now : LegsNow = record { a_stands = g.A.Leg.stands_for c.pass.new.leg; b_stands = g.B.Leg.stands_for c.pass-2.new.leg; a_moments = g.A.Leg.moments c.pass.new.leg; b_moments = g.B.Leg.moments c.pass-2.new.leg } in
    let end : LegsNow = record { a_stands = g.A.Leg.stands_for c.level_rest.new.mirror.a; b_stands = g.B.Leg.stands_for c.level_rest.new.mirror.b; a_moments = g.A.Leg.moments c.level_rest.new.mirror.a; b_moments = g.B.Leg.moments c.level_rest.new.mirror.b } in
    let keeps : KeepsLegs P Q old now = record {
      a_keeps = λ on s n st. g.met.A.Leg.any_count c.pass.new.leg on (after_request s (Read first count)) n (c.in-Ok.ensures.stands on s st);
      b_keeps = λ on s n st. g.met.B.Leg.any_count c.pass-2.new.leg on (after_request s (Read first count)) n (c.in-Ok-pass.ensures.stands on s st);
      a_quiet = λ on s st. c.in-Ok.ensures.moments on s st;
      b_quiet = λ on s st. c.in-Ok-pass.ensures.moments on s st;
    } in
    let within = c.alike_blocks-alike.ensures.within in
    let all : alike + left ≡ count = omega (arith, within, c.smaller-most.ensures.first, c.in-Ok.ensures.buffer.0) in
    let ours : (on : LegOn) (s : Session) → old.a_stands on s → HasBlocks on.format.tag (cells_now on.format.tag s.history) S first alike x =
    λ on s st. HasBlocks-fewer on.format.tag (cells_now on.format.tag s.history) S first c.in-Ok.ours.passed alike x
    (omega (arith, within, c.smaller-most.ensures.first)) (c.in-Ok.ensures.read on s st) in
    let theirs : (on : LegOn) (s : Session) → old.b_stands on s → HasBlocks on.format.tag (cells_now on.format.tag s.history) S first alike y =
    λ on s st. subst (λ (n : ℕ). HasBlocks on.format.tag (cells_now on.format.tag s.history) n first alike y) (sym c.requires.works.ready.size)
    (HasBlocks-fewer on.format.tag (cells_now on.format.tag s.history) (g.B.Leg.block_size c.args.mirror.now.b) first c.in-Ok-pass.theirs.passed alike y
    (omega (arith, within, c.smaller-most.ensures.second)) (c.in-Ok-pass.ensures.read on s st)) in
    let size = c.block_size-size.result in
    let same : AreAlike S alike x y =
    subst (λ (n : ℕ). AreAlike n alike x y) c.block_size-size.ensures
    (subst (λ (l : List ℕ). AreAlike size alike l y) c.as_slice.ensures
    (subst (λ (l : List ℕ). AreAlike size alike c.as_slice.result.now l) c.as_slice-2.ensures c.alike_blocks-alike.ensures.alike)) in
    let e = c.in-Ok-level_rest.ensures in
    (AreLeft-alike P Q old now end S first count alike left x y keeps all ours theirs same
    (λ a b m legs. record { first = e.first_moments a b m legs; second = e.second_moments a b m legs }) a b m legs).first

pub returns-in-Err-level_rest-clause-first_moments : goal.returns-in-Err-level_rest-clause-first_moments
returns-in-Err-level_rest-clause-first_moments g c a b m legs =
    let first = c.args.first in
    let count = c.args.count in
    let S = g.A.Leg.block_size c.args.mirror.now.a in
    let alike = c.alike_blocks-alike.result in
    let left = count - alike in
    let x = c.in-Ok.ours.buffer in
    let y = c.in-Ok-pass.theirs.buffer in
    let P = g.A.Leg.may_be_left in
    let Q = g.B.Leg.may_be_left in
    let old : LegsNow = record { a_stands = g.A.Leg.stands_for c.args.mirror.now.a; b_stands = g.B.Leg.stands_for c.args.mirror.now.b; a_moments = g.A.Leg.moments c.args.mirror.now.a; b_moments = g.B.Leg.moments c.args.mirror.now.b } in
    let now : LegsNow = record { a_stands = g.A.Leg.stands_for c.pass.new.leg; b_stands = g.B.Leg.stands_for c.pass-2.new.leg; a_moments = g.A.Leg.moments c.pass.new.leg; b_moments = g.B.Leg.moments c.pass-2.new.leg } in
    let end : LegsNow = record { a_stands = g.A.Leg.stands_for c.level_rest.new.mirror.a; b_stands = g.B.Leg.stands_for c.level_rest.new.mirror.b; a_moments = g.A.Leg.moments c.level_rest.new.mirror.a; b_moments = g.B.Leg.moments c.level_rest.new.mirror.b } in
    let keeps : KeepsLegs P Q old now = record {
      a_keeps = λ on s n st. g.met.A.Leg.any_count c.pass.new.leg on (after_request s (Read first count)) n (c.in-Ok.ensures.stands on s st);
      b_keeps = λ on s n st. g.met.B.Leg.any_count c.pass-2.new.leg on (after_request s (Read first count)) n (c.in-Ok-pass.ensures.stands on s st);
      a_quiet = λ on s st. c.in-Ok.ensures.moments on s st;
      b_quiet = λ on s st. c.in-Ok-pass.ensures.moments on s st;
    } in
    let within = c.alike_blocks-alike.ensures.within in
    let all : alike + left ≡ count = omega (arith, within, c.smaller-most.ensures.first, c.in-Ok.ensures.buffer.0) in
    let ours : (on : LegOn) (s : Session) → old.a_stands on s → HasBlocks on.format.tag (cells_now on.format.tag s.history) S first alike x =
    λ on s st. HasBlocks-fewer on.format.tag (cells_now on.format.tag s.history) S first c.in-Ok.ours.passed alike x
    (omega (arith, within, c.smaller-most.ensures.first)) (c.in-Ok.ensures.read on s st) in
    let theirs : (on : LegOn) (s : Session) → old.b_stands on s → HasBlocks on.format.tag (cells_now on.format.tag s.history) S first alike y =
    λ on s st. subst (λ (n : ℕ). HasBlocks on.format.tag (cells_now on.format.tag s.history) n first alike y) (sym c.requires.works.ready.size)
    (HasBlocks-fewer on.format.tag (cells_now on.format.tag s.history) (g.B.Leg.block_size c.args.mirror.now.b) first c.in-Ok-pass.theirs.passed alike y
    (omega (arith, within, c.smaller-most.ensures.second)) (c.in-Ok-pass.ensures.read on s st)) in
    let size = c.block_size-size.result in
    let same : AreAlike S alike x y =
    subst (λ (n : ℕ). AreAlike n alike x y) c.block_size-size.ensures
    (subst (λ (l : List ℕ). AreAlike size alike l y) c.as_slice.ensures
    (subst (λ (l : List ℕ). AreAlike size alike c.as_slice.result.now l) c.as_slice-2.ensures c.alike_blocks-alike.ensures.alike)) in
    let e = c.in-Err-level_rest.ensures in
    (AreLeft-alike P Q old now end S first count alike left x y keeps all ours theirs same
    (λ a b m legs. record { first = e.first_moments a b m legs; second = e.second_moments a b m legs }) a b m legs).first

pub returns-in-Ok-level_rest-clause-second_moments : goal.returns-in-Ok-level_rest-clause-second_moments
returns-in-Ok-level_rest-clause-second_moments g c a b m legs =
    let first = c.args.first in
    let count = c.args.count in
    let S = g.A.Leg.block_size c.args.mirror.now.a in
    let alike = c.alike_blocks-alike.result in
    let left = count - alike in
    let x = c.in-Ok.ours.buffer in
    let y = c.in-Ok-pass.theirs.buffer in
    let P = g.A.Leg.may_be_left in
    let Q = g.B.Leg.may_be_left in
    let old : LegsNow = record { a_stands = g.A.Leg.stands_for c.args.mirror.now.a; b_stands = g.B.Leg.stands_for c.args.mirror.now.b; a_moments = g.A.Leg.moments c.args.mirror.now.a; b_moments = g.B.Leg.moments c.args.mirror.now.b } in
    let now : LegsNow = record { a_stands = g.A.Leg.stands_for c.pass.new.leg; b_stands = g.B.Leg.stands_for c.pass-2.new.leg; a_moments = g.A.Leg.moments c.pass.new.leg; b_moments = g.B.Leg.moments c.pass-2.new.leg } in
    let end : LegsNow = record { a_stands = g.A.Leg.stands_for c.level_rest.new.mirror.a; b_stands = g.B.Leg.stands_for c.level_rest.new.mirror.b; a_moments = g.A.Leg.moments c.level_rest.new.mirror.a; b_moments = g.B.Leg.moments c.level_rest.new.mirror.b } in
    let keeps : KeepsLegs P Q old now = record {
      a_keeps = λ on s n st. g.met.A.Leg.any_count c.pass.new.leg on (after_request s (Read first count)) n (c.in-Ok.ensures.stands on s st);
      b_keeps = λ on s n st. g.met.B.Leg.any_count c.pass-2.new.leg on (after_request s (Read first count)) n (c.in-Ok-pass.ensures.stands on s st);
      a_quiet = λ on s st. c.in-Ok.ensures.moments on s st;
      b_quiet = λ on s st. c.in-Ok-pass.ensures.moments on s st;
    } in
    let within = c.alike_blocks-alike.ensures.within in
    let all : alike + left ≡ count = omega (arith, within, c.smaller-most.ensures.first, c.in-Ok.ensures.buffer.0) in
    let ours : (on : LegOn) (s : Session) → old.a_stands on s → HasBlocks on.format.tag (cells_now on.format.tag s.history) S first alike x =
    λ on s st. HasBlocks-fewer on.format.tag (cells_now on.format.tag s.history) S first c.in-Ok.ours.passed alike x
    (omega (arith, within, c.smaller-most.ensures.first)) (c.in-Ok.ensures.read on s st) in
    let theirs : (on : LegOn) (s : Session) → old.b_stands on s → HasBlocks on.format.tag (cells_now on.format.tag s.history) S first alike y =
    λ on s st. subst (λ (n : ℕ). HasBlocks on.format.tag (cells_now on.format.tag s.history) n first alike y) (sym c.requires.works.ready.size)
    (HasBlocks-fewer on.format.tag (cells_now on.format.tag s.history) (g.B.Leg.block_size c.args.mirror.now.b) first c.in-Ok-pass.theirs.passed alike y
    (omega (arith, within, c.smaller-most.ensures.second)) (c.in-Ok-pass.ensures.read on s st)) in
    let size = c.block_size-size.result in
    let same : AreAlike S alike x y =
    subst (λ (n : ℕ). AreAlike n alike x y) c.block_size-size.ensures
    (subst (λ (l : List ℕ). AreAlike size alike l y) c.as_slice.ensures
    (subst (λ (l : List ℕ). AreAlike size alike c.as_slice.result.now l) c.as_slice-2.ensures c.alike_blocks-alike.ensures.alike)) in
    let e = c.in-Ok-level_rest.ensures in
    (AreLeft-alike P Q old now end S first count alike left x y keeps all ours theirs same
    (λ a b m legs. record { first = e.first_moments a b m legs; second = e.second_moments a b m legs }) a b m legs).second

pub returns-in-Err-level_rest-clause-second_moments : goal.returns-in-Err-level_rest-clause-second_moments
returns-in-Err-level_rest-clause-second_moments g c a b m legs =
    let first = c.args.first in
    let count = c.args.count in
    let S = g.A.Leg.block_size c.args.mirror.now.a in
    let alike = c.alike_blocks-alike.result in
    let left = count - alike in
    let x = c.in-Ok.ours.buffer in
    let y = c.in-Ok-pass.theirs.buffer in
    let P = g.A.Leg.may_be_left in
    let Q = g.B.Leg.may_be_left in
    let old : LegsNow = record { a_stands = g.A.Leg.stands_for c.args.mirror.now.a; b_stands = g.B.Leg.stands_for c.args.mirror.now.b; a_moments = g.A.Leg.moments c.args.mirror.now.a; b_moments = g.B.Leg.moments c.args.mirror.now.b } in
    let now : LegsNow = record { a_stands = g.A.Leg.stands_for c.pass.new.leg; b_stands = g.B.Leg.stands_for c.pass-2.new.leg; a_moments = g.A.Leg.moments c.pass.new.leg; b_moments = g.B.Leg.moments c.pass-2.new.leg } in
    let end : LegsNow = record { a_stands = g.A.Leg.stands_for c.level_rest.new.mirror.a; b_stands = g.B.Leg.stands_for c.level_rest.new.mirror.b; a_moments = g.A.Leg.moments c.level_rest.new.mirror.a; b_moments = g.B.Leg.moments c.level_rest.new.mirror.b } in
    let keeps : KeepsLegs P Q old now = record {
      a_keeps = λ on s n st. g.met.A.Leg.any_count c.pass.new.leg on (after_request s (Read first count)) n (c.in-Ok.ensures.stands on s st);
      b_keeps = λ on s n st. g.met.B.Leg.any_count c.pass-2.new.leg on (after_request s (Read first count)) n (c.in-Ok-pass.ensures.stands on s st);
      a_quiet = λ on s st. c.in-Ok.ensures.moments on s st;
      b_quiet = λ on s st. c.in-Ok-pass.ensures.moments on s st;
    } in
    let within = c.alike_blocks-alike.ensures.within in
    let all : alike + left ≡ count = omega (arith, within, c.smaller-most.ensures.first, c.in-Ok.ensures.buffer.0) in
    let ours : (on : LegOn) (s : Session) → old.a_stands on s → HasBlocks on.format.tag (cells_now on.format.tag s.history) S first alike x =
    λ on s st. HasBlocks-fewer on.format.tag (cells_now on.format.tag s.history) S first c.in-Ok.ours.passed alike x
    (omega (arith, within, c.smaller-most.ensures.first)) (c.in-Ok.ensures.read on s st) in
    let theirs : (on : LegOn) (s : Session) → old.b_stands on s → HasBlocks on.format.tag (cells_now on.format.tag s.history) S first alike y =
    λ on s st. subst (λ (n : ℕ). HasBlocks on.format.tag (cells_now on.format.tag s.history) n first alike y) (sym c.requires.works.ready.size)
    (HasBlocks-fewer on.format.tag (cells_now on.format.tag s.history) (g.B.Leg.block_size c.args.mirror.now.b) first c.in-Ok-pass.theirs.passed alike y
    (omega (arith, within, c.smaller-most.ensures.second)) (c.in-Ok-pass.ensures.read on s st)) in
    let size = c.block_size-size.result in
    let same : AreAlike S alike x y =
    subst (λ (n : ℕ). AreAlike n alike x y) c.block_size-size.ensures
    (subst (λ (l : List ℕ). AreAlike size alike l y) c.as_slice.ensures
    (subst (λ (l : List ℕ). AreAlike size alike c.as_slice.result.now l) c.as_slice-2.ensures c.alike_blocks-alike.ensures.alike)) in
    let e = c.in-Err-level_rest.ensures in
    (AreLeft-alike P Q old now end S first count alike left x y keeps all ours theirs same
    (λ a b m legs. record { first = e.first_moments a b m legs; second = e.second_moments a b m legs }) a b m legs).second
